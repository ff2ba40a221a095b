use Rattle.std.proofs.Common.{◌≡◌, ◌∙◌, ap, refl, arith}
use Rattle.sqlite_trees.specs.View.{IsClean}
use Rattle.tl_ledger.specs.declared.schema.TheConstants.{CALL, TURN, REPLY}
use Rattle.tl_store.proofs.StoredLemmas.{rest_read}
use Rattle.tl_store.proofs.stored.read_behind.Goals as goal

pub returns-clause-behind : goal.returns-clause-behind
returns-clause-behind g c = λ clean contents holds.
    let sealed = c.args.sealed.now in
    let old = (g.S.Store.view c.args.store.now).trees in
    let clean2 : IsClean (g.S.Store.view c.read_from-2.new.store) = omega (arith, clean, c.read_from-3.ensures.quiet.clean) in
    let clean1 : IsClean (g.S.Store.view c.read_from.new.store) = omega (arith, clean2, c.read_from-2.ensures.quiet.clean) in
    let same1 : (g.S.Store.view c.read_from.new.store).trees ≡ old = ap (λ v. v.trees) ((c.in_ok-read_from.ensures.reads clean1).same) in
    let same2 : (g.S.Store.view c.read_from-2.new.store).trees ≡ old = ap (λ v. v.trees) ((c.in_ok-read_from-2.ensures.reads clean2).same) ∙ same1 in record {
      calls = λ few. rest_read contents old old CALL sealed.calls _ (omega arith) holds refl few (c.in_ok-read_from.ensures.rows clean1);
      turns = λ few. rest_read contents (g.S.Store.view c.read_from.new.store).trees old TURN sealed.turns _ (omega arith) holds same1 few (c.in_ok-read_from-2.ensures.rows clean2);
      replies = λ few. rest_read contents (g.S.Store.view c.read_from-2.new.store).trees old REPLY sealed.replies _ (omega arith) holds same2 few (c.in_ok-read_from-3.ensures.rows clean);
    }
