use Rattle.std.proofs.Common.{◌≡◌, ◌∙◌, ◌++◌, ◌+◌, List, [], ◌∷◌, take, suc, sym, subst, ap, arith}
use Rattle.std.specs.Prelude.{Contains}
use Rattle.std.proofs.Math.Seq.{take-suc}
use Rattle.std.proofs.lemmas.List.{take_all}
use Rattle.std.proofs.lemmas.List.Elements.{All-get_or}
use Rattle.tl_ledger.specs.declared.schema.TheConstants.{CALL}
use Rattle.tl_ledger.specs.declared.rows.CallRow.{CallRow}
use Rattle.tl_ledger.specs.News.{call_columns}
use Rattle.tl_store_commands.specs.Remembering.{HoldsOn, AreFound}
use Rattle.tl_store_commands.proofs.KeyedLemmas.{held_same, held_more, found_none, found_more}
use Rattle.tl_store_commands.proofs.remembering.remember_calls.Goals as goal

pub loop-number-init : goal.loop-number-init
loop-number-init c = (λ contents calls replies start all. all, held_same [] c.args.index.now, found_none c.args.replies.now c.args.index.now)

pub loop-number-preserved : goal.loop-number-preserved
loop-number-preserved c =
    let n = c.loop-number.number in
    let at = c.index-calls-number in
    let now = c.in_ok-remember_one.ensures in
    let before = c.loop-number.invariant in
    let calls = c.args.calls.now in
    let front : take (n + 1) calls ≡ take n calls ++ at.result ∷ [] =
    let next : n + 1 ≡ suc n = omega arith in
    ap (λ k. take k calls) next ∙ take-suc calls n at.result c.loop-number-test.true ∙ ap (λ x. take n calls ++ x ∷ []) (sym at.is) in (
      λ contents are replies start all.
          let P : CallRow → Type 0 = λ call. Contains (contents CALL) (call_columns call) in
          let is_call = subst P (sym at.is) (All-get_or P calls n at.result c.loop-number-test.true are) in
          now.stored contents is_call replies start (before.0 contents are replies start all),
      subst (λ (xs : List CallRow). HoldsOn xs c.args.index.now c.remember_one.new.index) (sym front)
          (held_more (take n calls) at.result c.args.index.now c.loop-number.index c.remember_one.new.index before.1 now.held),
      subst (λ (xs : List CallRow). AreFound xs c.args.replies.now c.remember_one.new.index) (sym front)
          (found_more (take n calls) at.result c.args.replies.now c.loop-number.index c.remember_one.new.index before.2 now.held now.here),
    )

pub returns-clause-held : goal.returns-clause-held
returns-clause-held c =
    let all = take_all c.loop-number.number c.args.calls.now c.loop-number-test.false in
    subst (λ (xs : List CallRow). HoldsOn xs c.args.index.now c.loop-number.index) all c.loop-number.invariant.1

pub returns-clause-here : goal.returns-clause-here
returns-clause-here c =
    let all = take_all c.loop-number.number c.args.calls.now c.loop-number-test.false in
    subst (λ (xs : List CallRow). AreFound xs c.args.replies.now c.loop-number.index) all c.loop-number.invariant.2
