use Rattle.std.proofs.Common.{rules, ◌≡◌, ◌≢◌, pos, take, length, sym, ap, ◌∙◌, subst, arith}
use Rattle.std.specs.Prelude.{All}
use Rattle.std.proofs.Math.Seq.{take-length}
use Rattle.tl_store.proofs.closing.has_reply.Goals as goal

pub returns-then-is_of-clause-found : goal.returns-then-is_of-clause-found
returns-then-is_of-clause-found c = λ same. (c.loop-row.row-index, c.row-item.result, omega arith, sym c.row-item.is, search rules)

pub returns-clause-missing : goal.returns-clause-missing
returns-clause-missing c = λ none.
    let ended : c.loop-row.row-index ≡ length c.args.rows.now = omega arith in
    let all : take c.loop-row.row-index c.args.rows.now ≡ c.args.rows.now = ap (λ i. take i c.args.rows.now) ended ∙ take-length c.args.rows.now in
    subst (All (λ r. r.call ≢ pos c.args.call)) all c.loop-row.invariant
