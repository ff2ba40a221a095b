use Rattle.std.proofs.Common.{sym, subst}
use Rattle.tl_syntax.specs.declared.parsed.Action.TheVariants as A
use Rattle.tl_syntax.specs.declared.parsed.Leave.TheVariants as L
use Rattle.tl_lowering.specs.Names.{names_of}
use Rattle.tl_lowering.specs.Naming.{IsAction, breaks, returns}
use Rattle.tl_lowering.specs.Reading.{plain, fails}
use Rattle.tl_lowering.proofs.MarkLemmas.{failure_lowered}
use Rattle.tl_lowering.proofs.PathLemmas.{ok_more, ok_both}
use Rattle.tl_lowering.proofs.lowering.Lowering.leave.Goals as goal

pub returns-in-Break-clause-named : goal.returns-in-Break-clause-named
returns-in-Break-clause-named c = λ before.
    rw c.in-Break.is (ok_both c.break_out.result _ _ _ c.break_out.ensures.named c.break_out.ensures.in_loop (λ l is around. plain {names = names_of c.args.self.now.scope} (subst (IsAction (names_of c.args.self.now.scope) (A.Leave L.Break)) (sym is) (breaks around))))

pub returns-in-Return-clause-named : goal.returns-in-Return-clause-named
returns-in-Return-clause-named c = λ before. rw c.in-Return.is (plain returns)

pub returns-in-Fail-clause-named : goal.returns-in-Fail-clause-named
returns-in-Fail-clause-named c = λ before. rw c.in-Fail.is (ok_more c.failure.result _ _ c.failure.ensures.named (λ l h. fails h))

pub returns-in-Fail-clause-lowered : goal.returns-in-Fail-clause-lowered
returns-in-Fail-clause-lowered c = ok_more c.failure.result _ _ c.failure.ensures.refusal (λ l h. failure_lowered h)
