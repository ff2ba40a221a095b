use Rattle.std.proofs.Common.{arith, refl}
use Rattle.tl_lowering.specs.Scopes.{view_of}
use Rattle.tl_lowering.proofs.PathLemmas.{ok_more, both_ok}
use Rattle.tl_lowering.proofs.WriteLemmas.{nothing_done, writes_more, computed_lowered, computed_entering}
use Rattle.tl_lowering.proofs.lowering.Lowering.several_writes.Goals as goal

pub computed-requires : goal.computed-requires
computed-requires c = record { at = c.requires; done = nothing_done c.args.self.now.scope.values (view_of c.args.self.now.scope) c.args.held }

pub all_computed-requires : goal.all_computed-requires
all_computed-requires c = record { at = c.requires; free = omega arith; few = omega (arith, c.in_ok-register.ensures.room); done = c.in_ok-register.ensures.done }

pub returns-clause-named : goal.returns-clause-named
returns-clause-named c = ok_more c.let_in.result _ _ c.let_in.ensures.named (λ l h. writes_more c.in_ok-register.ensures.register refl c.in_ok-register.ensures.named c.in_ok-body.ensures.named h)

pub returns-clause-lowered : goal.returns-clause-lowered
returns-clause-lowered c =
    let scope = view_of c.args.self.now.scope in
    both_ok c.let_in.result _ _ _ c.let_in.ensures.named c.let_in.ensures.flow
    (λ l h f. computed_lowered scope.values c.in_ok-register.register scope c.args.held c.in_ok-register.ensures.register h c.in_ok-register.ensures.readable (omega arith) c.in_ok-body.ensures.lowered f)

pub returns-clause-entering : goal.returns-clause-entering
returns-clause-entering c = both_ok c.let_in.result _ _ _ c.let_in.ensures.named c.let_in.ensures.entering (λ l h f. computed_entering h c.in_ok-body.ensures.entering f)
