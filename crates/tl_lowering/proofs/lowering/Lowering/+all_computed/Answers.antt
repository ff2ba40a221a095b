use Rattle.std.proofs.Common.{length, ap, arith}
use Rattle.tl_lowering.specs.Scopes.{view_of}
use Rattle.tl_lowering.proofs.PathLemmas.{ok_more, both_ok}
use Rattle.tl_lowering.proofs.WriteLemmas.{nothing_more, all_done, all_entered, writes_more, computed_lowered, computed_entering}
use Rattle.tl_lowering.proofs.lowering.Lowering.+all_computed.Goals as goal

pub returns-in_default : goal.returns-in_default
returns-in_default t c = record {
  named = nothing_more c.in_default.ensures.cases;
  lowered = all_done c.requires.done c.on.ensures.paths;
  entering = all_entered c.requires.done c.on.ensures.entered;
}

pub returns-clause-named : goal.returns-clause-named
returns-clause-named t c =
    ok_more c.let_in.result _ _ c.let_in.ensures.named (λ l h. writes_more c.in_ok-register.ensures.register c.in-Some.ensures.cases.0 c.in_ok-register.ensures.named c.in_ok-body.ensures.named h)

pub all_computed-requires : goal.all_computed-requires
all_computed-requires t c =
    let shorter = ap length c.in-Some.ensures.cases.0 in
    (omega (arith, shorter, c.decreases), (c.requires.at, (omega (arith, c.requires.free), (omega (arith, c.in_ok-register.ensures.room), c.in_ok-register.ensures.done))))

pub returns-clause-lowered : goal.returns-clause-lowered
returns-clause-lowered t c =
    both_ok c.let_in.result _ _ _ c.let_in.ensures.named c.let_in.ensures.flow
    (λ l h f. computed_lowered c.args.free c.in_ok-register.register (view_of c.args.self.now.scope) c.args.held c.in_ok-register.ensures.register h c.in_ok-register.ensures.readable c.requires.free c.in_ok-body.ensures.lowered f)

pub returns-clause-entering : goal.returns-clause-entering
returns-clause-entering t c = both_ok c.let_in.result _ _ _ c.let_in.ensures.named c.let_in.ensures.entering (λ l h f. computed_entering h c.in_ok-body.ensures.entering f)
