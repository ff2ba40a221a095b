use Rattle.std.proofs.Common.{◌+◌, ap, length, pos, arith, subst}
use Rattle.tl_lowering.specs.declared.program.Expression.TheVariants as E
use Rattle.tl_lowering.specs.declared.program.Statement.TheVariants as S
use Rattle.tl_lowering.specs.Names.{names_of}
use Rattle.tl_lowering.specs.Naming.{IsThen}
use Rattle.tl_lowering.specs.Reading.{AreLeft, breaks_with}
use Rattle.tl_lowering.proofs.MarkLemmas.{marked_lowered, marked_entering}
use Rattle.tl_lowering.proofs.PathLemmas.{ok_more}
use Rattle.tl_lowering.proofs.lowering.Lowering.break_with.Goals as goal

pub returns-clause-named : goal.returns-clause-named
returns-clause-named c = λ before all is.
    let way = subst (λ z. IsThen (S.Assign c.in_ok-finding.finding.flag (E.Constant (pos 1))) z c.in_ok-way.way) c.in_ok-out.ensures.named c.in_ok-way.ensures.named in
    ok_more c.left_with.result _ _ c.left_with.ensures.named
    (λ l h. breaks_with c.in_ok-finding.ensures.finding c.in_ok-finding.ensures.depth (omega (arith, ap length is, c.if-values-finding.false)) way (subst (λ z. AreLeft (names_of c.args.self.now.scope) c.in_ok-way.way (c.in_ok-finding.finding.flag + 1) z l.0) is h))

pub left_with-requires : goal.left_with-requires
left_with-requires c = record {
  at = c.requires;
  lowered = marked_lowered c.in_ok-check_in_use.ensures c.in_ok-way.ensures.named c.in_ok-out.ensures.lowered;
  entering = marked_entering c.in_ok-way.ensures.named c.in_ok-out.ensures.entering;
}
