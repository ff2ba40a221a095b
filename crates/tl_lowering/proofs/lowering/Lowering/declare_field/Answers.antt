use mir.Val.{to_z, of_z}
use Rattle.std.proofs.Common.{◌≡◌, pos, w64, rules, arith, subst}
use Rattle.tl_lowering.specs.Names.{names_of}
use Rattle.tl_lowering.specs.Naming.{IsConstant}
use Rattle.tl_lowering.proofs.lowering.Lowering.declare_field.Goals as goal

pub returns-in-Some-clause-named : goal.returns-in-Some-clause-named
returns-in-Some-clause-named c =
    let number = c.in_ok-number.number in
    let same : to_z w64 (of_z w64 number) ≡ number = search rules in
    let is : number ≡ pos c.in-Some.field = rw same at c.in-Some.ensures in
    record {
      fresh = c.in_ok-check_new_field.ensures;
      field = c.in-Some.field;
      fits = omega arith;
      number_is = subst (IsConstant (names_of c.args.self.now.scope) c.args.expression.now.form) is c.in_ok-number.ensures;
      later_is = c.declare_field.ensures.named;
    }
