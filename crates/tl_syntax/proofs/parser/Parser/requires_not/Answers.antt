use Rattle.std.proofs.Common.{◌≡◌, refl, ap, rules, w32, w64, ◌∙◌}
use mir.Val.{to_z, of_z}
use Rattle.tl_syntax.specs.declared.parsed.Form.TheVariants as F
use Rattle.tl_syntax.specs.Statements.{requires_not}
use Rattle.tl_syntax.proofs.parser.Parser.requires_not.Goals as goal

pub returns : goal.returns
returns c =
    let short : to_z w32 (of_z w32 c.code.result) ≡ c.code.result = search rules in
    let long : to_z w64 (of_z w64 c.from.result) ≡ c.from.result = search rules in
    requires_not {a = c.in_ok-boxed.boxed} (rw c.in_ok-boxed.ensures.ok c.in_ok-condition.ensures) c.in_ok-_behind.ensures refl refl
    (ap F.Number (long ∙ c.from.ensures ∙ short ∙ c.code.ensures)) refl
