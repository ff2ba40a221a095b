use Rattle.std.proofs.Common.{◌≡◌, None, refl, rules, w32, w64, ◌∙◌}
use mir.Val.{to_z, of_z}
use Rattle.std.proofs.lemmas.Result.{IfOk-weaker}
use Rattle.tl_syntax.specs.declared.parsed.Action.TheVariants as A
use Rattle.tl_syntax.specs.declared.parsed.Expression.{Expression}
use Rattle.tl_syntax.specs.declared.parsed.Form.TheVariants as F
use Rattle.tl_syntax.specs.declared.parsed.StatementForm.TheVariants as S
use Rattle.tl_syntax.specs.Statements.{AreTwo, IsTold}
use Rattle.tl_syntax.proofs.StatementLemmas.{told_two}
use Rattle.tl_syntax.proofs.parser.Parser.told.Goals as goal

pub returns : goal.returns
returns c =
    let short : to_z w32 (of_z w32 c.code.result) ≡ c.code.result = search rules in
    let long : to_z w64 (of_z w64 c.from.result) ≡ c.from.result = search rules in
    let e : Expression = record { offset = c.args.why.offset; form = F.Number (to_z w64 (of_z w64 c.from.result)) } in
    IfOk-weaker c.two.result (λ all. AreTwo c.args.why.offset (S.Act (A.Let c.args.why e) None) (S.Block c.args.body) all.items)
    (λ all. IsTold c.args.why c.args.failure c.args.body all.items) (λ all h. told_two {e = e} (long ∙ c.from.ensures ∙ short ∙ c.code.ensures) refl refl h) c.two.ensures
