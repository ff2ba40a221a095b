use Rattle.std.proofs.Common.{◌≡◌, ℕ, List, get_or, ap, subst, ◌∙◌, map, arith, rules}
use Rattle.std.proofs.lemmas.List.{take_all}
use Rattle.std.proofs.lemmas.List.Elements.{All-more}
use Rattle.serde_json.specs.View.{view}
use Rattle.serde_json.proofs.Views.{view-Array}
use Rattle.tl_tree.proofs.Items.{views_more}
use Rattle.tl_instr.specs.Codes.{CodeValue, IsCode}
use Rattle.tl_verify.specs.Acceptable.{Acceptable}
use Rattle.tl_procedures.specs.Names.{Named, no_procedure}
use Rattle.tl_json.specs.Lists.{list_data}
use Rattle.tl_json.specs.Procedures.{procedure_data}
use Rattle.tl_json.proofs.procedure.procedures_to_value.Goals as goal

abbrev named : List ℕ → CodeValue → Named
named name code = record { name = name; code = code }

pub loop-number-preserved : goal.loop-number-preserved
loop-number-preserved c =
    let procedures = c.args.procedures.now in
    let i = c.loop-number.number in
    let made = c.in_ok-value.ensures in
    let code : c.deref.result.now ≡ (get_or procedures i no_procedure).code = search rules in
    let one : named c.name.result.now c.deref.result.now ≡ get_or procedures i no_procedure =
    (λ j. record { name = c.name.ensures j; code = code j }) in (
      ap (map view) c.in_ok-push.ensures.items ∙ views_more procedure_data c.loop-number.items.items c.in_ok-value.value procedures i no_procedure (omega arith) c.loop-number.invariant.0 (made.value ∙ ap procedure_data one),
      All-more (λ p. IsCode p.code × Acceptable p.code.instrs) procedures i no_procedure (omega arith) c.loop-number.invariant.1 (subst IsCode code made.code, subst (λ k. Acceptable k.instrs) code made.accepted),
    )

pub returns-clause-value : goal.returns-clause-value
returns-clause-value c =
    view-Array c.loop-number.items ∙ ap list_data (c.loop-number.invariant.0 ∙ ap (map procedure_data) (take_all c.loop-number.number c.args.procedures.now (omega arith)))
