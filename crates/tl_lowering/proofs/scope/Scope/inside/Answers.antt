use Rattle.std.proofs.Common.{◌≡◌, ◌∙◌, ap, arith}
use Rattle.std.specs.Prelude.{map}
use Rattle.std.proofs.lemmas.List.{take_all}
use Rattle.tl_lowering.specs.Names.{names_of, constant_only, field_before}
use Rattle.tl_lowering.proofs.ScopeLemmas.{inside_no_node, are_inside, inside_names}
use Rattle.tl_lowering.proofs.scope.Scope.inside.Goals as goal

pub returns-clause-in_use : goal.returns-clause-in_use
returns-clause-in_use c =
    let ms = c.args.self.now.meanings.items in
    are_inside c.args.part _ _ ms _ (c.loop-meaning.invariant ∙ ap (map (constant_only c.args.part)) (take_all c.loop-meaning.meaning-index ms (omega arith)))

pub returns-clause-nodes : goal.returns-clause-nodes
returns-clause-nodes c = λ i n.
    let ms = c.args.self.now.meanings.items in
    let all : c.loop-meaning.meanings.items ≡ map (constant_only c.args.part) ms = c.loop-meaning.invariant ∙ ap (map (constant_only c.args.part)) (take_all c.loop-meaning.meaning-index ms (omega arith)) in
    rw all (inside_no_node c.args.part n i ms)

pub returns-clause-named : goal.returns-clause-named
returns-clause-named c =
    let ms = c.args.self.now.meanings.items in
    let fs = c.args.self.now.fields.items in
    inside_names c.args.part (names_of c.args.self.now) _ _ _ (c.loop-meaning.invariant ∙ ap (map (constant_only c.args.part)) (take_all c.loop-meaning.meaning-index ms (omega arith)))
    (c.loop-field.invariant ∙ ap (map (field_before c.args.part)) (take_all c.loop-field.field-index fs (omega arith))) (c.in_ok-from_slice.ensures.items ∙ c.deref.ensures.value)
