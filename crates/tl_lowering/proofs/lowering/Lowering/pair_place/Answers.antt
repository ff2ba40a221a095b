use Rattle.tl_lowering.specs.Entering.{before_of}
use Rattle.tl_lowering.specs.Sets.{without_node}
use Rattle.std.proofs.Common.{◌≡◌, ◌+◌, ◌∙◌, refl, ap, subst, arith, rules}
use Rattle.tl_lowering.specs.declared.scope.Meaning.TheVariants as M
use Rattle.tl_lowering.specs.Names.{names_of}
use Rattle.tl_lowering.specs.Registers.{HasRegisters}
use Rattle.tl_lowering.proofs.RegisterLemmas.{free_behind}
use Rattle.tl_lowering.proofs.EnterLemmas.{pair_enters}
use Rattle.tl_lowering.proofs.NumberLemmas.{new_beside, pair_locks}
use Rattle.tl_lowering.proofs.lowering.Lowering.pair_place.Goals as goal

pub returns-clause-named : goal.returns-clause-named
returns-clause-named c =
    let next : c.in_ok-register.register ≡ c.args.self.now.scope.nodes = omega (arith, c.in_ok-register.ensures.register) in
    let second : c.in_ok-second_register.second_register ≡ c.args.self.now.scope.nodes + 1 = omega (arith, c.in_ok-second_register.ensures.register) in
    let same : c.in_ok-node.field-0 ≡ c.in_ok-parent.parent = search rules in
    let free = free_behind c.in_ok-first_number.first_number _ _ _ c.in_ok-first_number.ensures.room c.from.ensures c.behind-free.ensures in
    pair_locks c.in_ok-check_new.ensures (new_beside (names_of c.args.self.now.scope) c.args.first.now.name c.args.second.now.name (search rules) c.in_ok-check_new-2.ensures) c.in_ok-second_register.ensures.room next second c.in_ok-parent.ensures.meaning (c.in_ok-node.ensures.meaning ∙ ap M.Node same) c.in_ok-first_number.ensures.named c.in_ok-first_number.ensures.room c.in_ok-second_number.ensures.named
    (subst (HasRegisters c.in_ok-second_number.second_number) free c.in_ok-second_number.ensures.room)

pub returns-clause-entering : goal.returns-clause-entering
returns-clause-entering c =
    let first = c.in_ok-register.register in
    let second = c.in_ok-second_register.second_register in
    pair_enters (before_of c.args.held) _ first second c.in_ok-parent.parent c.in_ok-first_number.first_number c.in_ok-second_number.second_number refl
    (c.with-2.ensures.entered ∙ c.with.ensures.entered ∙ c.visiting.ensures.entered)
    (c.with-2.ensures.passed ∙ ap (λ p. without_node p second) (c.with.ensures.passed ∙ ap (λ p. without_node p first) c.visiting.ensures.passed))
