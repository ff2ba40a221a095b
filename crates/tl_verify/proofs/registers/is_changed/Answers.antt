use Rattle.std.proofs.Common.{◌≡◌, ◌+◌, ◌<◌, true, None, length, get_or, sym, ap, subst, ◌∙◌}
use Rattle.std.proofs.lemmas.List.{get_or_default}
use Rattle.tl_budget.specs.Nested.{place_at}
use Rattle.tl_verify.specs.Pass.{is_end}
use Rattle.tl_verify.proofs.MarksLemmas.{other_registers, where_open, where_spent}
use Rattle.tl_verify.proofs.registers.is_changed.Goals as goal

pub returns-then-ne : goal.returns-then-ne
returns-then-ne c =
    let ends : is_end c.args.instr.now ≡ true = let h = c.is_end.ensures in let g = c.if-not-is_end.false in cc in
    let at = c.from-start.ensures ∙ c.opening_of.ensures in
    let lt = subst (λ n. n + 1 < length c.args.states.now) (sym at) (c.requires.start ends) in
    let there = sym (ap (λ n. get_or c.args.states.now (n + 1) None) at) ∙ get_or_default c.args.states.now (c.from-start.result + 1) None _ lt ∙ c.in-Some.is in
    other_registers c.args.instr.now (get_or c.args.states.now ((place_at c.args.nest.now c.args.position).opening + 1) None) c.args.marks.now c.in-Some.earlier ends there c.ne.result c.ne.ensures c.if-ne.true

pub returns-then-earlier : goal.returns-then-earlier
returns-then-earlier c =
    let ends : is_end c.args.instr.now ≡ true = let h = c.is_end.ensures in let g = c.if-not-is_end.false in cc in
    let at = c.from-start.ensures ∙ c.opening_of.ensures in
    let lt = subst (λ n. n + 1 < length c.args.states.now) (sym at) (c.requires.start ends) in
    let there = sym (ap (λ n. get_or c.args.states.now (n + 1) None) at) ∙ get_or_default c.args.states.now (c.from-start.result + 1) None _ lt ∙ c.in-Some.is in
    where_open c.args.instr.now (get_or c.args.states.now ((place_at c.args.nest.now c.args.position).opening + 1) None) c.args.marks.now c.in-Some.earlier ends there c.ne.result c.ne.ensures c.if-ne.false c.if-earlier.true

pub returns-else-earlier : goal.returns-else-earlier
returns-else-earlier c =
    let ends : is_end c.args.instr.now ≡ true = let h = c.is_end.ensures in let g = c.if-not-is_end.false in cc in
    let at = c.from-start.ensures ∙ c.opening_of.ensures in
    let lt = subst (λ n. n + 1 < length c.args.states.now) (sym at) (c.requires.start ends) in
    let there = sym (ap (λ n. get_or c.args.states.now (n + 1) None) at) ∙ get_or_default c.args.states.now (c.from-start.result + 1) None _ lt ∙ c.in-Some.is in
    where_spent c.args.instr.now (get_or c.args.states.now ((place_at c.args.nest.now c.args.position).opening + 1) None) c.args.marks.now c.in-Some.earlier ends there c.ne.result c.ne.ensures c.if-ne.false c.if-earlier.false
