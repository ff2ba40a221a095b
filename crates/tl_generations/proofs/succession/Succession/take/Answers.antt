use Rattle.std.proofs.Common.{◌≡◌, ◌∙◌, [], ◌∷◌, ◌++◌, sym, ap, subst}
use Rattle.tl_generations.specs.Generations.{LegacyValue, GenerationValue, TakesUpFirst, legacy_after, legacy_of}
use Rattle.tl_generations.proofs.Joined.{one_more, one_more_left, nothing_grown}
use Rattle.tl_generations.proofs.succession.Succession.take.Goals as goal

pub invariant_of-self : goal.invariant_of-self
invariant_of-self c =
    let first = c.self.inside.first in
    let last = c.self.inside.last in
    let chain = c.args.chain.now in
    let was = c.self.invariant in
    let taken : TakesUpFirst last chain = c.is_taken_up.ensures.0 c.if-not-is_taken_up.false in
    let next : GenerationValue = record { added = was.added; others = was.others; epochs = chain } in
    let left = one_more_left first was.tables next ∙ ap (λ (l : LegacyValue). legacy_after l chain) was.left ∙ sym (c.in_ok-last.ensures last taken) in
    record {
      tables = was.tables ++ next ∷ [];
      added = [];
      others = [];
      generations = one_more first was.tables next was.generations c.requires (subst (λ (l : LegacyValue). TakesUpFirst l chain) (sym was.left) taken);
      left = nothing_grown (legacy_of first (was.tables ++ next ∷ [])) ∙ left;
    }
