use Rattle.std.proofs.Common.{◌≡◌, length, sym, subst}
use Rattle.std.specs.List.{All}
use Rattle.tl_table.specs.Epochs.{EpochValue, seen}
use Rattle.tl_generations.specs.Generations.{TakesUpFirst}
use Rattle.tl_commands.proofs.BasisLemmas.{all_same, as_many}
use Rattle.tl_commands.proofs.running.runs_on.Goals as goal

pub returns-then-is_taken_up : goal.returns-then-is_taken_up
returns-then-is_taken_up c =
    let l = c.args.begun.now in
    let es = c.args.chain.now in
    let first : TakesUpFirst l es = c.is_taken_up.ensures.0 c.if-is_taken_up.true in (
      (λ many. all_same l es c.requires.chain first (subst (λ n. All (λ (e : EpochValue). length (seen e).procedures ≡ n) es) c.requires.count (c.have_as_many.ensures.0 many))),
      λ on. c.have_as_many.ensures.1 (subst (λ n. All (λ (e : EpochValue). length (seen e).procedures ≡ n) es) (sym c.requires.count) (as_many l es on)),
    )
