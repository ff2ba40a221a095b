use Rattle.std.proofs.Common.{vec_len}
use Rattle.tl_lowering.specs.Blocks.{Standing, AreFree}
use Rattle.tl_lowering.specs.Lowering.{IsDraft, behind_draft}
use Rattle.tl_lowering.specs.Scopes.{View, is_in_loop}
use Rattle.tl_lowering.specs.Sets.{Nodes}
use Rattle.tl_lowering.proofs.JoinLemmas.{IsEnding}
use Rattle.tl_lowering.proofs.DraftLemmas.{IsClosed}
use Rattle.tl_lowering.proofs.lowering.Lowering.finished.Given as goal

abbrev pub invariant-loop-last : goal.invariant-loop-last
invariant-loop-last l = record {
  named : IsEnding l.fn.draft l.opened.items l.whole;
  order :
      (start : Standing) (scope : View) (outer : Nodes) → IsDraft start l.fn.draft scope → AreFree start.nodes outer
      → IsClosed start outer (is_in_loop scope) (behind_draft start l.fn.draft) l.opened.items l.whole;
}

abbrev pub decreases-loop-last : goal.decreases-loop-last
decreases-loop-last l = vec_len l.opened
