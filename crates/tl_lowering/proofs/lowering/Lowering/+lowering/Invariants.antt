use Rattle.std.proofs.Common.{◌≡◌, ◌+◌, ◌*◌, length, take, max}
use Rattle.std.specs.Prelude.{IfSome}
use Rattle.tl_lowering.specs.Blocks.{at_start}
use Rattle.tl_lowering.specs.Entering.{before_of, entered_of, EntersSoFar}
use Rattle.tl_lowering.specs.Lowering.{IsDraft, behind_draft}
use Rattle.tl_lowering.specs.Names.{names_of}
use Rattle.tl_lowering.specs.Paths.{nodes_of, paths_of}
use Rattle.tl_lowering.specs.Scopes.{view_of, IsAt, Extends}
use Rattle.tl_lowering.proofs.DepthLemmas.{weight}
use Rattle.tl_lowering.proofs.PartLemmas.{IsPart}
use Rattle.tl_syntax.proofs.parsed.StatementForm.TheLaws as form
use Rattle.tl_syntax.proofs.parsed.Statement.TheLaws as statement
use denote.Param.Weighed.{most}
use Rattle.tl_lowering.proofs.lowering.Lowering.+lowering.Given as goal

abbrev pub invariant-block-loop-statement : goal.invariant-block-loop-statement
invariant-block-loop-statement l =
    let old = l.initial.self.scope in
    let start = at_start old.values old.nodes (nodes_of l.held) in
    record {
      named : IsPart l.before l.readers (names_of old) (take l.statement-index l.statements) l.draft (names_of l.self.scope);
      entering : EntersSoFar (before_of l.held) l.draft (entered_of l.draft.flow);
      draft : IsDraft start l.draft (view_of l.self.scope);
      flow : paths_of l.draft.flow ≡ behind_draft start l.draft;
      at : IfSome l.draft.flow.after (IsAt (view_of l.self.scope));
      loops : l.self.scope.loops ≡ old.loops;
      extends : Extends (view_of old) (view_of l.self.scope);
    }

-- A block weighs what its statements do, and what all parts do that may be used in it.
abbrev pub decreases-block : goal.decreases-block
decreases-block l = 4 * most statement.the_size l.statements.now + 1 + weight l.before.now

abbrev pub decreases-handled : goal.decreases-handled
decreases-handled l = 4 * most statement.the_size l.handler.now + 2 + weight l.before.now

abbrev pub decreases-first_block : goal.decreases-first_block
decreases-first_block l = 4 * most statement.the_size l.body.now + 2 + weight l.before.now

abbrev pub decreases-turn : goal.decreases-turn
decreases-turn l = 4 * most statement.the_size l.body.now + 2 + weight l.before.now

abbrev pub decreases-turns : goal.decreases-turns
decreases-turns l = 4 * most statement.the_size l.body.now + 3 + weight l.before.now

abbrev pub decreases-extend : goal.decreases-extend
decreases-extend l = 4 * statement.the_size l.statement.now + weight l.before.now

abbrev pub decreases-statement : goal.decreases-statement
decreases-statement l = 4 * form.the_size l.form.now + 3 + weight l.before.now

abbrev pub decreases-refusal : goal.decreases-refusal
decreases-refusal l = 4 * form.the_size l.statement.now.form + 3 + weight l.before.now

abbrev pub decreases-acted : goal.decreases-acted
decreases-acted l = weight l.before.now + 2

abbrev pub decreases-used : goal.decreases-used
decreases-used l = weight l.before.now + 1

abbrev pub decreases-given : goal.decreases-given
decreases-given l = 4 * most statement.the_size l.using.body.now + length l.parameters.now + 2 + weight l.using.before.now

abbrev pub decreases-told : goal.decreases-told
decreases-told l = 4 * most statement.the_size l.body.now + 2 + weight l.before.now

abbrev pub decreases-heard : goal.decreases-heard
decreases-heard l = 4 * most statement.the_size l.handler.now + 3 + weight l.before.now

abbrev pub decreases-tried : goal.decreases-tried
decreases-tried l = 4 * max (most statement.the_size l.body.now) (most statement.the_size l.handler.now) + 4 + weight l.before.now

abbrev pub decreases-found : goal.decreases-found
decreases-found l = 4 * most statement.the_size l.block.now + 2 + weight l.before.now

abbrev pub decreases-searched : goal.decreases-searched
decreases-searched l = 4 * max (most statement.the_size l.search.0.now) (max (most statement.the_size l.search.2.now) (most statement.the_size l.search.3.now)) + 3 + weight l.before.now

abbrev pub decreases-search : goal.decreases-search
decreases-search l = 4 * max (most statement.the_size l.search.0.now) (max (most statement.the_size l.search.2.now) (most statement.the_size l.search.3.now)) + 4 + weight l.before.now

abbrev pub decreases-choice : goal.decreases-choice
decreases-choice l = 4 * max (most statement.the_size l.body.now) (most statement.the_size l.otherwise.now) + 3 + weight l.before.now
