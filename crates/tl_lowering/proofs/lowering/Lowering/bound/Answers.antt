use Rattle.tl_lowering.specs.Entering.{before_of}
use Rattle.std.proofs.Common.{Some, ◌∙◌, ap₂}
use Rattle.tl_lowering.specs.Paths.{Paths, nodes_of}
use Rattle.tl_lowering.proofs.LeaveLemmas.{leaves_here}
use Rattle.tl_lowering.specs.Scopes.{view_of}
use Rattle.tl_lowering.proofs.EnterLemmas.{failing_as, value_else_entering, nodes_entering}
use Rattle.tl_lowering.proofs.LoweringLemmas.{refusal_ends}
use Rattle.tl_lowering.proofs.OpeningLemmas.{value_opens, value_else_opens, nodes_opens}
use Rattle.tl_lowering.proofs.lowering.Lowering.bound.Goals as goal

pub returns-in_ok-declare-in-Nodes-clause-binding : goal.returns-in_ok-declare-in-Nodes-clause-binding
returns-in_ok-declare-in-Nodes-clause-binding c =
    let head = rw c.in-Nodes.is at c.requires.head in
    let refusal = c.refused-statement.ensures.refusal (view_of c.args.self.now.scope) c.requires.otherwise in
    (head.lockable, head.next, refusal.lowered.sound, refusal_ends _ _ _ _ refusal)

pub returns-in_ok-declare-in-Nodes-clause-paths : goal.returns-in_ok-declare-in-Nodes-clause-paths
returns-in_ok-declare-in-Nodes-clause-paths c =
    let head = rw c.in-Nodes.is at c.requires.head in
    let refusal = c.refused-statement.ensures.refusal (view_of c.args.self.now.scope) c.requires.otherwise in
    c.going_on-flow.ensures.paths ∙ ap₂ (λ (p : Paths) h. record p { after = Some h }) refusal.lowered.paths head.inside

pub returns-in_default-clause-named : goal.returns-in_default-clause-named
returns-in_default-clause-named c = λ before readers form opening other.
    value_opens c.in_ok-declare_value-in-Value.ensures.named (rw c.in-Value.is at opening) (rw c.in-Value.is at (rw c.in_default.is at other))

pub returns-in-Some-clause-named : goal.returns-in-Some-clause-named
returns-in-Some-clause-named c = λ before readers form opening other.
    let refusal = rw c.in-Some.is at c.requires.otherwise in
    let leaves = leaves_here c.in-Some.statement (nodes_of c.args.held) (refusal_ends (view_of c.args.self.now.scope) c.args.held c.in-Some.statement c.in-Some.flow refusal) in
    value_else_opens c.in_ok-declare_value-in-Value.ensures.named leaves (rw c.in-Value.is at opening) (rw c.in-Value.is at (rw c.in-Some.is at other))

pub returns-in_ok-declare-in-Nodes-clause-named : goal.returns-in_ok-declare-in-Nodes-clause-named
returns-in_ok-declare-in-Nodes-clause-named c = λ before readers form opening other.
    let refusal = c.refused-statement.ensures.refusal (view_of c.args.self.now.scope) c.requires.otherwise in
    let leaves = leaves_here c.refused-statement.result.0 (nodes_of c.args.held) (refusal_ends (view_of c.args.self.now.scope) c.args.held c.refused-statement.result.0 c.refused-statement.result.1 refusal) in
    nodes_opens c.args.otherwise c.in_ok-declare-in-Nodes.ensures.named c.refused-statement.ensures.named leaves (rw c.in-Nodes.is at opening) (rw c.in-Nodes.is at other)

pub returns-in_default-clause-entering : goal.returns-in_default-clause-entering
returns-in_default-clause-entering c = record { once = tt; paths = failing_as c.may_fail.result (before_of c.args.held) c.may_fail.ensures c.on.ensures.entered c.failing_if-flow.ensures.entered }

pub returns-in-Some-clause-entering : goal.returns-in-Some-clause-entering
returns-in-Some-clause-entering c =
    let refusal = rw c.in-Some.is at c.requires.otherwise in
    value_else_entering (rw c.in-Some.is at c.requires.refused) refusal.ends c.going_on.ensures.entered

pub returns-in_ok-declare-in-Nodes-clause-entering : goal.returns-in_ok-declare-in-Nodes-clause-entering
returns-in_ok-declare-in-Nodes-clause-entering c =
    let refusal = c.refused-statement.ensures.refusal (view_of c.args.self.now.scope) c.requires.otherwise in
    nodes_entering c.in-Nodes.locking (rw c.in-Nodes.is at c.requires.entering) (c.refused-statement.ensures.entering c.requires.refused) refusal.ends c.going_on-flow.ensures.entered
