use Rattle.std.proofs.Common.{◌≡◌, OnOk, refl, ap, ◌∙◌, subst, rules}
use Rattle.tl_lowering.specs.Outcomes.{fails, handled_by}
use Rattle.tl_lowering.specs.Sets.{all_of}
use Rattle.tl_compiler.specs.Contexts.{Writes, AreWays, code_of, way_of, guarded_code}
use Rattle.tl_compiler.specs.NodeSets.{nodes_of}
use Rattle.tl_compiler.specs.Statements.{pad_at, second_way}
use Rattle.tl_compiler.proofs.StatementLemmas.{ok_more, guarded_written, try_written}
use Rattle.tl_compiler.proofs.draft.Draft.+statements.Goals as goal

pub guarded-returns : goal.guarded-returns
guarded-returns t c =
    let held = nodes_of c.args.context.held in
    let handled = nodes_of c.args.handled in
    guarded_written c.args.body.now held handled c.args.ways c.padded.result c.args.context _ c.in_ok-is_padded.is_padded c.args.self.now _ c.first_way.new.self c.first_way.result c.first_way.ensures
    refl refl refl c.padded.ensures
    (λ pad leads. c.in_ok-is_padded.ensures (fails c.args.body.now held) c.outcomes_of.ensures.fails (pad_at handled c.args.ways.second.0 pad) (c.set.ensures pad leads))

pub statement-returns-in_ok-ways-in-Try : goal.statement-returns-in_ok-ways-in-Try
statement-returns-in_ok-ways-in-Try t c =
    let held = nodes_of c.args.context.held in
    let start = nodes_of c.handled-handled.result in
    let kept = nodes_of c.held_behind-kept-in-Try.result in
    let ways = c.in_ok-ways-in-Try.ways in
    let old = c.args.self.now in
    let half = c.second_way-in-Try.new.self in
    let body : c.deref-in-Try.result.now ≡ c.in-Try.body.value = search rules in
    let handler : c.deref-in-Try-2.result.now ≡ c.in-Try.handler.value = search rules in
    let again : c.deref-in-Try-3.result.now ≡ c.in-Try.body.value = search rules in
    ok_more c.guarded.result
    (try_written c.args.statement.now c.in-Try.body.value c.in-Try.handler.value held start kept c.args.context c.with_held-in-Try.result ways old half c.guarded.new.self
    (λ x k. rw c.in-Try.is refl)
    (c.handled-handled.ensures ∙ ap (handled_by held) (c.outcomes_of.ensures.failed ∙ ap (λ s. all_of (fails s held)) body))
    c.held_behind-kept-in-Try.ensures
    c.with_held-in-Try.ensures.same
    (λ x agrees.
    subst (λ h. AreWays ways (second_way (way_of c.in-Try.handler.value h x) kept (code_of old)) kept old half) (ap nodes_of c.with_held-in-Try.ensures.held)
    (subst (λ s. AreWays ways (second_way (way_of s (nodes_of c.with_held-in-Try.result.held) x) kept (code_of old)) kept old half) handler (c.in_ok-ways-in-Try.ensures x agrees))))
    (subst (λ s. OnOk c.guarded.result (Writes (guarded_code s held start ways) c.args.context half c.guarded.new.self)) again c.guarded.ensures)
