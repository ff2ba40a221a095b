use Rattle.std.proofs.Common.{◌≡◌, ◌+◌, ◌<◌, length, Some, None, [], refl, sym, ap, ap₂, ◌∙◌, subst, arith, rules}
use Rattle.std.specs.Prelude.{nat_lt, IfSome, IfOk}
use Rattle.tl_lowering.specs.declared.lowering.Draft.{Draft}
use Rattle.tl_lowering.specs.declared.lowering.Opened.{Opened}
use Rattle.tl_lowering.specs.declared.paths.Flow.{Flow}
use Rattle.tl_lowering.specs.declared.scope.Scope.{Scope}
use Rattle.tl_budget.specs.declared.limits.TheConstants.{MAX_DEPTH}
use Rattle.tl_lowering.specs.Blocks.{AreFree, Standing, at_start}
use Rattle.tl_lowering.specs.Lowering.{IsDraft, behind_draft}
use Rattle.tl_lowering.specs.Paths.{Paths, nodes_of, known, paths_of}
use Rattle.tl_lowering.specs.Repeating.{IsRepetition}
use Rattle.tl_lowering.specs.Scopes.{View, view_of, IsAt, IsLowered}
use Rattle.tl_lowering.specs.Sound.{IsWellFormed}
use Rattle.tl_lowering.proofs.DescendLemmas.{turns_begin, same_turn}
use Rattle.tl_lowering.proofs.PutLemmas.{turn_is_no_walk}
use Rattle.tl_lowering.proofs.BodyLemmas.{on_ok, then_flow, same_draft, same_behind, back, loop_back, at_as, at_known, same_repetition, is_turn, turn_in}
use Rattle.tl_lowering.proofs.DepthLemmas.{weight, falls_in_else, falls_in_repeat, falls_in_tried, falls_in_if, falls_in_visit, falls_in_block, falls_in_search, falls_in_part}
use Rattle.tl_lowering.proofs.DraftLemmas.{none_read, none_behind, extended_paths, extended_draft, opened_paths, opened_draft, block_lowered}
use Rattle.tl_lowering.proofs.LoweringLemmas.{at_exactly, at_behind, at_handler, extends_self, extends_same}
use Rattle.std.proofs.lemmas.List.{take_all}
use Rattle.tl_lowering.specs.Entering.{before_of, before_body, entered_at, entered_of, EntersSoFar}
use Rattle.tl_lowering.specs.Passing.{or_of, KeepsOut}
use Rattle.tl_lowering.proofs.EnterLemmas.{none_entered, then_entered, plain_entered, opened_entered, tried_entering, entering_as, finished_entering}
use Rattle.tl_lowering.specs.Failing.{reading}
use Rattle.tl_lowering.specs.Names.{Names, IsNew, names_in, names_of, inside, with_unnamed, with_room, with_variables, AreFound}
use Rattle.tl_lowering.specs.declared.readers.Finding.{Finding}
use Rattle.std.specs.Prelude.{option_map}
use Rattle.tl_syntax.specs.declared.parsed.Expression.{Expression as TextExpression}
use Rattle.tl_syntax.specs.declared.parsed.StatementForm.TheVariants as T
use Rattle.tl_lowering.specs.Choosing.{IsTurnBody, IsRepeated, IsSearched}
use Rattle.tl_lowering.proofs.AlikeBlocks.{turn_once}
use Rattle.tl_lowering.specs.Drafts.{no_else, one_else, IsHandled}
use Rattle.tl_lowering.specs.Reading.{IsBlock, AreNothing, act, plain as by_itself, requires, fails_with, block_alone}
use Rattle.tl_lowering.proofs.PathLemmas.{ok_more, both_ok}
use Rattle.tl_lowering.proofs.PartLemmas.{none_part, more_part, whole_part, plain_extended, opened_extended, opens_at, tried_statement, handled_statement, chosen_statement, repeated_statement, visited_statement, forms_of, loop_at, block_at, used_action, plain_left, told_statement, heard_of, missing_named, searched_statement}
use Rattle.tl_lowering.proofs.FoundLemmas.{pair_lowered, pair_entering}
use Rattle.tl_lowering.proofs.MarkLemmas.{failure_lowered}
use Rattle.tl_lowering.proofs.GivenLemmas.{lowered_there, lowered_as, lowered_in_loops, given_none, given_node, given_variable, given_value, given_at, same_before, turn_as}
use Rattle.tl_lowering.proofs.WriteLemmas.{computed_lowered, computed_entering}
use Rattle.tl_lowering.proofs.lowering.Lowering.+lowering.Goals as goal

pub block-loop-statement-init : goal.block-loop-statement-init
block-loop-statement-init t c =
    let scope : View = view_of c.args.self.now.scope in
    let draft : Draft = record { opened = c.new.result; statements = c.new-2.result; flow = c.on.result } in
    record {
      named = none_part c.args.before.now c.args.readers.now (names_of c.args.self.now.scope) draft c.new.ensures.items c.new-2.ensures.items;
      draft = none_read scope c.args.held draft c.new.ensures.items c.new-2.ensures.items;
      entering = none_entered (before_of c.args.held) draft (entered_of draft.flow) c.new.ensures.items c.new-2.ensures.items c.on.ensures.entered;
      flow = c.on.ensures.paths ∙ sym (none_behind scope c.args.held draft c.new.ensures.items c.new-2.ensures.items);
      at = at_exactly scope (nodes_of c.args.held) c.on.result.after c.requires.names c.requires.nodes (ap (λ (p : Paths). p.after) c.on.ensures.paths);
      loops = refl;
      extends = extends_self scope;
    }

pub block-loop-statement-preserved : goal.block-loop-statement-preserved
block-loop-statement-preserved t c =
    let start : Standing = at_start c.args.self.now.scope.values c.args.self.now.scope.nodes (nodes_of c.args.held) in
    let so_far = c.loop-statement.invariant in
    let old : Draft = c.loop-statement.draft in
    let made : Draft = c.extend.new.draft in
    let draft : Draft = record { opened = made.opened; statements = made.statements; flow = c.then-draft.result } in
    let later : View = view_of c.extend.new.self.scope in
    let more = c.in_ok-flow.ensures in
    let here : known old.flow.after ≡ Some (nodes_of c.in-Some.held_here) = ap known c.in-Some.is in
    let after : entered_at old.flow.after ≡ Some (before_of c.in-Some.held_here) = ap entered_at c.in-Some.is in
    let behind : (behind_draft start old).after ≡ Some (nodes_of c.in-Some.held_here) = sym (ap (λ (p : Paths). p.after) so_far.flow) ∙ here in
    record {
      named =
          more_part draft c.in_ok-flow.flow c.in-Some.held_here c.args.statements.now c.loop-statement.statement-index c.statement-item.result (omega arith) c.statement-item.is
          c.in-Some.is (ap (λ (p : Paths). p.after) c.then-draft.ensures.paths) so_far.named more.named;
      draft = same_draft start made draft later refl refl (more.draft start so_far.draft behind);
      entering =
          subst (EntersSoFar (before_of c.args.held) draft)
          (then_entered (entered_of old.flow) (entered_of c.then-draft.result) (entered_of c.in_ok-flow.flow) (before_of c.in-Some.held_here) after
          (c.then-draft.ensures.entered
          ∙ ap (λ (f : Flow). record { after = entered_at c.in_ok-flow.flow.after; fails = or_of (entered_at f.fails) (entered_at c.in_ok-flow.flow.fails); breaks = or_of (entered_at f.breaks) (entered_at c.in_ok-flow.flow.breaks) })
          more.flow))
          (let so_far = more.entering (before_of c.args.held) (entered_of old.flow) after so_far.entering in record { once = λ items all b. so_far.once items all b; paths = λ items all b. so_far.paths items all b });
      flow =
          then_flow (behind_draft start old) (nodes_of c.in-Some.held_here) made.flow c.in_ok-flow.flow c.then-draft.result
          (ap paths_of more.flow ∙ so_far.flow) (ap (λ (f : Flow). known f.after) more.flow ∙ here) c.then-draft.ensures.paths
          ∙ sym (more.paths start behind) ∙ sym (same_behind start made draft refl refl);
      at = at_known later c.in_ok-flow.flow.after c.then-draft.result.after (ap (λ (p : Paths). p.after) c.then-draft.ensures.paths) more.at;
      loops = more.loops ∙ so_far.loops;
      extends = more.extends (view_of c.args.self.now.scope) so_far.extends;
    }

pub block-returns-clause-lowered : goal.block-returns-clause-lowered
block-returns-clause-lowered t c =
    let scope : View = view_of c.args.self.now.scope in
    let inner : View = view_of c.loop-statement.self.scope in
    let start : Standing = at_start scope.values scope.nodes (nodes_of c.args.held) in
    let so_far = c.loop-statement.invariant in
    let whole = c.in_ok-finished.ensures.order start inner (nodes_of c.args.held) so_far.draft c.requires.nodes in
    block_lowered scope c.args.held c.in_ok-finished.field-0 c.loop-statement.draft.flow c.keeping-flow.result (behind_draft start c.loop-statement.draft)
    whole.0 (subst (λ n. IsWellFormed c.in_ok-finished.field-0 scope.values scope.nodes (nodes_of c.args.held) (nat_lt 0 n)) so_far.loops whole.1) so_far.flow c.keeping-flow.ensures.paths

pub block-returns-clause-entering : goal.block-returns-clause-entering
block-returns-clause-entering t c = finished_entering c.loop-statement.invariant.entering c.in_ok-finished.ensures.named c.keeping-flow.ensures.entered

pub extend-returns-in_default-clause-entering : goal.extend-returns-in_default-clause-entering
extend-returns-in_default-clause-entering t c = λ e x a so_far.
    let draft : Draft = record { opened = c.args.draft.now.opened; statements = c.push.new.self; flow = c.args.draft.now.flow } in
    let marked = c.in_ok-marked.ensures.entering (before_of c.args.held) c.in_ok-lowered.flow c.in_ok-lowered.ensures.entering in
    plain_entered e (before_of c.args.held) c.args.draft.now draft x a so_far marked c.in_ok-at.ensures.named refl c.in_ok-push.ensures.items

pub extend-returns-clause-entering : goal.extend-returns-clause-entering
extend-returns-clause-entering t c = λ e x a so_far.
    let draft : Draft = record { opened = c.push-2.new.self; statements = c.replace-earlier.new.dest; flow = c.args.draft.now.flow } in
    let opened : Opened = record { binding = c.in_ok-binding.binding; offset = c.args.statement.now.offset; earlier = c.replace-earlier.result } in
    let earlier : c.replace-earlier.result.items ≡ c.args.draft.now.statements.items = search rules in
    let none : c.replace-earlier.new.dest.items ≡ [] = search rules in
    opened_entered e (before_of c.args.held) c.args.draft.now draft x opened c.in_ok-binding.flow a so_far c.in_ok-binding.ensures.entering earlier c.in_ok-push-2.ensures.items none

pub extend-returns-in_default-clause-draft : goal.extend-returns-in_default-clause-draft
extend-returns-in_default-clause-draft t c = λ start d e.
    let draft : Draft = record { opened = c.args.draft.now.opened; statements = c.push.new.self; flow = c.args.draft.now.flow } in
    let flow = c.in_ok-lowered.flow in
    let same = c.in_ok-lowered.ensures.scope in
    extended_draft start c.args.draft.now draft (view_of c.args.self.now.scope) (view_of c.statement.new.self.scope) c.args.held
    c.in_ok-marked.marked c.in_ok-at.field-0 flow d e c.in_ok-at.ensures.same (lowered_there same (c.in_ok-marked.ensures.lowered c.args.held flow (lowered_there (sym same) c.in_ok-lowered.ensures.lowered))) same refl c.in_ok-push.ensures.items

pub extend-returns-in_default-clause-paths : goal.extend-returns-in_default-clause-paths
extend-returns-in_default-clause-paths t c = λ start e.
    let draft : Draft = record { opened = c.args.draft.now.opened; statements = c.push.new.self; flow = c.args.draft.now.flow } in
    let flow = c.in_ok-lowered.flow in
    let same = c.in_ok-lowered.ensures.scope in
    extended_paths start c.args.draft.now draft (view_of c.args.self.now.scope) (view_of c.statement.new.self.scope) c.args.held
    c.in_ok-marked.marked c.in_ok-at.field-0 flow e c.in_ok-at.ensures.same (lowered_there same (c.in_ok-marked.ensures.lowered c.args.held flow (lowered_there (sym same) c.in_ok-lowered.ensures.lowered))) refl c.in_ok-push.ensures.items

pub extend-returns-in_default-clause-at : goal.extend-returns-in_default-clause-at
extend-returns-in_default-clause-at t c =
    subst (λ v. IfSome c.in_ok-lowered.flow.after (IsAt v)) (sym c.in_ok-lowered.ensures.scope)
    (at_behind (view_of c.args.self.now.scope) c.args.held c.in_ok-lowered.lowered c.in_ok-lowered.flow c.requires c.in_ok-lowered.ensures.lowered)

pub extend-returns-clause-draft : goal.extend-returns-clause-draft
extend-returns-clause-draft t c = λ start d e.
    let draft : Draft = record { opened = c.push-2.new.self; statements = c.replace-earlier.new.dest; flow = c.args.draft.now.flow } in
    let opened : Opened = record { binding = c.in_ok-binding.binding; offset = c.args.statement.now.offset; earlier = c.replace-earlier.result } in
    let here : View = view_of c.refusal.new.self.scope in
    let earlier : c.replace-earlier.result.items ≡ c.args.draft.now.statements.items = search rules in
    let none : c.replace-earlier.new.dest.items ≡ [] = search rules in
    let b = c.in_ok-binding.ensures in
    opened_draft start c.args.draft.now draft here (view_of c.bound.new.self.scope) c.args.held
    opened (subst (IsDraft start c.args.draft.now) (sym c.in_ok-otherwise.ensures.scope) d) e b.binding earlier c.in_ok-push-2.ensures.items none b.values b.nodes b.loops

pub extend-returns-clause-paths : goal.extend-returns-clause-paths
extend-returns-clause-paths t c = λ start e.
    let draft : Draft = record { opened = c.push-2.new.self; statements = c.replace-earlier.new.dest; flow = c.args.draft.now.flow } in
    let opened : Opened = record { binding = c.in_ok-binding.binding; offset = c.args.statement.now.offset; earlier = c.replace-earlier.result } in
    let earlier : c.replace-earlier.result.items ≡ c.args.draft.now.statements.items = search rules in
    let none : c.replace-earlier.new.dest.items ≡ [] = search rules in
    opened_paths start c.args.draft.now draft (view_of c.refusal.new.self.scope) (view_of c.bound.new.self.scope) c.args.held
    opened c.in_ok-binding.flow e c.in_ok-binding.ensures.paths earlier c.in_ok-push-2.ensures.items none

pub first_block-returns-clause-scope : goal.first_block-returns-clause-scope
first_block-returns-clause-scope t c =
    let mark = c.mark-mark.ensures in
    let left = c.return_to.ensures in
    let same = c.in_ok-first.ensures.scope in
    back (view_of c.args.self.now.scope) (view_of c.enter.new.self.scope) (view_of c.block.new.self.scope) (view_of c.return_to.new.self) c.mark-mark.result.local
    c.in_ok-inside.ensures.extends same mark.local left.meanings left.fields left.procedures left.local (left.values ∙ mark.values) (left.nodes ∙ mark.nodes)
    (left.loops ∙ ap (λ (v : View). v.loops) same ∙ c.in_ok-inside.ensures.loops)

pub handled-block-requires : goal.handled-block-requires
handled-block-requires t c =
    (search rules, at_handler (view_of c.args.self.now.scope) c.args.held c.handled.result (known c.args.lowered.1.fails) c.requires.at c.handled.ensures.nodes)

pub statement-handled-requires : goal.statement-handled-requires
statement-handled-requires t c =
    let acted = c.in_ok-lowered-in-Some in
    let same = sym acted.ensures.scope in
    let form : c.args.form.now ≡ T.Act c.in-Act.action (Some c.in-Some.otherwise) = c.in-Act.is ∙ ap (T.Act c.in-Act.action) c.in-Some.is in (
      falls_in_else t 2 (weight c.args.before.now) c.args.form.now c.in-Act.action c.in-Some.otherwise c.deref.result.now c.decreases c.deref.ensures.value (omega arith) form,
      (subst (λ v. IsAt v c.args.held) same c.requires, (subst (λ v. IsLowered v c.args.held acted.lowered.0 acted.lowered.1) same acted.ensures.lowered, acted.ensures.entering)),
    )

pub statement-turns-requires : goal.statement-turns-requires
statement-turns-requires t c =
    let r = c.in-Repeat in (
      falls_in_repeat t 3 (weight c.args.before.now) c.args.form.now r.turns r.at_most r.body c.deref-in-Repeat.result.now c.decreases c.deref-in-Repeat.ensures.value (omega arith) r.is,
      (c.requires, (c.in_ok-repetition-in-Repeat.ensures.repetition, (c.in_ok-repetition-in-Repeat.ensures.depth, c.in_ok-repetition-in-Repeat.ensures.fresh))),
    )

pub refusal-block-requires : goal.refusal-block-requires
refusal-block-requires t c =
    let form : c.args.statement.now.form ≡ T.Act c.in-Act.field-0 (Some c.in-Some.otherwise) = c.in-Act.is ∙ ap (T.Act c.in-Act.field-0) c.in-Some.is in
    (falls_in_else t 1 (weight c.args.before.now) c.args.statement.now.form c.in-Act.field-0 c.in-Some.otherwise c.deref.result.now c.decreases c.deref.ensures.value (omega arith) form, c.requires)

pub statement-tried-requires : goal.statement-tried-requires
statement-tried-requires t c =
    let r = c.in-Try in
    (falls_in_tried t (weight c.args.before.now) c.args.form.now r.why r.body r.handler c.deref-in-Try.result.now c.deref-in-Try-2.result.now c.decreases c.deref-in-Try.ensures.value c.deref-in-Try-2.ensures.value r.is, c.requires)

pub statement-returns-in-Try-clause-named : goal.statement-returns-in-Try-clause-named
statement-returns-in-Try-clause-named t c =
    rw c.in-Try.is (ok_more c.tried.result _ _ c.tried.ensures.named (λ l h plain. h c.in-Try.body c.in-Try.handler c.deref-in-Try.ensures.value c.deref-in-Try-2.ensures.value))

pub tried-block-requires : goal.tried-block-requires
tried-block-requires t c = (omega (arith, c.decreases), c.requires)

pub tried-handled-requires : goal.tried-handled-requires
tried-handled-requires t c =
    let lowered = c.in_ok-lowered.lowered in
    let same = sym c.in_ok-lowered.ensures.scope in
    (omega (arith, c.decreases), (subst (λ v. IsAt v c.args.held) same c.requires, (subst (λ v. IsLowered v c.args.held lowered.0 lowered.1) same c.in_ok-lowered.ensures.lowered, c.in_ok-lowered.ensures.entering)))

pub tried-told-requires : goal.tried-told-requires
tried-told-requires t c = (omega (arith, c.decreases), c.requires)

pub tried-heard-requires : goal.tried-heard-requires
tried-heard-requires t c =
    let told = c.in_ok-register in
    let there = sym told.ensures.scope in (
      omega (arith, c.decreases),
      (
        subst (λ v. IsAt v c.args.held) there c.requires,
        (
          subst (λ v. IsNew (names_in v) c.in-Some.why) there told.ensures.fresh,
          (
            told.ensures.register ∙ ap (λ (v : View). v.values) there,
            (subst (λ (v : View). IsLowered (record v { values = v.values + 1 }) c.args.held told.lowered.0 told.lowered.1) there told.ensures.lowered, told.ensures.entering),
          ),
        ),
      ),
    )

pub told-block-requires : goal.told-block-requires
told-block-requires t c =
    let more = c.add_value.ensures in
    (omega (arith, c.decreases), record { names = more.in_use c.requires.names; nodes = subst (λ m. AreFree m (nodes_of c.args.held)) (sym more.nodes) c.requires.nodes })

pub told-returns-clause-scope : goal.told-returns-clause-scope
told-returns-clause-scope t c =
    let old : View = view_of c.args.self.now.scope in
    let mark = c.mark-mark.ensures in
    let left = c.return_to.ensures in
    let more = c.add_value.ensures in
    let same = c.in_ok-lowered.ensures.scope in
    back old (view_of c.add_value.new.self) (view_of c.block.new.self.scope) (view_of c.return_to.new.self) c.mark-mark.result.local
    (λ outer e. extends_same outer old (view_of c.add_value.new.self) e more.meanings more.local more.fields more.procedures) same mark.local left.meanings left.fields left.procedures left.local (left.values ∙ mark.values)
    (left.nodes ∙ mark.nodes) (left.loops ∙ ap (λ (v : View). v.loops) same ∙ more.loops)

pub told-returns-clause-named : goal.told-returns-clause-named
told-returns-clause-named t c =
    let block = rw c.reading-reading.ensures at (rw c.add_value.ensures.named at c.in_ok-lowered.ensures.named) in
    subst (λ r. IsBlock c.args.before.now (reading c.args.readers.now r) (with_unnamed (names_of c.args.self.now.scope)) c.args.body.now c.in_ok-lowered.lowered.0) c.in_ok-register.ensures.register block

pub told-returns-clause-lowered : goal.told-returns-clause-lowered
told-returns-clause-lowered t c =
    let scope : View = view_of c.args.self.now.scope in
    let more = c.add_value.ensures in
    lowered_as (view_of c.add_value.new.self) (record scope { values = scope.values + 1 }) c.args.held more.values more.nodes more.loops c.in_ok-lowered.ensures.lowered

pub heard-handled-requires : goal.heard-handled-requires
heard-handled-requires t c =
    let scope : View = view_of c.args.self.now.scope in
    let more = c.in_ok-declare_value.ensures in (
      omega (arith, c.decreases),
      (
        record { names = more.in_use c.requires.at.names; nodes = subst (λ m. AreFree m (nodes_of c.args.held)) (sym more.nodes) c.requires.at.nodes },
        (lowered_as (record scope { values = scope.values + 1 }) (view_of c.declare_value.new.self) c.args.held (sym more.values) (sym more.nodes) (sym more.loops) c.requires.lowered, c.requires.entering),
      ),
    )

pub heard-returns-clause-scope : goal.heard-returns-clause-scope
heard-returns-clause-scope t c =
    let old : View = view_of c.args.self.now.scope in
    let mark = c.mark-mark.ensures in
    let left = c.return_to.ensures in
    let more = c.in_ok-declare_value.ensures in
    let same = c.in_ok-tried.ensures.scope in
    on_ok c.let_in.result _
    (back old (view_of c.declare_value.new.self) (view_of c.handled.new.self.scope) (view_of c.return_to.new.self) c.mark-mark.result.local
    (λ outer e. more.names outer c.requires.fresh e) same mark.local left.meanings left.fields left.procedures left.local (left.values ∙ mark.values)
    (left.nodes ∙ mark.nodes) (left.loops ∙ ap (λ (v : View). v.loops) same ∙ more.loops))

pub heard-returns-clause-named : goal.heard-returns-clause-named
heard-returns-clause-named t c =
    let tried = c.in_ok-tried in
    ok_more c.let_in.result _ _ c.let_in.ensures.named (λ l h. heard_of c.requires.register c.in_ok-declare_value.ensures.named tried.ensures.named h)

pub heard-returns-clause-lowered : goal.heard-returns-clause-lowered
heard-returns-clause-lowered t c =
    let scope : View = view_of c.args.self.now.scope in
    let more = c.in_ok-declare_value.ensures in
    let body = lowered_as (view_of c.declare_value.new.self) (record scope { values = scope.values + 1 }) c.args.held more.values more.nodes more.loops c.in_ok-tried.ensures.lowered in
    both_ok c.let_in.result _ _ _ c.let_in.ensures.named c.let_in.ensures.flow (λ l h f. computed_lowered scope.values c.args.why.1 scope c.args.held c.requires.register h tt (omega arith) body f)

pub heard-returns-clause-entering : goal.heard-returns-clause-entering
heard-returns-clause-entering t c = both_ok c.let_in.result _ _ _ c.let_in.ensures.named c.let_in.ensures.entering (λ l h f. computed_entering h c.in_ok-tried.ensures.entering f)

pub tried-returns-in_default-clause-named : goal.tried-returns-in_default-clause-named
tried-returns-in_default-clause-named t c =
    let block = rw c.unread-unread.ensures at c.in_ok-lowered.ensures.named in
    rw c.in_default.is (ok_more c.handled.result _ _ c.handled.ensures.named (λ l h xs ys e f. tried_statement xs ys (ap names_in c.in_ok-lowered.ensures.scope) e f block h))

pub tried-returns-clause-named : goal.tried-returns-clause-named
tried-returns-clause-named t c =
    let told = c.in_ok-register.ensures in
    rw c.in-Some.is (ok_more c.heard.result _ _ c.heard.ensures.named (λ l h xs ys e f. told_statement xs ys (ap names_in told.scope) e f told.fresh told.room told.named h))

pub acted-returns-in-Require-clause-named : goal.acted-returns-in-Require-clause-named
acted-returns-in-Require-clause-named t c = rw c.in-Require.is (ok_more c.require.result _ _ c.require.ensures.named (λ l h plain. requires h))

pub acted-returns-in-Leave-clause-named : goal.acted-returns-in-Leave-clause-named
acted-returns-in-Leave-clause-named t c = rw c.in-Leave.is (ok_more c.leave.result _ _ (c.leave.ensures.named c.args.before.now) (λ l h plain. h))

pub acted-returns-in_ok-number-in-Fail-clause-named : goal.acted-returns-in_ok-number-in-Fail-clause-named
acted-returns-in_ok-number-in-Fail-clause-named t c = rw c.in-Fail.is (ok_more c.failure.result _ _ c.failure.ensures.named (λ l h plain. fails_with c.in_ok-number-in-Fail.ensures.named h))

pub acted-returns-in_ok-number-in-Fail-clause-lowered : goal.acted-returns-in_ok-number-in-Fail-clause-lowered
acted-returns-in_ok-number-in-Fail-clause-lowered t c = ok_more c.failure.result _ _ c.failure.ensures.refusal (λ l h. failure_lowered h)

pub acted-returns-in-BreakWith-clause-named : goal.acted-returns-in-BreakWith-clause-named
acted-returns-in-BreakWith-clause-named t c =
    rw c.in-BreakWith.is (ok_more c.break_with.result _ _ (c.break_with.ensures.named c.args.before.now c.in-BreakWith.values c.deref-in-BreakWith.ensures.value) (λ l h plain. h))

pub acted-returns-in_default-clause-named : goal.acted-returns-in_default-clause-named
acted-returns-in_default-clause-named t c =
    let other = c.in_default in
    ok_more c.action.result _ _ c.action.ensures.named (λ l h plain. by_itself (h (plain_left c.args.action.now plain other.not-Use other.not-Require other.not-Leave other.not-Fail other.not-BreakWith)))

pub choice-first_block-requires : goal.choice-first_block-requires
choice-first_block-requires t c = (omega (arith, c.decreases), (c.requires, c.in_ok-entrance.ensures.entrance))

pub choice-block-requires : goal.choice-block-requires
choice-block-requires t c = (omega (arith, c.decreases), subst (λ v. IsAt v c.args.held) (sym c.in_ok-first.ensures.scope) c.requires)

pub choice-returns-clause-named : goal.choice-returns-clause-named
choice-returns-clause-named t c =
    let first = c.in_ok-first.ensures in
    let second = c.in_ok-second.ensures in
    ok_more c.chosen.result _ _ c.chosen.ensures.named
    (λ l h xs ys e f. chosen_statement xs ys c.in_ok-entrance.ensures.named (block_at refl e first.named) (block_at (ap names_in first.scope) f second.named) h)

pub statement-choice-requires : goal.statement-choice-requires
statement-choice-requires t c =
    let r = c.in-If in
    (falls_in_if t (weight c.args.before.now) c.args.form.now r.question r.body r.otherwise c.deref-in-If.result.now c.deref-in-If-2.result.now c.decreases c.deref-in-If.ensures.value c.deref-in-If-2.ensures.value r.is, c.requires)

pub statement-turns-requires-in-ForEach : goal.statement-turns-requires-in-ForEach
statement-turns-requires-in-ForEach t c =
    let v = c.in-ForEach in (
      falls_in_visit t 3 (weight c.args.before.now) c.args.form.now v.child v.index v.parent v.at_most v.body c.deref-in-ForEach.result.now c.decreases c.deref-in-ForEach.ensures.value (omega arith) v.is,
      (c.requires, (c.in_ok-repetition-in-ForEach.ensures.repetition, (c.in_ok-repetition-in-ForEach.ensures.depth, c.in_ok-repetition-in-ForEach.ensures.fresh))),
    )

pub statement-block-requires : goal.statement-block-requires
statement-block-requires t c =
    (falls_in_block t 1 (weight c.args.before.now) c.args.form.now c.in-Block.body c.deref-in-Block.result.now c.decreases c.deref-in-Block.ensures.value (omega arith) c.in-Block.is, c.requires)

pub turn-returns-clause-scope : goal.turn-returns-clause-scope
turn-returns-clause-scope t c =
    let old : View = view_of c.args.self.now.scope in
    let mark = c.mark-mark.ensures in
    let left = c.return_to.ensures in
    let begun = c.in_ok-inside.ensures in
    loop_back old (view_of c.begin.new.self.scope) (view_of c.block.new.self.scope) (view_of c.return_to.new.self) c.mark-mark.result.local c.saturating_sub-self.result
    begun.extends c.in_ok-body.ensures.scope mark.local left.meanings left.fields left.procedures left.local (left.values ∙ mark.values) (left.nodes ∙ mark.nodes) left.loops begun.loops (omega arith)

pub turn-returns-clause-named : goal.turn-returns-clause-named
turn-returns-clause-named t c =
    let read = subst (λ n. IsBlock c.args.before.now c.args.readers.now n c.args.body.now c.in_ok-body.body) c.in_ok-inside.ensures.named c.in_ok-body.ensures.named in
    record { read = c.in_ok-body.body; read_is = read; kept_is = c.in_ok-body-2.ensures.named }

pub turn-returns-clause-turn : goal.turn-returns-clause-turn
turn-returns-clause-turn t c =
    let old : View = view_of c.args.self.now.scope in
    let inside = c.in_ok-inside in
    let flow = c.in_ok-flow in
    let values = c.return_to.ensures.values ∙ c.mark-mark.ensures.values in
    let nodes = c.return_to.ensures.nodes ∙ c.mark-mark.ensures.nodes in
    let read = is_turn old (view_of c.begin.new.self.scope) c.args.start c.args.start inside.inside c.args.repetition.now c.in_ok-body.body c.in_ok-body.flow flow.flow c.in_ok-body.ensures.lowered
    inside.ensures.values inside.ensures.nodes inside.ensures.loops inside.ensures.held refl flow.ensures.paths flow.ensures.kept in
    turn_in values nodes (c.in_ok-body-2.ensures.turn c.args.start flow.flow (turn_in (sym values) (sym nodes) read))

pub turn-returns-clause-entering : goal.turn-returns-clause-entering
turn-returns-clause-entering t c =
    let inside = c.in_ok-inside.ensures in
    c.in_ok-body-2.ensures.entering (before_body c.args.repetition.now (before_of c.args.start)) c.in_ok-flow.flow
    (entering_as (ap₂ (λ e p. record { entered = e; passed = p }) inside.entered inside.passed) c.in_ok-flow.ensures.entered c.in_ok-body.ensures.entering)

pub turn-returns-clause-once : goal.turn-returns-clause-once
turn-returns-clause-once t c = c.in_ok-flow.ensures.once

-- ---- the core forms are those of the text

pub block-returns-clause-named : goal.block-returns-clause-named
block-returns-clause-named t c =
    let part = c.loop-statement.invariant.named in
    subst (λ xs. IsBlock c.args.before.now c.args.readers.now (names_of c.args.self.now.scope) xs c.in_ok-finished.field-0) (take_all c.loop-statement.statement-index c.args.statements.now (omega arith))
    (whole_part part c.in_ok-finished.ensures.named)

pub extend-returns-in_default-clause-named : goal.extend-returns-in_default-clause-named
extend-returns-in_default-clause-named t c =
    let draft : Draft = record { opened = c.args.draft.now.opened; statements = c.push.new.self; flow = c.args.draft.now.flow } in
    let plain = rw c.in_default.is at c.in_ok-head.ensures.named in
    let l = c.in_ok-lowered.ensures.lowered in
    plain_extended c.args.statement.now c.args.draft.now draft c.in_ok-lowered.flow (λ leaves. ap (λ (p : Paths). p.after) l.paths ∙ leaves (nodes_of c.args.held)) (ap names_in c.in_ok-lowered.ensures.scope) (c.in_ok-lowered.ensures.named plain) c.in_ok-marked.ensures.named c.in_ok-at.ensures.named refl c.in_ok-push.ensures.items

pub extend-returns-clause-named : goal.extend-returns-clause-named
extend-returns-clause-named t c =
    let draft : Draft = record { opened = c.push-2.new.self; statements = c.replace-earlier.new.dest; flow = c.args.draft.now.flow } in
    let opened : Opened = record { binding = c.in_ok-binding.binding; offset = c.args.statement.now.offset; earlier = c.replace-earlier.result } in
    let earlier : c.replace-earlier.result.items ≡ c.args.draft.now.statements.items = search rules in
    let none : c.replace-earlier.new.dest.items ≡ [] = search rules in
    let opening = rw c.in-Some.is at c.in_ok-head.ensures.named in
    let opens = opens_at (ap names_in c.in_ok-otherwise.ensures.scope) opening c.in_ok-otherwise.ensures.named (c.in_ok-binding.ensures.named c.args.before.now c.args.readers.now) in
    opened_extended c.args.statement.now c.args.draft.now draft c.in_ok-binding.flow opened opens refl earlier c.in_ok-push-2.ensures.items none

pub statement-returns-in-If-clause-named : goal.statement-returns-in-If-clause-named
statement-returns-in-If-clause-named t c =
    rw c.in-If.is (ok_more c.choice.result _ _ c.choice.ensures.named (λ l h plain. h c.in-If.body c.in-If.otherwise c.deref-in-If.ensures.value c.deref-in-If-2.ensures.value))

pub statement-returns-in_ok-repetition-in-Repeat-clause-named : goal.statement-returns-in_ok-repetition-in-Repeat-clause-named
statement-returns-in_ok-repetition-in-Repeat-clause-named t c =
    let r = c.in-Repeat in
    let names = names_of c.args.self.now.scope in
    let repeated : IsRepeated names r.turns.form (option_map (λ (e : TextExpression). e.form) r.at_most) c.in_ok-repetition-in-Repeat.repetition =
    subst (λ z. IsRepeated names r.turns.form z c.in_ok-repetition-in-Repeat.repetition) (forms_of c.as_ref.result r.at_most c.as_ref.ensures.value) c.in_ok-repetition-in-Repeat.ensures.named in
    rw r.is
    (ok_more c.turns.result _ _ c.turns.ensures.named
    (λ l h plain. repeated_statement r.turns r.at_most r.body repeated (loop_at c.deref-in-Repeat.ensures.value h)))

pub statement-returns-in_ok-repetition-in-ForEach-clause-named : goal.statement-returns-in_ok-repetition-in-ForEach-clause-named
statement-returns-in_ok-repetition-in-ForEach-clause-named t c =
    rw c.in-ForEach.is
    (ok_more c.turns-in-ForEach.result _ _ c.turns-in-ForEach.ensures.named
    (λ l h plain. visited_statement c.in-ForEach.body c.in_ok-repetition-in-ForEach.ensures.named (loop_at c.deref-in-ForEach.ensures.value h)))

pub statement-returns-in-Block-clause-named : goal.statement-returns-in-Block-clause-named
statement-returns-in-Block-clause-named t c =
    rw c.in-Block.is (ok_more c.block.result _ _ c.block.ensures.named (λ l h plain. block_alone c.in-Block.body (block_at refl c.deref-in-Block.ensures.value h)))

pub statement-returns-in-None-clause-named : goal.statement-returns-in-None-clause-named
statement-returns-in-None-clause-named t c =
    let form : c.args.form.now ≡ T.Act c.in-Act.action None = c.in-Act.is ∙ ap (T.Act c.in-Act.action) c.in-None.is in
    rw form (ok_more c.acted.result _ _ c.acted.ensures.named (λ l h plain. act (h plain)))

pub statement-returns-in_ok-lowered-in-Some-clause-named : goal.statement-returns-in_ok-lowered-in-Some-clause-named
statement-returns-in_ok-lowered-in-Some-clause-named t c =
    let form : c.args.form.now ≡ T.Act c.in-Act.action (Some c.in-Some.otherwise) = c.in-Act.is ∙ ap (T.Act c.in-Act.action) c.in-Some.is in
    let acted = c.in_ok-lowered-in-Some in
    let handled = subst (λ n. IfOk c.handled.result (λ l. IsHandled c.args.before.now c.args.readers.now n acted.lowered.0 c.deref.result.now l.0)) (ap names_in acted.ensures.scope) c.handled.ensures.named in
    rw form (ok_more c.handled.result _ _ handled (λ l h plain. handled_statement (rw c.unread-unread.ensures at acted.ensures.named plain) c.deref.ensures.value h))

pub refusal-returns-in_default-otherwise-clause-named : goal.refusal-returns-in_default-otherwise-clause-named
refusal-returns-in_default-otherwise-clause-named t c =
    let form : c.args.statement.now.form ≡ T.Act c.in-Act.field-0 None = c.in-Act.is ∙ ap (T.Act c.in-Act.field-0) c.in_default-otherwise.is in
    missing_named c.args.before.now c.args.readers.now (names_of c.args.self.now.scope) c.args.head.now c.in-Act.field-0 c.missing_else.result form c.missing_else.ensures.none c.missing_else.ensures.told

pub refusal-returns-clause-named : goal.refusal-returns-clause-named
refusal-returns-clause-named t c = λ action o form.
    one_else (c.in-Act.is ∙ ap (T.Act c.in-Act.field-0) c.in-Some.is) (block_at refl c.deref.ensures.value c.in_ok-statement.ensures.named)

-- ---- loops that are left with numbers

pub found-block-requires : goal.found-block-requires
found-block-requires t c =
    let more = c.in_ok-declare_found.ensures in
    (omega (arith, c.decreases), record { names = more.in_use c.requires.at.names; nodes = subst (λ m. AreFree m (nodes_of c.args.held)) (sym more.nodes) c.requires.at.nodes })

pub found-returns-clause-scope : goal.found-returns-clause-scope
found-returns-clause-scope t c =
    let mark = c.mark-mark.ensures in
    let left = c.return_to.ensures in
    let more = c.in_ok-declare_found.ensures in
    let same = c.in_ok-first.ensures.scope in
    back (view_of c.args.self.now.scope) (view_of c.declare_found.new.self.scope) (view_of c.block.new.self.scope) (view_of c.return_to.new.self) c.mark-mark.result.local more.extends same mark.local left.meanings left.fields
    left.procedures left.local (left.values ∙ mark.values) (left.nodes ∙ mark.nodes) (left.loops ∙ ap (λ (v : View). v.loops) same ∙ more.loops)

pub found-returns-clause-named : goal.found-returns-clause-named
found-returns-clause-named t c = rw c.in_ok-declare_found.ensures.named at c.in_ok-first.ensures.named

pub found-returns-clause-lowered : goal.found-returns-clause-lowered
found-returns-clause-lowered t c =
    let more = c.in_ok-declare_found.ensures in
    lowered_as (view_of c.declare_found.new.self.scope) (view_of c.args.self.now.scope) c.args.held more.values more.nodes more.loops c.in_ok-first.ensures.lowered

pub searched-block-requires : goal.searched-block-requires
searched-block-requires t c = (omega (arith, c.decreases), c.requires.at)

pub searched-found-requires : goal.searched-found-requires
searched-found-requires t c =
    let back = sym c.in_ok-turned.ensures.scope in
    let behind = rw c.in-Some.is at (at_behind (view_of c.args.self.now.scope) c.args.held c.in_ok-turned.turned c.in_ok-turned.flow c.requires.at c.in_ok-turned.ensures.lowered) in
    (omega (arith, c.decreases), (subst (λ v. IsAt v c.in-Some.behind) back behind, omega (arith, c.requires.room, ap (λ (v : View). v.values) back)))

pub searched-block-requires-2 : goal.searched-block-requires-2
searched-block-requires-2 t c =
    let back = sym (c.in_ok-first.ensures.scope ∙ c.in_ok-turned.ensures.scope) in
    let behind = rw c.in-Some.is at (at_behind (view_of c.args.self.now.scope) c.args.held c.in_ok-turned.turned c.in_ok-turned.flow c.requires.at c.in_ok-turned.ensures.lowered) in
    (omega (arith, c.decreases), subst (λ v. IsAt v c.in-Some.behind) back behind)

pub searched-chosen-requires-clause-at : goal.searched-chosen-requires-clause-at
searched-chosen-requires-clause-at t c =
    let back = sym (c.in_ok-second.ensures.scope ∙ c.in_ok-first.ensures.scope ∙ c.in_ok-turned.ensures.scope) in
    let behind = rw c.in-Some.is at (at_behind (view_of c.args.self.now.scope) c.args.held c.in_ok-turned.turned c.in_ok-turned.flow c.requires.at c.in_ok-turned.ensures.lowered) in
    subst (λ v. IsAt v c.in-Some.behind) back behind

pub searched-chosen-requires-clause-entrance : goal.searched-chosen-requires-clause-entrance
searched-chosen-requires-clause-entrance t c =
    let back = sym (c.in_ok-second.ensures.scope ∙ c.in_ok-first.ensures.scope ∙ c.in_ok-turned.ensures.scope) in (omega (arith, c.requires.room, ap (λ (v : View). v.values) back), tt)

pub searched-chosen-requires-clause-first : goal.searched-chosen-requires-clause-first
searched-chosen-requires-clause-first t c =
    let back = sym (c.in_ok-second.ensures.scope ∙ c.in_ok-first.ensures.scope) in
    let l = lowered_there back c.in_ok-first.ensures.lowered in
    record { sound = l.sound; paths = l.paths }

pub searched-chosen-requires-clause-second : goal.searched-chosen-requires-clause-second
searched-chosen-requires-clause-second t c = lowered_there (sym c.in_ok-second.ensures.scope) c.in_ok-second.ensures.lowered

pub searched-returns-clause-scope : goal.searched-returns-clause-scope
searched-returns-clause-scope t c = c.in_ok-second.ensures.scope ∙ c.in_ok-first.ensures.scope ∙ c.in_ok-turned.ensures.scope

pub searched-returns-clause-named : goal.searched-returns-clause-named
searched-returns-clause-named t c =
    let names = names_of c.args.self.now.scope in
    let one = ap names_in c.in_ok-turned.ensures.scope in
    let two = ap names_in (c.in_ok-first.ensures.scope ∙ c.in_ok-turned.ensures.scope) in
    let all = ap (λ (v : View). v.values) (c.in_ok-second.ensures.scope ∙ c.in_ok-first.ensures.scope ∙ c.in_ok-turned.ensures.scope) in
    let finding = c.args.finding.now in
    let called = c.args.search.1.now in
    record {
      turned = c.in_ok-turned.turned;
      first = c.in_ok-first.first.0;
      second = c.in_ok-second.second.0;
      choice = c.in_ok-choice.choice;
      room = omega (arith, all, c.in_ok-check_registers.ensures);
      turned_is = subst (λ z. IsBlock c.args.before.now z names c.args.search.0.now c.in_ok-turned.turned) c.searching-inside.ensures c.in_ok-turned.ensures.named;
      fresh = subst (λ n. AreFound n (finding.flag + 1) called) one c.in_ok-first.ensures.fresh;
      first_is = subst (λ n. IsBlock c.args.before.now c.args.readers.now (with_variables n (finding.flag + 1) called) c.args.search.2.now c.in_ok-first.first.0) one c.in_ok-first.ensures.named;
      second_is = block_at two refl c.in_ok-second.ensures.named;
      choice_is = c.in_ok-choice.ensures.named;
      whole_is = c.in_ok-whole.ensures.named;
    }

pub searched-returns-clause-lowered : goal.searched-returns-clause-lowered
searched-returns-clause-lowered t c =
    let all = c.in_ok-second.ensures.scope ∙ c.in_ok-first.ensures.scope ∙ c.in_ok-turned.ensures.scope in
    pair_lowered c.in_ok-turned.ensures.lowered c.in-Some.is (lowered_there all c.in_ok-choice.ensures.lowered) c.in_ok-whole.ensures.named c.then-flow.ensures.paths

pub searched-returns-clause-entering : goal.searched-returns-clause-entering
searched-returns-clause-entering t c = pair_entering c.in_ok-turned.ensures.entering (ap entered_at c.in-Some.is) c.in_ok-choice.ensures.entering c.in_ok-whole.ensures.named c.then-flow.ensures.entered

pub search-searched-requires : goal.search-searched-requires
search-searched-requires t c =
    let more = c.in_ok-add_values.ensures in
    let flag = ap (λ (f : Finding). f.flag) c.in_ok-finding.ensures.finding in (
      omega (arith, c.decreases),
      (record { names = more.in_use c.requires.names; nodes = subst (λ m. AreFree m (nodes_of c.args.held)) (sym more.nodes) c.requires.nodes }, omega (arith, flag, more.values)),
    )

pub search-returns-clause-scope : goal.search-returns-clause-scope
search-returns-clause-scope t c =
    let old : View = view_of c.args.self.now.scope in
    let mark = c.mark-mark.ensures in
    let left = c.return_to.ensures in
    let more = c.in_ok-add_values.ensures in
    let same = c.in_ok-whole.ensures.scope in
    on_ok c.with_nothing.result _
    (back old (view_of c.add_values.new.self) (view_of c.searched.new.self.scope) (view_of c.return_to.new.self) c.mark-mark.result.local
    (λ outer e. extends_same outer old (view_of c.add_values.new.self) e more.meanings more.local more.fields more.procedures) same mark.local left.meanings left.fields left.procedures left.local (left.values ∙ mark.values)
    (left.nodes ∙ mark.nodes) (left.loops ∙ ap (λ (v : View). v.loops) same ∙ more.loops))

pub search-returns-clause-named : goal.search-returns-clause-named
search-returns-clause-named t c =
    let flag = ap (λ (f : Finding). f.flag) c.in_ok-finding.ensures.finding in
    let names = names_of c.args.self.now.scope in
    let searched = rw c.in_ok-add_values.ensures.named at c.in_ok-whole.ensures.named in
    let here = subst (λ f. IsSearched c.args.before.now c.args.readers.now (with_room names (length c.args.search.1.now + 1)) f c.args.search.0.now c.args.search.1.now c.args.search.2.now c.args.search.3.now c.in_ok-whole.whole.0) c.in_ok-finding.ensures.finding searched in
    ok_more c.with_nothing.result _ _ c.with_nothing.ensures.named
    (λ l h. record { searched = c.in_ok-whole.whole.0; deep = c.in_ok-finding.ensures.depth; searched_is = here; whole_is = subst (λ z. AreNothing z (length c.args.search.1.now + 1) c.in_ok-whole.whole.0 l.0) flag h })

pub search-returns-clause-lowered : goal.search-returns-clause-lowered
search-returns-clause-lowered t c =
    let scope : View = view_of c.args.self.now.scope in
    let more = c.in_ok-add_values.ensures in
    c.with_nothing.ensures.lowered scope (ap (λ (f : Finding). f.flag) c.in_ok-finding.ensures.finding)
    (lowered_as (view_of c.add_values.new.self) (record scope { values = scope.values + (length c.args.search.1.now + 1) }) c.args.held more.values more.nodes more.loops c.in_ok-whole.ensures.lowered)

pub search-returns-clause-entering : goal.search-returns-clause-entering
search-returns-clause-entering t c = c.with_nothing.ensures.entering c.in_ok-whole.ensures.entering

pub statement-search-requires : goal.statement-search-requires
statement-search-requires t c =
    let s = c.in-Search in (
      falls_in_search t (weight c.args.before.now) c.args.form.now s.turns s.names s.found s.otherwise c.deref-in-Search.result.now c.deref-in-Search-3.result.now c.deref-in-Search-4.result.now c.decreases c.deref-in-Search.ensures.value
          c.deref-in-Search-3.ensures.value c.deref-in-Search-4.ensures.value s.is,
      c.requires,
    )

pub statement-returns-in-Search-clause-named : goal.statement-returns-in-Search-clause-named
statement-returns-in-Search-clause-named t c =
    let s = c.in-Search in
    rw s.is
    (ok_more c.search.result _ _ c.search.ensures.named
    (λ l h plain. searched_statement s.turns s.found s.otherwise s.names c.deref-in-Search.ensures.value c.deref-in-Search-2.ensures.value c.deref-in-Search-3.ensures.value c.deref-in-Search-4.ensures.value h))

-- ---- where the tree may have been entered

pub handled-returns-clause-entering : goal.handled-returns-clause-entering
handled-returns-clause-entering t c =
    tried_entering c.in_ok-attempt.ensures.named c.requires.entering c.handled.ensures.entered c.in_ok-handler.ensures.entering c.handled_by.ensures.entered

pub first_block-returns-clause-entering : goal.first_block-returns-clause-entering
first_block-returns-clause-entering t c = λ entrance. entering_as (c.in_ok-inside.ensures.entered entrance) refl c.in_ok-first.ensures.entering

pub acted-returns-in-Use-clause-named : goal.acted-returns-in-Use-clause-named
acted-returns-in-Use-clause-named t c = rw c.in-Use.is (ok_more c.used.result _ _ c.used.ensures.named (λ l h plain. used_action c.in-Use.arguments c.deref.ensures.value h))

pub used-given-requires : goal.used-given-requires
used-given-requires t c =
    let scope = c.args.self.now.scope in
    let outer : c.replace-outer.result ≡ scope = c.replace-outer.ensures.value ∙ c.enter_part.ensures in
    let inner : c.replace-outer.new.dest ≡ c.in_ok-inner.inner = c.replace-outer.ensures.after in
    let names : names_of c.in_ok-inner.inner ≡ inside c.in_ok-part.index (names_of scope) = c.in_ok-inner.ensures.named ∙ ap (λ (s : Scope). inside c.in_ok-part.index (names_of s)) c.enter_part.ensures in
    let values : c.in_ok-inner.inner.values ≡ scope.values = ap (λ (n : Names). n.values) names in
    let nodes : c.in_ok-inner.inner.nodes ≡ scope.nodes = ap (λ (n : Names). n.nodes) names in (
      falls_in_part t c.args.before.now _ c.in_ok-part.index c.in_ok-part.part.now c.deref.result.now c.deref-2.result.now c.decreases c.in_ok-part.ensures.part (search rules) c.deref.ensures.value
          c.deref-2.ensures.value,
      (
        rw inner (record { names = c.in_ok-inner.ensures.in_use; nodes = subst (λ m. AreFree m (nodes_of c.args.held)) (sym nodes) c.requires.nodes }),
        (rw outer c.requires.names, (rw (outer, inner) (omega arith), (rw (outer, inner) (sym nodes), rw inner (λ i n e. absurd (c.in_ok-inner.ensures.nodes i n e))))),
      ),
    )

pub used-returns-clause-named : goal.used-returns-clause-named
used-returns-clause-named t c =
    let scope = c.args.self.now.scope in
    let outer : c.replace-outer.result ≡ scope = c.replace-outer.ensures.value ∙ c.enter_part.ensures in
    let inner : c.replace-outer.new.dest ≡ c.in_ok-inner.inner = c.replace-outer.ensures.after in
    let names : names_of c.in_ok-inner.inner ≡ inside c.in_ok-part.index (names_of scope) = c.in_ok-inner.ensures.named ∙ ap (λ (s : Scope). inside c.in_ok-part.index (names_of s)) c.enter_part.ensures in
    record {
      index = c.in_ok-part.index;
      part = c.in_ok-part.part.now;
      index_is = c.in_ok-part.ensures.index;
      part_is = c.in_ok-part.ensures.part;
      given = given_at (search rules) (ap names_of outer) (ap names_of inner ∙ names) c.deref-2.ensures.value c.deref.ensures.value (rw c.in_part-inside.ensures at c.in_ok-lowered.ensures.given);
      nests = rw outer at c.in_ok-check_nesting.ensures;
    }

pub used-returns-clause-lowered : goal.used-returns-clause-lowered
used-returns-clause-lowered t c =
    let scope = c.args.self.now.scope in
    let inner : c.replace-outer.new.dest ≡ c.in_ok-inner.inner = c.replace-outer.ensures.after in
    let names : names_of c.replace-outer.new.dest ≡ inside c.in_ok-part.index (names_of scope) =
    ap names_of inner ∙ c.in_ok-inner.ensures.named ∙ ap (λ (s : Scope). inside c.in_ok-part.index (names_of s)) c.enter_part.ensures in
    lowered_in_loops (view_of c.replace-outer.new.dest) (view_of scope) c.args.held (ap (λ (n : Names). n.values) names) (ap (λ (n : Names). n.nodes) names) (ap (λ (n : Names). n.loops) names) c.in_ok-lowered.ensures.lowered

pub given-given-requires : goal.given-given-requires
given-given-requires t c =
    let more = c.in_ok-named-in-Node.ensures in
    let shorter = ap length c.in-Some.ensures.cases.0 in
    (omega (arith, shorter, c.decreases), (more.at, (c.requires.outer, (omega (arith, more.values, c.requires.values), (c.requires.nodes ∙ sym more.nodes, more.named)))))

pub given-given-requires-in-Value : goal.given-given-requires-in-Value
given-given-requires-in-Value t c =
    let more = c.in_ok-register-in-Value.ensures in
    let shorter = ap length c.in-Some.ensures.cases.0 in (
      omega (arith, shorter, c.decreases),
      (more.at, (c.requires.outer, (omega (arith, more.values, c.requires.values), (c.requires.nodes ∙ sym more.nodes, λ i n e. c.requires.named i n (more.named i n e))))),
    )

pub given-given-requires-in-Variable : goal.given-given-requires-in-Variable
given-given-requires-in-Variable t c =
    let more = c.in_ok-give_variable-in-Variable.ensures in
    let shorter = ap length c.in-Some.ensures.cases.0 in (
      omega (arith, shorter, c.decreases),
      (more.at, (c.requires.outer, (omega (arith, more.values, c.requires.values), (c.requires.nodes ∙ sym more.nodes, λ i n e. c.requires.named i n (more.named i n e))))),
    )

pub given-returns-in_default-clause-given : goal.given-returns-in_default-clause-given
given-returns-in_default-clause-given t c = ok_more c.block.result _ _ c.block.ensures.named (λ l h. given_none c.in_default.ensures.cases (search rules) h)

pub given-returns-in_ok-named-in-Node-clause-given : goal.given-returns-in_ok-named-in-Node-clause-given
given-returns-in_ok-named-in-Node-clause-given t c =
    ok_more c.given.result _ _ c.given.ensures.given (λ l h. given_node c.in-Some.ensures.cases.0 c.in-Node.is c.in-Some-split_first.ensures.cases.0 c.in_ok-named-in-Node.ensures.given h)

pub given-returns-in_ok-named-in-Node-clause-lowered : goal.given-returns-in_ok-named-in-Node-clause-lowered
given-returns-in_ok-named-in-Node-clause-lowered t c =
    let more = c.in_ok-named-in-Node.ensures in
    ok_more c.given.result _ _ c.given.ensures.lowered (λ l h. lowered_as (view_of c.give_node.new.self.scope) (view_of c.args.self.now.scope) c.args.held more.values more.nodes more.loops h)

pub given-returns-in_ok-give_variable-in-Variable-clause-given : goal.given-returns-in_ok-give_variable-in-Variable-clause-given
given-returns-in_ok-give_variable-in-Variable-clause-given t c =
    ok_more c.given-in-Variable.result _ _ c.given-in-Variable.ensures.given (λ l h. given_variable c.in-Some.ensures.cases.0 c.in-Variable.is c.in-Some-split_first.ensures.cases.0 c.in_ok-give_variable-in-Variable.ensures.given h)

pub given-returns-in_ok-give_variable-in-Variable-clause-lowered : goal.given-returns-in_ok-give_variable-in-Variable-clause-lowered
given-returns-in_ok-give_variable-in-Variable-clause-lowered t c =
    let more = c.in_ok-give_variable-in-Variable.ensures in
    ok_more c.given-in-Variable.result _ _ c.given-in-Variable.ensures.lowered (λ l h. lowered_as (view_of c.give_variable.new.self.scope) (view_of c.args.self.now.scope) c.args.held more.values more.nodes more.loops h)

pub given-returns-in_ok-body-in-Value-clause-given : goal.given-returns-in_ok-body-in-Value-clause-given
given-returns-in_ok-body-in-Value-clause-given t c =
    let more = c.in_ok-register-in-Value.ensures in
    ok_more c.let_in.result _ _ c.let_in.ensures.named (λ l h. given_value c.in-Some.ensures.cases.0 c.in-Value.is c.in-Some-split_first.ensures.cases.0 more.given more.register c.in_ok-body-in-Value.ensures.given h)

pub given-returns-in_ok-body-in-Value-clause-lowered : goal.given-returns-in_ok-body-in-Value-clause-lowered
given-returns-in_ok-body-in-Value-clause-lowered t c =
    let scope : View = view_of c.args.self.now.scope in
    let more = c.in_ok-register-in-Value.ensures in
    let body = lowered_as (view_of c.give_value.new.self.scope) (record scope { values = scope.values + 1 }) c.args.held more.values more.nodes more.loops c.in_ok-body-in-Value.ensures.lowered in
    both_ok c.let_in.result _ _ _ c.let_in.ensures.named c.let_in.ensures.flow
    (λ l h f. computed_lowered scope.values c.in_ok-register-in-Value.register scope c.args.held more.register h more.readable (omega arith) body f)

pub given-returns-in_ok-body-in-Value-clause-entering : goal.given-returns-in_ok-body-in-Value-clause-entering
given-returns-in_ok-body-in-Value-clause-entering t c = both_ok c.let_in.result _ _ _ c.let_in.ensures.named c.let_in.ensures.entering (λ l h f. computed_entering h c.in_ok-body-in-Value.ensures.entering f)

-- ---- loops

pub turns-turn-requires : goal.turns-turn-requires
turns-turn-requires t c =
    let scope : View = view_of c.args.self.now.scope in
    let same = c.forgetting-guess.ensures.nodes in
    (omega (arith, c.decreases), (at_as scope c.args.held c.forgetting-guess.result same c.requires.at, (same_repetition scope c.args.held c.forgetting-guess.result c.args.repetition same c.requires.repetition, c.requires.depth)))

pub turns-turn-requires-2 : goal.turns-turn-requires-2
turns-turn-requires-2 t c =
    let scope : View = view_of c.args.self.now.scope in
    let same = c.forgetting-start.ensures.nodes in
    let back = sym c.in_ok-first.ensures.scope in (
      omega (arith, c.decreases),
      (
        subst (λ v. IsAt v c.forgetting-start.result) back (at_as scope c.args.held c.forgetting-start.result same c.requires.at),
        (
          subst (λ v. IsRepetition v c.forgetting-start.result c.args.repetition) back (same_repetition scope c.args.held c.forgetting-start.result c.args.repetition same c.requires.repetition),
          subst (λ (v : View). v.loops < MAX_DEPTH) back c.requires.depth,
        ),
      ),
    )

pub turns-repeated-requires-clause-at : goal.turns-repeated-requires-clause-at
turns-repeated-requires-clause-at t c = let back = sym c.in_ok-first.ensures.scope in subst (λ v. IsAt v c.args.held) back c.requires.at

pub turns-repeated-requires-clause-start : goal.turns-repeated-requires-clause-start
turns-repeated-requires-clause-start t c = c.forgetting-start.ensures.nodes

pub turns-repeated-requires-clause-repetition : goal.turns-repeated-requires-clause-repetition
turns-repeated-requires-clause-repetition t c = let back = sym c.in_ok-first.ensures.scope in subst (λ v. IsRepetition v c.args.held c.args.repetition) back c.requires.repetition

pub turns-repeated-requires-clause-before : goal.turns-repeated-requires-clause-before
turns-repeated-requires-clause-before t c =
    turns_begin c.args.held c.forgetting-start.result c.args.repetition c.passed_down.result c.in_ok-first.first.0 c.passed_down.ensures c.forgetting-start.ensures.entered c.forgetting-start.ensures.passed

pub turns-repeated-requires-clause-entering : goal.turns-repeated-requires-clause-entering
turns-repeated-requires-clause-entering t c =
    let same = same_before c.forgetting-guess.result c.forgetting-start.result c.args.held c.forgetting-guess.ensures.entered c.forgetting-start.ensures.entered (sym c.if-start-guess.true) in
    entering_as (ap (before_body c.args.repetition) same) refl c.in_ok-first.ensures.entering

pub turns-repeated-requires-clause-once : goal.turns-repeated-requires-clause-once
turns-repeated-requires-clause-once t c =
    let same = same_before c.forgetting-guess.result c.forgetting-start.result c.args.held c.forgetting-guess.ensures.entered c.forgetting-start.ensures.entered (sym c.if-start-guess.true) in
    subst (KeepsOut (entered_of c.in_ok-first.first.1).after) same c.in_ok-first.ensures.once

pub turns-repeated-requires-clause-block : goal.turns-repeated-requires-clause-block
turns-repeated-requires-clause-block t c = turn_is_no_walk c.in_ok-first.ensures.named

pub turns-repeated-requires-clause-turn : goal.turns-repeated-requires-clause-turn
turns-repeated-requires-clause-turn t c = turn_as (view_of c.args.self.now.scope) (view_of c.turn.new.self.scope) c.forgetting-guess.result c.args.held c.in_ok-first.ensures.scope c.forgetting-guess.ensures.nodes c.in_ok-first.ensures.turn

pub turns-repeated-requires-2-clause-at : goal.turns-repeated-requires-2-clause-at
turns-repeated-requires-2-clause-at t c = let back = sym (c.in_ok-again.ensures.scope ∙ c.in_ok-first.ensures.scope) in subst (λ v. IsAt v c.args.held) back c.requires.at

pub turns-repeated-requires-2-clause-start : goal.turns-repeated-requires-2-clause-start
turns-repeated-requires-2-clause-start t c = c.forgetting-start.ensures.nodes

pub turns-repeated-requires-2-clause-repetition : goal.turns-repeated-requires-2-clause-repetition
turns-repeated-requires-2-clause-repetition t c = let back = sym (c.in_ok-again.ensures.scope ∙ c.in_ok-first.ensures.scope) in subst (λ v. IsRepetition v c.args.held c.args.repetition) back c.requires.repetition

pub turns-repeated-requires-2-clause-before : goal.turns-repeated-requires-2-clause-before
turns-repeated-requires-2-clause-before t c =
    let named = subst (λ (v : View). IsTurnBody c.args.before.now c.args.readers.now (names_in v) c.args.repetition c.args.body.now c.in_ok-again.again.0) c.in_ok-first.ensures.scope c.in_ok-again.ensures.named in
    turns_begin c.args.held c.forgetting-start.result c.args.repetition c.passed_down.result c.in_ok-again.again.0
    (λ n. c.passed_down.ensures n ∙ same_turn c.args.repetition n (turn_once c.in_ok-first.ensures.named named)) c.forgetting-start.ensures.entered c.forgetting-start.ensures.passed

pub turns-repeated-requires-2-clause-entering : goal.turns-repeated-requires-2-clause-entering
turns-repeated-requires-2-clause-entering t c = c.in_ok-again.ensures.entering

pub turns-repeated-requires-2-clause-once : goal.turns-repeated-requires-2-clause-once
turns-repeated-requires-2-clause-once t c = c.in_ok-again.ensures.once

pub turns-repeated-requires-2-clause-block : goal.turns-repeated-requires-2-clause-block
turns-repeated-requires-2-clause-block t c = turn_is_no_walk c.in_ok-again.ensures.named

pub turns-repeated-requires-2-clause-turn : goal.turns-repeated-requires-2-clause-turn
turns-repeated-requires-2-clause-turn t c = turn_as (view_of c.turn.new.self.scope) (view_of c.turn-2.new.self.scope) c.forgetting-start.result c.args.held c.in_ok-again.ensures.scope c.forgetting-start.ensures.nodes c.in_ok-again.ensures.turn

pub turns-returns-then-start-guess-clause-scope : goal.turns-returns-then-start-guess-clause-scope
turns-returns-then-start-guess-clause-scope t c = on_ok c.repeated.result _ c.in_ok-first.ensures.scope

pub turns-returns-then-start-guess-clause-named : goal.turns-returns-then-start-guess-clause-named
turns-returns-then-start-guess-clause-named t c = ok_more c.repeated.result _ _ c.repeated.ensures.named (λ l h. record { body = c.in_ok-first.first.0; body_is = c.in_ok-first.ensures.named; whole_is = h })

pub turns-returns-then-start-guess-clause-lowered : goal.turns-returns-then-start-guess-clause-lowered
turns-returns-then-start-guess-clause-lowered t c = ok_more c.repeated.result _ _ c.repeated.ensures.lowered (λ l h. subst (λ v. IsLowered v c.args.held l.0 l.1) c.in_ok-first.ensures.scope h)

pub turns-returns-clause-scope : goal.turns-returns-clause-scope
turns-returns-clause-scope t c = on_ok c.repeated-2.result _ (c.in_ok-again.ensures.scope ∙ c.in_ok-first.ensures.scope)

pub turns-returns-clause-named : goal.turns-returns-clause-named
turns-returns-clause-named t c =
    let named = subst (λ (v : View). IsTurnBody c.args.before.now c.args.readers.now (names_in v) c.args.repetition c.args.body.now c.in_ok-again.again.0) c.in_ok-first.ensures.scope c.in_ok-again.ensures.named in
    ok_more c.repeated-2.result _ _ c.repeated-2.ensures.named (λ l h. record { body = c.in_ok-again.again.0; body_is = named; whole_is = h })

pub turns-returns-clause-lowered : goal.turns-returns-clause-lowered
turns-returns-clause-lowered t c = ok_more c.repeated-2.result _ _ c.repeated-2.ensures.lowered (λ l h. subst (λ v. IsLowered v c.args.held l.0 l.1) (c.in_ok-again.ensures.scope ∙ c.in_ok-first.ensures.scope) h)
