use Rattle.std.proofs.Common.{◌≡◌, ◌∙◌, Some, None, ap, ap₂}
use Rattle.tl_lowering.specs.Paths.{nodes_of, passed_of, known, keeping}
use Rattle.tl_lowering.specs.Scopes.{view_of, is_in_loop}
use Rattle.tl_lowering.specs.Sets.{both_of, with_node}
use Rattle.tl_lowering.specs.Choosing.{turning_children}
use Rattle.tl_lowering.proofs.OpeningLemmas.{turns_times, turns_up_to}
use Rattle.tl_lowering.specs.Entering.{before_of, entered_at}
use Rattle.tl_lowering.specs.Passing.{Before, or_of}
use Rattle.tl_lowering.proofs.EnterLemmas.{keeps_out, times_entering, up_to_entering, walk_entering}
use Rattle.tl_lowering.proofs.LoopLemmas.{repeat_of, up_to_of, lowered_walk}
use Rattle.tl_lowering.proofs.lowering.Lowering.repeated.Goals as goal

pub returns-in_ok-boxed-in-Times : goal.returns-in_ok-boxed-in-Times
returns-in_ok-boxed-in-Times c = record {
  named = rw c.in-Times.is (turns_times c.in_ok-boxed-in-Times.ensures);
  lowered =
      repeat_of (view_of c.args.self.now.scope) c.args.held c.args.lowered.0 c.args.lowered.1 c.leaving.result (known c.join-turned.result) c.in-Times.turns c.in_ok-boxed-in-Times.field-0.value
      c.in_ok-boxed-in-Times.ensures (rw c.in-Times.is at c.requires.turn) c.join-turned.ensures.nodes c.leaving.ensures.paths;
  entering =
      let start = c.args.start in
      times_entering (rw c.in-Times.is at c.requires.before) (rw c.in-Times.is at c.requires.entering) (keeps_out c.args.lowered.1 start c.args.held (ap (λ (b : Before). b.entered) c.requires.before) c.requires.once) (turns_times c.in_ok-boxed-in-Times.ensures)
      (c.leaving.ensures.entered ∙ ap (λ o. record { after = o; fails = entered_at c.args.lowered.1.fails; breaks = None }) c.join-turned.ensures.entered);
}

pub returns-in_ok-boxed-in-UpTo : goal.returns-in_ok-boxed-in-UpTo
returns-in_ok-boxed-in-UpTo c = record {
  named = rw c.in-UpTo.is (turns_up_to c.in_ok-boxed-in-UpTo.ensures);
  lowered =
      let h = nodes_of c.args.held in
      up_to_of (view_of c.args.self.now.scope) c.args.held c.args.lowered.0 c.args.lowered.1 c.leaving-in-UpTo.result (known c.join-after.result) c.in-UpTo.number c.in-UpTo.turns c.in_ok-boxed-in-UpTo.field-0.value
      c.in_ok-boxed-in-UpTo.ensures (rw c.in-UpTo.is at c.requires.repetition) (rw c.in-UpTo.is at c.requires.turn)
      (c.join-after.ensures.nodes ∙ ap (both_of (Some h)) c.join-turned.ensures.nodes)
      (c.leaving-in-UpTo.ensures.paths ∙ ap (λ f. record { after = keeping h (known c.join-after.result); fails = f; breaks = None }) c.join.ensures.nodes);
  entering =
      let e = before_of c.args.held in
      up_to_entering (rw c.in-UpTo.is at c.requires.before) (rw c.in-UpTo.is at c.requires.entering) (keeps_out c.args.lowered.1 c.args.start c.args.held (ap (λ (b : Before). b.entered) c.requires.before) c.requires.once) c.requires.block (turns_up_to c.in_ok-boxed-in-UpTo.ensures)
      (c.leaving-in-UpTo.ensures.entered
      ∙ ap₂ (λ x y. record { after = x; fails = y; breaks = None }) (c.join-after.ensures.entered ∙ ap (or_of (Some e)) c.join-turned.ensures.entered) c.join.ensures.entered);
}

pub returns-in_ok-whole-in-Children : goal.returns-in_ok-whole-in-Children
returns-in_ok-whole-in-Children c = record {
  named = rw c.in-Children.is (turning_children c.in_ok-whole-in-Children.ensures.named);
  lowered =
      let h = nodes_of c.args.held in
      let scope = view_of c.args.self.now.scope in
      let visit = rw c.in-Children.is at c.requires.repetition in
      let turn = rw c.in-Children.is at c.requires.turn in
      lowered_walk scope c.args.held c.args.lowered.0 c.args.lowered.1 c.leaving-in-Children.result (known c.join-after-in-Children.result) c.in-Children.visit c.in_ok-whole-in-Children.whole
      (c.in_ok-whole-in-Children.ensures.walk c.args.held (is_in_loop scope) c.requires.at visit turn.turn) turn
      (c.join-after-in-Children.ensures.nodes ∙ ap (λ z. both_of (Some z) (known c.join-turned.result)) c.visiting-in-Children.ensures.nodes ∙ ap (both_of (Some h)) c.join-turned.ensures.nodes)
      (c.leaving-in-Children.ensures.paths ∙ ap (λ f. record { after = keeping h (known c.join-after-in-Children.result); fails = f; breaks = None }) (c.join-in-Children.ensures.nodes ∙ ap (λ z. both_of (Some z) (known c.args.lowered.1.fails)) c.requires.start));
  entering =
      let start = c.args.start in
      let passed = with_node (passed_of c.args.held) c.in-Children.visit.parent in
      let left : before_of c.visiting-in-Children.result ≡ record { entered = c.args.held.is_entered; passed = passed } =
      ap₂ (λ e p. record { entered = e; passed = p }) c.visiting-in-Children.ensures.entered c.visiting-in-Children.ensures.passed in
      walk_entering c.in-Children.visit (rw c.in-Children.is at c.requires.before) (rw c.in-Children.is at c.requires.entering)
      (keeps_out c.args.lowered.1 start c.args.held (ap (λ (b : Before). b.entered) c.requires.before) c.requires.once) (rw c.in-Children.is at c.requires.fresh) c.in_ok-whole-in-Children.ensures.named
      (c.leaving-in-Children.ensures.entered
      ∙ ap₂ (λ x y. record { after = x; fails = y; breaks = None })
      (c.join-after-in-Children.ensures.entered ∙ ap₂ or_of (ap Some left) c.join-turned.ensures.entered)
      c.join-in-Children.ensures.entered);
}
