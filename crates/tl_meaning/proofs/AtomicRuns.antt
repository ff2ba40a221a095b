-- What a statement leaves: what is held then, and the records of before where no field can have been written.
use Rattle.std.proofs.Common.{◌≡◌, ℕ, zero, suc, ◌+◌, List, [], ◌∷◌, ◌++◌, length, Bool, true, false, ◌||◌, Option, Some, None, is_some, option_map, if◌then◌else◌, refl, sym, ap, ap₂, ◌∙◌, subst, arith, append-nil, inl, inr}
use Rattle.std.specs.Prelude.{ℤ, pos, negsuc, ◌+ℤ◌, ◌<◌, ◌≤◌, ◌-◌, ◌^◌, ◌≢◌, IfSome, slice_set, slice_index, replicate, nat_le}
use Rattle.std.specs.Option.{unwrap_or}
use Rattle.std.proofs.lemmas.Bool.{or_parts, leb-true}
use Rattle.std.proofs.lemmas.List.{length-append, length-replicate, length-set, get_or-set_same, get_or-set_other}
use Rattle.tl_instr.specs.declared.operand.TheConstants.{VALUE_REGISTERS, NODE_REGISTERS}
use Rattle.tl_tree.specs.Shape.{kids}
use Rattle.tl_tree.specs.Records.{Records}
use Rattle.tl_tree_locking.specs.declared.action.Action.{Action}
use Rattle.tl_tree_locking.specs.declared.action.Action.TheVariants as did
use Rattle.tl_machine.specs.Runs.{Held, State}
use Rattle.tl_machine.specs.Alone.{value, node, fitting, with_value, with_node, open_kid, start}
use Rattle.tl_machine.proofs.Slots.{held_by}
use Rattle.tl_syntax.specs.declared.parsed.Declaration.{Declaration}
use Rattle.tl_syntax.specs.declared.parsed.Procedure.{Procedure as TextProcedure}
use Rattle.tl_lowering.specs.declared.atomic.Ways.{Ways}
use Rattle.tl_lowering.specs.declared.program.Expression.{Expression}
use Rattle.tl_lowering.specs.declared.program.Expression.TheVariants as E
use Rattle.tl_lowering.specs.declared.program.Condition.{Condition}
use Rattle.tl_lowering.specs.declared.program.Place.{Place}
use Rattle.tl_lowering.specs.declared.program.Place.TheVariants as P
use Rattle.tl_lowering.specs.declared.program.Statement.{Statement}
use Rattle.tl_lowering.specs.declared.program.Statement.TheVariants as S
use Rattle.std.specs.declared.boxed.Box.{Box}
use Rattle.std.specs.declared.alloc.Global.{Global}
use Rattle.tl_lowering.specs.Atomic.{or_of, on as on_path, failing_if, either, then_by, in_turns, behind_turns, written, body_written, IsAtomic}
use Rattle.tl_lowering.specs.Fit.{AllTurn}
use Rattle.tl_lowering.specs.Names.{Names}
use Rattle.tl_syntax.specs.declared.parsed.Name.{Name}
use Rattle.tl_lowering.specs.Outcomes.{may_fail, condition_may_fail, locked, unlocked, nodes_behind, here_if, next, going_on, handled_by, behind_loop, after, fails, breaks}
use Rattle.tl_lowering.specs.Reading.{IsTried, tried, IsCaught, unnamed, named, IsBody}
use Rattle.tl_lowering.specs.Sets.{Nodes, none_held, holds, with_node as also, without_node, both_of, all_of}
use Rattle.tl_lowering.specs.Walks.{leaves_alone, is_walk}
use Rattle.tl_lowering.specs.Sound.{IsReadable, KeepsHeld, IsWellFormed}
use Rattle.tl_compiler.specs.Among.{IsIn}
use Rattle.tl_compiler.specs.Statements.{held_behind}
use Rattle.tl_compiler.proofs.SetLemmas.{in_left, in_right, both_within}
use Rattle.tl_compiler.proofs.SizeLemmas.{AnySized, sizes, handled_sized, locked_sized}
use Rattle.tl_compiler.proofs.WayLemmas.{Keeps, keeps_first, keeps_second, keeps_itself, keeps_unlocked}
use Rattle.tl_meaning.specs.Calls.{WritesNothing}
use Rattle.tl_meaning.specs.Meaning.{Ending, On, Breaks, Fails, Returns, Done, plain, telling, given, of_node, number, truth, after_events, is_on, and_then, or_else, held_at, free_by, leave, lock_kid, lock_child_by, lock_place, go_down, descend_by, write, leaving, chosen, turns, broken, counted, behaviour}
use Rattle.tl_meaning.proofs.SetLemmas.{held_length, held_set}
use Rattle.tl_meaning.proofs.ReleaseRuns.{leave_on, leave_sizes, leave_records, held_then}
use Rattle.tl_meaning.proofs.SimpleRuns.{held_taken}
use Rattle.tl_meaning.proofs.PlaceRuns.{held_again}
use Rattle.tl_meaning.proofs.TryRuns.{start_within}
use Rattle.tl_meaning.proofs.LoopRuns.{keeps_end, keeps_break}
use Rattle.tl_syntax.specs.declared.operator.Operator.TheVariants as O
use Rattle.tl_meaning.proofs.Walks.{Stays, stays, left_stays}
use Rattle.tl_meaning.proofs.WalkForms.{walk_of, walk_begins}
use Rattle.tl_meaning.proofs.AtomicSteps.{none_of, number_fails, truth_fails, place_before, fits_next, opens_next, opens_first, set_found, no_both, Here, longer, HereBy, here_left, here_right, here_there, size_of, values_of, EndsBy, Ends, widened, first_way, second_way, fails_first, goes_first, given_ends, left_ends, PlacedBy, Placed, child_placed, place_placed}

-- ---- statements

module _ (parents : List ℕ) (t : Records) where
  abbrev Bounded : Statement → Type 0
  Bounded a = (d m : ℕ) (in_loop w : Bool) (s : State) → IsWellFormed a d m (held_at s) in_loop → AllTurn a → Here w t s
      → Ends (after a (held_at s)) (fails a (held_at s)) (breaks a (held_at s)) (written a w) t (behaviour parents a s)

  -- a number, and something that can't fail
  with_number : (e : Expression) (d : ℕ) (w : Bool) (s : State) (go : ℤ → Done) (A : Option Nodes) (x : Ways) → IsReadable d (held_at s) e → Here w t s → ((y : ℤ) → Ends A [] [] x t (go y))
      → Ends A (here_if (may_fail e) (held_at s)) [] (failing_if (may_fail e) w x) t (given (number parents e s) s go)
  with_number e d w s go A x readable h more =
      subst (λ F. Ends A F [] (failing_if (may_fail e) w x) t (given (number parents e s) s go)) (append-nil (here_if (may_fail e) (held_at s)))
      (given_ends (number parents e s) (may_fail e) w s go A [] [] x t (number_fails parents e d s readable) h more)

  assign_ends : (v : ℕ) (e : Expression) → Bounded (S.Assign v e)
  assign_ends v e d m l w s sound turn h =
      with_number e d w s (λ y. plain On (with_value s v y)) (Some (held_at s)) (on_path w) sound.1 h (λ y. (refl, record { size = h.size; values = longer s v y h.values; clean = h.clean }))

  emit_ends : (e : Expression) → Bounded (S.Emit e)
  emit_ends e d m l w s sound turn h = with_number e d w s (λ y. telling (did.Emit y) s) (Some (held_at s)) (on_path w) sound h (λ y. (refl, h))

  write_ends : (n f : ℕ) (e : Expression) → Bounded (S.Write n f e)
  write_ends n f e d m l w s sound turn h =
      with_number e d w s (λ y. write f y (node s n) s) (Some (held_at s)) (on_path true) sound.1 h (λ y. by y (node s n) (held_by s.nodes n sound.0).0 (held_by s.nodes n sound.0).1)
    where
      by : (y : ℤ) (o : Option Held) (g : Held) → o ≡ Some g → Ends (Some (held_at s)) [] [] (on_path true) t (write f y o s)
      by y None g e = cc
      by y (Some k) g e = (refl, record { size = h.size; values = h.values; clean = λ e. cc })

  free_ends : (n : ℕ) → Bounded (S.Free n)
  free_ends n d m l w s sound turn h = by (node s n) (held_by s.nodes n sound).0 (held_by s.nodes n sound).1
    where
      by : (o : Option Held) (g : Held) → o ≡ Some g → Ends (Some (without_node (held_at s) n)) [] [] (on_path w) t (free_by o n s)
      by None g e = cc
      by (Some k) g e = (ap Some (sym (held_set s.nodes n None)), record { size = length-set s.nodes n None ∙ h.size; values = h.values; clean = h.clean })

  descend_ends : (n : ℕ) (e : Expression) → Bounded (S.Descend n e)
  descend_ends n e d m l w s sound turn h = by (number parents e s)
    where
      down : (k : Held) (o : Option ℕ) → Ends (Some (held_at s)) (held_at s ∷ []) [] (failing_if true w (on_path w)) t (go_down n k o parents s)
      down k None = (inl refl, h)
      down k (Some i) =
          let b : Option Held = Some (record { node = slice_index (kids parents k.node) i; cursor = 0 }) in
          (ap Some (sym (held_set s.nodes n b ∙ held_again (held_at s) n sound.0)), record { size = length-set s.nodes n b ∙ h.size; values = h.values; clean = h.clean })

      from : (y : ℤ) (o : Option Held) → Ends (Some (held_at s)) (held_at s ∷ []) [] (failing_if true w (on_path w)) t (descend_by parents n o y s)
      from y None = (inl refl, h)
      from y (Some k) = down k (open_kid k.cursor (length (kids parents k.node)) y)

      by : (o : Option ℤ) → Ends (Some (held_at s)) (held_at s ∷ []) [] (failing_if true w (on_path w)) t (given o s (λ y. descend_by parents n (node s n) y s))
      by None = (inl refl, h)
      by (Some y) = from y (node s n)

  take_ends : (n m : ℕ) → Bounded (S.Take n m)
  take_ends n m d k l w s sound turn h =
      let a = held_by s.nodes n sound.1 in
      let b = held_by s.nodes m sound.2 in
      let u = with_node s n None in
      let still : node u m ≡ Some b.0 = get_or-set_other s.nodes n m None None (λ e. sound.0 (sym e)) ∙ b.1 in
      let ends : Ends (Some (without_node (held_at s) m)) [] [] (on_path w) t (plain On (with_node (with_node u m None) n (Some b.0))) = (
        ap Some (sym (held_taken s n m b.0 sound.0 sound.1)),
        record {
          size = length-set (slice_set (slice_set s.nodes n None) m None) n (Some b.0) ∙ length-set (slice_set s.nodes n None) m None ∙ length-set s.nodes n None ∙ h.size;
          values = h.values;
          clean = h.clean;
        },
      ) in
      let taken : Ends (Some (without_node (held_at s) m)) [] [] (on_path w) t (and_then (free_by (Some a.0) n s) (λ s. plain On (with_node (with_node s m None) n (node s m)))) =
      subst (λ o. Ends (Some (without_node (held_at s) m)) [] [] (on_path w) t (plain On (with_node (with_node u m None) n o))) (sym still) ends in
      subst (λ o. Ends (Some (without_node (held_at s) m)) [] [] (on_path w) t (and_then (free_by o n s) (λ s. plain On (with_node (with_node s m None) n (node s m))))) (sym a.1) taken

  -- one statement after another
  then_by_ends : (b : Statement) → Bounded b → (d m : ℕ) (l : Bool) → AllTurn b → (A : Option Nodes) (F B : List Nodes) (x : Ways) → IfSome A (λ h. IsWellFormed b d m h l) → (p : Option Bool) → x.after ≡ p
      → (o : Ending) (s : State) (es : List Action) → EndsBy A F B x t o s
      → Ends (next A (after b)) (F ++ going_on A (fails b)) (B ++ going_on A (breaks b)) (then_by p x (written b)) t (and_then (record { outcome = o; state = s; events = es }) (behaviour parents b))
  then_by_ends b twos d m l turn A F B x sound None is Fails s es e = (in_left (held_at s) F (going_on A (fails b)) e.0, e.1)
  then_by_ends b twos d m l turn A F B x sound (Some v) is Fails s es e = (in_left (held_at s) F (going_on A (fails b)) e.0, here_left x.fails (written b v).fails t s e.1)
  then_by_ends b twos d m l turn A F B x sound None is Breaks s es e = (in_left (held_at s) B (going_on A (breaks b)) e.0, e.1)
  then_by_ends b twos d m l turn A F B x sound (Some v) is Breaks s es e = (in_left (held_at s) B (going_on A (breaks b)) e.0, here_left x.breaks (written b v).breaks t s e.1)
  then_by_ends b twos d m l turn A F B x sound p is Returns s es e = tt
  then_by_ends b twos d m l turn A F B x sound None is On s es e = absurd (subst (λ q. HereBy q t s) is e.1)
  then_by_ends b twos d m l turn None F B x sound (Some v) is On s es e = let f = e.0 in cc
  then_by_ends b twos d m l turn (Some g) F B x sound (Some v) is On s es e =
      let same : g ≡ held_at s = let f = e.0 in cc in
      let here : Here v t s = subst (λ q. HereBy q t s) is e.1 in
      let r = behaviour parents b s in
      let y = written b v in
      let ends : Ends (after b g) (fails b g) (breaks b g) y t r = subst (λ k. Ends (after b k) (fails b k) (breaks b k) y t r) (sym same) (twos d m l v s (subst (λ k. IsWellFormed b d m k l) same sound) turn here) in
      widened (after b g) (fails b g) (breaks b g) (F ++ fails b g) (B ++ breaks b g) y (then_by (Some v) x (written b)) t (λ k i. in_right k F (fails b g) i) (λ k i. in_right k B (breaks b g) i)
      (λ s h. h) (λ s h. here_right x.fails y.fails t s h) (λ s h. here_right x.breaks y.breaks t s h) r.outcome r.state ends

  sequence_ends : (p q : _) (a b : Statement) → Bounded a → Bounded b → Bounded (S.Sequence' p a q b)
  sequence_ends p q a b ones twos d m l w s sound turn h =
      let r = behaviour parents a s in
      then_by_ends b twos d m l turn.1 (after a (held_at s)) (fails a (held_at s)) (breaks a (held_at s)) (written a w) sound.1 (written a w).after refl r.outcome r.state r.events (ones d m l w s sound.0 turn.0 h)

  -- one of two ways, and what is kept behind both
  module _ (a b : Statement) (h g : Nodes) (w : Bool) where
    abbrev ways : Ways
    ways = either (written a w) (written b w)

    first_left : (whole : Option Nodes) → Keeps (after a h) whole (held_behind whole) → (r : Done) → Ends (after a h) (fails a h) (breaks a h) (written a w) t r → Ends whole (fails a h ++ fails b g) (breaks a h ++ breaks b g) ways t (leaving whole r)
    first_left whole keeps r e =
        let all = leaving whole r in
        first_way whole (fails a h) (breaks a h) (fails b g) (breaks b g) (written a w) (written b w) t all.outcome all.state (left_ends (after a h) whole keeps (fails a h) (breaks a h) (written a w) t r.outcome r.state r.events e)

    second_left : (whole : Option Nodes) → Keeps (after b g) whole (held_behind whole) → (r : Done) → Ends (after b g) (fails b g) (breaks b g) (written b w) t r → Ends whole (fails a h ++ fails b g) (breaks a h ++ breaks b g) ways t (leaving whole r)
    second_left whole keeps r e =
        let all = leaving whole r in
        second_way whole (fails a h) (breaks a h) (fails b g) (breaks b g) (written a w) (written b w) t all.outcome all.state (left_ends (after b g) whole keeps (fails b g) (breaks b g) (written b w) t r.outcome r.state r.events e)

  if_ends : (p q : _) (c : Condition) (a b : Statement) → Bounded a → Bounded b → Bounded (S.If' c p a q b)
  if_ends p q c a b ones twos d m l w s sound turn h = by (truth parents c s) (truth_fails parents c d s sound.0)
    where
      g : Nodes
      g = held_at s

      whole : Option Nodes
      whole = both_of (after a g) (after b g)

      size : length g ≡ NODE_REGISTERS
      size = held_length s.nodes ∙ h.size

      by : (o : Option Bool) → (o ≡ None → condition_may_fail c ≡ true)
          → Ends whole (here_if (condition_may_fail c) g ++ (fails a g ++ fails b g)) (breaks a g ++ breaks b g) (failing_if (condition_may_fail c) w (either (written a w) (written b w))) t
          (leaving whole (chosen o s (behaviour parents a) (behaviour parents b)))
      by None f = fails_first (condition_may_fail c) w whole (fails a g ++ fails b g) (breaks a g ++ breaks b g) (either (written a w) (written b w)) t s (f refl) h
      by (Some true) f =
          let all = leaving whole (behaviour parents a s) in
          goes_first (condition_may_fail c) w g whole (fails a g ++ fails b g) (breaks a g ++ breaks b g) (either (written a w) (written b w)) t all.outcome all.state
          (first_left a b g g w whole (keeps_first (after a g) (after b g) (sizes a g size).after (sizes b g size).after) (behaviour parents a s) (ones d m l w s sound.1 turn.0 h))
      by (Some false) f =
          let all = leaving whole (behaviour parents b s) in
          goes_first (condition_may_fail c) w g whole (fails a g ++ fails b g) (breaks a g ++ breaks b g) (either (written a w) (written b w)) t all.outcome all.state
          (second_left a b g g w whole (keeps_second (after a g) (after b g) (sizes a g size).after (sizes b g size).after) (behaviour parents b s) (twos d m l w s sound.2 turn.1 h))

  else_ends : (p q : _) (v : ℕ) (e : Expression) (a o : Statement) → Bounded a → Bounded o → Bounded (S.LetElse' v e p a q o)
  else_ends p q v e a o ones twos d m l w s sound turn h = by (number parents e s)
    where
      g : Nodes
      g = held_at s

      whole : Option Nodes
      whole = both_of (after a g) (after o g)

      size : length g ≡ NODE_REGISTERS
      size = held_length s.nodes ∙ h.size

      by : (n : Option ℤ) → Ends whole (fails a g ++ fails o g) (breaks a g ++ breaks o g) (either (written a w) (written o w)) t
          (leaving whole (elim n [ Some y ↦ behaviour parents a (with_value s v y) | None ↦ behaviour parents o s ]))
      by None = second_left a o g g w whole (keeps_second (after a g) (after o g) (sizes a g size).after (sizes o g size).after) (behaviour parents o s) (twos d m l w s sound.3 turn.1 h)
      by (Some y) =
          first_left a o g g w whole (keeps_first (after a g) (after o g) (sizes a g size).after (sizes o g size).after) (behaviour parents a (with_value s v y))
          (ones (d + 1) m l w (with_value s v y) sound.2 turn.0 (record { size = h.size; values = longer s v y h.values; clean = h.clean }))

  lock_ends : (p q : _) (place : Place) (a o : Statement) → Bounded a → Bounded o → Bounded (S.Lock' place p a q o)
  lock_ends p q place a o ones twos d m l w s sound turn h = let r = lock_place parents place s in by r.outcome r.state r.events (place_placed parents place d s sound.0)
    where
      g : Nodes
      g = held_at s

      k : Nodes
      k = locked place g

      paths : Option Nodes
      paths = both_of (after a k) (after o g)

      whole : Option Nodes
      whole = option_map (unlocked place) paths

      size : length g ≡ NODE_REGISTERS
      size = held_length s.nodes ∙ h.size

      by : (q : Ending) (u : State) (es : List Action) → PlacedBy k s q u
          → Ends whole (fails a k ++ fails o g) (breaks a k ++ breaks o g) (either (written a w) (written o w)) t (leaving whole (after_events es (if is_on q then behaviour parents a u else behaviour parents o u)))
      by Breaks u es e = absurd e
      by Returns u es e = absurd e
      by On u es e =
          let r = behaviour parents a u in
          let ends : Ends (after a k) (fails a k) (breaks a k) (written a w) t r =
          subst (λ z. Ends (after a z) (fails a z) (breaks a z) (written a w) t r) e.0
          (ones d (nodes_behind place) l w u (subst (λ z. IsWellFormed a d (nodes_behind place) z l) (sym e.0) sound.1) turn.0 (here_there (Some w) t s u e.3 e.1 e.2 h)) in
          first_left a o k g w whole
          (keeps_unlocked place (after a k) paths (keeps_first (after a k) (after o g) (sizes a k (locked_sized place g size)).after (sizes o g size).after)) (after_events es r) ends
      by Fails u es e =
          let r = behaviour parents o u in
          let ends : Ends (after o g) (fails o g) (breaks o g) (written o w) t r =
          subst (λ z. Ends (after o z) (fails o z) (breaks o z) (written o w) t r) e.0
          (twos d m l w u (subst (λ z. IsWellFormed o d m z l) (sym e.0) sound.2) turn.1 (here_there (Some w) t s u e.3 e.1 e.2 h)) in
          second_left a o k g w whole
          (keeps_unlocked place (after o g) paths (keeps_second (after a k) (after o g) (sizes a k (locked_sized place g size)).after (sizes o g size).after)) (after_events es r) ends

  try_ends : (p q : _) (a b : Statement) → Bounded a → Bounded b → Bounded (S.Try' p a q b)
  try_ends p q a b ones twos d m l w s sound turn h =
      let r = behaviour parents a s in by (written a w).fails refl r.outcome r.state r.events (ones d m l w s sound.0 turn.0 h)
    where
      g : Nodes
      g = held_at s

      start : Nodes
      start = handled_by g (all_of (fails a g))

      whole : Option Nodes
      whole = both_of (after a g) (after b start)

      size : length g ≡ NODE_REGISTERS
      size = held_length s.nodes ∙ h.size

      start_size : length start ≡ NODE_REGISTERS
      start_size = handled_sized g (fails a g) size (sizes a g size).fails

      x : Ways
      x = written a w

      all : Bool → Ways
      all v = let y = written b v in record { after = or_of x.after y.after; fails = y.fails; breaks = or_of x.breaks y.breaks }

      keeps_one : Keeps (after a g) whole (held_behind whole)
      keeps_one = keeps_first (after a g) (after b start) (sizes a g size).after (sizes b start start_size).after

      keeps_two : Keeps (after b start) whole (held_behind whole)
      keeps_two = keeps_second (after a g) (after b start) (sizes a g size).after (sizes b start start_size).after

      -- from the handler on
      handled : (v : Bool) (u : State) (es : List Action) → IsIn (held_at u) (fails a g) → Here v t u
          → Ends whole (fails b start) (breaks a g ++ breaks b start) (all v) t (leaving whole (after_events es (and_then (leave start u) (behaviour parents b))))
      handled v u es i here =
          let f = leave start u in
          let long : length (held_at u) ≡ NODE_REGISTERS = held_length u.nodes ∙ here.size in
          let held : held_at f.state ≡ start = held_then start u here.size start_size ∙ both_within (held_at u) start (long ∙ sym start_size) (start_within g (held_at u) (fails a g) i) in
          let there : Here v t f.state = here_there (Some v) t u f.state (leave_sizes NODE_REGISTERS start u).0 (leave_sizes NODE_REGISTERS start u).1 (leave_records NODE_REGISTERS start u) here in
          let r = behaviour parents b f.state in
          let y = written b v in
          let ends : Ends (after b start) (fails b start) (breaks b start) y t r =
          subst (λ z. Ends (after b z) (fails b z) (breaks b z) y t r) held (twos d m l v f.state (subst (λ z. IsWellFormed b d m z l) (sym held) sound.1) turn.1 there) in
          let done = leaving whole (after_events es (after_events f.events r)) in
          let left : Ends whole (fails b start) (breaks a g ++ breaks b start) (all v) t done =
          widened whole (fails b start) (breaks b start) (fails b start) (breaks a g ++ breaks b start) y (all v) t (λ z j. j) (λ z j. in_right z (breaks a g) (breaks b start) j)
          (λ z j. here_right x.after y.after t z j) (λ z j. j) (λ z j. here_right x.breaks y.breaks t z j) done.outcome done.state
          (left_ends (after b start) whole keeps_two (fails b start) (breaks b start) y t r.outcome r.state (es ++ (f.events ++ r.events)) ends) in
          subst (λ o. Ends whole (fails b start) (breaks a g ++ breaks b start) (all v) t (leaving whole (after_events es (if is_on o then after_events f.events r else f)))) (sym (leave_on NODE_REGISTERS start u)) left

      by : (p : Option Bool) → x.fails ≡ p → (o : Ending) (u : State) (es : List Action) → EndsBy (after a g) (fails a g) (breaks a g) x t o u
          → Ends whole (fails b start) (breaks a g ++ breaks b start) (all (unwrap_or p w)) t (leaving whole (or_else (record { outcome = o; state = u; events = es }) (λ u. and_then (leave start u) (behaviour parents b))))
      by p is Returns u es e = tt
      by p is Breaks u es e = (in_left (held_at u) (breaks a g) (breaks b start) e.0, here_left x.breaks (written b (unwrap_or p w)).breaks t u e.1)
      by None is Fails u es e = absurd (subst (λ q. HereBy q t u) is e.1)
      by (Some v) is Fails u es e = handled v u es e.0 (subst (λ q. HereBy q t u) is e.1)
      by p is On u es e =
          let r : Done = record { outcome = On; state = u; events = es } in
          let done = leaving whole r in
          let y = written b (unwrap_or p w) in
          widened whole [] [] (fails b start) (breaks a g ++ breaks b start) (record x { fails = None; breaks = None }) (all (unwrap_or p w)) t (λ z j. absurd j) (λ z j. absurd j)
          (λ z j. here_left x.after y.after t z j) (λ z j. absurd j) (λ z j. absurd j) done.outcome done.state
          (left_ends (after a g) whole keeps_one [] [] (record x { fails = None; breaks = None }) t On u es e)

  -- ---- loops

  -- A turn begins as the one before it: where a turn may write, the next one begins behind a write.
  again : (f : Bool → Option Bool) (w : Bool) (s : State) → HereBy (f (w || unwrap_or (f w) false)) t s → Here (w || unwrap_or (f w) false) t s
  again f true s h = record { size = size_of (f true) t s h; values = values_of (f true) t s h; clean = λ e. cc }
  again f false s h = by (f false) refl h
    where
      by : (p : Option Bool) → f false ≡ p → HereBy (f (unwrap_or p false)) t s → Here (unwrap_or p false) t s
      by None is h = absurd (subst (λ q. HereBy q t s) is h)
      by (Some true) is h = record { size = size_of (f true) t s h; values = values_of (f true) t s h; clean = λ e. cc }
      by (Some false) is h = subst (λ q. HereBy q t s) is h

  module _ (a : Statement) (ones : Bounded a) (d m : ℕ) (w : Bool) (g : Nodes) (sound : IsWellFormed a d m g true) (keeps : KeepsHeld (after a g) g) (turn : AllTurn a) where
    abbrev v : Bool
    v = w || unwrap_or (written a w).after false

    abbrev x : Ways
    x = written a v

    one_turn : (s : State) → held_at s ≡ g → Here v t s → Ends (after a g) (fails a g) (breaks a g) x t (behaviour parents a s)
    one_turn s e h =
        let r = behaviour parents a s in
        subst (λ z. Ends (after a z) (fails a z) (breaks a z) x t r) e (ones d m true v s (subst (λ z. IsWellFormed a d m z true) (sym e) sound) turn h)

    same_held : (h : Nodes) → after a g ≡ Some h → h ≡ g
    same_held h e = subst (λ o. KeepsHeld o g) e keeps

    behind_turn : (n : ℕ) → ((s : State) → held_at s ≡ g → Here v t s → (k : ℕ) → suc k ≡ n → Ends (after a g) (fails a g) (breaks a g) x t (turns n (behaviour parents a) s))
        → (o : Ending) (s : State) (es : List Action) → EndsBy (after a g) (fails a g) (breaks a g) x t o s
        → Ends (after a g) (fails a g) (breaks a g) x t (and_then (record { outcome = o; state = s; events = es }) (turns n (behaviour parents a)))
    behind_turn n more Fails s es e = e
    behind_turn n more Breaks s es e = e
    behind_turn n more Returns s es e = tt
    behind_turn zero more On s es e = e
    behind_turn (suc k) more On s es e = more s (same_held (held_at s) e.0) (again (λ u. (written a u).after) w s e.1) k refl

    turns_end : (n : ℕ) (s : State) → held_at s ≡ g → Here v t s → Ends (after a g) (fails a g) (breaks a g) x t (turns (suc n) (behaviour parents a) s)
    turns_end zero s e h =
        let r = behaviour parents a s in
        behind_turn zero (λ s e h k is. absurd (omega (arith, is))) r.outcome r.state r.events (one_turn s e h)
    turns_end (suc n) s e h =
        let r = behaviour parents a s in
        behind_turn (suc n) (λ s e h k is. turns_end n s e h) r.outcome r.state r.events (one_turn s e h)

    module _ (may_end : Bool) (ended : (h : Nodes) → after a g ≡ Some h → (may_end || is_some (after a g)) ≡ true) (sized : AnySized (behind_loop may_end (after a g) (breaks a g) g)) where
      abbrev whole : Option Nodes
      whole = behind_loop may_end (after a g) (breaks a g) g

      -- after the turns
      finish : (o : Ending) (s : State) (es : List Action) → EndsBy (after a g) (fails a g) (breaks a g) x t o s → Ends whole (fails a g) [] (behind_turns false w x) t (leaving whole (broken (record { outcome = o; state = s; events = es })))
      finish Fails s es e = e
      finish Returns s es e = tt
      finish On s es e =
          let keeps_here : Keeps (Some (held_at s)) whole (held_behind whole) =
          subst (λ h. Keeps (Some h) whole (held_behind whole)) (sym (same_held (held_at s) e.0)) (keeps_end a g may_end (ended (held_at s) e.0) sized) in
          left_ends (Some (held_at s)) whole keeps_here (fails a g) [] (behind_turns false w x) t On s es (refl, here_left x.after x.breaks t s e.1)
      finish Breaks s es e =
          left_ends (Some (held_at s)) whole (keeps_break a g may_end (held_at s) e.0 sized) (fails a g) [] (behind_turns false w x) t On s es (refl, here_right x.after x.breaks t s e.1)

      all_turns : (n : ℕ) (s : State) → held_at s ≡ g → Here w t s → Ends whole (fails a g) [] (behind_turns false w x) t (leaving whole (broken (turns (suc n) (behaviour parents a) s)))
      all_turns n s e h =
          let r = turns (suc n) (behaviour parents a) s in
          finish r.outcome r.state r.events (turns_end n s e (record { size = h.size; values = h.values; clean = λ f. h.clean (or_parts w (unwrap_or (written a w).after false) f).0 }))

  repeat_ends : (p : _) (n : ℕ) (a : Statement) → Bounded a → Bounded (S.Repeat' n p a)
  repeat_ends p zero a ones d m l w s sound turn h = absurd (omega (arith, turn.0))
  repeat_ends p (suc n) a ones d m l w s sound turn h =
      let g = held_at s in
      let sized = (sizes (S.Repeat' (suc n) p a) g (held_length s.nodes ∙ h.size)).after in
      all_turns a ones d m w g sound.1 sound.0 turn.1 false (λ k e. ap is_some e) sized n s refl h

  counted_ends : (p : _) (e : Expression) (n : ℕ) (a : Statement) → Bounded a → Bounded (S.RepeatUpTo' e n p a)
  counted_ends p e n a ones d m l w s sound turn h = by (number parents e s)
    where
      g : Nodes
      g = held_at s

      x : Ways
      x = written a (w || unwrap_or (written a w).after false)

      whole : Option Nodes
      whole = behind_loop true (after a g) (breaks a g) g

      sized : AnySized whole
      sized = (sizes (S.RepeatUpTo' e n p a) g (held_length s.nodes ∙ h.size)).after

      go : (k : ℕ) → Ends whole (g ∷ fails a g) [] (behind_turns true w x) t (leaving whole (broken (turns k (behaviour parents a) s)))
      go zero = left_ends (Some g) whole (keeps_end a g true refl sized) (g ∷ fails a g) [] (behind_turns true w x) t On s [] (refl, here_left (Some w) (or_of x.after x.breaks) t s h)
      go (suc k) =
          let r = leaving whole (broken (turns (suc k) (behaviour parents a) s)) in
          widened whole (fails a g) [] (g ∷ fails a g) [] (behind_turns false w x) (behind_turns true w x) t (λ z i. inr i) (λ z i. i)
          (λ z i. here_right (Some w) (or_of x.after x.breaks) t z i) (λ z i. here_right (Some w) x.fails t z i) (λ z i. i) r.outcome r.state
          (all_turns a ones d m w g sound.2 sound.1 turn.1 true (λ k e. refl) sized k s refl h)

      fails_here : Ends whole (g ∷ fails a g) [] (behind_turns true w x) t (plain Fails s)
      fails_here = (inl refl, here_left (Some w) x.fails t s h)

      counts : (y : ℤ) → Ends whole (g ∷ fails a g) [] (behind_turns true w x) t (counted n y s (λ k. leaving whole (broken (turns k (behaviour parents a) s))))
      counts (negsuc y) = go 0
      counts (pos y) = if_small (nat_le y n)
        where
          if_small : (b : Bool) → Ends whole (g ∷ fails a g) [] (behind_turns true w x) t (if b then leaving whole (broken (turns y (behaviour parents a) s)) else plain Fails s)
          if_small true = go y
          if_small false = fails_here

      by : (o : Option ℤ) → Ends whole (g ∷ fails a g) [] (behind_turns true w x) t (given o s (λ y. counted n y s (λ k. leaving whole (broken (turns k (behaviour parents a) s)))))
      by None = fails_here
      by (Some y) = counts y

  -- ---- a `for each` whose turns leave its place and its node alone

  module _ (q u k j r i : Box (Unit {0}) Global) (x c p w : ℕ) (body : Statement) (ones : Bounded body) (alone : leaves_alone body x p ≡ true) (room : x < VALUE_REGISTERS) (few : w < 2 ^ 16) where
    abbrev next_place : Expression
    next_place = E.Calculated' O.Add r (E.Value x) i (E.Constant (pos 1))

    abbrev locks : Statement
    locks = S.Lock' (P.Child c p (E.Value x)) k body j S.Fail

    abbrev one_turn_of : Statement
    one_turn_of = S.Sequence' q (S.Assign x next_place) u locks

    abbrev place_at : ℕ → ℕ → Option Held
    place_at home cursor = Some (record { node = home; cursor = cursor })

    assigned : (s : State) (n : ℕ) → value s x ≡ place_before n → n < 2 ^ 16 → behaviour parents (S.Assign x next_place) s ≡ plain On (with_value s x (pos n))
    assigned s n place lt = ap (λ o. given o s (λ y. plain On (with_value s x y))) (ap (λ y. fitting (y +ℤ pos 1)) place ∙ fits_next n lt)

    abbrev lock_done : Done → Done
    lock_done l = after_events l.events (if is_on l.outcome then behaviour parents body l.state else behaviour parents S.Fail l.state)

    locked_by : (s : State) (n home cursor : ℕ) → value s x ≡ pos n → node s p ≡ place_at home cursor
        → lock_place parents (P.Child c p (E.Value x)) s ≡ lock_kid parents c p (record { node = home; cursor = cursor }) (open_kid cursor (length (kids parents home)) (pos n)) s
    locked_by s n home cursor place there = ap₂ (λ h y. lock_child_by parents c p h y s) there place

    turn_is : (s : State) (n home cursor : ℕ) (o : Option ℕ) → value s x ≡ place_before n → n < 2 ^ 16 → VALUE_REGISTERS ≤ length s.values → node s p ≡ place_at home cursor
        → open_kid cursor (length (kids parents home)) (pos n) ≡ o
        → behaviour parents one_turn_of s
        ≡ after_events [] (leaving (after locks (held_at s)) (lock_done (lock_kid parents c p (record { node = home; cursor = cursor }) o (with_value s x (pos n)))))
    turn_is s n home cursor o place lt many there opened =
        let u = with_value s x (pos n) in
        let here : value u x ≡ pos n = get_or-set_same s.values x (pos n) (pos 0) (omega (arith, room, many)) in
        ap (λ d. and_then d (behaviour parents locks)) (assigned s n place lt)
        ∙ ap (λ l. after_events [] (leaving (after locks (held_at s)) (lock_done l)))
        (locked_by u n home cursor here there ∙ ap (λ o. lock_kid parents c p (record { node = home; cursor = cursor }) o u) opened)

    module _ (d m : ℕ) (b : Bool) (g : Nodes) (sound : IsWellFormed one_turn_of d m g true) (keeps : KeepsHeld (after one_turn_of g) g) (goes : AllTurn body) (long : length g ≡ NODE_REGISTERS) (home count : ℕ)
        (counts : length (kids parents home) ≡ count) (within : count ≤ w) where
      abbrev later : Bool
      later = b || unwrap_or (written body b).after false

      abbrev y : Ways
      y = written body later

      abbrev z : Ways
      z = record y { fails = or_of (Some b) y.fails }

      abbrev inside : Nodes
      inside = also g c

      lock_sound : IsWellFormed locks d m g true
      lock_sound = sound.1

      empty : holds g c ≡ false
      empty = lock_sound.0.0

      has : holds g p ≡ true
      has = lock_sound.0.1

      apart : p ≢ c
      apart e = absurd (no_both (sym empty ∙ ap (holds g) (sym e) ∙ has))

      -- behind turn n that goes on
      record IsBehind (n : ℕ) (f : State) : Type 0 where
        place : value f x ≡ pos n
        there : node f p ≡ place_at home (n + 1)

      -- a one_turn_of that locks its child
      module _ (s : State) (n cursor : ℕ) (held : held_at s ≡ g) (here : Here later t s) (place : value s x ≡ place_before n) (lt : n < count) (there : node s p ≡ place_at home cursor)
          (opened : open_kid cursor (length (kids parents home)) (pos n) ≡ Some n) where
        abbrev one : State
        one = with_value s x (pos n)

        abbrev two : State
        two = with_node (with_node one p (place_at home (n + 1))) c (Some (record { node = slice_index (kids parents home) n; cursor = 0 }))

        abbrev locked_by_it : List Action
        locked_by_it = (lock_kid parents c p (record { node = home; cursor = cursor }) (Some n) one).events

        abbrev ran : Done
        ran = behaviour parents body two

        abbrev done : Done
        done = leaving (after locks g) (after_events locked_by_it ran)

        is_done : behaviour parents one_turn_of s ≡ after_events [] done
        is_done =
            turn_is s n home cursor (Some n) place (omega (arith, few, within, lt)) here.values there opened
            ∙ ap (λ h. after_events [] (leaving (after locks h) (lock_done (lock_kid parents c p (record { node = home; cursor = cursor }) (Some n) one)))) held

        placed : PlacedBy (also (held_at one) c) one On two
        placed =
            subst (Placed (also (held_at one) c) one)
            (ap (λ o. lock_kid parents c p (record { node = home; cursor = cursor }) o one) opened)
            (subst (λ h. Placed (also (held_at one) c) one (lock_child_by parents c p h (pos n) one)) there (child_placed parents c p (pos n) one (subst (λ h. holds h p ≡ true) (sym held) has)))

        held_two : held_at two ≡ inside
        held_two = placed.0 ∙ ap (λ h. also h c) held

        here_two : Here later t two
        here_two = here_there (Some later) t one two placed.3 placed.1 placed.2 (record { size = here.size; values = longer s x (pos n) here.values; clean = here.clean })

        ended_body : Ends (after body inside) (fails body inside) (breaks body inside) y t ran
        ended_body =
            subst (λ h. Ends (after body h) (fails body h) (breaks body h) y t ran) held_two
            (ones d (c + 1) true later two (subst (λ h. IsWellFormed body d (c + 1) h true) (sym held_two) lock_sound.1) goes here_two)

        keeps_body : Keeps (after body inside) (after locks g) (held_behind (after locks g))
        keeps_body =
            keeps_unlocked (P.Child c p (E.Value x)) (after body inside) (both_of (after body inside) None)
            (keeps_first (after body inside) None (sizes body inside (locked_sized (P.Child c p (E.Value x)) g long)).after (sizes S.Fail g long).after)

        turned : Ends (after one_turn_of g) (fails one_turn_of g) (breaks one_turn_of g) z t done
        turned =
            widened (after locks g) (fails body inside) (breaks body inside) (fails one_turn_of g) (breaks one_turn_of g) y z t (λ h e. inr (in_left h (fails body inside) (g ∷ []) e)) (λ h e. in_left h (breaks body inside) [] e)
            (λ s h. h) (λ s h. here_right (Some b) y.fails t s h) (λ s h. h) done.outcome done.state
            (left_ends (after body inside) (after locks g) keeps_body (fails body inside) (breaks body inside) y t ran.outcome ran.state (locked_by_it ++ ran.events) ended_body)

        stayed : Stays x p two done.state
        stayed = left_stays x p (after locks g) two (after_events locked_by_it ran) (stays x p parents body alone two)

        behind : held_at done.state ≡ g → IsBehind n done.state
        behind same = record {
          place = stayed.value_is ∙ get_or-set_same s.values x (pos n) (pos 0) (omega (arith, room, here.values));
          there =
              let l = held_by done.state.nodes p (subst (λ h. holds h p ≡ true) (sym same) has) in
              stayed.node_is (λ none. none_of (node done.state p) l.0 (λ h. pos 0) l.1 (ap (λ o. of_node o (λ h. pos 0)) none))
              ∙ get_or-set_other (slice_set s.nodes p (place_at home (n + 1))) c p (Some (record { node = slice_index (kids parents home) n; cursor = 0 })) None apart
              ∙ set_found s.nodes p (record { node = home; cursor = cursor }) (place_at home (n + 1)) there;
        }

      same_turn : (h : Nodes) → after one_turn_of g ≡ Some h → h ≡ g
      same_turn h e = subst (λ o. KeepsHeld o g) e keeps

      -- the turns behind one_turn_of n
      past_turn : (n left : ℕ) → ((f : State) → held_at f ≡ g → Here later t f → IsBehind n f → (l : ℕ) → suc l ≡ left → Ends (after one_turn_of g) (fails one_turn_of g) (breaks one_turn_of g) z t (turns left (behaviour parents one_turn_of) f))
          → (o : Ending) (f : State) (es : List Action) → (held_at f ≡ g → IsBehind n f) → EndsBy (after one_turn_of g) (fails one_turn_of g) (breaks one_turn_of g) z t o f
          → Ends (after one_turn_of g) (fails one_turn_of g) (breaks one_turn_of g) z t (and_then (record { outcome = o; state = f; events = es }) (turns left (behaviour parents one_turn_of)))
      past_turn n left more Fails f es is e = e
      past_turn n left more Breaks f es is e = e
      past_turn n left more Returns f es is e = tt
      past_turn n zero more On f es is e = e
      past_turn n (suc l) more On f es is e =
          let same = same_turn (held_at f) e.0 in more f same (again (λ v. (written body v).after) b f e.1) (is same) l refl

      one_then : (left n : ℕ) (s : State) (cursor : ℕ) → held_at s ≡ g → Here later t s → value s x ≡ place_before n → node s p ≡ place_at home cursor → n + suc left ≡ count
          → open_kid cursor (length (kids parents home)) (pos n) ≡ Some n
          → ((f : State) → held_at f ≡ g → Here later t f → IsBehind n f → (l : ℕ) → suc l ≡ left → Ends (after one_turn_of g) (fails one_turn_of g) (breaks one_turn_of g) z t (turns left (behaviour parents one_turn_of) f))
          → Ends (after one_turn_of g) (fails one_turn_of g) (breaks one_turn_of g) z t (turns (suc left) (behaviour parents one_turn_of) s)
      one_then left n s cursor held here place there all opened more =
          let lt : n < count = omega (arith, all) in
          let r = done s n cursor held here place lt there opened in
          subst (λ a. Ends (after one_turn_of g) (fails one_turn_of g) (breaks one_turn_of g) z t (and_then a (turns left (behaviour parents one_turn_of)))) (sym (is_done s n cursor held here place lt there opened))
          (past_turn n left more r.outcome r.state r.events (behind s n cursor held here place lt there opened) (turned s n cursor held here place lt there opened))

      from_turn : (left n : ℕ) (s : State) (cursor : ℕ) → held_at s ≡ g → Here later t s → value s x ≡ place_before n → node s p ≡ place_at home cursor → n + suc left ≡ count
          → open_kid cursor (length (kids parents home)) (pos n) ≡ Some n → Ends (after one_turn_of g) (fails one_turn_of g) (breaks one_turn_of g) z t (turns (suc left) (behaviour parents one_turn_of) s)
      from_turn zero n s cursor held here place there all opened = one_then zero n s cursor held here place there all opened (λ f h i is l e. absurd (omega (arith, e)))
      from_turn (suc left) n s cursor held here place there all opened =
          one_then (suc left) n s cursor held here place there all opened
          (λ f h i is l e. from_turn left (suc n) f (n + 1) h i is.place is.there (omega (arith, all)) (opens_next (length (kids parents home)) n (omega (arith, all, counts))))

      -- all turns, where the first one finds its child passed or not
      all_turns_of : (left : ℕ) (s : State) (cursor : ℕ) → held_at s ≡ g → Here b t s → value s x ≡ negsuc 0 → node s p ≡ place_at home cursor → suc left ≡ count
          → Ends (after one_turn_of g) (fails one_turn_of g) (breaks one_turn_of g) z t (turns (suc left) (behaviour parents one_turn_of) s)
      all_turns_of left s cursor held here place there all = by (open_kid cursor (length (kids parents home)) (pos 0)) refl
        where
          wide : Here later t s
          wide = record { size = here.size; values = here.values; clean = λ f. here.clean (or_parts b (unwrap_or (written body b).after false) f).0 }

          passed : open_kid cursor (length (kids parents home)) (pos 0) ≡ None → Ends (after one_turn_of g) (fails one_turn_of g) (breaks one_turn_of g) z t (turns (suc left) (behaviour parents one_turn_of) s)
          passed opened =
              subst (λ a. Ends (after one_turn_of g) (fails one_turn_of g) (breaks one_turn_of g) z t (and_then a (turns left (behaviour parents one_turn_of))))
              (sym (turn_is s 0 home cursor None place (omega (arith, few)) here.values there opened ∙ ap (λ h. after_events [] (leaving (after locks h) (lock_done (plain Fails (with_value s x (pos 0)))))) held))
              (inl held, here_left (Some b) y.fails t (with_value s x (pos 0)) (record { size = here.size; values = longer s x (pos 0) here.values; clean = here.clean }))

          by : (o : Option ℕ) → open_kid cursor (length (kids parents home)) (pos 0) ≡ o → Ends (after one_turn_of g) (fails one_turn_of g) (breaks one_turn_of g) z t (turns (suc left) (behaviour parents one_turn_of) s)
          by None opened = passed opened
          by (Some n) opened =
              from_turn left 0 s cursor held wide place there (omega (arith, all)) (opened ∙ ap Some (opens_first cursor (length (kids parents home)) n opened))

      module _ (sized : AnySized (behind_loop true (after one_turn_of g) (breaks one_turn_of g) g)) where
        abbrev all_of_walk : Option Nodes
        all_of_walk = behind_loop true (after one_turn_of g) (breaks one_turn_of g) g

        finish_walk : (o : Ending) (s : State) (es : List Action) → EndsBy (after one_turn_of g) (fails one_turn_of g) (breaks one_turn_of g) z t o s
            → Ends all_of_walk (g ∷ fails one_turn_of g) [] (behind_turns true b y) t (leaving all_of_walk (broken (record { outcome = o; state = s; events = es })))
        finish_walk Fails s es e = (inr e.0, e.1)
        finish_walk Returns s es e = tt
        finish_walk On s es e =
            let keeps_here : Keeps (Some (held_at s)) all_of_walk (held_behind all_of_walk) = subst (λ h. Keeps (Some h) all_of_walk (held_behind all_of_walk)) (sym (same_turn (held_at s) e.0)) (keeps_end one_turn_of g true refl sized) in
            left_ends (Some (held_at s)) all_of_walk keeps_here (g ∷ fails one_turn_of g) [] (behind_turns true b y) t On s es (refl, here_right (Some b) (or_of y.after y.breaks) t s (here_left y.after y.breaks t s e.1))
        finish_walk Breaks s es e =
            left_ends (Some (held_at s)) all_of_walk (keeps_break one_turn_of g true (held_at s) e.0 sized) (g ∷ fails one_turn_of g) [] (behind_turns true b y) t On s es
            (refl, here_right (Some b) (or_of y.after y.breaks) t s (here_right y.after y.breaks t s e.1))

        walk_turns : (n : ℕ) (s : State) (cursor : ℕ) → held_at s ≡ g → Here b t s → value s x ≡ negsuc 0 → node s p ≡ place_at home cursor → n ≡ count
            → Ends all_of_walk (g ∷ fails one_turn_of g) [] (behind_turns true b y) t (leaving all_of_walk (broken (turns n (behaviour parents one_turn_of) s)))
        walk_turns zero s cursor held here place there all =
            let keeps_here : Keeps (Some (held_at s)) all_of_walk (held_behind all_of_walk) = subst (λ h. Keeps (Some h) all_of_walk (held_behind all_of_walk)) (sym held) (keeps_end one_turn_of g true refl sized) in
            left_ends (Some (held_at s)) all_of_walk keeps_here (g ∷ fails one_turn_of g) [] (behind_turns true b y) t On s [] (refl, here_left (Some b) (or_of y.after y.breaks) t s here)
        walk_turns (suc n) s cursor held here place there all =
            let r = turns (suc n) (behaviour parents one_turn_of) s in finish_walk r.outcome r.state r.events (all_turns_of n s cursor held here place there all)

    -- the all_of_walk loop, from the place before the first child on
    walk_ends : (o : Box (Unit {0}) Global) (d m : ℕ) (b : Bool) (s : State) → IsWellFormed (S.RepeatUpTo' (E.Children p) w o one_turn_of) d m (held_at s) true → AllTurn body → Here b t s → value s x ≡ negsuc 0
        → Ends (after (S.RepeatUpTo' (E.Children p) w o one_turn_of) (held_at s)) (fails (S.RepeatUpTo' (E.Children p) w o one_turn_of) (held_at s)) [] (behind_turns true b (in_turns (written body) b)) t
        (behaviour parents (S.RepeatUpTo' (E.Children p) w o one_turn_of) s)
    walk_ends o d m b s sound goes here place = by (node s p) (found.0) (found.1) refl
      where
        loop : Statement
        loop = S.RepeatUpTo' (E.Children p) w o one_turn_of

        g : Nodes
        g = held_at s

        found : (h : Held) × (node s p ≡ Some h)
        found = held_by s.nodes p sound.0

        size : length g ≡ NODE_REGISTERS
        size = held_length s.nodes ∙ here.size

        ways : Ways
        ways = behind_turns true b (in_turns (written body) b)

        go : ℕ → Done
        go n = leaving (after loop g) (broken (turns n (behaviour parents one_turn_of) s))

        counted_walk : (h : Held) → node s p ≡ Some h → (f : Bool) → nat_le (length (kids parents h.node)) w ≡ f
            → Ends (after loop g) (fails loop g) [] ways t (if f then go (length (kids parents h.node)) else plain Fails s)
        counted_walk h e false f = (inl refl, here_left (Some b) (written body (b || unwrap_or (written body b).after false)).fails t s here)
        counted_walk h e true f =
            walk_turns d m b g sound.2 sound.1 goes size h.node (length (kids parents h.node)) refl (leb-true (length (kids parents h.node)) w f) (sizes loop g size).after
            (length (kids parents h.node)) s h.cursor refl here place e refl

        by : (o : Option Held) (h : Held) → o ≡ Some h → node s p ≡ o
            → Ends (after loop g) (fails loop g) [] ways t (given (of_node o (λ h. pos (length (kids parents h.node)))) s (λ y. counted w y s go))
        by None h e f = cc
        by (Some k) h e f = counted_walk k f (nat_le (length (kids parents k.node)) w) refl

  -- what is proved of the body of a loop over children
  abbrev BodyBounded : Statement → Type 0
  BodyBounded (S.RepeatUpTo' e w p a) = BodyBounded a
  BodyBounded (S.Sequence' p a q b) = BodyBounded b
  BodyBounded (S.Lock' place p a q o) = Bounded a
  BodyBounded a = Unit {0}

  walked_ends : (x : ℕ) (a : Statement) → BodyBounded a → is_walk x (E.Constant (negsuc 0)) a ≡ true → (d m : ℕ) (l b : Bool) (s : State) → IsWellFormed a d m (held_at s) l → AllTurn a → Here b t s
      → value s x ≡ negsuc 0 → Ends (after a (held_at s)) (fails a (held_at s)) (breaks a (held_at s)) (behind_turns true b (in_turns (body_written a) b)) t (behaviour parents a s)
  walked_ends x (S.RepeatUpTo' (E.Children n) w p (S.Sequence' q step u (S.Lock' place k body j o))) ones h d m l b s sound turn here first =
      let walk = walk_of x w n step place body o p q u k j (E.Constant (negsuc 0)) h in
      let one = walk.step_is in
      let kid = walk.place_is in
      let same = ap (whole step place) walk.other_is ∙ ap (λ z. whole step z S.Fail) kid.is ∙ ap (λ z. whole z (P.Child kid.child n (E.Value x)) S.Fail) one.is in
      subst Walked (sym same) (λ sound turn. walk_ends q u k j one.left one.right x kid.child n w body ones walk.alone walk.room walk.few p d m b s sound turn.1.1.0 here first) sound turn
    where
      whole : Statement → Place → Statement → Statement
      whole step place o = S.RepeatUpTo' (E.Children n) w p (S.Sequence' q step u (S.Lock' place k body j o))

      Walked : Statement → Type 0
      Walked a = IsWellFormed a d m (held_at s) l → AllTurn a → Ends (after a (held_at s)) (fails a (held_at s)) (breaks a (held_at s)) (behind_turns true b (in_turns (body_written a) b)) t (behaviour parents a s)
  walked_ends x a ones h d m l b s sound turn here first = cc

  let_ends : (p : _) (v : ℕ) (e : Expression) (a : Statement) → Bounded a → BodyBounded a → Bounded (S.Let' v e p a)
  let_ends p v e a ones inner d m l w s sound turn h = by (is_walk v e a) refl
    where
      g : Nodes
      g = held_at s

      go : ℤ → Done
      go y = behaviour parents a (with_value s v y)

      size : length g ≡ NODE_REGISTERS
      size = held_length s.nodes ∙ h.size

      there : (y : ℤ) → Here w t (with_value s v y)
      there y = record { size = h.size; values = longer s v y h.values; clean = h.clean }

      ends : (x : Ways) → Ends (after a g) (here_if (may_fail e) g ++ fails a g) (breaks a g) (failing_if (may_fail e) w x) t (given (number parents e s) s go)
          → Ends (after a g) (here_if (may_fail e) g ++ fails a g) (breaks a g) (failing_if (may_fail e) w x) t (behaviour parents (S.Let' v e p a) s)
      ends x f =
          let r = given (number parents e s) s go in
          left_ends (after a g) (after a g) (keeps_itself (after a g) (sizes a g size).after) (here_if (may_fail e) g ++ fails a g) (breaks a g) (failing_if (may_fail e) w x) t r.outcome r.state r.events f

      by : (f : Bool) → is_walk v e a ≡ f
          → Ends (after a g) (here_if (may_fail e) g ++ fails a g) (breaks a g) (failing_if (may_fail e) w (if f then behind_turns true w (in_turns (body_written a) w) else written a w)) t
          (behaviour parents (S.Let' v e p a) s)
      by false same =
          ends (written a w)
          (given_ends (number parents e s) (may_fail e) w s go (after a g) (fails a g) (breaks a g) (written a w) t (number_fails parents e d s sound.1) h (λ y. ones (d + 1) m l w (with_value s v y) sound.2 turn (there y)))
      by true same =
          let x = behind_turns true w (in_turns (body_written a) w) in
          let begins = walk_begins v e a same in
          let first = get_or-set_same s.values v (negsuc 0) (pos 0) (omega (arith, begins.1, h.values)) in
          ends x
          (subst (λ e. Ends (after a g) (here_if (may_fail e) g ++ fails a g) (breaks a g) (failing_if (may_fail e) w x) t (given (number parents e s) s go)) (sym begins.0)
          (walked_ends v a inner (subst (λ e. is_walk v e a ≡ true) begins.0 same) (d + 1) m l w (with_value s v (negsuc 0)) sound.2 turn (there (negsuc 0)) first))

  mutual
    bounded : (a : Statement) → Bounded a
    bounded S.Skip d m l w s sound turn h = (refl, h)
    bounded (S.Sequence' p a q b) d m l w s sound turn h = sequence_ends p q a b (bounded a) (bounded b) d m l w s sound turn h
    bounded (S.Assign v e) d m l w s sound turn h = assign_ends v e d m l w s sound turn h
    bounded (S.Write n f e) d m l w s sound turn h = write_ends n f e d m l w s sound turn h
    bounded (S.Emit e) d m l w s sound turn h = emit_ends e d m l w s sound turn h
    bounded (S.Free n) d m l w s sound turn h = free_ends n d m l w s sound turn h
    bounded (S.Descend n e) d m l w s sound turn h = descend_ends n e d m l w s sound turn h
    bounded (S.Take n k) d m l w s sound turn h = take_ends n k d m l w s sound turn h
    bounded S.Break d m l w s sound turn h = (inl refl, h)
    bounded S.Return d m l w s sound turn h = tt
    bounded S.Fail d m l w s sound turn h = (inl refl, h)
    bounded (S.If' c p a q b) d m l w s sound turn h = if_ends p q c a b (bounded a) (bounded b) d m l w s sound turn h
    bounded (S.Let' v e p a) d m l w s sound turn h = let_ends p v e a (bounded a) (body_bounded a) d m l w s sound turn h
    bounded (S.LetElse' v e p a q o) d m l w s sound turn h = else_ends p q v e a o (bounded a) (bounded o) d m l w s sound turn h
    bounded (S.Lock' place p a q o) d m l w s sound turn h = lock_ends p q place a o (bounded a) (bounded o) d m l w s sound turn h
    bounded (S.Try' p a q b) d m l w s sound turn h = try_ends p q a b (bounded a) (bounded b) d m l w s sound turn h
    bounded (S.Repeat' n p a) d m l w s sound turn h = repeat_ends p n a (bounded a) d m l w s sound turn h
    bounded (S.RepeatUpTo' e n p a) d m l w s sound turn h = counted_ends p e n a (bounded a) d m l w s sound turn h
    bounded (S.At' offset p a) d m l w s sound turn h = bounded a d m l w s sound turn h

    body_bounded : (a : Statement) → BodyBounded a
    body_bounded (S.RepeatUpTo' e w p a) = body_bounded a
    body_bounded (S.Sequence' p a q b) = body_bounded b
    body_bounded (S.Lock' place p a q o) = bounded a
    body_bounded a = tt

-- ---- atomic procedures

-- where such a statement fails, nothing was written
pub nothing_written : (parents : List ℕ) (a : Statement) (d : ℕ) (args : List ℤ) (t : Records) → IsWellFormed a d 0 none_held false → AllTurn a → IsAtomic a → WritesNothing parents a args t
nothing_written parents a d args t sound turn atomic failed =
    let s = start args t in
    let r = behaviour parents a s in
    let empty : Option Held = None in
    let fill : List ℤ = replicate (VALUE_REGISTERS - length args) (pos 0) in
    let enough : VALUE_REGISTERS ≤ length (args ++ fill) = omega (arith, length-append args fill, length-replicate (VALUE_REGISTERS - length args) (pos 0)) in
    by r.outcome (bounded parents t a d 0 false false s sound turn (record { size = length-replicate NODE_REGISTERS empty; values = enough; clean = λ e. refl })) failed (written a false).fails refl atomic
  where
    by : (o : Ending) → EndsBy (after a none_held) (fails a none_held) (breaks a none_held) (written a false) t o (behaviour parents a (start args t)).state → o ≡ Fails
        → (p : Option Bool) → (written a false).fails ≡ p → IfSome p (λ w. w ≡ false) → (behaviour parents a (start args t)).state.records ≡ t
    by On e f p is none = cc
    by Breaks e f p is none = cc
    by Returns e f p is none = cc
    by Fails e f None is none = absurd (subst (λ q. HereBy q t (behaviour parents a (start args t)).state) is e.1)
    by Fails e f (Some w) is none = let h : Here w t (behaviour parents a (start args t)).state = subst (λ q. HereBy q t (behaviour parents a (start args t)).state) is e.1 in h.clean none

-- of a procedure's body, and of the body with its `else`
pub atomic_writes_nothing : {before : List Declaration} {names : Names} {text : TextProcedure} {whole : Statement} (read : IsBody before names text whole) → text.is_atomic ≡ true → (arity : ℕ) (parents : List ℕ) (args : List ℤ) (t : Records)
    → IsWellFormed whole arity 0 none_held false → AllTurn whole → WritesNothing parents read.body args t × WritesNothing parents read.handled args t
atomic_writes_nothing {text = text} read marked arity parents args t sound turn =
    by read.handled_is read.whole_is sound turn (read.atomic marked) (read.atomic_else marked)
  where
    by : {names : Names} {why : Option Name} {body handler handled whole : Statement} → IsCaught names body handler why handled → IsTried handled S.Skip whole → IsWellFormed whole arity 0 none_held false → AllTurn whole → IsAtomic body
        → IsAtomic handled → WritesNothing parents body args t × WritesNothing parents handled args t
    by {body = body} {handler = handler} (unnamed (tried {p = p} {q = q})) tried sound turn atomic atomic_else =
        (nothing_written parents body arity args t sound.0.0 turn.0.0 atomic, nothing_written parents (S.Try' p body q handler) arity args t sound.0 turn.0 atomic_else)
    by {body = body} {handled = handled} (named tried) tried sound turn atomic atomic_else =
        (nothing_written parents body (arity + 1) args t sound.0.2.0 turn.0.0 atomic, nothing_written parents handled arity args t sound.0 turn.0 atomic_else)
