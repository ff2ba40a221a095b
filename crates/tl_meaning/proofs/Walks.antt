-- What a statement that leaves a value and a node alone does to them: the value stays, and the node, if it is still held, with its cursor.
use Rattle.std.proofs.Common.{◌≡◌, ◌≢◌, ℕ, zero, suc, ◌+◌, List, [], ◌∷◌, length, Bool, true, false, ◌⊎◌, inl, inr, Option, Some, None, refl, sym, ap, ◌∙◌, if◌then◌else◌}
use Rattle.std.specs.Prelude.{ℤ, pos, negsuc, not, ◌&&◌, slice_set, slice_index, get_or, nat_eq, nat_le}
use Rattle.std.specs.Int.Signed.{lt_z}
use Rattle.std.specs.Ordering.{int_eq}
use Rattle.std.proofs.lemmas.Bool.{eqb-false}
use Rattle.std.proofs.lemmas.Bool.Decides.{eqb_tells}
use Rattle.std.proofs.lemmas.List.{length-set, get_or-set_other}
use Rattle.tl_instr.specs.declared.operand.TheConstants.{NODE_REGISTERS}
use Rattle.tl_tree.specs.Shape.{kids}
use Rattle.tl_tree_locking.specs.declared.action.Action.{Action}
use Rattle.tl_machine.specs.Runs.{Held, State}
use Rattle.tl_machine.specs.Alone.{value, node, with_value, with_node, numbered, open_kid}
use Rattle.tl_lowering.specs.declared.program.Place.{Place}
use Rattle.tl_lowering.specs.declared.program.Place.TheVariants as P
use Rattle.tl_lowering.specs.declared.program.Statement.{Statement}
use Rattle.tl_lowering.specs.declared.program.Statement.TheVariants as S
use Rattle.tl_lowering.specs.Outcomes.{handled_by, after, fails}
use Rattle.tl_lowering.specs.Sets.{Nodes, holds, all_of}
use Rattle.tl_lowering.specs.Walks.{locks_elsewhere, leaves_alone}
use Rattle.tl_meaning.specs.Meaning.{Ending, On, Breaks, Fails, Returns, Done, plain, given, number, truth, after_events, is_on, is_failure, and_then, or_else, held_at, free_by, free, leave_below, leave_to, leave, lock_node, lock_kid, lock_child_by, lock_child, lock_in_order, lock_pair, lock_place, go_down, descend_by, write, leaving, chosen, turns, broken, counted, behaviour}

-- ---- what stays

pub both_are : (a b : Bool) → (a && b) ≡ true → (a ≡ true) × (b ≡ true)
both_are true b e = (refl, e)
both_are false b e = cc

not_is : (b : Bool) → not b ≡ true → b ≡ false
not_is true e = cc
not_is false e = refl

differ : (i j : ℕ) → not (nat_eq i j) ≡ true → i ≢ j
differ i j e = eqb-false i j (not_is (nat_eq i j) e)

-- the value is the same, and the node that the register holds, if it still holds one
pub record Stays (x n : ℕ) (s u : State) : Type 0 where
  pub size : length u.values ≡ length s.values
  pub value_is : value u x ≡ value s x
  pub node_is : node u n ≢ None → node u n ≡ node s n

none_there : (l : List (Option Held)) (i : ℕ) → get_or (slice_set l i None) i None ≡ None
none_there [] i = refl
none_there (y ∷ l) zero = refl
none_there (y ∷ l) (suc i) = none_there l i

module _ (x n : ℕ) where
  pub itself : (s : State) → Stays x n s s
  itself s = record { size = refl; value_is = refl; node_is = λ h. refl }

  pub then_stays : (s t u : State) → Stays x n s t → Stays x n t u → Stays x n s u
  then_stays s t u f g = record {
    size = g.size ∙ f.size;
    value_is = g.value_is ∙ f.value_is;
    node_is = λ h. let e = g.node_is h in e ∙ f.node_is (λ none. h (e ∙ none));
  }

  pub value_stays : (s : State) (v : ℕ) (y : ℤ) → v ≢ x → Stays x n s (with_value s v y)
  value_stays s v y ne = record { size = length-set s.values v y; value_is = get_or-set_other s.values v x y (pos 0) (λ e. ne (sym e)); node_is = λ h. refl }

  pub node_stays : (s : State) (m : ℕ) (h : Option Held) → m ≢ n → Stays x n s (with_node s m h)
  node_stays s m h ne = record { size = refl; value_is = refl; node_is = λ k. get_or-set_other s.nodes m n h None (λ e. ne (sym e)) }

  pub empty_stays : (s : State) (m : ℕ) → Stays x n s (with_node s m None)
  empty_stays s m = by (eqb_tells m n)
    where
      by : ((nat_eq m n ≡ true) × (m ≡ n)) ⊎ ((nat_eq m n ≡ false) × (m ≢ n)) → Stays x n s (with_node s m None)
      by (inl (e, same)) = record { size = refl; value_is = refl; node_is = λ k. absurd (k (ap (λ i. get_or (slice_set s.nodes i None) n None) same ∙ none_there s.nodes n)) }
      by (inr (e, ne)) = node_stays s m None ne

  free_stays : (m : ℕ) (s : State) → Stays x n s (free m s).state
  free_stays m s = by (node s m)
    where
      by : (o : Option Held) → Stays x n s (free_by o m s).state
      by None = itself s
      by (Some h) = empty_stays s m

  and_stays : (s : State) (d : Done) (more : State → Done) → Stays x n s d.state → ((t : State) → Stays x n t (more t).state) → Stays x n s (and_then d more).state
  and_stays s d more f g = by (is_on d.outcome)
    where
      by : (b : Bool) → Stays x n s (if b then after_events d.events (more d.state) else d).state
      by true = then_stays s d.state (more d.state).state f (g d.state)
      by false = f

  or_stays : (s : State) (d : Done) (other : State → Done) → Stays x n s d.state → ((t : State) → Stays x n t (other t).state) → Stays x n s (or_else d other).state
  or_stays s d other f g = by (is_failure d.outcome)
    where
      by : (b : Bool) → Stays x n s (if b then after_events d.events (other d.state) else d).state
      by true = then_stays s d.state (other d.state).state f (g d.state)
      by false = f

  below_stays : (m : ℕ) (kept : Nodes) (s : State) → Stays x n s (leave_below m kept s).state
  below_stays zero kept s = itself s
  below_stays (suc m) kept s = and_stays s (if holds kept m then plain On s else free m s) (leave_below m kept) (by (holds kept m)) (below_stays m kept)
    where
      by : (b : Bool) → Stays x n s (if b then plain On s else free m s).state
      by true = itself s
      by false = free_stays m s

  to_stays : (k : Option Nodes) (s : State) → Stays x n s (leave_to k s).state
  to_stays None s = itself s
  to_stays (Some kept) s = below_stays NODE_REGISTERS kept s

  pub left_stays : (k : Option Nodes) (s : State) (d : Done) → Stays x n s d.state → Stays x n s (leaving k d).state
  left_stays k s d f = and_stays s d (leave_to k) f (to_stays k)

  given_stays : (o : Option ℤ) (s : State) (go : ℤ → Done) → ((y : ℤ) → Stays x n s (go y).state) → Stays x n s (given o s go).state
  given_stays None s go f = itself s
  given_stays (Some y) s go f = f y

  child_stays : (parents : List ℕ) (m p : ℕ) → m ≢ n → p ≢ n → (y : ℤ) (s : State) → Stays x n s (lock_child parents m p y s).state
  child_stays parents m p mn pn y s = by (node s p)
    where
      kid : (h : Held) (o : Option ℕ) → Stays x n s (lock_kid parents m p h o s).state
      kid h None = itself s
      kid h (Some i) =
          let u = with_node s p (Some (record { node = h.node; cursor = i + 1 })) in
          then_stays s u _ (node_stays s p _ pn) (node_stays u m (Some (record { node = slice_index (kids parents h.node) i; cursor = 0 })) mn)

      by : (o : Option Held) → Stays x n s (lock_child_by parents m p o y s).state
      by None = itself s
      by (Some h) = kid h (open_kid h.cursor (length (kids parents h.node)) y)

  order_stays : (parents : List ℕ) (m k p : ℕ) → m ≢ n → k ≢ n → p ≢ n → (y z : ℤ) (s : State) → Stays x n s (lock_in_order parents m y k z p s).state
  order_stays parents m k p mn kn pn y z s =
      and_stays s (lock_child parents m p y s) (λ s. or_else (lock_child parents k p z s) (λ s. and_then (free m s) (plain Fails))) (child_stays parents m p mn pn y s)
      (λ t. or_stays t (lock_child parents k p z t) (λ s. and_then (free m s) (plain Fails)) (child_stays parents k p kn pn z t) (λ u. and_stays u (free m u) (plain Fails) (free_stays m u) itself))

  pair_stays : (parents : List ℕ) (m k p : ℕ) → m ≢ n → k ≢ n → p ≢ n → (y z : ℤ) (s : State) → Stays x n s (lock_pair parents m y k z p s).state
  pair_stays parents m k p mn kn pn y z s = by (int_eq y z) (lt_z y z)
    where
      by : (e l : Bool) → Stays x n s (if e then plain Fails s else (if l then lock_in_order parents m y k z p s else lock_in_order parents k z m y p s)).state
      by true l = itself s
      by false true = order_stays parents m k p mn kn pn y z s
      by false false = order_stays parents k m p kn mn pn z y s

  place_stays : (parents : List ℕ) (place : Place) → locks_elsewhere place n ≡ true → (s : State) → Stays x n s (lock_place parents place s).state
  place_stays parents (P.Node m e) h s = given_stays (number parents e s) s (λ y. lock_node m (numbered (length parents) y) s) (λ y. by (numbered (length parents) y))
    where
      by : (o : Option ℕ) → Stays x n s (lock_node m o s).state
      by None = itself s
      by (Some i) = node_stays s m (Some (record { node = i; cursor = 0 })) (differ m n h)
  place_stays parents (P.Child m p e) h s =
      let both = both_are (not (nat_eq m n)) (not (nat_eq p n)) h in
      given_stays (number parents e s) s (λ y. lock_child parents m p y s) (λ y. child_stays parents m p (differ m n both.0) (differ p n both.1) y s)
  place_stays parents (P.Pair m k p a b) h s =
      let both = both_are (not (nat_eq m n)) (not (nat_eq k n) && not (nat_eq p n)) h in
      let more = both_are (not (nat_eq k n)) (not (nat_eq p n)) both.1 in
      given_stays (number parents a s) s (λ y. given (number parents b s) s (λ z. lock_pair parents m y k z p s))
      (λ y. given_stays (number parents b s) s (λ z. lock_pair parents m y k z p s) (λ z. pair_stays parents m k p (differ m n both.0) (differ k n more.0) (differ p n more.1) y z s))

  turns_stay : (body : State → Done) → ((s : State) → Stays x n s (body s).state) → (k : ℕ) (s : State) → Stays x n s (turns k body s).state
  turns_stay body f zero s = itself s
  turns_stay body f (suc k) s = and_stays s (body s) (turns k body) (f s) (turns_stay body f k)

  broken_stays : (s : State) (o : Ending) (u : State) (es : List Action) → Stays x n s u → Stays x n s (broken (record { outcome = o; state = u; events = es })).state
  broken_stays s On u es f = f
  broken_stays s Breaks u es f = f
  broken_stays s Fails u es f = f
  broken_stays s Returns u es f = f

  loop_stays : (k : Option Nodes) (body : State → Done) → ((s : State) → Stays x n s (body s).state) → (w : ℕ) (s : State) → Stays x n s (leaving k (broken (turns w body s))).state
  loop_stays k body f w s =
      let d = turns w body s in left_stays k s (broken d) (broken_stays s d.outcome d.state d.events (turns_stay body f w s))

  counted_stays : (w : ℕ) (y : ℤ) (s : State) (go : ℕ → Done) → ((k : ℕ) → Stays x n s (go k).state) → Stays x n s (counted w y s go).state
  counted_stays w (negsuc y) s go f = f 0
  counted_stays w (pos y) s go f = by (nat_le y w)
    where
      by : (b : Bool) → Stays x n s (if b then go y else plain Fails s).state
      by true = f y
      by false = itself s

  choice_stays : (s : State) (f g : State → Done) → ((t : State) → Stays x n t (f t).state) → ((t : State) → Stays x n t (g t).state) → (o : Option Bool) → Stays x n s (chosen o s f g).state
  choice_stays s f g one two None = itself s
  choice_stays s f g one two (Some true) = one s
  choice_stays s f g one two (Some false) = two s

  abbrev else_done : State → ℕ → (State → Done) → (State → Done) → Option ℤ → Done
  else_done s v f g o = elim o [ Some y ↦ f (with_value s v y) | None ↦ g s ]

  else_stays : (s : State) (v : ℕ) (f g : State → Done) → v ≢ x → ((t : State) → Stays x n t (f t).state) → ((t : State) → Stays x n t (g t).state) → (o : Option ℤ)
      → Stays x n s (else_done s v f g o).state
  else_stays s v f g ne one two None = two s
  else_stays s v f g ne one two (Some y) = then_stays s (with_value s v y) _ (value_stays s v y ne) (one (with_value s v y))

  way_stays : (s : State) (f g : State → Done) → ((t : State) → Stays x n t (f t).state) → ((t : State) → Stays x n t (g t).state) → (b : Bool) → Stays x n s (if b then f s else g s).state
  way_stays s f g one two true = one s
  way_stays s f g one two false = two s

  pub stays : (parents : List ℕ) (a : Statement) → leaves_alone a x n ≡ true → (s : State) → Stays x n s (behaviour parents a s).state
  stays parents S.Skip h s = itself s
  stays parents (S.Sequence' p a q b) h s =
      let both = both_are (leaves_alone a x n) (leaves_alone b x n) h in
      and_stays s (behaviour parents a s) (behaviour parents b) (stays parents a both.0 s) (stays parents b both.1)
  stays parents (S.Assign v e) h s = given_stays (number parents e s) s (λ y. plain On (with_value s v y)) (λ y. value_stays s v y (differ v x h))
  stays parents (S.Write m f e) h s = given_stays (number parents e s) s (λ y. write f y (node s m) s) (λ y. by y (node s m))
    where
      by : (y : ℤ) (o : Option Held) → Stays x n s (write f y o s).state
      by y None = itself s
      by y (Some k) = record { size = refl; value_is = refl; node_is = λ j. refl }
  stays parents (S.Emit e) h s = given_stays (number parents e s) s _ (λ y. itself s)
  stays parents (S.Free m) h s = free_stays m s
  stays parents (S.Descend m e) h s = given_stays (number parents e s) s (λ y. descend_by parents m (node s m) y s) (λ y. by y (node s m))
    where
      down : (k : Held) (o : Option ℕ) → Stays x n s (go_down m k o parents s).state
      down k None = itself s
      down k (Some i) = node_stays s m (Some (record { node = slice_index (kids parents k.node) i; cursor = 0 })) (differ m n h)

      by : (y : ℤ) (o : Option Held) → Stays x n s (descend_by parents m o y s).state
      by y None = itself s
      by y (Some k) = down k (open_kid k.cursor (length (kids parents k.node)) y)
  stays parents (S.Take m k) h s =
      and_stays s (free m s) (λ s. plain On (with_node (with_node s k None) m (node s k))) (free_stays m s)
      (λ t. then_stays t (with_node t k None) _ (empty_stays t k) (node_stays (with_node t k None) m (node t k) (differ m n h)))
  stays parents S.Break h s = itself s
  stays parents S.Return h s = itself s
  stays parents S.Fail h s = itself s
  stays parents (S.If' c p a q b) h s =
      let both = both_are (leaves_alone a x n) (leaves_alone b x n) h in
      left_stays (after (S.If' c p a q b) (held_at s)) s (chosen (truth parents c s) s (behaviour parents a) (behaviour parents b))
      (choice_stays s (behaviour parents a) (behaviour parents b) (stays parents a both.0) (stays parents b both.1) (truth parents c s))
  stays parents (S.Let' v e p a) h s =
      let both = both_are (not (nat_eq v x)) (leaves_alone a x n) h in
      left_stays (after (S.Let' v e p a) (held_at s)) s (given (number parents e s) s (λ y. behaviour parents a (with_value s v y)))
      (given_stays (number parents e s) s (λ y. behaviour parents a (with_value s v y))
      (λ y. then_stays s (with_value s v y) _ (value_stays s v y (differ v x both.0)) (stays parents a both.1 (with_value s v y))))
  stays parents (S.LetElse' v e p a q o) h s =
      let both = both_are (not (nat_eq v x)) (leaves_alone a x n && leaves_alone o x n) h in
      let more = both_are (leaves_alone a x n) (leaves_alone o x n) both.1 in
      left_stays (after (S.LetElse' v e p a q o) (held_at s)) s (elim (number parents e s) [ Some y ↦ behaviour parents a (with_value s v y) | None ↦ behaviour parents o s ])
      (else_stays s v (behaviour parents a) (behaviour parents o) (differ v x both.0) (stays parents a more.0) (stays parents o more.1) (number parents e s))
  stays parents (S.Lock' place p a q o) h s =
      let both = both_are (locks_elsewhere place n) (leaves_alone a x n && leaves_alone o x n) h in
      let more = both_are (leaves_alone a x n) (leaves_alone o x n) both.1 in
      let r = lock_place parents place s in
      left_stays (after (S.Lock' place p a q o) (held_at s)) s (after_events r.events (if is_on r.outcome then behaviour parents a r.state else behaviour parents o r.state))
      (then_stays s r.state _ (place_stays parents place both.0 s) (way_stays r.state (behaviour parents a) (behaviour parents o) (stays parents a more.0) (stays parents o more.1) (is_on r.outcome)))
  stays parents (S.Try' p a q b) h s =
      let both = both_are (leaves_alone a x n) (leaves_alone b x n) h in
      let start = handled_by (held_at s) (all_of (fails a (held_at s))) in
      left_stays (after (S.Try' p a q b) (held_at s)) s (or_else (behaviour parents a s) (λ t. and_then (leave start t) (behaviour parents b)))
      (or_stays s (behaviour parents a s) (λ t. and_then (leave start t) (behaviour parents b)) (stays parents a both.0 s)
      (λ t. and_stays t (leave start t) (behaviour parents b) (below_stays NODE_REGISTERS start t) (stays parents b both.1)))
  stays parents (S.Repeat' w p a) h s = loop_stays (after (S.Repeat' w p a) (held_at s)) (behaviour parents a) (stays parents a h) w s
  stays parents (S.RepeatUpTo' e w p a) h s =
      given_stays (number parents e s) s (λ y. counted w y s (λ k. leaving (after (S.RepeatUpTo' e w p a) (held_at s)) (broken (turns k (behaviour parents a) s))))
      (λ y. counted_stays w y s _ (λ k. loop_stays (after (S.RepeatUpTo' e w p a) (held_at s)) (behaviour parents a) (stays parents a h) k s))
  stays parents (S.At' offset p a) h s = stays parents a h s
