-- The code that locks two children in rising order.
use Rattle.std.proofs.Common.{◌≡◌, ◌≢◌, ℕ, zero, suc, ◌-◌, ◌<◌, ◌≤◌, List, [], ◌∷◌, ◌++◌, length, get_or, Bool, true, false, Option, Some, None, if◌then◌else◌, refl, sym, ap, ap₂, ◌∙◌, subst, arith, append-nil}
use Rattle.std.specs.Prelude.{slice_set, ℤ, pos, negsuc}
use Rattle.std.specs.Int.Signed.{lt_z}
use Rattle.std.specs.Ordering.{int_eq}
use Rattle.std.proofs.lemmas.List.{length-set, get_or-set_same, set_comm}
use Rattle.std.proofs.lemmas.Bool.{ltb-true}
use Rattle.std.proofs.lemmas.Bool.Decides.{Decides-int_eq}
use Rattle.tl_instr.specs.declared.operand.TheConstants.{NODE_REGISTERS}
use Rattle.tl_instr.specs.declared.instr.Instr.{Instr}
use Rattle.tl_instr.specs.declared.instr.Instr.TheVariants as I
use Rattle.tl_tree_locking.specs.declared.action.Action.{Action}
use Rattle.tl_tree_locking.specs.declared.action.Action.TheVariants as did
use Rattle.tl_machine.specs.Runs.{State, Run}
use Rattle.tl_machine.specs.Alone.{value, with_node, jump_if}
use Rattle.tl_machine.specs.Left.{Frame}
use Rattle.tl_machine.proofs.Slots.{held_by}
use Rattle.tl_lowering.specs.declared.program.Expression.{Expression}
use Rattle.tl_lowering.specs.declared.program.Place.TheVariants as P
use Rattle.tl_compiler.specs.Labels.{target_of}
use Rattle.tl_compiler.specs.Numbers.{register_of, behind, operand_code}
use Rattle.tl_lowering.specs.Sets.{Nodes, holds, with_node as also}
use Rattle.tl_compiler.specs.Statements.{in_order_code, pair_code, place_code}
use Rattle.tl_meaning.specs.Meaning.{Ending, On, Breaks, Fails, Returns, Done, plain, and_then, or_else, free, free_by, lock_child, lock_in_order, lock_pair, lock_place, given, number, held_at}
use Rattle.tl_meaning.specs.Leading.{Leads, Runs, from_label, IsInside}
use Rattle.tl_compiler.specs.Tails.{Tail}
use Rattle.tl_lowering.specs.Sound.{IsReadable}
use Rattle.tl_meaning.specs.Endings.{Mirrors}
use Rattle.tl_meaning.proofs.Steps.{and_on, further_in, in_range, goes_to_next, goes_to_label}
use Rattle.tl_compiler.proofs.TailLemmas.{tail_further, tail_behind, tail_length}
use Rattle.tl_compiler.proofs.Stretches.{tail_of_stretch}
use Rattle.tl_meaning.proofs.NumberRuns.{OperandEnds, readable_further, kept_below, register_below, behind_above, operand_runs}
use Rattle.tl_compiler.proofs.NumberStretches.{operand_tail}
use Rattle.tl_compiler.proofs.StatementStretches.{in_order_stretch}
use Rattle.tl_meaning.proofs.StatementRuns.{agrees_kept, readable_there, number_there}
use Rattle.tl_meaning.proofs.ReleaseRuns.{release_step}
use Rattle.tl_meaning.proofs.SimpleRuns.{agrees_free, held_size}
use Rattle.tl_meaning.proofs.PlaceRuns.{PlaceLeads, KidLeads, child_runs}

pub still_held : (l : Nodes) (n m : ℕ) → holds l m ≡ true → holds (slice_set l n true) m ≡ true
still_held [] n m e = e
still_held (b ∷ l) zero zero e = refl
still_held (b ∷ l) zero (suc m) e = e
still_held (b ∷ l) (suc n) zero e = e
still_held (b ∷ l) (suc n) (suc m) e = still_held l n m e

pub free_again : (l : Nodes) (n : ℕ) → holds l n ≡ false → slice_set (slice_set l n true) n false ≡ l
free_again [] n e = refl
free_again (b ∷ l) zero e = ap (λ x. x ∷ l) (sym e)
free_again (b ∷ l) (suc n) e = ap (λ l. b ∷ l) (free_again l n e)

pub behind_place : {c : List Instr} (parents : List ℕ) (ready : Runs c) (fs : List Frame) (d : ℕ) (h g : Nodes) (f on : ℕ) (from there : Run) (first : List Action) → Leads from first there
    → (o : Ending) (s : State) (es : List Action) → PlaceLeads parents ready fs d h g f on there o s es → PlaceLeads parents ready fs d h g f on from o s (first ++ es)
behind_place parents ready fs d h g f on from there first leads On s es l = (l.0, and_on leads l.1, l.2)
behind_place parents ready fs d h g f on from there first leads Fails s es l = (l.0, and_on leads l.1, l.2)
behind_place parents ready fs d h g f on from there first leads Breaks s es l = l
behind_place parents ready fs d h g f on from there first leads Returns s es l = l

module _ {c : List Instr} (parents : List ℕ) (ready : Runs c) (fs : List Frame) (lower x upper y q done f d : ℕ) (k : List Instr) (le : f ≤ length k) (le_done : done ≤ length k) (inside : IsInside c fs (length k)) (held : Nodes)
    (is_held : holds held q ≡ true) (is_free : holds held lower ≡ false) where
  abbrev undone : List Instr
  undone = I.Release lower ∷ I.Jump (target_of f) ∷ k

  abbrev second : List Instr
  second = I.Jump (target_of done) ∷ undone

  far : (n : ℕ) → length k ≤ n → IsInside c fs n
  far n more = further_in c fs (length k) n more inside

  -- the second child can't be locked
  undo : (s u : State) → lower < NODE_REGISTERS → Tail c undone → Mirrors d (also held lower) s u
      → PlaceLeads parents ready fs d held (also (also held lower) upper) f done (from_label c parents fs (length undone) u) (and_then (free lower s) (plain Fails)).outcome (and_then (free lower s) (plain Fails)).state (and_then (free lower s) (plain Fails)).events
  undo s u lt tail agrees =
      let there : holds (also held lower) lower ≡ true = get_or-set_same held lower true false (subst (λ n. lower < n) (sym (length_before agrees)) lt) in
      let h = held_by s.nodes lower (subst (λ l. holds l lower ≡ true) (sym agrees.held) there) in
      let code = I.Jump (target_of f) ∷ k in
      let w = with_node u lower None in
      let first = release_step parents ready fs lower code d s u h.0 h.1 tail (far (suc (length k)) (omega arith)) agrees.kept in
      let jump = goes_to_label parents ready fs (I.Jump (target_of f)) k w w did.Plain f (tail_further tail (tail_behind (I.Release lower) code)) inside refl le refl in
      let again : Mirrors d held (with_node s lower None) w = subst (λ l. Mirrors d l (with_node s lower None) w) (free_again held lower is_free) (agrees_free lower agrees) in
      subst (λ o. let r = and_then (free_by o lower s) (plain Fails) in PlaceLeads parents ready fs d held (also (also held lower) upper) f done (from_label c parents fs (length undone) u) r.outcome r.state r.events) (sym h.1)
      (w, and_on first jump, again)
    where
      length_before : {s u : State} → Mirrors d (also held lower) s u → length held ≡ NODE_REGISTERS
      length_before a = sym (length-set held lower true) ∙ held_size a

  -- after the lock of the second child
  behind_upper : (s : State) (vs : List ℤ) → lower < NODE_REGISTERS → Tail c second → (from : Run) (o : Ending) (t : State) (events : List Action)
      → KidLeads parents ready fs vs d (also held lower) (also (also held lower) upper) (length undone) (length second) from o t events
      → let r = or_else (record { outcome = o; state = t; events = events }) (λ s. and_then (free lower s) (plain Fails)) in PlaceLeads parents ready fs d held (also (also held lower) upper) f done from r.outcome r.state r.events
  behind_upper s vs lt tail from On t events l = (
    l.0,
    subst (λ es. Leads from es (from_label c parents fs done l.0)) (append-nil events) (and_on l.1
        (goes_to_label parents ready fs (I.Jump (target_of done)) undone l.0 l.0 did.Plain done tail (far (suc (suc (length k))) (omega arith)) refl (omega arith) refl)),
    l.2,
  )
  behind_upper s vs lt tail from Fails t events l =
      let r = and_then (free lower t) (plain Fails) in
      behind_place parents ready fs d held (also (also held lower) upper) f done from (from_label c parents fs (length undone) l.0) events l.1 r.outcome r.state r.events
      (undo t l.0 lt (tail_further tail (tail_behind (I.Jump (target_of done)) undone)) l.2)
  behind_upper s vs lt tail from Breaks t events l = absurd l
  behind_upper s vs lt tail from Returns t events l = absurd l

  abbrev upper_code : List Instr
  upper_code = I.Child upper q y (target_of (length undone)) ∷ second

  -- after the lock of the first child
  behind_lower : (vs : List ℤ) (vy : ℤ) → lower < NODE_REGISTERS → get_or vs y (pos 0) ≡ vy → Tail c upper_code → (from : Run) (o : Ending) (t : State) (events : List Action)
      → KidLeads parents ready fs vs d held (also held lower) f (length upper_code) from o t events
      → let r = and_then (record { outcome = o; state = t; events = events }) (λ s. or_else (lock_child parents upper q vy s) (λ s. and_then (free lower s) (plain Fails))) in
      PlaceLeads parents ready fs d held (also (also held lower) upper) f done from r.outcome r.state r.events
  behind_lower vs vy lt is tail from Fails t events l = (l.0, l.1, l.2)
  behind_lower vs vy lt is tail from Breaks t events l = absurd l
  behind_lower vs vy lt is tail from Returns t events l = absurd l
  behind_lower vs vy lt is tail from On t events l =
      let locking = lock_child parents upper q vy t in
      let r = or_else locking (λ s. and_then (free lower s) (plain Fails)) in
      let there = from_label c parents fs (length upper_code) l.0 in
      let there_is : value l.0 y ≡ vy = ap (λ ns. get_or ns y (pos 0)) l.3 ∙ is in
      behind_place parents ready fs d held (also (also held lower) upper) f done from there events l.1 r.outcome r.state r.events
      (behind_upper t (l.0).values lt (tail_further tail (tail_behind (I.Child upper q y (target_of (length undone))) second)) there locking.outcome locking.state locking.events
      (child_runs parents ready fs upper q y (length undone) d (also held lower) second t l.0 vy tail (omega arith) (far (length second) (omega arith)) (still_held held lower q is_held) l.2 there_is))

  -- both children, the lower one first
  pub in_order : (s u : State) (vx vy : ℤ) → Tail c (in_order_code lower x upper y q done f k) → Mirrors d held s u → value u x ≡ vx → value u y ≡ vy
      → let r = lock_in_order parents lower vx upper vy q s in
      PlaceLeads parents ready fs d held (also (also held lower) upper) f done (from_label c parents fs (length (in_order_code lower x upper y q done f k)) u) r.outcome r.state r.events
  in_order s u vx vy tail agrees is_x is_y =
      let locking = lock_child parents lower q vx s in
      let lt = (in_range parents ready (I.Child lower q x (target_of f)) upper_code tail).0 in
      behind_lower u.values vy lt is_y (tail_further tail (tail_behind (I.Child lower q x (target_of f)) upper_code)) (from_label c parents fs (suc (length upper_code)) u) locking.outcome locking.state locking.events
      (child_runs parents ready fs lower q x f d held upper_code s u vx tail (omega arith) (far (length upper_code) (omega arith)) is_held agrees is_x)

-- a number isn't less than itself
not_below : (x : ℤ) → lt_z x x ≡ true → ⊥
not_below (pos a) e = let lt = ltb-true a a e in omega (arith, lt)
not_below (negsuc a) e = let lt = ltb-true a a e in omega (arith, lt)

apart : (x y : ℤ) → lt_z x y ≡ true → int_eq x y ≡ true → ⊥
apart x y l e = not_below y (subst (λ z. lt_z z y ≡ true) ((Decides-int_eq x y).0 e) l)

module _ {c : List Instr} (parents : List ℕ) (ready : Runs c) (fs : List Frame) (n x m y q f d : ℕ) (k : List Instr) (le : f ≤ length k) (inside : IsInside c fs (length k)) (held : Nodes) (ne : n ≢ m)
    (free_n : holds held n ≡ false) (free_m : holds held m ≡ false) (is_held : holds held q ≡ true) where
  abbrev upward : List Instr
  upward = in_order_code n x m y q (length k) f k

  abbrev downward : List Instr
  downward = in_order_code m y n x q (length k) f upward

  abbrev ends_at : Run → Done → Type 0
  ends_at from r = PlaceLeads parents ready fs d held (also (also held n) m) f (length k) from r.outcome r.state r.events

  abbrev less : Instr
  less = I.JumpIfLess x y (target_of (length upward))

  abbrev equal : Instr
  equal = I.JumpIfEqual x y (target_of f)

  far_in : (l : ℕ) → length k ≤ l → IsInside c fs l
  far_in l more = further_in c fs (length k) l more inside

  -- depending on how the two numbers compare
  both_by : (is_less is_equal : Bool) (s u : State) (vx vy : ℤ) → lt_z vx vy ≡ is_less → int_eq vx vy ≡ is_equal → Tail c (less ∷ equal ∷ downward) → Mirrors d held s u → value u x ≡ vx → value u y ≡ vy
      → ends_at (from_label c parents fs (suc (suc (length downward))) u) (if is_equal then plain Fails s else (if is_less then lock_in_order parents n vx m vy q s else lock_in_order parents m vy n vx q s))
  both_by true true s u vx vy l e tail agrees is_x is_y = absurd (apart vx vy l e)
  both_by true false s u vx vy l e tail agrees is_x is_y =
      let r = lock_in_order parents n vx m vy q s in
      let jump = goes_to_label parents ready fs less (equal ∷ downward) u u did.Plain (length upward) tail (far_in (suc (length downward)) (omega arith)) refl (omega arith)
      (ap (λ b. jump_if b (length c - suc (suc (length downward))) (length c - target_of (length upward)) u) (ap₂ lt_z is_x is_y ∙ l)) in
      behind_place parents ready fs d held (also (also held n) m) f (length k) (from_label c parents fs (suc (suc (length downward))) u) (from_label c parents fs (length upward) u) [] jump r.outcome r.state r.events
      (in_order parents ready fs n x m y q (length k) f d k le (omega arith) inside held is_held free_n s u vx vy
      (tail_further tail (tail_further (tail_behind less (equal ∷ downward)) (tail_further (tail_behind equal downward) (tail_of_stretch (in_order_stretch m y n x q (length k) f upward))))) agrees is_x is_y)
  both_by false true s u vx vy l e tail agrees is_x is_y =
      let first = goes_to_next parents ready fs less (equal ∷ downward) u u did.Plain tail (far_in (suc (length downward)) (omega arith)) refl
      (ap (λ b. jump_if b (length c - suc (suc (length downward))) (length c - target_of (length upward)) u) (ap₂ lt_z is_x is_y ∙ l)) in
      let second = goes_to_label parents ready fs equal downward u u did.Plain f (tail_further tail (tail_behind less (equal ∷ downward))) (far_in (length downward) (omega arith)) refl (omega arith)
      (ap (λ b. jump_if b (length c - suc (length downward)) (length c - target_of f) u) (ap₂ int_eq is_x is_y ∙ e)) in
      (u, and_on first second, agrees)
  both_by false false s u vx vy l e tail agrees is_x is_y =
      let r = lock_in_order parents m vy n vx q s in
      let from = from_label c parents fs (suc (suc (length downward))) u in
      let there = from_label c parents fs (length downward) u in
      let first = goes_to_next parents ready fs less (equal ∷ downward) u u did.Plain tail (far_in (suc (length downward)) (omega arith)) refl
      (ap (λ b. jump_if b (length c - suc (suc (length downward))) (length c - target_of (length upward)) u) (ap₂ lt_z is_x is_y ∙ l)) in
      let second = goes_to_next parents ready fs equal downward u u did.Plain (tail_further tail (tail_behind less (equal ∷ downward))) (far_in (length downward) (omega arith)) refl
      (ap (λ b. jump_if b (length c - suc (length downward)) (length c - target_of f) u) (ap₂ int_eq is_x is_y ∙ e)) in
      subst (λ g. PlaceLeads parents ready fs d held g f (length k) from r.outcome r.state r.events) (set_comm held m n true true (λ e. ne (sym e)))
      (behind_place parents ready fs d held (also (also held m) n) f (length k) from there [] (and_on first second) r.outcome r.state r.events
      (in_order parents ready fs m y n x q (length k) f d upward (omega arith) (omega arith) (far_in (length upward) (omega arith)) held is_held free_m s u vy vx
      (tail_further tail (tail_further (tail_behind less (equal ∷ downward)) (tail_behind equal downward))) agrees is_y is_x))

  pub compared : (s u : State) (vx vy : ℤ) → Tail c (pair_code n x m y q f k) → Mirrors d held s u → value u x ≡ vx → value u y ≡ vy
      → ends_at (from_label c parents fs (length (pair_code n x m y q f k)) u) (lock_pair parents n vx m vy q s)
  compared s u vx vy tail agrees is_x is_y = both_by (lt_z vx vy) (int_eq vx vy) s u vx vy refl refl tail agrees is_x is_y

module _ {c : List Instr} (parents : List ℕ) (ready : Runs c) (fs : List Frame) (n m q : ℕ) (a b : Expression) (f d : ℕ) (k : List Instr) (le : f ≤ length k) (inside : IsInside c fs (length k)) (held : Nodes) (ne : n ≢ m)
    (free_n : holds held n ≡ false) (free_m : holds held m ≡ false) (is_held : holds held q ≡ true) (readable_a : IsReadable d held a) (readable_b : IsReadable d held b) where
  abbrev x : ℕ
  x = register_of a d

  abbrev y : ℕ
  y = register_of b (behind a d)

  abbrev pair : List Instr
  pair = pair_code n x m y q f k

  abbrev leads : Run → Done → Type 0
  leads from r = PlaceLeads parents ready fs d held (also (also held n) m) f (length k) from r.outcome r.state r.events

  -- with both numbers
  then_pair : (s u : State) (vx : ℤ) → Tail c pair → Mirrors d held s u → value u x ≡ vx → (from : Run) (vy : Option ℤ) → OperandEnds parents ready fs b (behind a d) f pair from u vy
      → leads from (given vy s (λ vy. lock_pair parents n vx m vy q s))
  then_pair s u vx tail agrees is_x from None l = (l.0, l.1, agrees_kept agrees (kept_below (behind_above a d) l.2))
  then_pair s u vx tail agrees is_x from (Some vy) l =
      let w = l.0 in
      let made = l.2 in
      let r = lock_pair parents n vx m vy q s in
      behind_place parents ready fs d held (also (also held n) m) f (length k) from (from_label c parents fs (length pair) w) [] l.1 r.outcome r.state r.events
      (compared parents ready fs n x m y q f d k le inside held ne free_n free_m is_held s w vx vy tail (agrees_kept agrees (kept_below (behind_above a d) made.kept))
      (made.kept.values x (register_below a d held readable_a) ∙ is_x) made.here)

  -- with the first number
  then_second : (s u : State) → Tail c (operand_code b (behind a d) f pair) → Mirrors d held s u → (from : Run) (vx : Option ℤ) → OperandEnds parents ready fs a d f (operand_code b (behind a d) f pair) from u vx
      → leads from (given vx s (λ vx. given (number parents b s) s (λ vy. lock_pair parents n vx m vy q s)))
  then_second s u tail agrees from None l = (l.0, l.1, agrees_kept agrees l.2)
  then_second s u tail agrees from (Some vx) l =
      let w = l.0 in
      let made = l.2 in
      let agrees_then = agrees_kept agrees made.kept in
      let there = from_label c parents fs (length (operand_code b (behind a d) f pair)) w in
      let r = given (number parents b s) s (λ vy. lock_pair parents n vx m vy q s) in
      behind_place parents ready fs d held (also (also held n) m) f (length k) from there [] l.1 r.outcome r.state r.events
      (then_pair s w vx (tail_further tail (operand_tail b (behind a d) f pair)) agrees_then made.here there (number parents b s)
      (subst (OperandEnds parents ready fs b (behind a d) f pair there w) (number_there parents b agrees_then readable_b)
      (operand_runs parents ready fs b (behind a d) f pair w tail (omega arith) (further_in c fs (length k) (length pair) (omega arith) inside)
      (readable_further b d (behind a d) (held_at w) (behind_above a d) (readable_there b agrees_then readable_b)) made.kept.size)))

  pub pair_runs : (s u : State) → Tail c (place_code (P.Pair n m q a b) d f k) → Mirrors d held s u → leads (from_label c parents fs (length (place_code (P.Pair n m q a b) d f k)) u) (lock_place parents (P.Pair n m q a b) s)
  pair_runs s u tail agrees =
      let second = operand_code b (behind a d) f pair in
      let from = from_label c parents fs (length (place_code (P.Pair n m q a b) d f k)) u in
      let long = tail_length (operand_tail b (behind a d) f pair) in
      then_second s u (tail_further tail (operand_tail a d f second)) agrees from (number parents a s)
      (subst (OperandEnds parents ready fs a d f second from u) (number_there parents a agrees readable_a)
      (operand_runs parents ready fs a d f second u tail (omega (arith, le, long)) (further_in c fs (length k) (length second) (omega (arith, long)) inside) (readable_there a agrees readable_a) agrees.kept.size))
