-- The meaning of a text: the effect of each core form on values, nodes and records, and its events.
use Rattle.std.specs.Prelude.{ℕ, zero, suc, ◌+◌, List, [], ◌∷◌, ◌++◌, Bool, true, false, not, Option, Some, None, is_some, length, map, slice_set, slice_index, get_or, nat_le, if◌then◌else◌, ℤ, pos, negsuc, ◌+ℤ◌, ◌-ℤ◌, ◌*ℤ◌}
use Rattle.std.specs.Int.Signed.{lt_z}
use Rattle.std.specs.Ordering.{int_eq}
use Rattle.tl_instr.specs.declared.operand.TheConstants.{NODE_REGISTERS}
use Rattle.tl_tree.specs.Shape.{kids}
use Rattle.tl_tree.specs.Records.{Records, record_at, put_record}
use Rattle.tl_tree_locking.specs.declared.action.Action.{Action}
use Rattle.tl_tree_locking.specs.declared.action.Action.TheVariants as did
use Rattle.tl_machine.specs.Runs.{Held, State}
use Rattle.tl_machine.specs.Alone.{value, node, with_value, with_node, fitting, quotient, numbered, open_kid, start}
use Rattle.tl_syntax.specs.declared.operator.Operator.{Operator}
use Rattle.tl_syntax.specs.declared.operator.Operator.TheVariants as O
use Rattle.tl_lowering.specs.declared.program.Expression.{Expression}
use Rattle.tl_lowering.specs.declared.program.Expression.TheVariants as E
use Rattle.tl_lowering.specs.declared.program.Condition.{Condition}
use Rattle.tl_lowering.specs.declared.program.Condition.TheVariants as C
use Rattle.tl_lowering.specs.declared.program.Place.{Place}
use Rattle.tl_lowering.specs.declared.program.Place.TheVariants as P
use Rattle.tl_lowering.specs.declared.program.Statement.{Statement}
use Rattle.tl_lowering.specs.declared.program.Statement.TheVariants as S
use Rattle.tl_lowering.specs.Sets.{Nodes, none_held, holds, all_of}
use Rattle.tl_lowering.specs.Outcomes.{handled_by, after, fails}

-- ---- numbers and conditions

abbrev pub result : Operator → ℤ → ℤ → Option ℤ
result O.Add x y = fitting (x +ℤ y)
result O.Subtract x y = fitting (x -ℤ y)
result O.Multiply x y = fitting (x *ℤ y)
result O.Divide x y = quotient x y

-- applies f to two numbers; None if one of them can't be computed
abbrev pub with_both : {A : Type 0} → (ℤ → ℤ → Option A) → Option ℤ → Option ℤ → Option A
with_both f None y = None
with_both f (Some x) None = None
with_both f (Some x) (Some y) = f x y

-- reads from the node that a register holds; None if it holds none
abbrev pub of_node : Option Held → (Held → ℤ) → Option ℤ
of_node None read = None
of_node (Some h) read = Some (read h)

-- the number of an expression; None if computing it fails
abbrev pub number : List ℕ → Expression → State → Option ℤ
number parents (E.Constant w) s = Some w
number parents (E.Value x) s = Some (value s x)
number parents (E.Field n f) s = of_node (node s n) (λ h. get_or (record_at s.records h.node) f (pos 0))
number parents (E.Children n) s = of_node (node s n) (λ h. pos (length (kids parents h.node)))
number parents (E.Calculated' o p a q b) s = with_both (result o) (number parents a s) (number parents b s)

abbrev pub opposite : Option Bool → Option Bool
opposite None = None
opposite (Some t) = Some (not t)

-- the conjunction; the second condition counts only if the first is true
abbrev pub both_true : Option Bool → Option Bool → Option Bool
both_true None second = None
both_true (Some true) second = second
both_true (Some false) second = Some false

-- whether a condition is true; None if computing it fails
abbrev pub truth : List ℕ → Condition → State → Option Bool
truth parents (C.Less a b) s = with_both (λ x y. Some (lt_z x y)) (number parents a s) (number parents b s)
truth parents (C.Greater a b) s = with_both (λ x y. Some (lt_z y x)) (number parents a s) (number parents b s)
truth parents (C.Equal a b) s = with_both (λ x y. Some (int_eq x y)) (number parents a s) (number parents b s)
truth parents (C.Not' p c) s = opposite (truth parents c s)
truth parents (C.And' p c q d) s = both_true (truth parents c s) (truth parents d s)

-- ---- what is done

-- how a statement ends: control goes on, leaves the loop, goes to the handler of a failure, or goes to the end of the call
pub data Ending : Type 0 where
  On : Ending
  Breaks : Ending
  Fails : Ending
  Returns : Ending

-- how a statement ends, the state then, and its locks, writes, frees and emitted values in order
pub record Done : Type 0 where
  pub outcome : Ending
  pub state : State
  pub events : List Action

abbrev pub plain : Ending → State → Done
plain outcome s = record { outcome = outcome; state = s; events = [] }

abbrev pub telling : Action → State → Done
telling event s = record { outcome = On; state = s; events = event ∷ [] }

abbrev pub after_events : List Action → Done → Done
after_events events d = record d { events = events ++ d.events }

abbrev pub is_on : Ending → Bool
is_on On = true
is_on o = false

abbrev pub is_failure : Ending → Bool
is_failure Fails = true
is_failure o = false

-- the first part, followed by the second if control goes on
abbrev pub and_then : Done → (State → Done) → Done
and_then d more = if is_on d.outcome then after_events d.events (more d.state) else d

-- the first part, followed by the second if the first fails
abbrev pub or_else : Done → (State → Done) → Done
or_else d other = if is_failure d.outcome then after_events d.events (other d.state) else d

-- applies `go` to the number; fails without one
abbrev pub given : Option ℤ → State → (ℤ → Done) → Done
given None s go = plain Fails s
given (Some x) s go = go x

abbrev pub held_at : State → Nodes
held_at s = map is_some s.nodes

-- ---- locks and frees

abbrev pub free_by : Option Held → ℕ → State → Done
free_by None n s = plain On s
free_by (Some h) n s = telling (did.Free h.node (record_at s.records h.node)) (with_node s n None)

abbrev pub free : ℕ → State → Done
free n s = free_by (node s n) n s

-- frees the registers below n that aren't kept, the highest first
abbrev pub leave_below : ℕ → Nodes → State → Done
leave_below zero kept s = plain On s
leave_below (suc n) kept s = and_then (if holds kept n then plain On s else free n s) (leave_below n kept)

abbrev pub leave : Nodes → State → Done
leave kept s = leave_below NODE_REGISTERS kept s

abbrev pub leave_to : Option Nodes → State → Done
leave_to None s = plain On s
leave_to (Some kept) s = leave kept s

-- locks node x in register n, with the cursor at its first child
abbrev pub lock : ℕ → ℕ → State → Done
lock n x s = telling (did.Lock x (record_at s.records x)) (with_node s n (Some (record { node = x; cursor = 0 })))

abbrev pub lock_node : ℕ → Option ℕ → State → Done
lock_node n None s = plain Fails s
lock_node n (Some x) s = lock n x s

-- locks the child, and moves the parent's cursor past it
abbrev pub lock_kid : List ℕ → ℕ → ℕ → Held → Option ℕ → State → Done
lock_kid parents n p h None s = plain Fails s
lock_kid parents n p h (Some i) s =
    lock n (slice_index (kids parents h.node) i) (with_node s p (Some (record { node = h.node; cursor = i + 1 })))

abbrev pub lock_child_by : List ℕ → ℕ → ℕ → Option Held → ℤ → State → Done
lock_child_by parents n p None x s = plain Fails s
lock_child_by parents n p (Some h) x s = lock_kid parents n p h (open_kid h.cursor (length (kids parents h.node)) x) s

abbrev pub lock_child : List ℕ → ℕ → ℕ → ℤ → State → Done
lock_child parents n p x s = lock_child_by parents n p (node s p) x s

-- locks two children, the lower one first; if the upper one can't be locked, the lower one is freed again
abbrev pub lock_in_order : List ℕ → ℕ → ℤ → ℕ → ℤ → ℕ → State → Done
lock_in_order parents lower x upper y p s =
    and_then (lock_child parents lower p x s) (λ s. or_else (lock_child parents upper p y s) (λ s. and_then (free lower s) (plain Fails)))

abbrev pub lock_pair : List ℕ → ℕ → ℤ → ℕ → ℤ → ℕ → State → Done
lock_pair parents n x m y p s =
    if int_eq x y then plain Fails s
    else (if lt_z x y then lock_in_order parents n x m y p s else lock_in_order parents m y n x p s)

abbrev pub lock_place : List ℕ → Place → State → Done
lock_place parents (P.Node n e) s = given (number parents e s) s (λ x. lock_node n (numbered (length parents) x) s)
lock_place parents (P.Child n p e) s = given (number parents e s) s (λ x. lock_child parents n p x s)
lock_place parents (P.Pair n m p a b) s =
    given (number parents a s) s (λ x. given (number parents b s) s (λ y. lock_pair parents n x m y p s))

-- moves the register to a child: locks the child and then frees the node
abbrev pub go_down : ℕ → Held → Option ℕ → List ℕ → State → Done
go_down n h None parents s = plain Fails s
go_down n h (Some i) parents s =
    let below = slice_index (kids parents h.node) i in
    record {
      outcome = On;
      state = with_node s n (Some (record { node = below; cursor = 0 }));
      events = did.Lock below (record_at s.records below) ∷ did.Free h.node (record_at s.records h.node) ∷ [];
    }

abbrev pub descend_by : List ℕ → ℕ → Option Held → ℤ → State → Done
descend_by parents n None x s = plain Fails s
descend_by parents n (Some h) x s = go_down n h (open_kid h.cursor (length (kids parents h.node)) x) parents s

abbrev pub write : ℕ → ℤ → Option Held → State → Done
write f x None s = plain Fails s
write f x (Some h) s =
    telling (did.Write h.node f x) (record s { records = put_record s.records h.node (slice_set (record_at s.records h.node) f x) })

-- ---- statements

-- after a statement, only the nodes are kept that are held after it on all its paths
abbrev pub leaving : Option Nodes → Done → Done
leaving kept d = and_then d (leave_to kept)

abbrev pub chosen : Option Bool → State → (State → Done) → (State → Done) → Done
chosen None s first second = plain Fails s
chosen (Some true) s first second = first s
chosen (Some false) s first second = second s

-- n turns of a body; a turn in which control doesn't go on is the last
abbrev pub turns : ℕ → (State → Done) → State → Done
turns zero body s = plain On s
turns (suc n) body s = and_then (body s) (turns n body)

abbrev pub broken : Done → Done
broken d = elim d.outcome [ Breaks ↦ record d { outcome = On } | On ↦ d | Fails ↦ d | Returns ↦ d ]

-- applies `go` to the number of turns: 0 if the number is negative; fails if it is more than w
abbrev pub counted : ℕ → ℤ → State → (ℕ → Done) → Done
counted w (negsuc x) s go = go 0
counted w (pos x) s go = if nat_le x w then go x else plain Fails s

abbrev pub behaviour : List ℕ → Statement → State → Done
behaviour parents S.Skip s = plain On s
behaviour parents (S.Sequence' p a q b) s = and_then (behaviour parents a s) (behaviour parents b)
behaviour parents (S.Assign v e) s = given (number parents e s) s (λ x. plain On (with_value s v x))
behaviour parents (S.Write n f e) s = given (number parents e s) s (λ x. write f x (node s n) s)
behaviour parents (S.Emit e) s = given (number parents e s) s (λ x. telling (did.Emit x) s)
behaviour parents (S.Free n) s = free n s
behaviour parents (S.Descend n e) s = given (number parents e s) s (λ x. descend_by parents n (node s n) x s)
behaviour parents (S.Take n m) s = and_then (free n s) (λ s. plain On (with_node (with_node s m None) n (node s m)))
behaviour parents S.Break s = plain Breaks s
behaviour parents S.Return s = plain Returns s
behaviour parents S.Fail s = plain Fails s
behaviour parents (S.If' c p a q b) s =
    leaving (after (S.If' c p a q b) (held_at s)) (chosen (truth parents c s) s (behaviour parents a) (behaviour parents b))
behaviour parents (S.Let' v e p a) s =
    leaving (after (S.Let' v e p a) (held_at s)) (given (number parents e s) s (λ x. behaviour parents a (with_value s v x)))
behaviour parents (S.LetElse' v e p a q o) s =
    leaving (after (S.LetElse' v e p a q o) (held_at s))
    (elim (number parents e s) [ Some x ↦ behaviour parents a (with_value s v x) | None ↦ behaviour parents o s ])
behaviour parents (S.Lock' place p a q o) s =
    let locking = lock_place parents place s in
    leaving (after (S.Lock' place p a q o) (held_at s))
    (after_events locking.events (if is_on locking.outcome then behaviour parents a locking.state else behaviour parents o locking.state))
behaviour parents (S.Try' p a q b) s =
    leaving (after (S.Try' p a q b) (held_at s))
    (or_else (behaviour parents a s)
    (λ t. and_then (leave (handled_by (held_at s) (all_of (fails a (held_at s)))) t) (behaviour parents b)))
behaviour parents (S.Repeat' w p a) s =
    leaving (after (S.Repeat' w p a) (held_at s)) (broken (turns w (behaviour parents a) s))
behaviour parents (S.RepeatUpTo' e w p a) s =
    given (number parents e s) s (λ x. counted w x s (λ n.
    leaving (after (S.RepeatUpTo' e w p a) (held_at s)) (broken (turns n (behaviour parents a) s))))
behaviour parents (S.At' offset p a) s = behaviour parents a s

-- ---- procedures

-- a call of a procedure: frees all nodes if the body ends early
abbrev pub call : List ℕ → Statement → List ℤ → Records → Done
call parents body args t =
    let d = behaviour parents body (start args t) in
    if is_on d.outcome then d else after_events d.events (leave none_held d.state)
