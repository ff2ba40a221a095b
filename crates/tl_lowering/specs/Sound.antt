-- When a statement is well-formed for given registers in use and nodes held: everything that it refers to exists.
use Rattle.std.specs.Prelude.{◌≡◌, ◌≢◌, ℕ, ◌+◌, ◌<◌, ◌≤◌, Bool, true, false, [], Option, IfSome}
use Rattle.tl_lowering.specs.declared.program.Expression.{Expression}
use Rattle.tl_lowering.specs.declared.program.Expression.TheVariants as E
use Rattle.tl_lowering.specs.declared.program.Condition.{Condition}
use Rattle.tl_lowering.specs.declared.program.Condition.TheVariants as C
use Rattle.tl_lowering.specs.declared.program.Place.{Place}
use Rattle.tl_lowering.specs.declared.program.Place.TheVariants as P
use Rattle.tl_lowering.specs.declared.program.Statement.{Statement}
use Rattle.tl_lowering.specs.declared.program.Statement.TheVariants as S
use Rattle.tl_lowering.specs.declared.program.Procedure.{Procedure}
use Rattle.tl_budget.specs.declared.limits.TheConstants.{MAX_DEPTH}
use Rattle.tl_instr.specs.declared.operand.TheConstants.{MAX_ARGS}
use Rattle.tl_lowering.specs.Sets.{Nodes, none_held, holds, all_of}
use Rattle.tl_lowering.specs.Outcomes.{locked, handled_by, after, fails}
pub use Rattle.tl_lowering.specs.Outcomes.{nodes_behind}
use Rattle.tl_lowering.specs.Fit.{loops, AllTurn, AllSlots, IsWord, HasRoom}
use Rattle.tl_lowering.specs.Passing.{nothing_before, EntersOnce}

-- each value has one of the first t registers, and each node that is read is held
abbrev pub IsReadable : ℕ → Nodes → Expression → Type 0
IsReadable t held (E.Constant w) = Unit {0}
IsReadable t held (E.Value x) = x < t
IsReadable t held (E.Field n f) = holds held n ≡ true
IsReadable t held (E.Children n) = holds held n ≡ true
IsReadable t held (E.Calculated' o p a q b) = IsReadable t held a × IsReadable t held b

abbrev pub IsTestable : ℕ → Nodes → Condition → Type 0
IsTestable t held (C.Less a b) = IsReadable t held a × IsReadable t held b
IsTestable t held (C.Greater a b) = IsReadable t held a × IsReadable t held b
IsTestable t held (C.Equal a b) = IsReadable t held a × IsReadable t held b
IsTestable t held (C.Not' p c) = IsTestable t held c
IsTestable t held (C.And' p c q d) = IsTestable t held c × IsTestable t held d

-- the registers of the nodes to lock are empty, and a child's parent is held
abbrev pub IsLockable : Place → ℕ → Nodes → Type 0
IsLockable (P.Node n e) d held = (holds held n ≡ false) × IsReadable d held e
IsLockable (P.Child n p e) d held = (holds held n ≡ false) × (holds held p ≡ true) × IsReadable d held e
IsLockable (P.Pair n k p a b) d held =
    (n ≢ k) × (holds held n ≡ false) × (holds held k ≡ false) × (holds held p ≡ true) × IsReadable d held a × IsReadable d held b

-- a turn that reaches its end holds the same nodes as at its start
abbrev pub KeepsHeld : Option Nodes → Nodes → Type 0
KeepsHeld end held = IfSome end (λ h. h ≡ held)

-- The first d value registers hold values, and m is a free node register. `in_loop` says whether there is a loop around.
abbrev pub IsWellFormed : Statement → ℕ → ℕ → Nodes → Bool → Type 0
IsWellFormed S.Skip d m held in_loop = Unit {0}
IsWellFormed (S.Sequence' p a q b) d m held in_loop = IsWellFormed a d m held in_loop × IfSome (after a held) (λ h. IsWellFormed b d m h in_loop)
IsWellFormed (S.Assign v e) d m held in_loop = (v < d) × IsReadable d held e
IsWellFormed (S.Write n f e) d m held in_loop = (holds held n ≡ true) × IsReadable d held e
IsWellFormed (S.Emit e) d m held in_loop = IsReadable d held e
IsWellFormed (S.Free n) d m held in_loop = holds held n ≡ true
IsWellFormed (S.Descend n e) d m held in_loop = (holds held n ≡ true) × (holds held m ≡ false) × IsReadable d held e
IsWellFormed (S.Take n k) d m held in_loop = (n ≢ k) × (holds held n ≡ true) × (holds held k ≡ true)
IsWellFormed S.Break d m held in_loop = in_loop ≡ true
IsWellFormed S.Return d m held in_loop = Unit {0}
IsWellFormed S.Fail d m held in_loop = Unit {0}
IsWellFormed (S.If' c p a q b) d m held in_loop = IsTestable d held c × IsWellFormed a d m held in_loop × IsWellFormed b d m held in_loop
IsWellFormed (S.Let' v e p a) d m held in_loop = (v ≡ d) × IsReadable d held e × IsWellFormed a (d + 1) m held in_loop
IsWellFormed (S.LetElse' v e p a q o) d m held in_loop =
    (v ≡ d) × IsReadable d held e × IsWellFormed a (d + 1) m held in_loop × IsWellFormed o d m held in_loop
IsWellFormed (S.Lock' place p a q o) d m held in_loop =
    IsLockable place d held × IsWellFormed a d (nodes_behind place) (locked place held) in_loop × IsWellFormed o d m held in_loop
IsWellFormed (S.Try' p a q b) d m held in_loop =
    IsWellFormed a d m held in_loop × IsWellFormed b d m (handled_by held (all_of (fails a held))) in_loop
IsWellFormed (S.Repeat' w p a) d m held in_loop = KeepsHeld (after a held) held × IsWellFormed a d m held true
IsWellFormed (S.RepeatUpTo' e w p a) d m held in_loop =
    IsReadable d held e × KeepsHeld (after a held) held × IsWellFormed a d m held true
IsWellFormed (S.At' offset p a) d m held in_loop = IsWellFormed a d m held in_loop

-- A procedure's body is well-formed when only the arguments have registers and no node is held. It handles each failure
-- and enters the tree at most once. Its registers exist, and its loops have a positive count and don't nest too deep.
pub record IsInOrder (p : Procedure) : Type 0 where
  pub sound : IsWellFormed p.body p.arity 0 none_held false
  pub handled : fails p.body none_held ≡ []
  pub few : p.arity ≤ MAX_ARGS
  pub slots : AllSlots p.body 0
  pub turns : AllTurn p.body
  pub depth : loops p.body ≤ MAX_DEPTH
  pub name : IsWord p.name.items
  pub room : HasRoom p.body p.arity
  pub enters : EntersOnce p.body nothing_before
