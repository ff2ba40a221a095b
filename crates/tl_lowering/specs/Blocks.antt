-- Sequences of statements, and the declarations of a block whose remaining statements aren't read yet.
use Rattle.std.specs.Prelude.{◌≡◌, ℕ, ◌+◌, ◌≤◌, List, [], ◌∷◌, Bool, false, Option, Some, None, IfSome}
use Rattle.tl_lowering.specs.declared.lowering.Binding.{Binding}
use Rattle.tl_lowering.specs.declared.lowering.Binding.TheVariants as B
use Rattle.tl_lowering.specs.declared.lowering.Opened.{Opened}
use Rattle.tl_lowering.specs.declared.program.Place.{Place}
use Rattle.tl_lowering.specs.declared.program.Place.TheVariants as P
use Rattle.tl_lowering.specs.declared.program.Statement.{Statement}
use Rattle.tl_lowering.specs.Sets.{Nodes, holds, both_of, all_of}
use Rattle.tl_lowering.specs.Outcomes.{may_fail, locked, handled_by, after, fails}
use Rattle.tl_lowering.specs.Paths.{Paths, outcomes, on, failing_if, with_handler, keeping}
use Rattle.tl_lowering.specs.Sound.{IsReadable, IsLockable, IsWellFormed}

-- the paths of a statement, and then of what follows, if control goes on
abbrev pub followed : Option Nodes → Paths → (Nodes → Paths) → Paths
followed None p more = p
followed (Some held) p more =
    record { after = (more held).after; fails = both_of p.fails (more held).fails; breaks = both_of p.breaks (more held).breaks }

abbrev pub then_of : Paths → (Nodes → Paths) → Paths
then_of p more = followed p.after p more

abbrev pub outcomes_all : List Statement → Nodes → Paths
outcomes_all [] held = on held
outcomes_all (s ∷ ss) held = then_of (outcomes s held) (outcomes_all ss)

-- each statement is well-formed in the state that the one before it leaves
abbrev pub AreWellFormed : List Statement → ℕ → ℕ → Nodes → Bool → Type 0
AreWellFormed [] d m held in_loop = Unit {0}
AreWellFormed (s ∷ ss) d m held in_loop = IsWellFormed s d m held in_loop × IfSome (after s held) (λ h. AreWellFormed ss d m h in_loop)

-- one statement with the same paths as this sequence, and well-formed if the sequence is
pub record IsSequence (whole : Statement) (parts : List Statement) : Type 0 where
  pub paths : (held : Nodes) → outcomes whole held ≡ outcomes_all parts held
  pub sound : (d m : ℕ) (held : Nodes) (in_loop : Bool) → AreWellFormed parts d m held in_loop → IsWellFormed whole d m held in_loop

-- a statement with the same paths, and well-formed if b is
pub record IsSame (a b : Statement) : Type 0 where
  pub paths : (held : Nodes) → outcomes a held ≡ outcomes b held
  pub sound : (d m : ℕ) (held : Nodes) (in_loop : Bool) → IsWellFormed b d m held in_loop → IsWellFormed a d m held in_loop

-- the first statement followed by the second
pub record IsPair (whole first second : Statement) : Type 0 where
  pub paths : (held : Nodes) → outcomes whole held ≡ then_of (outcomes first held) (outcomes second)
  pub sound : (d m : ℕ) (held : Nodes) (in_loop : Bool) → IsWellFormed first d m held in_loop → IfSome (after first held) (λ h. IsWellFormed second d m h in_loop)
      → IsWellFormed whole d m held in_loop

-- a statement with the handler of its failure
pub record IsAttempt (whole body handler : Statement) : Type 0 where
  pub paths : (held : Nodes) → outcomes whole held ≡ with_handler (outcomes body held) (outcomes handler (handled_by held (all_of (fails body held))))
  pub sound : (d m : ℕ) (held : Nodes) (in_loop : Bool) → IsWellFormed body d m held in_loop → IsWellFormed handler d m (handled_by held (all_of (fails body held))) in_loop
      → IsWellFormed whole d m held in_loop

-- the paths of a `let` or a `lock`
abbrev pub binding_paths : Binding → Nodes → Paths
binding_paths (B.Value x e) held = failing_if (may_fail e) (on held) held
binding_paths (B.ValueElse x e o) held = record (outcomes o held) { after = Some held }
binding_paths (B.Nodes place o) held = record (outcomes o held) { after = Some (locked place held) }

-- the place uses the next node registers
abbrev pub IsNext : Place → ℕ → Type 0
IsNext (P.Node n e) m = n ≡ m
IsNext (P.Child n p e) m = n ≡ m
IsNext (P.Pair n k p a b) m = (n ≡ m) × (k ≡ m + 1)

-- a `let` or a `lock` is well-formed, and its `else` leaves the block
abbrev pub IsBinding : Binding → ℕ → ℕ → Nodes → Bool → Type 0
IsBinding (B.Value x e) d m held in_loop = (x ≡ d) × IsReadable d held e
IsBinding (B.ValueElse x e o) d m held in_loop = (x ≡ d) × IsReadable d held e × IsWellFormed o d m held in_loop × (after o held ≡ None)
IsBinding (B.Nodes place o) d m held in_loop =
    IsLockable place d held × IsNext place m × IsWellFormed o d m held in_loop × (after o held ≡ None)

abbrev pub values_with : Binding → ℕ → ℕ
values_with (B.Value x e) d = d + 1
values_with (B.ValueElse x e o) d = d + 1
values_with (B.Nodes place o) d = d

-- the number of node registers in use after the lock
abbrev pub nodes_more : Place → ℕ → ℕ
nodes_more (P.Node n e) m = m + 1
nodes_more (P.Child n p e) m = m + 1
nodes_more (P.Pair n k p a b) m = m + 2

abbrev pub nodes_with : Binding → ℕ → ℕ
nodes_with (B.Value x e) m = m
nodes_with (B.ValueElse x e o) m = m
nodes_with (B.Nodes place o) m = nodes_more place m

-- the numbers of registers in use at a position, and the paths that lead there
pub record Standing : Type 0 where
  pub values : ℕ
  pub nodes : ℕ
  pub paths : Paths

-- the start of a block
abbrev pub at_start : ℕ → ℕ → Nodes → Standing
at_start d m held = record { values = d; nodes = m; paths = on held }

-- the position after the open declarations, which are listed with the last first
abbrev pub reached : List Opened → Standing → Standing
reached [] r = r
reached (o ∷ outer) r =
    let u = reached outer r in
    record {
      values = values_with o.binding u.values;
      nodes = nodes_with o.binding u.nodes;
      paths = then_of (then_of u.paths (outcomes_all o.earlier.items)) (binding_paths o.binding);
    }

-- the statements are well-formed at this position, if control can reach it
abbrev pub AreWellFormedAt : List Statement → Standing → Bool → Type 0
AreWellFormedAt ss r in_loop = IfSome r.paths.after (λ h. AreWellFormed ss r.values r.nodes h in_loop)

abbrev pub IsWellFormedAt : Statement → Standing → Bool → Type 0
IsWellFormedAt s r in_loop = IfSome r.paths.after (λ h. IsWellFormed s r.values r.nodes h in_loop)

abbrev pub IsBindingAt : Binding → Standing → Paths → Bool → Type 0
IsBindingAt b r p in_loop = IfSome p.after (λ h. IsBinding b r.values r.nodes h in_loop)

-- the open declarations and the block's statements before each of them are well-formed
abbrev pub AreOpen : List Opened → Standing → Bool → Type 0
AreOpen [] r in_loop = Unit {0}
AreOpen (o ∷ outer) r in_loop =
    let u = reached outer r in
    AreOpen outer r in_loop × AreWellFormedAt o.earlier.items u in_loop × IsBindingAt o.binding u (then_of u.paths (outcomes_all o.earlier.items)) in_loop

-- the same paths, where of the nodes held after them only those in `held` are compared
pub record AreAlike (held : Nodes) (p q : Paths) : Type 0 where
  pub after : keeping held p.after ≡ keeping held q.after
  pub fails : p.fails ≡ q.fails
  pub breaks : p.breaks ≡ q.breaks

-- the registers from m on hold no nodes
abbrev pub AreFree : ℕ → Nodes → Type 0
AreFree m held = (n : ℕ) → m ≤ n → holds held n ≡ false

-- the declaration with the rest of its block is well-formed if the rest is, and has the same paths apart from the declared nodes
pub record IsClosing (b : Binding) (rest whole : Statement) : Type 0 where
  pub paths : (d m : ℕ) (outer here : Nodes) (in_loop : Bool) → IsBinding b d m here in_loop → AreFree m outer
      → AreAlike outer (then_of (binding_paths b here) (outcomes rest)) (outcomes whole here)
  pub sound : (d m : ℕ) (here : Nodes) (in_loop : Bool) → IsBinding b d m here in_loop
      → IfSome (binding_paths b here).after (λ h. IsWellFormed rest (values_with b d) (nodes_with b m) h in_loop) → IsWellFormed whole d m here in_loop

-- the same for the declaration together with the block's statements before it
pub record Closes (o : Opened) (rest whole : Statement) : Type 0 where
  pub paths : (r : Standing) (outer : Nodes) (in_loop : Bool) → AreOpen (o ∷ []) r in_loop → AreFree r.nodes outer
      → AreAlike outer (then_of (reached (o ∷ []) r).paths (outcomes rest)) (then_of r.paths (outcomes whole))
  pub sound : (r : Standing) (in_loop : Bool) → AreOpen (o ∷ []) r in_loop → IsWellFormedAt rest (reached (o ∷ []) r) in_loop → IsWellFormedAt whole r in_loop
