-- What a `let` or a `lock` is about to declare.
use Rattle.std.specs.Prelude.{◌≡◌, ◌≢◌, ℕ, ◌+◌, ◌<◌, IfSome, is_some, if◌then◌else◌}
use Rattle.tl_instr.specs.declared.operand.TheConstants.{VALUE_REGISTERS}
use Rattle.tl_lowering.specs.declared.naming.Locking.{Locking}
use Rattle.tl_lowering.specs.declared.paths.Held.{Held}
use Rattle.tl_lowering.specs.declared.program.Expression.{Expression}
use Rattle.tl_lowering.specs.declared.scope.Meaning.TheVariants as M
use Rattle.tl_lowering.specs.Blocks.{IsNext, nodes_more}
use Rattle.tl_lowering.specs.Outcomes.{locked}
use Rattle.tl_lowering.specs.Paths.{nodes_of}
use Rattle.tl_lowering.specs.Registers.{HasTemporaries}
use Rattle.tl_lowering.specs.Scopes.{View, meaning_of}
use Rattle.tl_lowering.specs.Sound.{IsReadable, IsLockable}
use Rattle.tl_syntax.specs.declared.parsed.Name.{Name}

-- the value's name is new, its register is the next one, and its number can be computed
pub record IsNewValue (scope : View) (held : Held) (name : Name) (register : ℕ) (number : Expression) : Type 0 where
  pub is_new : meaning_of scope name.symbol ≡ M.Nothing
  pub next : register ≡ scope.values
  pub room : scope.values < VALUE_REGISTERS
  pub temporaries : HasTemporaries number scope.values
  pub readable : IsReadable scope.values (nodes_of held) number

-- the names of the one or two nodes are new and differ, and their registers are the next ones
pub record IsDeclarable (scope : View) (l : Locking) : Type 0 where
  pub first : meaning_of scope l.first.0.symbol ≡ M.Nothing
  pub register : l.first.1 ≡ scope.nodes
  pub second : IfSome l.second (λ s. (meaning_of scope s.0.symbol ≡ M.Nothing) × (s.0.symbol.0 ≢ l.first.0.symbol.0) × (s.1 ≡ scope.nodes + 1))
  pub nodes : nodes_more l.place scope.nodes ≡ scope.nodes + (if is_some l.second then 2 else 1)

-- the nodes can be locked, and `held` is what is held after the lock
pub record IsLocking (scope : View) (held : Held) (l : Locking) : Type 0 where
  pub names : IsDeclarable scope l
  pub lockable : IsLockable l.place scope.values (nodes_of held)
  pub next : IsNext l.place scope.nodes
  pub inside : nodes_of l.held ≡ locked l.place (nodes_of held)
