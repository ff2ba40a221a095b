-- What is true of a block while it is read.
use Rattle.std.specs.Prelude.{◌≡◌, ℕ, None, reverse}
use Rattle.tl_lowering.specs.declared.lowering.Draft.{Draft}
use Rattle.tl_lowering.specs.declared.lowering.Entrance.{Entrance}
use Rattle.tl_lowering.specs.declared.lowering.Entrance.TheVariants as E
use Rattle.tl_lowering.specs.declared.lowering.Head.{Head}
use Rattle.tl_lowering.specs.declared.lowering.Head.TheVariants as H
use Rattle.tl_lowering.specs.declared.paths.Flow.{Flow}
use Rattle.tl_lowering.specs.declared.paths.Held.{Held}
use Rattle.tl_lowering.specs.declared.program.Statement.{Statement}
use Rattle.tl_lowering.specs.Blocks.{then_of, outcomes_all, Standing, reached, AreWellFormedAt, AreOpen, nodes_more}
use Rattle.tl_lowering.specs.Declaring.{IsNewValue, IsLocking}
use Rattle.tl_lowering.specs.Outcomes.{locked}
use Rattle.tl_lowering.specs.Paths.{Paths, nodes_of, outcomes, paths_of}
use Rattle.tl_lowering.specs.Scopes.{View, IsLowered, is_in_loop}
use Rattle.tl_lowering.specs.Sets.{Nodes}
use Rattle.tl_lowering.specs.Sound.{IsTestable, IsWellFormed}

-- what a declaration is about to declare is well-formed
abbrev pub IsHead : View → Held → Head → Type 0
IsHead scope held (H.Value name register number) = IsNewValue scope held name register number
IsHead scope held (H.Nodes locking) = IsLocking scope held locking

-- what an `if` tests is well-formed
abbrev pub IsEntrance : View → Held → Entrance → Type 0
IsEntrance scope held (E.Condition condition) = IsTestable scope.values (nodes_of held) condition
IsEntrance scope held (E.Lock locking) = IsLocking scope held locking

-- what is held when the first block of an `if` begins, and below the number of node registers in use there
abbrev pub entered : Entrance → Nodes → Nodes
entered (E.Condition condition) held = held
entered (E.Lock locking) held = locked locking.place held

abbrev pub nodes_in : Entrance → ℕ → ℕ
nodes_in (E.Condition condition) m = m
nodes_in (E.Lock locking) m = nodes_more locking.place m

-- the first block of an `if` is well-formed, and the flow has its paths
pub record IsInside (scope : View) (held : Held) (entrance : Entrance) (statement : Statement) (flow : Flow) : Type 0 where
  pub sound : IsWellFormed statement scope.values (nodes_in entrance scope.nodes) (entered entrance (nodes_of held)) (is_in_loop scope)
  pub paths : paths_of flow ≡ outcomes statement (entered entrance (nodes_of held))

-- the `else` is well-formed and leaves the block
pub record IsRefusal (scope : View) (held : Held) (statement : Statement) (flow : Flow) : Type 0 where
  pub lowered : IsLowered scope held statement flow
  pub ends : (paths_of flow).after ≡ None

-- the position after the open declarations, and below the paths after the part of a block that has been read
unfoldable pub behind_opened : Standing → Draft → Standing
behind_opened start draft = reached (reverse draft.opened.items) start

unfoldable pub behind_draft : Standing → Draft → Paths
behind_draft start draft = then_of (behind_opened start draft).paths (outcomes_all draft.statements.items)

-- the part of a block that has been read is well-formed
pub record IsDraft (start : Standing) (draft : Draft) (scope : View) : Type 0 where
  pub opened : AreOpen (reverse draft.opened.items) start (is_in_loop scope)
  pub statements : AreWellFormedAt draft.statements.items (behind_opened start draft) (is_in_loop scope)
  pub values : (behind_opened start draft).values ≡ scope.values
  pub nodes : (behind_opened start draft).nodes ≡ scope.nodes
