-- What a loop repeats.
use Rattle.std.specs.Prelude.{◌≡◌, ◌≢◌, ℕ, ◌+◌, ◌≤◌, Bool, true, false, Some, None, IfSome}
use Rattle.tl_instr.specs.declared.operand.TheConstants.{VALUE_REGISTERS}
use Rattle.tl_lowering.specs.declared.loops.Repetition.{Repetition}
use Rattle.tl_lowering.specs.declared.loops.Repetition.TheVariants as R
use Rattle.tl_lowering.specs.declared.loops.Visit.{Visit}
use Rattle.tl_lowering.specs.declared.paths.Flow.{Flow}
use Rattle.tl_lowering.specs.declared.paths.Held.{Held}
use Rattle.tl_lowering.specs.declared.program.Statement.{Statement}
use Rattle.tl_lowering.specs.declared.scope.Meaning.TheVariants as M
use Rattle.tl_lowering.specs.Outcomes.{after, fails, breaks}
use Rattle.tl_lowering.specs.Paths.{nodes_of, paths_of, outcomes, keeping}
use Rattle.tl_lowering.specs.Scopes.{View, meaning_of}
use Rattle.tl_lowering.specs.Sets.{Nodes, holds, with_node, without_node, both_of, all_of}
use Rattle.tl_lowering.specs.Sound.{IsReadable, IsWellFormed}

-- the names of the child and of its index are new and differ, their registers are the next ones, and the parent is held
pub record IsVisit (scope : View) (held : Held) (v : Visit) : Type 0 where
  pub name : meaning_of scope v.name.symbol ≡ M.Nothing
  pub index_name : IfSome v.index_name (λ n. (meaning_of scope n.symbol ≡ M.Nothing) × (n.symbol.0 ≢ v.name.symbol.0))
  pub child : v.child ≡ scope.nodes
  pub index : v.index ≡ scope.values
  pub room : scope.values + 3 ≤ VALUE_REGISTERS
  pub parent : holds (nodes_of held) v.parent ≡ true

abbrev pub IsRepetition : View → Held → Repetition → Type 0
IsRepetition scope held (R.Times w) = Unit {0}
IsRepetition scope held (R.UpTo e w) = IsReadable scope.values (nodes_of held) e
IsRepetition scope held (R.Children v) = IsVisit scope held v

-- what is held when a body begins
abbrev pub begun : Repetition → Nodes → Nodes
begun (R.Times w) held = held
begun (R.UpTo e w) held = held
begun (R.Children v) held = with_node held v.child

-- the nodes whose children were passed when a body begins: of a `for each`, the parent but not the child
abbrev pub passed_within : Repetition → Nodes → Nodes
passed_within (R.Times w) passed = passed
passed_within (R.UpTo e w) passed = passed
passed_within (R.Children v) passed = without_node (with_node passed v.parent) v.child

-- a loop over a node's children begins where they weren't passed on some path
abbrev pub IsUnpassed : Nodes → Repetition → Type 0
IsUnpassed passed (R.Times w) = Unit {0}
IsUnpassed passed (R.UpTo e w) = Unit {0}
IsUnpassed passed (R.Children v) = holds passed v.parent ≡ false

abbrev pub more_in : Repetition → ℕ → ℕ
more_in (R.Times w) n = n
more_in (R.UpTo e w) n = n
more_in (R.Children v) n = n + 1

-- a body that is well-formed, and at whose end everything that was held before it is held
pub record IsBody (d m : ℕ) (held : Nodes) (repetition : Repetition) (body : Statement) : Type 0 where
  pub sound : IsWellFormed body (more_in repetition d) (more_in repetition m) (begun repetition held) true
  pub kept : IfSome (keeping held (after body (begun repetition held))) (λ h. h ≡ held)

-- the same, and the flow has its paths
pub record IsTurn (d m : ℕ) (held : Nodes) (repetition : Repetition) (body : Statement) (flow : Flow) : Type 0 where
  pub turn : IsBody d m held repetition body
  pub paths : paths_of flow ≡ record (outcomes body (begun repetition held)) { after = keeping held (after body (begun repetition held)) }

-- a loop over all children: it may end at a `break` or after the last child, and it may fail before each turn
pub record IsWalk (d m : ℕ) (held : Nodes) (in_loop : Bool) (child : ℕ) (body whole : Statement) : Type 0 where
  pub sound : IsWellFormed whole d m held in_loop
  pub paths : outcomes whole held ≡ record {
    after = keeping held (both_of (Some held) (all_of (breaks body (with_node held child))));
    fails = both_of (Some held) (all_of (fails body (with_node held child)));
    breaks = None;
  }
