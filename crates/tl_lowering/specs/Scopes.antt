-- The meanings of names, and what returning to a mark undoes.
use Rattle.std.specs.Prelude.{◌≡◌, ℕ, ◌<◌, List, [], ◌∷◌, Bool, Option, None, Some, length, get_or, slice_set, take, drop, nat_lt}
use Rattle.tl_syntax.specs.declared.token.Symbol.{Symbol}
use Rattle.tl_instr.specs.declared.operand.Field.{Field}
use Rattle.tl_lowering.specs.declared.paths.Flow.{Flow}
use Rattle.tl_lowering.specs.declared.paths.Held.{Held}
use Rattle.tl_lowering.specs.declared.program.Statement.{Statement}
use Rattle.tl_lowering.specs.declared.scope.Meaning.{Meaning}
use Rattle.tl_lowering.specs.declared.scope.Meaning.TheVariants as M
use Rattle.tl_lowering.specs.declared.scope.Scope.{Scope}
use Rattle.tl_lowering.specs.Blocks.{AreFree}
use Rattle.tl_lowering.specs.Paths.{nodes_of, outcomes, paths_of}
use Rattle.tl_lowering.specs.Sound.{IsWellFormed}

-- a value's register is below t, and a node's is below m
abbrev pub IsBelow : ℕ → ℕ → Meaning → Type 0
IsBelow t m M.Nothing = Unit {0}
IsBelow t m (M.Constant w i) = Unit {0}
IsBelow t m (M.Value x) = x < t
IsBelow t m (M.Index x) = x < t
IsBelow t m (M.Node n) = n < m

-- the register of the node that a name denotes, if it denotes a node
abbrev pub node_in : Meaning → Option ℕ
node_in M.Nothing = None
node_in (M.Constant w i) = None
node_in (M.Value x) = None
node_in (M.Index x) = None
node_in (M.Node n) = Some n

-- a scope by value
pub record View : Type 0 where
  pub meanings : List Meaning
  pub fields : List (Option (Field × ℕ))
  pub procedures : List (Option ℕ)
  pub local : List Symbol
  pub values : ℕ
  pub nodes : ℕ
  pub loops : ℕ

abbrev pub view_of : Scope → View
view_of scope =
    record { meanings = scope.meanings.items; fields = scope.fields.items; procedures = scope.procedures.items; local = scope.local.items; values = scope.values; nodes = scope.nodes; loops = scope.loops }

-- the meaning of a name
abbrev pub meaning_of : View → Symbol → Meaning
meaning_of scope symbol = get_or scope.meanings symbol.0 M.Nothing

-- names denote registers in use, and no two names denote the same node register
pub record AreInUse (t m : ℕ) (meanings : List Meaning) : Type 0 where
  pub below : (i : ℕ) → IsBelow t m (get_or meanings i M.Nothing)
  pub apart : (i j n : ℕ) → get_or meanings i M.Nothing ≡ M.Node n → get_or meanings j M.Nothing ≡ M.Node n → i ≡ j

abbrev pub IsInUse : View → Type 0
IsInUse scope = AreInUse scope.values scope.nodes scope.meanings

-- the scope outside of procedures
pub record IsBare (scope : View) : Type 0 where
  pub names : IsInUse scope
  pub values : scope.values ≡ 0
  pub nodes : scope.nodes ≡ 0
  pub loops : scope.loops ≡ 0

-- the meanings after these names have lost theirs
abbrev pub forget : List Symbol → List Meaning → List Meaning
forget [] meanings = meanings
forget (symbol ∷ symbols) meanings = slice_set (forget symbols meanings) symbol.0 M.Nothing

-- the new scope is the old one with more names, each of which had no meaning before
pub record Extends (old new : View) : Type 0 where
  pub meanings : forget (drop (length old.local) new.local) new.meanings ≡ old.meanings
  pub local : take (length old.local) new.local ≡ old.local
  pub fields : new.fields ≡ old.fields
  pub procedures : new.procedures ≡ old.procedures

-- whether there is a loop around
abbrev pub is_in_loop : View → Bool
is_in_loop scope = nat_lt 0 scope.loops

-- the names denote registers in use, and the other registers hold no nodes
pub record IsAt (scope : View) (held : Held) : Type 0 where
  pub names : IsInUse scope
  pub nodes : AreFree scope.nodes (nodes_of held)

-- a statement that is well-formed at its position, and the flow has its paths
pub record IsLowered (scope : View) (held : Held) (statement : Statement) (flow : Flow) : Type 0 where
  pub sound : IsWellFormed statement scope.values scope.nodes (nodes_of held) (is_in_loop scope)
  pub paths : paths_of flow ≡ outcomes statement (nodes_of held)
