-- The meanings of a text's names at a position.
use Rattle.std.specs.Prelude.{◌≡◌, ◌≢◌, ℕ, ◌+◌, ◌<◌, List, [], ◌∷◌, map, Option, Some, None, option_map, slice_set, get_or, replicate, nat_lt, if◌then◌else◌, ℤ}
use Rattle.tl_budget.specs.declared.limits.TheConstants.{MAX_DEPTH}
use Rattle.tl_instr.specs.declared.operand.Field.{Field}
use Rattle.tl_instr.specs.declared.operand.TheConstants.{VALUE_REGISTERS, NODE_REGISTERS}
use Rattle.tl_lowering.specs.declared.scope.Meaning.{Meaning}
use Rattle.tl_lowering.specs.declared.scope.Meaning.TheVariants as M
use Rattle.tl_lowering.specs.declared.scope.Scope.{Scope}
use Rattle.tl_lowering.specs.Scopes.{View, view_of}
use Rattle.tl_syntax.specs.declared.parsed.Name.{Name}
use Rattle.tl_syntax.specs.declared.parsed.Place.{Place}
use Rattle.tl_syntax.specs.declared.parsed.Place.TheVariants as P

-- the lists have, at the index of a symbol, its meaning, its field with the index of its declaration, and the index of the declaration of
-- the procedure or the part that it names; the numbers count value registers in use, node registers in use, and loops around the position
pub record Names : Type 0 where
  pub meanings : List Meaning
  pub fields : List (Option (Field × ℕ))
  pub procedures : List (Option ℕ)
  pub values : ℕ
  pub nodes : ℕ
  pub loops : ℕ

abbrev pub names_in : View → Names
names_in scope = record { meanings = scope.meanings; fields = scope.fields; procedures = scope.procedures; values = scope.values; nodes = scope.nodes; loops = scope.loops }

abbrev pub names_of : Scope → Names
names_of scope = names_in (view_of scope)

-- `count` names without a meaning
abbrev pub without_meaning : ℕ → Names
without_meaning count = record { meanings = replicate count M.Nothing; fields = replicate count None; procedures = replicate count None; values = 0; nodes = 0; loops = 0 }

abbrev pub stands_for : Names → Name → Meaning
stands_for names name = get_or names.meanings name.symbol.0 M.Nothing

-- the name has no meaning yet
abbrev pub IsNew : Names → Name → Type 0
IsNew names name = stands_for names name ≡ M.Nothing

-- there is a free node register, and below a free value register
abbrev pub HasNode : Names → Type 0
HasNode names = names.nodes < NODE_REGISTERS

abbrev pub HasValue : Names → Type 0
HasValue names = names.values < VALUE_REGISTERS

-- there may be one more loop here
abbrev pub HasLoop : Names → Type 0
HasLoop names = names.loops < MAX_DEPTH

abbrev pub field_named : Names → Name → Option Field
field_named names name = option_map (λ f. f.0) (get_or names.fields name.symbol.0 None)

-- the index of the declaration of the procedure or the part of that name
abbrev pub index_of : Names → Name → Option ℕ
index_of names name = get_or names.procedures name.symbol.0 None

-- from here on the name has this meaning
abbrev pub with_meaning : Names → Name → Meaning → Names
with_meaning names name m = record names { meanings = slice_set names.meanings name.symbol.0 m }

-- the declaration with this index makes it a constant, and below a field
abbrev pub with_constant : Names → Name → ℤ → ℕ → Names
with_constant names name number index = with_meaning names name (M.Constant number index)

abbrev pub with_field : Names → Name → Field → ℕ → Names
with_field names name field index = record names { fields = slice_set names.fields name.symbol.0 (Some (field, index)) }

-- the name is also the name of a procedure or a part, which the declaration with this index declares
abbrev pub with_procedure : Names → Name → ℕ → Names
with_procedure names name index = record names { procedures = slice_set names.procedures name.symbol.0 (Some index) }

-- in a part, the one that declaration k declares, only constants are known of all these names, and below only fields: those that are declared before it
abbrev pub constant_only : ℕ → Meaning → Meaning
constant_only k M.Nothing = M.Nothing
constant_only k (M.Constant w i) = if nat_lt i k then M.Constant w i else M.Nothing
constant_only k (M.Value x) = M.Nothing
constant_only k (M.Index x) = M.Nothing
constant_only k (M.Node n) = M.Nothing

abbrev pub field_before : ℕ → Option (Field × ℕ) → Option (Field × ℕ)
field_before k None = None
field_before k (Some f) = if nat_lt f.1 k then Some f else None

-- in the part that declaration k declares, used where names have these meanings; its loops are counted from 0
abbrev pub inside : ℕ → Names → Names
inside k names = record names { meanings = map (constant_only k) names.meanings; fields = map (field_before k) names.fields; loops = 0 }

-- no name denotes this node register
abbrev pub IsUnnamed : Names → ℕ → Type 0
IsUnnamed names n = (i : ℕ) → get_or names.meanings i M.Nothing ≢ M.Node n

-- the name denotes the node in this register
abbrev pub with_alias : Names → Name → ℕ → Names
with_alias names name n = with_meaning names name (M.Node n)

-- the name denotes the value in this register
abbrev pub with_variable : Names → Name → ℕ → Names
with_variable names name x = with_meaning names name (M.Value x)

-- the name, if it is given, denotes the index of a loop's child: a value that can't be assigned, in the next register
abbrev pub meanings_with : Names → Option Name → List Meaning
meanings_with names None = names.meanings
meanings_with names (Some name) = slice_set names.meanings name.symbol.0 (M.Index names.values)

abbrev pub with_index : Names → Option Name → Names
with_index names index = record names { meanings = meanings_with names index; values = names.values + 1 }

-- a value without a name uses the next register
abbrev pub with_unnamed : Names → Names
with_unnamed names = record names { values = names.values + 1 }

-- the name denotes a value in the next register
abbrev pub with_value : Names → Name → Names
with_value names name = record (with_meaning names name (M.Value names.values)) { values = names.values + 1 }

abbrev pub with_values : Names → List Name → Names
with_values names [] = names
with_values names (name ∷ others) = with_values (with_value names name) others

-- so many values without names use the next registers
abbrev pub with_room : Names → ℕ → Names
with_room names count = record names { values = names.values + count }

-- the names denote the values in the registers from x on
abbrev pub with_variables : Names → ℕ → List Name → Names
with_variables names x [] = names
with_variables names x (name ∷ others) = with_variables (with_variable names name x) (x + 1) others

-- in the body of a loop
abbrev pub in_loop : Names → Names
in_loop names = record names { loops = names.loops + 1 }

-- each name is new when those before it are declared
abbrev pub AreNew : Names → List Name → Type 0
AreNew names [] = Unit {0}
AreNew names (name ∷ others) = IsNew names name × AreNew (with_value names name) others

-- the same of names for the values in the registers from x on
abbrev pub AreFound : Names → ℕ → List Name → Type 0
AreFound names x [] = Unit {0}
AreFound names x (name ∷ others) = IsNew names name × AreFound (with_variable names name x) (x + 1) others

-- the name denotes a node in the next register
abbrev pub with_node : Names → Name → Names
with_node names name = record (with_meaning names name (M.Node names.nodes)) { nodes = names.nodes + 1 }

-- the names of the locked nodes are declared
abbrev pub with_place : Names → Place → Names
with_place names (P.Node name offset number) = with_node names name
with_place names (P.Child child) = with_node names child.name
with_place names (P.Pair first second) = with_node (with_node names first.name) second.name

-- the names of a loop's child and of its index are new and differ
abbrev pub AreFresh : Names → Name → Option Name → Type 0
AreFresh names child None = IsNew names child
AreFresh names child (Some index) = IsNew names child × IsNew (with_node names child) index
