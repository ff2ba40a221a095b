-- The shape of a tree is the list of its nodes' parents. Node 0 is the root.
use Rattle.std.specs.Prelude.{◌≡◌, ℕ, ◌+◌, ◌<◌, ◌≤◌, ◌==◌, ℤ, pos, negsuc, unsigned_abs, List, [], ◌∷◌, length, map, slice_index, slice_index_or, nat_eq, nat_lt, drop, Bool, true, false, if◌then◌else◌, Option, Some, None, option_map, Result, Ok, Err, Vec}
use Rattle.std.specs.declared.alloc.Global.{Global}
use Rattle.tl_tree.specs.declared.shape.TheConstants.{MAX_NODES}
use Rattle.tl_tree.specs.declared.fault.TreeFault.{TreeFault}
use Rattle.tl_tree.specs.declared.fault.TreeFault.TheVariants.{Empty, TooMany, BadRoot, BadParent}

abbrev pub parent : List ℕ → ℕ → ℕ
parent parents x = slice_index parents x

-- A tree has 1 to 4,294,967,295 nodes. The root is its own parent, and the parent of each other node has a lower number.
pub record IsTree (parents : List ℕ) : Type 0 where
  pub some : 0 < length parents
  pub few : length parents ≤ MAX_NODES
  pub root : parent parents 0 ≡ 0
  pub lower : (x : ℕ) → 0 < x → x < length parents → parent parents x < x

-- zero or more parent steps lead from b to a
pub data Above (parents : List ℕ) (a : ℕ) : ℕ → Type 0 where
  itself : Above parents a a
  below : {b : ℕ} → Above parents a (parent parents b) → Above parents a b

-- the nodes whose parent is x, where the list gives the parents of the nodes from i on
abbrev pub kids_from : List ℕ → ℕ → ℕ → List ℕ
kids_from [] i x = []
kids_from (p ∷ ps) i x = if nat_eq p x then i ∷ kids_from ps (i + 1) x else kids_from ps (i + 1) x

-- the children of x by rising number; the root is no node's child
abbrev pub kids : List ℕ → ℕ → List ℕ
kids parents x = kids_from (drop 1 parents) 1 x

-- kid is a node other than the root, and its parent is x
pub record IsKid (parents : List ℕ) (x kid : ℕ) : Type 0 where
  pub below_root : 0 < kid
  pub inside : kid < length parents
  pub parent_is : parent parents kid ≡ x

abbrev pub lists_of : List (Vec ℕ Global) → List (List ℕ)
lists_of vectors = map (λ v. v.items) vectors

-- `lists` has, for each node, the list of its children
pub record IsIndex (parents : List ℕ) (lists : List (List ℕ)) : Type 0 where
  pub size : length lists ≡ length parents
  pub each : (x : ℕ) → x < length parents → slice_index_or lists x [] ≡ kids parents x

-- ---- integers that may be the parents of a tree

abbrev pub is_root : ℤ → Bool
is_root (pos p) = p == 0
is_root (negsuc p) = false

-- the integer is the number of a node before x
abbrev pub is_lower : ℤ → ℕ → Bool
is_lower (pos p) x = nat_lt p x
is_lower (negsuc p) x = false

-- the first node whose parent isn't a lower number, where the list gives the parents of the nodes from x on
abbrev pub first_astray : ℕ → List ℤ → Option ℕ
first_astray x [] = None
first_astray x (p ∷ ps) = if is_lower p x then first_astray (x + 1) ps else Some x

-- the first fault of these parents for a tree of at most `limit` nodes
abbrev pub shape_fault : ℕ → List ℤ → Option TreeFault
shape_fault limit [] = Some Empty
shape_fault limit (p ∷ ps) =
    if nat_lt limit (length (p ∷ ps)) then Some TooMany
    else (if is_root p then option_map BadParent (first_astray 1 ps) else Some BadRoot)

abbrev pub unless_fault : {X : Type 0} → Option TreeFault → X → Result X TreeFault
unless_fault None x = Ok x
unless_fault (Some fault) x = Err fault

-- the shape with these parents, if it has at most `limit` nodes; otherwise the first fault
abbrev pub shape_of : ℕ → List ℤ → Result (List ℕ) TreeFault
shape_of limit numbers = unless_fault (shape_fault limit numbers) (map unsigned_abs numbers)

-- x is the lowest node other than the root whose parent isn't a lower number
pub record IsFirstAstray (numbers : List ℤ) (x : ℕ) : Type 0 where
  pub below_root : 0 < x
  pub inside : x < length numbers
  pub astray : is_lower (slice_index_or numbers x (pos 0)) x ≡ false
  pub least : (y : ℕ) → 0 < y → y < x → is_lower (slice_index_or numbers y (pos 0)) y ≡ true
