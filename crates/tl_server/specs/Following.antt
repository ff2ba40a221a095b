-- What a follower's line asks for.
use Rattle.std.specs.Prelude.{ℕ, ◌==◌, List, [], ◌∷◌, length, codes, Bool, true, false, if◌then◌else◌, Option, Some, None, is_some, min, option_map, option_and_then}
use Rattle.std.specs.Str.{bytes_eq}
use Rattle.serde_json.specs.Data.{Data}
use Rattle.serde_json.specs.Find.{as_null, as_array, as_number, as_u64, get}
use Rattle.tl_tree.specs.Reading.{each_item}
use Rattle.tl_server.specs.declared.follow.TheConstants.{TABLES, MAX_WAIT}
use Rattle.tl_server.specs.declared.follow.Position.{Position}
use Rattle.tl_server.specs.declared.follow.Follow.{Follow}
use Rattle.tl_server.specs.declared.follow.FollowRefusal.{FollowRefusal}
use Rattle.tl_server.specs.declared.follow.FollowRefusal.TheVariants as refusal
use Rattle.tl_server.specs.Requests.{has_members, text_at}

-- where the rows begin, after how many seals the follower's records are, how long it waits, and whether it holds what is before
pub record FollowValue : Type 0 where
  pub from : Option (ℕ × List ℕ)
  pub records : Option ℕ
  pub wait : ℕ
  pub holds : Bool

-- a volume, and how many rows of each of its tables
abbrev pub position_view : Position → ℕ × List ℕ
position_view p = (p.volume, p.rows)

abbrev pub follow_view : Follow → FollowValue
follow_view f = record { from = option_map position_view f.from; records = f.records; wait = f.wait; holds = f.holds }

abbrev pub number_of : Data → Option ℕ
number_of d = option_and_then as_u64 (as_number d)

-- the number of a volume, and one for each table
abbrev pub position_in : List ℕ → Option (ℕ × List ℕ)
position_in [] = None
position_in (volume ∷ rows) = if length rows == TABLES then Some (volume, rows) else None

abbrev pub position_of : Data → Option (ℕ × List ℕ)
position_of d = option_and_then position_in (option_and_then (each_item number_of) (as_array d))

-- null, or what f reads
abbrev pub if_any : {A : Type 0} → (Data → Option A) → Data → Option (Option A)
if_any f d = if is_some (as_null d) then Some None else option_map Some (f d)

-- whether the follower holds what is before its position
abbrev pub holds_of : List ℕ → Option Bool
holds_of op = if bytes_eq op (codes "follow") then Some false else if bytes_eq op (codes "hold") then Some true else None

-- an object with exactly the members `from`, `op`, `records` and `wait`
abbrev pub follow_of : Data → Option FollowValue
follow_of d = if has_members 4 d
    then option_and_then (λ holds. option_and_then (λ from. option_and_then (λ records. option_map (λ wait.
    record { from = from; records = records; wait = min wait MAX_WAIT; holds = holds })
    (option_and_then number_of (get (codes "wait") d)))
    (option_and_then (if_any number_of) (get (codes "records") d)))
    (option_and_then (if_any position_of) (get (codes "from") d)))
    (option_and_then holds_of (text_at (codes "op") d))
    else None

-- the numbers of the reason why a follower gets no rows
abbrev pub follow_numbers_of : FollowRefusal → List ℕ
follow_numbers_of refusal.NoStore = 901 ∷ []
follow_numbers_of refusal.NotThere = 1021 ∷ []
follow_numbers_of (refusal.BadRow table) = 1003 ∷ table ∷ []
follow_numbers_of refusal.Broken = 1011 ∷ []
follow_numbers_of refusal.Memory = 1090 ∷ []
