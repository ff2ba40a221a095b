-- How the entries of a session are stored, with their values and names apart.
use Rattle.std.specs.Prelude.{◌≡◌, ℕ, ℤ, ◌+◌, ◌*◌, ◌^◌, ◌≤◌, ◌<◌, List, [], ◌∷◌, ◌++◌, length, take, drop, Some, slice_get, get_or}
use Rattle.tl_budget.specs.declared.limits.TheConstants.{MAX_EMITS}
use Rattle.tl_instr.specs.declared.operand.TheConstants.{MAX_ARGS}
use Rattle.tl_workers.specs.declared.notes.Entry.{Entry}
use Rattle.tl_workers.specs.declared.notes.Entry.TheVariants.{OfCall, OfReceipt}
use Rattle.tl_workers.specs.declared.session.Did.{Did}
use Rattle.tl_workers.specs.declared.session.Did.TheVariants.{Asked, Got}
use Rattle.tl_workers.specs.Kept.{asking}

-- what was done, and for how many more requests and receipts memory is reserved
pub record NotesValue : Type 0 where
  pub kept : List Did
  pub asks : ℕ
  pub gots : ℕ

-- the value of a stored entry
abbrev pub did_of : List ℤ → List (List ℕ) → Entry → Did
did_of values names (OfCall epoch call name start args) =
    Asked (asking epoch call (get_or names name []) (take args (drop start values)))
did_of values names (OfReceipt session epoch call procedure start args reply) = Got (record {
  session = session;
  epoch = epoch;
  call = call;
  procedure = procedure;
  args = record { items = take args (drop start values) };
  reply = record { items = take reply (drop (start + args) values) };
})

abbrev pub dids_of : List ℤ → List (List ℕ) → List Entry → List Did
dids_of values names [] = []
dids_of values names (e ∷ es) = did_of values names e ∷ dids_of values names es

-- the entry refers only to existing values and names, and to no more values than a call may have
abbrev pub IsWithin : ℕ → ℕ → Entry → Type 0
IsWithin values names (OfCall epoch call name start args) = (name < names) × (start + args ≤ values) × (args ≤ MAX_ARGS)
IsWithin values names (OfReceipt session epoch call procedure start args reply) =
    (start + args + reply ≤ values) × (args ≤ MAX_ARGS) × (reply ≤ MAX_EMITS)

abbrev pub AreWithin : ℕ → ℕ → List Entry → Type 0
AreWithin values names [] = Unit {0}
AreWithin values names (e ∷ es) = IsWithin values names e × AreWithin values names es

-- the largest number of values in this number of requests and receipts
abbrev pub values_for : ℕ → ℕ → ℕ
values_for asks gots = asks * MAX_ARGS + gots * (MAX_ARGS + MAX_EMITS)

-- there is memory for `more` further elements, and all places fit 32 bits
abbrev pub IsReserved : ℕ → ℕ → ℕ → Type 0
IsReserved len capacity more = (len + more ≤ capacity) × (len + more < 2 ^ 32)

-- the name is at that place, at most one name was added, and the earlier names didn't change
pub record KeepsName (old new : List (List ℕ)) (name : List ℕ) (place : ℕ) : Type 0 where
  pub more : List (List ℕ)
  pub kept : new ≡ old ++ more
  pub few : length more ≤ 1
  pub there : slice_get new place ≡ Some name
