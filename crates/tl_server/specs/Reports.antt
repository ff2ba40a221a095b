-- What a server reports about itself.
use Rattle.std.specs.Prelude.{ℕ, List, ◌++◌, codes, decimal, Result, Ok, Err, Vec, is_ok, count_by, if◌then◌else◌}
use Rattle.std.specs.declared.alloc.Global.{Global}
use Rattle.std.specs.Result.{is_err}
use Rattle.tl_server.specs.declared.outcome.RequestOutcome.{RequestOutcome}
use Rattle.tl_server.specs.declared.outcome.RequestOutcome.TheVariants.{Registered, RegisteredAll, Replaced, Called, Recalled, KeyRefused, Batched, Sealed, Grown, Unknown}
use Rattle.tl_server.specs.declared.status.Status.{Status}

-- the number of receipts among an outcome's answers
abbrev pub receipts_of : RequestOutcome → ℕ
receipts_of (Registered answer) = 0
receipts_of (RegisteredAll answer) = 0
receipts_of (Replaced answer) = 0
receipts_of (Called answer) = if is_ok answer then 1 else 0
receipts_of (Recalled kept) = 0
receipts_of (KeyRefused fault) = 0
receipts_of (Batched (Ok v)) = count_by is_ok v.items
receipts_of (Batched (Err e)) = 0
receipts_of (Sealed answer) = 0
receipts_of (Grown answer) = 0
receipts_of Unknown = 0

-- the number of an outcome's answers that are errors: what was refused
abbrev pub refusals_of : RequestOutcome → ℕ
refusals_of (Registered answer) = if is_ok answer then 0 else 1
refusals_of (RegisteredAll answer) = if is_ok answer then 0 else 1
refusals_of (Replaced answer) = if is_ok answer then 0 else 1
refusals_of (Called answer) = if is_ok answer then 0 else 1
refusals_of (Recalled kept) = 0
refusals_of (KeyRefused fault) = 1
refusals_of (Batched (Ok v)) = count_by is_err v.items
refusals_of (Batched (Err e)) = 1
refusals_of (Sealed answer) = if is_ok answer then 0 else 1
refusals_of (Grown answer) = if is_ok answer then 0 else 1
refusals_of Unknown = 1

abbrev pub status_text : Status → List ℕ
status_text s =
    codes "{\"epoch\":" ++ decimal s.epoch ++ codes ",\"generation\":" ++ decimal s.generation ++ codes ",\"calls\":" ++ decimal s.calls
    ++ codes ",\"connections\":" ++ decimal s.connections ++ codes ",\"nodes\":" ++ decimal s.nodes ++ codes ",\"procedures\":" ++ decimal s.procedures
    ++ codes ",\"refusals\":" ++ decimal s.refusals ++ codes ",\"places\":" ++ decimal s.places ++ codes ",\"browsers\":" ++ decimal s.browsers
    ++ codes ",\"volume\":" ++ decimal s.volume ++ codes "}"
