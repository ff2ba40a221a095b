use Rattle.std.proofs.Common.{◌≡◌, map, take}
use Rattle.tl_rows.specs.Rows.{call_form, request_form}
use Rattle.tl_store.proofs.calls.requests_of.Given as goal

-- the requests so far are those of the first rows
abbrev pub invariant-loop-call : goal.invariant-loop-call
invariant-loop-call l = map call_form (take l.call-index l.calls) ≡ map request_form l.requests.items
