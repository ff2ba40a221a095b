-- The request that a line contains.
use Rattle.std.specs.Prelude.{◌≡◌, ◌≤◌, ◌<◌, ◌==◌, ◌&&◌, ℕ, ℤ, pos, negsuc, List, map, length, codes, Bool, true, false, nat_lt, nat_le, Option, Some, None, option_map, option_and_then, string_bytes, if◌then◌else◌, unwrap_or, IsUtf8}
use Rattle.std.specs.Str.{bytes_eq}
use Rattle.serde_json.specs.Data.{Data}
use Rattle.serde_json.specs.Events.{members_len}
use Rattle.serde_json.specs.Find.{as_object, as_str, get}
use Rattle.serde_json.specs.Read.{read}
use Rattle.tl_tree.specs.Reading.{both, integer_of, integers_of}
use Rattle.tl_json.specs.Lists.{each_of}
use Rattle.tl_json.specs.Requests.{request_form, request_of}
use Rattle.tl_workers.specs.declared.batch.TheConstants.{MAX_REQUESTS, MAX_WORKERS}
use Rattle.tl_server.specs.declared.request.TheConstants.{MAX_LINE, MAX_KEY}
use Rattle.tl_server.specs.declared.request.LineRequest.{LineRequest}
use Rattle.tl_server.specs.declared.request.LineRequest.TheVariants.{Register, RegisterText, Replace, Call, CallOnce, Batch, Grow, Seal, Close}
use Rattle.tl_server.specs.declared.fault.LineFault.{LineFault}
use Rattle.tl_server.specs.declared.fault.LineFault.TheVariants as fault

-- the name and the text of a procedure; the text of several procedures; the text of procedures in the place of others; the name and the arguments of a call, and maybe its key; several calls and their number of threads;
-- the parents of nodes to append to the tree; the seal of an epoch; or the end of the connection
pub data LineValue : Type 0 where
  Registers : List ℕ → List ℕ → LineValue
  RegistersText : List ℕ → LineValue
  Replaces : List ℕ → LineValue
  Calls : List ℕ → List ℤ → LineValue
  CallsOnce : List ℕ → List ℤ → List ℕ → LineValue
  Batches : List (List ℕ × List ℤ) → ℕ → LineValue
  Grows : List ℤ → LineValue
  Seals : LineValue
  Closes : LineValue

abbrev pub line_view : LineRequest → LineValue
line_view (Register p) = Registers (string_bytes p.name) (string_bytes p.text)
line_view (RegisterText text) = RegistersText (string_bytes text)
line_view (Replace text) = Replaces (string_bytes text)
line_view (Call q) = Calls (string_bytes q.name) q.args.items
line_view (CallOnce q) = CallsOnce (string_bytes q.request.name) q.request.args.items (string_bytes q.key)
line_view (Batch b) = Batches (map request_form b.requests.items) b.workers
line_view (Grow parents) = Grows parents.items
line_view Seal = Seals
line_view Close = Closes

-- the client rules by the request: it changes which procedures or nodes there are, or seals an epoch
abbrev pub rules : LineValue → Bool
rules (Registers name text) = true
rules (RegistersText text) = true
rules (Replaces text) = true
rules (Calls name args) = false
rules (CallsOnce name args key) = false
rules (Batches calls workers) = false
rules (Grows parents) = true
rules Seals = true
rules Closes = false

-- a frozen server refuses requests by which a client rules
abbrev pub is_barred : Bool → LineValue → Bool
is_barred frozen r = frozen && rules r

-- ---- the nine forms

-- the value is an object with `count` members
abbrev pub has_members : ℕ → Data → Bool
has_members count d = unwrap_or (option_map (λ ms. members_len ms == count) (as_object d)) false

-- the string that is the member with this name
abbrev pub text_at : List ℕ → Data → Option (List ℕ)
text_at key d = option_and_then as_str (get key d)

abbrev pub register_text_of : Data → Option LineValue
register_text_of d = if has_members 2 d then option_map RegistersText (text_at (codes "text") d) else None

abbrev pub register_of : Data → Option LineValue
register_of d = if has_members 3 d
    then option_map (λ x. Registers x.0 x.1) (both (text_at (codes "name") d) (text_at (codes "asm") d))
    else register_text_of d

abbrev pub replace_of : Data → Option LineValue
replace_of d = if has_members 2 d then option_map Replaces (text_at (codes "text") d) else None

-- the name and the arguments of a call
abbrev pub request_at : Data → Option (List ℕ × List ℤ)
request_at d = both (text_at (codes "proc") d) (option_and_then integers_of (get (codes "args") d))

-- a key of 1 to 64 bytes
abbrev pub key_of : Data → Option (List ℕ)
key_of d = option_and_then (λ key. if nat_lt 0 (length key) && nat_le (length key) MAX_KEY then Some key else None) (text_at (codes "key") d)

abbrev pub call_once_of : Data → Option LineValue
call_once_of d = if has_members 4 d then option_map (λ x. CallsOnce x.1.0 x.1.1 x.0) (both (key_of d) (request_at d)) else None

abbrev pub call_of : Data → Option LineValue
call_of d = if has_members 3 d then option_map (λ x. Calls x.0 x.1) (request_at d) else call_once_of d

-- a number of workers, from 1 to 16
abbrev pub workers_of : ℤ → Option ℕ
workers_of (pos n) = if nat_lt 0 n && nat_le n MAX_WORKERS then Some n else None
workers_of (negsuc n) = None

-- 1 to 256 calls
abbrev pub calls_of : Data → Option (List (List ℕ × List ℤ))
calls_of d = option_and_then (λ calls. if nat_lt 0 (length calls) && nat_le (length calls) MAX_REQUESTS then Some calls else None) (each_of request_of d)

abbrev pub batch_of : Data → Option LineValue
batch_of d = if has_members 3 d
    then option_map (λ x. Batches x.0 x.1)
    (both (option_and_then calls_of (get (codes "calls") d)) (option_and_then workers_of (option_and_then integer_of (get (codes "workers") d))))
    else None

-- at least one parent
abbrev pub grow_of : Data → Option LineValue
grow_of d = if has_members 2 d
    then option_and_then (λ ps. if nat_lt 0 (length ps) then Some (Grows ps) else None) (option_and_then integers_of (get (codes "parents") d))
    else None

abbrev pub seal_of : Data → Option LineValue
seal_of d = if has_members 1 d then Some Seals else None

abbrev pub close_of : Data → Option LineValue
close_of d = if has_members 1 d then Some Closes else None

-- the request in an object whose member `op` is this
abbrev pub request_with : List ℕ → Data → Option LineValue
request_with op d =
    if bytes_eq op (codes "register") then register_of d
    else if bytes_eq op (codes "replace") then replace_of d
    else if bytes_eq op (codes "call") then call_of d
    else if bytes_eq op (codes "batch") then batch_of d
    else if bytes_eq op (codes "grow") then grow_of d
    else if bytes_eq op (codes "seal") then seal_of d
    else if bytes_eq op (codes "close") then close_of d
    else None

-- the request in a JSON value
abbrev pub line_request_of : Data → Option LineValue
line_request_of d = option_and_then (λ op. request_with op d) (text_at (codes "op") d)

-- ---- a line

-- The line is short enough, is UTF-8, and this is what is read from its value.
pub record IsRead {A : Type 0} (reads : Data → Option A) (line : List ℕ) (found : A) : Type 0 where
  pub short : length line ≤ MAX_LINE
  pub utf8 : IsUtf8 line
  pub same : option_and_then reads (read line) ≡ Some found

-- the first fault of a line from whose value nothing is read
abbrev pub IsUnread : {A : Type 0} → (Data → Option A) → List ℕ → LineFault → Type 0
IsUnread reads line fault.TooLong = MAX_LINE < length line
IsUnread reads line fault.NotUtf8 = (length line ≤ MAX_LINE) × ¬ IsUtf8 line
IsUnread reads line fault.NotRequest = (length line ≤ MAX_LINE) × IsUtf8 line × (option_and_then reads (read line) ≡ None)
IsUnread reads line fault.Memory = ⊥

-- the line contains this request
abbrev pub IsRequest : List ℕ → LineValue → Type 0
IsRequest = IsRead line_request_of

-- the first fault of a line that contains none
abbrev pub IsLineFault : List ℕ → LineFault → Type 0
IsLineFault = IsUnread line_request_of
