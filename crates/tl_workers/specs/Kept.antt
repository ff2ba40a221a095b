-- What a session's holder has done.
use Rattle.std.specs.Prelude.{◌≡◌, ℕ, List, [], ◌∷◌, ◌++◌, Ok, Err, Result, Some, slice_get, ℤ, string_bytes}
use Rattle.tl_table.specs.declared.receipt.Receipt.{Receipt}
use Rattle.tl_workers.specs.declared.asking.Asking.{Asking}
use Rattle.tl_procedures.specs.declared.request.Request.{Request}
use Rattle.tl_workers.specs.declared.refusal.Refusal.{Refusal}
use Rattle.tl_workers.specs.declared.session.Did.{Did}
use Rattle.tl_workers.specs.declared.session.Did.TheVariants.{Asked, Got}

-- a session: its number, what its holder requested and received, and for how many more calls and receipts memory is reserved
pub record SessionValue : Type 0 where
  pub number : ℕ
  pub kept : List Did
  pub asks : ℕ
  pub gots : ℕ

-- the same session after its holder has done this in addition
pub record Gains (old new : SessionValue) (more : List Did) : Type 0 where
  pub number : new.number ≡ old.number
  pub kept : new.kept ≡ old.kept ++ more

abbrev pub asking : ℕ → ℕ → List ℕ → List ℤ → Asking
asking epoch call name args = record { epoch = epoch; call = call; name = name; args = record { items = args } }

-- the entry at i is a request for call c of epoch e
abbrev pub AsksAt : List Did → ℕ → ℕ → ℕ → Type 0
AsksAt dids i e c = (a : Asking) × (slice_get dids i ≡ Some (Asked a)) × (a.epoch ≡ e) × (a.call ≡ c)

-- one call: its request and then its receipt
abbrev pub call_of : List ℕ → List ℤ → Receipt → List Did
call_of name args r = Asked (asking r.epoch r.call name args) ∷ Got r ∷ []

-- the receipt of each request that was answered Ok has the request's arguments
abbrev pub AnswersEach : List Request → List (Result Receipt Refusal) → Type 0
AnswersEach [] [] = Unit {0}
AnswersEach [] (r ∷ rs) = ⊥
AnswersEach (q ∷ qs) [] = ⊥
AnswersEach (q ∷ qs) (Ok r ∷ rs) = (r.args.items ≡ q.args.items) × AnswersEach qs rs
AnswersEach (q ∷ qs) (Err e ∷ rs) = AnswersEach qs rs

-- the entries of the requests that were answered Ok
abbrev pub asked_of : List Request → List (Result Receipt Refusal) → List Did
asked_of (q ∷ qs) (Ok r ∷ rs) = Asked (asking r.epoch r.call (string_bytes q.name) q.args.items) ∷ asked_of qs rs
asked_of (q ∷ qs) (Err e ∷ rs) = asked_of qs rs
asked_of qs rs = []

-- the entries of their receipts
abbrev pub gots_of : List (Result Receipt Refusal) → List Did
gots_of [] = []
gots_of (Ok r ∷ rs) = Got r ∷ gots_of rs
gots_of (Err e ∷ rs) = gots_of rs

-- an admitted call has the request's name and arguments
abbrev pub AsksFor : Request → Result Asking Refusal → Type 0
AsksFor q (Ok a) = (a.name ≡ string_bytes q.name) × (a.args.items ≡ q.args.items)
AsksFor q (Err e) = Unit {0}

-- each admitted call has the name and arguments of the request at its place
abbrev pub AdmittedEach : List Request → List (Result Asking Refusal) → Type 0
AdmittedEach [] [] = Unit {0}
AdmittedEach [] (a ∷ rest) = ⊥
AdmittedEach (q ∷ qs) [] = ⊥
AdmittedEach (q ∷ qs) (Ok a ∷ rest) = (a.name ≡ string_bytes q.name) × (a.args.items ≡ q.args.items) × AdmittedEach qs rest
AdmittedEach (q ∷ qs) (Err e ∷ rest) = AdmittedEach qs rest

-- the answer is the receipt of the admitted call, or the reason of the refusal
abbrev pub Answers : Result Asking Refusal → Result Receipt Refusal → Type 0
Answers (Ok a) (Ok r) = (r.epoch ≡ a.epoch) × (r.call ≡ a.call) × (r.args.items ≡ a.args.items)
Answers (Ok a) (Err f) = ⊥
Answers (Err e) (Ok r) = ⊥
Answers (Err e) (Err f) = f ≡ e

-- a receipt for each admitted call, and the reason for each refused one
abbrev pub ReceiptsEach : List (Result Asking Refusal) → List (Result Receipt Refusal) → Type 0
ReceiptsEach [] [] = Unit {0}
ReceiptsEach (Ok a ∷ rest) (Ok r ∷ rs) = (r.epoch ≡ a.epoch) × (r.call ≡ a.call) × (r.args.items ≡ a.args.items) × ReceiptsEach rest rs
ReceiptsEach (Err e ∷ rest) (Err f ∷ rs) = (f ≡ e) × ReceiptsEach rest rs
ReceiptsEach rest rs = ⊥

-- the entries of the admitted calls
abbrev pub askings_of : List (Result Asking Refusal) → List Did
askings_of [] = []
askings_of (Ok a ∷ rest) = Asked a ∷ askings_of rest
askings_of (Err e ∷ rest) = askings_of rest
