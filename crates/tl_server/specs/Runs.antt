-- What a run of the server did, for any kind of visitor.
use Rattle.std.specs.Prelude.{◌≡◌, ℕ, List, ◌++◌, Option, Some, IfSome, Contains}
use Rattle.tl_table.specs.declared.receipt.Receipt.{Receipt}
use Rattle.tl_workers.specs.declared.asking.Asking.{Asking}
use Rattle.tl_workers.specs.declared.session.Did.{Did}
use Rattle.tl_workers.specs.declared.session.Did.TheVariants.{Asked, Got}
use Rattle.tl_server.specs.Lines.{lines_of, with_lfs, HasNoLf, NoLfs}
use Rattle.tl_server.specs.Browsers.{AreOfClients}
use Rattle.tl_server.specs.Served.{Ways, Answered, AnsweredAll}
use Rattle.tl_server.specs.Devices.{Adds, AddsPart}

-- the remaining input and the output so far, if they are specified, and the visitor
pub record Moment (V : Type 0) : Type 0 where
  pub input : Option (List ℕ)
  pub visitor : V
  pub output : Option (List ℕ)

-- each requested call has its receipt
abbrev pub AllGot : List Did → Type 0
AllGot dids = (a : Asking) → Contains dids (Asked a) → (r : Receipt) × Contains dids (Got r) × (r.epoch ≡ a.epoch) × (r.call ≡ a.call)

-- the visitor gained calls with their receipts
abbrev pub GainsWholeCalls : {V : Type 0} → (V → V → List Did → Type 0) → V → V → Type 0
GainsWholeCalls gains old new = (gained : List Did) × gains old new gained × AllGot gained

-- n lines were answered: all of them, or those up to the one that ended the connection
abbrev pub AnswersAll : {V : Type 0} → (V → V → List Did → Type 0) → Ways → (V → ℕ → Type 0) → Moment V → Moment V → ℕ → Type 0
AnswersAll gains ways may_seal m m' n = IfSome m.input (λ bytes. (gained : List Did) × (out : List ℕ)
    × gains m.visitor m'.visitor gained × Adds m.output out m'.output × AnsweredAll ways (may_seal m.visitor) (lines_of bytes) n gained out)

-- the lines that were read completely were answered; after them the beginning of a line was read
abbrev pub AnswersWhole : {V : Type 0} → (V → V → List Did → Type 0) → Ways → (V → ℕ → Type 0) → Moment V → Moment V → Type 0
AnswersWhole gains ways may_seal m m' = IfSome m.input (λ bytes. (ls : List (List ℕ)) × (rest : List ℕ) × (left : List ℕ)
    × (m'.input ≡ Some left) × (bytes ≡ (with_lfs ls ++ rest) ++ left) × NoLfs ls × AreOfClients ls × HasNoLf rest
    × ((gained : List Did) × (out : List ℕ) × gains m.visitor m'.visitor gained × Adds m.output out m'.output × Answered ways (may_seal m.visitor) ls gained out))

-- a prefix of the answers to the first n lines was written; the visitor gained the calls of those answers
abbrev pub AnswersPart : {V : Type 0} → (V → V → List Did → Type 0) → Ways → (V → ℕ → Type 0) → Moment V → Moment V → Type 0
AnswersPart gains ways may_seal m m' = IfSome m.input (λ bytes. (ls : List (List ℕ)) × (more : List (List ℕ)) × (n : ℕ) × (lines_of bytes ≡ ls ++ more)
    × ((gained : List Did) × (out : List ℕ) × gains m.visitor m'.visitor gained × AddsPart m.output out m'.output × AnsweredAll ways (may_seal m.visitor) ls n gained out))
