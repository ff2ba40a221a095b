-- The result of a request before its answer is written, and the epoch numbers that clients see.
use Rattle.std.specs.Prelude.{◌≡◌, ◌≢◌, ◌≤◌, ℕ, ◌+◌, ℤ, Bool, true, false, List, All, map, [], ◌∷◌, ◌++◌, Result, Ok, Err, Vec}
use Rattle.std.specs.declared.alloc.Global.{Global}
use Rattle.tl_procedures.specs.declared.request.Request.{Request}
use Rattle.tl_json.specs.Requests.{request_form}
use Rattle.tl_table.specs.declared.receipt.Receipt.{Receipt}
use Rattle.tl_workers.specs.declared.refusal.Refusal.{Refusal}
use Rattle.tl_workers.specs.declared.refusal.Refusal.TheVariants as refusal
use Rattle.tl_generations.specs.declared.growth.GrowthFault.TheVariants as growth
use Rattle.tl_workers.specs.declared.session.Did.{Did}
use Rattle.tl_workers.specs.declared.session.Did.TheVariants.{Asked, Got}
use Rattle.tl_workers.specs.Kept.{SessionValue, AnswersEach, asked_of, gots_of}
use Rattle.tl_workers.specs.{WasSession}
use Rattle.tl_workers.specs.Refusals.{AreCallRefusals}
use Rattle.tl_server.specs.Requests.{LineValue, Registers, RegistersText, Replaces, Calls, CallsOnce, Batches, Grows, Seals, Closes}
use Rattle.tl_workers.specs.Refusals.{numbers_of as refusal_numbers_of}
use Rattle.tl_server.specs.declared.fault.LineFault.TheVariants.{NotRequest}
use Rattle.tl_server.specs.declared.fault.KeyFault.TheVariants.{NoStore}
use Rattle.tl_server.specs.Faults.{numbers_of, key_numbers_of}
use Rattle.tl_server.specs.Answers.{one_text, kept_text, error_text, batch_text, register_text, text_register_text, replace_text, growth_text, seal_text}
use Rattle.tl_server.specs.Served.{Ways, TextReader, TextReading, NoTexts, ReadBy, Keying, KnowsNoKeys, KeepsNoKeys, KeepsKeys, RegisterOutcome, TextOutcome, ReplaceOutcome, CallOutcome, GrowthOutcome, SealOutcome, IsSealable}
use Rattle.tl_server.specs.declared.outcome.RequestOutcome.{RequestOutcome}
use Rattle.tl_server.specs.declared.outcome.RequestOutcome.TheVariants.{Registered, RegisteredAll, Replaced, Called, Recalled, KeyRefused, Batched, Grown, Unknown, Sealed}

-- a request that an engine carries out
abbrev pub IsAsked : LineValue → Type 0
IsAsked (Registers name text) = Unit {0}
IsAsked (RegistersText text) = Unit {0}
IsAsked (Replaces text) = Unit {0}
IsAsked (Calls name args) = Unit {0}
IsAsked (CallsOnce name args key) = Unit {0}
IsAsked (Batches calls workers) = Unit {0}
IsAsked (Grows parents) = Unit {0}
IsAsked Seals = Unit {0}
IsAsked Closes = ⊥

-- ---- the result of a request, and what the session of an engine gained by it

abbrev pub IsRegistered : List ℕ → List ℕ → List Did → RequestOutcome → Type 0
IsRegistered name text gained (Registered answer) = (gained ≡ []) × RegisterOutcome (name, text) answer
IsRegistered name text gained _ = ⊥

abbrev pub IsProvided : TextReader → List ℕ → List Did → RequestOutcome → Type 0
IsProvided reader text gained (RegisteredAll answer) = (gained ≡ []) × TextOutcome reader text answer
IsProvided reader text gained _ = ⊥

-- the service doesn't know the request
abbrev pub IsUnknown : List Did → RequestOutcome → Type 0
IsUnknown gained Unknown = gained ≡ []
IsUnknown gained _ = ⊥

-- the procedures of a text, if the service reads texts
abbrev pub IsRegisteredText : TextReading → List ℕ → List Did → RequestOutcome → Type 0
IsRegisteredText (ReadBy reader) text gained outcome = IsProvided reader text gained outcome
IsRegisteredText NoTexts text gained outcome = IsUnknown gained outcome

abbrev pub IsReplacedBy : TextReader → List ℕ → List Did → RequestOutcome → Type 0
IsReplacedBy reader text gained (Replaced answer) = (gained ≡ []) × ReplaceOutcome reader text answer
IsReplacedBy reader text gained _ = ⊥

-- the procedures of a text in the place of others, if engines take over from one another and texts are read
abbrev pub IsReplacement : Bool → TextReading → List ℕ → List Did → RequestOutcome → Type 0
IsReplacement true (ReadBy reader) text gained outcome = IsReplacedBy reader text gained outcome
IsReplacement true NoTexts text gained outcome = IsUnknown gained outcome
IsReplacement false reads text gained outcome = IsUnknown gained outcome

abbrev pub IsCalled : Bool → List ℕ → List ℤ → List Did → RequestOutcome → Type 0
IsCalled seals name args gained (Called answer) = CallOutcome seals (name, args) gained answer
IsCalled seals name args gained _ = ⊥

-- the call of a request with a key, or what came of the one that had the key before
abbrev pub IsCalledOrRecalled : Bool → List ℕ × List ℤ → List Did → RequestOutcome → Type 0
IsCalledOrRecalled seals q gained (Called answer) = CallOutcome seals q gained answer
IsCalledOrRecalled seals q gained (Recalled kept) = gained ≡ []
IsCalledOrRecalled seals q gained _ = ⊥

-- the key is refused, since nothing is stored
abbrev pub IsKeyRefused : List Did → RequestOutcome → Type 0
IsKeyRefused gained (KeyRefused NoStore) = gained ≡ []
IsKeyRefused gained _ = ⊥

abbrev pub IsCalledOnce : Keying → Bool → List ℕ × List ℤ → List Did → RequestOutcome → Type 0
IsCalledOnce KnowsNoKeys seals q gained outcome = IsUnknown gained outcome
IsCalledOnce KeepsNoKeys seals q gained outcome = IsKeyRefused gained outcome
IsCalledOnce KeepsKeys seals q gained outcome = IsCalledOrRecalled seals q gained outcome

-- an answer to each request, or a refusal for lack of memory
abbrev pub BatchOutcome : Bool → List Request → List Did → Result (Vec (Result Receipt Refusal) Global) Refusal → Type 0
BatchOutcome seals requests gained (Ok v) =
    AnswersEach requests v.items × AreCallRefusals seals v.items × (gained ≡ asked_of requests v.items ++ gots_of v.items)
BatchOutcome seals requests gained (Err e) = (gained ≡ []) × (e ≡ refusal.Memory)

abbrev pub IsBatched : Bool → List (List ℕ × List ℤ) → List Did → RequestOutcome → Type 0
IsBatched seals calls gained (Batched answer) = (requests : List Request) × (map request_form requests ≡ calls) × BatchOutcome seals requests gained answer
IsBatched seals calls gained _ = ⊥

abbrev pub IsGrowth : Bool → List ℤ → List Did → RequestOutcome → Type 0
IsGrowth grows parents gained (Grown answer) = (grows ≡ true) × (gained ≡ []) × GrowthOutcome parents answer × (answer ≢ Err growth.Memory)
IsGrowth grows parents gained Unknown = (grows ≡ false) × (gained ≡ [])
IsGrowth grows parents gained _ = ⊥

abbrev pub IsSealed : Bool → List Did → RequestOutcome → Type 0
IsSealed seals gained (Sealed answer) = (gained ≡ []) × SealOutcome seals IsSealable answer
IsSealed seals gained _ = ⊥

abbrev pub CameOf : Ways → LineValue → List Did → RequestOutcome → Type 0
CameOf ways (Registers name text) gained outcome = IsRegistered name text gained outcome
CameOf ways (RegistersText text) gained outcome = IsRegisteredText ways.reads text gained outcome
CameOf ways (Replaces text) gained outcome = IsReplacement ways.grows ways.reads text gained outcome
CameOf ways (Calls name args) gained outcome = IsCalled ways.seals name args gained outcome
CameOf ways (CallsOnce name args key) gained outcome = IsCalledOnce ways.keys ways.seals (name, args) gained outcome
CameOf ways (Batches calls workers) gained outcome = IsBatched ways.seals calls gained outcome
CameOf ways (Grows parents) gained outcome = IsGrowth ways.grows parents gained outcome
CameOf ways Seals gained outcome = IsSealed ways.seals gained outcome
CameOf ways Closes gained outcome = ⊥

-- ---- epochs counted over all engines, where `base` epochs precede this engine's first

abbrev pub later : ℕ → Receipt → Receipt
later base r = record r { epoch = base + r.epoch }

abbrev pub later_answer : ℕ → Result Receipt Refusal → Result Receipt Refusal
later_answer base (Ok r) = Ok (later base r)
later_answer base (Err e) = Err e

abbrev pub later_seal : ℕ → Result ℕ Refusal → Result ℕ Refusal
later_seal base (Ok epoch) = Ok (base + epoch)
later_seal base (Err e) = Err e

-- ---- the answer

-- the answers to the requests of a batch, or why all were refused
abbrev pub batch_answer_text : ℕ → Result (Vec (Result Receipt Refusal) Global) Refusal → List ℕ
batch_answer_text base (Ok v) = batch_text (map (later_answer base) v.items)
batch_answer_text base (Err e) = error_text (refusal_numbers_of e)

abbrev pub outcome_text : ℕ → RequestOutcome → List ℕ
outcome_text base (Registered answer) = register_text answer
outcome_text base (RegisteredAll answer) = text_register_text answer
outcome_text base (Replaced answer) = replace_text answer
outcome_text base (Called answer) = one_text (later_answer base answer)
outcome_text base (Recalled kept) = kept_text kept
outcome_text base (KeyRefused fault) = error_text (key_numbers_of fault)
outcome_text base (Batched answer) = batch_answer_text base answer
outcome_text base (Grown answer) = growth_text answer
outcome_text base Unknown = error_text (numbers_of NotRequest)
outcome_text base (Sealed answer) = seal_text (later_seal base answer)

abbrev pub later_did : ℕ → Did → Did
later_did base (Asked a) = Asked (record a { epoch = base + a.epoch })
later_did base (Got r) = Got (later base r)

-- the epoch is one that this engine may seal
abbrev pub IsSealableAt : ℕ → ℕ → Type 0
IsSealableAt base epoch = (own : ℕ) × IsSealable own × (epoch ≡ base + own)

-- ---- a visitor of a relay of engines

-- a session of an engine has kept this at the end of its list
abbrev pub HasKept : List Did → Type 0
HasKept own = (session : SessionValue) × (before : List Did) × WasSession session × (session.kept ≡ before ++ own)

-- what was gained by a line: what the session of its engine has kept, and how many epochs there were before that engine
pub record Share : Type 0 where
  pub base : ℕ
  pub own : List Did

-- what was gained by several lines
abbrev pub gained_by : List Share → List Did
gained_by [] = []
gained_by (s ∷ shares) = map (later_did s.base) s.own ++ gained_by shares

-- what was gained is, line by line, what a session of the line's engine has kept
abbrev pub IsOfSessions : List Did → Type 0
IsOfSessions gained = (shares : List Share) × All (λ s. HasKept s.own) shares × (gained ≡ gained_by shares)

abbrev pub epoch_of : Did → ℕ
epoch_of (Asked a) = a.epoch
epoch_of (Got r) = r.epoch

-- The number of epochs before the visitor's engine doesn't decrease, and the calls gained are in no epoch before the old
-- number. Epoch numbers never start again. Each call and each receipt is one that a session has kept.
abbrev pub GoesOnFrom : ℕ → ℕ → List Did → Type 0
GoesOnFrom old new gained = (old ≤ new) × All (λ d. old ≤ epoch_of d) gained × IsOfSessions gained
