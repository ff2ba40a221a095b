-- How lines are answered, and what a session gains by them.
use Rattle.std.specs.Prelude.{◌≡◌, ◌≢◌, ◌↔◌, ◌⊎◌, ◌+◌, ◌<◌, ℕ, ℤ, List, map, [], ◌∷◌, ◌++◌, length, Bool, true, false, Result, Ok, Err, Vec, string_bytes}
use Rattle.std.specs.declared.alloc.Global.{Global}
use Rattle.tl_instr.specs.Codes.{CodeValue}
use Rattle.tl_budget.specs.declared.limits.Bounds.{Bounds}
use Rattle.tl_verify.specs.Procedure.{AreBounds}
use Rattle.tl_procedures.specs.Names.{Named, is_name, AreFreeAfter, AreKnown, IsFirstRefused}
use Rattle.tl_procedures.specs.declared.fault.NamingFault.TheVariants as naming
use Rattle.tl_procedures.specs.declared.fault.NamingFault.TheVariants.{BadName}
use Rattle.tl_procedures.specs.declared.request.Request.{Request}
use Rattle.tl_json.specs.Faults.{is_memory}
use Rattle.tl_json.specs.Registering.{IsCodeText, IsTextFault as IsAssemblyFault}
use Rattle.tl_json.specs.Requests.{request_form}
use Rattle.tl_json.specs.declared.fault.RegisterFault.{RegisterFault}
use Rattle.tl_json.specs.declared.fault.RegisterFault.TheVariants.{Text, Name}
use Rattle.tl_table.specs.declared.receipt.Receipt.{Receipt}
use Rattle.tl_workers.specs.declared.refusal.Refusal.{Refusal}
use Rattle.tl_workers.specs.declared.session.Did.{Did}
use Rattle.tl_workers.specs.Kept.{call_of, AnswersEach, asked_of, gots_of}
use Rattle.tl_table.specs.declared.epoch.TheConstants.{MAX_EPOCHS}
use Rattle.tl_workers.specs.Refusals.{IsCallRefusal, AreCallRefusals, IsSealRefused, IsRestedSealRefused}
use Rattle.tl_generations.specs.Generations.{LegacyValue, IsGrown, IsReplaced}
use Rattle.tl_generations.specs.Growth.{IsGrowthFault}
use Rattle.tl_generations.specs.declared.growth.GrowthFault.{GrowthFault}
use Rattle.tl_generations.specs.declared.growth.GrowthFault.TheVariants as growth
use Rattle.tl_server.specs.declared.texts.NamedBounds.{NamedBounds}
use Rattle.tl_server.specs.declared.texts.TextFault.{TextFault}
use Rattle.tl_server.specs.declared.texts.TextFault.TheVariants as fault
use Rattle.tl_server.specs.declared.texts.ReplaceFault.{ReplaceFault}
use Rattle.tl_server.specs.declared.texts.ReplaceFault.TheVariants as replace
use Rattle.tl_server.specs.declared.fault.LineFault.{LineFault}
use Rattle.tl_server.specs.declared.fault.LineFault.TheVariants.{NotRequest}
use Rattle.tl_server.specs.declared.fault.KeyFault.TheVariants.{NoStore}
use Rattle.tl_server.specs.declared.fault.RulingFault.TheVariants.{Frozen}
use Rattle.tl_server.specs.Browsers.{is_of_browser, is_first, AreOfClients}
use Rattle.tl_server.specs.Faults.{numbers_of, key_numbers_of, ruling_numbers_of}
use Rattle.tl_server.specs.Requests.{LineValue, Registers, RegistersText, Replaces, Calls, CallsOnce, Batches, Grows, Seals, Closes, is_barred, IsRequest, IsLineFault}
use Rattle.tl_keys.specs.Kept.{KeptValue}
use Rattle.tl_server.specs.Answers.{one_text, kept_text, error_text, batch_text, register_text, text_register_text, replace_text, growth_text, seal_text, closed_text, line_text}

-- ---- a registration

-- why a procedure isn't registered: its text has a fault, or its name is refused; the fault is BadName exactly if it isn't a valid name
abbrev pub IsRegisterFault : List ℕ × List ℕ → RegisterFault → Type 0
IsRegisterFault p (Text f) = IsAssemblyFault p.1 f
IsRegisterFault p (Name f) = ((code : CodeValue) × IsCodeText p.1 code) × ((f ≡ BadName) ↔ (is_name p.0 ≡ false))

-- a procedure's name and text, and the result of its registration
abbrev pub RegisterOutcome : List ℕ × List ℕ → Result Bounds RegisterFault → Type 0
RegisterOutcome p (Ok bounds) = ((code : CodeValue) × IsCodeText p.1 code × AreBounds code.instrs bounds) × (is_name p.0 ≡ true)
RegisterOutcome p (Err e) = is_memory e ≡ false → IsRegisterFault p e

-- ---- the registration of a text's procedures

-- who reads texts: which procedures a text has, and the numbers of the first fault of one that has none
pub record TextReader : Type 1 where
  pub has : List ℕ → List Named → Type 0
  pub lacks : List ℕ → List ℕ → Type 0

-- whether somebody reads texts, and who
pub data TextReading : Type 1 where
  NoTexts : TextReading
  ReadBy : TextReader → TextReading

-- these are the names and the bounds of these procedures
abbrev pub AreBoundsOf : List Named → List NamedBounds → Type 0
AreBoundsOf [] [] = Unit {0}
AreBoundsOf [] (b ∷ bs) = ⊥
AreBoundsOf (p ∷ ps) [] = ⊥
AreBoundsOf (p ∷ ps) (b ∷ bs) = (string_bytes b.name ≡ p.name) × AreBounds p.code.instrs b.bounds × AreBoundsOf ps bs

-- why the procedures of a text can't be read: its first fault, or a lack of memory
abbrev pub IsUnreadable : (List ℕ → List ℕ → Type 0) → List ℕ → TextFault → Type 0
IsUnreadable lacks text (fault.Text numbers) = lacks text numbers.items
IsUnreadable lacks text (fault.Name f) = ⊥
IsUnreadable lacks text fault.Memory = Unit {0}

-- why the procedures of a text aren't registered: the text has a fault, or the name of one is refused
abbrev pub IsTextFault : TextReader → List ℕ → TextFault → Type 0
IsTextFault reader text (fault.Text numbers) = reader.lacks text numbers.items
IsTextFault reader text (fault.Name f) = f ≢ naming.Memory → (all : List Named) × reader.has text all × ((before : List Named) × IsFirstRefused before all f)
IsTextFault reader text fault.Memory = Unit {0}

-- a text, and the result of the registration: all its procedures, with these bounds, under names that were free, or none of them
abbrev pub TextOutcome : TextReader → List ℕ → Result (Vec NamedBounds Global) TextFault → Type 0
TextOutcome reader text (Ok bounds) = (all : List Named) × reader.has text all × AreBoundsOf all bounds.items × ((before : List Named) × AreFreeAfter before all)
TextOutcome reader text (Err e) = IsTextFault reader text e

-- the result, if texts are read; otherwise the answer to a line that is no request
abbrev pub IsTextAnswer : TextReading → List ℕ → List ℕ → Type 0
IsTextAnswer (ReadBy reader) text out = (answer : Result (Vec NamedBounds Global) TextFault) × TextOutcome reader text answer × (out ≡ line_text (text_register_text answer))
IsTextAnswer NoTexts text out = out ≡ line_text (error_text (numbers_of NotRequest))

-- ---- calls

-- a call's name and arguments, what the session gained, and the call's result; the reasons of a refusal depend on whether
-- the engine seals its epochs by itself
abbrev pub CallOutcome : Bool → List ℕ × List ℤ → List Did → Result Receipt Refusal → Type 0
CallOutcome seals q gained (Ok r) = (r.args.items ≡ q.1) × (gained ≡ call_of q.0 q.1 r)
CallOutcome seals q gained (Err e) = (gained ≡ []) × IsCallRefusal seals e

abbrev pub IsCallAnswer : Bool → List ℕ × List ℤ → List Did → List ℕ → Type 0
IsCallAnswer seals q gained out = (answer : Result Receipt Refusal) × CallOutcome seals q gained answer × (out ≡ line_text (one_text answer))

-- ---- calls with a key

-- what is done about keys: their lines aren't known, or they are refused since nothing is stored, or they are kept
pub data Keying : Type 0 where
  KnowsNoKeys : Keying
  KeepsNoKeys : Keying
  KeepsKeys : Keying

-- keys are kept where calls are stored
abbrev pub keying : Bool → Keying
keying true = KeepsKeys
keying false = KeepsNoKeys

-- a call had the key: this is what came of it, and nothing was done
abbrev pub IsKeptAnswer : List Did → List ℕ → Type 0
IsKeptAnswer gained out = (gained ≡ []) × ((kept : KeptValue) × (out ≡ line_text (kept_text kept)))

-- a call's name and arguments, and the answer if it has a key
abbrev pub IsOnceAnswer : Keying → Bool → List ℕ × List ℤ → List Did → List ℕ → Type 0
IsOnceAnswer KnowsNoKeys seals q gained out = (gained ≡ []) × (out ≡ line_text (error_text (numbers_of NotRequest)))
IsOnceAnswer KeepsNoKeys seals q gained out = (gained ≡ []) × (out ≡ line_text (error_text (key_numbers_of NoStore)))
IsOnceAnswer KeepsKeys seals q gained out = IsCallAnswer seals q gained out ⊎ IsKeptAnswer gained out

-- ---- many calls

-- a refusal for lack of memory: nothing was done
abbrev pub IsRefused : List Did → List ℕ → Type 0
IsRefused gained out = (gained ≡ []) × (out ≡ line_text (error_text (990 ∷ [])))

-- a refusal, or an answer to each request in order; the session gains the admitted calls and then their receipts
abbrev pub IsBatchAnswer : Bool → List Request → List Did → List ℕ → Type 0
IsBatchAnswer seals requests gained out =
    IsRefused gained out
    ⊎ ((answers : List (Result Receipt Refusal)) × AnswersEach requests answers × AreCallRefusals seals answers
    × (gained ≡ asked_of requests answers ++ gots_of answers) × (out ≡ line_text (batch_text answers)))

-- ---- a seal

-- a table may have an epoch after this one
abbrev pub IsSealable : ℕ → Type 0
IsSealable epoch = epoch + 1 < MAX_EPOCHS

-- the number of the sealed epoch, which must be one that may be sealed; or why nothing was sealed, where NotAtRest
-- doesn't occur if the engine waits until all calls are done
abbrev pub SealOutcome : Bool → (ℕ → Type 0) → Result ℕ Refusal → Type 0
SealOutcome seals may_seal (Ok epoch) = may_seal epoch
SealOutcome seals may_seal (Err e) = IsSealRefused e × (seals ≡ true → IsRestedSealRefused e)

-- ---- growth

-- nodes with these parents were appended to a tree, the first with this number; or why they weren't
abbrev pub GrowthOutcome : List ℤ → Result ℕ GrowthFault → Type 0
GrowthOutcome parents (Ok first) = (old : LegacyValue) × (new : LegacyValue) × IsGrown old parents first new
GrowthOutcome parents (Err e) = (limit : ℕ) × (count : ℕ) × IsGrowthFault limit count parents e

-- the result of the growth, if nodes can be appended to the tree; otherwise the answer to a line that is no request
abbrev pub IsGrowthAnswer : Bool → List ℤ → List ℕ → Type 0
IsGrowthAnswer true parents out =
    (answer : Result ℕ GrowthFault) × GrowthOutcome parents answer × (answer ≢ Err growth.Memory) × (out ≡ line_text (growth_text answer))
IsGrowthAnswer false parents out = out ≡ line_text (error_text (numbers_of NotRequest))

-- ---- procedures in the place of others

-- why the procedures of a text don't take the place of others: the text has a fault, it has too many procedures, or there is none
-- with the name of one
abbrev pub IsReplaceFault : TextReader → List ℕ → ReplaceFault → Type 0
IsReplaceFault reader text (replace.Text numbers) = reader.lacks text numbers.items
IsReplaceFault reader text (replace.Name f) = (all : List Named) × reader.has text all × IsFirstRefused [] all f
IsReplaceFault reader text replace.NoProcedure = (all : List Named) × reader.has text all × ((before : List Named) × (AreKnown before all → ⊥))

-- all procedures of the text, with these bounds, took the place of those with their names; or why none did
abbrev pub ReplaceOutcome : TextReader → List ℕ → Result (Vec NamedBounds Global) ReplaceFault → Type 0
ReplaceOutcome reader text (Ok bounds) =
    (all : List Named) × reader.has text all × AreBoundsOf all bounds.items × ((old : LegacyValue) × (new : LegacyValue) × IsReplaced old all new)
ReplaceOutcome reader text (Err e) = IsReplaceFault reader text e

-- the result, if engines take over from one another and texts are read; otherwise the answer to a line that is no request
abbrev pub IsReplaceAnswer : Bool → TextReading → List ℕ → List ℕ → Type 0
IsReplaceAnswer true (ReadBy reader) text out =
    (answer : Result (Vec NamedBounds Global) ReplaceFault) × ReplaceOutcome reader text answer × (out ≡ line_text (replace_text answer))
IsReplaceAnswer true NoTexts text out = out ≡ line_text (error_text (numbers_of NotRequest))
IsReplaceAnswer false reads text out = out ≡ line_text (error_text (numbers_of NotRequest))

-- ---- lines, where the epochs with such numbers may be sealed

-- what the server can do: whether its engines seal their epochs by themselves, whether nodes can be appended to its tree and procedures replaced, who reads
-- texts of procedures, what is done about keys, and whether it is frozen
pub record Ways : Type 1 where
  pub seals : Bool
  pub grows : Bool
  pub reads : TextReading
  pub keys : Keying
  pub frozen : Bool

-- the answer to a request after which reading goes on, and what the session gained by it
abbrev pub AnswersRequest : Ways → (ℕ → Type 0) → LineValue → List Did → List ℕ → Type 0
AnswersRequest ways may_seal (Registers name text) gained out =
    (gained ≡ []) × ((answer : Result Bounds RegisterFault) × RegisterOutcome (name, text) answer × (out ≡ line_text (register_text answer)))
AnswersRequest ways may_seal (RegistersText text) gained out = (gained ≡ []) × IsTextAnswer ways.reads text out
AnswersRequest ways may_seal (Replaces text) gained out = (gained ≡ []) × IsReplaceAnswer ways.grows ways.reads text out
AnswersRequest ways may_seal (Calls name args) gained out = IsCallAnswer ways.seals (name, args) gained out
AnswersRequest ways may_seal (CallsOnce name args key) gained out = IsOnceAnswer ways.keys ways.seals (name, args) gained out
AnswersRequest ways may_seal (Batches calls workers) gained out = (requests : List Request) × (map request_form requests ≡ calls) × IsBatchAnswer ways.seals requests gained out
AnswersRequest ways may_seal (Grows parents) gained out = (gained ≡ []) × IsGrowthAnswer ways.grows parents out
AnswersRequest ways may_seal Seals gained out = (gained ≡ []) × ((answer : Result ℕ Refusal) × SealOutcome ways.seals may_seal answer × (out ≡ line_text (seal_text answer)))
AnswersRequest ways may_seal Closes gained out = ⊥

-- the same if the request isn't barred; else that it is
abbrev pub AnswersUnless : Bool → Ways → (ℕ → Type 0) → LineValue → List Did → List ℕ → Type 0
AnswersUnless true ways may_seal r gained out = (gained ≡ []) × (out ≡ line_text (error_text (ruling_numbers_of Frozen)))
AnswersUnless false ways may_seal r gained out = AnswersRequest ways may_seal r gained out

-- the answer to a line after which reading goes on
abbrev pub AnswersLine : Ways → (ℕ → Type 0) → List ℕ → List Did → List ℕ → Type 0
AnswersLine ways may_seal line gained out =
    IsRefused gained out
    ⊎ ((f : LineFault) × IsLineFault line f × (gained ≡ []) × (out ≡ line_text (error_text (numbers_of f))))
    ⊎ ((r : LineValue) × IsRequest line r × AnswersUnless (is_barred ways.frozen r) ways may_seal r gained out)

-- the answer to a line that ends the connection, which may be its first: the line asks for that, or a browser sent it
abbrev pub EndsLine : Bool → List ℕ → List ℕ → Type 0
EndsLine first line out = (IsRequest line Closes × (out ≡ line_text closed_text)) ⊎ ((is_of_browser first line ≡ true) × (out ≡ line_text (error_text (numbers_of NotRequest))))

-- the answer to a line, and whether it ends the connection
abbrev pub IsAnswer : Ways → (ℕ → Type 0) → Bool → List ℕ → Bool → List Did → List ℕ → Type 0
IsAnswer ways may_seal first line false gained out = (is_of_browser first line ≡ false) × AnswersLine ways may_seal line gained out
IsAnswer ways may_seal first line true gained out = (gained ≡ []) × EndsLine first line out

-- one answer for each line, in order, and what the session gained by them
abbrev pub Answered : Ways → (ℕ → Type 0) → List (List ℕ) → List Did → List ℕ → Type 0
Answered ways may_seal [] gained out = (gained ≡ []) × (out ≡ [])
Answered ways may_seal (l ∷ ls) gained out =
    (g : List Did) × (gs : List Did) × (o : List ℕ) × (os : List ℕ) × (gained ≡ g ++ gs) × (out ≡ o ++ os) × AnswersLine ways may_seal l g o × Answered ways may_seal ls gs os

-- The last of the n lines read ended the connection, and the lines before it were answered.
pub record ClosedAt (ways : Ways) (may_seal : ℕ → Type 0) (lines : List (List ℕ)) (n : ℕ) (gained : List Did) (out : List ℕ) : Type 0 where
  pub before : List (List ℕ)
  pub last : List ℕ
  pub after : List (List ℕ)
  pub answers : List ℕ
  pub ending : List ℕ
  pub lines_are : lines ≡ before ++ last ∷ after
  pub count : n ≡ length before + 1
  pub clients : AreOfClients before
  pub answered : Answered ways may_seal before gained answers
  pub ends : EndsLine (is_first before) last ending
  pub out_is : out ≡ answers ++ ending

-- the first n of these lines were answered: all of them, or those up to the one that ended the connection
abbrev pub AnsweredAll : Ways → (ℕ → Type 0) → List (List ℕ) → ℕ → List Did → List ℕ → Type 0
AnsweredAll ways may_seal lines n gained out = ((n ≡ length lines) × AreOfClients lines × Answered ways may_seal lines gained out) ⊎ ClosedAt ways may_seal lines n gained out
