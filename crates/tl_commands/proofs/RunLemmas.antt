-- The parts of a run of the command `run` together.
use Rattle.std.proofs.Common.{◌≡◌, ◌+◌, ◌<◌, inl, inr, ℕ, Bool, false, List, [], ◌∷◌, ◌++◌, length, get_or, take, map, refl, sym, ap, ◌∙◌, subst, Ok}
use Rattle.std.specs.Prelude.{Result, Vec}
use Rattle.std.specs.declared.alloc.Global.{Global}
use Rattle.std.specs.List.{All}
use Rattle.std.proofs.lemmas.List.{append-nil, append_assoc, map_more, map_push, length-map, take-map}
use Rattle.std.proofs.lemmas.List.Elements.{All-head}
use Rattle.serde_json.specs.Written.{compact_text}
use Rattle.tl_tree.specs.Trees.{TreeValue}
use Rattle.tl_tree.specs.Reading.{tree_of_text}
use Rattle.tl_procedures.specs.declared.request.Request.{Request}
use Rattle.tl_core.specs.Cores.{CoreValue}
use Rattle.tl_core.proofs.StoredCalls.{more_at}
use Rattle.tl_json.specs.declared.procedure.ProcedureText.{ProcedureText}
use Rattle.tl_json.specs.Procedures.{procedure_form}
use Rattle.tl_procedures.specs.Names.{Named}
use Rattle.tl_sources.specs.Given.{GiveAll}
use Rattle.tl_sources.specs.declared.given.Given.{Given}
use Rattle.tl_json.specs.Requests.{request_form}
use Rattle.tl_commands.specs.declared.script.Script.{Script}
use Rattle.tl_commands.specs.Script.{IsScript, beside, script_view, batch_form, script_of_run}
use Rattle.tl_table.specs.Epochs.{EpochValue}
use Rattle.tl_table.specs.declared.receipt.Receipt.{Receipt}
use Rattle.tl_workers.specs.Kept.{SessionValue, Gains, AnswersEach, asked_of, gots_of}
use Rattle.tl_workers.specs.Matching.{Matches}
use Rattle.tl_workers.specs.Refusals.{AreCallRefusals}
use Rattle.tl_workers.specs.declared.refusal.Refusal.{Refusal}
use Rattle.tl_workers.specs.declared.session.Did.{Did}
use Rattle.tl_commands.specs.Scripted.{AreRegistered}
use Rattle.tl_commands.specs.Run.{IsReady, AreAnswered, AnswersBatches, IsInEpoch, AreInEpochs, kept_of, batches_of, answers_of, batch_data, batch_lines}

-- ---- what is asked for

pub forms : (batches : List (Vec Request Global)) → map (map request_form) (batches_of batches) ≡ map batch_form batches
forms [] = refl
forms (b ∷ bs) = ap (λ xs. map request_form b.items ∷ xs) (forms bs)

abbrev pub ready : (limit : ℕ) (t s : List ℕ) (sources : List Given) (more : List Named) (tree : TreeValue) (script : Script (Vec Request Global)) (core : CoreValue) (texts : List ProcedureText) (batches : List (Vec Request Global))
    → GiveAll sources more → tree_of_text limit t ≡ Ok tree → IsScript (script_of_run (beside more)) s (script_view batch_form script) → texts ≡ script.procedures.items → AreRegistered (map procedure_form texts) more core.procedures
    → batches ≡ script.tasks.items → IsReady limit t s sources (batches_of batches)
ready limit t s sources more tree script core texts batches given tree_is script_is texts_are registered batches_are =
    record {
      tree = record { tree = tree; same = tree_is };
      more = more;
      given = given;
      script = script_view batch_form script;
      procedures = core.procedures;
      script_is = script_is;
      registered = subst (λ ps. AreRegistered (map procedure_form ps) more core.procedures) texts_are registered;
      batches_are = forms batches ∙ ap (map batch_form) batches_are;
    }

-- ---- one batch more

pub answers_more : (batches : List (List Request)) (all : List (List (Result Receipt Refusal))) (requests : List Request) (answers : List (Result Receipt Refusal))
    → AnswersBatches batches all → AnswersEach requests answers → AnswersBatches (batches ++ requests ∷ []) (all ++ answers ∷ [])
answers_more [] [] requests answers each one = (one, tt)
answers_more [] (a ∷ more) requests answers each one = absurd each
answers_more (b ∷ bs) [] requests answers each one = absurd each
answers_more (b ∷ bs) (a ∷ more) requests answers each one = (each.0, answers_more bs more requests answers each.1 one)

pub kept_more : (batches : List (List Request)) (all : List (List (Result Receipt Refusal))) (requests : List Request) (answers : List (Result Receipt Refusal))
    → AnswersBatches batches all → kept_of (batches ++ requests ∷ []) (all ++ answers ∷ []) ≡ kept_of batches all ++ (asked_of requests answers ++ gots_of answers)
kept_more [] [] requests answers each = append-nil (asked_of requests answers ++ gots_of answers)
kept_more [] (a ∷ more) requests answers each = absurd each
kept_more (b ∷ bs) [] requests answers each = absurd each
kept_more (b ∷ bs) (a ∷ more) requests answers each =
    let first = asked_of b a ++ gots_of a in
    let last = asked_of requests answers ++ gots_of answers in
    ap (λ dids. first ++ dids) (kept_more bs more requests answers each.1) ∙ sym (append_assoc first (kept_of bs more) last)

-- the batch of the next epoch
pub epochs_more : (all : List (List (Result Receipt Refusal))) (answers : List (Result Receipt Refusal)) (n : ℕ) → AreInEpochs all → n ≡ length all → All (IsInEpoch n) answers
    → AreInEpochs (all ++ answers ∷ [])
epochs_more all answers n before is one = λ k a at.
    elim (more_at all answers a k at) as (λ _. All (IsInEpoch k) a) [
      | inl h ↦ subst (λ m. All (IsInEpoch m) a) (is ∙ sym h.0) (subst (All (IsInEpoch n)) h.1 one)
      | inr h ↦ before k a h
    ]

pub many_answers : (all : List (Vec (Result Receipt Refusal) Global)) → length (answers_of all) ≡ length all
many_answers all = length-map all (λ (x : Vec (Result Receipt Refusal) Global). x.items)

pub many_batches : (bs : List (Vec Request Global)) → length (batches_of bs) ≡ length bs
many_batches bs = length-map bs (λ (x : Vec Request Global). x.items)

-- ---- one batch after another

pub batches_more : (bs : List (Vec Request Global)) (i : ℕ) (b : Vec Request Global) → i < length bs → b ≡ get_or bs i b → batches_of (take (i + 1) bs) ≡ batches_of (take i bs) ++ b.items ∷ []
batches_more bs i b inside is =
    map_more (λ (x : Vec Request Global). x.items) bs i b inside ∙ ap (λ (x : Vec Request Global). batches_of (take i bs) ++ x.items ∷ []) (sym is)

pub answers_of_more : (all : List (Vec (Result Receipt Refusal) Global)) (i : ℕ) (a : Vec (Result Receipt Refusal) Global) → i < length all → a ≡ get_or all i a
    → answers_of (take (i + 1) all) ≡ answers_of (take i all) ++ a.items ∷ []
answers_of_more all i a inside is =
    map_more (λ (x : Vec (Result Receipt Refusal) Global). x.items) all i a inside ∙ ap (λ (x : Vec (Result Receipt Refusal) Global). answers_of (take i all) ++ x.items ∷ []) (sym is)

pub taken_answers : (all : List (Vec (Result Receipt Refusal) Global)) (i : ℕ) → answers_of (take i all) ≡ take i (answers_of all)
taken_answers all i = sym (take-map (λ (x : Vec (Result Receipt Refusal) Global). x.items) i all)

pub answers_pushed : (all : List (Vec (Result Receipt Refusal) Global)) (a : Vec (Result Receipt Refusal) Global) → answers_of (all ++ a ∷ []) ≡ answers_of all ++ a.items ∷ []
answers_pushed all a = map_push (λ (x : Vec (Result Receipt Refusal) Global). x.items) all a

pub gains_none : (s : SessionValue) → Gains s s []
gains_none s = record { number = refl; kept = sym (append-nil s.kept) }

pub gains_more : (old now new : SessionValue) (first more : List Did) → Gains old now first → Gains now new more → Gains old new (first ++ more)
gains_more old now new first more h k = record {
  number = k.number ∙ h.number;
  kept = k.kept ∙ ap (λ dids. dids ++ more) h.kept ∙ append_assoc old.kept first more;
}

-- ---- the session

pub answered : (batches : List (List Request)) (all : List (List (Result Receipt Refusal))) (old new : SessionValue) → AnswersBatches batches all → (seals : Bool) → seals ≡ false
    → All (AreCallRefusals seals) all → old.kept ≡ [] → Gains old new (kept_of batches all) → AreAnswered batches all new
answered batches all old new each seals by_hand refused none gains = record {
  each = each;
  refused = subst (λ b. All (AreCallRefusals b) all) by_hand refused;
  kept = gains.kept ∙ ap (λ dids. dids ++ kept_of batches all) none;
}

-- the sessions that are returned are the one that was given
pub one_session : (back all before : List SessionValue) (session : SessionValue) → back ≡ all → all ≡ before ++ session ∷ [] → before ≡ [] → back ≡ session ∷ []
one_session back all before session same last none = same ∙ last ∙ ap (λ ss. ss ++ session ∷ []) none

pub matched : (es : List EpochValue) (back : List SessionValue) (session : SessionValue) → back ≡ session ∷ [] → All (Matches es) back → Matches es session
matched es back session one all = All-head (Matches es) session [] (subst (λ ss. All (Matches es) ss) one all)

-- ---- the lines

pub lines_more : (all : List (List (Result Receipt Refusal))) (answers : List (Result Receipt Refusal)) → batch_lines (all ++ answers ∷ []) ≡ (batch_lines all ++ compact_text (batch_data answers)) ++ 10 ∷ []
lines_more [] answers = refl
lines_more (a ∷ all) answers =
    let first = compact_text (batch_data a) in
    let last = compact_text (batch_data answers) in
    ap (λ l. first ++ 10 ∷ l) (lines_more all answers)
    ∙ sym (append_assoc first ((10 ∷ batch_lines all) ++ last) (10 ∷ []))
    ∙ ap (λ l. l ++ 10 ∷ []) (sym (append_assoc first (10 ∷ batch_lines all) last))
