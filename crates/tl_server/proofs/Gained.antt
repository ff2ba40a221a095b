-- What a session gains from lines that are answered.
use Rattle.std.proofs.Common.{◌≡◌, ◌<◌, ◌⊎◌, inl, inr, zero, suc, ℕ, List, [], ◌∷◌, ◌++◌, Bool, true, false, sym, ap, subst, refl, arith, ⊎_elim}
use Rattle.std.specs.Prelude.{ℤ, Contains, Result, Ok, Err, string_bytes, slice_index_or}
use Rattle.std.proofs.lemmas.List.Elements.{Contains-append_left, Contains-append_right, Contains-append_cases}
use Rattle.tl_procedures.specs.declared.request.Request.{Request}
use Rattle.tl_table.specs.declared.receipt.Receipt.{Receipt}
use Rattle.tl_workers.specs.declared.asking.Asking.{Asking}
use Rattle.tl_workers.specs.declared.refusal.Refusal.{Refusal}
use Rattle.tl_workers.specs.declared.session.Did.{Did}
use Rattle.tl_workers.specs.declared.session.Did.TheVariants.{Asked, Got}
use Rattle.tl_workers.specs.Kept.{asking, call_of, AnswersEach, asked_of, gots_of}
use Rattle.tl_workers.specs.Refusals.{AreCallRefusals}
use Rattle.tl_server.specs.Answers.{line_text, error_text, batch_text}
use Rattle.tl_server.specs.Requests.{LineValue, Registers, RegistersText, Replaces, Calls, CallsOnce, Batches, Grows, Seals, Closes, is_barred}
use Rattle.tl_server.specs.Served.{Ways, Keying, KnowsNoKeys, KeepsNoKeys, KeepsKeys, CallOutcome, IsCallAnswer, IsKeptAnswer, IsOnceAnswer, AnswersRequest, AnswersUnless, AnswersLine, IsAnswer}
use Rattle.tl_server.specs.Runs.{AllGot, GainsWholeCalls}
use Rattle.tl_server.proofs.Goings.{Laws}

-- ---- lists of entries

no_entry : (x : Did) → Contains [] x → ⊥
no_entry x h = let l = h.1 in omega (arith, l)

got_nothing : AllGot []
got_nothing a h = absurd (no_entry (Asked a) h)

nothing : (dids : List Did) → dids ≡ [] → AllGot dids
nothing dids e = subst AllGot (sym e) got_nothing

got_both : (xs ys : List Did) → AllGot xs → AllGot ys → AllGot (xs ++ ys)
got_both xs ys p q a h = ⊎_elim
    (λ (l : Contains xs (Asked a)). let r = p a l in (r.0, Contains-append_left xs ys (Got r.0) r.1, r.2, r.3))
    (λ (l : Contains ys (Asked a)). let r = q a l in (r.0, Contains-append_right xs ys (Got r.0) r.1, r.2, r.3))
    (Contains-append_cases xs ys (Asked a) h)

-- the first entry, or one of the rest
only_at : (x y : Did) (k : ℕ) → k < 1 → slice_index_or (x ∷ []) k y ≡ y → x ≡ y
only_at x y zero lt is = is
only_at x y (suc k) lt is = absurd (omega (arith, lt))

first_or_later : (x : Did) (xs : List Did) (y : Did) → Contains (x ∷ xs) y → (x ≡ y) ⊎ Contains xs y
first_or_later x xs y h = ⊎_elim (λ (l : Contains (x ∷ []) y). inl (only_at x y l.0 l.1 l.2)) (λ (l : Contains xs y). inr l) (Contains-append_cases (x ∷ []) xs y h)

here : (x : Did) (xs : List Did) → Contains (x ∷ xs) x
here x xs = (0, omega arith, refl)

later : (x : Did) (xs : List Did) (y : Did) → Contains xs y → Contains (x ∷ xs) y
later x xs y h = Contains-append_right (x ∷ []) xs y h

-- ---- one call

same_call : (a b : Asking) → Asked a ≡ Asked b → (a.epoch ≡ b.epoch) × (a.call ≡ b.call)
same_call a b e = let s : a ≡ b = cc in (ap (λ x. x.epoch) s, ap (λ x. x.call) s)

one_call : (name : List ℕ) (args : List ℤ) (r : Receipt) → AllGot (call_of name args r)
one_call name args r a h = ⊎_elim
    (λ (e : Asked (asking r.epoch r.call name args) ≡ Asked a).
    let same = same_call (asking r.epoch r.call name args) a e in (r, later (Asked (asking r.epoch r.call name args)) (Got r ∷ []) (Got r) (here (Got r) []), same.0, same.1))
    (λ (l : Contains (Got r ∷ []) (Asked a)). absurd (⊎_elim (λ (e : Got r ≡ Asked a). let f : ⊥ = cc in f) (λ (m : Contains [] (Asked a)). no_entry (Asked a) m) (first_or_later (Got r) [] (Asked a) l)))
    (first_or_later (Asked (asking r.epoch r.call name args)) (Got r ∷ []) (Asked a) h)

call_whole : (seals : Bool) (q : List ℕ × List ℤ) (gained : List Did) (answer : Result Receipt Refusal) → CallOutcome seals q gained answer → AllGot gained
call_whole seals q gained (Ok r) h = subst AllGot (sym h.1) (one_call q.0 q.1 r)
call_whole seals q gained (Err e) h = nothing gained h.0

once_whole : (keys : Keying) (seals : Bool) (q : List ℕ × List ℤ) (gained : List Did) (out : List ℕ) → IsOnceAnswer keys seals q gained out → AllGot gained
once_whole KnowsNoKeys seals q gained out h = nothing gained h.0
once_whole KeepsNoKeys seals q gained out h = nothing gained h.0
once_whole KeepsKeys seals q gained out h = ⊎_elim
    (λ (called : IsCallAnswer seals q gained out). call_whole seals q gained called.0 called.1)
    (λ (kept : IsKeptAnswer gained out). nothing gained kept.0)
    h

-- ---- a batch

no_asked : (answers : List (Result Receipt Refusal)) (a : Asking) → Contains (gots_of answers) (Asked a) → ⊥
no_asked [] a h = no_entry (Asked a) h
no_asked (Ok r ∷ answers) a h = ⊎_elim (λ (e : Got r ≡ Asked a). let f : ⊥ = cc in f) (no_asked answers a) (first_or_later (Got r) (gots_of answers) (Asked a) h)
no_asked (Err e ∷ answers) a h = no_asked answers a h

asked_got : (requests : List Request) (answers : List (Result Receipt Refusal)) → AnswersEach requests answers → (a : Asking) → Contains (asked_of requests answers) (Asked a)
    → (r : Receipt) × Contains (gots_of answers) (Got r) × (r.epoch ≡ a.epoch) × (r.call ≡ a.call)
asked_got [] [] each a h = absurd (no_entry (Asked a) h)
asked_got [] (answer ∷ answers) each a h = absurd each
asked_got (q ∷ requests) [] each a h = absurd each
asked_got (q ∷ requests) (Ok r ∷ answers) each a h = ⊎_elim
    (λ (e : Asked (asking r.epoch r.call (string_bytes q.name) q.args.items) ≡ Asked a).
    let same = same_call (asking r.epoch r.call (string_bytes q.name) q.args.items) a e in (r, here (Got r) (gots_of answers), same.0, same.1))
    (λ (l : Contains (asked_of requests answers) (Asked a)). let found = asked_got requests answers each.1 a l in (found.0, later (Got r) (gots_of answers) (Got found.0) found.1, found.2, found.3))
    (first_or_later (Asked (asking r.epoch r.call (string_bytes q.name) q.args.items)) (asked_of requests answers) (Asked a) h)
asked_got (q ∷ requests) (Err e ∷ answers) each a h = asked_got requests answers each a h

batch_whole : (requests : List Request) (answers : List (Result Receipt Refusal)) → AnswersEach requests answers → AllGot (asked_of requests answers ++ gots_of answers)
batch_whole requests answers each a h = ⊎_elim
    (λ (l : Contains (asked_of requests answers) (Asked a)). let found = asked_got requests answers each a l in (found.0, Contains-append_right (asked_of requests answers) (gots_of answers) (Got found.0) found.1, found.2, found.3))
    (λ (l : Contains (gots_of answers) (Asked a)). absurd (no_asked answers a l))
    (Contains-append_cases (asked_of requests answers) (gots_of answers) (Asked a) h)

-- ---- a line

request_whole : (ways : Ways) (may_seal : ℕ → Type 0) (r : LineValue) (gained : List Did) (out : List ℕ) → AnswersRequest ways may_seal r gained out → AllGot gained
request_whole ways may_seal (Registers name text) gained out h = nothing gained h.0
request_whole ways may_seal (RegistersText text) gained out h = nothing gained h.0
request_whole ways may_seal (Calls name args) gained out h = call_whole ways.seals (name, args) gained h.0 h.1
request_whole ways may_seal (CallsOnce name args key) gained out h = once_whole ways.keys ways.seals (name, args) gained out h
request_whole ways may_seal (Batches calls workers) gained out h = ⊎_elim
    (λ (refused : (gained ≡ []) × (out ≡ line_text (error_text (990 ∷ [])))). nothing gained refused.0)
    (λ (b : (answers : List (Result Receipt Refusal)) × AnswersEach h.0 answers × AreCallRefusals ways.seals answers × (gained ≡ asked_of h.0 answers ++ gots_of answers) × (out ≡ line_text (batch_text answers))).
    subst AllGot (sym b.3) (batch_whole h.0 b.0 b.1))
    h.2
request_whole ways may_seal (Replaces text) gained out h = nothing gained h.0
request_whole ways may_seal (Grows parents) gained out h = nothing gained h.0
request_whole ways may_seal Seals gained out h = nothing gained h.0
request_whole ways may_seal Closes gained out h = absurd h

unless_whole : (barred : Bool) (ways : Ways) (may_seal : ℕ → Type 0) (r : LineValue) (gained : List Did) (out : List ℕ) → AnswersUnless barred ways may_seal r gained out → AllGot gained
unless_whole true ways may_seal r gained out h = nothing gained h.0
unless_whole false ways may_seal r gained out h = request_whole ways may_seal r gained out h

line_whole : (ways : Ways) (may_seal : ℕ → Type 0) (line : List ℕ) (gained : List Did) (out : List ℕ) → AnswersLine ways may_seal line gained out → AllGot gained
line_whole ways may_seal line gained out (inl refused) = nothing gained refused.0
line_whole ways may_seal line gained out (inr (inl fault)) = nothing gained fault.2
line_whole ways may_seal line gained out (inr (inr answered)) = unless_whole (is_barred ways.frozen answered.0) ways may_seal answered.0 gained out answered.2

answer_whole : (ways : Ways) (may_seal : ℕ → Type 0) (begins : Bool) (line : List ℕ) (closes : Bool) (gained : List Did) (out : List ℕ) → IsAnswer ways may_seal begins line closes gained out → AllGot gained
answer_whole ways may_seal begins line true gained out h = nothing gained h.0
answer_whole ways may_seal begins line false gained out h = line_whole ways may_seal line gained out h.1

-- ---- lines

pub gains_none : {V : Type 0} {Gains : V → V → List Did → Type 0} {May : V → ℕ → Type 0} → Laws Gains May → (a : V) → GainsWholeCalls Gains a a
gains_none x a = ([], x.none a, got_nothing)

pub answered_more : {V : Type 0} {Gains : V → V → List Did → Type 0} {May : V → ℕ → Type 0} (ways : Ways) → Laws Gains May → (first old new : V) (begins : Bool) (line : List ℕ) (closes : Bool) (gained : List Did) (out : List ℕ) → GainsWholeCalls Gains first old → Gains old new gained
    → IsAnswer ways (May old) begins line closes gained out → GainsWholeCalls Gains first new
answered_more {V} {Gains} {May} ways x first old new begins line closes gained out before more answer = (
  before.0 ++ gained,
  x.more first old new before.0 gained before.1 more,
  got_both before.0 gained before.2 (answer_whole ways (May old) begins line closes gained out answer),
)
