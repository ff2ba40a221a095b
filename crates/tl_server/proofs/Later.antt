-- The result of a request and its answer, where `base` epochs precede the engine's first.
use Rattle.std.proofs.Common.{◌≡◌, ◌+◌, ◌∙◌, ℕ, ℤ, List, [], ◌∷◌, ◌++◌, map, refl, sym, ap, subst, inl, inr, Bool, true, false, ◌≤◌, arith}
use Rattle.std.specs.Prelude.{Result, Ok, Err, Option, Some, None, IfSome, Vec, String, codes, string_bytes}
use Rattle.std.proofs.lemmas.List.{map-append}
use Rattle.std.specs.declared.alloc.Global.{Global}
use Rattle.std.specs.List.{join_with_byte}
use Rattle.tl_budget.specs.declared.limits.Bounds.{Bounds}
use Rattle.tl_json.specs.declared.fault.RegisterFault.{RegisterFault}
use Rattle.tl_generations.specs.declared.growth.GrowthFault.{GrowthFault}
use Rattle.tl_procedures.specs.declared.request.Request.{Request}
use Rattle.tl_table.specs.declared.receipt.Receipt.{Receipt}
use Rattle.tl_workers.specs.declared.refusal.Refusal.{Refusal}
use Rattle.tl_workers.specs.declared.session.Did.{Did}
use Rattle.tl_workers.specs.declared.session.Did.TheVariants.{Asked, Got}
use Rattle.tl_workers.specs.Kept.{asking, AnswersEach, asked_of, gots_of}
use Rattle.tl_workers.specs.Refusals.{AreCallRefusals, numbers_of}
use Rattle.tl_keys.specs.Kept.{KeptValue}
use Rattle.tl_server.specs.declared.fault.KeyFault.TheVariants.{NoStore}
use Rattle.tl_server.specs.Faults.{key_numbers_of}
use Rattle.tl_server.specs.Answers.{line_text, error_text, one_text, kept_text, batch_text, register_text, text_register_text, replace_text, growth_text, seal_text}
use Rattle.tl_server.specs.Requests.{LineValue, Registers, RegistersText, Replaces, Calls, CallsOnce, Batches, Grows, Seals, Closes, line_view}
use Rattle.tl_server.specs.declared.request.LineRequest.{LineRequest}
use Rattle.tl_server.specs.declared.request.LineRequest.TheVariants.{Register, RegisterText, Replace, Call, CallOnce, Batch, Grow, Seal, Close}
use Rattle.tl_server.specs.Gaining.{later_all, of_session}
use Rattle.tl_server.specs.declared.outcome.Done.{Done}
use Rattle.tl_server.specs.Served.{Ways, TextReader, TextReading, NoTexts, ReadBy, Keying, KnowsNoKeys, KeepsNoKeys, KeepsKeys, IsOnceAnswer, IsTextAnswer, IsReplaceAnswer, CallOutcome, SealOutcome, IsSealable, IsBatchAnswer, IsGrowthAnswer, AnswersRequest}
use Rattle.tl_server.specs.declared.outcome.RequestOutcome.TheVariants.{Registered, RegisteredAll, Replaced, Called, Recalled, KeyRefused, Batched, Grown, Unknown, Sealed}
use Rattle.tl_server.specs.declared.outcome.RequestOutcome.{RequestOutcome}
use Rattle.tl_server.specs.declared.texts.NamedBounds.{NamedBounds}
use Rattle.tl_server.specs.declared.texts.TextFault.{TextFault}
use Rattle.tl_server.specs.declared.texts.ReplaceFault.{ReplaceFault}
use Rattle.tl_server.proofs.Goings.{may_line}
use Rattle.tl_server.specs.Outcomes.{BatchOutcome, IsProvided, IsUnknown, IsRegisteredText, IsReplacedBy, IsReplacement, IsCalledOrRecalled, IsKeyRefused, IsCalledOnce, IsGrowth, outcome_text, CameOf, later, later_answer, later_seal, later_did, IsSealableAt, HasKept, GoesOnFrom}

map_both : {A B C : Type 0} (f : B → C) (g : A → B) (xs : List A) → map (λ a. f (g a)) xs ≡ map f (map g xs)
map_both f g [] = refl
map_both f g (x ∷ xs) = ap (λ ys. f (g x) ∷ ys) (map_both f g xs)

-- the text of a batch's answers, item by item
pub batch_same : (base : ℕ) (answers : List (Result Receipt Refusal))
    → codes "{\"batch\":" ++ (codes "[" ++ join_with_byte 44 (map (λ a. one_text (later_answer base a)) answers) ++ codes "]") ++ codes "}" ≡ batch_text (map (later_answer base) answers)
batch_same base answers =
    ap (λ xs. codes "{\"batch\":" ++ (codes "[" ++ join_with_byte 44 xs ++ codes "]") ++ codes "}") (map_both one_text (later_answer base) answers)

-- ---- calls

-- requests don't depend on the numbers of epochs
answers_later : (base : ℕ) (qs : List Request) (xs : List (Result Receipt Refusal)) → AnswersEach qs xs → AnswersEach qs (map (later_answer base) xs)
answers_later base [] [] h = tt
answers_later base [] (a ∷ xs) h = absurd h
answers_later base (q ∷ qs) [] h = absurd h
answers_later base (q ∷ qs) (Ok r ∷ xs) h = (h.0, answers_later base qs xs h.1)
answers_later base (q ∷ qs) (Err e ∷ xs) h = answers_later base qs xs h

-- refusals don't depend on them either
refusals_later : (base : ℕ) (seals : Bool) (xs : List (Result Receipt Refusal)) → AreCallRefusals seals xs → AreCallRefusals seals (map (later_answer base) xs)
refusals_later base seals [] h = tt
refusals_later base seals (Ok r ∷ xs) h = refusals_later base seals xs h
refusals_later base seals (Err e ∷ xs) h = (h.0, refusals_later base seals xs h.1)

asked_later : (base : ℕ) (qs : List Request) (xs : List (Result Receipt Refusal)) → map (later_did base) (asked_of qs xs) ≡ asked_of qs (map (later_answer base) xs)
asked_later base [] xs = refl
asked_later base (q ∷ qs) [] = refl
asked_later base (q ∷ qs) (Ok r ∷ xs) = ap (λ ys. later_did base (Asked (asking r.epoch r.call (string_bytes q.name) q.args.items)) ∷ ys) (asked_later base qs xs)
asked_later base (q ∷ qs) (Err e ∷ xs) = asked_later base qs xs

gots_later : (base : ℕ) (xs : List (Result Receipt Refusal)) → map (later_did base) (gots_of xs) ≡ gots_of (map (later_answer base) xs)
gots_later base [] = refl
gots_later base (Ok r ∷ xs) = ap (λ ys. Got (later base r) ∷ ys) (gots_later base xs)
gots_later base (Err e ∷ xs) = gots_later base xs

call_later : (seals : Bool) (base : ℕ) (q : List ℕ × List ℤ) (own : List Did) (a : Result Receipt Refusal) → CallOutcome seals q own a → CallOutcome seals q (map (later_did base) own) (later_answer base a)
call_later seals base q own (Ok r) h = (h.0, ap (map (later_did base)) h.1)
call_later seals base q own (Err e) h = (ap (map (later_did base)) h.0, h.1)

batch_later : (seals : Bool) (base : ℕ) (qs : List Request) (own : List Did) (v : Vec (Result Receipt Refusal) Global) → BatchOutcome seals qs own (Ok v)
    → IsBatchAnswer seals qs (map (later_did base) own) (line_text (batch_text (map (later_answer base) v.items)))
batch_later seals base qs own v h =
    let answers = map (later_answer base) v.items in
    let gained = ap (map (later_did base)) h.2 ∙ map-append (later_did base) (asked_of qs v.items) (gots_of v.items)
    ∙ ap (λ xs. xs ++ map (later_did base) (gots_of v.items)) (asked_later base qs v.items) ∙ ap (λ ys. asked_of qs answers ++ ys) (gots_later base v.items) in
    inr (answers, answers_later base qs v.items h.0, refusals_later base seals v.items h.1, gained, refl)

seal_later : (seals : Bool) (base : ℕ) (a : Result ℕ Refusal) → SealOutcome seals IsSealable a → SealOutcome seals (IsSealableAt base) (later_seal base a)
seal_later seals base (Ok n) h = (n, h, refl)
seal_later seals base (Err e) h = h

-- ---- the answer to each request

-- of a text there is no other outcome than that of its registration, or that the request isn't known
neither : (reads : TextReading) (text : List ℕ) (own : List Did) (o : RequestOutcome) → ((reader : TextReader) → IsProvided reader text own o → ⊥) → (IsUnknown own o → ⊥) → IsRegisteredText reads text own o → ⊥
neither (ReadBy reader) text own o read unread w = read reader w
neither NoTexts text own o read unread w = unread w

text_registered : (reads : TextReading) (text : List ℕ) (own : List Did) (base : ℕ) (a : Result (Vec NamedBounds Global) TextFault) → IsRegisteredText reads text own (RegisteredAll a)
    → (map (later_did base) own ≡ []) × IsTextAnswer reads text (line_text (text_register_text a))
text_registered (ReadBy reader) text own base a w = (ap (map (later_did base)) w.0, (a, w.1, refl))
text_registered NoTexts text own base a w = absurd w

text_unknown : (reads : TextReading) (text : List ℕ) (own : List Did) (base : ℕ) → IsRegisteredText reads text own Unknown
    → (map (later_did base) own ≡ []) × IsTextAnswer reads text (line_text (error_text (901 ∷ [])))
text_unknown (ReadBy reader) text own base w = absurd w
text_unknown NoTexts text own base w = (ap (map (later_did base)) w, refl)

-- of a call with a key there is no other outcome than that of the call, what came of the one that had the key, or that the key is refused or not known
no_once : (keys : Keying) (seals : Bool) (q : List ℕ × List ℤ) (own : List Did) (o : RequestOutcome) → (IsUnknown own o → ⊥) → (IsKeyRefused own o → ⊥) → (IsCalledOrRecalled seals q own o → ⊥)
    → IsCalledOnce keys seals q own o → ⊥
no_once KnowsNoKeys seals q own o unknown refused called w = unknown w
no_once KeepsNoKeys seals q own o unknown refused called w = refused w
no_once KeepsKeys seals q own o unknown refused called w = called w

called_once : (keys : Keying) (seals : Bool) (q : List ℕ × List ℤ) (own : List Did) (base : ℕ) (a : Result Receipt Refusal) → IsCalledOnce keys seals q own (Called a)
    → IsOnceAnswer keys seals q (map (later_did base) own) (line_text (one_text (later_answer base a)))
called_once KnowsNoKeys seals q own base a w = absurd w
called_once KeepsNoKeys seals q own base a w = absurd w
called_once KeepsKeys seals q own base a w = inl (later_answer base a, call_later seals base q own a w, refl)

recalled_once : (keys : Keying) (seals : Bool) (q : List ℕ × List ℤ) (own : List Did) (base : ℕ) (kept : KeptValue) → IsCalledOnce keys seals q own (Recalled kept)
    → IsOnceAnswer keys seals q (map (later_did base) own) (line_text (kept_text kept))
recalled_once KnowsNoKeys seals q own base kept w = absurd w
recalled_once KeepsNoKeys seals q own base kept w = absurd w
recalled_once KeepsKeys seals q own base kept w = inr (ap (map (later_did base)) w, (kept, refl))

refused_once : (keys : Keying) (seals : Bool) (q : List ℕ × List ℤ) (own : List Did) (base : ℕ) → IsCalledOnce keys seals q own (KeyRefused NoStore)
    → IsOnceAnswer keys seals q (map (later_did base) own) (line_text (error_text (key_numbers_of NoStore)))
refused_once KnowsNoKeys seals q own base w = absurd w
refused_once KeepsNoKeys seals q own base w = (ap (map (later_did base)) w, refl)
refused_once KeepsKeys seals q own base w = absurd w

unknown_once : (keys : Keying) (seals : Bool) (q : List ℕ × List ℤ) (own : List Did) (base : ℕ) → IsCalledOnce keys seals q own Unknown
    → IsOnceAnswer keys seals q (map (later_did base) own) (line_text (error_text (901 ∷ [])))
unknown_once KnowsNoKeys seals q own base w = (ap (map (later_did base)) w, refl)
unknown_once KeepsNoKeys seals q own base w = absurd w
unknown_once KeepsKeys seals q own base w = absurd w

-- of a replacement there is no other outcome than its own, or that the request isn't known
no_replacement : (grows : Bool) (reads : TextReading) (text : List ℕ) (own : List Did) (o : RequestOutcome) → ((reader : TextReader) → IsReplacedBy reader text own o → ⊥) → (IsUnknown own o → ⊥)
    → IsReplacement grows reads text own o → ⊥
no_replacement true (ReadBy reader) text own o replaced unknown w = replaced reader w
no_replacement true NoTexts text own o replaced unknown w = unknown w
no_replacement false reads text own o replaced unknown w = unknown w

replacement_replaced : (grows : Bool) (reads : TextReading) (text : List ℕ) (own : List Did) (base : ℕ) (a : Result (Vec NamedBounds Global) ReplaceFault) → IsReplacement grows reads text own (Replaced a)
    → (map (later_did base) own ≡ []) × IsReplaceAnswer grows reads text (line_text (replace_text a))
replacement_replaced true (ReadBy reader) text own base a w = (ap (map (later_did base)) w.0, (a, w.1, refl))
replacement_replaced true NoTexts text own base a w = absurd w
replacement_replaced false reads text own base a w = absurd w

replacement_unknown : (grows : Bool) (reads : TextReading) (text : List ℕ) (own : List Did) (base : ℕ) → IsReplacement grows reads text own Unknown
    → (map (later_did base) own ≡ []) × IsReplaceAnswer grows reads text (line_text (error_text (901 ∷ [])))
replacement_unknown true (ReadBy reader) text own base w = absurd w
replacement_unknown true NoTexts text own base w = (ap (map (later_did base)) w, refl)
replacement_unknown false reads text own base w = (ap (map (later_did base)) w, refl)

registered : (ways : Ways) (r : LineValue) (own : List Did) (base : ℕ) (a : Result Bounds RegisterFault) → CameOf ways r own (Registered a)
    → AnswersRequest ways (IsSealableAt base) r (map (later_did base) own) (line_text (register_text a))
registered ways (Registers name text) own base a w = (ap (map (later_did base)) w.0, (a, w.1, refl))
registered ways (RegistersText text) own base a w = absurd (neither ways.reads text own (Registered a) (λ reader v. v) (λ v. v) w)
registered ways (Replaces text) own base a w = absurd (no_replacement ways.grows ways.reads text own (Registered a) (λ reader v. v) (λ v. v) w)
registered ways (Calls name args) own base a w = absurd w
registered ways (CallsOnce name args key) own base a w = absurd (no_once ways.keys ways.seals (name, args) own (Registered a) (λ v. v) (λ v. v) (λ v. v) w)
registered ways (Batches calls workers) own base a w = absurd w
registered ways (Grows parents) own base a w = absurd w
registered ways Seals own base a w = absurd w
registered ways Closes own base a w = absurd w

registered_all : (ways : Ways) (r : LineValue) (own : List Did) (base : ℕ) (a : Result (Vec NamedBounds Global) TextFault) → CameOf ways r own (RegisteredAll a)
    → AnswersRequest ways (IsSealableAt base) r (map (later_did base) own) (line_text (text_register_text a))
registered_all ways (Registers name text) own base a w = absurd w
registered_all ways (RegistersText text) own base a w = text_registered ways.reads text own base a w
registered_all ways (Replaces text) own base a w = absurd (no_replacement ways.grows ways.reads text own (RegisteredAll a) (λ reader v. v) (λ v. v) w)
registered_all ways (Calls name args) own base a w = absurd w
registered_all ways (CallsOnce name args key) own base a w = absurd (no_once ways.keys ways.seals (name, args) own (RegisteredAll a) (λ v. v) (λ v. v) (λ v. v) w)
registered_all ways (Batches calls workers) own base a w = absurd w
registered_all ways (Grows parents) own base a w = absurd w
registered_all ways Seals own base a w = absurd w
registered_all ways Closes own base a w = absurd w

called : (ways : Ways) (r : LineValue) (own : List Did) (base : ℕ) (a : Result Receipt Refusal) → CameOf ways r own (Called a)
    → AnswersRequest ways (IsSealableAt base) r (map (later_did base) own) (line_text (one_text (later_answer base a)))
called ways (Registers name text) own base a w = absurd w
called ways (RegistersText text) own base a w = absurd (neither ways.reads text own (Called a) (λ reader v. v) (λ v. v) w)
called ways (Replaces text) own base a w = absurd (no_replacement ways.grows ways.reads text own (Called a) (λ reader v. v) (λ v. v) w)
called ways (Calls name args) own base a w = (later_answer base a, call_later ways.seals base (name, args) own a w, refl)
called ways (CallsOnce name args key) own base a w = called_once ways.keys ways.seals (name, args) own base a w
called ways (Batches calls workers) own base a w = absurd w
called ways (Grows parents) own base a w = absurd w
called ways Seals own base a w = absurd w
called ways Closes own base a w = absurd w

recalled : (ways : Ways) (r : LineValue) (own : List Did) (base : ℕ) (kept : KeptValue) → CameOf ways r own (Recalled kept)
    → AnswersRequest ways (IsSealableAt base) r (map (later_did base) own) (line_text (kept_text kept))
recalled ways (Registers name text) own base kept w = absurd w
recalled ways (RegistersText text) own base kept w = absurd (neither ways.reads text own (Recalled kept) (λ reader v. v) (λ v. v) w)
recalled ways (Replaces text) own base kept w = absurd (no_replacement ways.grows ways.reads text own (Recalled kept) (λ reader v. v) (λ v. v) w)
recalled ways (Calls name args) own base kept w = absurd w
recalled ways (CallsOnce name args key) own base kept w = recalled_once ways.keys ways.seals (name, args) own base kept w
recalled ways (Batches calls workers) own base kept w = absurd w
recalled ways (Grows parents) own base kept w = absurd w
recalled ways Seals own base kept w = absurd w
recalled ways Closes own base kept w = absurd w

key_refused : (ways : Ways) (r : LineValue) (own : List Did) (base : ℕ) → CameOf ways r own (KeyRefused NoStore)
    → AnswersRequest ways (IsSealableAt base) r (map (later_did base) own) (line_text (error_text (key_numbers_of NoStore)))
key_refused ways (Registers name text) own base w = absurd w
key_refused ways (RegistersText text) own base w = absurd (neither ways.reads text own (KeyRefused NoStore) (λ reader v. v) (λ v. v) w)
key_refused ways (Replaces text) own base w = absurd (no_replacement ways.grows ways.reads text own (KeyRefused NoStore) (λ reader v. v) (λ v. v) w)
key_refused ways (Calls name args) own base w = absurd w
key_refused ways (CallsOnce name args key) own base w = refused_once ways.keys ways.seals (name, args) own base w
key_refused ways (Batches calls workers) own base w = absurd w
key_refused ways (Grows parents) own base w = absurd w
key_refused ways Seals own base w = absurd w
key_refused ways Closes own base w = absurd w

batched : (ways : Ways) (r : LineValue) (own : List Did) (base : ℕ) (v : Vec (Result Receipt Refusal) Global) → CameOf ways r own (Batched (Ok v))
    → AnswersRequest ways (IsSealableAt base) r (map (later_did base) own) (line_text (batch_text (map (later_answer base) v.items)))
batched ways (Registers name text) own base v w = absurd w
batched ways (RegistersText text) own base v w = absurd (neither ways.reads text own (Batched (Ok v)) (λ reader v. v) (λ v. v) w)
batched ways (Replaces text) own base v w = absurd (no_replacement ways.grows ways.reads text own (Batched (Ok v)) (λ reader v. v) (λ v. v) w)
batched ways (Calls name args) own base v w = absurd w
batched ways (CallsOnce name args key) own base v w = absurd (no_once ways.keys ways.seals (name, args) own (Batched (Ok v)) (λ v. v) (λ v. v) (λ v. v) w)
batched ways (Batches calls workers) own base v w = (w.0, w.1, batch_later ways.seals base w.0 own v w.2)
batched ways (Grows parents) own base v w = absurd w
batched ways Seals own base v w = absurd w
batched ways Closes own base v w = absurd w

unbatched : (ways : Ways) (r : LineValue) (own : List Did) (base : ℕ) (e : Refusal) → CameOf ways r own (Batched (Err e))
    → AnswersRequest ways (IsSealableAt base) r (map (later_did base) own) (line_text (error_text (numbers_of e)))
unbatched ways (Registers name text) own base e w = absurd w
unbatched ways (RegistersText text) own base e w = absurd (neither ways.reads text own (Batched (Err e)) (λ reader v. v) (λ v. v) w)
unbatched ways (Replaces text) own base e w = absurd (no_replacement ways.grows ways.reads text own (Batched (Err e)) (λ reader v. v) (λ v. v) w)
unbatched ways (Calls name args) own base e w = absurd w
unbatched ways (CallsOnce name args key) own base e w = absurd (no_once ways.keys ways.seals (name, args) own (Batched (Err e)) (λ v. v) (λ v. v) (λ v. v) w)
unbatched ways (Batches calls workers) own base e w =
    (w.0, w.1, inl (ap (map (later_did base)) w.2.0, ap (λ f. line_text (error_text (numbers_of f))) w.2.1))
unbatched ways (Grows parents) own base e w = absurd w
unbatched ways Seals own base e w = absurd w
unbatched ways Closes own base e w = absurd w

sealed : (ways : Ways) (r : LineValue) (own : List Did) (base : ℕ) (a : Result ℕ Refusal) → CameOf ways r own (Sealed a)
    → AnswersRequest ways (IsSealableAt base) r (map (later_did base) own) (line_text (seal_text (later_seal base a)))
sealed ways (Registers name text) own base a w = absurd w
sealed ways (RegistersText text) own base a w = absurd (neither ways.reads text own (Sealed a) (λ reader v. v) (λ v. v) w)
sealed ways (Replaces text) own base a w = absurd (no_replacement ways.grows ways.reads text own (Sealed a) (λ reader v. v) (λ v. v) w)
sealed ways (Calls name args) own base a w = absurd w
sealed ways (CallsOnce name args key) own base a w = absurd (no_once ways.keys ways.seals (name, args) own (Sealed a) (λ v. v) (λ v. v) (λ v. v) w)
sealed ways (Batches calls workers) own base a w = absurd w
sealed ways (Grows parents) own base a w = absurd w
sealed ways Seals own base a w = (ap (map (later_did base)) w.0, (later_seal base a, seal_later ways.seals base a w.1, refl))
sealed ways Closes own base a w = absurd w

grown : (ways : Ways) (r : LineValue) (own : List Did) (base : ℕ) (a : Result ℕ GrowthFault) → CameOf ways r own (Grown a)
    → AnswersRequest ways (IsSealableAt base) r (map (later_did base) own) (line_text (growth_text a))
grown ways (Registers name text) own base a w = absurd w
grown ways (RegistersText text) own base a w = absurd (neither ways.reads text own (Grown a) (λ reader v. v) (λ v. v) w)
grown ways (Replaces text) own base a w = absurd (no_replacement ways.grows ways.reads text own (Grown a) (λ reader v. v) (λ v. v) w)
grown ways (Calls name args) own base a w = absurd w
grown ways (CallsOnce name args key) own base a w = absurd (no_once ways.keys ways.seals (name, args) own (Grown a) (λ v. v) (λ v. v) (λ v. v) w)
grown ways (Batches calls workers) own base a w = absurd w
grown ways (Grows parents) own base a w =
    (ap (map (later_did base)) w.1, subst (λ b. IsGrowthAnswer b parents (line_text (growth_text a))) (sym w.0) (a, w.2, w.3, refl))
grown ways Seals own base a w = absurd w
grown ways Closes own base a w = absurd w

replaced : (ways : Ways) (r : LineValue) (own : List Did) (base : ℕ) (a : Result (Vec NamedBounds Global) ReplaceFault) → CameOf ways r own (Replaced a)
    → AnswersRequest ways (IsSealableAt base) r (map (later_did base) own) (line_text (replace_text a))
replaced ways (Registers name text) own base a w = absurd w
replaced ways (RegistersText text) own base a w = absurd (neither ways.reads text own (Replaced a) (λ reader v. v) (λ v. v) w)
replaced ways (Replaces text) own base a w = replacement_replaced ways.grows ways.reads text own base a w
replaced ways (Calls name args) own base a w = absurd w
replaced ways (CallsOnce name args key) own base a w = absurd (no_once ways.keys ways.seals (name, args) own (Replaced a) (λ v. v) (λ v. v) (λ v. v) w)
replaced ways (Batches calls workers) own base a w = absurd w
replaced ways (Grows parents) own base a w = absurd w
replaced ways Seals own base a w = absurd w
replaced ways Closes own base a w = absurd w

unknown : (ways : Ways) (r : LineValue) (own : List Did) (base : ℕ) → CameOf ways r own Unknown
    → AnswersRequest ways (IsSealableAt base) r (map (later_did base) own) (line_text (error_text (901 ∷ [])))
unknown ways (Registers name text) own base w = absurd w
unknown ways (RegistersText text) own base w = text_unknown ways.reads text own base w
unknown ways (Replaces text) own base w = replacement_unknown ways.grows ways.reads text own base w
unknown ways (Calls name args) own base w = absurd w
unknown ways (CallsOnce name args key) own base w = unknown_once ways.keys ways.seals (name, args) own base w
unknown ways (Batches calls workers) own base w = absurd w
unknown ways (Grows parents) own base w =
    (ap (map (later_did base)) w.1, subst (λ b. IsGrowthAnswer b parents (line_text (error_text (901 ∷ [])))) (sym w.0) refl)
unknown ways Seals own base w = absurd w
unknown ways Closes own base w = absurd w

answered : (ways : Ways) (r : LineValue) (own : List Did) (base : ℕ) (o : RequestOutcome) → CameOf ways r own o
    → AnswersRequest ways (IsSealableAt base) r (map (later_did base) own) (line_text (outcome_text base o))
answered ways r own base (Registered a) w = registered ways r own base a w
answered ways r own base (RegisteredAll a) w = registered_all ways r own base a w
answered ways r own base (Replaced a) w = replaced ways r own base a w
answered ways r own base (Called a) w = called ways r own base a w
answered ways r own base (Recalled kept) w = recalled ways r own base kept w
answered ways r own base (KeyRefused NoStore) w = key_refused ways r own base w
answered ways r own base (Batched (Ok v)) w = batched ways r own base v w
answered ways r own base (Batched (Err e)) w = unbatched ways r own base e w
answered ways r own base (Grown a) w = grown ways r own base a w
answered ways r own base Unknown w = unknown ways r own base w
answered ways r own base (Sealed a) w = sealed ways r own base a w

-- so it is for a visitor who may seal what the engine may
pub answered_for : (ways : Ways) (may : ℕ → Type 0) (r : LineValue) (own : List Did) (base : ℕ) (o : RequestOutcome) → CameOf ways r own o → ((n : ℕ) → IsSealable n → may (base + n))
    → AnswersRequest ways may r (map (later_did base) own) (line_text (outcome_text base o))
answered_for ways may r own base o came sealable =
    may_line ways (IsSealableAt base) may r (map (later_did base) own) (line_text (outcome_text base o))
    (λ n is. subst may (sym is.2) (sealable is.0 is.1)) (answered ways r own base o came)

-- the next engine takes over for the request, if that can be
abbrev HandsOver : LineValue → Type 0
HandsOver (Replaces text) = Unit {0}
HandsOver (Grows parents) = Unit {0}
HandsOver _ = ⊥

-- what an engine does for another request doesn't depend on whether engines take over from one another
pub grows_too : (seals grows frozen : Bool) (reads : TextReading) (keys : Keying) (r : LineValue) (own : List Did) (o : RequestOutcome) → (HandsOver r → grows ≡ false)
    → CameOf (record { seals = seals; grows = false; reads = reads; keys = keys; frozen = false }) r own o → CameOf (record { seals = seals; grows = grows; reads = reads; keys = keys; frozen = frozen }) r own o
grows_too seals grows frozen reads keys (Registers name text) own o other w = w
grows_too seals grows frozen reads keys (RegistersText text) own o other w = w
grows_too seals grows frozen reads keys (Replaces text) own o other w = subst (λ b. IsReplacement b reads text own o) (sym (other tt)) w
grows_too seals grows frozen reads keys (Calls name args) own o other w = w
grows_too seals grows frozen reads keys (CallsOnce name args key) own o other w = w
grows_too seals grows frozen reads keys (Batches calls workers) own o other w = w
grows_too seals grows frozen reads keys (Grows parents) own o other w = subst (λ b. IsGrowth b parents own o) (sym (other tt)) w
grows_too seals grows frozen reads keys Seals own o other w = w
grows_too seals grows frozen reads keys Closes own o other w = w

-- the same for a relay that uses one of its engines
pub performed : (grows frozen : Bool) (reads : TextReading) (keys : Keying) (r : LineValue) (old new : ℕ) (o : Option Done) → (HandsOver r → grows ≡ false)
    → IfSome o (λ d. (own : List Did) × CameOf (record { seals = true; grows = false; reads = reads; keys = keys; frozen = false }) r own d.outcome × HasKept own) → IfSome o (λ d. (old ≤ d.base) × (new ≡ d.base))
    → IfSome o (λ d. (own : List Did) × CameOf (record { seals = true; grows = grows; reads = reads; keys = keys; frozen = frozen }) r own d.outcome × GoesOnFrom old new (map (later_did d.base) own))
performed grows frozen reads keys r old new None other came later = tt
performed grows frozen reads keys r old new (Some d) other came later =
    let (own, done, kept) = came in
    let from = later.0 in
    (own, grows_too true grows frozen reads keys r own d.outcome other done, (omega (arith, from, later.1), later_all old d.base own from, of_session d.base own kept))

-- a request of another kind
pub no_hand_over : (q : LineRequest) → ((text : String Global) → q ≡ Replace text → ⊥) → ((parents : Vec ℤ Global) → q ≡ Grow parents → ⊥) → HandsOver (line_view q) → ⊥
no_hand_over (Register p) text parents is = is
no_hand_over (RegisterText t) text parents is = is
no_hand_over (Replace t) text parents is = text t refl
no_hand_over (Call q) text parents is = is
no_hand_over (CallOnce q) text parents is = is
no_hand_over (Batch b) text parents is = is
no_hand_over (Grow ps) text parents is = parents ps refl
no_hand_over Seal text parents is = is
no_hand_over Close text parents is = is
