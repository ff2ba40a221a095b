-- Texts that are handed over one after another.
use Rattle.std.proofs.Common.{◌≡◌, ◌+◌, ℕ, List, [], ◌++◌, Bool, true, false, ap, sym, ◌∙◌, subst, append_assoc, append-nil, refl}
use Rattle.std.specs.Prelude.{Option, Some, None, if◌then◌else◌, Result, Ok, Err, OnOk, OnErr}
use Rattle.std.specs.Result.{is_err}
use Rattle.tl_server.specs.Devices.{Adds, AddsPart}
use Rattle.tl_server.specs.Sending.{Sending, Sent, SentIf, Writes}
use Rattle.tl_server.proofs.Held.{Adds-append}

pub Adds-nil : (o : Option (List ℕ)) → Adds o [] o
Adds-nil (Some x) = ap Some (sym (append-nil x))
Adds-nil None = tt

AddsPart-append : (a b c : Option (List ℕ)) (xs ys : List ℕ) → Adds a xs b → AddsPart b ys c → AddsPart a (xs ++ ys) c
AddsPart-append (Some x) b c xs ys h k =
    let P : Option (List ℕ) → Type 0 = λ o. AddsPart o ys c in
    let e = subst P h k in
    (xs ++ e.0, e.1, ap (λ zs. xs ++ zs) e.2 ∙ sym (append_assoc xs e.0 e.1), e.3 ∙ ap Some (append_assoc x xs e.0))
AddsPart-append None b c xs ys h k = tt

AddsPart-more : (a b : Option (List ℕ)) (xs ys : List ℕ) → AddsPart a xs b → AddsPart a (xs ++ ys) b
AddsPart-more (Some x) b xs ys h = (h.0, h.1 ++ ys, ap (λ zs. zs ++ ys) h.2 ∙ append_assoc h.0 h.1 ys, h.3)
AddsPart-more None b xs ys h = tt

-- no text
pub writes_nil : (s : Sending) → Writes s s []
writes_nil s = record {
  sends = λ base total h. let P : List ℕ → Type 0 = λ xs. Sent base xs s in subst P (sym (append-nil total)) h;
  counts = λ n h. h;
}

-- one text and then another
pub writes_then : {a b c : Sending} {t u : List ℕ} → Writes a b t → Writes b c u → Writes a c (t ++ u)
writes_then {a} {b} {c} {t} {u} v w = record {
  sends = λ base total h.
      let P : List ℕ → Type 0 = λ xs. Sent base xs c in
      subst P (append_assoc total t u) (w.sends base (total ++ t) (v.sends base total h));
  counts = λ n h. w.counts n (v.counts n h);
}

pub writes_same : {a b : Sending} {t u : List ℕ} → Writes a b t → t ≡ u → Writes a b u
writes_same {a} {b} v e = let P : List ℕ → Type 0 = λ xs. Writes a b xs in subst P e v

-- the text is gathered
kept_by : (failed : Bool) (base : Option (List ℕ)) (total : List ℕ) (output : Option (List ℕ)) (kept text : List ℕ) → SentIf failed base total output kept → SentIf failed base (total ++ text) output (kept ++ text)
kept_by false base total output kept text h = (h.0, ap (λ xs. xs ++ text) h.1 ∙ append_assoc h.0 kept text, h.2)
kept_by true base total output kept text h = AddsPart-more base output total text h

pub writes_kept : (output : Option (List ℕ)) (failures : ℕ) (kept text : List ℕ) (failed : Bool)
    → Writes (record { output = output; failures = failures; kept = kept; failed = failed }) (record { output = output; failures = failures; kept = kept ++ text; failed = failed }) text
writes_kept output failures kept text failed = record {
  sends = λ base total h. kept_by failed base total output kept text h;
  counts = λ n h. h;
}

-- after a failed write
pub writes_none : (output : Option (List ℕ)) (failures : ℕ) (kept kept' text : List ℕ) (failed : Bool) → failed ≡ true
    → Writes (record { output = output; failures = failures; kept = kept; failed = failed }) (record { output = output; failures = failures; kept = kept'; failed = failed }) text
writes_none output failures kept kept' text failed is = record {
  sends = λ base total h.
      let P : Bool → Type 0 = λ b. SentIf b base total output kept in
      let Q : Bool → Type 0 = λ b. SentIf b base (total ++ text) output kept' in
      subst Q (sym is) (AddsPart-more base output total text (subst P is h));
  counts = λ n h. h;
}

-- the text is written together with what was gathered
sent_by : (failed : Bool) (base : Option (List ℕ)) (total : List ℕ) (o o' : Option (List ℕ)) (kept kept' text written : List ℕ) → SentIf false base total o kept → written ≡ kept ++ text → kept' ≡ []
    → (failed ≡ false → Adds o written o') → (failed ≡ true → AddsPart o written o') → SentIf failed base (total ++ text) o' kept'
sent_by false base total o o' kept kept' text written h is none ok err =
    (h.0 ++ written, ap (λ xs. xs ++ text) h.1 ∙ append_assoc h.0 kept text ∙ ap (λ xs. h.0 ++ xs) (sym is) ∙ sym (append-nil (h.0 ++ written)) ∙ ap (λ xs. (h.0 ++ written) ++ xs) (sym none), Adds-append base o o' h.0 written h.2 (ok refl))
sent_by true base total o o' kept kept' text written h is none ok err =
    let P : List ℕ → Type 0 = λ xs. AddsPart base xs o' in
    subst P (sym (ap (λ xs. xs ++ text) h.1 ∙ append_assoc h.0 kept text ∙ ap (λ xs. h.0 ++ xs) (sym is))) (AddsPart-append base o o' h.0 written h.2 (err refl))

counted_by : (failed : Bool) (n f f' : ℕ) → f ≡ n → (failed ≡ false → f' ≡ f) → (failed ≡ true → f' ≡ f + 1) → f' ≡ (if failed then n + 1 else n)
counted_by false n f f' is ok err = ok refl ∙ is
counted_by true n f f' is ok err = err refl ∙ ap (λ m. m + 1) is

pub writes_sent : (o o' : Option (List ℕ)) (f f' : ℕ) (kept kept' text written : List ℕ) (failed failed' : Bool) → failed ≡ false → written ≡ kept ++ text → kept' ≡ []
    → (failed' ≡ false → Adds o written o') → (failed' ≡ true → AddsPart o written o') → (failed' ≡ false → f' ≡ f) → (failed' ≡ true → f' ≡ f + 1)
    → Writes (record { output = o; failures = f; kept = kept; failed = failed }) (record { output = o'; failures = f'; kept = kept'; failed = failed' }) text
writes_sent o o' f f' kept kept' text written failed failed' fresh is none ok err fine counted = record {
  sends = λ base total h.
      let P : Bool → Type 0 = λ b. SentIf b base total o kept in
      sent_by failed' base total o o' kept kept' text written (subst P fresh h) is none ok err;
  counts = λ n h.
      let P : Bool → Type 0 = λ b. f ≡ (if b then n + 1 else n) in
      counted_by failed' n f f' (subst P fresh h) fine counted;
}

-- ---- outcomes

pub not_err : {A E : Type 0} (r : Result A E) (P : Type 0) → is_err r ≡ false → OnOk r P → P
not_err (Ok x) P e h = h
not_err (Err x) P e h = absurd cc

pub when_err : {A E : Type 0} (r : Result A E) (P : Type 0) → is_err r ≡ true → OnErr r P → P
when_err (Ok x) P e h = absurd cc
when_err (Err x) P e h = h
