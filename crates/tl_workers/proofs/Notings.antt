-- How the entries of a session are stored, with their values and names apart.
use Rattle.std.proofs.Common.{◌≡◌, ℕ, zero, suc, ◌+◌, ◌<◌, ◌≤◌, List, [], ◌∷◌, ◌++◌, length, take, drop, get_or, refl, sym, ap, ◌∙◌, subst, arith, append_assoc, length-append, length-drop}
use Rattle.std.specs.Prelude.{ℤ, Option, Some, slice_get, IsTrue, nat_eq}
use Rattle.std.proofs.lemmas.Bool.{eqb-true, eq-eqb}
use Rattle.std.proofs.lemmas.List.{append-nil, take-append-le, drop-append-le}
use Rattle.std.proofs.Math.Seq.{drop-append_seam}
use Rattle.std.proofs.lemmas.Option.{none-some, same_Some, get_or_from_slice_get, slice_get_within}
use Rattle.tl_table.specs.declared.receipt.Receipt.{Receipt}
use Rattle.tl_workers.specs.declared.asking.Asking.{Asking}
use Rattle.tl_workers.specs.declared.notes.Entry.{Entry}
use Rattle.tl_workers.specs.declared.notes.Entry.TheVariants.{OfCall, OfReceipt}
use Rattle.tl_workers.specs.declared.session.Did.{Did}
use Rattle.tl_workers.specs.declared.session.Did.TheVariants.{Asked, Got}
use Rattle.tl_workers.specs.Kept.{asking, AsksAt}
use Rattle.tl_workers.specs.Noted.{did_of, dids_of, IsWithin, AreWithin, KeepsName}

-- ---- what is at a place

pub dids_long : (values : List ℤ) (names : List (List ℕ)) (es : List Entry) → length (dids_of values names es) ≡ length es
dids_long values names [] = refl
dids_long values names (e ∷ es) = ap suc (dids_long values names es)

pub did_at : (values : List ℤ) (names : List (List ℕ)) (es : List Entry) (i : ℕ) (e : Entry) → slice_get es i ≡ Some e
    → slice_get (dids_of values names es) i ≡ Some (did_of values names e)
did_at values names [] i e at = absurd (none-some e at)
did_at values names (f ∷ es) zero e at = ap (λ x. Some (did_of values names x)) (same_Some f e at)
did_at values names (f ∷ es) (suc i) e at = did_at values names es i e at

pub within_at : (v n : ℕ) (es : List Entry) (i : ℕ) (e : Entry) → AreWithin v n es → slice_get es i ≡ Some e → IsWithin v n e
within_at v n [] i e all at = absurd (none-some e at)
within_at v n (f ∷ es) zero e all at = subst (IsWithin v n) (same_Some f e at) all.0
within_at v n (f ∷ es) (suc i) e all at = within_at v n es i e all.1 at

-- ---- more values and names

part_kept : (values more : List ℤ) (start count : ℕ) → start + count ≤ length values → take count (drop start (values ++ more)) ≡ take count (drop start values)
part_kept values more start count le =
    let long = length-drop start values in
    ap (take count) (drop-append-le start values more (omega (arith, le))) ∙ take-append-le count (drop start values) more (omega (arith, le, long))

name_kept : (names more : List (List ℕ)) (i : ℕ) → i < length names → get_or (names ++ more) i [] ≡ get_or names i []
name_kept [] more i lt = absurd (omega (arith, lt))
name_kept (x ∷ names) more zero lt = refl
name_kept (x ∷ names) more (suc i) lt = name_kept names more i (omega (arith, lt))

did_kept : (values mv : List ℤ) (names mn : List (List ℕ)) (e : Entry) → IsWithin (length values) (length names) e → did_of (values ++ mv) (names ++ mn) e ≡ did_of values names e
did_kept values mv names mn (OfCall epoch call name start args) w =
    let named = name_kept names mn name w.0 in
    let part = part_kept values mv start args w.1 in
    (λ i. Asked (asking epoch call (named i) (part i)))
did_kept values mv names mn (OfReceipt session epoch call procedure start args reply) w =
    let first = part_kept values mv start args (let le = w.0 in omega (arith, le)) in
    let second = part_kept values mv (start + args) reply (let le = w.0 in omega (arith, le)) in
    (λ i. Got (record { session = session; epoch = epoch; call = call; procedure = procedure; args = record { items = first i }; reply = record { items = second i } }))

dids_kept : (values mv : List ℤ) (names mn : List (List ℕ)) (es : List Entry) → AreWithin (length values) (length names) es → dids_of (values ++ mv) (names ++ mn) es ≡ dids_of values names es
dids_kept values mv names mn [] all = refl
dids_kept values mv names mn (e ∷ es) all = (λ i. did_kept values mv names mn e all.0 i ∷ dids_kept values mv names mn es all.1 i)

within_more : (v n v2 n2 : ℕ) (e : Entry) → v ≤ v2 → n ≤ n2 → IsWithin v n e → IsWithin v2 n2 e
within_more v n v2 n2 (OfCall epoch call name start args) vs ns w = ((let a = w.0 in omega (arith, a, ns)), (let b = w.1 in omega (arith, b, vs)), w.2)
within_more v n v2 n2 (OfReceipt session epoch call procedure start args reply) vs ns w = ((let a = w.0 in omega (arith, a, vs)), w.1, w.2)

-- ---- one entry more

dids_append : (values : List ℤ) (names : List (List ℕ)) (es : List Entry) (e : Entry) → dids_of values names (es ++ e ∷ []) ≡ dids_of values names es ++ did_of values names e ∷ []
dids_append values names [] e = refl
dids_append values names (f ∷ es) e = ap (λ dids. did_of values names f ∷ dids) (dids_append values names es e)

pub one_more : (values mv : List ℤ) (names mn : List (List ℕ)) (es : List Entry) (e : Entry) (d : Did) → AreWithin (length values) (length names) es → did_of (values ++ mv) (names ++ mn) e ≡ d
    → dids_of (values ++ mv) (names ++ mn) (es ++ e ∷ []) ≡ dids_of values names es ++ d ∷ []
one_more values mv names mn es e d all is =
    dids_append (values ++ mv) (names ++ mn) es e ∙ (λ i. dids_kept values mv names mn es all i ++ is i ∷ [])

pub within_one_more : (v n v2 n2 : ℕ) (es : List Entry) (e : Entry) → v ≤ v2 → n ≤ n2 → AreWithin v n es → IsWithin v2 n2 e → AreWithin v2 n2 (es ++ e ∷ [])
within_one_more v n v2 n2 [] e vs ns all w = (w, tt)
within_one_more v n v2 n2 (f ∷ es) e vs ns all w = (within_more v n v2 n2 f vs ns all.0, within_one_more v n v2 n2 es e vs ns all.1 w)

-- ---- what was just appended

take_all : (xs : List ℤ) → take (length xs) xs ≡ xs
take_all [] = refl
take_all (x ∷ xs) = ap (λ ys. x ∷ ys) (take_all xs)

pub last_part : (values args : List ℤ) → take (length args) (drop (length values) (values ++ args)) ≡ args
last_part values args = ap (take (length args)) (drop-append_seam values args) ∙ take_all args

-- the appended entry of a request denotes that request
pub asked_did : (values : List ℤ) (names mn : List (List ℕ)) (a : Asking) (place : ℕ) → slice_get (names ++ mn) place ≡ Some a.name
    → did_of (values ++ a.args.items) (names ++ mn) (OfCall a.epoch a.call place (length values) (length a.args.items)) ≡ Asked a
asked_did values names mn a place named =
    let name = get_or_from_slice_get (names ++ mn) place a.name [] named in
    let part = last_part values a.args.items in
    (λ i. Asked (asking a.epoch a.call (name i) (part i)))

-- the appended entry of a receipt denotes that receipt
pub got_did : (values : List ℤ) (names mn : List (List ℕ)) (r : Receipt)
    → did_of ((values ++ r.args.items) ++ r.reply.items) (names ++ mn) (OfReceipt r.session r.epoch r.call r.procedure (length values) (length r.args.items) (length r.reply.items)) ≡ Got r
got_did values names mn r =
    let long = length-append values r.args.items in
    let first = part_kept (values ++ r.args.items) r.reply.items (length values) (length r.args.items) (omega (arith, long)) ∙ last_part values r.args.items in
    let second = ap (λ n. take (length r.reply.items) (drop n ((values ++ r.args.items) ++ r.reply.items))) (sym long) ∙ last_part (values ++ r.args.items) r.reply.items in
    (λ i. Got (record { session = r.session; epoch = r.epoch; call = r.call; procedure = r.procedure; args = record { items = first i }; reply = record { items = second i } }))

-- ---- a place of the list that a contract sees

pub same_long : (values : List ℤ) (names : List (List ℕ)) (es : List Entry) (kept : List Did) → dids_of values names es ≡ kept → length kept ≡ length es
same_long values names es kept is = sym (ap length is) ∙ dids_long values names es

seen_at : (values : List ℤ) (names : List (List ℕ)) (es : List Entry) (kept : List Did) (i : ℕ) (e : Entry) (d : Did) → dids_of values names es ≡ kept → slice_get es i ≡ Some e
    → did_of values names e ≡ d → slice_get kept i ≡ Some d
seen_at values names es kept i e d is at same = sym (ap (λ dids. slice_get dids i) is) ∙ did_at values names es i e at ∙ ap Some same

pub asked_at : (values : List ℤ) (names : List (List ℕ)) (es : List Entry) (kept : List Did) (i epoch call name start args : ℕ) (n : List ℕ) (items : List ℤ) → dids_of values names es ≡ kept
    → slice_get es i ≡ Some (OfCall epoch call name start args) → slice_get names name ≡ Some n → items ≡ take args (drop start values)
    → slice_get kept i ≡ Some (Asked (asking epoch call n items))
asked_at values names es kept i epoch call name start args n items is at named part =
    let same = get_or_from_slice_get names name n [] named in
    seen_at values names es kept i (OfCall epoch call name start args) (Asked (asking epoch call n items)) is at (λ k. Asked (asking epoch call (same k) (sym part k)))

pub got_at : (values : List ℤ) (names : List (List ℕ)) (es : List Entry) (kept : List Did) (i session epoch call procedure start args reply : ℕ) (given told : List ℤ) → dids_of values names es ≡ kept
    → slice_get es i ≡ Some (OfReceipt session epoch call procedure start args reply) → given ≡ take args (drop start values) → told ≡ take reply (drop (start + args) values)
    → slice_get kept i ≡ Some (Got (record { session = session; epoch = epoch; call = call; procedure = procedure; args = record { items = given }; reply = record { items = told } }))
got_at values names es kept i session epoch call procedure start args reply given told is at first second =
    seen_at values names es kept i (OfReceipt session epoch call procedure start args reply)
    (Got (record { session = session; epoch = epoch; call = call; procedure = procedure; args = record { items = given }; reply = record { items = told } })) is at
    (λ k. Got (record { session = session; epoch = epoch; call = call; procedure = procedure; args = record { items = sym first k }; reply = record { items = sym second k } }))

-- ---- whether a place asks for a call

same_asked : (a b : Asking) (did : Option Did) → did ≡ Some (Asked a) → did ≡ Some (Asked b) → a ≡ b
same_asked a b did p q = let e = sym p ∙ q in cc

asked_not_got : (a : Asking) (r : Receipt) (did : Option Did) → did ≡ Some (Asked a) → did ≡ Some (Got r) → ⊥
asked_not_got a r did p q = let e = sym p ∙ q in cc

module _ (values : List ℤ) (names : List (List ℕ)) (es : List Entry) (kept : List Did) (i epoch call name start args : ℕ) (is : dids_of values names es ≡ kept)
    (at : slice_get es i ≡ Some (OfCall epoch call name start args)) where
  abbrev its : Asking
  its = asking epoch call (get_or names name []) (take args (drop start values))

  seen : slice_get kept i ≡ Some (Asked its)
  seen = seen_at values names es kept i (OfCall epoch call name start args) (Asked its) is at refl

  pub asks_call : (e c : ℕ) → epoch ≡ e → (IsTrue (nat_eq call c) → AsksAt kept i e c) × (AsksAt kept i e c → IsTrue (nat_eq call c))
  asks_call e c same = (
    (λ t. (its, seen, same, eqb-true call c t)),
    (λ h. eq-eqb call c (ap (λ a. a.call) (same_asked its h.0 (slice_get kept i) seen h.1) ∙ h.3)),
  )

  pub asks_other : (e c : ℕ) → (epoch ≡ e → ⊥) → AsksAt kept i e c → ⊥
  asks_other e c other h = other (ap (λ a. a.epoch) (same_asked its h.0 (slice_get kept i) seen h.1) ∙ h.2)

pub asks_none : (values : List ℤ) (names : List (List ℕ)) (es : List Entry) (kept : List Did) (i session epoch call procedure start args reply : ℕ) → dids_of values names es ≡ kept
    → slice_get es i ≡ Some (OfReceipt session epoch call procedure start args reply) → (e c : ℕ) → AsksAt kept i e c → ⊥
asks_none values names es kept i session epoch call procedure start args reply is at e c h =
    asked_not_got h.0 _ (slice_get kept i) h.1
    (got_at values names es kept i session epoch call procedure start args reply (take args (drop start values)) (take reply (drop (start + args) values)) is at refl refl)

-- ---- what was written down

pub asked_noted : (values : List ℤ) (names : List (List ℕ)) (es : List Entry) (a : Asking) (place start : ℕ) (args : List ℤ) (values_now : List ℤ) (names_now : List (List ℕ)) (now : List Entry)
    → AreWithin (length values) (length names) es → length args ≤ 8 → args ≡ a.args.items → start ≡ length values → values_now ≡ values ++ args → KeepsName names names_now a.name place
    → now ≡ es ++ OfCall a.epoch a.call place start (length args) ∷ []
    → AreWithin (length values_now) (length names_now) now × (dids_of values_now names_now now ≡ dids_of values names es ++ Asked a ∷ [])
asked_noted values names es a place start args values_now names_now now all few same starts vs ns is =
    let R : List ℤ → List (List ℕ) → List Entry → Type 0 = λ v n xs. AreWithin (length v) (length n) xs × (dids_of v n xs ≡ dids_of values names es ++ Asked a ∷ []) in
    let e : Entry = OfCall a.epoch a.call place (length values) (length a.args.items) in
    let named : slice_get (names ++ ns.more) place ≡ Some a.name = sym (ap (λ xs. slice_get xs place) ns.kept) ∙ ns.there in
    let long_values = length-append values a.args.items in
    let long_names = length-append names ns.more in
    let few_args : length a.args.items ≤ 8 = subst (λ xs. length xs ≤ 8) same few in
    let within = within_one_more (length values) (length names) (length (values ++ a.args.items)) (length (names ++ ns.more)) es e (omega (arith, long_values)) (omega (arith, long_names)) all
    (slice_get_within (names ++ ns.more) place a.name named, omega (arith, long_values), few_args) in
    let main : R (values ++ a.args.items) (names ++ ns.more) (es ++ e ∷ []) = (within, one_more values a.args.items names ns.more es e (Asked a) all (asked_did values names ns.more a place named)) in
    let entry : now ≡ es ++ e ∷ [] = is ∙ (λ i. es ++ OfCall a.epoch a.call place (starts i) (length (same i)) ∷ []) in
    let value : values_now ≡ values ++ a.args.items = vs ∙ ap (λ xs. values ++ xs) same in
    subst (λ v. R v names_now now) (sym value) (subst (λ n. R (values ++ a.args.items) n now) (sym ns.kept) (subst (R (values ++ a.args.items) (names ++ ns.more)) (sym entry) main))

pub got_noted : (values : List ℤ) (names : List (List ℕ)) (es : List Entry) (r : Receipt) (start : ℕ) (args reply : List ℤ) (values_then values_now : List ℤ) (now : List Entry)
    → AreWithin (length values) (length names) es → length args ≤ 8 → length reply ≤ 32 → args ≡ r.args.items → reply ≡ r.reply.items → start ≡ length values
    → values_then ≡ values ++ args → values_now ≡ values_then ++ reply
    → now ≡ es ++ OfReceipt r.session r.epoch r.call r.procedure start (length args) (length reply) ∷ []
    → AreWithin (length values_now) (length names) now × (dids_of values_now names now ≡ dids_of values names es ++ Got r ∷ [])
got_noted values names es r start args reply values_then values_now now all few few_values same told starts vs ws is =
    let R : List ℤ → List (List ℕ) → List Entry → Type 0 = λ v n xs. AreWithin (length v) (length n) xs × (dids_of v n xs ≡ dids_of values names es ++ Got r ∷ []) in
    let e : Entry = OfReceipt r.session r.epoch r.call r.procedure (length values) (length r.args.items) (length r.reply.items) in
    let none : names ++ [] ≡ names = append-nil names in
    let more : (values ++ r.args.items) ++ r.reply.items ≡ values ++ (r.args.items ++ r.reply.items) = append_assoc values r.args.items r.reply.items in
    let long_args = length-append values r.args.items in
    let long_values = length-append (values ++ r.args.items) r.reply.items in
    let few_args : length r.args.items ≤ 8 = subst (λ xs. length xs ≤ 8) same few in
    let few_told : length r.reply.items ≤ 32 = subst (λ xs. length xs ≤ 32) told few_values in
    let within = within_one_more (length values) (length names) (length ((values ++ r.args.items) ++ r.reply.items)) (length names) es e (omega (arith, long_args, long_values)) (omega arith) all
    (omega (arith, long_args, long_values), few_args, few_told) in
    let there : did_of (values ++ (r.args.items ++ r.reply.items)) (names ++ []) e ≡ Got r = subst (λ v. did_of v (names ++ []) e ≡ Got r) more (got_did values names [] r) in
    let list : dids_of (values ++ (r.args.items ++ r.reply.items)) (names ++ []) (es ++ e ∷ []) ≡ dids_of values names es ++ Got r ∷ []
    = one_more values (r.args.items ++ r.reply.items) names [] es e (Got r) all there in
    let kept : dids_of ((values ++ r.args.items) ++ r.reply.items) names (es ++ e ∷ []) ≡ dids_of values names es ++ Got r ∷ []
    = subst (λ v. dids_of v names (es ++ e ∷ []) ≡ dids_of values names es ++ Got r ∷ []) (sym more)
    (subst (λ n. dids_of (values ++ (r.args.items ++ r.reply.items)) n (es ++ e ∷ []) ≡ dids_of values names es ++ Got r ∷ []) none list) in
    let main : R ((values ++ r.args.items) ++ r.reply.items) names (es ++ e ∷ []) = (within, kept) in
    let entry : now ≡ es ++ e ∷ [] = is ∙ (λ i. es ++ OfReceipt r.session r.epoch r.call r.procedure (starts i) (length (same i)) (length (told i)) ∷ []) in
    let value : values_now ≡ (values ++ r.args.items) ++ r.reply.items = ws ∙ (λ i. vs i ++ told i) ∙ (λ i. (values ++ same i) ++ r.reply.items) in
    subst (λ v. R v names now) (sym value) (subst (R ((values ++ r.args.items) ++ r.reply.items) names) (sym entry) main)
