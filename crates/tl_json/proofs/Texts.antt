-- Texts that are written piece by piece.
use Rattle.std.proofs.Common.{◌≡◌, ◌+◌, ◌<◌, ℕ, nat_lt, Bool, true, false, List, [], ◌∷◌, ◌++◌, length, get_or, take, map, codes, Result, Ok, Err, is_ok, if◌then◌else◌, refl, sym, ap, ◌∙◌, append_assoc, append-nil, arith}
use Rattle.std.specs.Prelude.{OnOk}
use Rattle.std.proofs.lemmas.Bool.{lt-ltb}
use Rattle.std.proofs.lemmas.List.{map_more, length-map, length-take}
use Rattle.serde_json.specs.Data.{Data, string}
use Rattle.serde_json.specs.View.{items_of}
use Rattle.serde_json.specs.Written.{comma_if, compact_text, items_text}
use Rattle.serde_json.proofs.OnLiterals.{serde_json_on_literals}
use Rattle.tl_json.specs.declared.letter.Letter.{Letter}
use Rattle.tl_json.specs.declared.letter.Letter.TheVariants.{Admitted, Plain, Locked, Read, Written, Freed, Emitted, Done, Blocked, Over, Refused}
use Rattle.tl_json.specs.Letters.{text_of}
use Rattle.tl_json.specs.Lists.{list_data}

-- the text after one more piece was appended
pub pushed : {U E : Type 0} (r : Result U E) (new old piece all : List ℕ) → new ≡ (if is_ok r then old ++ piece else old) → old ++ piece ≡ all → OnOk r (new ≡ all)
pushed (Ok u) new old piece all is same = is ∙ same
pushed (Err e) new old piece all is same = tt

pub ok_so : {U E : Type 0} (r : Result U E) (A : Type 0) → A → OnOk r A
ok_so (Ok u) A a = a
ok_so (Err e) A a = tt

-- ---- letters

letter_text : (letter : Letter) → 34 ∷ (text_of letter ++ (34 ∷ [])) ≡ compact_text (string (text_of letter))
unfolding serde_json_on_literals
letter_text Admitted = refl
letter_text Plain = refl
letter_text Locked = refl
letter_text Read = refl
letter_text Written = refl
letter_text Freed = refl
letter_text Emitted = refl
letter_text Done = refl
letter_text Blocked = refl
letter_text Over = refl
letter_text Refused = refl

pub letter_pushed : (old : List ℕ) (letter : Letter) → ((old ++ codes "[\"") ++ text_of letter) ++ codes "\"," ≡ old ++ 91 ∷ (compact_text (string (text_of letter)) ++ 44 ∷ [])
letter_pushed old letter =
    append_assoc (old ++ codes "[\"") (text_of letter) (codes "\",") ∙ append_assoc old (codes "[\"") (text_of letter ++ codes "\",")
    ∙ ap (λ l. old ++ 91 ∷ l) (ap (λ l. 34 ∷ l) (sym (append_assoc (text_of letter) (34 ∷ []) (44 ∷ []))) ∙ ap (λ l. l ++ 44 ∷ []) (letter_text letter))

-- the pieces of a lock or a free, where q is its letter
pub node_whole : (old q call node fields : List ℕ)
    → (((((old ++ 91 ∷ (q ++ 44 ∷ [])) ++ call) ++ 44 ∷ []) ++ node) ++ 44 ∷ []) ++ fields ++ 93 ∷ [] ≡ old ++ 91 ∷ (q ++ 44 ∷ (call ++ 44 ∷ (node ++ 44 ∷ (fields ++ 93 ∷ []))))
node_whole old q call node fields = simp append_assoc

-- ---- lists

-- the items with their commas, without brackets
abbrev pub joined : Bool → List Data → List ℕ
joined later [] = []
joined later (d ∷ ds) = comma_if later ++ (compact_text d ++ joined true ds)

joined_whole : (later : Bool) (ds : List Data) → joined later ds ++ 93 ∷ [] ≡ items_text later (items_of ds)
joined_whole later [] = refl
joined_whole later (d ∷ ds) =
    append_assoc (comma_if later) (compact_text d ++ joined true ds) (93 ∷ [])
    ∙ ap (λ l. comma_if later ++ l) (append_assoc (compact_text d) (joined true ds) (93 ∷ []) ∙ ap (λ l. compact_text d ++ l) (joined_whole true ds))

pub list_whole : (old : List ℕ) (ds : List Data) → (old ++ 91 ∷ joined false ds) ++ 93 ∷ [] ≡ old ++ compact_text (list_data ds)
list_whole old ds = append_assoc old (91 ∷ joined false ds) (93 ∷ []) ∙ ap (λ l. old ++ 91 ∷ l) (joined_whole false ds)

joined_next : (ds : List Data) (d : Data) → joined true (ds ++ d ∷ []) ≡ joined true ds ++ 44 ∷ (compact_text d ++ [])
joined_next [] d = refl
joined_next (e ∷ ds) d = ap (λ l. 44 ∷ l) (ap (λ l. compact_text e ++ l) (joined_next ds d) ∙ sym (append_assoc (compact_text e) (joined true ds) (44 ∷ (compact_text d ++ []))))

joined_last : (ds : List Data) (d : Data) (i : ℕ) → i ≡ length ds → joined false (ds ++ d ∷ []) ≡ joined false ds ++ (comma_if (nat_lt 0 i) ++ (compact_text d ++ []))
joined_last [] d i is = ap (λ n. comma_if (nat_lt 0 n) ++ (compact_text d ++ [])) (sym is)
joined_last (e ∷ ds) d i is =
    let later : 0 < i = omega arith in
    ap (λ l. compact_text e ++ l) (joined_next ds d) ∙ sym (append_assoc (compact_text e) (joined true ds) (44 ∷ (compact_text d ++ [])))
    ∙ ap (λ b. (compact_text e ++ joined true ds) ++ (comma_if b ++ (compact_text d ++ []))) (sym (lt-ltb 0 i later))

-- one more item
pub joined_more : {A : Type 0} (f : A → Data) (old : List ℕ) (xs : List A) (i : ℕ) (d : A) → i < length xs
    → ((old ++ 91 ∷ joined false (map f (take i xs))) ++ comma_if (nat_lt 0 i)) ++ compact_text (f (get_or xs i d)) ≡ old ++ 91 ∷ joined false (map f (take (i + 1) xs))
joined_more f old xs i d inside =
    let before = 91 ∷ joined false (map f (take i xs)) in
    let comma = comma_if (nat_lt 0 i) in
    let text = compact_text (f (get_or xs i d)) in
    let count : i ≡ length (map f (take i xs)) = omega (arith, length-map (take i xs) f, length-take i xs) in
    append_assoc (old ++ before) comma text ∙ append_assoc old before (comma ++ text)
    ∙ ap (λ l. old ++ 91 ∷ l) (sym (ap (joined false) (map_more f xs i d inside) ∙ joined_last (map f (take i xs)) (f (get_or xs i d)) i count ∙ ap (λ l. joined false (map f (take i xs)) ++ (comma ++ l)) (append-nil text)))
