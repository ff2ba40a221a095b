-- The statements of lines, in two parts.
use Rattle.std.proofs.Common.{◌≡◌, ◌≢◌, ℕ, ◌+◌, List, [], ◌∷◌, ◌++◌, length, Option, Some, None, true, refl, sym, ◌∙◌, ap, arith, inl, inr, is_some, bytes_eq, cond, Bor}
use Rattle.std.specs.Map.{lookup}
use Rattle.std.proofs.lemmas.Bool.{cases_Bool, false≢true}
use Rattle.std.proofs.lemmas.Slice.Eq.{bytes_eq-Decides}
use Rattle.std.specs.List.{AllByRecursion}
use Rattle.tl_instr.specs.declared.version.Version.{Version}
use Rattle.tl_instr.specs.declared.version.Version.TheVariants.{One, Two}
use Rattle.tl_asm.specs.Words.{Word}
use Rattle.tl_asm.specs.Statements.{DraftValue, Said, Blank, Version2, Takes, Names, Does}
use Rattle.tl_asm.specs.Texts.{Follow, Starts, InPlace, Distinct, version_in, arity_in, labels_in, drafts_in, position_of}
use Rattle.tl_asm.specs.Sketches.{known}

pub same_bytes : (xs ys : List ℕ) → xs ≡ ys → bytes_eq xs ys ≡ true
same_bytes xs ys e = (bytes_eq-Decides xs ys).1 e

pub bytes_same : (xs ys : List ℕ) → bytes_eq xs ys ≡ true → xs ≡ ys
bytes_same xs ys e = (bytes_eq-Decides xs ys).0 e

-- what may follow, depending on whether the arity was given, and on the version
abbrev pub Rest : Option ℕ → Version → List (Option Said) → Type 0
Rest None One ss = InPlace ss
Rest None Two ss = Starts Two ss
Rest (Some arity) version ss = Follow version ss

pub follow_append : (v : Version) (xs ys : List (Option Said)) → Follow v xs → Follow v ys → Follow v (xs ++ ys)
follow_append v [] ys h k = k
follow_append v (None ∷ xs) ys h k = h
follow_append v (Some Blank ∷ xs) ys h k = follow_append v xs ys h k
follow_append v (Some Version2 ∷ xs) ys h k = h
follow_append v (Some (Takes arity) ∷ xs) ys h k = h
follow_append v (Some (Names label) ∷ xs) ys h k = follow_append v xs ys h k
follow_append v (Some (Does d) ∷ xs) ys h k = (h.0, follow_append v xs ys h.1 k)

pub follow_parts : (v : Version) (xs ys : List (Option Said)) → Follow v (xs ++ ys) → Follow v xs × Follow v ys
follow_parts v [] ys h = (tt, h)
follow_parts v (None ∷ xs) ys h = absurd h
follow_parts v (Some Blank ∷ xs) ys h = follow_parts v xs ys h
follow_parts v (Some Version2 ∷ xs) ys h = absurd h
follow_parts v (Some (Takes arity) ∷ xs) ys h = absurd h
follow_parts v (Some (Names label) ∷ xs) ys h = follow_parts v xs ys h
follow_parts v (Some (Does d) ∷ xs) ys h = let parts = follow_parts v xs ys h.1 in ((h.0, parts.0), parts.1)

starts_append : (xs ys : List (Option Said)) → Starts Two xs → Rest (arity_in xs) Two ys → Starts Two (xs ++ ys)
starts_append [] ys h k = k
starts_append (None ∷ xs) ys h k = h
starts_append (Some Blank ∷ xs) ys h k = starts_append xs ys h k
starts_append (Some Version2 ∷ xs) ys h k = h
starts_append (Some (Takes arity) ∷ xs) ys h k = follow_append Two xs ys h k
starts_append (Some (Names label) ∷ xs) ys h k = h
starts_append (Some (Does d) ∷ xs) ys h k = h

starts_parts : (xs ys : List (Option Said)) → Starts Two (xs ++ ys) → Starts Two xs × Rest (arity_in xs) Two ys
starts_parts [] ys h = (tt, h)
starts_parts (None ∷ xs) ys h = absurd h
starts_parts (Some Blank ∷ xs) ys h = starts_parts xs ys h
starts_parts (Some Version2 ∷ xs) ys h = absurd h
starts_parts (Some (Takes arity) ∷ xs) ys h = follow_parts Two xs ys h
starts_parts (Some (Names label) ∷ xs) ys h = absurd h
starts_parts (Some (Does d) ∷ xs) ys h = absurd h

pub in_place_append : (xs ys : List (Option Said)) → InPlace xs → Rest (arity_in xs) (version_in xs) ys → InPlace (xs ++ ys)
in_place_append [] ys h k = k
in_place_append (None ∷ xs) ys h k = h
in_place_append (Some Blank ∷ xs) ys h k = in_place_append xs ys h k
in_place_append (Some Version2 ∷ xs) ys h k = starts_append xs ys h k
in_place_append (Some (Takes arity) ∷ xs) ys h k = follow_append One xs ys h k
in_place_append (Some (Names label) ∷ xs) ys h k = h
in_place_append (Some (Does d) ∷ xs) ys h k = h

pub in_place_parts : (xs ys : List (Option Said)) → InPlace (xs ++ ys) → InPlace xs × Rest (arity_in xs) (version_in xs) ys
in_place_parts [] ys h = (tt, h)
in_place_parts (None ∷ xs) ys h = absurd h
in_place_parts (Some Blank ∷ xs) ys h = in_place_parts xs ys h
in_place_parts (Some Version2 ∷ xs) ys h = starts_parts xs ys h
in_place_parts (Some (Takes arity) ∷ xs) ys h = follow_parts One xs ys h
in_place_parts (Some (Names label) ∷ xs) ys h = absurd h
in_place_parts (Some (Does d) ∷ xs) ys h = absurd h

-- only the line that gives the version changes it
pub version_stays : (xs : List (Option Said)) (s : Option Said) (v : Version) → v ≡ version_in xs → version_in (s ∷ []) ≡ One → v ≡ version_in (xs ++ s ∷ [])
version_stays [] s v e f = e ∙ sym f
version_stays (None ∷ xs) s v e f = e
version_stays (Some Blank ∷ xs) s v e f = version_stays xs s v e f
version_stays (Some Version2 ∷ xs) s v e f = e
version_stays (Some (Takes arity) ∷ xs) s v e f = e
version_stays (Some (Names label) ∷ xs) s v e f = e
version_stays (Some (Does d) ∷ xs) s v e f = e

-- that line does so if only blank lines precede it
pub version_named : (xs : List (Option Said)) → InPlace xs → version_in xs ≡ One → arity_in xs ≡ None → version_in (xs ++ Some Version2 ∷ []) ≡ Two
version_named [] h e f = refl
version_named (None ∷ xs) h e f = absurd h
version_named (Some Blank ∷ xs) h e f = version_named xs h e f
version_named (Some Version2 ∷ xs) h e f = refl
version_named (Some (Takes arity) ∷ xs) h e f = absurd (cc f)
version_named (Some (Names label) ∷ xs) h e f = absurd h
version_named (Some (Does d) ∷ xs) h e f = absurd h

pub arity_append_some : (xs ys : List (Option Said)) (arity : ℕ) → arity_in xs ≡ Some arity → arity_in (xs ++ ys) ≡ Some arity
arity_append_some [] ys arity e = absurd (cc e)
arity_append_some (None ∷ xs) ys arity e = arity_append_some xs ys arity e
arity_append_some (Some Blank ∷ xs) ys arity e = arity_append_some xs ys arity e
arity_append_some (Some Version2 ∷ xs) ys arity e = arity_append_some xs ys arity e
arity_append_some (Some (Takes given) ∷ xs) ys arity e = e
arity_append_some (Some (Names label) ∷ xs) ys arity e = arity_append_some xs ys arity e
arity_append_some (Some (Does d) ∷ xs) ys arity e = arity_append_some xs ys arity e

pub arity_append_none : (xs ys : List (Option Said)) → arity_in xs ≡ None → arity_in (xs ++ ys) ≡ arity_in ys
arity_append_none [] ys e = refl
arity_append_none (None ∷ xs) ys e = arity_append_none xs ys e
arity_append_none (Some Blank ∷ xs) ys e = arity_append_none xs ys e
arity_append_none (Some Version2 ∷ xs) ys e = arity_append_none xs ys e
arity_append_none (Some (Takes given) ∷ xs) ys e = absurd (cc e)
arity_append_none (Some (Names label) ∷ xs) ys e = arity_append_none xs ys e
arity_append_none (Some (Does d) ∷ xs) ys e = arity_append_none xs ys e

-- the number of instructions doesn't depend on the number of the first line
pub same_count : (m n : ℕ) (xs : List (Option Said)) → length (drafts_in m xs) ≡ length (drafts_in n xs)
same_count m n [] = refl
same_count m n (None ∷ xs) = same_count (m + 1) (n + 1) xs
same_count m n (Some Blank ∷ xs) = same_count (m + 1) (n + 1) xs
same_count m n (Some Version2 ∷ xs) = same_count (m + 1) (n + 1) xs
same_count m n (Some (Takes given) ∷ xs) = same_count (m + 1) (n + 1) xs
same_count m n (Some (Names label) ∷ xs) = same_count (m + 1) (n + 1) xs
same_count m n (Some (Does d) ∷ xs) = let e = same_count (m + 1) (n + 1) xs in omega (arith, e)

pub drafts_append : (n : ℕ) (xs ys : List (Option Said)) → drafts_in n (xs ++ ys) ≡ drafts_in n xs ++ drafts_in (n + length xs) ys
drafts_append n [] ys = ap (λ (k : ℕ). drafts_in k ys) (omega arith)
drafts_append n (None ∷ xs) ys = drafts_append (n + 1) xs ys ∙ ap (λ (rest : List (ℕ × DraftValue)). drafts_in (n + 1) xs ++ rest) (ap (λ (k : ℕ). drafts_in k ys) (omega arith))
drafts_append n (Some Blank ∷ xs) ys = drafts_append (n + 1) xs ys ∙ ap (λ (rest : List (ℕ × DraftValue)). drafts_in (n + 1) xs ++ rest) (ap (λ (k : ℕ). drafts_in k ys) (omega arith))
drafts_append n (Some Version2 ∷ xs) ys = drafts_append (n + 1) xs ys ∙ ap (λ (rest : List (ℕ × DraftValue)). drafts_in (n + 1) xs ++ rest) (ap (λ (k : ℕ). drafts_in k ys) (omega arith))
drafts_append n (Some (Takes given) ∷ xs) ys = drafts_append (n + 1) xs ys ∙ ap (λ (rest : List (ℕ × DraftValue)). drafts_in (n + 1) xs ++ rest) (ap (λ (k : ℕ). drafts_in k ys) (omega arith))
drafts_append n (Some (Names label) ∷ xs) ys = drafts_append (n + 1) xs ys ∙ ap (λ (rest : List (ℕ × DraftValue)). drafts_in (n + 1) xs ++ rest) (ap (λ (k : ℕ). drafts_in k ys) (omega arith))
drafts_append n (Some (Does d) ∷ xs) ys = ap (λ (rest : List (ℕ × DraftValue)). (n, d) ∷ rest) (drafts_append (n + 1) xs ys ∙ ap (λ (rest : List (ℕ × DraftValue)). drafts_in (n + 1) xs ++ rest) (ap (λ (k : ℕ). drafts_in k ys) (omega arith)))

pub labels_append : (pc n : ℕ) (xs ys : List (Option Said)) → labels_in pc (xs ++ ys) ≡ labels_in pc xs ++ labels_in (pc + length (drafts_in n xs)) ys
labels_append pc n [] ys = ap (λ (k : ℕ). labels_in k ys) (omega arith)
labels_append pc n (None ∷ xs) ys = labels_append pc (n + 1) xs ys
labels_append pc n (Some Blank ∷ xs) ys = labels_append pc (n + 1) xs ys
labels_append pc n (Some Version2 ∷ xs) ys = labels_append pc (n + 1) xs ys
labels_append pc n (Some (Takes given) ∷ xs) ys = labels_append pc (n + 1) xs ys
labels_append pc n (Some (Names label) ∷ xs) ys = ap (λ (rest : List (Word × ℕ)). (label, pc) ∷ rest) (labels_append pc (n + 1) xs ys)
labels_append pc n (Some (Does d) ∷ xs) ys = labels_append (pc + 1) (n + 1) xs ys ∙ ap (λ (k : ℕ). labels_in (pc + 1) xs ++ labels_in k ys) (omega arith)

-- distinct labels stay distinct with one more that isn't among them
pub distinct_append : (labels : List (Word × ℕ)) (entry : Word × ℕ) → Distinct labels → AllByRecursion (λ other. other.0 ≢ entry.0) labels → Distinct (labels ++ entry ∷ [])
distinct_append [] entry h k = (tt, tt)
distinct_append (first ∷ labels) entry h k = (all_push labels (h.0) (λ e. k.0 (sym e)), distinct_append labels entry h.1 k.1)
  where
    all_push : (others : List (Word × ℕ)) → AllByRecursion (λ other. other.0 ≢ first.0) others → entry.0 ≢ first.0 → AllByRecursion (λ other. other.0 ≢ first.0) (others ++ entry ∷ [])
    all_push [] a b = (b, tt)
    all_push (other ∷ others) a b = (a.0, all_push others a.1 b)

-- a front part of distinct labels is distinct
pub distinct_front : (labels others : List (Word × ℕ)) → Distinct (labels ++ others) → Distinct labels
distinct_front [] others h = tt
distinct_front (first ∷ labels) others h = (all_front labels h.0, distinct_front labels others h.1)
  where
    all_front : (xs : List (Word × ℕ)) → AllByRecursion (λ other. other.0 ≢ first.0) (xs ++ others) → AllByRecursion (λ other. other.0 ≢ first.0) xs
    all_front [] a = tt
    all_front (x ∷ xs) a = (a.0, all_front xs a.1)

-- a label that isn't found differs from each
pub unknown : (labels : List (Word × ℕ)) (label : Word) → position_of labels label ≡ None → AllByRecursion (λ other. other.0 ≢ label) labels
unknown [] label none = tt
unknown (first ∷ labels) label none =
    elim (cases_Bool (bytes_eq label first.0)) [
      | inl here ↦ let found = rw here at none in absurd (cc found)
      | inr other ↦
          let rest = rw other at none in
          ((λ same. false≢true (sym other ∙ same_bytes label first.0 (sym same))), unknown labels label rest)
    ]

-- with a label that is found the labels aren't distinct any more
pub known_twice : (labels : List (Word × ℕ)) (label : Word) (pc : ℕ) → is_some (position_of labels label) ≡ true → ¬ Distinct (labels ++ (label, pc) ∷ [])
known_twice [] label pc found h = false≢true found
known_twice (first ∷ labels) label pc found h =
    elim (cases_Bool (bytes_eq label first.0)) [
      | inl here ↦ stands labels h.0 (bytes_same label first.0 here)
      | inr other ↦ let rest = rw other at found in known_twice labels label pc rest h.1
    ]
  where
    stands : (xs : List (Word × ℕ)) → AllByRecursion (λ other. other.0 ≢ first.0) (xs ++ (label, pc) ∷ []) → label ≡ first.0 → ⊥
    stands [] a e = a.0 e
    stands (x ∷ xs) a e = stands xs a.1 e

-- a label is looked up by its bytes
pub known_at : (entries : List (Bor (List ℕ) × ℕ)) (label : Word) → position_of (known entries) label ≡ lookup (λ k. bytes_eq label k.now) entries
known_at [] label = refl
known_at (entry ∷ entries) label = ap (cond (bytes_eq label entry.0.now) (Some entry.1)) (known_at entries label)
