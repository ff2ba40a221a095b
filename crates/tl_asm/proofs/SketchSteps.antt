-- One more line of a text.
use Rattle.std.proofs.Common.{◌≡◌, ◌≢◌, ◌⊎◌, ℕ, ◌+◌, ◌<◌, ◌≤◌, List, [], ◌∷◌, ◌++◌, length, take, map, Option, Some, None, refl, sym, ◌∙◌, ap, subst, arith, inl, inr, append-nil, length-append, is_some, not, Bool, true, false, get_or, Bor}
use Rattle.std.specs.Prelude.{IfSome}
use Rattle.std.specs.List.{All}
use Rattle.std.proofs.lemmas.List.{length-map, length-take-le, map-append, take_more, get_or-map}
use Rattle.std.proofs.lemmas.List.Elements.{All-push}
use Rattle.std.proofs.lemmas.Bool.{false≢true}
use Rattle.tl_instr.specs.declared.instr.Instr.{Instr}
use Rattle.tl_instr.specs.declared.version.Version.{Version}
use Rattle.tl_instr.specs.declared.version.Version.TheVariants.{One, Two}
use Rattle.tl_instr.specs.Versions.{HasInstr}
use Rattle.tl_instr.specs.Codes.{IsArity}
use Rattle.tl_instr.specs.Instructions.{IsInstr}
use Rattle.tl_asm.specs.declared.fault.AsmFault.{AsmFault}
use Rattle.tl_asm.specs.declared.fault.AsmFault.TheVariants.{BadLine, NoLabel, LabelTwice, TooLong, Memory}
use Rattle.tl_asm.specs.Words.{Word}
use Rattle.tl_asm.specs.Statements.{DraftValue, Said, Blank, Version2, Takes, Names, Does, says}
use Rattle.tl_asm.specs.Texts.{InPlace, Distinct, version_in, arity_in, labels_in, drafts_in, position_of}
use Rattle.tl_asm.specs.Faults.{Begin, IsFirstFaultIn}
use Rattle.tl_asm.specs.Sketches.{Sketched, IsWrongLast, said_by}
use Rattle.tl_asm.proofs.StatementLists.{Rest, in_place_append, in_place_parts, arity_append_some, arity_append_none, drafts_append, labels_append, distinct_append, unknown, known_twice, version_stays, version_named}

-- a line that isn't allowed after the lines before it
pub misplaced : (ss : List (Option Said)) (s : Option Said) → ¬ Rest (arity_in ss) (version_in ss) (s ∷ []) → ¬ InPlace (ss ++ s ∷ [])
misplaced ss s bad h = bad (in_place_parts ss (s ∷ []) h).1

pub no_form : (o : Option ℕ) (v : Version) → ¬ Rest o v (None ∷ [])
no_form None One h = h
no_form None Two h = h
no_form (Some n) v h = h

pub late_version : (o : Option ℕ) (v : Version) → (is_some o ≡ true) ⊎ (v ≢ One) → ¬ Rest o v (Some Version2 ∷ [])
late_version None v (inl e) h = absurd (cc e)
late_version None One (inr e) h = e refl
late_version None Two (inr e) h = h
late_version (Some n) v e h = h

pub second_arity : (o : Option ℕ) (v : Version) (n : ℕ) → is_some o ≡ true → ¬ Rest o v (Some (Takes n) ∷ [])
second_arity None v n e h = absurd (cc)
second_arity (Some m) v n e h = h

pub early_label : (o : Option ℕ) (v : Version) (label : Word) → o ≡ None → ¬ Rest o v (Some (Names label) ∷ [])
early_label None One label e h = h
early_label None Two label e h = h
early_label (Some m) v label e h = absurd (cc)

pub early_instr : (o : Option ℕ) (v : Version) (d : DraftValue) → o ≡ None → ¬ Rest o v (Some (Does d) ∷ [])
early_instr None One d e h = h
early_instr None Two d e h = h
early_instr (Some m) v d e h = absurd (cc)

-- an instruction that the version doesn't have
pub foreign_instr : (o : Option ℕ) (v : Version) (d : DraftValue) → ¬ HasInstr v d.instr → ¬ Rest o v (Some (Does d) ∷ [])
foreign_instr None One d e h = h
foreign_instr None Two d e h = h
foreign_instr (Some m) v d e h = e h.0

blank_follows : (o : Option ℕ) (v : Version) → Rest o v (Some Blank ∷ [])
blank_follows None One = tt
blank_follows None Two = tt
blank_follows (Some n) v = tt

version_follows : (o : Option ℕ) (v : Version) → o ≡ None → v ≡ One → Rest o v (Some Version2 ∷ [])
version_follows None One e f = tt
version_follows None Two e f = absurd (cc f)
version_follows (Some m) v e f = absurd (cc e)

arity_follows : (o : Option ℕ) (v : Version) (n : ℕ) → o ≡ None → Rest o v (Some (Takes n) ∷ [])
arity_follows None One n e = tt
arity_follows None Two n e = tt
arity_follows (Some m) v n e = absurd (cc)

label_follows : (o : Option ℕ) (v : Version) (label : Word) → o ≢ None → Rest o v (Some (Names label) ∷ [])
label_follows None v label e = absurd (e refl)
label_follows (Some m) v label e = tt

instr_follows : (o : Option ℕ) (v : Version) (d : DraftValue) → o ≢ None → HasInstr v d.instr → Rest o v (Some (Does d) ∷ [])
instr_follows None v d e has = absurd (e refl)
instr_follows (Some m) v d e has = (has, tt)

-- the second version has all instructions of the first
wider : (n : ℕ) (i : Instr) → IsInstr One n i → IsInstr Two n i
wider n i h = record { in_range = h.in_range; goes_within = h.goes_within; of_version = tt }

-- the arity doesn't change if the line has none
same_arity : (xs : List (Option Said)) (s : Option Said) (o : Option ℕ) → o ≡ arity_in xs → arity_in (s ∷ []) ≡ None → o ≡ arity_in (xs ++ s ∷ [])
same_arity xs s None e f = sym (arity_append_none xs (s ∷ []) (sym e) ∙ f)
same_arity xs s (Some n) e f = sym (arity_append_some xs (s ∷ []) n (sym e))

module _ (xs : List (Option Said)) (v : Version) (given : Option ℕ) (entries : List (Word × ℕ)) (is : List Instr) (lines : List (ℕ × Option Word)) (sk : Sketched xs v given entries is lines) where
  pub count : length (drafts_in 1 xs) ≡ length is
  count = sym (ap length sk.instrs ∙ length-map (drafts_in 1 xs) (λ d. d.1.instr))

  -- a sketch after one more line
  grown : (s : Option Said) (version : Version) (new : Option ℕ) (labels : List (Word × ℕ)) (instrs : List Instr) (origins : List (ℕ × Option Word)) → Rest (arity_in xs) (version_in xs) (s ∷ []) → version ≡ version_in (xs ++ s ∷ []) → new ≡ arity_in (xs ++ s ∷ []) → IfSome new IsArity → labels ≡ labels_in 0 (xs ++ s ∷ []) → Distinct labels → instrs ≡ map (λ d. d.1.instr) (drafts_in 1 (xs ++ s ∷ [])) → length instrs ≤ 1024 → origins ≡ map (λ d. (d.0, d.1.label)) (drafts_in 1 (xs ++ s ∷ [])) → All (IsInstr version 0) instrs → Sketched (xs ++ s ∷ []) version new labels instrs origins
  grown s version new labels instrs origins rest ver a ar l distinct i short o r =
      let many : length instrs ≡ length (drafts_in 1 (xs ++ s ∷ [])) = ap length i ∙ length-map (drafts_in 1 (xs ++ s ∷ [])) (λ d. d.1.instr) in
      record {
        begin = record {
          in_place = in_place_append xs (s ∷ []) sk.begin.in_place rest;
          distinct = subst Distinct l distinct;
          short = omega arith;
        };
        version_is = ver;
        arity = a;
        arity_in_range = ar;
        labels = l;
        instrs = i;
        origins = o;
        in_range = r;
      }

  pub few : length is ≤ 1024
  few = let n = count in let short = sk.begin.short in omega arith

  pub blank_line : Sketched (xs ++ Some Blank ∷ []) v given entries is lines
  blank_line =
      let labels : labels_in 0 (xs ++ Some Blank ∷ []) ≡ labels_in 0 xs = labels_append 0 1 xs (Some Blank ∷ []) ∙ append-nil (labels_in 0 xs) in
      let drafts : drafts_in 1 (xs ++ Some Blank ∷ []) ≡ drafts_in 1 xs = drafts_append 1 xs (Some Blank ∷ []) ∙ append-nil (drafts_in 1 xs) in
      grown (Some Blank) v given entries is lines (blank_follows (arity_in xs) (version_in xs)) (version_stays xs (Some Blank) v sk.version_is refl) (same_arity xs (Some Blank) given sk.arity refl) sk.arity_in_range (sk.labels ∙ sym labels) (subst Distinct (sym sk.labels) sk.begin.distinct) (rw drafts sk.instrs) few (rw drafts sk.origins) sk.in_range

  pub arity_line : (n : ℕ) → given ≡ None → IsArity n → Sketched (xs ++ Some (Takes n) ∷ []) v (Some n) entries is lines
  arity_line n none valid =
      let before : arity_in xs ≡ None = sym sk.arity ∙ none in
      let labels : labels_in 0 (xs ++ Some (Takes n) ∷ []) ≡ labels_in 0 xs = labels_append 0 1 xs (Some (Takes n) ∷ []) ∙ append-nil (labels_in 0 xs) in
      let drafts : drafts_in 1 (xs ++ Some (Takes n) ∷ []) ≡ drafts_in 1 xs = drafts_append 1 xs (Some (Takes n) ∷ []) ∙ append-nil (drafts_in 1 xs) in
      grown (Some (Takes n)) v (Some n) entries is lines (arity_follows (arity_in xs) (version_in xs) n before) (version_stays xs (Some (Takes n)) v sk.version_is refl) (sym (arity_append_none xs (Some (Takes n) ∷ []) before)) valid (sk.labels ∙ sym labels) (subst Distinct (sym sk.labels) sk.begin.distinct) (rw drafts sk.instrs) few (rw drafts sk.origins) sk.in_range

  pub version_line : v ≡ One → given ≡ None → Sketched (xs ++ Some Version2 ∷ []) Two given entries is lines
  version_line first none =
      let before : arity_in xs ≡ None = sym sk.arity ∙ none in
      let one : version_in xs ≡ One = sym sk.version_is ∙ first in
      let labels : labels_in 0 (xs ++ Some Version2 ∷ []) ≡ labels_in 0 xs = labels_append 0 1 xs (Some Version2 ∷ []) ∙ append-nil (labels_in 0 xs) in
      let drafts : drafts_in 1 (xs ++ Some Version2 ∷ []) ≡ drafts_in 1 xs = drafts_append 1 xs (Some Version2 ∷ []) ∙ append-nil (drafts_in 1 xs) in
      let narrow : All (IsInstr One 0) is = subst (λ w. All (IsInstr w 0) is) first sk.in_range in
      grown (Some Version2) Two given entries is lines (version_follows (arity_in xs) (version_in xs) before one) (sym (version_named xs sk.begin.in_place one before)) (same_arity xs (Some Version2) given sk.arity refl) sk.arity_in_range (sk.labels ∙ sym labels) (subst Distinct (sym sk.labels) sk.begin.distinct) (rw drafts sk.instrs) few (rw drafts sk.origins) (λ k d inside. wider 0 (get_or is k d) (narrow k d inside))

  label_labels : (label : Word) → labels_in 0 (xs ++ Some (Names label) ∷ []) ≡ entries ++ (label, length is) ∷ []
  label_labels label = let none : 0 + length is ≡ length is = omega arith in labels_append 0 1 xs (Some (Names label) ∷ []) ∙ rw (count, ← sk.labels, none) refl

  pub label_line : (label : Word) → given ≢ None → position_of entries label ≡ None → Sketched (xs ++ Some (Names label) ∷ []) v given (entries ++ (label, length is) ∷ []) is lines
  label_line label some fresh =
      let drafts : drafts_in 1 (xs ++ Some (Names label) ∷ []) ≡ drafts_in 1 xs = drafts_append 1 xs (Some (Names label) ∷ []) ∙ append-nil (drafts_in 1 xs) in
      grown (Some (Names label)) v given (entries ++ (label, length is) ∷ []) is lines (label_follows (arity_in xs) (version_in xs) label (λ e. some (sk.arity ∙ e))) (version_stays xs (Some (Names label)) v sk.version_is refl) (same_arity xs (Some (Names label)) given sk.arity refl) sk.arity_in_range (sym (label_labels label)) (distinct_append entries (label, length is) (subst Distinct (sym sk.labels) sk.begin.distinct) (unknown entries label fresh)) (rw drafts sk.instrs) few (rw drafts sk.origins) sk.in_range

  pub instr_line : (d : DraftValue) → given ≢ None → length is < 1024 → IsInstr v 0 d.instr → Sketched (xs ++ Some (Does d) ∷ []) v given entries (is ++ d.instr ∷ []) (lines ++ (length xs + 1, d.label) ∷ [])
  instr_line d some lt range =
      let labels : labels_in 0 (xs ++ Some (Does d) ∷ []) ≡ labels_in 0 xs = labels_append 0 1 xs (Some (Does d) ∷ []) ∙ append-nil (labels_in 0 xs) in
      let number : 1 + length xs ≡ length xs + 1 = omega arith in
      let drafts : drafts_in 1 (xs ++ Some (Does d) ∷ []) ≡ drafts_in 1 xs ++ (length xs + 1, d) ∷ [] = drafts_append 1 xs (Some (Does d) ∷ []) ∙ ap (λ (n : ℕ). drafts_in 1 xs ++ (n, d) ∷ []) number in
      grown (Some (Does d)) v given entries (is ++ d.instr ∷ []) (lines ++ (length xs + 1, d.label) ∷ []) (instr_follows (arity_in xs) (version_in xs) d (λ e. some (sk.arity ∙ e)) (subst (λ w. HasInstr w d.instr) sk.version_is range.of_version)) (version_stays xs (Some (Does d)) v sk.version_is refl) (same_arity xs (Some (Does d)) given sk.arity refl) sk.arity_in_range (sk.labels ∙ sym labels) (subst Distinct (sym sk.labels) sk.begin.distinct)
      (sym (ap (map (λ d. d.1.instr)) drafts ∙ map-append (λ d. d.1.instr) (drafts_in 1 xs) ((length xs + 1, d) ∷ []) ∙ ap (λ (l : List Instr). l ++ d.instr ∷ []) (sym sk.instrs)))
      (omega (arith, length-append is (d.instr ∷ [])))
      (sym (ap (map (λ d. (d.0, d.1.label))) drafts ∙ map-append (λ d. (d.0, d.1.label)) (drafts_in 1 xs) ((length xs + 1, d) ∷ []) ∙ ap (λ (l : List (ℕ × Option Word)). l ++ (length xs + 1, d.label) ∷ []) (sym sk.origins)))
      (All-push (IsInstr v 0) is d.instr sk.in_range range)

  pub twice : (label : Word) → given ≢ None → is_some (position_of entries label) ≡ true → InPlace (xs ++ Some (Names label) ∷ []) × ¬ Distinct (labels_in 0 (xs ++ Some (Names label) ∷ []))
  twice label some found = (
    in_place_append xs (Some (Names label) ∷ []) sk.begin.in_place (label_follows (arity_in xs) (version_in xs) label (λ e. some (sk.arity ∙ e))),
    λ h. known_twice entries label (length is) found (subst Distinct (label_labels label) h),
  )

  pub too_long : (d : DraftValue) → given ≢ None → HasInstr v d.instr → length is ≡ 1024 → InPlace (xs ++ Some (Does d) ∷ []) × Distinct (labels_in 0 (xs ++ Some (Does d) ∷ [])) × (1024 < length (drafts_in 1 (xs ++ Some (Does d) ∷ [])))
  too_long d some has full =
      let labels : labels_in 0 (xs ++ Some (Does d) ∷ []) ≡ labels_in 0 xs = labels_append 0 1 xs (Some (Does d) ∷ []) ∙ append-nil (labels_in 0 xs) in
      let drafts : drafts_in 1 (xs ++ Some (Does d) ∷ []) ≡ drafts_in 1 xs ++ (1 + length xs, d) ∷ [] = drafts_append 1 xs (Some (Does d) ∷ []) in
      let longer = length-append (drafts_in 1 xs) ((1 + length xs, d) ∷ []) in (
        in_place_append xs (Some (Does d) ∷ []) sk.begin.in_place (instr_follows (arity_in xs) (version_in xs) d (λ e. some (sk.arity ∙ e)) (subst (λ w. HasInstr w d.instr) sk.version_is has)),
        subst Distinct (sym labels) sk.begin.distinct,
        rw (drafts, longer, count, full) (omega arith),
      )

-- a fault of line k + 1, where the lines before it are a valid beginning, is the first fault
first_wrong : (ss : List (Option Said)) (k : ℕ) (f : AsmFault) → k < length ss → Begin (take k ss) → IsWrongLast (take (k + 1) ss) f → IsFirstFaultIn ss f
first_wrong ss k (BadLine n) lt begin (e, bad) = inl (k, e ∙ length-take-le (k + 1) ss (omega arith), record { inside = lt; before = begin }, bad)
first_wrong ss k (LabelTwice n) lt begin (e, place, bad) = (k, e ∙ length-take-le (k + 1) ss (omega arith), record { inside = lt; before = begin }, place, bad)
first_wrong ss k TooLong lt begin (place, distinct, many) = (k, record { inside = lt; before = begin }, place, distinct, many)
first_wrong ss k (NoLabel n) lt begin bad = absurd bad
first_wrong ss k Memory lt begin bad = bad

pub first_fault : (ss : List (Option Said)) (k : ℕ) (s : Option Said) (f : AsmFault) → k < length ss → Begin (take k ss) → take (k + 1) ss ≡ take k ss ++ s ∷ [] → IsWrongLast (take k ss ++ s ∷ []) f → IsFirstFaultIn ss f
first_fault ss k s f lt begin here wrong = first_wrong ss k f lt begin (subst (λ (xs : List (Option Said)). IsWrongLast xs f) (sym here) wrong)

-- the statements of the lines up to this one
pub next_says : (lines : List (Bor (List ℕ))) (k : ℕ) (d : Bor (List ℕ)) (s : Option Said) → k < length lines → says (get_or lines k d).now ≡ s → take (k + 1) (said_by lines) ≡ take k (said_by lines) ++ s ∷ []
next_says lines k d s lt e =
    let more : k < length (said_by lines) = omega (arith, length-map lines (λ line. says line.now)) in
    take_more (said_by lines) k s more ∙ ap (λ (x : Option Said). take k (said_by lines) ++ x ∷ []) (get_or-map (λ line. says line.now) lines k d s lt ∙ e)

pub none_given : (o : Option ℕ) (r : Bool) → is_some o ≡ not r → r ≡ true → o ≡ None
none_given None r e f = refl
none_given (Some n) r e f = absurd (false≢true (sym (e ∙ ap not f)))

pub is_some_given : (o : Option ℕ) (r : Bool) → is_some o ≡ not r → r ≡ false → o ≢ None
is_some_given o r e f g = false≢true (ap is_some (sym g) ∙ e ∙ ap not f)

pub none_from : {A : Type 0} (o : Option A) (r : Bool) → r ≡ is_some o → r ≡ false → o ≡ None
none_from None r e f = refl
none_from (Some n) r e f = absurd (false≢true (sym f ∙ e))

-- the same sketch with equal parts
pub moved : (xs ys : List (Option Said)) (v : Version) (g h : Option ℕ) (e f : List (Word × ℕ)) (i j : List Instr) (l m : List (ℕ × Option Word)) → Sketched xs v g e i l → ys ≡ xs → h ≡ g → f ≡ e → j ≡ i → m ≡ l → Sketched ys v h f j m
moved xs ys v g h e f i j l m sk a b c d x = rw (a, b, c, d, x) sk
