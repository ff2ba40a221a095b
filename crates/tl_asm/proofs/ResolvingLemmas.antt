-- From labels to targets.
use Rattle.std.proofs.Common.{◌≡◌, ℕ, zero, suc, ◌+◌, ◌<◌, ◌≤◌, List, [], ◌∷◌, ◌++◌, length, take, map, get_or, Option, Some, None, Bor, refl, sym, ◌∙◌, ap, subst, arith, option_map}
use Rattle.std.specs.Prelude.{slice_get, IsSome}
use Rattle.std.specs.List.{All, AllByRecursion}
use Rattle.std.specs.Map.{lookup}
use Rattle.std.specs.Str.{bytes_eq}
use Rattle.std.proofs.lemmas.List.Elements.{All-from_recursion}
use Rattle.tl_asm.proofs.StatementLists.{known_at}
use Rattle.std.proofs.lemmas.List.{length-map, map-append, take_more, get_or-map, take_all}
use Rattle.std.proofs.lemmas.Option.{slice_get-get_or}
use Rattle.tl_instr.specs.declared.instr.Instr.{Instr}
use Rattle.tl_asm.specs.declared.sketch.Origin.{Origin}
use Rattle.tl_asm.specs.Words.{Word}
use Rattle.tl_asm.specs.Statements.{DraftValue}
use Rattle.tl_instr.specs.Instructions.{with_target}
use Rattle.tl_asm.specs.Texts.{aimed}
use Rattle.tl_asm.specs.Sketches.{known, traced, drafts_of}

pub length_drafts : (is : List Instr) (os : List (ℕ × Option Word)) → length os ≡ length is → length (drafts_of is os) ≡ length is
length_drafts [] os e = refl
length_drafts (i ∷ is) [] e = absurd (omega (arith, e))
length_drafts (i ∷ is) (o ∷ os) e = let rest = length_drafts is os (omega (arith, e)) in omega (arith, rest)

pub draft_at : (is : List Instr) (os : List (ℕ × Option Word)) (k : ℕ) (i : Instr) (o : ℕ × Option Word) (d : ℕ × DraftValue) → length os ≡ length is → k < length is → get_or (drafts_of is os) k d ≡ ((get_or os k o).0, record { instr = get_or is k i; label = (get_or os k o).1 })
draft_at [] os k i o d e lt = absurd (omega (arith, lt))
draft_at (first ∷ is) [] k i o d e lt = absurd (omega (arith, e))
draft_at (first ∷ is) (origin ∷ os) zero i o d e lt = refl
draft_at (first ∷ is) (origin ∷ os) (suc k) i o d e lt = draft_at is os k i o d (omega (arith, e)) (omega (arith, lt))

abbrev pub traced_origin : Origin → ℕ × Option Word
traced_origin origin = (origin.line, option_map (λ label. label.now) origin.label)

pub length_traced : (os : List Origin) (is : List Instr) → length os ≡ length is → length (traced os) ≡ length is
length_traced os is e = length-map os traced_origin ∙ e

module _ (is : List Instr) (os : List Origin) (k : ℕ) (i : Instr) (o : Origin) (e : length os ≡ length is) (lt : k < length is) where
  abbrev here : ℕ × DraftValue
  here = ((get_or os k o).line, record { instr = get_or is k i; label = option_map (λ label. label.now) (get_or os k o).label })

  at : get_or (drafts_of is (traced os)) k here ≡ here
  at = draft_at is (traced os) k i (traced_origin o) here (length_traced os is e) lt
      ∙ ap (λ (x : ℕ × Option Word). (x.0, record { instr = get_or is k i; label = x.1 })) (get_or-map traced_origin os k o (traced_origin o) (omega arith))

  inside : k < length (drafts_of is (traced os))
  inside = let long = length_drafts is (traced os) (length_traced os is e) in omega arith

  -- one more draft
  pub next_draft : take (k + 1) (drafts_of is (traced os)) ≡ take k (drafts_of is (traced os)) ++ here ∷ []
  next_draft = take_more (drafts_of is (traced os)) k here inside ∙ ap (λ (d : ℕ × DraftValue). take k (drafts_of is (traced os)) ++ d ∷ []) at

  pub this_draft : slice_get (drafts_of is (traced os)) k ≡ Some here
  this_draft = slice_get-get_or (drafts_of is (traced os)) k here inside ∙ ap Some at

  -- an instruction without a label
  pub plain : (labels : List (Word × ℕ)) (x : Instr) → (get_or os k o).label ≡ None → x ≡ get_or is k i → aimed labels here.1.instr here.1.label ≡ Some x
  plain labels x none same = ap (λ l. aimed labels (get_or is k i) (option_map (λ label. label.now) l)) none ∙ ap Some (sym same)

  -- an instruction whose label is defined
  pub targeted : (entries : List (Bor (List ℕ) × ℕ)) (x : Instr) (label : Bor (List ℕ)) (t : ℕ) → (get_or os k o).label ≡ Some label → Some t ≡ lookup (λ key. bytes_eq label.now key.now) entries → x ≡ with_target t (get_or is k i) → aimed (known entries) here.1.instr here.1.label ≡ Some x
  targeted entries x label t some found same =
      ap (λ l. aimed (known entries) (get_or is k i) (option_map (λ label. label.now) l)) some
      ∙ ap (option_map (λ pc. with_target pc (get_or is k i))) (known_at entries label.now ∙ sym found)
      ∙ ap Some (sym same)

  -- an instruction whose label isn't defined
  pub astray : (entries : List (Bor (List ℕ) × ℕ)) (label : Bor (List ℕ)) → (get_or os k o).label ≡ Some label → None ≡ lookup (λ key. bytes_eq label.now key.now) entries → aimed (known entries) here.1.instr here.1.label ≡ None
  astray entries label some none =
      ap (λ l. aimed (known entries) (get_or is k i) (option_map (λ label. label.now) l)) some
      ∙ ap (option_map (λ pc. with_target pc (get_or is k i))) (known_at entries label.now ∙ sym none)

  pub step : (labels : List (Word × ℕ)) (xs : List Instr) (x : Instr) → map (λ d. aimed labels d.1.instr d.1.label) (take k (drafts_of is (traced os))) ≡ map Some xs → aimed labels here.1.instr here.1.label ≡ Some x → map (λ d. aimed labels d.1.instr d.1.label) (take (k + 1) (drafts_of is (traced os))) ≡ map Some (xs ++ x ∷ [])
  step labels xs x before now =
      ap (map (λ d. aimed labels d.1.instr d.1.label)) next_draft
      ∙ map-append (λ d. aimed labels d.1.instr d.1.label) (take k (drafts_of is (traced os))) (here ∷ [])
      ∙ (λ j. before j ++ now j ∷ [])
      ∙ sym (map-append Some xs (x ∷ []))

-- drafts that resolve to instructions have defined labels
aimed_each : (labels : List (Word × ℕ)) (ds : List (ℕ × DraftValue)) (is : List Instr) → map (λ d. aimed labels d.1.instr d.1.label) ds ≡ map Some is → AllByRecursion (λ d. IsSome (aimed labels d.1.instr d.1.label)) ds
aimed_each labels [] is e = tt
aimed_each labels (d ∷ ds) [] e = absurd (cc)
aimed_each labels (d ∷ ds) (i ∷ is) e =
    let head : aimed labels d.1.instr d.1.label ≡ Some i = cc in
    let tail : map (λ d. aimed labels d.1.instr d.1.label) ds ≡ map Some is = cc in
    (subst IsSome (sym head) refl, aimed_each labels ds is tail)

pub all_aimed : (labels : List (Word × ℕ)) (ds : List (ℕ × DraftValue)) (is : List Instr) → map (λ d. aimed labels d.1.instr d.1.label) ds ≡ map Some is → All (λ d. IsSome (aimed labels d.1.instr d.1.label)) ds
all_aimed labels ds is e = All-from_recursion (λ d. IsSome (aimed labels d.1.instr d.1.label)) ds (aimed_each labels ds is e)

pub whole : (labels : List (Word × ℕ)) (is : List Instr) (os : List (ℕ × Option Word)) (k : ℕ) (xs : List Instr) → length os ≡ length is → length is ≤ k → map (λ d. aimed labels d.1.instr d.1.label) (take k (drafts_of is os)) ≡ map Some xs → map (λ d. aimed labels d.1.instr d.1.label) (drafts_of is os) ≡ map Some xs
whole labels is os k xs e le h =
    let long = length_drafts is os e in
    ap (map (λ d. aimed labels d.1.instr d.1.label)) (sym (take_all k (drafts_of is os) (omega arith))) ∙ h
