-- A text denotes at most one code or has at most one first fault.
use Rattle.std.proofs.Common.{◌≡◌, ◌≢◌, ℕ, ◌+◌, List, [], ◌∷◌, ◌++◌, length, take, drop, map, Option, Some, None, Result, Ok, Err, refl, sym, ◌∙◌, ap, subst, arith, inl, inr, length-append}
use Rattle.std.specs.Prelude.{IsSome, slice_get, IfOk, IfErr, MatchResult}
use Rattle.std.specs.List.{All}
use Rattle.std.proofs.lemmas.List.{length-map, take-append-drop}
use Rattle.std.proofs.lemmas.Option.{get_or_from_slice_get, slice_get_within}
use Rattle.tl_instr.specs.declared.instr.Instr.{Instr}
use Rattle.tl_instr.specs.Codes.{CodeValue}
use Rattle.tl_asm.specs.declared.fault.AsmFault.{AsmFault}
use Rattle.tl_asm.specs.declared.fault.AsmFault.TheVariants.{BadLine, NoLabel, LabelTwice, TooLong, Memory}
use Rattle.tl_asm.specs.Statements.{DraftValue, Said}
use Rattle.tl_asm.specs.Texts.{Written, Distinct, statements, aimed, labels_in, drafts_in}
use Rattle.tl_asm.specs.Faults.{Begin, IsWhole, IsFirstFaultIn, IsFirstFault}
use Rattle.tl_asm.proofs.StatementLists.{in_place_parts, distinct_front, labels_append, drafts_append}
use Rattle.tl_asm.proofs.ResolvingLemmas.{all_aimed}

-- the front part of a valid beginning of a text is a valid beginning
begin_front : (xs ys : List (Option Said)) → Begin (xs ++ ys) → Begin xs
begin_front xs ys h =
    let more : length (drafts_in 1 (xs ++ ys)) ≡ length (drafts_in 1 xs) + length (drafts_in (1 + length xs) ys) = ap length (drafts_append 1 xs ys) ∙ length-append (drafts_in 1 xs) (drafts_in (1 + length xs) ys) in
    let short = h.short in
    record {
      in_place = (in_place_parts xs ys h.in_place).0;
      distinct = distinct_front (labels_in 0 xs) (labels_in (0 + length (drafts_in 1 xs)) ys) (subst Distinct (labels_append 0 1 xs ys) h.distinct);
      short = omega arith;
    }

pub front_of : (ss : List (Option Said)) (k : ℕ) → Begin ss → Begin (take k ss)
front_of ss k h = begin_front (take k ss) (drop k ss) (subst Begin (sym (take-append-drop k ss)) h)

pub none_some : {A : Type 0} (o : Option A) → o ≡ None → IsSome o → ⊥
none_some None e h = absurd (cc)
none_some (Some x) e h = absurd (cc)

-- a complete text whose labels are all defined has no fault
no_fault : (ss : List (Option Said)) (is : List Instr) (f : AsmFault) → IsWhole ss → map (λ d. aimed (labels_in 0 ss) d.1.instr d.1.label) (drafts_in 1 ss) ≡ map Some is → ¬ IsFirstFaultIn ss f
no_fault ss is (BadLine n) whole aims (inl bad) = bad.3 (front_of ss (bad.0 + 1) whole.lines).in_place
no_fault ss is (BadLine n) whole aims (inr bad) = bad.2 whole
no_fault ss is (LabelTwice n) whole aims h = h.4 (front_of ss (h.0 + 1) whole.lines).distinct
no_fault ss is TooLong whole aims h = let short = (front_of ss (h.0 + 1) whole.lines).short in let long = h.4 in omega arith
no_fault ss is (NoLabel n) whole aims h = astray h.place h.draft h.here h.astray
  where
    each : All (λ d. IsSome (aimed (labels_in 0 ss) d.1.instr d.1.label)) (drafts_in 1 ss)
    each = all_aimed (labels_in 0 ss) (drafts_in 1 ss) is aims

    astray : (place : ℕ) (draft : DraftValue) → slice_get (drafts_in 1 ss) place ≡ Some (n, draft) → aimed (labels_in 0 ss) draft.instr draft.label ≡ None → ⊥
    astray place draft here none =
        let at = get_or_from_slice_get (drafts_in 1 ss) place (n, draft) (n, draft) here in
        let some = each place (n, draft) (slice_get_within (drafts_in 1 ss) place (n, draft) here) in
        none_some (aimed (labels_in 0 ss) draft.instr draft.label) none (subst (λ (d : ℕ × DraftValue). IsSome (aimed (labels_in 0 ss) d.1.instr d.1.label)) at some)
no_fault ss is Memory whole aims h = h

whole_of : (text : List ℕ) (c : CodeValue) → Written text c → IsWhole (statements text)
whole_of text c w =
    let many : length (drafts_in 1 (statements text)) ≡ length c.instrs = sym (length-map (drafts_in 1 (statements text)) (λ d. aimed (labels_in 0 (statements text)) d.1.instr d.1.label)) ∙ ap length w.instrs ∙ length-map c.instrs Some in
    let low = w.code.count.0 in
    let high = w.code.count.1 in
    record {
      lines = record { in_place = w.in_place; distinct = w.distinct; short = omega arith };
      arity = subst IsSome (sym w.arity) refl;
      some = omega arith;
    }

pub faultless : (text : List ℕ) (c : CodeValue) (f : AsmFault) → Written text c → ¬ IsFirstFault text f
faultless text c f w = no_fault (statements text) c.instrs f (whole_of text c w) w.instrs

same_list : (xs ys : List Instr) → map Some xs ≡ map Some ys → xs ≡ ys
same_list [] [] e = refl
same_list [] (y ∷ ys) e = absurd (cc)
same_list (x ∷ xs) [] e = absurd (cc)
same_list (x ∷ xs) (y ∷ ys) e =
    let head : x ≡ y = cc in
    let tail : map Some xs ≡ map Some ys = cc in
    (λ j. head j ∷ same_list xs ys tail j)

-- a text denotes at most one code
pub same_code : (text : List ℕ) (c d : CodeValue) → Written text c → Written text d → c ≡ d
same_code text c d v w =
    let arity : Some c.arity ≡ Some d.arity = sym v.arity ∙ w.arity in
    let one : c.arity ≡ d.arity = cc in
    let version : c.version ≡ d.version = sym v.version ∙ w.version in
    let instrs = same_list c.instrs d.instrs (sym v.instrs ∙ w.instrs) in
    (λ j. record { version = version j; arity = one j; instrs = instrs j })

-- if a text denotes a code, reading it returns that code or a lack of memory
pub only_one : (text : List ℕ) (r : Result CodeValue AsmFault) (c : CodeValue) → IfOk r (λ code. Written text code) → IfErr r (λ f. f ≢ Memory → IsFirstFault text f) → Written text c → MatchResult r (λ code. code ≡ c) (λ f. f ≡ Memory)
only_one text (Ok code) c found fault w = same_code text code c found w
only_one text (Err Memory) c found fault w = refl
only_one text (Err (BadLine n)) c found fault w = absurd (faultless text c (BadLine n) w (fault (λ e. absurd (cc))))
only_one text (Err (NoLabel n)) c found fault w = absurd (faultless text c (NoLabel n) w (fault (λ e. absurd (cc))))
only_one text (Err (LabelTwice n)) c found fault w = absurd (faultless text c (LabelTwice n) w (fault (λ e. absurd (cc))))
only_one text (Err TooLong) c found fault w = absurd (faultless text c TooLong w (fault (λ e. absurd (cc))))
