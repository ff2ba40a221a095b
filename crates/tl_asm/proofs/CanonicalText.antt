-- The canonical text denotes its code.
use Rattle.std.proofs.Common.{◌≡◌, ◌≢◌, ℕ, ◌+◌, ◌<◌, ◌≤◌, ◌^◌, List, [], ◌∷◌, ◌++◌, length, map, refl, sym, ◌∙◌, ap, subst, arith, append_assoc, Bool, true, false, ◌==◌, ◌||◌, Option, Some, None, option_map, inl, inr}
use Rattle.std.specs.Prelude.{IfSome}
use Rattle.std.specs.Option.{option_map_or}
use Rattle.std.specs.List.{AllByRecursion}
use Rattle.std.specs.Fmt.{decimal}
use Rattle.std.specs.Str.{bytes_eq}
use lib.Chars.{codes}
use Rattle.std.proofs.lemmas.Bool.{eq-eqb, cases_Bool, cases_eq, false≢true}
use Rattle.std.proofs.lemmas.Fmt.{decimal_injective}
use Rattle.std.proofs.lemmas.List.Elements.{recursion_from_All}
use Rattle.tl_instr.specs.declared.instr.Instr.{Instr}
use Rattle.tl_instr.specs.declared.instr.Instr.TheVariants.{Set, Copy, Add, Subtract, Multiply, Divide, Jump, JumpIfLess, JumpIfEqual, Repeat, RepeatBy, End, First, Child, Move, Release, Get, Put, Kids, Emit, Return}
use Rattle.tl_instr.specs.declared.version.Version.{Version}
use Rattle.tl_instr.specs.declared.version.Version.TheVariants.{One, Two}
use Rattle.tl_instr.specs.Codes.{CodeValue, IsCode}
use Rattle.tl_instr.specs.Instructions.{IsInstr, target, with_target}
use Rattle.tl_asm.specs.Words.{Word}
use Rattle.tl_asm.specs.Statements.{DraftValue, Said, Blank, Version2, Takes, Does}
use Rattle.tl_asm.specs.Texts.{Written, Follow, InPlace, Distinct, statements, version_in, arity_in, aimed, position_of, labels_in, drafts_in}
use Rattle.tl_asm.specs.Listing.{line_of, label_word, is_target, lines_from, header_lines, listing}
use Rattle.tl_asm.proofs.StatementLists.{same_bytes, bytes_same}
use Rattle.tl_asm.proofs.SketchToCode.{of_version}
use Rattle.tl_asm.proofs.SpacedWords.{line_says}
use Rattle.tl_asm.proofs.TokenSpelling.{drafted, arity_again, version_again, either_true}
use Rattle.tl_asm.proofs.ListingLemmas.{marked, said_from, lines_say, Fits, number_word, clean_if}

-- ---- labels

other_label : (p q : ℕ) → p < 2 ^ 64 → q < 2 ^ 64 → p ≢ q → label_word p ≢ label_word q
other_label p q small low different e =
    let digits : decimal p ≡ decimal q = cc in
    different (decimal_injective p q small low digits)

follow_marked : (v : Version) (b : Bool) (pc : ℕ) (rest : List (Option Said)) → Follow v rest → Follow v (marked b pc ++ rest)
follow_marked v true pc rest h = h
follow_marked v false pc rest h = h

fresh_marked : (b : Bool) (p pc : ℕ) (rest : List (Option Said)) → label_word pc ≢ label_word p → AllByRecursion (λ other. other.0 ≢ label_word p) (labels_in pc rest) → AllByRecursion (λ other. other.0 ≢ label_word p) (labels_in pc (marked b pc ++ rest))
fresh_marked true p pc rest ne h = (ne, h)
fresh_marked false p pc rest ne h = h

distinct_marked : (b : Bool) (pc : ℕ) (rest : List (Option Said)) → AllByRecursion (λ other. other.0 ≢ label_word pc) (labels_in pc rest) → Distinct (labels_in pc rest) → Distinct (labels_in pc (marked b pc ++ rest))
distinct_marked true pc rest a d = (a, d)
distinct_marked false pc rest a d = d

different_bytes : (xs ys : List ℕ) → xs ≢ ys → bytes_eq xs ys ≡ false
different_bytes xs ys ne = elim (cases_Bool (bytes_eq xs ys)) [
  | inl same ↦ absurd (ne (bytes_same xs ys same))
  | inr other ↦ other
]

past_marked : (b : Bool) (t pc : ℕ) (rest : List (Option Said)) → label_word t ≢ label_word pc → position_of (labels_in pc (marked b pc ++ rest)) (label_word t) ≡ position_of (labels_in pc rest) (label_word t)
past_marked true t pc rest ne = rw (different_bytes (label_word t) (label_word pc) ne) refl
past_marked false t pc rest ne = refl

at_marked : (b : Bool) (pc : ℕ) (rest : List (Option Said)) → b ≡ true → position_of (labels_in pc (marked b pc ++ rest)) (label_word pc) ≡ Some pc
at_marked true pc rest e = rw (same_bytes (label_word pc) (label_word pc) refl) refl
at_marked false pc rest e = absurd (false≢true e)

drafts_marked : {A : Type 0} (g : ℕ × DraftValue → A) (b : Bool) (n pc : ℕ) (rest : List (Option Said)) (xs : List A) → ((m : ℕ) → map g (drafts_in m rest) ≡ xs) → map g (drafts_in n (marked b pc ++ rest)) ≡ xs
drafts_marked g true n pc rest xs h = h (n + 1)
drafts_marked g false n pc rest xs h = h n

module _ (f : ℕ → Bool) where
  follow : (v : Version) (n pc : ℕ) (is : List Instr) → AllByRecursion (IsInstr v n) is → Follow v (said_from f pc is)
  unfolding said_from
  follow v n pc [] h = follow_marked v (f pc) pc (Some Blank ∷ []) tt
  follow v n pc (i ∷ is) h = follow_marked v (f pc) pc (Some (Does (drafted i)) ∷ said_from f (pc + 1) is) (of_version v 0 i h.0.of_version, follow v n (pc + 1) is h.1)

  fresh : (p pc : ℕ) (is : List Instr) → p < pc → pc + length is ≤ 1024 → AllByRecursion (λ other. other.0 ≢ label_word p) (labels_in pc (said_from f pc is))
  unfolding said_from
  fresh p pc [] lt le = fresh_marked (f pc) p pc (Some Blank ∷ []) (other_label pc p (omega arith) (omega arith) (λ e. omega (arith, e))) tt
  fresh p pc (i ∷ is) lt le = fresh_marked (f pc) p pc (Some (Does (drafted i)) ∷ said_from f (pc + 1) is) (other_label pc p (omega arith) (omega arith) (λ e. omega (arith, e))) (fresh p (pc + 1) is (omega arith) (omega arith))

  distinct : (pc : ℕ) (is : List Instr) → pc + length is ≤ 1024 → Distinct (labels_in pc (said_from f pc is))
  unfolding said_from
  distinct pc [] le = distinct_marked (f pc) pc (Some Blank ∷ []) tt tt
  distinct pc (i ∷ is) le = distinct_marked (f pc) pc (Some (Does (drafted i)) ∷ said_from f (pc + 1) is) (fresh pc (pc + 1) is (omega arith) (omega arith)) (distinct (pc + 1) is (omega arith))

  -- the label of each target is defined at that target
  found : (t pc : ℕ) (is : List Instr) → pc ≤ t → t ≤ pc + length is → pc + length is ≤ 1024 → f t ≡ true → position_of (labels_in pc (said_from f pc is)) (label_word t) ≡ Some t
  unfolding said_from
  found t pc [] low high le e =
      let same : t ≡ pc = omega arith in
      subst (λ (n : ℕ). position_of (labels_in pc (said_from f pc [])) (label_word n) ≡ Some n) (sym same) (at_marked (f pc) pc (Some Blank ∷ []) (ap f (sym same) ∙ e))
  found t pc (i ∷ is) low high le e =
      elim (cases_eq t pc) [
        | inl same ↦ subst (λ (n : ℕ). position_of (labels_in pc (said_from f pc (i ∷ is))) (label_word n) ≡ Some n) (sym same) (at_marked (f pc) pc (Some (Does (drafted i)) ∷ said_from f (pc + 1) is) (ap f (sym same) ∙ e))
        | inr other ↦
            past_marked (f pc) t pc (Some (Does (drafted i)) ∷ said_from f (pc + 1) is) (other_label t pc (omega arith) (omega arith) other)
            ∙ found t (pc + 1) is (omega (arith, other)) (omega arith) (omega arith) e
      ]

  -- instructions whose labels are defined are resolved to themselves
  aims : (labels : List (Word × ℕ)) (n pc : ℕ) (is : List Instr) → AllByRecursion (λ i. aimed labels (with_target 0 i) (option_map label_word (target i)) ≡ Some i) is → map (λ d. aimed labels d.1.instr d.1.label) (drafts_in n (said_from f pc is)) ≡ map Some is
  unfolding said_from
  aims labels n pc [] h = drafts_marked (λ d. aimed labels d.1.instr d.1.label) (f pc) n pc (Some Blank ∷ []) [] (λ m. refl)
  aims labels n pc (i ∷ is) h = drafts_marked (λ d. aimed labels d.1.instr d.1.label) (f pc) n pc (Some (Does (drafted i)) ∷ said_from f (pc + 1) is) (map Some (i ∷ is)) (λ m. (λ j. h.0 j ∷ aims labels (m + 1) (pc + 1) is h.1 j))

-- ---- targets

aimed_again : (labels : List (Word × ℕ)) (i : Instr) → IfSome (target i) (λ t. position_of labels (label_word t) ≡ Some t) → aimed labels (with_target 0 i) (option_map label_word (target i)) ≡ Some i
aimed_again labels (Set to number) h = refl
aimed_again labels (Copy to from) h = refl
aimed_again labels (Add to left right otherwise) h = ap (option_map (λ pc. Add to left right pc)) h
aimed_again labels (Subtract to left right otherwise) h = ap (option_map (λ pc. Subtract to left right pc)) h
aimed_again labels (Multiply to left right otherwise) h = ap (option_map (λ pc. Multiply to left right pc)) h
aimed_again labels (Divide to left right otherwise) h = ap (option_map (λ pc. Divide to left right pc)) h
aimed_again labels (Jump to) h = ap (option_map (λ pc. Jump pc)) h
aimed_again labels (JumpIfLess left right to) h = ap (option_map (λ pc. JumpIfLess left right pc)) h
aimed_again labels (JumpIfEqual left right to) h = ap (option_map (λ pc. JumpIfEqual left right pc)) h
aimed_again labels (Repeat count) h = refl
aimed_again labels (RepeatBy turns count) h = refl
aimed_again labels End h = refl
aimed_again labels (First to number otherwise) h = ap (option_map (λ pc. First to number pc)) h
aimed_again labels (Child to parent number otherwise) h = ap (option_map (λ pc. Child to parent number pc)) h
aimed_again labels (Move to from) h = refl
aimed_again labels (Release node) h = refl
aimed_again labels (Get to node field) h = refl
aimed_again labels (Put node field from) h = refl
aimed_again labels (Kids to node) h = refl
aimed_again labels (Emit from) h = refl
aimed_again labels Return h = refl

goes_to : ℕ → Instr → Bool
goes_to t i = option_map_or (λ u. u == t) (target i) false

-- an instruction's target is one of the code's targets
here_is : (o : Option ℕ) (others : ℕ → Bool) → IfSome o (λ t. (option_map_or (λ u. u == t) o false || others t) ≡ true)
here_is None others = tt
here_is (Some t) others = rw (eq-eqb t t refl) refl

if_more : (o : Option ℕ) (p q : ℕ → Bool) → IfSome o (λ t. q t ≡ true) → IfSome o (λ t. (p t || q t) ≡ true)
if_more None p q h = tt
if_more (Some t) p q h = either_true (p t) (q t) h

weaken : (first : Instr) (all is : List Instr) → AllByRecursion (λ i. IfSome (target i) (λ t. is_target all t ≡ true)) is → AllByRecursion (λ i. IfSome (target i) (λ t. is_target (first ∷ all) t ≡ true)) is
weaken first all [] h = tt
weaken first all (i ∷ is) h = (if_more (target i) (λ t. option_map_or (λ u. u == t) (target first) false) (is_target all) h.0, weaken first all is h.1)

targets : (is : List Instr) → AllByRecursion (λ i. IfSome (target i) (λ t. is_target is t ≡ true)) is
targets [] = tt
targets (i ∷ is) = (here_is (target i) (is_target is), weaken i is is (targets is))

known_target : (o : Option ℕ) (n : ℕ) (f : ℕ → Bool) (labels : List (Word × ℕ)) → IfSome o (λ t. f t ≡ true) → IfSome o (λ t. t ≤ n) → ((t : ℕ) → t ≤ n → f t ≡ true → position_of labels (label_word t) ≡ Some t) → IfSome o (λ t. position_of labels (label_word t) ≡ Some t)
known_target None n f labels h k find = tt
known_target (Some t) n f labels h k find = find t k h

all_aimed : (v : Version) (n : ℕ) (f : ℕ → Bool) (labels : List (Word × ℕ)) (is : List Instr) → ((t : ℕ) → t ≤ n → f t ≡ true → position_of labels (label_word t) ≡ Some t) → AllByRecursion (λ i. IfSome (target i) (λ t. f t ≡ true)) is → AllByRecursion (IsInstr v n) is → AllByRecursion (λ i. aimed labels (with_target 0 i) (option_map label_word (target i)) ≡ Some i) is
all_aimed v n f labels [] find h k = tt
all_aimed v n f labels (i ∷ is) find h k = (aimed_again labels i (known_target (target i) n f labels h.0 k.0.goes_within find), all_aimed v n f labels is find h.1 k.1)

at_most : (o : Option ℕ) (n : ℕ) → n ≤ 1024 → IfSome o (λ t. t ≤ n) → IfSome o (λ t. t ≤ 1024)
at_most None n le h = tt
at_most (Some t) n le h = omega arith

all_fit : (v : Version) (n : ℕ) (is : List Instr) → n ≤ 1024 → AllByRecursion (IsInstr v n) is → AllByRecursion Fits is
all_fit v n [] le h = tt
all_fit v n (i ∷ is) le h = ((h.0.in_range, at_most (target i) n le h.0.goes_within), all_fit v n is le h.1)

-- ---- the header

-- the statements of the header's lines, followed by further ones
abbrev headed : Version → ℕ → List (Option Said) → List (Option Said)
headed One arity ss = Some (Takes arity) ∷ ss
headed Two arity ss = Some Version2 ∷ Some (Takes arity) ∷ ss

module _ (arity : ℕ) (few : arity ≤ 8) where
  arity_says : (rest : List ℕ) → statements (line_of (codes "arity" ∷ decimal arity ∷ []) ++ rest) ≡ Some (Takes arity) ∷ statements rest
  arity_says rest =
      line_says (codes "arity" ∷ decimal arity ∷ []) rest (clean_if (codes "arity") refl, (number_word arity (omega arith), tt))
      ∙ ap (λ s. s ∷ statements rest) (arity_again arity few)

  header_says : (v : Version) (rest : List ℕ) → statements (header_lines v arity ++ rest) ≡ headed v arity (statements rest)
  header_says One rest = arity_says rest
  header_says Two rest =
      let second = line_of (codes "arity" ∷ decimal arity ∷ []) in
      ap statements (append_assoc (line_of (codes "version" ∷ codes "2" ∷ [])) second rest)
      ∙ line_says (codes "version" ∷ codes "2" ∷ []) (second ++ rest) (clean_if (codes "version") refl, (clean_if (codes "2") refl, tt))
      ∙ ap (λ s. s ∷ statements (second ++ rest)) version_again
      ∙ ap (λ ss. Some Version2 ∷ ss) (arity_says rest)

module _ (arity : ℕ) (ss : List (Option Said)) where
  headed_in_place : (v : Version) → Follow v ss → InPlace (headed v arity ss)
  headed_in_place One h = h
  headed_in_place Two h = h

  headed_version : (v : Version) → version_in (headed v arity ss) ≡ v
  headed_version One = refl
  headed_version Two = refl

  headed_arity : (v : Version) → arity_in (headed v arity ss) ≡ Some arity
  headed_arity One = refl
  headed_arity Two = refl

  headed_labels : (v : Version) → labels_in 0 (headed v arity ss) ≡ labels_in 0 ss
  headed_labels One = refl
  headed_labels Two = refl

  headed_drafts : {A : Type 0} (g : ℕ × DraftValue → A) (xs : List A) (v : Version) → ((n : ℕ) → map g (drafts_in n ss) ≡ xs) → map g (drafts_in 1 (headed v arity ss)) ≡ xs
  headed_drafts g xs One h = h 2
  headed_drafts g xs Two h = h 3

-- the canonical text denotes its code
pub canonical : (c : CodeValue) → IsCode c → Written (listing c) c
canonical c code =
    let is = c.instrs in
    let v = c.version in
    let f = is_target c.instrs in
    let most = code.count.1 in
    let valid : AllByRecursion (IsInstr c.version (length c.instrs)) c.instrs = recursion_from_All (IsInstr c.version (length c.instrs)) c.instrs code.instrs in
    let ss = said_from (is_target c.instrs) 0 c.instrs in
    let says : statements (listing c) ≡ headed c.version c.arity (said_from (is_target c.instrs) 0 c.instrs) =
    header_says c.arity code.arity c.version (lines_from c.instrs 0 c.instrs)
    ∙ ap (headed c.version c.arity) (lines_say c.instrs 0 c.instrs (all_fit v (length c.instrs) c.instrs most valid) (omega arith)) in
    let labels = labels_in 0 (said_from (is_target c.instrs) 0 c.instrs) in
    let each : AllByRecursion (λ i. aimed labels (with_target 0 i) (option_map label_word (target i)) ≡ Some i) c.instrs = all_aimed v (length c.instrs) f labels c.instrs (λ t le e. found f t 0 c.instrs (omega arith) (omega arith) (omega arith) e) (targets c.instrs) valid in
    let known : labels_in 0 (headed c.version c.arity (said_from (is_target c.instrs) 0 c.instrs)) ≡ labels = headed_labels c.arity ss v in
    record {
      code = code;
      in_place = rw says (headed_in_place c.arity ss v (follow f v (length c.instrs) 0 c.instrs valid));
      version = rw says (headed_version c.arity ss v);
      arity = rw says (headed_arity c.arity ss v);
      distinct = rw (says, known) (distinct f 0 c.instrs (omega arith));
      instrs = rw (says, known) (headed_drafts c.arity ss (λ d. aimed labels d.1.instr d.1.label) (map Some c.instrs) v (λ n. aims f labels n 0 c.instrs each));
    }
