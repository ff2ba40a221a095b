-- From a sketch to the code, or to the fault of the whole text.
use Rattle.std.proofs.Common.{◌≡◌, ℕ, ◌+◌, ◌<◌, ◌≤◌, List, [], ◌∷◌, length, map, Option, Some, None, Bor, refl, sym, ◌∙◌, ap, subst, arith, option_map, inl, inr}
use Rattle.std.specs.Prelude.{IfSome, IsSome}
use Rattle.std.specs.List.{All, AllByRecursion}
use Rattle.std.specs.Str.{bytes_eq}
use Rattle.std.proofs.lemmas.Bool.{cases_Bool}
use Rattle.std.proofs.lemmas.List.{length-map}
use Rattle.std.proofs.lemmas.List.Elements.{All-from_recursion, recursion_from_All}
use Rattle.tl_instr.specs.declared.instr.Instr.{Instr}
use Rattle.tl_instr.specs.declared.instr.Instr.TheVariants.{Set, Copy, Add, Subtract, Multiply, Divide, Jump, JumpIfLess, JumpIfEqual, Repeat, RepeatBy, End, First, Child, Move, Release, Get, Put, Kids, Emit, Return}
use Rattle.tl_instr.specs.declared.version.Version.{Version}
use Rattle.tl_instr.specs.declared.version.Version.TheVariants.{One, Two}
use Rattle.tl_instr.specs.Versions.{HasInstr}
use Rattle.tl_instr.specs.Codes.{IsCode, IsArity}
use Rattle.tl_instr.specs.Instructions.{InRange, IsInstr, GoesWithin, target, with_target}
use Rattle.tl_asm.specs.declared.fault.AsmFault.TheVariants.{BadLine, NoLabel}
use Rattle.tl_asm.specs.Words.{Word, lines_of}
use Rattle.tl_asm.specs.Statements.{DraftValue, Said, Blank, Version2, Takes, Names, Does, says}
use Rattle.tl_asm.specs.Texts.{Written, statements, aimed, position_of, arity_in, labels_in, drafts_in}
use Rattle.tl_asm.specs.Faults.{IsWhole, IsFirstFaultIn}
use Rattle.tl_asm.specs.Sketches.{Sketched, said_by, drafts_of, IsAstray}

-- ---- targets are within the code

in_range : (pc : ℕ) (i : Instr) → InRange i → InRange (with_target pc i)
in_range pc (Set to number) h = h
in_range pc (Copy to from) h = h
in_range pc (Add to left right otherwise) h = h
in_range pc (Subtract to left right otherwise) h = h
in_range pc (Multiply to left right otherwise) h = h
in_range pc (Divide to left right otherwise) h = h
in_range pc (Jump to) h = h
in_range pc (JumpIfLess left right to) h = h
in_range pc (JumpIfEqual left right to) h = h
in_range pc (Repeat count) h = h
in_range pc (RepeatBy turns count) h = h
in_range pc End h = h
in_range pc (First to number otherwise) h = h
in_range pc (Child to parent number otherwise) h = h
in_range pc (Move to from) h = h
in_range pc (Release node) h = h
in_range pc (Get to node field) h = h
in_range pc (Put node field from) h = h
in_range pc (Kids to node) h = h
in_range pc (Emit from) h = h
in_range pc Return h = h

goes_within : (n pc : ℕ) (i : Instr) → pc ≤ n → GoesWithin n (with_target pc i)
goes_within n pc (Set to number) h = tt
goes_within n pc (Copy to from) h = tt
goes_within n pc (Add to left right otherwise) h = h
goes_within n pc (Subtract to left right otherwise) h = h
goes_within n pc (Multiply to left right otherwise) h = h
goes_within n pc (Divide to left right otherwise) h = h
goes_within n pc (Jump to) h = h
goes_within n pc (JumpIfLess left right to) h = h
goes_within n pc (JumpIfEqual left right to) h = h
goes_within n pc (Repeat count) h = tt
goes_within n pc (RepeatBy turns count) h = tt
goes_within n pc End h = tt
goes_within n pc (First to number otherwise) h = h
goes_within n pc (Child to parent number otherwise) h = h
goes_within n pc (Move to from) h = tt
goes_within n pc (Release node) h = tt
goes_within n pc (Get to node field) h = tt
goes_within n pc (Put node field from) h = tt
goes_within n pc (Kids to node) h = tt
goes_within n pc (Emit from) h = tt
goes_within n pc Return h = tt

-- changing the target doesn't affect the version
pub of_version : (v : Version) (pc : ℕ) (i : Instr) → HasInstr v i → HasInstr v (with_target pc i)
of_version Two pc i h = tt
of_version One pc (Set to number) h = h
of_version One pc (Copy to from) h = h
of_version One pc (Add to left right otherwise) h = h
of_version One pc (Subtract to left right otherwise) h = h
of_version One pc (Multiply to left right otherwise) h = h
of_version One pc (Divide to left right otherwise) h = h
of_version One pc (Jump to) h = h
of_version One pc (JumpIfLess left right to) h = h
of_version One pc (JumpIfEqual left right to) h = h
of_version One pc (Repeat count) h = h
of_version One pc (RepeatBy turns count) h = h
of_version One pc End h = h
of_version One pc (First to number otherwise) h = h
of_version One pc (Child to parent number otherwise) h = h
of_version One pc (Move to from) h = h
of_version One pc (Release node) h = h
of_version One pc (Get to node field) h = h
of_version One pc (Put node field from) h = h
of_version One pc (Kids to node) h = h
of_version One pc (Emit from) h = h
of_version One pc Return h = h

-- a label's position is at most the number of instructions
pub position_within : (pc m k : ℕ) (ss : List (Option Said)) (label : Word) (t : ℕ) → pc + length (drafts_in m ss) ≤ k → position_of (labels_in pc ss) label ≡ Some t → t ≤ k
position_within pc m k [] label t le e = absurd (cc)
position_within pc m k (None ∷ ss) label t le e = position_within pc (m + 1) k ss label t le e
position_within pc m k (Some Blank ∷ ss) label t le e = position_within pc (m + 1) k ss label t le e
position_within pc m k (Some Version2 ∷ ss) label t le e = position_within pc (m + 1) k ss label t le e
position_within pc m k (Some (Takes arity) ∷ ss) label t le e = position_within pc (m + 1) k ss label t le e
position_within pc m k (Some (Names name) ∷ ss) label t le e =
    elim (cases_Bool (bytes_eq label name)) [
      | inl here ↦ let found = rw here at e in let same : pc ≡ t = cc in omega arith
      | inr other ↦ let rest = rw other at e in position_within pc (m + 1) k ss label t le rest
    ]
position_within pc m k (Some (Does d) ∷ ss) label t le e = position_within (pc + 1) (m + 1) k ss label t (omega arith) e

within_from_none : (o : Option ℕ) (n : ℕ) → IfSome o (λ t. t ≤ 0) → IfSome o (λ t. t ≤ n)
within_from_none None n h = tt
within_from_none (Some t) n h = omega (arith, h)

module _ (ss : List (Option Said)) (v : Version) where
  is_instr : (i x : Instr) (label : Option Word) → aimed (labels_in 0 ss) i label ≡ Some x → IsInstr v 0 i → IsInstr v (length (drafts_in 1 ss)) x
  is_instr i x None e h =
      let same : i ≡ x = cc in
      subst (IsInstr v (length (drafts_in 1 ss))) same (record { in_range = h.in_range; goes_within = within_from_none (target i) (length (drafts_in 1 ss)) h.goes_within; of_version = h.of_version })
  is_instr i x (Some label) e h = at (position_of (labels_in 0 ss) label) refl
    where
      at : (o : Option ℕ) → position_of (labels_in 0 ss) label ≡ o → IsInstr v (length (drafts_in 1 ss)) x
      at None p = let wrong : None ≡ Some x = ap (option_map (λ pc. with_target pc i)) (sym p) ∙ e in absurd (cc)
      at (Some pc) p =
          let found : Some (with_target pc i) ≡ Some x = ap (option_map (λ pc. with_target pc i)) (sym p) ∙ e in
          let same : with_target pc i ≡ x = cc in
          subst (IsInstr v (length (drafts_in 1 ss))) same (record { in_range = in_range pc i h.in_range; goes_within = goes_within (length (drafts_in 1 ss)) pc i (position_within 0 1 (length (drafts_in 1 ss)) ss label pc (omega arith) p); of_version = of_version v pc i h.of_version })

  all_instrs : (ds : List (ℕ × DraftValue)) (xs : List Instr) → map (λ d. aimed (labels_in 0 ss) d.1.instr d.1.label) ds ≡ map Some xs → AllByRecursion (IsInstr v 0) (map (λ d. d.1.instr) ds) → AllByRecursion (IsInstr v (length (drafts_in 1 ss))) xs
  all_instrs [] [] e h = tt
  all_instrs [] (x ∷ xs) e h = absurd (cc)
  all_instrs (d ∷ ds) [] e h = absurd (cc)
  all_instrs (d ∷ ds) (x ∷ xs) e h =
      let head : aimed (labels_in 0 ss) d.1.instr d.1.label ≡ Some x = cc in
      let tail : map (λ d. aimed (labels_in 0 ss) d.1.instr d.1.label) ds ≡ map Some xs = cc in
      (is_instr d.1.instr x d.1.label head h.0, all_instrs ds xs tail h.1)

-- drafts consist of their instructions and origins
drafts_again : (ds : List (ℕ × DraftValue)) → drafts_of (map (λ d. d.1.instr) ds) (map (λ d. (d.0, d.1.label)) ds) ≡ ds
drafts_again [] = refl
drafts_again (d ∷ ds) = ap (λ (rest : List (ℕ × DraftValue)). d ∷ rest) (drafts_again ds)

module _ (ss : List (Option Said)) (v : Version) (given : Option ℕ) (entries : List (Word × ℕ)) (is : List Instr) (lines : List (ℕ × Option Word)) (sk : Sketched ss v given entries is lines) where
  drafts : drafts_of is lines ≡ drafts_in 1 ss
  drafts = (λ j. drafts_of (sk.instrs j) (sk.origins j)) ∙ drafts_again (drafts_in 1 ss)

  pub count : length (drafts_in 1 ss) ≡ length is
  count = sym (ap length sk.instrs ∙ length-map (drafts_in 1 ss) (λ d. d.1.instr))

  pub same_length : length lines ≡ length is
  same_length = ap length sk.origins ∙ length-map (drafts_in 1 ss) (λ d. (d.0, d.1.label)) ∙ count

  found_in : (xs : List Instr) → map (λ d. aimed entries d.1.instr d.1.label) (drafts_of is lines) ≡ map Some xs → map (λ d. aimed (labels_in 0 ss) d.1.instr d.1.label) (drafts_in 1 ss) ≡ map Some xs
  found_in xs found = (λ j. map (λ d. aimed (sym sk.labels j) d.1.instr d.1.label) (sym drafts j)) ∙ found

  pub is_code : (arity : ℕ) (xs : List Instr) → given ≡ Some arity → 0 < length is → map (λ d. aimed entries d.1.instr d.1.label) (drafts_of is lines) ≡ map Some xs → IsCode (record { version = v; arity = arity; instrs = xs })
  is_code arity xs e some found =
      let aims = found_in xs found in
      let many : length (drafts_in 1 ss) ≡ length xs = sym (length-map (drafts_in 1 ss) (λ d. aimed (labels_in 0 ss) d.1.instr d.1.label)) ∙ ap length aims ∙ length-map xs Some in
      let short = sk.begin.short in
      let n = count in
      record {
        arity = subst (λ o. IfSome o IsArity) e sk.arity_in_range;
        count = (omega arith, omega arith);
        instrs = subst (λ (k : ℕ). All (IsInstr v k) xs) many (All-from_recursion (IsInstr v (length (drafts_in 1 ss))) xs (all_instrs ss v (drafts_in 1 ss) xs aims (recursion_from_All (IsInstr v 0) (map (λ d. d.1.instr) (drafts_in 1 ss)) (subst (All (IsInstr v 0)) sk.instrs sk.in_range))));
      }

  pub is_whole : (arity : ℕ) → given ≡ Some arity → 0 < length is → IsWhole ss
  is_whole arity e some =
      let n = count in
      record { lines = sk.begin; arity = subst IsSome (sym e ∙ sk.arity) refl; some = omega arith }

  pub no_arity : given ≡ None → IsFirstFaultIn ss (BadLine (length ss))
  no_arity e = inr (refl, sk.begin, λ w. none_some (arity_in ss) (sym sk.arity ∙ e) w.arity)
    where
      none_some : (o : Option ℕ) → o ≡ None → IsSome o → ⊥
      none_some None p q = absurd (cc)
      none_some (Some n) p q = absurd (cc)

  pub no_instr : length is ≡ 0 → IsFirstFaultIn ss (BadLine (length ss))
  no_instr e = inr (refl, sk.begin, λ w. let n = count in let some = w.some in omega arith)

  pub no_label : (arity n : ℕ) → given ≡ Some arity → 0 < length is → IsAstray entries (drafts_of is lines) n → IsFirstFaultIn ss (NoLabel n)
  no_label arity n e some astray =
      let here : IsAstray (labels_in 0 ss) (drafts_in 1 ss) n = subst (λ (l : List (Word × ℕ)). IsAstray l (drafts_in 1 ss) n) sk.labels (subst (λ (ds : List (ℕ × DraftValue)). IsAstray entries ds n) drafts astray) in
      record { whole = is_whole arity e some; place = here.place; draft = here.draft; here = here.here; astray = here.astray; before = here.before }

-- the statements of the lines in memory are those of the text's lines
pub same_statements : (text : List ℕ) (lines : List (Bor (List ℕ))) → map (λ line. line.now) lines ≡ lines_of text → said_by lines ≡ statements text
same_statements text lines e = again lines ∙ ap (map says) e
  where
    again : (ls : List (Bor (List ℕ))) → map (λ line. says line.now) ls ≡ map says (map (λ line. line.now) ls)
    again [] = refl
    again (l ∷ ls) = ap (λ (rest : List (Option Said)). says l.now ∷ rest) (again ls)

pub written : (text : List ℕ) (ss : List (Option Said)) (v : Version) (entries : List (Word × ℕ)) (is : List Instr) (lines : List (ℕ × Option Word)) (arity : ℕ) (xs : List Instr) → ss ≡ statements text → Sketched ss v (Some arity) entries is lines → 0 < length is → map (λ d. aimed entries d.1.instr d.1.label) (drafts_of is lines) ≡ map Some xs → Written text (record { version = v; arity = arity; instrs = xs })
written text ss v entries is lines arity xs e sk some found =
    let at : Sketched (statements text) v (Some arity) entries is lines = subst (λ (s : List (Option Said)). Sketched s v (Some arity) entries is lines) e sk in
    record {
      code = is_code (statements text) v (Some arity) entries is lines at arity xs refl some found;
      in_place = at.begin.in_place;
      version = sym at.version_is;
      arity = sym at.arity;
      distinct = at.begin.distinct;
      instrs = found_in (statements text) v (Some arity) entries is lines at xs found;
    }
