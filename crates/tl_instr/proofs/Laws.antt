-- Each code has one encoding, an encoding is that of one code, and it has no fault.
use Rattle.std.proofs.Common.{◌≡◌, ℕ, zero, suc, ◌+◌, ◌-◌, ◌*◌, ◌^◌, ◌<◌, List, [], ◌∷◌, ◌++◌, length, take, drop, get_or, refl, sym, ◌∙◌, ap, subst, arith, inl, inr, length-append}
use Rattle.std.specs.List.{AllByRecursion, flat_map}
use Rattle.std.proofs.lemmas.Nat.{from_be_bytes-to_be_bytes_2}
use Rattle.std.proofs.lemmas.List.{drop_at, take_at, drop-drop}
use Rattle.std.specs.Prelude.{slice_set as set}
use Rattle.std.proofs.lemmas.List.Concat.{flat_map-cons}
use Rattle.std.proofs.lemmas.List.Elements.{recursion_from_All, All-from_recursion}
use Rattle.tl_instr.specs.declared.fault.CodeFault.{CodeFault}
use Rattle.tl_instr.specs.declared.fault.CodeFault.TheVariants.{BadMagic, BadLength, BadOpcode, BadOperand, BadCount, BadArity, NotVersion1, Memory}
use Rattle.tl_instr.specs.declared.version.Version.{Version}
use Rattle.tl_instr.specs.declared.instr.Instr.{Instr}
use Rattle.tl_instr.specs.Instructions.{IsInstr}
use Rattle.tl_instr.specs.Codes.{CodeValue, IsCode, IsArity, IsCount, migrated}
use Rattle.tl_instr.specs.Faults.{HasMagic, IsCell, IsFirstFault, version_at, count_at, cell_at}
use Rattle.tl_instr.specs.Spelling.{instr_bytes, header, spelling, Spelled}
use Rattle.tl_instr.specs.Versions.{magic, HasInstr}
use Rattle.tl_instr.specs.declared.version.Version.TheVariants.{One, Two}
use Rattle.std.specs.Int.{w16, from_be_bytes, to_be_bytes}
use Rattle.tl_instr.proofs.Bytes.{same_instr}

abbrev cells : List Instr → List ℕ
cells is = flat_map instr_bytes is

length-cells : (is : List Instr) → length (cells is) ≡ 8 * length is
length-cells [] = refl
length-cells (i ∷ is) = ap length (flat_map-cons instr_bytes i is) ∙ omega (arith, length-append (instr_bytes i) (cells is), length-cells is)

-- the cell at each position is that of the instruction there
cell_there : (v : Version) (count : ℕ) (is : List Instr) (k : ℕ) → AllByRecursion (IsInstr v count) is → k < length is → IsCell v count (take 8 (drop (8 * k) (cells is)))
cell_there v count [] k valid lt = absurd (omega arith)
cell_there v count (i ∷ is) zero valid lt =
    (i, valid.0, sym (ap (take 8) (flat_map-cons instr_bytes i is) ∙ take_at (instr_bytes i) (cells is) 8 refl))
cell_there v count (i ∷ is) (suc k) valid lt =
    let more : 8 * suc k ≡ 8 + 8 * k = omega arith in
    let rest : drop 8 (cells (i ∷ is)) ≡ cells is = ap (drop 8) (flat_map-cons instr_bytes i is) ∙ drop_at (instr_bytes i) (cells is) 8 refl in
    let moved : drop (8 * suc k) (cells (i ∷ is)) ≡ drop (8 * k) (cells is) = ap (λ (n : ℕ). drop n (cells (i ∷ is))) more ∙ sym (drop-drop (8 * k) 8 (cells (i ∷ is))) ∙ ap (drop (8 * k)) rest in
    subst (λ (l : List ℕ). IsCell v count (take 8 l)) (sym moved) (cell_there v count is k valid.1 (omega arith))

same_instrs : (v : Version) (count : ℕ) (is js : List Instr) → count < 2 ^ 16 → AllByRecursion (IsInstr v count) is → AllByRecursion (IsInstr v count) js → cells is ≡ cells js → is ≡ js
same_instrs v count [] [] lt h k e = refl
same_instrs v count [] (j ∷ js) lt h k e = absurd (omega (arith, ap length e, length-cells (j ∷ js)))
same_instrs v count (i ∷ is) [] lt h k e = absurd (omega (arith, ap length e, length-cells (i ∷ is)))
same_instrs v count (i ∷ is) (j ∷ js) lt h k e =
    let parts : instr_bytes i ++ cells is ≡ instr_bytes j ++ cells js = sym (flat_map-cons instr_bytes i is) ∙ e ∙ flat_map-cons instr_bytes j js in
    let first : instr_bytes i ≡ instr_bytes j = sym (take_at (instr_bytes i) (cells is) 8 refl) ∙ ap (take 8) parts ∙ take_at (instr_bytes j) (cells js) 8 refl in
    let rest : cells is ≡ cells js = sym (drop_at (instr_bytes i) (cells is) 8 refl) ∙ ap (drop 8) parts ∙ drop_at (instr_bytes j) (cells js) 8 refl in
    let here = same_instr v count i j lt h.0 k.0 first in
    let others = same_instrs v count is js lt h.1 k.1 rest in
    cc

-- ---- the parts of a spelling

-- for each version: the magic has four bytes, and the last of them determines the version
module _ (a n : ℕ) (rest : List ℕ) where
  count_by : (v : Version) → count_at (header v a n ++ rest) ≡ from_be_bytes w16 (to_be_bytes w16 n)
  count_by One = refl
  count_by Two = refl

  drop_by : (v : Version) → drop 8 (header v a n ++ rest) ≡ rest
  drop_by One = refl
  drop_by Two = refl

  length_by : (v : Version) → length (header v a n ++ rest) ≡ 8 + length rest
  length_by One = omega arith
  length_by Two = omega arith

  version_by : (v : Version) → version_at (header v a n ++ rest) ≡ v
  version_by One = refl
  version_by Two = refl

  arity_by : (v : Version) → get_or (header v a n ++ rest) 4 0 ≡ a
  arity_by One = refl
  arity_by Two = refl

  zero_by : (v : Version) → get_or (header v a n ++ rest) 5 0 ≡ 0
  zero_by One = refl
  zero_by Two = refl

  magic_by : (v : Version) → take 4 (header v a n ++ rest) ≡ magic v
  magic_by One = refl
  magic_by Two = refl

count_at-spelling : (c : CodeValue) → length c.instrs < 2 ^ 16 → count_at (spelling c) ≡ length c.instrs
count_at-spelling c lt = count_by c.arity (length c.instrs) (cells c.instrs) c.version ∙ from_be_bytes-to_be_bytes_2 (length c.instrs) lt

drop-spelling : (c : CodeValue) → drop 8 (spelling c) ≡ cells c.instrs
drop-spelling c = drop_by c.arity (length c.instrs) (cells c.instrs) c.version

length-spelling : (c : CodeValue) → length (spelling c) ≡ 8 + 8 * length c.instrs
length-spelling c = length_by c.arity (length c.instrs) (cells c.instrs) c.version ∙ ap (λ (k : ℕ). 8 + k) (length-cells c.instrs)

version_at-spelling : (c : CodeValue) → version_at (spelling c) ≡ c.version
version_at-spelling c = version_by c.arity (length c.instrs) (cells c.instrs) c.version

arity_at-spelling : (c : CodeValue) → get_or (spelling c) 4 0 ≡ c.arity
arity_at-spelling c = arity_by c.arity (length c.instrs) (cells c.instrs) c.version

zero_at-spelling : (c : CodeValue) → get_or (spelling c) 5 0 ≡ 0
zero_at-spelling c = zero_by c.arity (length c.instrs) (cells c.instrs) c.version

magic_at-spelling : (c : CodeValue) → HasMagic (spelling c)
magic_at-spelling c = magic_by c.arity (length c.instrs) (cells c.instrs) c.version ∙ ap magic (sym (version_at-spelling c))

small : (c : CodeValue) → IsCode c → length c.instrs < 2 ^ 16
small c valid = omega (arith, valid.count.1)

-- ---- the laws

pub same_code : (bytes : List ℕ) (c d : CodeValue) → Spelled bytes c → Spelled bytes d → c ≡ d
same_code bytes c d p q =
    let e : spelling c ≡ spelling d = sym p.same ∙ q.same in
    let version : c.version ≡ d.version = sym (version_at-spelling c) ∙ ap version_at e ∙ version_at-spelling d in
    let arity : c.arity ≡ d.arity = sym (arity_at-spelling c) ∙ ap (λ (l : List ℕ). get_or l 4 0) e ∙ arity_at-spelling d in
    let count : length c.instrs ≡ length d.instrs = sym (count_at-spelling c (small c p.valid)) ∙ ap count_at e ∙ count_at-spelling d (small d q.valid) in
    let left = recursion_from_All (IsInstr c.version (length c.instrs)) c.instrs p.valid.instrs in
    let right = recursion_from_All (IsInstr d.version (length d.instrs)) d.instrs q.valid.instrs in
    let instrs : c.instrs ≡ d.instrs = same_instrs c.version (length c.instrs) c.instrs d.instrs (small c p.valid) left (subst (λ (w : Version). AllByRecursion (IsInstr w (length c.instrs)) d.instrs) (sym version) (subst (λ (n : ℕ). AllByRecursion (IsInstr d.version n) d.instrs) (sym count) right)) (sym (drop-spelling c) ∙ ap (drop 8) e ∙ drop-spelling d) in
    let make : Version → ℕ → List Instr → CodeValue = λ w a is. record { version = w; arity = a; instrs = is } in
    let parts : make c.version c.arity c.instrs ≡ make d.version d.arity d.instrs = rw (version, arity, instrs) refl in
    parts

-- the cell at each position of an encoding is that of an instruction
has_cell : (c : CodeValue) (k : ℕ) → IsCode c → k < length c.instrs → IsCell (version_at (spelling c)) (count_at (spelling c)) (cell_at (spelling c) k)
has_cell c k valid lt =
    let there = cell_there c.version (length c.instrs) c.instrs k (recursion_from_All (IsInstr c.version (length c.instrs)) c.instrs valid.instrs) lt in
    let eight : 16 + 8 * k - (8 + 8 * k) ≡ 8 = omega arith in
    let moved : drop (8 + 8 * k) (spelling c) ≡ drop (8 * k) (cells c.instrs) = sym (drop-drop (8 * k) 8 (spelling c)) ∙ ap (drop (8 * k)) (drop-spelling c) in
    let at : cell_at (spelling c) k ≡ take 8 (drop (8 * k) (cells c.instrs)) = rw (eight, moved) refl in
    subst (λ (w : Version). IsCell w (count_at (spelling c)) (cell_at (spelling c) k)) (sym (version_at-spelling c)) (subst (λ (n : ℕ). IsCell c.version n (cell_at (spelling c) k)) (sym (count_at-spelling c (small c valid))) (subst (IsCell c.version (length c.instrs)) (sym at) there))

spelling_faultless : (c : CodeValue) (f : CodeFault) → IsCode c → IsFirstFault (spelling c) f → ⊥
spelling_faultless c BadMagic valid fault = fault (magic_at-spelling c)
spelling_faultless c BadLength valid (magic, inl short) = omega (arith, length-spelling c)
spelling_faultless c BadLength valid (magic, inr long) = long.3 (length-spelling c ∙ ap (λ (n : ℕ). 8 + 8 * n) (sym (count_at-spelling c (small c valid))))
spelling_faultless c (BadOpcode pc) valid fault = fault.0.here (has_cell c pc valid (omega (arith, fault.0.inside, count_at-spelling c (small c valid))))
spelling_faultless c (BadOperand pc) valid fault = fault.0.here (has_cell c pc valid (omega (arith, fault.0.inside, count_at-spelling c (small c valid))))
spelling_faultless c BadCount valid fault = fault.3 (subst IsCount (sym (count_at-spelling c (small c valid))) valid.count)
spelling_faultless c BadArity valid fault = fault.2 (subst IsArity (sym (arity_at-spelling c)) valid.arity, zero_at-spelling c)
spelling_faultless c NotVersion1 valid fault = fault
spelling_faultless c Memory valid fault = fault

-- an encoding of a code has no fault
pub faultless : (bytes : List ℕ) (c : CodeValue) (f : CodeFault) → Spelled bytes c → IsFirstFault bytes f → ⊥
faultless bytes c f spelled fault = spelling_faultless c f spelled.valid (subst (λ (b : List ℕ). IsFirstFault b f) spelled.same fault)

-- ---- the second version

wider_instrs : (n : ℕ) (is : List Instr) → AllByRecursion (IsInstr One n) is → AllByRecursion (IsInstr Two n) is
wider_instrs n [] h = tt
wider_instrs n (i ∷ is) h = (record { in_range = h.0.in_range; goes_within = h.0.goes_within; of_version = in_two i }, wider_instrs n is h.1)
  where
    in_two : (i : Instr) → HasInstr Two i
    in_two i = tt

-- a code of the first version is also one of the second
pub is_migrated : (c : CodeValue) → c.version ≡ One → IsCode c → IsCode (migrated c)
is_migrated c one valid = record {
  arity = valid.arity;
  count = valid.count;
  instrs = All-from_recursion (IsInstr Two (length c.instrs)) c.instrs (wider_instrs (length c.instrs) c.instrs (subst (λ (v : Version). AllByRecursion (IsInstr v (length c.instrs)) c.instrs) one (recursion_from_All (IsInstr c.version (length c.instrs)) c.instrs valid.instrs)));
}

-- the container of the same code in the second version differs in the fourth byte only
pub migrated_spelled : (bytes : List ℕ) (c : CodeValue) → c.version ≡ One → Spelled bytes c → Spelled (set bytes 3 0x32) (migrated c)
migrated_spelled bytes c one h =
    record {
      valid = is_migrated c one h.valid;
      same = ap (λ (l : List ℕ). set l 3 0x32) h.same ∙ by c.version one;
    }
  where
    by : (v : Version) → v ≡ One → set (header v c.arity (length c.instrs) ++ cells c.instrs) 3 0x32 ≡ header Two c.arity (length c.instrs) ++ cells c.instrs
    by One e = refl
    by Two e = absurd cc
