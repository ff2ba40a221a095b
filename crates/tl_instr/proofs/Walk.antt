-- Reading the instructions of a container one after another.
use Rattle.std.proofs.Common.{◌≡◌, ◌≢◌, ℕ, ◌+◌, ◌-◌, ◌*◌, ◌^◌, ◌<◌, ◌≤◌, List, [], ◌∷◌, ◌++◌, length, take, drop, refl, sym, ◌∙◌, ap, subst, arith, below_more, inl, inr, length-append}
use Rattle.std.specs.Prelude.{slice_index}
use Rattle.std.specs.List.{All, flat_map}
use Rattle.std.proofs.Math.Seq.{take-add}
use Rattle.std.proofs.lemmas.List.{drop-drop, take_all, flat_map_more, length-drop}
use Rattle.std.proofs.lemmas.List.Elements.{All-push}
use Rattle.tl_instr.specs.declared.cell.Cell.{Cell}
use Rattle.tl_instr.specs.declared.fault.CodeFault.{CodeFault}
use Rattle.tl_instr.specs.declared.fault.CodeFault.TheVariants.{BadOpcode, BadOperand}
use Rattle.tl_instr.specs.declared.version.Version.{Version}
use Rattle.tl_instr.specs.declared.instr.Instr.{Instr}
use Rattle.tl_instr.specs.Instructions.{IsInstr}
use Rattle.tl_instr.specs.Faults.{IsFramed, IsOpcode, IsCell, IsFirstBad, IsCellFault, IsFirstFault, HasLength, version_at, count_at, cell_at, opcode_at}
use Rattle.tl_instr.specs.Spelling.{cell_of, cell_bytes, instr_bytes}
use Rattle.tl_instr.proofs.Bytes.{no_cell}

-- These are the instructions at the positions below pos.
pub record Walked (bytes : List ℕ) (v : Version) (count pos : ℕ) (instrs : List Instr) : Type 0 where
  pub valid : All (IsInstr v count) instrs
  pub counted : length instrs ≡ pos
  pub spelled : take (8 * pos) (drop 8 bytes) ≡ flat_map instr_bytes instrs
  pub before : (k : ℕ) → k < pos → IsCell v count (cell_at bytes k)

pub none_walked : (bytes : List ℕ) (v : Version) (count : ℕ) → Walked bytes v count 0 []
none_walked bytes v count = record {
  valid = λ k d lt. absurd (omega arith);
  counted = refl;
  spelled = refl;
  before = λ k lt. absurd (omega arith);
}

-- the bytes up to pos + 1 are those up to pos and the cell at pos
next_bytes : (bytes : List ℕ) (pos : ℕ) → take (8 * (pos + 1)) (drop 8 bytes) ≡ take (8 * pos) (drop 8 bytes) ++ cell_at bytes pos
next_bytes bytes pos =
    let more : 8 * (pos + 1) ≡ 8 * pos + 8 = omega arith in
    let eight : 16 + 8 * pos - (8 + 8 * pos) ≡ 8 = omega arith in
    rw (more, take-add (8 * pos) 8 (drop 8 bytes), drop-drop (8 * pos) 8 bytes, eight) refl

pub one_walked : (bytes : List ℕ) (v : Version) (count pos : ℕ) (instrs : List Instr) (i : Instr) → Walked bytes v count pos instrs → IsInstr v count i → instr_bytes i ≡ cell_at bytes pos → Walked bytes v count (pos + 1) (instrs ++ i ∷ [])
one_walked bytes v count pos instrs i walked h e = record {
  valid = All-push (IsInstr v count) instrs i walked.valid h;
  counted = length-append instrs (i ∷ []) ∙ ap (λ (n : ℕ). n + 1) walked.counted;
  spelled = next_bytes bytes pos ∙ rw (walked.spelled, ← e) (flat_map_more instr_bytes [] instrs i);
  before = below_more (λ k. IsCell v count (cell_at bytes k)) pos walked.before (i, h, e);
}

pub all_walked : (bytes : List ℕ) (v : Version) (count pos : ℕ) (instrs : List Instr) → count ≤ pos → HasLength bytes → count ≡ count_at bytes → Walked bytes v count pos instrs → drop 8 bytes ≡ flat_map instr_bytes instrs
all_walked bytes v count pos instrs le size e walked =
    let long : length (drop 8 bytes) ≤ 8 * pos = omega (arith, length-drop 8 bytes, size, e) in
    sym (take_all (8 * pos) (drop 8 bytes) long) ∙ walked.spelled

-- the fault of the first bad cell is the first fault of the bytes
pub first_bad : (bytes : List ℕ) (v : Version) (count pos : ℕ) (f : CodeFault) → IsFramed bytes → v ≡ version_at bytes → count ≡ count_at bytes → pos < count → ((k : ℕ) → k < pos → IsCell v count (cell_at bytes k)) → IsCellFault bytes pos f → IsFirstFault bytes f
first_bad bytes v count pos f framed ve e lt before fault =
    let bad : IsFirstBad bytes pos = record { framed = framed; inside = omega arith; before = λ k below. subst (λ (w : Version). IsCell w (count_at bytes) (cell_at bytes k)) ve (subst (λ (n : ℕ). IsCell v n (cell_at bytes k)) e (before k below)); here = fault.0 } in
    elim fault.1 [
      | inl opcode ↦ subst (IsFirstFault bytes) (sym opcode.0) (bad, opcode.1)
      | inr operand ↦ subst (IsFirstFault bytes) (sym operand.0) (bad, operand.1)
    ]

cell_opcode : (bytes : List ℕ) (pos : ℕ) (c : Cell) → cell_bytes c ≡ cell_at bytes pos → c.opcode ≡ opcode_at bytes pos
cell_opcode bytes pos c e = ap (λ (l : List ℕ). slice_index l 0) e

-- if no instruction has the cell at pos but one has its opcode, the operand is bad
pub operand_fault : (bytes : List ℕ) (v : Version) (count pos : ℕ) (c : Cell) → v ≡ version_at bytes → count ≡ count_at bytes → count < 2 ^ 16 → c.w < 2 ^ 32 → cell_bytes c ≡ cell_at bytes pos → ((i : Instr) → IsInstr v count i → cell_of i ≢ c) → IsOpcode v c.opcode → IsCellFault bytes pos (BadOperand pos)
operand_fault bytes v count pos c ve counted lt fits e none known =
    (λ has. no_cell v count c (cell_at bytes pos) lt fits e none (subst (λ (n : ℕ). IsCell v n (cell_at bytes pos)) (sym counted) (subst (λ (w : Version). IsCell w (count_at bytes) (cell_at bytes pos)) (sym ve) has)), inr (refl, subst (IsOpcode (version_at bytes)) (cell_opcode bytes pos c e) (subst (λ (w : Version). IsOpcode w c.opcode) ve known)))

-- if no instruction has the opcode of the cell at pos, the opcode is bad
pub opcode_fault : (bytes : List ℕ) (v : Version) (count pos : ℕ) (c : Cell) → v ≡ version_at bytes → count ≡ count_at bytes → count < 2 ^ 16 → c.w < 2 ^ 32 → cell_bytes c ≡ cell_at bytes pos → ((i : Instr) → IsInstr v count i → cell_of i ≢ c) → ¬ IsOpcode v c.opcode → IsCellFault bytes pos (BadOpcode pos)
opcode_fault bytes v count pos c ve counted lt fits e none unknown =
    (λ has. no_cell v count c (cell_at bytes pos) lt fits e none (subst (λ (n : ℕ). IsCell v n (cell_at bytes pos)) (sym counted) (subst (λ (w : Version). IsCell w (count_at bytes) (cell_at bytes pos)) (sym ve) has)), inl (refl, λ known. unknown (subst (λ (w : Version). IsOpcode w c.opcode) (sym ve) (subst (IsOpcode (version_at bytes)) (sym (cell_opcode bytes pos c e)) known))))
