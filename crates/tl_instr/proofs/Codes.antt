-- How a code is built from its instructions.
use Rattle.std.proofs.Common.{◌≡◌, ℕ, ◌+◌, ◌<◌, ◌≤◌, List, length, take, get_or, Some, sym, ap, ◌∙◌, subst, arith}
use Rattle.std.specs.List.{All}
use Rattle.std.proofs.lemmas.List.{take_all}
use Rattle.std.proofs.lemmas.Option.{slice_get-get_or}
use Rattle.std.proofs.lemmas.List.Elements.{All-more}
use Rattle.tl_instr.specs.declared.version.Version.{Version}
use Rattle.tl_instr.specs.declared.instr.Instr.{Instr}
use Rattle.tl_instr.specs.Versions.{HasInstr}
use Rattle.tl_instr.specs.Instructions.{InRange, GoesWithin, IsInstr}
use Rattle.tl_instr.specs.Codes.{IsCode, IsArity, IsFirstRefused}

-- one more instruction of the code
pub one_more : (v : Version) (count : ℕ) (instrs : List Instr) (pc : ℕ) (i : Instr) → pc < length instrs → i ≡ get_or instrs pc i → All (IsInstr v count) (take pc instrs) → InRange i → GoesWithin count i → HasInstr v i → All (IsInstr v count) (take (pc + 1) instrs)
one_more v count instrs pc i lt e before in_range goes_within of_version =
    let here : IsInstr v count i = record { in_range = in_range; goes_within = goes_within; of_version = of_version } in
    All-more (IsInstr v count) instrs pc i lt before (subst (IsInstr v count) e here)

-- when all instructions are read, they are a code
pub is_code : (v : Version) (arity count pc : ℕ) (instrs : List Instr) → IsArity arity → count ≡ length instrs → count ≤ pc → 0 < count → count ≤ 1024 → All (IsInstr v count) (take pc instrs) → IsCode (record { version = v; arity = arity; instrs = instrs })
is_code v arity count pc instrs fits e le some limit valid =
    let whole : take pc instrs ≡ instrs = take_all pc instrs (omega arith) in
    let same : All (IsInstr v (length instrs)) instrs = subst (λ (n : ℕ). All (IsInstr v n) instrs) e (subst (All (IsInstr v count)) whole valid) in
    record { arity = fits; count = (omega arith, omega arith); instrs = same }

-- if the instruction read at a position isn't valid, it is the first one refused
pub refused_here : (v : Version) (count : ℕ) (instrs : List Instr) (pc : ℕ) (i : Instr) → count ≡ length instrs → pc < count → i ≡ get_or instrs pc i → All (IsInstr v count) (take pc instrs)
    → (IsInstr v count i → ⊥) → IsFirstRefused v instrs pc i
refused_here v count instrs pc i many lt e before refused = record {
  before = subst (λ (n : ℕ). All (IsInstr v n) (take pc instrs)) many before;
  here = slice_get-get_or instrs pc i (omega arith) ∙ ap Some (sym e);
  refused = λ h. refused (subst (λ (n : ℕ). IsInstr v n i) (sym many) h);
}
