-- Worked examples of the definitions.
use Rattle.std.proofs.Common.{◌≡◌, ◌++◌, List, ℕ, [], ◌∷◌, refl, Some, None, negsuc}
use Rattle.tl_instr.specs.declared.fault.CodeFault.TheVariants.{BadOperand}
use Rattle.tl_instr.specs.declared.instr.Instr.TheVariants.{Set, Add, First, Release, Get, Put, Emit, Return}
use Rattle.tl_instr.specs.declared.version.Version.TheVariants.{One}
use Rattle.tl_instr.specs.Codes.{CodeValue}
use Rattle.tl_instr.specs.Faults.{numbers_of, count_at, cell_at, opcode_at}
use Rattle.tl_instr.specs.Instructions.{target}
use Rattle.tl_instr.specs.Reading.{instr_in, add_in}
use Rattle.tl_instr.specs.Spelling.{cell, instr_bytes, spelling}

-- first n0 v0 else 6; get v2 n0 0; add v2 v2 v1 else 4; put n0 0 v2; emit v2; rel n0; ret
abbrev add_code : CodeValue
add_code = record { version = One; arity = 2; instrs = First 0 0 6 ∷ Get 2 0 0 ∷ Add 2 2 1 4 ∷ Put 0 0 2 ∷ Emit 2 ∷ Release 0 ∷ Return ∷ [] }

abbrev add_bytes : List ℕ
add_bytes =
    (0x54 ∷ 0x4C ∷ 0x50 ∷ 0x31 ∷ 0x02 ∷ 0x00 ∷ 0x00 ∷ 0x07 ∷ [])
    ++ (0x0C ∷ 0x00 ∷ 0x00 ∷ 0x00 ∷ 0x00 ∷ 0x00 ∷ 0x00 ∷ 0x06 ∷ [])
    ++ (0x10 ∷ 0x02 ∷ 0x00 ∷ 0x00 ∷ 0x00 ∷ 0x00 ∷ 0x00 ∷ 0x00 ∷ [])
    ++ (0x03 ∷ 0x02 ∷ 0x02 ∷ 0x01 ∷ 0x00 ∷ 0x00 ∷ 0x00 ∷ 0x04 ∷ [])
    ++ (0x11 ∷ 0x00 ∷ 0x00 ∷ 0x02 ∷ 0x00 ∷ 0x00 ∷ 0x00 ∷ 0x00 ∷ [])
    ++ (0x13 ∷ 0x02 ∷ 0x00 ∷ 0x00 ∷ 0x00 ∷ 0x00 ∷ 0x00 ∷ 0x00 ∷ [])
    ++ (0x0F ∷ 0x00 ∷ 0x00 ∷ 0x00 ∷ 0x00 ∷ 0x00 ∷ 0x00 ∷ 0x00 ∷ [])
    ++ (0x14 ∷ 0x00 ∷ 0x00 ∷ 0x00 ∷ 0x00 ∷ 0x00 ∷ 0x00 ∷ 0x00 ∷ [])

add_is_spelled : spelling add_code ≡ add_bytes
add_is_spelled = refl

add_counts : count_at add_bytes ≡ 7
add_counts = refl

-- the third instruction
add_cell : cell_at add_bytes 2 ≡ instr_bytes (Add 2 2 1 4)
add_cell = refl

add_opcode : opcode_at add_bytes 4 ≡ 19
add_opcode = refl

add_named : instr_in (cell 3 2 2 1 4) ≡ Some (Add 2 2 1 4)
unfolding instr_in add_in
add_named = refl

out_of_range : instr_in (cell 3 16 2 1 4) ≡ None
unfolding instr_in add_in
out_of_range = refl

no_such_opcode : instr_in (cell 22 0 0 0 0) ≡ None
unfolding instr_in
no_such_opcode = refl

-- set v3 -2
set_bytes : instr_bytes (Set 3 (negsuc 1)) ≡ 0x01 ∷ 0x03 ∷ 0x00 ∷ 0x00 ∷ 0xFF ∷ 0xFF ∷ 0xFF ∷ 0xFE ∷ []
set_bytes = refl

targets : target (Add 2 2 1 4) ≡ Some 4
targets = refl

no_target : target (Emit 2) ≡ None
no_target = refl

numbers : numbers_of (BadOperand 6) ≡ 204 ∷ 6 ∷ []
numbers = refl
