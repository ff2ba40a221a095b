use Rattle.std.proofs.Common.{rules, ◌≡◌, true, false, eqb, refl}
use Rattle.tl_instr.proofs.Opcodes.{opcodes, decides_one, decides_two}
use Rattle.tl_instr.proofs.reading.is_opcode.Goals as goal

pub returns-in-One : goal.returns-in-One
returns-in-One c = rw c.in-One.is (decides_one c.args.opcode c.contains.result c.contains.ensures.value)

pub returns-then-opcode-eq21 : goal.returns-then-opcode-eq21
returns-then-opcode-eq21 c =
    let is : eqb c.args.opcode 21 ≡ true = search rules in
    rw c.in-Two.is (decides_two c.args.opcode (eqb c.args.opcode 21) (rw is refl))

pub returns-else-opcode-eq21 : goal.returns-else-opcode-eq21
returns-else-opcode-eq21 c =
    let isnt : eqb c.args.opcode 21 ≡ false = search rules in
    rw c.in-Two.is (decides_two c.args.opcode c.contains-else-opcode-eq21.result (rw isnt c.contains-else-opcode-eq21.ensures.value))
