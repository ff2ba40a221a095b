use Rattle.std.proofs.Common.{rules, sym, ◌∙◌}
use Rattle.std.proofs.lemmas.Bool.{false≢true}
use Rattle.std.proofs.lemmas.Option.{MatchOption-at_none}
use Rattle.tl_instr.proofs.Walk.{operand_fault, opcode_fault}
use Rattle.tl_instr.proofs.container.instr_at.Goals as goal

pub returns-then-is_opcode : goal.returns-then-is_opcode
returns-then-is_opcode c =
    operand_fault c.args.bytes.now c.args.version c.args.count c.args.position c.from_bytes-cell.result c.requires.version c.requires.counted (search rules) (search rules) (c.from_bytes-cell.ensures ∙ search rules) (MatchOption-at_none _ _ c.in_default.is c.instr_of.ensures) (c.is_opcode.ensures.0 c.if-is_opcode.true)

pub returns-else-is_opcode : goal.returns-else-is_opcode
returns-else-is_opcode c =
    opcode_fault c.args.bytes.now c.args.version c.args.count c.args.position c.from_bytes-cell.result c.requires.version c.requires.counted (search rules) (search rules) (c.from_bytes-cell.ensures ∙ search rules) (MatchOption-at_none _ _ c.in_default.is c.instr_of.ensures) (λ known. false≢true (sym c.if-is_opcode.false ∙ c.is_opcode.ensures.1 known))
