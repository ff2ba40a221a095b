use Rattle.std.proofs.Common.{◌≡◌, ◌++◌, drop}
use Rattle.std.specs.String.{string_bytes}
use Rattle.tl_asm.specs.Listing.{lines_from, listing}
use Rattle.tl_asm.proofs.listing.disassemble.Given as goal

-- the text so far, and the lines that are left
abbrev pub invariant-loop-position : goal.invariant-loop-position
invariant-loop-position l = string_bytes l.text ++ lines_from l.code.instrs l.position (drop l.position l.code.instrs) ≡ listing l.code
