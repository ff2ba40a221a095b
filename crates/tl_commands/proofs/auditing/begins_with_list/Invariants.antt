use Rattle.std.proofs.Common.{◌≡◌, drop}
use Rattle.tl_commands.specs.Audit.{begins_with_list}
use Rattle.tl_commands.proofs.auditing.begins_with_list.Given as goal

abbrev pub invariant-loop-byte : goal.invariant-loop-byte
invariant-loop-byte l = begins_with_list (drop l.byte-index l.text) ≡ begins_with_list l.text
