use Rattle.std.specs.Prelude.{◌≡◌, take}
use Rattle.tl_store_commands.specs.Remembering.{keyed}
use Rattle.tl_store_commands.proofs.remembering.have_no_keys.Given as goal

-- none of those so far had a key
abbrev pub invariant-loop-number : goal.invariant-loop-number
invariant-loop-number l = keyed (take l.number l.calls) ≡ 0
