use Rattle.std.proofs.Common.{◌≡◌, ◌++◌, map, take}
use Rattle.serde_json.specs.View.{view}
use Rattle.tl_json.specs.Lists.{natural}
use Rattle.tl_commands.proofs.trace.push_numbers.Given as goal

abbrev pub invariant-loop-number : goal.invariant-loop-number
invariant-loop-number l = map view l.items.items ≡ map view l.fn.items.items ++ map natural (take l.number-index l.numbers)
