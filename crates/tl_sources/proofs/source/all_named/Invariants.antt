use Rattle.std.proofs.Common.{◌≡◌, map}
use Rattle.tl_sources.specs.Sources.{made}
use Rattle.tl_sources.proofs.source.all_named.Given as goal

abbrev pub invariant-loop-one : goal.invariant-loop-one
invariant-loop-one l = l.found.items ≡ map made l.yielded
