use Rattle.std.proofs.Common.{◌≡◌, ◌∷◌, false, map, take, string_bytes}
use Rattle.std.specs.Prelude.{All}
use Rattle.tl_json.proofs.Texts.{joined}
use Rattle.tl_trail.specs.Writing.{trail_data, IsWritable}
use Rattle.tl_trail.proofs.chain.write_chain.Given as goal

abbrev pub invariant-loop-number : goal.invariant-loop-number
invariant-loop-number l =
    (string_bytes l.text ≡ 91 ∷ joined false (map trail_data (take l.number l.trails))) × All IsWritable (take l.number l.trails)
