use Rattle.std.proofs.Common.{◌≡◌, ◌∷◌, ◌++◌, false, map, take, string_bytes}
use Rattle.std.specs.Prelude.{All}
use Rattle.tl_json.proofs.Texts.{joined}
use Rattle.tl_json.proofs.text.push_list.Given as goal

abbrev pub invariant-loop-index : goal.invariant-loop-index
invariant-loop-index g l =
    (string_bytes l.text ≡ string_bytes l.fn.text ++ 91 ∷ joined false (map g.T.PushText.data (take l.index l.items))) × All g.T.PushText.IsFit (take l.index l.items)
