use Rattle.std.proofs.Common.{◌++◌, take, drop, ap, sym, ◌∙◌, append_assoc, take-append-drop}
use Rattle.tl_server.proofs.Held.{Adds-append}
use Rattle.tl_server.proofs.device.write_all.Goals as goal

pub loop-left-preserved : goal.loop-left-preserved
loop-left-preserved g c =
    let i = c.loop-left.invariant in let n = c.in_ok-count.count in let left = c.loop-left.left.now in
    ((i.0.0 ++ take n left, i.0.1 ∙ ap (λ ys. i.0.0 ++ ys) (sym (take-append-drop n left)) ∙ sym (append_assoc i.0.0 (take n left) (drop n left)) ∙ ap (λ ys. (i.0.0 ++ take n left) ++ ys) (sym c.split_at.ensures.back), Adds-append _ _ _ i.0.0 (take n left) i.0.2 c.in_ok-count.ensures.bytes), c.in_ok-count.ensures.fine ∙ i.1)
