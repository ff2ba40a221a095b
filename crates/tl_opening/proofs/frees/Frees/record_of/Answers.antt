use Rattle.std.proofs.Common.{◌≡◌, ◌∷◌, ◌++◌, [], sym, ap, ◌∙◌}
use Rattle.std.specs.Slice.Iter.{iter_rest}
use Rattle.std.specs.Iterator.Adapters.{rev_source}
use Rattle.tl_tree.specs.Records.{record_at}
use Rattle.tl_opening.specs.Opening.{records_left}
use Rattle.tl_opening.proofs.BehindLemmas.{record_at-found, record_at-other}
use Rattle.tl_opening.proofs.frees.Frees.record_of.Goals as goal

pub returns-then-left-node : goal.returns-then-left-node
returns-then-left-node c = λ records inside.
    let rest = iter_rest (rev_source c.next.new.self) in
    let last : iter_rest (rev_source c.loop-left.left-iterator) ≡ rest ++ c.in-Some.left.now ∷ [] = c.in-Some.ensures.steps in
    sym (c.loop-left.invariant records inside) ∙ ap (λ ls. record_at (records_left records ls) c.args.node) last
    ∙ record_at-found records rest c.in-Some.left.now c.args.node c.if-left-node.true inside

pub loop-left-preserved : goal.loop-left-preserved
loop-left-preserved c = λ records inside.
    let rest = iter_rest (rev_source c.next.new.self) in
    let last : iter_rest (rev_source c.loop-left.left-iterator) ≡ rest ++ c.in-Some.left.now ∷ [] = c.in-Some.ensures.steps in
    sym (record_at-other records rest c.in-Some.left.now c.args.node c.if-left-node.false)
    ∙ ap (λ ls. record_at (records_left records ls) c.args.node) (sym last) ∙ c.loop-left.invariant records inside
