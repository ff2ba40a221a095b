use Rattle.std.proofs.Common.{◌≡◌, ◌++◌, codes, map, take, get_or, sym, ap, ◌∙◌, append_assoc}
use Rattle.std.specs.List.{join_with_byte}
use Rattle.tl_server.specs.Answers.{comma_before}
use Rattle.tl_server.proofs.Lists.{join_more}
use Rattle.tl_server.proofs.Sending.{writes_then, writes_same}
use Rattle.tl_server.proofs.answer.put_list.Goals as goal

pub loop-index-preserved : goal.loop-index-preserved
loop-index-preserved g c =
    let i = c.loop-index.index in
    let items = c.args.items.now in
    let f = g.T.Part.text c.args.base in
    let item = c.index-items-index.result in
    let before = join_with_byte 44 (map f (take i items)) in
    let is : f item ≡ f (get_or items i item) = ap f c.index-items-index.is in
    writes_same (writes_then (writes_then c.loop-index.invariant c.put_comma.ensures) c.put-in-loop-index.ensures)
    (append_assoc (codes "[" ++ before) (comma_before i) (f item) ∙ append_assoc (codes "[") before (comma_before i ++ f item)
    ∙ ap (λ t. codes "[" ++ (before ++ (comma_before i ++ t))) is ∙ ap (λ t. codes "[" ++ t) (sym (join_more f items i item c.loop-index-test.true)))
