use Rattle.std.proofs.Common.{◌∙◌, sym}
use Rattle.std.specs.Cmp.Rules.{signed_items}
use Rattle.tl_compare.proofs.numbers.are_same.Goals as goal

pub returns : goal.returns
returns c = (
  λ same. (signed_items c.args.some.now c.args.others.now).0 (sym c.eq.ensures ∙ same),
  λ same. c.eq.ensures ∙ (signed_items c.args.some.now c.args.others.now).1 same,
)
