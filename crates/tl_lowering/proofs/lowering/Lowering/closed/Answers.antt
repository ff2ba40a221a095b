use Rattle.std.proofs.Common.{◌≡◌, ◌++◌, ◌∷◌, [], rules, subst}
use Rattle.tl_lowering.specs.Blocks.{IsSequence}
use Rattle.tl_lowering.specs.Naming.{IsHalved}
use Rattle.tl_lowering.proofs.BlockLemmas.{closes}
use Rattle.tl_lowering.proofs.PathLemmas.{ok_more}
use Rattle.tl_lowering.proofs.lowering.Lowering.closed.Goals as goal

pub returns : goal.returns
returns c =
    let more : c.push.new.self.items ≡ c.args.opened.earlier.items ++ c.in_ok-at.field-0 ∷ [] = search rules in
    record {
      named =
          ok_more c.sequence.result _ _ c.sequence.ensures.named
          (λ s is. record { bound = c.in_ok-whole.whole; at_offset = c.in_ok-at.field-0; bound_is = c.in_ok-whole.ensures.named; placed_is = c.in_ok-at.ensures.named; joined = subst (IsHalved s) more is });
      closes =
          ok_more c.sequence.result _ _ c.sequence.ensures.sequence
          (λ s is. closes c.args.opened c.args.rest c.in_ok-whole.whole c.in_ok-at.field-0 s c.in_ok-whole.ensures.closing c.in_ok-at.ensures.same (subst (IsSequence s) more is));
    }
