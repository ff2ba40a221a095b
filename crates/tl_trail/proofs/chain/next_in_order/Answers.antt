use Rattle.std.proofs.Common.{◌∷◌, ap, ◌∙◌}
use Rattle.json.specs.Reads.{token_of}
use Rattle.tl_trail.specs.TrailTokens.{AreOfTrail}
use Rattle.tl_trail.proofs.ChainTokenLemmas.{begins_trail}
use Rattle.tl_trail.proofs.chain.next_in_order.Goals as goal

pub returns-in-Ok-clause-some : goal.returns-in-Ok-clause-some
returns-in-Ok-clause-some c =
    let ts = c.args.reader.now in
    let s = c.next.new.self in
    let rest = c.trail_members.new.reader in
    let begun = c.in-Some-BeginObject.ensures.value ∙ ap (λ k. token_of k ∷ s) c.in-Some-BeginObject.field-0-is in
    let got : AreOfTrail c.args.limit s c.in-Some.tree c.in-Some.raw rest = rw c.in-Some.is at c.in_ok-tree.ensures in
    begins_trail c.args.limit ts s rest c.in-Some.tree c.in-Some.raw c.in-Ok.trail begun got c.in-Ok.ensures.ok
