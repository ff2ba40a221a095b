use Rattle.std.proofs.Common.{◌≡◌, Some, sym, ap, ◌∙◌}
use Rattle.std.specs.Cmp.Rules.{signed_items}
use Rattle.tl_trail.specs.Trails.{call_at}
use Rattle.tl_audit.proofs.genuine.replies.Goals as goal

pub returns-in-Some : goal.returns-in-Some
returns-in-Some c =
    let told : (call_at c.args.trail.now c.args.call).reply ≡ Some c.in-Some.answered.now = sym c.in-Some.ensures.reply in
    let values = c.values.ensures.same in
    let d = signed_items c.in-Some.answered.now c.values.result.now in (
      λ t. told ∙ ap Some (d.0 (sym c.eq.ensures ∙ t) ∙ values),
      λ is.
          let both : Some c.in-Some.answered.now ≡ Some c.args.reply.now = sym told ∙ is in
          let same : c.in-Some.answered.now ≡ c.args.reply.now = cc in
          c.eq.ensures ∙ d.1 (same ∙ sym values),
    )
