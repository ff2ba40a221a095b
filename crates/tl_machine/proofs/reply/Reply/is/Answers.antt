use Rattle.std.proofs.Common.{sym, ◌∙◌}
use Rattle.std.specs.Cmp.Rules.{signed_items}
use Rattle.tl_machine.proofs.reply.Reply.is.Goals as goal

pub returns : goal.returns
returns c = let d = signed_items c.args.self.now c.args.other.now in (λ e. d.0 (sym c.eq.ensures ∙ e), λ e. c.eq.ensures ∙ d.1 e)
