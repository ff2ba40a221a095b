use Rattle.std.proofs.Common.{rules, ◌≡◌, false, refl, sym, ap, subst}
use Rattle.tl_commands.specs.declared.fault.CliFault.TheVariants.{Trail}
use Rattle.tl_commands.specs.Faults.{status_of}
use Rattle.tl_commands.specs.NextAudit.{IsTextFault}
use Rattle.tl_commands.proofs.AuditLemmas.{chain_count}
use Rattle.tl_commands.proofs.auditing.trails_of_text.Goals as goal

pub returns-in-Ok-clause-some : goal.returns-in-Ok-clause-some
returns-in-Ok-clause-some c = (chain_count c.args.limit c.args.text.now c.in-Ok.trails.items c.in-Ok.ensures.ok).0

pub returns-in-Ok-clause-few : goal.returns-in-Ok-clause-few
returns-in-Ok-clause-few c = (chain_count c.args.limit c.args.text.now c.in-Ok.trails.items c.in-Ok.ensures.ok).1

pub returns-in-Err-read_trail-clause-fault : goal.returns-in-Err-read_trail-clause-fault
returns-in-Err-read_trail-clause-fault c = λ known.
    let f = c.in-Err-read_trail.fault in
    let other : c.args.is_list ≡ false = search rules in
    (f, refl, subst (λ b. IsTextFault c.args.limit b c.args.text.now f) (sym other) (c.in-Err-read_trail.ensures.fault (λ e. known (ap (λ f. status_of (Trail f)) e))))
