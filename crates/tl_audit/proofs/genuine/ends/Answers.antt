use Rattle.std.proofs.Common.{◌∙◌, subst}
use Rattle.tl_machine.specs.Turns.{Stops}
use Rattle.tl_audit.proofs.ReplayLemmas.{return_next, returned_all, returned_reply}
use Rattle.tl_audit.proofs.genuine.ends.Goals as goal

pub returns-in-Return-clause-so : goal.returns-in-Return-clause-so
returns-in-Return-clause-so c t whole so_far on =
    let turn = c.wait.new.turn in
    let waits = c.wait.ensures.on t whole so_far on in
    let stops = subst (Stops turn) c.in-Return.is c.wait.ensures.stops in
    (returned_all t whole so_far turn waits stops, c.finish.ensures.reply ∙ returned_reply t whole so_far turn waits stops)

pub returns-in_default : goal.returns-in_default
returns-in_default c = record {
  so = tt;
  other = λ _ t whole so_far on is.
      c.in_default.not-Return (return_next t whole so_far c.wait.new.turn (c.wait.ensures.on t whole so_far on) c.wait.result c.wait.ensures.stops is);
}
