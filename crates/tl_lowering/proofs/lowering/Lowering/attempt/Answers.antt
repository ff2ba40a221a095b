use Rattle.tl_lowering.proofs.JoinLemmas.{tried_of}
use Rattle.tl_lowering.proofs.PathLemmas.{attempt_of}
use Rattle.tl_lowering.proofs.lowering.Lowering.attempt.Goals as goal

pub returns : goal.returns
returns c = record {
  named = tried_of c.in_ok-body.ensures c.in_ok-handler.ensures;
  attempt = attempt_of c.in_ok-body.body.value c.in_ok-handler.handler.value c.args.body c.args.handler c.in_ok-body.ensures c.in_ok-handler.ensures;
}
