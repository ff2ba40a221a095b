use Rattle.tl_lowering.proofs.JoinLemmas.{then_of}
use Rattle.tl_lowering.proofs.PathLemmas.{pair_of}
use Rattle.tl_lowering.proofs.lowering.Lowering.then.Goals as goal

pub returns : goal.returns
returns c = record {
  named = then_of c.in_ok-first.ensures c.in_ok-second.ensures;
  pair = pair_of c.in_ok-first.first.value c.in_ok-second.second.value c.args.first c.args.second c.in_ok-first.ensures c.in_ok-second.ensures;
}
