use Rattle.std.proofs.Common.{refl, ◌∙◌, ap, length, ◌++◌, drop}
use Rattle.std.specs.Prelude.{pos, replicate}
use Rattle.tl_machine.proofs.RunFromStart.{drop-replicate, start_stands}
use Rattle.tl_machine.proofs.start.at_start.Goals as goal

pub returns-clause-start : goal.returns-clause-start
returns-clause-start c = record {
  position = refl;
  running = refl;
  values = ap (λ xs. xs ++ drop (length c.args.args.now) (replicate 16 (pos 0))) c.copy_from_slice.ensures.after ∙ ap (λ ys. c.args.args.now ++ ys) (drop-replicate (length c.args.args.now) 16 (pos 0));
  nodes = refl;
  counters = refl;
  emits = refl;
  steps = refl;
}

pub returns-clause-stands : goal.returns-clause-stands
returns-clause-stands c = start_stands _ _ c.code-fact.ensures.accepted c.args.args.now _ (returns-clause-start c) c.node_count.ensures.tree c.node_count.ensures.count c.code-fact.ensures.valid.count.0
