use Rattle.std.proofs.Common.{◌≡◌, [], arith, rules}
use Rattle.std.proofs.lemmas.Grind.{common_steps}
use Rattle.tl_lowering.proofs.JoinLemmas.{first_ending, next_ending, all_ended}
use Rattle.tl_lowering.proofs.DraftLemmas.{first_closed, next_closed, all_closed}
use Rattle.tl_lowering.specs.Lowering.{behind_draft}
use Rattle.tl_lowering.specs.Scopes.{is_in_loop}
use Rattle.tl_lowering.proofs.lowering.Lowering.finished.Goals as goal

pub loop-last-init : goal.loop-last-init
loop-last-init c = record {
  named = first_ending c.args.draft c.in_ok-whole.whole c.in_ok-whole.ensures.named;
  order = λ start scope outer d free. first_closed start outer c.args.draft scope c.in_ok-whole.whole d c.in_ok-whole.ensures.sequence;
}

pub loop-last-preserved : goal.loop-last-preserved
loop-last-preserved c = record {
  named =
      next_ending c.args.draft c.loop-last.opened.items c.pop.new.self.items c.in-Some.last c.loop-last.whole c.in_ok-whole-2.whole c.loop-last.invariant.named (search rules) c.in_ok-whole-2.ensures.named;
  order = λ start scope outer d free.
      next_closed start outer (is_in_loop scope) (behind_draft start c.args.draft) c.loop-last.opened.items c.pop.new.self.items c.in-Some.last c.loop-last.whole c.in_ok-whole-2.whole free
      (c.loop-last.invariant.order start scope outer d free) (search rules) c.in_ok-whole-2.ensures.closes;
}

pub returns : goal.returns
returns c =
    let none : c.loop-last.opened.items ≡ [] = first_of (search rules, grind (arith, common_steps)) in
    record {
      named = all_ended c.args.draft c.loop-last.opened.items c.loop-last.whole none c.loop-last.invariant.named;
      order = λ start scope outer d free.
          all_closed start outer (is_in_loop scope) (behind_draft start c.args.draft) c.loop-last.opened.items c.loop-last.whole none (c.loop-last.invariant.order start scope outer d free);
    }
