use Rattle.std.proofs.Common.{refl, ◌∙◌, ap, subst}
use Rattle.std.proofs.lemmas.Result.{on_ok_weaker}
use Rattle.tl_warnings.specs.Finding.{ArgumentsWarn, else_warned}
use Rattle.tl_warnings.proofs.FailingLemmas.{block_at as fails_at}
use Rattle.tl_warnings.proofs.FindingLemmas.{block_at, named_at}
use Rattle.tl_warnings.proofs.finding.procedure.Goals as goal

pub returns : goal.returns
returns c =
    let p = c.args.procedure.now in
    on_ok_weaker c.block-2.result
    (λ w.
    record {
      may_fail = c.block_may_fail-may_fail.result;
      behind_arguments = c.arguments.new.found.items;
      behind_body = c.block.new.found.items;
      behind_why = c.named.new.found.items;
      arguments = subst (λ z. ArgumentsWarn p c.args.found.now.items z c.arguments.new.found.items) c.deref.ensures.value c.in_ok-arguments.ensures;
      body = block_at c.deref-2.ensures.value refl c.in_ok-block.ensures;
      fails = fails_at c.deref-3.ensures.value c.block_may_fail-may_fail.ensures;
      why = named_at c.deref-4.ensures.value refl c.in_ok-named.ensures;
      otherwise =
          block_at c.deref-6.ensures.value
          (c.in_ok-else_of_procedure.ensures ∙ ap (λ z. else_warned c.block_may_fail-may_fail.result z c.named.new.found.items) c.deref-5.ensures.value) w;
    })
    c.block-2.ensures
