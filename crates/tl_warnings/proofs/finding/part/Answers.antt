use Rattle.std.proofs.Common.{refl, subst}
use Rattle.std.proofs.lemmas.Result.{on_ok_weaker}
use Rattle.tl_warnings.specs.Finding.{ParametersWarn}
use Rattle.tl_warnings.proofs.FindingLemmas.{block_at}
use Rattle.tl_warnings.proofs.finding.part.Goals as goal

pub returns : goal.returns
returns c =
    let p = c.args.part.now in
    on_ok_weaker c.block.result
    (λ w.
    record {
      behind_parameters = c.parameters.new.found.items;
      parameters = subst (λ z. ParametersWarn p c.args.found.now.items z c.parameters.new.found.items) c.deref.ensures.value c.in_ok-parameters.ensures;
      body = block_at c.deref-2.ensures.value refl w;
    })
    c.block.ensures
