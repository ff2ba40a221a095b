use Rattle.std.proofs.Common.{refl, sym, ◌∙◌}
use Rattle.tl_instr.proofs.Laws.{same_code, faultless}
use Rattle.tl_instr.proofs.OneFault.{one_fault}
use Rattle.tl_instr.proofs.container.one_spelling.Goals as goal

pub returns : goal.returns
returns c = record {
  each = λ code valid. record { valid = valid; same = refl };
  one_code = same_code;
  one_spelling = λ a b code p q. p.same ∙ sym q.same;
  faultless = faultless;
  one_fault = one_fault;
}
