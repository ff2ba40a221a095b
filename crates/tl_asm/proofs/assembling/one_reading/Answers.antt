use Rattle.tl_asm.proofs.CanonicalText.{canonical}
use Rattle.tl_asm.proofs.OneCode.{same_code, faultless}
use Rattle.tl_asm.proofs.OneFault.{one_fault}
use Rattle.tl_asm.proofs.assembling.one_reading.Goals as goal

pub returns : goal.returns
returns c = record {
  canonical = canonical;
  one_code = same_code;
  faultless = faultless;
  one_fault = one_fault;
}
