use Rattle.std.proofs.Common.{◌≡◌, take, replicate}
use Rattle.tl_audit.specs.Chains.{zero_record}
use Rattle.tl_audit.proofs.chain.are_zeros.Given as goal

abbrev pub invariant-loop-record : goal.invariant-loop-record
invariant-loop-record l = take l.record-index l.records ≡ replicate l.record-index zero_record
