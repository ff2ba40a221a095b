use Rattle.std.proofs.Common.{refl}
use Rattle.tl_instr.proofs.Laws.{is_migrated}
use Rattle.tl_machine.proofs.WiderRecords.{same_with_zeros, keeps_width, names_narrow}
use Rattle.tl_machine.proofs.laws.padding.Goals as goal

pub returns-clause-same : goal.returns-clause-same
returns-clause-same s c parents args t valid acc first tree size wide = same_with_zeros 4 4 parents tree c.instrs (names_narrow c valid first) args t size wide

pub returns-clause-width : goal.returns-clause-width
returns-clause-width s c parents args t valid acc first tree size wide = keeps_width 4 0 parents tree c.instrs (names_narrow c valid first) args t size wide

pub returns-clause-accepted : goal.returns-clause-accepted
returns-clause-accepted s c valid acc first = (is_migrated c first valid, acc)

pub returns-clause-migrated : goal.returns-clause-migrated
returns-clause-migrated s c parents args t = refl
