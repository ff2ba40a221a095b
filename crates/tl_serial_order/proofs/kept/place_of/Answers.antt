use Rattle.std.proofs.Common.{rules}
use Rattle.tl_serial_order.proofs.Lines.{put_before-at, put_before-nowhere}
use Rattle.tl_serial_order.proofs.kept.place_of.Goals as goal

pub returns-in-Some-clause-place : goal.returns-in-Some-clause-place
returns-in-Some-clause-place c call = put_before-at call c.args.call c.args.order.now c.in-Some.place c.requires.distinct (search rules) (search rules)

pub returns-in-None-clause-place : goal.returns-in-None-clause-place
returns-in-None-clause-place c call = put_before-nowhere call c.args.call c.args.order.now (search rules)
