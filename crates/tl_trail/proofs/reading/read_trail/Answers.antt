use Rattle.tl_trail.proofs.OneReading.{only_one}
use Rattle.tl_trail.proofs.reading.read_trail.Goals as goal

pub returns-clause-taken : goal.returns-clause-taken
returns-clause-taken c = λ t is. only_one c.args.limit c.args.text.now c.trail_of_text.result t c.trail_of_text.ensures.ok c.trail_of_text.ensures.fault is
