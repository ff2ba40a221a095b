use Rattle.tl_warnings.specs.Reading.{node, child, pair}
use Rattle.tl_warnings.proofs.reading.place_reads.Goals as goal

pub returns-in-Node : goal.returns-in-Node
returns-in-Node c = rw c.in-Node.is (node c.reads.ensures)

pub returns-in-Child : goal.returns-in-Child
returns-in-Child c = rw c.in-Child.is (child c.reads-in-Child.ensures)

pub returns-in-Pair : goal.returns-in-Pair
returns-in-Pair c = rw c.in-Pair.is (pair c.reads-in-Pair.ensures c.reads-in-Pair-2.ensures)
