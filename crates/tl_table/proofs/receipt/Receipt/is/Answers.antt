use Rattle.tl_table.proofs.Receipts.{receipts_compare}
use Rattle.tl_table.proofs.receipt.Receipt.is.Goals as goal

pub returns : goal.returns
returns c = receipts_compare c.args.self.now c.args.other.now c.eq.result c.eq.ensures
