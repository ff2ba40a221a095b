use Rattle.tl_file_journal.proofs.following.read_rested.Goals as goal

pub read_store-requires : goal.read_store-requires
read_store-requires g c = λ clean. (c.args.rested.rests clean).tables
