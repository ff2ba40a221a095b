use Rattle.tl_file_journal.proofs.volumes.remember_rested.Goals as goal

pub remember_volume-requires : goal.remember_volume-requires
remember_volume-requires g c = λ clean. (c.args.rested.rests clean).tables
