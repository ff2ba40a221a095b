-- Why there is no copy of a store, as the server says it.
use Rattle.tl_file_snapshot.specs.declared.fault.SnapshotFault.{SnapshotFault}
use Rattle.tl_file_snapshot.specs.declared.fault.SnapshotFault.TheVariants as snapshot
use Rattle.tl_server.specs.declared.copying.CopyRefusal.{CopyRefusal}
use Rattle.tl_server.specs.declared.copying.CopyRefusal.TheVariants.{BadName, Unwritten, OtherCounts, Broken, Memory}

abbrev pub refusal_of : SnapshotFault → CopyRefusal
refusal_of snapshot.BadName = BadName
refusal_of snapshot.Taken = BadName
refusal_of snapshot.Unwritten = Unwritten
refusal_of snapshot.Counts = OtherCounts
refusal_of (snapshot.Source error) = Broken
refusal_of snapshot.Memory = Memory
