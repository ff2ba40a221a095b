-- What files that are only read show.
use Rattle.std.specs.Prelude.{Bool}
use Rattle.sqlite_disk.specs.declared.modelled.Modelled.{Modelled}
use Rattle.sqlite_disk.specs.declared.calls.Calls as calls
use Rattle.sqlite_disk.specs.declared.start.Start.{Ghosts}
use Rattle.sqlite_disk.specs.Modelled.{start_of}
use Rattle.sqlite_disk.specs.Events.{replay}
use Rattle.tl_store_file.specs.declared.reader.Reader.{Reader}

module _ {S : Type 0} {g : calls.Ghosts Reader} where
  -- its member `is_usable`
  abbrev pub reader_is_usable : (start : Ghosts S) → Modelled Reader S g start → Bool
  reader_is_usable start f = (replay (start_of start f) f.calls.record.events).is_usable
