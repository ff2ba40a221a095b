-- A journal on a store in a file may be shared between threads, and who compares the store may go to another. Their types are deeper than a `search` goes, so a proof of a caller names these.
use denote.RattleType.{RattleType}
use denote.Param.Send.{IsSync, IsSend, sendable}
use denote.Param.SendFields.{declared_send, declared_sync}
use Rattle.std.proofs.Crossing.{Arc-send, Arc-sync, crosses}
use Rattle.sqlite_disk.specs.contracts.modelled.Modelled as Files
use Rattle.sqlite_disk.specs.contracts.modelled.ModelledDisk.TheImpl as disk
use Rattle.sqlite_disk.specs.contracts.start.Unknown as Unknown
use Rattle.sqlite_disk.specs.contracts.start.UnknownStart.TheImpl as start
use Rattle.sqlite_std_file.specs.contracts.host.Host as Host
use Rattle.sqlite_std_file.specs.contracts.host.HostCalls.TheImpl as calls
use Rattle.sqlite_store.proofs.store.FileStore.TheSendSync as stores
use Rattle.std.proofs.option.Option.TheSendSync as options
use Rattle.std.specs.contracts.alloc.Global as Global
use Rattle.std.specs.contracts.impls.GlobalAllocator.TheImpl as allocator
use Rattle.std.proofs.string.String.TheSendSync as strings
use Rattle.std.specs.contracts.string.String as String
use Rattle.std.specs.contracts.option.Option as Option
use Rattle.sqlite_store.specs.contracts.store.FileStore as FileStore
use Rattle.tl_file_journal.specs.contracts.journal.FileJournal.{the_type, the_row}
use Rattle.tl_file_journal.specs.contracts.journal.Live as Live
use Rattle.tl_file_journal.specs.contracts.journal.Turning as Turning
use Rattle.tl_file_journal.specs.contracts.comparing.Closing as Closing
use Rattle.tl_file_journal.specs.contracts.comparing.Comparer as Comparer
use Rattle.tl_file_journal.specs.contracts.comparing.Shared as Shared
use Rattle.tl_journal.proofs.journal.LedgerJournal.TheSendSync as journals
use Rattle.tl_ledger.proofs.ledger.Ledger.TheSendSync as ledgers
use Rattle.tl_volume_files.specs.contracts.folder.Volumes as Volumes

-- a file that held anything, and the store in it
abbrev file : RattleType
file = Files.the_row Host.the_row Unknown.the_row calls.ghosts start.ghosts

abbrev store : RattleType
store = FileStore.the_row file (disk.ghosts Host.the_row Unknown.the_row calls.ghosts disk.no_dict start.ghosts disk.no_dict disk.no_dict)

abbrev string : RattleType
string = String.the_row Global.the_row allocator.ghosts

file_send : IsSend file
file_send = search sendable depth 30

store_send : IsSend store
store_send = stores.the_send file (disk.ghosts Host.the_row Unknown.the_row calls.ghosts disk.no_dict start.ghosts disk.no_dict disk.no_dict) file_send

string_send : IsSend string
string_send = strings.the_send Global.the_row allocator.ghosts (search sendable depth 30) (search (crosses, sendable) depth 30)

string_sync : IsSync string
string_sync = strings.the_sync Global.the_row allocator.ghosts (search sendable depth 30)

-- the files of volumes
volumes_send : IsSend Volumes.the_row
volumes_send = declared_send Volumes.the_type (search sendable depth 30, (string_send, (search sendable depth 30, tt)))

volumes_sync : IsSync Volumes.the_row
volumes_sync = declared_sync Volumes.the_type (search sendable depth 30, (string_sync, (search sendable depth 30, tt)))

-- a volume that isn't closed yet
closing_send : IsSend Closing.the_row
closing_send = declared_send Closing.the_type (search sendable depth 30, (ledgers.the_send store _ store_send, tt))

last_send : IsSend (Option.the_row Closing.the_row)
last_send = options.the_send Closing.the_row closing_send

shared_send : IsSend Shared.the_row
shared_send = declared_send Shared.the_type (journals.the_send store _ store_send, (search (crosses, last_send) depth 30, (search (crosses, sendable) depth 30, tt)))

shared_sync : IsSync Shared.the_row
shared_sync = declared_sync Shared.the_type (journals.the_sync store _ store_send, (search (crosses, last_send) depth 30, (search (crosses, sendable) depth 30, tt)))

-- where a store is written, and how it goes on
live_send : IsSend Live.the_row
live_send = declared_send Live.the_type (string_send, (search sendable depth 30, (search sendable depth 30, tt)))

turning_sync : IsSync Turning.the_row
turning_sync = declared_sync Turning.the_type (Arc-sync Volumes.the_row volumes_send volumes_sync, (search sendable depth 30, tt))

pub journal_sync : IsSync the_row
journal_sync =
    declared_sync the_type
    (Arc-sync Shared.the_row shared_send shared_sync, (search sendable depth 30, (search sendable depth 30, (search (crosses, live_send) depth 30, (options.the_sync Turning.the_row turning_sync, (options.the_sync string string_sync, tt))))))

pub comparer_send : IsSend Comparer.the_row
comparer_send =
    declared_send Comparer.the_type
    (Arc-send Shared.the_row shared_send shared_sync, (search sendable depth 30, (options.the_send _ (Arc-send Volumes.the_row volumes_send volumes_sync), (search sendable depth 30, (search sendable depth 30, tt)))))
