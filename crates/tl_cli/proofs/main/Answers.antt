use denote.Param.Send.{sendable}
use denote.Param.SendFields.{declared_send}
use Rattle.std.proofs.option.Option.TheSendSync as options
use Rattle.std.specs.contracts.rt.LibcRuntime as Runtime
use Rattle.tl_generations.proofs.succession.Succession.TheSendSync as successions
use Rattle.tl_commands.specs.contracts.generations.Generation as Generation
use Rattle.tl_commands.proofs.generations.Generation.TheSendSync as generations
use Rattle.tl_commands.specs.contracts.fault.CliFault as CliFault
use Rattle.tl_commands.proofs.fault.CliFault.TheSendSync as faults
use Rattle.tl_cli.proofs.archive.Trails.TheSendSync as trails
use Rattle.tl_cli.specs.contracts.archive.Archive as Archive
use Rattle.tl_file_journal.specs.contracts.comparing.Comparer as Comparer
use Rattle.tl_file_journal.proofs.Sharing.{journal_sync, comparer_send}
use Rattle.tl_cli.proofs.main.Goals as goal

pub answer-status-requires-sync-J : goal.answer-status-requires-sync-J
answer-status-requires-sync-J g c κs = let shared = journal_sync in search sendable depth 20

pub answer-status-requires-send-K : goal.answer-status-requires-send-K
answer-status-requires-send-K g c κs =
    let sent = options.the_send Comparer.the_row comparer_send in
    let closed = options.the_send Generation.the_row generations.the_send in
    let fault = options.the_send CliFault.the_row faults.the_send in
    let archive = declared_send (Archive.the_type Runtime.the_row) (
      search sendable depth 20,
      (trails.the_send, (successions.the_send, (search sendable depth 20, (search sendable depth 20, (closed, (search sendable depth 20, (fault, (fault, (sent, tt))))))))),
    ) in
    search sendable depth 20
