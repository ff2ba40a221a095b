use Rattle.std.proofs.Common.{ap, arith}
use Rattle.tl_workers.specs.Noted.{NotesValue}
use Rattle.tl_workers.proofs.Notings.{same_long}
use Rattle.tl_workers.proofs.notes.Notes.len.Goals as goal

pub returns : goal.returns
returns c =
    let long = same_long c.self.inside.values.items c.self.inside.names.items c.self.inside.entries.items c.args.self.now.kept (ap (λ (v : NotesValue). v.kept) c.self.view_is) in
    omega (arith, long, c.len.ensures, c.self.inside.entries.ok)
