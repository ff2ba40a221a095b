use Rattle.std.proofs.Common.{◌≡◌, ◌-◌, length, Some, refl, sym, ◌∙◌}
use Rattle.std.specs.Prelude.{slice_get}
use Rattle.tl_commands.proofs.ClosingLemmas.{last_sessions}
use Rattle.tl_commands.proofs.closing.sessions_given.Goals as goal

pub returns : goal.returns
returns c =
    let es = c.args.chain.now in
    let last = c.in-Some.last.now in
    let at : slice_get es (length es - 1) ≡ Some last = sym (rw c.in-Some.is at c.last.ensures.value) in
    c.sessions.ensures ∙ last_sessions es (length es - 1) last refl at
