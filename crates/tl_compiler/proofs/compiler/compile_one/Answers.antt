use Rattle.std.proofs.Common.{rules, ◌≤◌, length}
use Rattle.tl_instr.specs.declared.code.TheConstants.{MAX_COUNT}
use Rattle.tl_compiler.proofs.OneLemmas.{safe_draft}
use Rattle.tl_compiler.proofs.compiler.compile_one.Goals as goal

pub refused-requires-clause-safe : goal.refused-requires-clause-safe
refused-requires-clause-safe c =
    let instrs = c.in_ok-draft.draft.instrs.items in
    let few : length instrs ≤ MAX_COUNT = search rules in
    safe_draft c.args.source instrs c.requires c.in_ok-draft.ensures few
