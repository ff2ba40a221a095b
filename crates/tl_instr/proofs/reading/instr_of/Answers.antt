use Rattle.std.proofs.Common.{rules, ◌≡◌, ◌<◌, Some, None, subst, sym, ◌∙◌, ap}
use Rattle.std.specs.Prelude.{IsSomeAnd}
use Rattle.tl_instr.specs.Versions.{HasInstr}
use Rattle.tl_instr.specs.Instructions.{target, GoesWithin}
use Rattle.tl_instr.specs.Reading.{instr_in}
use Rattle.tl_instr.specs.Spelling.{cell_of}
use Rattle.tl_instr.proofs.Cells.{none_has, no_other_has, never_differ, within_or_beyond}
use Rattle.tl_instr.proofs.reading.instr_of.Goals as goal

pub returns-in_err-instr : goal.returns-in_err-instr
returns-in_err-instr c =
    let named : instr_in c.args.cell ≡ None = search rules in
    rw c.from_residual.ensures (none_has c.args.version c.args.count c.args.cell (search rules) named)

pub returns-then-ne : goal.returns-then-ne
returns-then-ne c = λ i h e.
    let named : instr_in c.args.cell ≡ Some c.in_ok-instr.instr = search rules in
    let same = no_other_has c.args.version c.args.count c.args.cell c.in_ok-instr.instr (search rules) named i h e in
    never_differ c.cell.result c.args.cell c.ne.result c.ne.ensures c.if-ne.true (c.cell.ensures.value ∙ ap cell_of (sym same) ∙ e)

pub returns-then-is_some_and : goal.returns-then-is_some_and
returns-then-is_some_and c = λ i h e.
    let named : instr_in c.args.cell ≡ Some c.in_ok-instr.instr = search rules in
    let same = no_other_has c.args.version c.args.count c.args.cell c.in_ok-instr.instr (search rules) named i h e in
    let beyond : IsSomeAnd (target c.in_ok-instr.instr) (λ t. c.args.count < t) = search rules in
    within_or_beyond (target c.in_ok-instr.instr) c.args.count (subst (GoesWithin c.args.count) same h.goes_within) beyond

pub returns-then-not-is_in : goal.returns-then-not-is_in
returns-then-not-is_in c = λ i h e.
    let named : instr_in c.args.cell ≡ Some c.in_ok-instr.instr = search rules in
    let same = no_other_has c.args.version c.args.count c.args.cell c.in_ok-instr.instr (search rules) named i h e in
    let has : HasInstr c.args.version c.in_ok-instr.instr = subst (HasInstr c.args.version) same h.of_version in
    let yes = c.is_in.ensures.1 has in
    let no = c.if-not-is_in.true in
    cc
