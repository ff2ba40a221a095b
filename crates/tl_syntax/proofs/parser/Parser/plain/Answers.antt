use Rattle.std.proofs.Common.{rules, ◌≡◌, w64}
use mir.Val.{to_z, of_z}
use Rattle.tl_syntax.specs.Grammar.{number, kids}
use Rattle.tl_syntax.proofs.parser.Parser.plain.Goals as goal

pub returns-in_ok-number-in-Number : goal.returns-in_ok-number-in-Number
returns-in_ok-number-in-Number c =
    let n = c.in_ok-number-in-Number.number in
    let same : to_z w64 (of_z w64 n) ≡ n = search rules in
    rw same (number c.in_ok-number-in-Number.ensures)

pub returns-in_ok-at-in-Kids-3 : goal.returns-in_ok-at-in-Kids-3
returns-in_ok-at-in-Kids-3 c =
    kids c.in_ok-at-in-Kids.ensures c.in_ok-at-in-Kids-2.ensures c.in_ok-node-in-Kids.ensures c.in_ok-at-in-Kids-3.ensures
