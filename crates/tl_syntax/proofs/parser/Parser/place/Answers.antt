use Rattle.tl_syntax.specs.Grammar.{IsName}
use Rattle.tl_syntax.specs.Statements.{node, child, pair}
use Rattle.tl_syntax.proofs.parser.Parser.place.Goals as goal

pub returns-in-Some : goal.returns-in-Some
returns-in-Some c = node c.in_ok-name.ensures c.in_ok-at.ensures c.in-Some.ensures c.in_ok-number.ensures c.offset-offset.ensures

pub returns-in_default-skip_if : goal.returns-in_default-skip_if
returns-in_default-skip_if c =
    let named : IsName c.args.self.now.tokens.now c.args.at c.in_ok-name.at c.in_ok-first.first.name = rw c.in_ok-first.ensures.name c.in_ok-name.ensures in
    child named c.in_ok-at.ensures c.in_ok-first.ensures.read

pub returns : goal.returns
returns c =
    let first : IsName c.args.self.now.tokens.now c.args.at c.in_ok-name.at c.in_ok-first.first.name = rw c.in_ok-first.ensures.name c.in_ok-name.ensures in
    let second : IsName c.args.self.now.tokens.now c.in-Some-skip_if.next c.in_ok-name-2.at c.in_ok-second.second.name = rw c.in_ok-second.ensures.name c.in_ok-name-2.ensures in
    pair first c.in_ok-at.ensures c.in_ok-first.ensures.read c.in-Some-skip_if.ensures second c.in_ok-at-2.ensures c.in_ok-second.ensures.read
