use Rattle.std.proofs.lemmas.Result.{IfOk-weaker}
use Rattle.tl_syntax.specs.Statements.{AreTwo, IsLooped, looped}
use Rattle.tl_syntax.proofs.parser.Parser.looped.Goals as goal

pub returns : goal.returns
returns c =
    IfOk-weaker c.two.result (λ all. AreTwo c.args.offset c.in_ok-repetition.repetition c.in_ok-check.check all.items)
    (λ all. IsLooped c.args.self.now.tokens.now c.args.levels c.args.at c.args.offset c.args.head.0 c.args.head.1 c.args.body all.items) (λ all h. looped c.in_ok-repetition.ensures c.in_ok-check.ensures h) c.two.ensures
