use Rattle.std.proofs.lemmas.Result.{IfOk-weaker}
use Rattle.tl_syntax.specs.Grammar.{IsMade, IsRest, IsJoined, directly, as_rest}
use Rattle.tl_syntax.proofs.parser.Parser.joined.Goals as goal

pub returns-in-Rest : goal.returns-in-Rest
returns-in-Rest c =
    IfOk-weaker c.rest.result (λ e. IsRest c.args.left c.args.right e) (λ e. IsJoined c.args.join c.args.left c.args.right e) (λ e h. as_rest c.in-Rest.is h) c.rest.ensures

pub returns-in_default : goal.returns-in_default
returns-in_default c =
    IfOk-weaker c.made.result (λ e. IsMade c.args.join c.args.left c.args.right e) (λ e. IsJoined c.args.join c.args.left c.args.right e) (λ e h. directly c.in_default.not-Rest h) c.made.ensures
