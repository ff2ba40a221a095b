-- Each call opens a level or is for a tighter rule. What a chain has read so far is an expression of its rule.
use Rattle.std.proofs.Common.{◌+◌, ◌*◌, ◌≤◌}
use Rattle.tl_syntax.specs.Grammar.{IsChain, Disjunction, Conjunction, Sum, Term}
use Rattle.tl_syntax.proofs.parser.Parser.+expressions.Given as goal

abbrev pub decreases-atom : goal.decreases-atom
decreases-atom l = 10 * l.levels + 1

abbrev pub decreases-conjunction : goal.decreases-conjunction
decreases-conjunction l = 10 * l.levels + 7

abbrev pub decreases-expression : goal.decreases-expression
decreases-expression l = 10 * l.levels + 8

abbrev pub decreases-negation : goal.decreases-negation
decreases-negation l = 10 * l.levels + 6

abbrev pub decreases-product : goal.decreases-product
decreases-product l = 10 * l.levels + 3

abbrev pub decreases-relation : goal.decreases-relation
decreases-relation l = 10 * l.levels + 5

abbrev pub decreases-signed : goal.decreases-signed
decreases-signed l = 10 * l.levels + 2

abbrev pub decreases-sum : goal.decreases-sum
decreases-sum l = 10 * l.levels + 4

abbrev pub invariant-conjunction-loop-next : goal.invariant-conjunction-loop-next
invariant-conjunction-loop-next l =
    record { room : l.spare ≤ l.fn.levels; spelled : IsChain l.self.tokens.now l.fn.levels l.spare Conjunction l.fn.at l.at l.left }

abbrev pub decreases-conjunction-loop-next : goal.decreases-conjunction-loop-next
decreases-conjunction-loop-next l = l.spare

abbrev pub invariant-expression-loop-next : goal.invariant-expression-loop-next
invariant-expression-loop-next l =
    record { room : l.spare ≤ l.fn.levels; spelled : IsChain l.self.tokens.now l.fn.levels l.spare Disjunction l.fn.at l.at l.left }

abbrev pub decreases-expression-loop-next : goal.decreases-expression-loop-next
decreases-expression-loop-next l = l.spare

abbrev pub invariant-product-loop-join : goal.invariant-product-loop-join
invariant-product-loop-join l =
    record { room : l.spare ≤ l.fn.levels; spelled : IsChain l.self.tokens.now l.fn.levels l.spare Term l.fn.at l.at l.left }

abbrev pub decreases-product-loop-join : goal.decreases-product-loop-join
decreases-product-loop-join l = l.spare

abbrev pub invariant-sum-loop-operator : goal.invariant-sum-loop-operator
invariant-sum-loop-operator l =
    record { room : l.spare ≤ l.fn.levels; spelled : IsChain l.self.tokens.now l.fn.levels l.spare Sum l.fn.at l.at l.left }

abbrev pub decreases-sum-loop-operator : goal.decreases-sum-loop-operator
decreases-sum-loop-operator l = l.spare
