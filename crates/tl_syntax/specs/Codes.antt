-- The numbers of the failures to which a text gives no code.
use Rattle.std.specs.Prelude.{ℤ, pos, neg_ℤ}
use Rattle.tl_syntax.specs.declared.failure.Failure.{Failure}
use Rattle.tl_syntax.specs.declared.failure.Failure.TheVariants as F

abbrev pub code_of : Failure → ℤ
code_of F.Number = neg_ℤ (pos 1)
code_of F.Node = neg_ℤ (pos 2)
code_of F.Child = neg_ℤ (pos 3)
code_of F.Bound = neg_ℤ (pos 4)
code_of F.Children = neg_ℤ (pos 5)
