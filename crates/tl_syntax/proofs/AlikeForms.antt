-- What two alike expressions have in common.
use Rattle.std.proofs.Common.{◌≡◌, ℕ, ◌≤◌, refl, arith}
use Rattle.std.specs.declared.boxed.Box.{Box}
use Rattle.std.specs.declared.alloc.Global.{Global}
use Rattle.tl_syntax.specs.declared.operator.Operator.{Operator}
use Rattle.tl_syntax.specs.declared.operator.Operator.TheVariants as O
use Rattle.tl_syntax.specs.declared.parsed.Comparison.{Comparison}
use Rattle.tl_syntax.specs.declared.parsed.Comparison.TheVariants as K
use Rattle.tl_syntax.specs.declared.parsed.Form.{Form}
use Rattle.tl_syntax.specs.declared.parsed.Form.TheVariants as F
use Rattle.tl_syntax.specs.declared.parsed.Expression.{Expression}
use Rattle.tl_syntax.specs.declared.expressions.Join.{Join}
use Rattle.tl_syntax.specs.declared.expressions.Join.TheVariants as J
use Rattle.tl_syntax.specs.Grammar.{form_by}
use Rattle.tl_syntax.specs.Alike as A
use Rattle.tl_syntax.specs.Alike.{Alike, AlikeForm}

-- the number of the form's variant
abbrev pub form_rank : Form → ℕ
form_rank (F.Number w) = 0
form_rank (F.Named n) = 1
form_rank (F.Field n f) = 2
form_rank (F.Children n) = 3
form_rank (F.Negated' p o a) = 4
form_rank (F.Calculated' k p o a q r b) = 5
form_rank (F.Compared' k p o a q r b) = 6
form_rank (F.Not' p o a) = 7
form_rank (F.And' p o a q r b) = 8
form_rank (F.Or' p o a q r b) = 9

-- the form's parts; the form itself if it has none
abbrev pub first_part : Form → Form
first_part (F.Negated' p o a) = a
first_part (F.Calculated' k p o a q r b) = a
first_part (F.Compared' k p o a q r b) = a
first_part (F.Not' p o a) = a
first_part (F.And' p o a q r b) = a
first_part (F.Or' p o a q r b) = a
first_part form = form

abbrev pub second_part : Form → Form
second_part (F.Calculated' k p o a q r b) = b
second_part (F.Compared' k p o a q r b) = b
second_part (F.And' p o a q r b) = b
second_part (F.Or' p o a q r b) = b
second_part (F.Negated' p o a) = a
second_part (F.Not' p o a) = a
second_part form = form

abbrev pub operator_in : Form → Operator
operator_in (F.Calculated' k p o a q r b) = k
operator_in form = O.Add

abbrev pub comparison_in : Form → Comparison
comparison_in (F.Compared' k p o a q r b) = k
comparison_in form = K.Equal

pub form_of : {e f : Expression} → Alike e f → AlikeForm e.form f.form
form_of (A.alike o h) = h

joined_rank : (join : Join) (a b c d : Box Expression Global) → form_rank (form_by join a b) ≡ form_rank (form_by join c d)
joined_rank J.Or a b c d = refl
joined_rank J.And a b c d = refl
joined_rank (J.Compare k) a b c d = refl
joined_rank (J.Calculate o) a b c d = refl
joined_rank J.Rest a b c d = refl

pub same_rank : {f g : Form} → AlikeForm f g → form_rank f ≡ form_rank g
same_rank A.same_form = refl
same_rank (A.negated x) = refl
same_rank (A.not x) = refl
same_rank (A.joined join a b c d x y) = joined_rank join a b c d

joined_apart : (join : Join) (a b : Box Expression Global) → form_rank (form_by join a b) ≤ 3 → ⊥
joined_apart J.Or a b e = omega (arith, e)
joined_apart J.And a b e = omega (arith, e)
joined_apart (J.Compare k) a b e = omega (arith, e)
joined_apart (J.Calculate o) a b e = omega (arith, e)
joined_apart J.Rest a b e = omega (arith, e)

-- forms without parts are alike only if they are equal
pub same_plain : {f g : Form} → form_rank f ≤ 3 → AlikeForm f g → f ≡ g
same_plain e A.same_form = refl
same_plain e (A.negated x) = absurd (omega (arith, e))
same_plain e (A.not x) = absurd (omega (arith, e))
same_plain e (A.joined join a b c d x y) = absurd (joined_apart join a b e)

joined_first : (join : Join) (a b c d : Box Expression Global) → Alike a.value c.value → AlikeForm (first_part (form_by join a b)) (first_part (form_by join c d))
joined_first J.Or a b c d x = form_of x
joined_first J.And a b c d x = form_of x
joined_first (J.Compare k) a b c d x = form_of x
joined_first (J.Calculate o) a b c d x = form_of x
joined_first J.Rest a b c d x = form_of x

joined_second : (join : Join) (a b c d : Box Expression Global) → Alike b.value d.value → AlikeForm (second_part (form_by join a b)) (second_part (form_by join c d))
joined_second J.Or a b c d x = form_of x
joined_second J.And a b c d x = form_of x
joined_second (J.Compare k) a b c d x = form_of x
joined_second (J.Calculate o) a b c d x = form_of x
joined_second J.Rest a b c d x = form_of x

joined_operator : (join : Join) (a b c d : Box Expression Global) → operator_in (form_by join a b) ≡ operator_in (form_by join c d)
joined_operator J.Or a b c d = refl
joined_operator J.And a b c d = refl
joined_operator (J.Compare k) a b c d = refl
joined_operator (J.Calculate o) a b c d = refl
joined_operator J.Rest a b c d = refl

joined_comparison : (join : Join) (a b c d : Box Expression Global) → comparison_in (form_by join a b) ≡ comparison_in (form_by join c d)
joined_comparison J.Or a b c d = refl
joined_comparison J.And a b c d = refl
joined_comparison (J.Compare k) a b c d = refl
joined_comparison (J.Calculate o) a b c d = refl
joined_comparison J.Rest a b c d = refl

pub same_first : {f g : Form} → AlikeForm f g → AlikeForm (first_part f) (first_part g)
same_first A.same_form = A.same_form
same_first (A.negated x) = form_of x
same_first (A.not x) = form_of x
same_first (A.joined join a b c d x y) = joined_first join a b c d x

pub same_second : {f g : Form} → AlikeForm f g → AlikeForm (second_part f) (second_part g)
same_second A.same_form = A.same_form
same_second (A.negated x) = form_of x
same_second (A.not x) = form_of x
same_second (A.joined join a b c d x y) = joined_second join a b c d y

pub same_operator : {f g : Form} → AlikeForm f g → operator_in f ≡ operator_in g
same_operator A.same_form = refl
same_operator (A.negated x) = refl
same_operator (A.not x) = refl
same_operator (A.joined join a b c d x y) = joined_operator join a b c d

pub same_comparison : {f g : Form} → AlikeForm f g → comparison_in f ≡ comparison_in g
same_comparison A.same_form = refl
same_comparison (A.negated x) = refl
same_comparison (A.not x) = refl
same_comparison (A.joined join a b c d x y) = joined_comparison join a b c d
