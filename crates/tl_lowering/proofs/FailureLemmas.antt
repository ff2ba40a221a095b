-- Failures of alike statements, and what their marks leave as it is.
use Rattle.std.proofs.Common.{◌≡◌, ◌∙◌, ℕ, ◌<◌, Bool, true, false, ◌||◌, Option, None, Some, refl, sym, ap, ap₂}
use Rattle.std.specs.Option.{option_or}
use Rattle.tl_syntax.specs.Codes.{code_of}
use Rattle.tl_syntax.specs.declared.failure.Failure.{Failure}
use Rattle.tl_syntax.specs.declared.parsed.Expression.{Expression as TextExpression}
use Rattle.tl_syntax.specs.declared.parsed.Form.{Form}
use Rattle.tl_syntax.specs.Alike as T
use Rattle.tl_syntax.specs.Alike.{AlikeForm, AlikeReason}
use Rattle.tl_syntax.proofs.AlikeForms.{form_of}
use Rattle.tl_lowering.specs.declared.program.Condition.{Condition}
use Rattle.tl_lowering.specs.declared.program.Expression.{Expression}
use Rattle.tl_lowering.specs.declared.program.Statement.{Statement}
use Rattle.tl_lowering.specs.Alike.{SameNumber, same_constant, same_value, same_field, same_children, same_operation, SameCondition, same_less, same_greater, same_equal, same_not, same_and, SamePlace, same_node, same_child, same_pair, SameStatement, same_skip, same_sequence, same_assign, same_write, same_emit, same_free, same_descend, same_take, same_break, same_return, same_fail, same_if, same_let, same_let_else, same_lock, same_try, same_repeat, same_repeat_up_to, same_at}
use Rattle.tl_lowering.specs.declared.readers.Readers.{Readers}
use Rattle.tl_lowering.specs.Failing.{number_failure, place_failure, failure_at, IsFailure, bare, coded, IsMarked, not_read, sure, marked, IsRenewed, not_renewed, renewed}
use Rattle.tl_lowering.specs.Names.{Names}
use Rattle.tl_lowering.specs.Naming.{then}
use Rattle.tl_lowering.specs.Outcomes.{may_fail, condition_may_fail}
use Rattle.tl_lowering.specs.Reading.{IsReason, no_reason, reason, IsRequired, required}
use Rattle.tl_lowering.proofs.AlikeLemmas.{alike_number, alike_condition}

pub same_may_fail : {e f : Expression} → SameNumber e f → may_fail e ≡ may_fail f
same_may_fail (same_constant x) = refl
same_may_fail (same_value x) = refl
same_may_fail (same_field x y) = refl
same_may_fail (same_children x) = refl
same_may_fail (same_operation x a b) = refl

same_condition_fails : {c d : Condition} → SameCondition c d → condition_may_fail c ≡ condition_may_fail d
same_condition_fails (same_less a b) = ap₂ (λ x y. x || y) (same_may_fail a) (same_may_fail b)
same_condition_fails (same_greater a b) = ap₂ (λ x y. x || y) (same_may_fail a) (same_may_fail b)
same_condition_fails (same_equal a b) = ap₂ (λ x y. x || y) (same_may_fail a) (same_may_fail b)
same_condition_fails (same_not c) = same_condition_fails c
same_condition_fails (same_and c d) = ap₂ (λ x y. x || y) (same_condition_fails c) (same_condition_fails d)

pub same_failure : (l : Bool) {a b : Statement} → SameStatement a b → failure_at l a ≡ failure_at l b
same_failure l same_skip = refl
same_failure l (same_sequence x y) = ap₂ option_or (same_failure false x) (same_failure false y)
same_failure l (same_assign v e) = ap number_failure (same_may_fail e)
same_failure l (same_write n f e) = ap number_failure (same_may_fail e)
same_failure l (same_emit e) = ap number_failure (same_may_fail e)
same_failure l (same_free n) = refl
same_failure l (same_descend n e) = refl
same_failure l (same_take n k) = refl
same_failure l same_break = refl
same_failure l same_return = refl
same_failure l same_fail = refl
same_failure l (same_if c x y) = ap number_failure (same_condition_fails c)
same_failure l (same_let v e x) = ap₂ option_or (ap number_failure (same_may_fail e)) (same_failure true x)
same_failure l (same_let_else v e x y) = refl
same_failure l (same_lock k x y) = refl
same_failure l (same_try x y) = refl
same_failure l (same_repeat w x) = refl
same_failure l (same_repeat_up_to e w x) = refl
same_failure l (same_at i x) = refl

pub same_place_failure : {k l : _} → SamePlace k l → place_failure k ≡ place_failure l
same_place_failure (same_node n e) = refl
same_place_failure (same_child n p e) = refl
same_place_failure (same_pair n k p a b) = refl

pub alike_failure : {c : Option ℕ} {e f : Expression} {a b : Statement} → SameNumber e f → IsFailure c e a → IsFailure c f b → SameStatement a b
alike_failure x bare bare = same_fail
alike_failure x (coded then) (coded then) = same_sequence (same_assign refl x) same_fail

pub alike_marked : {c : Option ℕ} {a b x y : Statement} → SameStatement a b → IsMarked c a x → IsMarked c b y → SameStatement x y
alike_marked s not_read not_read = s
alike_marked s (sure e) (sure f) = s
alike_marked s (sure e) (marked f then) = let same = sym e ∙ same_failure false s ∙ f in cc
alike_marked s (marked e then) (sure f) = let same = sym e ∙ same_failure false s ∙ f in cc
alike_marked s (marked {f = x} e then) (marked {f = y} f then) =
    let both = sym e ∙ same_failure false s ∙ f in
    let same : x ≡ y = cc in
    same_sequence (same_assign refl (same_constant (ap code_of same))) s

pub alike_renewed : {c : Option ℕ} {a b x y : Statement} → SameStatement a b → IsRenewed c a x → IsRenewed c b y → SameStatement x y
alike_renewed s not_renewed not_renewed = s
alike_renewed s (renewed then) (renewed then) = same_sequence s (same_assign refl (same_constant refl))

alike_reason : {names : Names} {x y : Option TextExpression} {e f : Expression} → AlikeReason x y → IsReason names x e → IsReason names y f → SameNumber e f
alike_reason T.no_reason no_reason no_reason = same_constant refl
alike_reason (T.reason x) (reason c) (reason d) = alike_number (form_of x) c.number_is d.number_is

pub alike_required : {readers : Readers} {names : Names} {f g : Form} {x y : Option TextExpression} {a b : Statement} → AlikeForm f g → AlikeReason x y → IsRequired readers names f x a →
    IsRequired readers names g y b → SameStatement a b
alike_required s r (required c w f) (required d v g) = same_if (alike_condition s c d) same_skip (alike_failure (alike_reason r w v) f g)
