-- Alike numbers, conditions, places and actions of a text have the same core form, except for the memory that its parts occupy.
use Rattle.std.proofs.Common.{◌≡◌, ◌∙◌, ℕ, zero, suc, ◌/◌, List, [], ◌∷◌, ◌++◌, length, take, drop, Option, Some, ℤ, pos, refl, sym, ap, ap₂, subst, arith}
use Rattle.std.specs.Prelude.{int_div, int_rem}
use Rattle.std.proofs.lemmas.List.{same_from_push}
use Rattle.tl_syntax.specs.declared.operator.Operator.{Operator}
use Rattle.tl_syntax.specs.declared.operator.Operator.TheVariants as O
use Rattle.tl_syntax.specs.declared.parsed.Comparison.{Comparison}
use Rattle.tl_syntax.specs.declared.parsed.Comparison.TheVariants as K
use Rattle.tl_syntax.specs.declared.parsed.Change.{Change}
use Rattle.tl_syntax.specs.declared.parsed.Change.TheVariants as H
use Rattle.tl_syntax.specs.declared.parsed.Form.{Form}
use Rattle.tl_syntax.specs.declared.parsed.Expression.{Expression as TextExpression}
use Rattle.tl_syntax.specs.declared.parsed.Write.{Write}
use Rattle.tl_syntax.specs.declared.parsed.Action.{Action}
use Rattle.tl_syntax.specs.declared.parsed.Place.{Place as TextPlace}
use Rattle.tl_syntax.specs.Alike as T
use Rattle.tl_syntax.specs.Alike.{AlikeForm, AreAlike, AlikePlace, AlikeWrite, AlikeWrites, AlikeAction}
use Rattle.tl_syntax.proofs.AlikeForms.{form_of, same_rank, same_plain, same_first, same_second, same_operator, same_comparison}
use Rattle.tl_syntax.proofs.AlikeParts.{same_action_rank, assign_of, write_of, emit_of, require_of, descend_of, take_of, free_of, leave_of}
use Rattle.tl_lowering.specs.declared.program.Condition.{Condition}
use Rattle.tl_lowering.specs.declared.program.Condition.TheVariants as C
use Rattle.tl_lowering.specs.declared.program.Expression.{Expression}
use Rattle.tl_lowering.specs.declared.program.Expression.TheVariants as E
use Rattle.tl_lowering.specs.declared.program.Place.{Place}
use Rattle.tl_lowering.specs.declared.program.Statement.{Statement}
use Rattle.tl_lowering.specs.Alike.{SameNumber, same_constant, same_value, same_field, same_children, same_operation, SameCondition, same_less, same_greater, same_equal, same_not, same_and, SamePlace, same_node, same_child, same_pair, SameStatement, same_skip, same_sequence, same_assign, same_write, same_emit, same_free, same_descend, same_take, same_break, same_return, same_fail, same_if, same_let, AllSame, none_same, more_same}
use Rattle.tl_lowering.specs.Names.{Names, stands_for, field_named, with_node, with_place}
use Rattle.tl_lowering.specs.Naming.{IsCalculated, calculated, IsNumber, number, constant, is_narrow, IsLiteral, short_number, long_number, value, index, field, children, negated, operation, folded, IsConstant, written, known, opposed, combined, IsCount, count, IsNot, opposite, IsBoth, together, IsComparison, IsCondition, comparison, negation, conjunction, disjunction, IsPlace, node, child, pair, IsThen, then, IsHalved, none, one, more, IsChanged, AreEmits, no_emits, next_emit, IsUpdate, AreWritten, all_computed, next_computed, IsWritten, one_write, several_writes, IsAction, assigns, writes, emits, descends, takes, frees, breaks, returns}

-- ---- numbers and conditions

number_of : {o r : Operator} {a b c d e f : Expression} → o ≡ r → SameNumber a c → SameNumber b d → IsCalculated o a b e → IsCalculated r c d f → SameNumber e f
number_of same x y calculated calculated = same_operation same x y

literal_of : {v w : ℤ} {e f : Expression} → v ≡ w → IsLiteral v e → IsLiteral w f → SameNumber e f
literal_of same (short_number b) (short_number c) = same_constant same
literal_of same (short_number b) (long_number c l m n) = let e = ap is_narrow same in cc
literal_of same (long_number c l m n) (short_number b) = let e = ap is_narrow same in cc
literal_of same (long_number b i c d) (long_number e l m n) =
    number_of refl (number_of refl (literal_of (ap (λ z. int_div z (pos 65536)) same) i l) (same_constant refl) c m) (same_constant (ap (λ z. int_rem z (pos 65536)) same)) d n

pub alike_number : {names : Names} {form other : Form} {e f : Expression} → AlikeForm form other → IsNumber names form e → IsNumber names other f → SameNumber e f
alike_number s (number l) (number m) = let same = same_plain (omega arith) s in literal_of (cc) l m
alike_number {names} s (constant {name = x} g l) (constant {name = y} h m) =
    let same = same_plain (omega arith) s in let n : x ≡ y = cc in let w = sym g ∙ ap (stands_for names) n ∙ h in literal_of (cc) l m
alike_number {names} s (constant {name = x} g l) (value {name = y} h) =
    let same = same_plain (omega arith) s in let n : x ≡ y = cc in let w = sym g ∙ ap (stands_for names) n ∙ h in cc
alike_number {names} s (constant {name = x} g l) (index {name = y} h) =
    let same = same_plain (omega arith) s in let n : x ≡ y = cc in let w = sym g ∙ ap (stands_for names) n ∙ h in cc
alike_number {names} s (value {name = x} g) (constant {name = y} h m) =
    let same = same_plain (omega arith) s in let n : x ≡ y = cc in let w = sym g ∙ ap (stands_for names) n ∙ h in cc
alike_number {names} s (value {name = x} g) (value {name = y} h) =
    let same = same_plain (omega arith) s in let n : x ≡ y = cc in let w = sym g ∙ ap (stands_for names) n ∙ h in same_value cc
alike_number {names} s (value {name = x} g) (index {name = y} h) =
    let same = same_plain (omega arith) s in let n : x ≡ y = cc in let w = sym g ∙ ap (stands_for names) n ∙ h in cc
alike_number {names} s (index {name = x} g) (constant {name = y} h m) =
    let same = same_plain (omega arith) s in let n : x ≡ y = cc in let w = sym g ∙ ap (stands_for names) n ∙ h in cc
alike_number {names} s (index {name = x} g) (value {name = y} h) =
    let same = same_plain (omega arith) s in let n : x ≡ y = cc in let w = sym g ∙ ap (stands_for names) n ∙ h in cc
alike_number {names} s (index {name = x} g) (index {name = y} h) =
    let same = same_plain (omega arith) s in let n : x ≡ y = cc in let w = sym g ∙ ap (stands_for names) n ∙ h in same_value cc
alike_number {names} s (field {node = x} {field = y} g i) (field {node = z} {field = v} h j) =
    let same = same_plain (omega arith) s in
    let n : x ≡ z = cc in let m : y ≡ v = cc in
    let w = sym g ∙ ap (stands_for names) n ∙ h in let u = sym i ∙ ap (field_named names) m ∙ j in same_field (cc) (cc)
alike_number {names} s (children {node = x} g) (children {node = y} h) =
    let same = same_plain (omega arith) s in let n : x ≡ y = cc in let w = sym g ∙ ap (stands_for names) n ∙ h in same_children cc
alike_number s (negated n c) (negated m d) = number_of refl (same_constant refl) (alike_number (same_first s) n m) c d
alike_number s (operation n m c) (operation k l d) = number_of (same_operator s) (alike_number (same_first s) n k) (alike_number (same_second s) m l) c d
alike_number s x y = absurd (omega (arith, same_rank s))

not_of : {a b c d : Condition} → SameCondition a b → IsNot a c → IsNot b d → SameCondition c d
not_of x opposite opposite = same_not x

both_of : {a b c d e f : Condition} → SameCondition a c → SameCondition b d → IsBoth a b e → IsBoth c d f → SameCondition e f
both_of x y together together = same_and x y

compared_of : (k : Comparison) (a b c d : Expression) (e f : Condition) → SameNumber a c → SameNumber b d → IsComparison k a b e → IsComparison k c d f → SameCondition e f
compared_of K.Less a b c d e f x y g h = subst (λ z. SameCondition z f) (sym g) (subst (SameCondition (C.Less a b)) (sym h) (same_less x y))
compared_of K.LessOrEqual a b c d e f x y g h = not_of (same_greater x y) g h
compared_of K.Greater a b c d e f x y g h = subst (λ z. SameCondition z f) (sym g) (subst (SameCondition (C.Greater a b)) (sym h) (same_greater x y))
compared_of K.GreaterOrEqual a b c d e f x y g h = not_of (same_less x y) g h
compared_of K.Equal a b c d e f x y g h = subst (λ z. SameCondition z f) (sym g) (subst (SameCondition (C.Equal a b)) (sym h) (same_equal x y))
compared_of K.NotEqual a b c d e f x y g h = not_of (same_equal x y) g h

pub alike_condition : {names : Names} {form other : Form} {c d : Condition} → AlikeForm form other → IsCondition names form c → IsCondition names other d → SameCondition c d
alike_condition s (comparison {k = k} {c = c} g) (comparison {k = l} {c = d} h) =
    let same : k ≡ l = same_comparison s in
    compared_of k g.left g.right h.left h.right c d (alike_number (same_first s) g.left_is h.left_is)
    (alike_number (same_second s) g.right_is h.right_is) g.condition_is (subst (λ z. IsComparison z h.left h.right d) (sym same) h.condition_is)
alike_condition s (negation c o) (negation d q) = not_of (alike_condition (same_first s) c d) o q
alike_condition s (conjunction a b o) (conjunction c d q) = both_of (alike_condition (same_first s) a c) (alike_condition (same_second s) b d) o q
alike_condition s (disjunction a b m n o w) (disjunction c d u v q z) =
    not_of (both_of (not_of (alike_condition (same_first s) a c) m u) (not_of (alike_condition (same_second s) b d) n v) o q) w z
alike_condition s x y = absurd (omega (arith, same_rank s))

some_same : {v w : ℤ} {o : Option ℤ} → o ≡ Some v → o ≡ Some w → v ≡ w
some_same e f = cc

pub alike_constant : {names : Names} {form other : Form} {v w : ℤ} → AlikeForm form other → IsConstant names form v → IsConstant names other w → v ≡ w
alike_constant s written written = let same = same_plain (omega arith) s in cc
alike_constant {names} s (known {name = x} g) (known {name = y} h) =
    let same = same_plain (omega arith) s in let n : x ≡ y = cc in let w = sym g ∙ ap (stands_for names) n ∙ h in cc
alike_constant s (opposed i e) (opposed j f) = some_same e (ap (folded O.Subtract (pos 0)) (alike_constant (same_first s) i j) ∙ f)
alike_constant s (combined {operator = o} {u = u} {v = v} i k e) (combined {operator = r} {u = x} {v = y} j l f) =
    some_same e (ap (λ z. folded z u v) (same_operator s) ∙ ap₂ (folded r) (alike_constant (same_first s) i j) (alike_constant (same_second s) k l) ∙ f)
alike_constant s x y = absurd (omega (arith, same_rank s))

pub alike_count : {names : Names} {form other : Form} {w v : ℕ} → AlikeForm form other → IsCount names form w → IsCount names other v → w ≡ v
alike_count s (count a b i) (count c d j) = let same = alike_constant s i j in cc

-- ---- places and actions

pub alike_place : {names : Names} {text other : TextPlace} {p q : Place} → AlikePlace text other → IsPlace names text p → IsPlace names other q → SamePlace p q
alike_place (T.node x) (node a b n c) (node d e m f) = same_node refl (alike_number (form_of x) n m)
alike_place {names} (T.child x) (child a b g n c) (child d e h m f) =
    let w = sym g ∙ ap (stands_for names) x.parent ∙ h in same_child refl (cc) (alike_number (form_of x.number) n m)
alike_place {names} (T.pair x y) (pair a b c g i n d k e) (pair f j l h o m p q r) =
    let w = sym g ∙ ap (stands_for names) x.parent ∙ h in same_pair refl refl (cc) (alike_number (form_of x.number) n m) (alike_number (form_of y.number) k q)

-- alike places declare the same names
pub same_names : (names : Names) {text other : TextPlace} → AlikePlace text other → with_place names text ≡ with_place names other
same_names names (T.node x) = refl
same_names names (T.child x) = ap (with_node names) x.name
same_names names (T.pair {a = a} {d = d} x y) = ap (with_node (with_node names a.name)) y.name ∙ ap (λ n. with_node (with_node names n) d.name) x.name

alike_changed : (change : Change) {old new a b e f : Expression} → SameNumber old new → SameNumber a b → IsChanged old change a e → IsChanged new change b f → SameNumber e f
alike_changed H.Set {a = a} {f = f} x y g h = subst (λ z. SameNumber z f) (sym g) (subst (SameNumber a) (sym h) y)
alike_changed H.Add x y g h = number_of refl x y g h
alike_changed H.Subtract x y g h = number_of refl x y g h

push_same : {xs ys : List Statement} {a b : Statement} → AllSame xs ys → SameStatement a b → AllSame (xs ++ a ∷ []) (ys ++ b ∷ [])
push_same none_same x = more_same x none_same
push_same (more_same y h) x = more_same y (push_same h x)

not_empty : (xs : List TextExpression) (a : TextExpression) → [] ≡ xs ++ a ∷ [] → ⊥
not_empty [] a e = cc
not_empty (x ∷ xs) a e = cc

alike_emits : {names : Names} {xs ys zs ws : List TextExpression} {es fs : List Statement} → AreAlike zs ws → zs ≡ xs → ws ≡ ys → AreEmits names xs es → AreEmits names ys fs → AllSame es fs
alike_emits T.none e f no_emits no_emits = none_same
alike_emits T.none e f no_emits (next_emit {xs = ys} b h n has) = absurd (not_empty ys b f)
alike_emits T.none e f (next_emit {xs = xs} a h n has) y = absurd (not_empty xs a e)
alike_emits (T.next {es = zs} {e = z} x y) e f no_emits t = absurd (not_empty zs z (sym e))
alike_emits (T.next {fs = ws} {f = w} x y) e f s no_emits = absurd (not_empty ws w (sym f))
alike_emits {names} (T.next {es = zs} {fs = ws} {e = z} {f = w} x y) e f (next_emit {xs = xs} {e = v} a g n has) (next_emit {xs = ys} {e = u} b h m its) =
    let first = same_from_push zs xs z a e in
    let second = same_from_push ws ys w b f in
    push_same (alike_emits x first.0 second.0 g h) (same_emit (alike_number (form_of y) (subst (λ (z : TextExpression). IsNumber names z.form v) (sym first.1) n)
    (subst (λ (z : TextExpression). IsNumber names z.form u) (sym second.1) m)))

-- ---- statements one after another

length_same : {xs ys : List Statement} → AllSame xs ys → length xs ≡ length ys
length_same none_same = refl
length_same (more_same x h) = ap suc (length_same h)

take_same : (n : ℕ) {xs ys : List Statement} → AllSame xs ys → AllSame (take n xs) (take n ys)
take_same zero h = none_same
take_same (suc n) none_same = none_same
take_same (suc n) (more_same x h) = more_same x (take_same n h)

drop_same : (n : ℕ) {xs ys : List Statement} → AllSame xs ys → AllSame (drop n xs) (drop n ys)
drop_same zero h = h
drop_same (suc n) none_same = none_same
drop_same (suc n) (more_same x h) = drop_same n h

then_of : {a b c d e f : Statement} → SameStatement a c → SameStatement b d → IsThen a b e → IsThen c d f → SameStatement e f
then_of x y then then = same_sequence x y

pub alike_halved : {xs ys : List Statement} {a b : Statement} → AllSame xs ys → IsHalved a xs → IsHalved b ys → SameStatement a b
alike_halved h none none = same_skip
alike_halved h none (more {xs = ys} long s t w) = let l = length_same h in absurd (omega arith)
alike_halved (more_same x h) one one = x
alike_halved h none one = elim h [ ]
alike_halved h one none = elim h [ ]
alike_halved h one (more {xs = ys} long s t w) = let l = length_same h in absurd (omega arith)
alike_halved h (more {xs = xs} long s t w) none = let l = length_same h in absurd (omega arith)
alike_halved h (more {xs = xs} long s t w) one = let l = length_same h in absurd (omega arith)
alike_halved {xs} {ys} h (more {a = a} {b = b} long s t w) (more {a = c} {b = d} more_long u v z) =
    let n : length ys / 2 ≡ length xs / 2 = ap (λ m. m / 2) (sym (length_same h)) in
    then_of (alike_halved (take_same (length xs / 2) h) s (subst (λ m. IsHalved c (take m ys)) n u))
    (alike_halved (drop_same (length xs / 2) h) t (subst (λ m. IsHalved d (drop m ys)) n v)) w z

-- ---- writes

alike_update : {names : Names} {v w : Write} {n m k l : ℕ} {e f : Expression} → AlikeWrite v w → IsUpdate names v n k e → IsUpdate names w m l f → (n ≡ m) × (k ≡ l) × SameNumber e f
alike_update {names} {v} {w} {n} {m} {k} {l} {e} {f} x a b =
    let node = sym a.node_is ∙ ap (stands_for names) x.node ∙ b.node_is in
    let field = sym a.field_is ∙ ap (field_named names) x.field ∙ b.field_is in (
      cc,
      cc,
      alike_changed v.change (same_field (cc) (cc)) (alike_number (form_of x.value) a.operand_is b.operand_is) a.new_is
          (subst (λ z. IsChanged (E.Field m l) z b.operand f) (sym x.change) b.new_is),
    )

alike_computed : {names : Names} {vs ws : List Write} {t : ℕ} {a b x y : Statement} → AlikeWrites vs ws → AreWritten names t vs a x → AreWritten names t ws b y → SameStatement a b → SameStatement x y
alike_computed T.no_writes all_computed all_computed s = s
alike_computed (T.more_writes x h) (next_computed u apart lt has then rest) (next_computed o others_apart below its then others) s =
    let same = alike_update x u o in
    same_let refl same.2 (alike_computed h rest others (same_sequence s (same_write same.0 same.1 (same_value refl))))

alike_written : {names : Names} {v w : Write} {vs ws : List Write} {a b : Statement} → AlikeWrite v w → AlikeWrites vs ws → IsWritten names v vs a → IsWritten names w ws b → SameStatement a b
alike_written x h (one_write u has) (one_write o its) = let same = alike_update x u o in same_write same.0 same.1 same.2
alike_written x h (several_writes a) (several_writes b) = alike_computed (T.more_writes x h) a b same_skip
alike_written x h (one_write u has) (several_writes b) = elim h [ ]
alike_written x h (several_writes a) (one_write o its) = elim h [ ]

pub alike_action : {names : Names} {action other : Action} {a b : Statement} → AlikeAction action other → IsAction names action a → IsAction names other b → SameStatement a b
alike_action {names} s (assigns {change = change} g n c has) (assigns {x = y} {e = e} {f = f} h m d its) =
    let same = assign_of s in let w = sym g ∙ ap (stands_for names) same.0 ∙ h in
    same_assign (cc) (alike_changed change (same_value cc) (alike_number same.2 n m) c (subst (λ z. IsChanged (E.Value y) z e f) (sym same.1) d))
alike_action s (writes g) (writes h) = let same = write_of s in alike_written same.0 same.1 g h
alike_action s (emits g) (emits h) = alike_halved (alike_emits (emit_of s) refl refl g.each h.each) g.joined h.joined
alike_action {names} s (descends a g n has) (descends b h m its) =
    let same = descend_of s in let w = sym g ∙ ap (stands_for names) same.0 ∙ h in same_descend (cc) (alike_number same.1 n m)
alike_action {names} s (takes g i) (takes h j) =
    let same = take_of s in
    let w = sym g ∙ ap (stands_for names) same.0 ∙ h in let v = sym i ∙ ap (stands_for names) same.1 ∙ j in same_take (cc) (cc)
alike_action {names} s (frees g) (frees h) = let w = sym g ∙ ap (stands_for names) (free_of s) ∙ h in same_free cc
alike_action s (breaks a) (breaks b) = same_break
alike_action s returns returns = same_return
alike_action s (breaks a) returns = let no = leave_of s in cc
alike_action s returns (breaks b) = let no = leave_of s in cc
alike_action s x y = absurd (omega (arith, same_action_rank s))
