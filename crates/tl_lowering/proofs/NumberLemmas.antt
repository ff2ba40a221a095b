-- Core forms of numbers and conditions, for parts in boxes.
use Rattle.std.proofs.Common.{◌≡◌, ◌≢◌, ◌∙◌, ℕ, ◌<◌, ◌≤◌, ◌+◌, ℤ, pos, negsuc, List, [], ◌∷◌, ◌++◌, take, length, get_or, Some, None, refl, sym, ap, subst, arith}
use Rattle.std.specs.Prelude.{nat_abs}
use Rattle.std.specs.Int.{FitsUnsignedBits}
use Rattle.std.specs.declared.vec.Vec.{Vec}
use Rattle.std.specs.declared.alloc.Global.{Global}
use Rattle.tl_syntax.specs.declared.parsed.Name.{Name}
use Rattle.tl_syntax.specs.declared.parsed.Child.{Child}
use Rattle.tl_syntax.specs.declared.parsed.Place.TheVariants as T
use Rattle.std.proofs.lemmas.List.{take_more, get_or-set_other}
use Rattle.tl_lowering.specs.declared.paths.Flow.{Flow}
use Rattle.tl_lowering.specs.declared.paths.Held.{Held}
use Rattle.tl_lowering.specs.Paths.{Paths, nodes_of, paths_of, on}
use Rattle.tl_lowering.specs.Scopes.{View}
use Rattle.tl_lowering.proofs.NamingLemmas.{AreEmitted}
use Rattle.tl_lowering.specs.declared.program.Place.TheVariants as P
use Rattle.tl_syntax.specs.declared.parsed.Form.{Form}
use Rattle.tl_syntax.specs.declared.parsed.Expression.{Expression as TextExpression}
use Rattle.tl_syntax.specs.declared.operator.Operator.{Operator}
use Rattle.tl_lowering.specs.declared.program.Expression.{Expression}
use Rattle.tl_lowering.specs.declared.program.Expression.TheVariants as E
use Rattle.tl_lowering.specs.declared.program.Condition.{Condition}
use Rattle.tl_lowering.specs.declared.program.Condition.TheVariants as C
use Rattle.tl_lowering.specs.declared.scope.Meaning.TheVariants as M
use Rattle.tl_lowering.specs.Registers.{behind, HasRegisters}
use Rattle.tl_lowering.specs.Names.{Names, stands_for, IsNew, HasNode, with_node}
use Rattle.tl_syntax.specs.declared.parsed.Action.TheVariants as A
use Rattle.tl_lowering.specs.declared.program.Statement.{Statement}
use Rattle.tl_lowering.specs.declared.program.Statement.TheVariants as S
use Rattle.tl_lowering.specs.Naming.{IsAction, AreEmits, no_emits, next_emit, Emits, emits, Locks, IsPlace, node, child, pair, IsCalculated, calculated, IsNumber, IsConstant, IsCount, count, IsNot, opposite, IsBoth, together, IsCompared, IsCondition}
use Rattle.tl_syntax.specs.declared.parsed.Comparison.{Comparison}

pub calculated_of : {p q : _} {o : Operator} {l r a b : Expression} → l ≡ a → r ≡ b → IsCalculated o a b (E.Calculated' o p l q r)
calculated_of {p} {q} {o} {l} {r} {a} {b} e f =
    subst (λ z. IsCalculated o z b (E.Calculated' o p l q r)) e (subst (λ z. IsCalculated o l z (E.Calculated' o p l q r)) f calculated)

pub not_of : {p : _} {a b : Condition} → a ≡ b → IsNot b (C.Not' p a)
not_of {p} {a} {b} e = subst (λ z. IsNot z (C.Not' p a)) e opposite

pub both_of : {p q : _} {a b c d : Condition} → a ≡ c → b ≡ d → IsBoth c d (C.And' p a q b)
both_of {p} {q} {a} {b} {c} {d} e f =
    subst (λ z. IsBoth z d (C.And' p a q b)) e (subst (λ z. IsBoth a z (C.And' p a q b)) f together)

pub number_at : {names : Names} {a b : TextExpression} {e : Expression} → a ≡ b → IsNumber names a.form e → IsNumber names b.form e
number_at {names} {e = e} h = subst (λ (z : TextExpression). IsNumber names z.form e) h

pub constant_at : {names : Names} {a b : TextExpression} {w : ℤ} → a ≡ b → IsConstant names a.form w → IsConstant names b.form w
constant_at {names} {w = w} h = subst (λ (z : TextExpression). IsConstant names z.form w) h

pub condition_at : {names : Names} {a b : TextExpression} {c : Condition} → a ≡ b → IsCondition names a.form c → IsCondition names b.form c
condition_at {names} {c = c} h = subst (λ (z : TextExpression). IsCondition names z.form c) h

pub compared_at : {names : Names} {k : Comparison} {a b x y : TextExpression} {c : Condition} → a ≡ x → b ≡ y → IsCompared names k a.form b.form c → IsCompared names k x.form y.form c
compared_at e f h = record { left = h.left; right = h.right; left_is = number_at e h.left_is; right_is = number_at f h.right_is; left_fits = h.left_fits; right_fits = h.right_fits; condition_is = h.condition_is }

-- ---- how often a loop may turn

counted : (z w : ℤ) (t : ℕ) → FitsUnsignedBits 16 z → t ≡ nat_abs z → z ≡ w → w ≡ pos t
counted (pos n) w t f e g = sym g ∙ ap pos (sym e)
counted (negsuc n) w t f e g = absurd f

at_most : (z : ℤ) (t : ℕ) → FitsUnsignedBits 16 z → t ≡ nat_abs z → t ≤ 65535
at_most (pos n) t f e = omega arith
at_most (negsuc n) t f e = absurd f

pub counts : {names : Names} {form : Form} {w : ℤ} (z : ℤ) (t : ℕ) → 0 < t → FitsUnsignedBits 16 z → t ≡ nat_abs z → z ≡ w → IsConstant names form w → IsCount names form t
counts {names} {form} {w} z t lt f e g h = count lt (at_most z t f e) (subst (IsConstant names form) (counted z w t f e g) h)

-- ---- a condition that must be true

pub emits_at : {names : Names} {whole : Statement} (xs : Vec TextExpression Global) {ys : List TextExpression} → ys ≡ xs.items → Emits names ys whole → IsAction names (A.Emit xs) whole
emits_at {names} {whole} xs e h = emits (subst (λ z. Emits names z whole) e h)

-- ---- what is locked

pub node_locks : {names : Names} {name : Name} {offset r : ℕ} {x : TextExpression} {e : Expression} {h : Held} → IsNew names name → HasNode names → r ≡ names.nodes → IsNumber names x.form e
    → HasRegisters e names.values → Locks names (T.Node name offset x) (record { place = P.Node r e; first = (name, r); second = None; held = h })
node_locks {names} {name} {offset} {r} {x} {e} new room f n has = record { place_is = subst (λ z. IsPlace names (T.Node name offset x) (P.Node z e)) (sym f) (node new room n has); names_are = refl }

pub child_locks : {names : Names} {c : Child} {r n : ℕ} {e : Expression} {h : Held} → IsNew names c.name → HasNode names → r ≡ names.nodes → stands_for names c.parent ≡ M.Node n
    → IsNumber names c.number.form e → HasRegisters e names.values → Locks names (T.Child c) (record { place = P.Child r n e; first = (c.name, r); second = None; held = h })
child_locks {names} {c} {r} {n} {e} new room f p i has = record { place_is = subst (λ z. IsPlace names (T.Child c) (P.Child z n e)) (sym f) (child new room p i has); names_are = refl }

pub pair_locks : {names : Names} {c d : Child} {r s n : ℕ} {e f : Expression} {h : Held} → IsNew names c.name → IsNew (with_node names c.name) d.name → HasNode (with_node names c.name) → r ≡ names.nodes → s ≡ names.nodes + 1 → stands_for names c.parent ≡ M.Node n
    → stands_for names d.parent ≡ M.Node n → IsNumber names c.number.form e → HasRegisters e names.values → IsNumber names d.number.form f
    → HasRegisters f (behind e names.values)
    → Locks names (T.Pair c d) (record { place = P.Pair r s n e f; first = (c.name, r); second = Some (d.name, s); held = h })
pair_locks {names} {c} {d} {r} {s} {n} {e} {f} new other room x y p q i has j more = record {
  place_is = subst (λ z. IsPlace names (T.Pair c d) (P.Pair z s n e f)) (sym x) (subst (λ z. IsPlace names (T.Pair c d) (P.Pair names.nodes z n e f)) (sym y) (pair new other room p q i has j more));
  names_are = refl;
}

-- two names that are new and differ
pub new_beside : (names : Names) (c d : Name) → d.symbol.0 ≢ c.symbol.0 → IsNew names d → IsNew (with_node names c) d
new_beside names c d ne new = get_or-set_other names.meanings c.symbol.0 d.symbol.0 (M.Node names.nodes) M.Nothing ne ∙ new

-- ---- several values to emit

pub none_emits : {names : Names} {ys : List Statement} → ys ≡ [] → AreEmits names [] ys
none_emits {names} e = subst (AreEmits names []) (sym e) no_emits

pub none_emitted : (scope : View) (held : Held) (ys : List Statement) (flow : Flow) → ys ≡ [] → paths_of flow ≡ on (nodes_of held) → AreEmitted scope held ys flow
none_emitted scope held ys flow e p =
    subst (λ z. AreEmitted scope held z flow) (sym e) (record { sound = tt; after = ap (λ (q : Paths). q.after) p; paths = p })

pub more_emits : {names : Names} {old new : List Statement} {e : Expression} (xs : List TextExpression) (i : ℕ) (x : TextExpression) → i < length xs
    → x ≡ get_or xs i x → new ≡ old ++ S.Emit e ∷ [] → AreEmits names (take i xs) old → IsNumber names x.form e → HasRegisters e names.values → AreEmits names (take (i + 1) xs) new
more_emits {names} {old} {new} xs i x lt f g a n has =
    let h : take (i + 1) xs ≡ take i xs ++ x ∷ [] = take_more xs i x lt ∙ ap (λ z. take i xs ++ z ∷ []) (sym f) in
    subst (λ z. AreEmits names z new) (sym h) (subst (AreEmits names (take i xs ++ x ∷ [])) (sym g) (next_emit x a n has))
