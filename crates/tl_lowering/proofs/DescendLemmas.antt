-- The nodes from which a statement descends, as the bits of a byte, and where a loop begins.
use Rattle.std.proofs.Common.{◌≡◌, ◌≢◌, ℕ, zero, suc, [], ◌∷◌, Bool, true, false, ◌&&◌, ◌⊎◌, inl, inr, refl, sym, ap, ap₂, ◌∙◌, subst, arith}
use Rattle.std.specs.Prelude.{◌||◌, not, nat_eq}
use Rattle.std.proofs.lemmas.Bool.{eq-eqb, ne_eqb, cases_eq}
use Rattle.std.proofs.lemmas.List.{get_or-set_other}
use Rattle.tl_lowering.specs.declared.loops.Repetition.{Repetition}
use Rattle.tl_lowering.specs.declared.loops.Repetition.TheVariants as R
use Rattle.tl_lowering.specs.declared.paths.Held.{Held}
use Rattle.tl_lowering.specs.declared.program.Place.{Place}
use Rattle.tl_lowering.specs.declared.program.Statement.{Statement}
use Rattle.tl_lowering.specs.Alike.{SamePlace, same_node, same_child, same_pair, SameStatement, same_skip, same_sequence, same_assign, same_write, same_emit, same_free, same_descend, same_take, same_break, same_return, same_fail, same_if, same_let, same_let_else, same_lock, same_try, same_repeat, same_repeat_up_to, same_at}
use Rattle.tl_lowering.specs.Entering.{before_of, before_turns, turn_descends}
use Rattle.tl_lowering.specs.Passing.{locks_in, descends_from, registers}
use Rattle.tl_lowering.specs.Paths.{bits, passed_of}
use Rattle.tl_lowering.specs.Sets.{Nodes, holds, without_node, minus}
use Rattle.tl_lowering.proofs.BitLemmas.{bits_are}

-- a register that is taken out of a set
pub taken_out : (h : Nodes) (k n : ℕ) → holds (without_node h k) n ≡ (holds h n && not (nat_eq k n))
taken_out h k n = by (cases_eq k n)
  where
    none : (x b : Bool) → b ≡ true → false ≡ (x && not b)
    none true b e = ap not (sym e)
    none false b e = refl

    all : (x b : Bool) → b ≡ false → x ≡ (x && not b)
    all true b e = ap not (sym e)
    all false b e = refl

    gone : (h : Nodes) (i : ℕ) → holds (without_node h i) i ≡ false
    gone [] i = refl
    gone (x ∷ h) zero = refl
    gone (x ∷ h) (suc i) = gone h i

    by : (k ≡ n) ⊎ (k ≢ n) → holds (without_node h k) n ≡ (holds h n && not (nat_eq k n))
    by (inl e) = ap (holds (without_node h k)) (sym e) ∙ gone h k ∙ none (holds h n) (nat_eq k n) (eq-eqb k n e)
    by (inr ne) = get_or-set_other h k n false false (λ e. ne (sym e)) ∙ all (holds h n) (nat_eq k n) (ne_eqb k n ne)

-- and another one
pub neither : (x a b : Bool) → ((x && not a) && not b) ≡ (x && not (a || b))
neither true true b = refl
neither true false b = refl
neither false a b = refl

-- a loop begins without the nodes from which its turns descend
pub turns_begin : (held start : Held) (repetition : Repetition) (nodes : ℕ) (body : Statement) → ((n : ℕ) → holds (bits nodes) n ≡ turn_descends repetition body n)
    → start.is_entered ≡ held.is_entered → passed_of start ≡ minus (passed_of held) (bits nodes) → before_of start ≡ before_turns repetition body (before_of held)
turns_begin held start repetition nodes body says same passed =
    let are : bits nodes ≡ registers (turn_descends repetition body) = bits_are nodes (turn_descends repetition body) says in
    ap₂ (λ e p. record { entered = e; passed = p }) same (passed ∙ ap (minus (passed_of held)) are)

-- ---- statements that are the same but for memory

same_locks : {p q : Place} (n : ℕ) → SamePlace p q → locks_in p n ≡ locks_in q n
same_locks n (same_node e x) = ap (λ k. nat_eq k n) e
same_locks n (same_child e r x) = ap (λ k. nat_eq k n) e
same_locks n (same_pair e f r x y) = ap₂ (λ k l. nat_eq k n || nat_eq l n) e f

either_same : {x y v w : Bool} → x ≡ v → y ≡ w → (x || y) ≡ (v || w)
either_same e f = ap₂ (λ a b. a || b) e f

pub same_descents : {a b : Statement} (n : ℕ) → SameStatement a b → descends_from a n ≡ descends_from b n
same_descents n same_skip = refl
same_descents n (same_sequence x y) = either_same (same_descents n x) (same_descents n y)
same_descents n (same_assign e x) = refl
same_descents n (same_write e f x) = refl
same_descents n (same_emit x) = refl
same_descents n (same_free e) = refl
same_descents n (same_descend e x) = ap (λ k. nat_eq k n) e
same_descents n (same_take e f) = ap (λ k. nat_eq k n) e
same_descents n same_break = refl
same_descents n same_return = refl
same_descents n same_fail = refl
same_descents n (same_if c x y) = either_same (same_descents n x) (same_descents n y)
same_descents n (same_let e c x) = same_descents n x
same_descents n (same_let_else e c x y) = either_same (same_descents n x) (same_descents n y)
same_descents n (same_lock l x y) = either_same (ap₂ (λ d i. d && not i) (same_descents n x) (same_locks n l)) (same_descents n y)
same_descents n (same_try x y) = either_same (same_descents n x) (same_descents n y)
same_descents n (same_repeat e x) = same_descents n x
same_descents n (same_repeat_up_to c e x) = same_descents n x
same_descents n (same_at e x) = same_descents n x

pub same_turn : (r : Repetition) {a b : Statement} (n : ℕ) → SameStatement a b → turn_descends r a n ≡ turn_descends r b n
same_turn (R.Times w) n x = same_descents n x
same_turn (R.UpTo e w) n x = same_descents n x
same_turn (R.Children v) n x = ap (λ d. d && not (nat_eq v.child n)) (same_descents n x)
