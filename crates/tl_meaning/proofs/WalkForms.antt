-- What a loop over children is, whose turns leave its place and its node alone.
use Rattle.std.proofs.Common.{◌≡◌, ℕ, true, refl, ap, ap₂, ◌∙◌}
use Rattle.std.specs.Prelude.{ℤ, pos, negsuc, ◌&&◌, ◌<◌, ◌^◌, nat_eq, nat_lt}
use Rattle.std.specs.declared.alloc.Global.{Global}
use Rattle.std.specs.declared.boxed.Box.{Box}
use Rattle.std.proofs.lemmas.Bool.{eqb-true, ltb-true}
use Rattle.std.proofs.lemmas.Bool.Decides.{Decides-int_eq}
use Rattle.tl_instr.specs.declared.operand.TheConstants.{VALUE_REGISTERS}
use Rattle.tl_syntax.specs.declared.operator.Operator.TheVariants as O
use Rattle.tl_lowering.specs.declared.program.Expression.{Expression}
use Rattle.tl_lowering.specs.declared.program.Expression.TheVariants as E
use Rattle.tl_lowering.specs.declared.program.Place.{Place}
use Rattle.tl_lowering.specs.declared.program.Place.TheVariants as P
use Rattle.tl_lowering.specs.declared.program.Statement.{Statement}
use Rattle.tl_lowering.specs.declared.program.Statement.TheVariants as S
use Rattle.tl_lowering.specs.Walks.{leaves_alone, is_value, is_constant, is_step, is_fail, is_child, goes_through, is_walk}
use Rattle.tl_meaning.proofs.Walks.{both_are}

value_of : (e : Expression) (x : ℕ) → is_value e x ≡ true → e ≡ E.Value x
value_of (E.Value y) x h = ap E.Value (eqb-true y x h)
value_of e x h = cc

constant_of : (e : Expression) (w : ℤ) → is_constant e w ≡ true → e ≡ E.Constant w
constant_of (E.Constant v) w h = ap E.Constant ((Decides-int_eq v w).0 h)
constant_of e w h = cc

pub fail_of : (a : Statement) → is_fail a ≡ true → a ≡ S.Fail
fail_of S.Fail h = refl
fail_of a h = cc

-- an increase by 1
pub record Step (a : Statement) (x : ℕ) : Type 0 where
  pub left : Box (Unit {0}) Global
  pub right : Box (Unit {0}) Global
  pub is : a ≡ S.Assign x (E.Calculated' O.Add left (E.Value x) right (E.Constant (pos 1)))

pub step_of : (a : Statement) (x : ℕ) → is_step a x ≡ true → Step a x
step_of (S.Assign y (E.Calculated' O.Add p e q f)) x h =
    let both = both_are (is_value e x && is_constant f (pos 1)) (nat_eq y x) h in
    let more = both_are (is_value e x) (is_constant f (pos 1)) both.0 in
    record {
      left = p;
      right = q;
      is = ap (λ z. S.Assign z (E.Calculated' O.Add p e q f)) (eqb-true y x both.1) ∙ ap₂ (λ g k. S.Assign x (E.Calculated' O.Add p g q k)) (value_of e x more.0) (constant_of f (pos 1) more.1);
    }
step_of a x h = cc

pub record Kid (place : Place) (x n : ℕ) : Type 0 where
  pub child : ℕ
  pub is : place ≡ P.Child child n (E.Value x)

pub child_of : (place : Place) (x n : ℕ) → is_child place x n ≡ true → Kid place x n
child_of (P.Child c m e) x n h =
    let both = both_are (nat_eq m n) (is_value e x) h in
    record { child = c; is = ap₂ (λ k f. P.Child c k f) (eqb-true m n both.0) (value_of e x both.1) }
child_of place x n h = cc

-- what is known of such a loop
pub record Walk (x w n : ℕ) (step : Statement) (place : Place) (body other : Statement) : Type 0 where
  pub step_is : Step step x
  pub place_is : Kid place x n
  pub alone : leaves_alone body x n ≡ true
  pub other_is : other ≡ S.Fail
  pub room : x < VALUE_REGISTERS
  pub few : w < 2 ^ 16

pub walk_of : (x w n : ℕ) (step : Statement) (place : Place) (body other : Statement) (p q u k j : _) (e : Expression)
    → is_walk x e (S.RepeatUpTo' (E.Children n) w p (S.Sequence' q step u (S.Lock' place k body j other))) ≡ true → Walk x w n step place body other
walk_of x w n step place body other p q u k j e h =
    let lock = is_child place x n && (leaves_alone body x n && is_fail other) in
    let one = both_are (is_constant e (negsuc 0)) ((lock && is_step step x) && (nat_lt x VALUE_REGISTERS && nat_lt w (2 ^ 16))) h in
    let two = both_are (lock && is_step step x) (nat_lt x VALUE_REGISTERS && nat_lt w (2 ^ 16)) one.1 in
    let bounds = both_are (nat_lt x VALUE_REGISTERS) (nat_lt w (2 ^ 16)) two.1 in
    let turn = both_are lock (is_step step x) two.0 in
    let locks = both_are (is_child place x n) (leaves_alone body x n && is_fail other) turn.0 in
    let inner = both_are (leaves_alone body x n) (is_fail other) locks.1 in
    record {
      step_is = step_of step x turn.1;
      place_is = child_of place x n locks.0;
      alone = inner.0;
      other_is = fail_of other inner.1;
      room = ltb-true x VALUE_REGISTERS bounds.0;
      few = ltb-true w (2 ^ 16) bounds.1;
    }

-- the number before its first turn, and that its place has a register
pub walk_begins : (x : ℕ) (e : Expression) (a : Statement) → is_walk x e a ≡ true → (e ≡ E.Constant (negsuc 0)) × (x < VALUE_REGISTERS)
walk_begins x e (S.RepeatUpTo' count w p a) h =
    let one = both_are (is_constant e (negsuc 0)) (goes_through count a x && (nat_lt x VALUE_REGISTERS && nat_lt w (2 ^ 16))) h in
    let two = both_are (goes_through count a x) (nat_lt x VALUE_REGISTERS && nat_lt w (2 ^ 16)) one.1 in
    (constant_of e (negsuc 0) one.0, ltb-true x VALUE_REGISTERS (both_are (nat_lt x VALUE_REGISTERS) (nat_lt w (2 ^ 16)) two.1).0)
walk_begins x e a h = cc
