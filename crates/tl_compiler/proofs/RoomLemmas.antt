-- Registers of operands and of statements.
use Rattle.std.proofs.Common.{◌≡◌, ℕ, ◌+◌, ◌<◌, Option, None, is_some, if◌then◌else◌, sym, ap, subst, arith}
use Rattle.tl_instr.specs.declared.operand.TheConstants.{VALUE_REGISTERS}
use Rattle.tl_syntax.specs.declared.operator.Operator.{Operator}
use Rattle.tl_lowering.specs.declared.program.Expression.{Expression}
use Rattle.tl_lowering.specs.declared.program.Expression.TheVariants as E
use Rattle.tl_lowering.specs.declared.program.Procedure.{Procedure}
use Rattle.tl_lowering.specs.declared.program.Statement.{Statement}
use Rattle.tl_lowering.specs.declared.program.Statement.TheVariants as S
use Rattle.tl_lowering.specs.Fit.{HasRoom, AllSlots}
use Rattle.tl_lowering.specs.Registers.{own_register, behind, HasTemporaries, HasRegisters}
use Rattle.tl_lowering.specs.Sound.{nodes_behind}
use Rattle.tl_compiler.specs.Rooms.{IsNumbered, IsReady, Fits}

-- ---- operands

pub free_register : (e : Expression) (t : ℕ) → HasRegisters e t → own_register e ≡ None → t < VALUE_REGISTERS
free_register e t has is =
    let next : behind e t ≡ t + 1 = ap (λ (o : Option ℕ). if is_some o then t else t + 1) is in
    omega (arith, has, next)

pub of_registers : (e : Expression) (t : ℕ) → HasRegisters e t → HasTemporaries e t
of_registers e t has = omega (arith, has)

pub left_fits : (e a b : Expression) (o : Operator) (p q : _) (t : ℕ) → HasTemporaries e t → e ≡ E.Calculated' o p a q b → HasRegisters a t
left_fits e a b o p q t has is =
    let h : HasTemporaries (E.Calculated' o p a q b) t = subst (λ e. HasTemporaries e t) is has in omega (arith, h)

pub right_fits : (e a b : Expression) (o : Operator) (p q : _) (t : ℕ) → HasTemporaries e t → e ≡ E.Calculated' o p a q b → HasRegisters b (behind a t)
right_fits e a b o p q t has is =
    let h : HasTemporaries (E.Calculated' o p a q b) t = subst (λ e. HasTemporaries e t) is has in omega (arith, h)

-- ---- statements

pub fits : (a : Statement) (d m : ℕ) → HasRoom a d → AllSlots a m → IsNumbered a d → Fits a d m
fits S.Skip d m r s n = tt
fits (S.Sequence' p a q b) d m (r, k) (s, t) (n, o) = (fits a d m r s n, fits b d m k t o)
fits (S.Assign v e) d m r s n = r
fits (S.Write x f e) d m r s n = r
fits (S.Emit e) d m r s n = r
fits (S.Free x) d m r s n = tt
fits (S.Descend x e) d m r s n = (r, s)
fits (S.Take x k) d m r s n = tt
fits S.Break d m r s n = tt
fits S.Return d m r s n = tt
fits S.Fail d m r s n = tt
fits (S.If' c p a q b) d m (c_has, r, k) (s, t) (n, o) = (c_has, fits a d m r s n, fits b d m k t o)
fits (S.Let' v e p a) d m (has, r) s (same, n) = (has, subst (λ x. Fits a (x + 1) m) (sym same) (fits a (d + 1) m r s n))
fits (S.LetElse' v e p a q b) d m (has, r, k) (s, t) (same, n, o) = (has, subst (λ x. Fits a (x + 1) m) (sym same) (fits a (d + 1) m r s n), fits b d m k t o)
fits (S.Lock' place p a q b) d m (has, r, k) (l, s, t) (n, o) = (has, fits a d (nodes_behind place) r s n, fits b d m k t o)
fits (S.Try' p a q b) d m (r, k) (s, t) (n, o) = (fits a d m r s n, fits b d m k t o)
fits (S.Repeat' w p a) d m r s n = fits a d m r s n
fits (S.RepeatUpTo' e w p a) d m (has, turn, r) s n = (has, turn, fits a d m r s n)
fits (S.At' offset p a) d m r s n = fits a d m r s n

pub procedure_fits : (p : Procedure) → IsReady p → Fits p.body p.arity 0
procedure_fits p r = fits p.body p.arity 0 (r.in_order).room (r.in_order).slots r.numbered
