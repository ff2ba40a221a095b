-- What may fail, in the places where code finds it.
use Rattle.std.proofs.Common.{◌≡◌, ℕ, ◌+◌, ◌<◌, List, length, get_or, take, Bool, ◌||◌, subst}
use Rattle.tl_syntax.specs.declared.parsed.Expression.{Expression}
use Rattle.tl_syntax.specs.declared.parsed.Write.{Write}
use Rattle.tl_syntax.specs.declared.parsed.Statement.{Statement}
use Rattle.tl_warnings.specs.Failing.{Fails, AnyFails, more_numbers, ChangeFails, WritesFail, more_writes, BlockFails, StatementFails, more_statements}
use Rattle.tl_warnings.proofs.ListLemmas.{taken_more}

pub fails_at : {a b : Expression} {r : Bool} → a ≡ b → Fails a.form r → Fails b.form r
fails_at {r = r} is = subst (λ (z : Expression). Fails z.form r) is

pub any_at : {es fs : List Expression} {r : Bool} → es ≡ fs → AnyFails es r → AnyFails fs r
any_at {r = r} is = subst (λ z. AnyFails z r) is

pub writes_at : {vs ws : List Write} {r : Bool} → vs ≡ ws → WritesFail vs r → WritesFail ws r
writes_at {r = r} is = subst (λ z. WritesFail z r) is

pub block_at : {ss ts : List Statement} {r : Bool} → ss ≡ ts → BlockFails ss r → BlockFails ts r
block_at {r = r} is = subst (λ z. BlockFails z r) is

pub any_more : {r s : Bool} (es : List Expression) (i : ℕ) (e : Expression) → i < length es → e ≡ get_or es i e → AnyFails (take i es) r → Fails e.form s
    → AnyFails (take (i + 1) es) (r || s)
any_more {r} {s} es i e inside is before here = taken_more (λ z. AnyFails z (r || s)) es i e inside is (more_numbers e before here)

pub writes_more : {r s : Bool} (ws : List Write) (i : ℕ) (w : Write) → i < length ws → w ≡ get_or ws i w → WritesFail (take i ws) r → ChangeFails w.change w.value s
    → WritesFail (take (i + 1) ws) (r || s)
writes_more {r} {s} ws i w inside is before here = taken_more (λ z. WritesFail z (r || s)) ws i w inside is (more_writes w before here)

pub block_more : {r t : Bool} (ss : List Statement) (i : ℕ) (s : Statement) → i < length ss → s ≡ get_or ss i s → BlockFails (take i ss) r → StatementFails s.form t
    → BlockFails (take (i + 1) ss) (r || t)
block_more {r} {t} ss i s inside is before here = taken_more (λ z. BlockFails z (r || t)) ss i s inside is (more_statements s before here)
