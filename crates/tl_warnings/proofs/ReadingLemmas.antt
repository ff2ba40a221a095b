-- What reads a value, in the places where code finds it.
use Rattle.std.proofs.Common.{◌≡◌, ℕ, ◌+◌, ◌<◌, List, length, get_or, take, Bool, ◌||◌, subst}
use Rattle.tl_syntax.specs.declared.parsed.Expression.{Expression}
use Rattle.tl_syntax.specs.declared.parsed.Write.{Write}
use Rattle.tl_syntax.specs.declared.parsed.Statement.{Statement}
use Rattle.tl_warnings.specs.Reading.{Reads, AnyReads, more_numbers, WritesRead, more_writes, BlockReads, StatementReads, more_statements}
use Rattle.tl_warnings.proofs.ListLemmas.{taken_more}

pub reads_at : {x : ℕ} {a b : Expression} {r : Bool} → a ≡ b → Reads x a.form r → Reads x b.form r
reads_at {x} {r = r} is = subst (λ (z : Expression). Reads x z.form r) is

pub any_at : {x : ℕ} {es fs : List Expression} {r : Bool} → es ≡ fs → AnyReads x es r → AnyReads x fs r
any_at {x} {r = r} is = subst (λ z. AnyReads x z r) is

pub writes_at : {x : ℕ} {vs ws : List Write} {r : Bool} → vs ≡ ws → WritesRead x vs r → WritesRead x ws r
writes_at {x} {r = r} is = subst (λ z. WritesRead x z r) is

pub block_at : {x : ℕ} {ss ts : List Statement} {r : Bool} → ss ≡ ts → BlockReads x ss r → BlockReads x ts r
block_at {x} {r = r} is = subst (λ z. BlockReads x z r) is

pub any_more : {x : ℕ} {r s : Bool} (es : List Expression) (i : ℕ) (e : Expression) → i < length es → e ≡ get_or es i e → AnyReads x (take i es) r → Reads x e.form s
    → AnyReads x (take (i + 1) es) (r || s)
any_more {x} {r} {s} es i e inside is before here = taken_more (λ z. AnyReads x z (r || s)) es i e inside is (more_numbers e before here)

pub writes_more : {x : ℕ} {r s : Bool} (ws : List Write) (i : ℕ) (w : Write) → i < length ws → w ≡ get_or ws i w → WritesRead x (take i ws) r → Reads x w.value.form s
    → WritesRead x (take (i + 1) ws) (r || s)
writes_more {x} {r} {s} ws i w inside is before here = taken_more (λ z. WritesRead x z (r || s)) ws i w inside is (more_writes w before here)

pub block_more : {x : ℕ} {r t : Bool} (ss : List Statement) (i : ℕ) (s : Statement) → i < length ss → s ≡ get_or ss i s → BlockReads x (take i ss) r → StatementReads x s.form t
    → BlockReads x (take (i + 1) ss) (r || t)
block_more {x} {r} {t} ss i s inside is before here = taken_more (λ z. BlockReads x z (r || t)) ss i s inside is (more_statements s before here)
