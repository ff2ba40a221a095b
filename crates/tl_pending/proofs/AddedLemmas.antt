-- Adding the news of epochs one after another.
use Rattle.std.proofs.Common.{◌≡◌, ℕ, zero, suc, ◌+◌, ◌<◌, List, [], ◌∷◌, ◌++◌, length, take, get_or, replicate, refl, sym, ap, subst, ◌∙◌, arith}
use Rattle.std.proofs.lemmas.List.{append_assoc, take_more}
use Rattle.tl_news.specs.declared.news.EpochNews.{EpochNews}
use Rattle.tl_pending.specs.declared.pending.Pending.{Pending}
use Rattle.tl_pending.specs.Pendings.{Adds, AddsAll}
use Rattle.std.specs.Prelude.{ℤ}
use Rattle.tl_news.specs.declared.news.Answer.{Answer}
use Rattle.tl_keys.specs.declared.index.KeyIndex.{KeyIndex}
use Rattle.tl_pending.specs.Claims.{ClaimValue, key_of, kept_of, LearnsUnder, Learns}

-- one more epoch
pub adds_more : (epochs : List EpochNews) (e : EpochNews) (old mid new : Pending) → AddsAll epochs old mid → Adds e mid new → AddsAll (epochs ++ e ∷ []) old new
adds_more [] e old mid new same adds = (new, subst (λ p. Adds e p new) same adds, refl)
adds_more (first ∷ epochs) e old mid new so_far adds = (so_far.0, so_far.1, adds_more epochs e so_far.0 mid new so_far.2 adds)

-- one more answer
learns_more : (claims : List ClaimValue) (epoch : ℤ) (answers : List Answer) (a : Answer) (old mid new : KeyIndex) → Learns claims epoch answers old mid
    → LearnsUnder (key_of claims a.session) (kept_of epoch a) mid new → Learns claims epoch (answers ++ a ∷ []) old new
learns_more claims epoch [] a old mid new same learns = (new, subst (λ i. LearnsUnder (key_of claims a.session) (kept_of epoch a) i new) same learns, refl)
learns_more claims epoch (first ∷ answers) a old mid new so_far learns = (so_far.0, so_far.1, learns_more claims epoch answers a so_far.0 mid new so_far.2 learns)

pub learns_next : (claims : List ClaimValue) (epoch : ℤ) (answers : List Answer) (i : ℕ) (a : Answer) (old mid new : KeyIndex) → i < length answers → a ≡ get_or answers i a
    → Learns claims epoch (take i answers) old mid → LearnsUnder (key_of claims a.session) (kept_of epoch a) mid new → Learns claims epoch (take (i + 1) answers) old new
learns_next claims epoch answers i a old mid new inside is so_far learns =
    let next : take (i + 1) answers ≡ take i answers ++ a ∷ [] = take_more answers i a inside ∙ ap (λ x. take i answers ++ x ∷ []) (sym is) in
    subst (λ l. Learns claims epoch l old new) (sym next) (learns_more claims epoch (take i answers) a old mid new so_far learns)

-- one more equal element
pub replicate_more : {A : Type 0} (n : ℕ) (x : A) → replicate n x ++ x ∷ [] ≡ replicate (suc n) x
replicate_more zero x = refl
replicate_more (suc n) x = ap (λ l. x ∷ l) (replicate_more n x)

pub zeros_more : {A : Type 0} (all old : List A) (n : ℕ) (x : A) → all ≡ old ++ replicate n x → all ++ x ∷ [] ≡ old ++ replicate (n + 1) x
zeros_more all old n x so_far =
    let next : suc n ≡ n + 1 = omega arith in
    ap (λ l. l ++ x ∷ []) so_far ∙ append_assoc old (replicate n x) (x ∷ []) ∙ ap (λ l. old ++ l) (replicate_more n x ∙ ap (λ k. replicate k x) next)
