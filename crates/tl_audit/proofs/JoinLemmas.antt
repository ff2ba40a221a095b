-- Chains one after another.
use Rattle.std.proofs.Common.{⊎_elim, inl, inr, ℕ, ◌+◌, List, [], ◌∷◌, ◌++◌, length, map, ap, subst, arith}
use Rattle.tl_trail.specs.Trails.{TrailValue}
use Rattle.tl_audit.specs.declared.chain.ChainFault.{ChainFault}
use Rattle.tl_audit.specs.Chains.{Before, Nothing, AfterTrail, CleanAfter, AreCleanAfter, IsFirstAfter, AreTrails, AreSerial, trails_of, last_after, order_of, numbered_from}
use Rattle.tl_audit.proofs.ChainLemmas.{chain_serial}

-- ---- clean

both_clean : (before : Before) (ts us : List TrailValue) → CleanAfter before ts → CleanAfter (last_after before ts) us → CleanAfter before (ts ++ us)
both_clean before [] us clean later = later
both_clean before (t ∷ ts) us clean later = (clean.0, clean.1, both_clean (AfterTrail t) ts us clean.2 later)

pub joined_clean : (before : Before) (chains : List (List TrailValue)) → AreCleanAfter before chains → CleanAfter before (trails_of chains)
joined_clean before [] clean = tt
joined_clean before (ts ∷ chains) clean = both_clean before ts (trails_of chains) clean.0 (joined_clean (last_after before ts) chains clean.1)

pub joined_serial : (chains : List (List TrailValue)) → AreTrails (trails_of chains) → AreCleanAfter Nothing chains → AreSerial (trails_of chains) (map order_of (trails_of chains))
joined_serial chains trails clean = chain_serial (trails_of chains) (joined_clean Nothing chains clean) trails

cut_in_two : (before : Before) (ts us : List TrailValue) → CleanAfter before (ts ++ us) → CleanAfter before ts × CleanAfter (last_after before ts) us
cut_in_two before [] us clean = (tt, clean)
cut_in_two before (t ∷ ts) us clean =
    let rest = cut_in_two (AfterTrail t) ts us clean.2 in
    ((clean.0, clean.1, rest.0), rest.1)

pub cut_clean : (before : Before) (chains : List (List TrailValue)) → CleanAfter before (trails_of chains) → AreCleanAfter before chains
cut_clean before [] clean = tt
cut_clean before (ts ∷ chains) clean =
    let two = cut_in_two before ts (trails_of chains) clean in
    (two.0, cut_clean (last_after before ts) chains two.1)

-- ---- what is wrong first

renumbered : (m n : ℕ) (before : Before) (ts : List TrailValue) (f : ChainFault) → IsFirstAfter n before ts f → IsFirstAfter (m + n) before ts (numbered_from m f)
renumbered m n before [] f h = h
renumbered m n before (t ∷ ts) f h = ⊎_elim
    (λ broken. inl (ap (numbered_from m) broken.0, broken.1))
    (λ takes. inr (
      takes.0,
      ⊎_elim
          (λ wrong. inl (wrong.0, ap (numbered_from m) wrong.1, wrong.2))
          (λ later. inr (later.0, subst (λ k. IsFirstAfter k (AfterTrail t) ts (numbered_from m f)) (omega arith) (renumbered m (n + 1) (AfterTrail t) ts f later.1)))
          takes.1,
    ))
    h

wrong_later : (n : ℕ) (before : Before) (ts us : List TrailValue) (f : ChainFault) → CleanAfter before ts → IsFirstAfter (n + length ts) (last_after before ts) us f
    → IsFirstAfter n before (ts ++ us) f
wrong_later n before [] us f clean h = subst (λ k. IsFirstAfter k before us f) (omega arith) h
wrong_later n before (t ∷ ts) us f clean h =
    inr (clean.0, inr (clean.1, wrong_later (n + 1) (AfterTrail t) ts us f clean.2 (subst (λ k. IsFirstAfter k (last_after (AfterTrail t) ts) us f) (omega arith) h)))

pub first_of_all : (before : Before) (ts us : List TrailValue) (f : ChainFault) → CleanAfter before ts → IsFirstAfter 0 (last_after before ts) us f
    → IsFirstAfter 0 before (ts ++ us) (numbered_from (length ts) f)
first_of_all before ts us f clean h =
    wrong_later 0 before ts us (numbered_from (length ts) f) clean
    (subst (λ k. IsFirstAfter k (last_after before ts) us (numbered_from (length ts) f)) (omega arith) (renumbered (length ts) 0 (last_after before ts) us f h))
