-- A chain of clean trails, and the progress of its audit.
use Rattle.std.proofs.Common.{◌≡◌, ◌≢◌, ⊎_elim, inl, inr, ℕ, zero, suc, ◌+◌, ◌≤◌, List, [], ◌∷◌, ◌++◌, length, map, drop, Some, refl, sym, ap, ◌∙◌, subst, arith, append_assoc}
use Rattle.std.specs.Prelude.{slice_get}
use Rattle.std.proofs.lemmas.Option.{none-some, same_Some}
use Rattle.std.proofs.lemmas.List.{append-nil}
use Rattle.tl_tree.specs.Records.{Records}
use Rattle.tl_tree_locking.specs.History.{records_now}
use Rattle.tl_tree_locking.specs.Epochs.{left_by, FollowOn, AreAtRest, AgreeEach}
use Rattle.tl_tree_locking.proofs.EpochsJoined.{epochs-serial}
use Rattle.tl_serial_order.specs.Order.{OrderValue}
use Rattle.tl_trail.specs.Trails.{TrailValue, IsTrail, world_of}
use Rattle.tl_trail.specs.Clean.{Clean}
use Rattle.tl_audit.specs.declared.chain.ChainFault.{ChainFault}
use Rattle.tl_audit.specs.declared.chain.ChainFault.TheVariants.{Broken, InEpoch, Memory}
use Rattle.tl_audit.specs.Chains.{Before, Nothing, AfterTrail, after_trail, TakesOverFrom, CleanAfter, IsCleanChain, IsFirstAfter, IsFaultAt, order_of, ends_of, TellTheReplies, AreTrails, AreSerial, before_at, calls_in}
use Rattle.tl_audit.proofs.CleanTrailLemmas.{clean_sound, all_done, clean_agrees, ends_now, clean_told, clean_faultless}

-- ---- what a clean chain implies

rest_follows : (t : TrailValue) (ts : List TrailValue) → CleanAfter (AfterTrail t) ts → AreTrails ts → FollowOn t.parents t.ends (map world_of ts)
rest_follows t [] clean trails = tt
rest_follows t (u ∷ us) clean trails =
    let later : FollowOn u.parents u.ends (map world_of us) = rest_follows u us clean.2 trails.1 in
    let now : FollowOn u.parents (records_now u.past u.opening) (map world_of us) = subst (λ (rs : Records). FollowOn u.parents rs (map world_of us)) (sym (ends_now u trails.0 clean.1)) later in
    (clean.0.parents, clean.0.opening, subst (λ (ps : List ℕ). FollowOn ps (records_now u.past u.opening) (map world_of us)) clean.0.parents now)

all_follow : (t : TrailValue) (ts : List TrailValue) → CleanAfter Nothing (t ∷ ts) → AreTrails (t ∷ ts) → FollowOn t.parents t.opening (map world_of (t ∷ ts))
all_follow t ts clean trails =
    (refl, refl, subst (λ (rs : Records). FollowOn t.parents rs (map world_of ts)) (sym (ends_now t trails.0 clean.1)) (rest_follows t ts clean.2 trails.1))

all_rest : (before : Before) (ts : List TrailValue) → CleanAfter before ts → AreTrails ts → AreAtRest (map world_of ts)
all_rest before [] clean trails = tt
all_rest before (t ∷ ts) clean trails = (clean_sound t trails.0 clean.1, all_done t trails.0 clean.1, all_rest (AfterTrail t) ts clean.2 trails.1)

all_agree : (before : Before) (ts : List TrailValue) → CleanAfter before ts → AreTrails ts → AgreeEach (map order_of ts) (map world_of ts)
all_agree before [] clean trails = tt
all_agree before (t ∷ ts) clean trails = (clean_agrees t trails.0 clean.1, all_agree (AfterTrail t) ts clean.2 trails.1)

all_told : (before : Before) (ts : List TrailValue) → CleanAfter before ts → TellTheReplies ts
all_told before [] clean = tt
all_told before (t ∷ ts) clean = ((λ c lt. clean_told t c clean.1 lt), all_told (AfterTrail t) ts clean.2)

all_left : (before : Before) (t : TrailValue) (ts : List TrailValue) → CleanAfter before (t ∷ ts) → AreTrails (t ∷ ts) → left_by t.opening (map world_of (t ∷ ts)) ≡ ends_of (t ∷ ts)
all_left before t [] clean trails = ends_now t trails.0 clean.1
all_left before t (u ∷ us) clean trails = all_left (AfterTrail t) u us clean.2 trails.1

pub chain_serial : (ts : List TrailValue) → IsCleanChain ts → AreTrails ts → AreSerial ts (map order_of ts)
chain_serial [] clean trails = record { tree = refl; replies = refl; told = tt }
chain_serial (t ∷ ts) clean trails =
    let s = epochs-serial t.parents t.opening (map world_of (t ∷ ts)) (map order_of (t ∷ ts)) (all_follow t ts clean trails) (all_rest Nothing (t ∷ ts) clean trails) (all_agree Nothing (t ∷ ts) clean trails) in
    record {
      tree = s.0 ∙ all_left Nothing t ts clean trails;
      replies = s.1;
      told = all_told Nothing (t ∷ ts) clean;
    }

faultless : (n : ℕ) (before : Before) (ts : List TrailValue) (f : ChainFault) → CleanAfter before ts → IsFirstAfter n before ts f → ⊥
faultless n before [] f clean h = h
faultless n before (t ∷ ts) f clean h = ⊎_elim
    (λ w. w.1 clean.0)
    (λ w. ⊎_elim
    (λ v. clean_faultless t v.0 clean.1 v.2)
    (λ v. faultless (n + 1) (AfterTrail t) ts f clean.2 v.1)
    w.1)
    h

pub only_memory : (before : Before) (ts : List TrailValue) (f : ChainFault) → CleanAfter before ts → (f ≢ Memory → IsFirstAfter 0 before ts f) → f ≡ Memory
only_memory before ts (Broken n) clean h = absurd (faultless 0 before ts (Broken n) clean (h (λ e. cc)))
only_memory before ts (InEpoch n g) clean h = absurd (faultless 0 before ts (InEpoch n g) clean (h (λ e. cc)))
only_memory before ts Memory clean h = refl

-- trails that are clean after another trail are clean by themselves
pub by_itself : (before : Before) (ts : List TrailValue) → CleanAfter before ts → IsCleanChain ts
by_itself before [] clean = tt
by_itself before (t ∷ ts) clean = (tt, clean.1, clean.2)

-- ---- how far the audit is

-- If the trails from number n on are clean, all are. The first fault of the trails from n on is the first fault of all.
-- The orders found are those of the trails before n.
pub record IsAuditedTo (before : Before) (ts : List TrailValue) (n : ℕ) (found : List OrderValue) : Type 0 where
  pub clean : CleanAfter (before_at before ts n) (drop n ts) → CleanAfter before ts
  pub fault : (f : ChainFault) → IsFirstAfter n (before_at before ts n) (drop n ts) f → IsFirstAfter 0 before ts f
  pub orders : map calls_in found ++ map order_of (drop n ts) ≡ map order_of ts
  pub trails : AreTrails (drop n ts) → AreTrails ts

pub audit_begins : (before : Before) (ts : List TrailValue) → IsAuditedTo before ts 0 []
audit_begins before ts = record { clean = λ h. h; fault = λ f h. h; orders = refl; trails = λ h. h }

drop_at : (ts : List TrailValue) (n : ℕ) (t : TrailValue) → slice_get ts n ≡ Some t → drop n ts ≡ t ∷ drop (suc n) ts
drop_at [] n t at = absurd (none-some t at)
drop_at (u ∷ us) zero t at = ap (λ x. x ∷ us) (same_Some u t at)
drop_at (u ∷ us) (suc n) t at = drop_at us n t at

map-more : {X Y : Type 0} (f : X → Y) (xs : List X) (x : X) → map f (xs ++ x ∷ []) ≡ map f xs ++ f x ∷ []
map-more f [] x = refl
map-more f (y ∷ ys) x = ap (λ zs. f y ∷ zs) (map-more f ys x)

pub audit_more : (before : Before) (ts : List TrailValue) (n : ℕ) (orders : List OrderValue) (t : TrailValue) (o : OrderValue) → IsAuditedTo before ts n orders → slice_get ts n ≡ Some t
    → TakesOverFrom (before_at before ts n) t → Clean t → IsTrail t → o.calls ≡ order_of t → (more : List OrderValue) → more ≡ orders ++ o ∷ [] → IsAuditedTo before ts (suc n) more
audit_more before ts n orders t o h at takes clean trail o_is more more_is =
    let rest : drop n ts ≡ t ∷ drop (suc n) ts = drop_at ts n t at in
    let last : before_at before ts (suc n) ≡ AfterTrail t = ap after_trail at in
    record {
      clean = λ later. h.clean (subst (CleanAfter (before_at before ts n)) (sym rest) (takes, clean, subst (λ b. CleanAfter b (drop (suc n) ts)) last later));
      fault = λ f later. h.fault f (subst (λ l. IsFirstAfter n (before_at before ts n) l f) (sym rest)
          (inr (takes, inr (clean, subst (λ m. IsFirstAfter m (AfterTrail t) (drop (suc n) ts) f) (omega arith) (subst (λ b. IsFirstAfter (suc n) b (drop (suc n) ts) f) last later)))));
      orders =
          (λ i. map calls_in (more_is i) ++ map order_of (drop (suc n) ts))
          ∙ ap (λ l. l ++ map order_of (drop (suc n) ts)) (map-more calls_in orders o)
          ∙ append_assoc (map calls_in orders) (o.calls ∷ []) (map order_of (drop (suc n) ts))
          ∙ ap (λ c. map calls_in orders ++ c ∷ map order_of (drop (suc n) ts)) o_is
          ∙ ap (λ l. map calls_in orders ++ map order_of l) (sym rest)
          ∙ h.orders;
      trails = λ later. h.trails (subst AreTrails (sym rest) (trail, later));
    }

pub audit_fails : (before : Before) (ts : List TrailValue) (n : ℕ) (orders : List OrderValue) (t : TrailValue) (f : ChainFault) → IsAuditedTo before ts n orders → slice_get ts n ≡ Some t
    → IsFaultAt n (before_at before ts n) t f → IsFirstAfter 0 before ts f
audit_fails before ts n orders t f h at wrong =
    h.fault f (subst (λ l. IsFirstAfter n (before_at before ts n) l f) (sym (drop_at ts n t at))
    (⊎_elim (λ w. inl w) (λ w. inr (w.0, inl w.1)) wrong))

drop_all : (ts : List TrailValue) (n : ℕ) → length ts ≤ n → drop n ts ≡ []
drop_all [] zero le = refl
drop_all [] (suc n) le = refl
drop_all (t ∷ ts) zero le = absurd (omega (arith, le))
drop_all (t ∷ ts) (suc n) le = drop_all ts n (omega (arith, le))

module _ (before : Before) (ts : List TrailValue) (n : ℕ) (orders : List OrderValue) (h : IsAuditedTo before ts n orders) (over : length ts ≤ n) where
  pub all_clean : CleanAfter before ts
  all_clean = h.clean (subst (CleanAfter (before_at before ts n)) (sym (drop_all ts n over)) tt)

  pub all_orders : map calls_in orders ≡ map order_of ts
  all_orders = sym (append-nil (map calls_in orders)) ∙ ap (λ l. map calls_in orders ++ map order_of l) (sym (drop_all ts n over)) ∙ h.orders

  pub all_serial : AreSerial ts (map calls_in orders)
  all_serial = subst (AreSerial ts) (sym all_orders) (chain_serial ts (by_itself before ts all_clean) (h.trails (subst AreTrails (sym (drop_all ts n over)) tt)))
