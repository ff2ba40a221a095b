-- How many turns calls can take: each executes an instruction.
use Rattle.std.proofs.Common.{◌≡◌, ℕ, zero, suc, ◌+◌, ◌*◌, ◌<◌, ◌≤◌, List, [], ◌∷◌, length, refl, sym, ap, ◌∙◌, subst, arith, Some, Ok}
use Rattle.std.proofs.lemmas.Bool.{lt-ltb}
use Rattle.std.proofs.lemmas.List.{length-set, get_or-set_same, get_or-set_other}
use Rattle.tl_budget.specs.Loops.{budget}
use Rattle.tl_tree_locking.specs.declared.action.Action.{Action}
use Rattle.tl_tree_locking.specs.History.{admits}
use Rattle.tl_tree_locking.specs.Holders.{holder_of}
use Rattle.tl_tree_locking.specs.World.{IsEnabled}
use Rattle.tl_tree_locking.proofs.Holders.{holder_stuck}
use Rattle.tl_tree_locking.proofs.NoStandstill.{enabled_may_take}
use Rattle.tl_core.specs.declared.stepped.Stepped.{Stepped}
use Rattle.tl_core.specs.declared.stepped.Stepped.TheVariants.{Moved, Blocked, Over}
use Rattle.tl_core.specs.Cores.{CoreState, CoreValue, no_call, call_of, code_of, world_of, total}
use Rattle.tl_core.specs.Entries.{stepped_by, node_of, step_answer, after_step, one_more}
use Rattle.tl_core.specs.Followed.{Goes, Proceeds}
use Rattle.tl_core.specs.Reached.{IsReached}
use Rattle.tl_core.proofs.Sums.{total-other}
use Rattle.tl_recover.proofs.Retaken.{IsMoved, not_blocked}

-- the number of instructions that all calls have executed
abbrev pub executed : CoreValue → ℕ
executed v = total (λ c. (call_of v c).count) (length v.calls)

-- ---- a step is one more

one_step : (v : CoreValue) (c : ℕ) (a : Action) → c < length v.calls → executed (after_step v c (Ok (Moved a))) ≡ executed v + 1
one_step v c a known =
    let w : CoreValue = after_step v c (Ok (Moved a)) in
    let long : length w.calls ≡ length v.calls = length-set v.calls c (one_more (call_of v c)) in
    let sums = total-other (λ d. (call_of v d).count) (λ d. (call_of w d).count) (length v.calls) c known
    (λ d lt other. ap (λ z. z.count) (sym (get_or-set_other v.calls c d (one_more (call_of v c)) no_call (λ e. other (sym e))))) in
    let own : (call_of w c).count ≡ (call_of v c).count + 1 = ap (λ z. z.count) (get_or-set_same v.calls c (one_more (call_of v c)) no_call known) in
    let same : total (λ d. (call_of w d).count) (length v.calls) ≡ executed v + 1 = omega arith in
    ap (total (λ d. (call_of w d).count)) long ∙ same

still_known : (v : CoreValue) (c d : ℕ) (a : Action) → d < length v.calls → d < length (after_step v c (Ok (Moved a))).calls
still_known v c d a known = let long = length-set v.calls c (one_more (call_of v c)) in omega arith

-- the last answer of a turn
last_step : (v : CoreValue) (c : ℕ) (s : Stepped) → c < length v.calls → executed v ≤ executed (after_step v c (Ok s))
last_step v c (Moved a) known = let one = one_step v c a known in omega arith
last_step v c (Blocked x d) known = omega arith
last_step v c Over known = omega arith

-- ---- a turn of an enabled call is at least one more

enabled_moves : (v : CoreValue) → IsReached v → (c : ℕ) → IsEnabled (world_of v) c → (s : Stepped) → step_answer (world_of v) c ≡ Ok s → IsMoved s
enabled_moves v reached c enabled s answer =
    let next = enabled_may_take (world_of v) reached.sound c enabled in
    let may = next.1 in
    let known = lt-ltb c (admits v.past) may.is_open.0 in
    let open' = may.is_open.1 in
    let at = may.is_next in
    let here : step_answer (world_of v) c ≡ Ok (stepped_by (world_of v) next.0 (holder_of v.past (node_of next.0))) = rw (known, open', at) refl in
    let both : Ok (stepped_by (world_of v) next.0 (holder_of v.past (node_of next.0))) ≡ Ok s = sym here ∙ answer in
    let same : stepped_by (world_of v) next.0 (holder_of v.past (node_of next.0)) ≡ s = cc in
    subst IsMoved same (not_blocked (world_of v) next.0 (holder_of v.past (node_of next.0))
    (λ x found d is_lock holds. enabled.not_stuck (holder_stuck (world_of v) reached.sound c x found d may.is_open (at ∙ ap Some is_lock) (ap (λ b. holder_of v.past (node_of b)) (sym is_lock) ∙ holds))))

moved_more : (v : CoreValue) (c : ℕ) (s : Stepped) → IsMoved s → c < length v.calls → executed v + 1 ≤ executed (after_step v c (Ok s))
moved_more v c (Moved a) moved known = let one = one_step v c a known in omega arith
moved_more v c (Blocked x d) moved known = absurd moved
moved_more v c Over moved known = absurd moved

more_after : (v there : CoreValue) (c : ℕ) (local : List Action) → c < length v.calls → Goes v c local there → (executed v + length local ≡ executed there) × (c < length there.calls)
more_after v there c [] known goes = subst (λ u. (executed v + 0 ≡ executed u) × (c < length u.calls)) goes (omega arith, known)
more_after v there c (a ∷ local) known goes =
    let one = one_step v c a known in
    let rest = more_after (after_step v c (Ok (Moved a))) there c local (still_known v c c a known) goes.1 in
    let count = rest.0 in
    (omega arith, rest.1)

module _ (v w : CoreState) (c : ℕ) (s : Stepped) (reached : IsReached v.seen) (enabled : IsEnabled (world_of v.seen) c) (p : Proceeds v c s w) where
  known : c < length v.seen.calls
  known = let counted = reached.counted in let here = enabled.is_open.0 in omega arith

  go : (local : List Action) → Goes v.seen c local p.there → executed v.seen + 1 ≤ executed (after_step p.there c (Ok s))
  go [] goes =
      let moved = enabled_moves v.seen reached c enabled s (subst (λ u. step_answer (world_of u) c ≡ Ok s) (sym goes) p.answer) in
      subst (λ u. executed v.seen + 1 ≤ executed (after_step u c (Ok s))) goes (moved_more v.seen c s moved known)
  go (a ∷ local) goes =
      let there = more_after v.seen p.there c (a ∷ local) known goes in
      let count = there.0 in
      let last = last_step p.there c s there.1 in
      omega arith

  pub one_turn : executed v.seen + 1 ≤ executed w.seen
  one_turn = subst (λ u. executed v.seen + 1 ≤ executed u) (sym p.then) (go p.local p.goes)

-- ---- the most that there can be

total_most : (f : ℕ → ℕ) (n : ℕ) → ((c : ℕ) → c < n → f c ≤ 1000000) → total f n ≤ n * 1000000
total_most f zero most = omega arith
total_most f (suc n) most =
    let rest = total_most f n (λ c lt. most c (omega arith)) in
    let last = most n (omega arith) in
    let all : total f n + f n ≤ suc n * 1000000 = omega arith in
    all

pub few_executed : (v : CoreValue) → IsReached v → ((c : ℕ) → c < admits v.past → (call_of v c).count ≤ budget (code_of v c)) → executed v ≤ 4096000000
few_executed v reached counts =
    let counted = reached.counted in
    let few = reached.few in
    let all = total_most (λ c. (call_of v c).count) (length v.calls) (λ c lt. (let most = (reached.fit c lt).accepted.steps in let count = counts c (omega arith) in omega arith)) in
    omega arith
