-- Two worlds whose calls took turns in the same order have the same history.
use Rattle.std.proofs.Common.{◌≡◌, ◌≢◌, ◌⊎◌, ℕ, zero, suc, ◌<◌, ◌≤◌, List, [], ◌∷◌, length, map, refl, sym, ap, ◌∙◌, subst, inl, inr, arith, Some, slice_get}
use Rattle.std.proofs.lemmas.Bool.{cases_eq, cases_lt, ne_eqb}
use Rattle.tl_tree.specs.Records.{Records}
use Rattle.tl_tree.specs.Shape.{IsTree}
use Rattle.tl_tree_locking.specs.declared.action.Action.{Action}
use Rattle.tl_tree_locking.specs.declared.action.Action.TheVariants as A
use Rattle.tl_tree_locking.specs.declared.event.Event.{Event}
use Rattle.tl_tree_locking.specs.declared.event.Event.TheVariants.{Admit, Lock, Free, Done}
use Rattle.tl_tree_locking.specs.Actions.{shared_actions, taken}
use Rattle.tl_tree_locking.specs.Alone.{Outcome}
use Rattle.tl_tree_locking.specs.History.{caller, admits, part_of}
use Rattle.tl_tree_locking.specs.World.{World, alone_of, next_of, MayTake, as_found, past_after, Reached, Opens, Admits, Moves}
use Rattle.tl_tree_locking.proofs.Alone.{taken-next}
use Rattle.tl_tree_locking.proofs.ReachedWorlds.{reached_sound}

-- ---- how many of the first actions are shared

step_shared : (a : Action) (done : List Action) → length (shared_actions done) ≤ length (shared_actions (a ∷ done))
step_shared (A.Lock x found) done = omega arith
step_shared (A.Free x left) done = omega arith
step_shared A.End done = omega arith
step_shared (A.Read x f n) done = omega arith
step_shared (A.Write x f n) done = omega arith
step_shared (A.Emit n) done = omega arith
step_shared A.Plain done = omega arith

abbrev count : List Action → ℕ → ℕ
count actions k = length (shared_actions (taken k actions []))

pub some_at : {X : Type 0} (xs : List X) (i : ℕ) → i < length xs → (x : X) × (slice_get xs i ≡ Some x)
some_at [] i lt = absurd (omega arith)
some_at (x ∷ xs) zero lt = (x, refl)
some_at (x ∷ xs) (suc i) lt = some_at xs i (omega arith)

count_step : (actions : List Action) (m : ℕ) → m < length actions → count actions m ≤ count actions (suc m)
count_step actions m lt =
    let a = some_at actions m lt in
    subst (λ l. count actions m ≤ length (shared_actions l)) (sym (taken-next m actions [] a.0 a.1)) (step_shared a.0 (taken m actions []))

count_grows : (actions : List Action) (k m : ℕ) → k ≤ m → m ≤ length actions → count actions k ≤ count actions m
count_grows actions k zero le lt = let e : k ≡ zero = omega arith in subst (λ n. count actions n ≤ count actions zero) (sym e) (omega arith)
count_grows actions k (suc m) le lt = elim (cases_eq k (suc m)) [
  | inl same ↦ subst (λ n. count actions n ≤ count actions (suc m)) (sym same) (omega arith)
  | inr other ↦
      let before = count_grows actions k m (omega arith) (omega arith) in
      let one = count_step actions m (omega arith) in
      omega arith
]

-- the action is a lock, a free or an end
abbrev pub IsShared : Action → Type 0
IsShared a = (done : List Action) → length (shared_actions (a ∷ done)) ≡ suc (length (shared_actions done))

count_more : (actions : List Action) (k m : ℕ) (a : Action) → slice_get actions k ≡ Some a → IsShared a → k < m → m ≤ length actions → count actions k < count actions m
count_more actions k m a at shared lt le =
    let one : count actions (suc k) ≡ suc (count actions k) = ap (λ l. length (shared_actions l)) (taken-next k actions [] a at) ∙ shared (taken k actions []) in
    let rest = count_grows actions (suc k) m (omega arith) le in
    omega arith

longer : {X : Type 0} (x : X) (xs : List X) → xs ≡ x ∷ xs → ⊥
longer x xs e = let l : length xs ≡ suc (length xs) = ap length e in omega arith

pub shared_of : (w : World) (c : ℕ) (a : Action) (e : Event) (p : List Event) → past_after c (as_found w a) p ≡ e ∷ p → IsShared a
shared_of w c (A.Lock x found) e p is = λ done. refl
shared_of w c (A.Free x left) e p is = λ done. refl
shared_of w c A.End e p is = λ done. refl
shared_of w c (A.Read x f n) e p is = absurd (longer e p is)
shared_of w c (A.Write x f n) e p is = absurd (longer e p is)
shared_of w c (A.Emit n) e p is = absurd (longer e p is)
shared_of w c A.Plain e p is = absurd (longer e p is)

-- ---- the world before the latest event

module _ (parents : List ℕ) (opening : Records) where
  -- a world with this history in which this event was next
  pub record Behind (m : ℕ → Records → Outcome) (e : Event) (q : List Event) : Type 0 where
    pub was : World
    pub reached : Reached parents opening was
    pub past_is : was.past ≡ q
    pub meanings : (d : ℕ) → d < admits q → was.meanings d ≡ m d
    pub how : (e ≡ Admit (admits q)) ⊎ ((next : Action) × MayTake was (caller e) next × (past_after (caller e) (as_found was next) q ≡ e ∷ q))

  abbrev pub Back : (ℕ → Records → Outcome) → List Event → Type 0
  Back m [] = Unit {0}
  Back m (e ∷ q) = Behind m e q

  pub back : (w : World) → Reached parents opening w → Back w.meanings w.past
  back w (Opens meanings) = tt
  back w' (Admits w alone reached is_alone) = record {
    was = w;
    reached = reached;
    past_is = refl;
    meanings = λ d lt. (let ne : admits w.past ≢ d = λ e. omega arith in let q = ne_eqb (admits w.past) d ne in rw q refl);
    how = inl refl;
  }
  back w' (Moves w c (A.Lock x found) reached may) = record { was = w; reached = reached; past_is = refl; meanings = λ d lt. refl; how = inr (A.Lock x found, may, refl) }
  back w' (Moves w c (A.Free x left) reached may) = record { was = w; reached = reached; past_is = refl; meanings = λ d lt. refl; how = inr (A.Free x left, may, refl) }
  back w' (Moves w c A.End reached may) = record { was = w; reached = reached; past_is = refl; meanings = λ d lt. refl; how = inr (A.End, may, refl) }
  back w' (Moves w c (A.Read x f n) reached may) = back w reached
  back w' (Moves w c (A.Write x f n) reached may) = back w reached
  back w' (Moves w c (A.Emit n) reached may) = back w reached
  back w' (Moves w c A.Plain reached may) = back w reached

  -- ---- one event

  module _ (tree : IsTree parents) (size : length opening ≡ length parents) where
    -- if two worlds have the same history, and a call's next action is a shared one in both, it is the same action
    pub same_next : (v w : World) → Reached parents opening v → Reached parents opening w → v.past ≡ w.past → (c : ℕ) → v.meanings c ≡ w.meanings c
        → (a b : Action) → c < admits v.past → next_of v c ≡ Some a → c < admits w.past → next_of w c ≡ Some b → IsShared a → IsShared b → a ≡ b
    same_next v w rv rw' past c meaning a b known_a next_a known_b next_b shared_a shared_b =
        let ov = reached_sound parents opening tree size v rv in
        let ow = reached_sound parents opening tree size w rw' in
        let actions = (alone_of (w.meanings c) w.opening w.past c).actions in
        let same : (alone_of (v.meanings c) v.opening v.past c).actions ≡ actions =
        ap (λ m. (alone_of m v.opening v.past c).actions) meaning ∙ ap (λ o. (alone_of (w.meanings c) o v.past c).actions) (ov.opening_is ∙ sym ow.opening_is)
        ∙ ap (λ p. (alone_of (w.meanings c) w.opening p c).actions) past in
        let gv = ov.sound.legal.genuine c known_a in
        let gw = ow.sound.legal.genuine c known_b in
        let at_a : slice_get actions (v.counts c) ≡ Some a = ap (λ l. slice_get l (v.counts c)) (sym same) ∙ next_a in
        let at_b : slice_get actions (w.counts c) ≡ Some b = next_b in
        let parts : count actions (v.counts c) ≡ count actions (w.counts c) =
        ap length (ap (λ l. shared_actions (taken (v.counts c) l [])) (sym same) ∙ sym gv.is_part ∙ ap (part_of c) past ∙ gw.is_part) in
        let within_a : v.counts c ≤ length actions = subst (λ l. v.counts c ≤ length l) same gv.within in
        let counts : v.counts c ≡ w.counts c = elim (cases_lt (v.counts c) (w.counts c)) [
          | inl less ↦ absurd (let more = count_more actions (v.counts c) (w.counts c) a at_a shared_a less gw.within in omega arith)
          | inr not_less ↦ elim (cases_lt (w.counts c) (v.counts c)) [
            | inl less ↦ absurd (let more = count_more actions (w.counts c) (v.counts c) b at_b shared_b less within_a in omega arith)
            | inr here ↦ omega arith
          ]
        ] in
        let both : Some a ≡ Some b = sym at_a ∙ ap (slice_get actions) counts ∙ at_b in
        cc

    found_again : (v w : World) (a : Action) → v.past ≡ w.past → v.opening ≡ w.opening → as_found v a ≡ as_found w a
    found_again v w (A.Lock x found) past opens = ap (λ p. as_found (record v { past = p }) (A.Lock x found)) past ∙ ap (λ o. as_found (record v { past = w.past; opening = o }) (A.Lock x found)) opens
    found_again v w (A.Free x left) past opens = refl
    found_again v w A.End past opens = refl
    found_again v w (A.Read x f n) past opens = refl
    found_again v w (A.Write x f n) past opens = refl
    found_again v w (A.Emit n) past opens = refl
    found_again v w A.Plain past opens = refl

    admits_more : (e : Event) (p : List Event) → admits p ≤ admits (e ∷ p)
    admits_more (Admit c) p = omega arith
    admits_more (Lock x c found) p = omega arith
    admits_more (Free x c left) p = omega arith
    admits_more (Done c) p = omega arith

    -- the latest events of one call after the same history are the same
    same_event : (mv mw : ℕ → Records → Outcome) (e f : Event) (p q : List Event) (bv : Behind mv e p) (bw : Behind mw f q) → p ≡ q
        → ((c : ℕ) → c < admits p → c < admits q → bv.was.meanings c ≡ bw.was.meanings c) → caller e ≡ caller f → e ∷ p ≡ f ∷ q
    same_event mv mw e f p q bv bw pq agree callers = go bv.how bw.how
      where
        count_same : admits p ≡ admits q
        count_same = ap admits pq

        go : (e ≡ Admit (admits p)) ⊎ ((next : Action) × MayTake bv.was (caller e) next × (past_after (caller e) (as_found bv.was next) p ≡ e ∷ p))
            → (f ≡ Admit (admits q)) ⊎ ((next : Action) × MayTake bw.was (caller f) next × (past_after (caller f) (as_found bw.was next) q ≡ f ∷ q)) → e ∷ p ≡ f ∷ q
        go (inl ev) (inl fw) = ap (λ x. x ∷ p) (ev ∙ ap Admit count_same ∙ sym fw) ∙ ap (λ l. f ∷ l) pq
        go (inl ev) (inr (b, may, is)) = absurd (let here : caller e ≡ admits p = ap caller ev in let known = may.is_open.0 in let was = ap admits bw.past_is in omega (arith, count_same))
        go (inr (a, may, is)) (inl fw) = absurd (let here : caller f ≡ admits q = ap caller fw in let known = may.is_open.0 in let was = ap admits bv.past_is in omega (arith, count_same))
        go (inr (a, may_a, is_a)) (inr (b, may_b, is_b)) =
            let pasts : bv.was.past ≡ bw.was.past = bv.past_is ∙ pq ∙ sym bw.past_is in
            let known_p : caller e < admits p = (let k = may_a.is_open.0 in let was = ap admits bv.past_is in omega arith) in
            let known_q : caller e < admits q = omega (arith, count_same) in
            let may_b' : MayTake bw.was (caller e) b = subst (λ c. MayTake bw.was c b) (sym callers) may_b in
            let same = same_next bv.was bw.was bv.reached bw.reached pasts (caller e) (agree (caller e) known_p known_q) a b may_a.is_open.0 may_a.is_next may_b'.is_open.0 may_b'.is_next
            (shared_of bv.was (caller e) a e p is_a) (shared_of bw.was (caller f) b f q is_b) in
            let opens : bv.was.opening ≡ bw.was.opening = (reached_sound parents opening tree size bv.was bv.reached).opening_is ∙ sym (reached_sound parents opening tree size bw.was bw.reached).opening_is in
            sym is_a ∙ ap (λ x. past_after (caller e) x p) (found_again bv.was bw.was a pasts opens ∙ ap (as_found bw.was) same)
            ∙ ap (λ c. past_after c (as_found bw.was b) p) callers ∙ ap (past_after (caller f) (as_found bw.was b)) pq ∙ is_b

    pub same_history : (p q : List Event) (v w : World) → Reached parents opening v → Reached parents opening w → v.past ≡ p → w.past ≡ q
        → ((c : ℕ) → c < admits p → c < admits q → v.meanings c ≡ w.meanings c) → map caller p ≡ map caller q → p ≡ q
    same_history [] [] v w rv rw' pv pw agree turns = refl
    same_history [] (f ∷ q) v w rv rw' pv pw agree turns = absurd (let l = ap length turns in omega arith)
    same_history (e ∷ p) [] v w rv rw' pv pw agree turns = absurd (let l = ap length turns in omega arith)
    same_history (e ∷ p) (f ∷ q) v w rv rw' pv pw agree turns =
        let bv : Behind v.meanings e p = subst (Back v.meanings) pv (back v rv) in
        let bw : Behind w.meanings f q = subst (Back w.meanings) pw (back w rw') in
        let heads : caller e ≡ caller f = cc in
        let tails : map caller p ≡ map caller q = cc in
        let agree' : (c : ℕ) → c < admits p → c < admits q → bv.was.meanings c ≡ bw.was.meanings c =
        λ c lt lt'. bv.meanings c lt ∙ agree c (omega (arith, admits_more e p)) (omega (arith, admits_more f q)) ∙ sym (bw.meanings c lt') in
        let pq : p ≡ q = same_history p q bv.was bw.was bv.reached bw.reached bv.past_is bw.past_is agree' tails in
        same_event v.meanings w.meanings e f p q bv bw pq agree' heads
