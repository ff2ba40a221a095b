-- The results of a core's read functions.
use Rattle.std.proofs.Common.{◌≡◌, ℕ, zero, suc, ◌+◌, ◌<◌, ◌≤◌, ◌↔◌, Bool, true, false, List, [], ◌∷◌, length, take, refl, sym, ap, ◌∙◌, subst, arith, Option, Some, None, slice_get, if◌then◌else◌}
use Rattle.std.proofs.lemmas.Bool.{eqb-true}
use Rattle.std.proofs.lemmas.List.{length-map}
use Rattle.tl_tree.specs.Records.{record_at}
use Rattle.tl_tree.specs.Trees.{TreeValue}
use Rattle.tl_budget.specs.Loops.{budget, lock_bound, emit_bound}
use Rattle.tl_tree_locking.specs.declared.action.Action.{Action}
use Rattle.tl_tree_locking.specs.declared.action.Action.TheVariants as did
use Rattle.tl_tree_locking.specs.Actions.{held, emitted, taken, lock_count}
use Rattle.tl_tree_locking.specs.Holders.{holder_of}
use Rattle.tl_tree_locking.proofs.Holders.{held-holder, holder-held}
use Rattle.tl_tree_locking.proofs.NoStandstill.{sound_history}
use Rattle.tl_tree_locking.specs.Alone.{all_taken}
use Rattle.tl_tree_locking.specs.History.{part_of, is_done, admits, record_now}
use Rattle.tl_tree_locking.specs.Obeys.{Obeys}
use Rattle.tl_tree_locking.specs.World.{alone_of, reply_of}
use Rattle.tl_tree_locking.proofs.Records.{record_at-records_now, length-records_now}
use Rattle.tl_tree_locking.proofs.ObeysByPlaces.{obeys_first}
use Rattle.tl_machine.specs.Runs.{actions, emits_of}
use Rattle.tl_machine.specs.Outcomes.{meaning}
use Rattle.tl_machine.proofs.StartLemmas.{few_steps, few_locks, few_values}
use Rattle.tl_core.specs.Stored.{Kept}
use Rattle.tl_core.specs.Cores.{CoreValue, call_of, code_of, world_of, done_by}
use Rattle.tl_core.specs.Entries.{procedure_at}
use Rattle.tl_verify.specs.Acceptable.{Acceptable}
use Rattle.tl_core.specs.Kept.{IsCore, call_value}
use Rattle.tl_core.specs.Reached.{IsFit}
use Rattle.tl_machine.proofs.Along.{onto, taken-onto, length-onto}
use Rattle.tl_core.proofs.StoredCalls.{some_at, same_item}
use Rattle.tl_core.proofs.CallInWorld.{keep, call_is, rest, whole, ended, admitted, found_tree, found_size}

length-take : (k : ℕ) (more : List Action) → length (take k more) ≤ length more
length-take zero more = omega arith
length-take (suc k) [] = omega arith
length-take (suc k) (a ∷ more) = let e = length-take k more in omega arith

locks-take : (k : ℕ) (more : List Action) → lock_count (take k more) ≤ lock_count more
locks-take zero more = omega arith
locks-take (suc k) [] = omega arith
locks-take (suc k) (did.Plain ∷ more) = locks-take k more
locks-take (suc k) (did.Lock x found ∷ more) = let e = locks-take k more in omega arith
locks-take (suc k) (did.Read x f n ∷ more) = locks-take k more
locks-take (suc k) (did.Write x f n ∷ more) = locks-take k more
locks-take (suc k) (did.Free x left ∷ more) = locks-take k more
locks-take (suc k) (did.Emit n ∷ more) = locks-take k more
locks-take (suc k) (did.End ∷ more) = locks-take k more

emits-take : (k : ℕ) (more : List Action) → length (emits_of (take k more)) ≤ length (emits_of more)
emits-take zero more = omega arith
emits-take (suc k) [] = omega arith
emits-take (suc k) (did.Plain ∷ more) = emits-take k more
emits-take (suc k) (did.Lock x found ∷ more) = emits-take k more
emits-take (suc k) (did.Read x f n ∷ more) = emits-take k more
emits-take (suc k) (did.Write x f n ∷ more) = emits-take k more
emits-take (suc k) (did.Free x left ∷ more) = emits-take k more
emits-take (suc k) (did.Emit n ∷ more) = let e = emits-take k more in omega arith
emits-take (suc k) (did.End ∷ more) = emits-take k more

-- the number of locks doesn't depend on their order
locks-taken : (more done : List Action) → lock_count (taken (length more) more done) ≡ lock_count more + lock_count done
locks-taken [] done = let e : lock_count done ≡ 0 + lock_count done = omega arith in e
locks-taken (did.Plain ∷ more) done = locks-taken more (did.Plain ∷ done)
locks-taken (did.Lock x found ∷ more) done = let e = locks-taken more (did.Lock x found ∷ done) in omega arith
locks-taken (did.Read x f n ∷ more) done = locks-taken more (did.Read x f n ∷ done)
locks-taken (did.Write x f n ∷ more) done = locks-taken more (did.Write x f n ∷ done)
locks-taken (did.Free x left ∷ more) done = locks-taken more (did.Free x left ∷ done)
locks-taken (did.Emit n ∷ more) done = locks-taken more (did.Emit n ∷ done)
locks-taken (did.End ∷ more) done = locks-taken more (did.End ∷ done)

module _ (v : CoreValue) (now : TreeValue) (kept : List Kept) (holders : List (Option ℕ)) (open_count reserved : ℕ) (h : IsCore v now kept holders open_count reserved) where
  pub calls_long : length v.calls ≡ length kept
  calls_long = ap length h.calls ∙ length-map kept call_value

  pub now_long : length now.records ≡ length v.parents
  now_long = ap (λ t. length t.records) h.now_is ∙ length-records_now v.past v.opening ∙ h.sound.size

  pub record_is : (x : ℕ) → x < length v.parents → record_at now.records x ≡ record_now v.past v.opening x
  record_is x lt = let size = h.sound.size in ap (λ t. record_at t.records x) h.now_is ∙ record_at-records_now v.past v.opening x (omega arith)

  -- the stored holder is the one call that holds the node
  pub holder_holds : (x : ℕ) (o : Option ℕ) → x < length v.parents → slice_get holders x ≡ Some o → (c : ℕ) → (o ≡ Some c) ↔ (held (part_of c v.past) x ≡ true)
  holder_holds x o inside there c =
      let legal = sound_history (world_of v) h.sound in
      let named : holder_of v.past x ≡ o = same_item (sym (h.holds x inside) ∙ there) in
      (λ is. holder-held v.parents v.past legal c x (named ∙ is), λ is. sym named ∙ held-holder v.parents v.past legal c x is)

  module _ (c : ℕ) (k : Kept) (at : slice_get kept c ≡ Some k) where
    pub request_known : k.procedure < length v.procedures
    request_known = (keep v now kept holders open_count reserved h c k at).known

    pub request_code : (procedure_at v k.procedure).code ≡ (call_of v c).code
    request_code = (keep v now kept holders open_count reserved h c k at).code ∙ ap (λ z. z.code) (sym (call_is v now kept holders open_count reserved h c k at))

    pub request_arity : length k.args ≡ (call_of v c).code.arity
    request_arity = (keep v now kept holders open_count reserved h c k at).arity ∙ ap (λ z. z.code.arity) (sym (call_is v now kept holders open_count reserved h c k at))

    done_reply : is_done c v.past ≡ true → emitted (keep v now kept holders open_count reserved h c k at).done ≡ reply_of (world_of v) c
    done_reply over =
        let keep' = keep v now kept holders open_count reserved h c k at in
        let left = actions (rest v now kept holders open_count reserved h c k at) in
        let acts = whole v now kept holders open_count reserved h c k at in
        let all = eqb-true (length keep'.done) (length keep'.done + length left) (sym (ended v now kept holders open_count reserved h c k at) ∙ over) in
        let none : length left ≡ 0 = omega arith in
        let alone' = h.sound.meanings c (admitted v now kept holders open_count reserved h c k at) in
        let reply = alone'.reply (found_tree v now kept holders open_count reserved h c k at) (found_size v now kept holders open_count reserved h c k at) in
        let long : length (onto keep'.done left) ≡ length keep'.done = let e = length-onto keep'.done left in omega arith in
        sym (reply ∙ ap (λ l. emitted (all_taken l)) acts ∙ ap (λ n. emitted (taken n (onto keep'.done left) [])) long ∙ ap emitted (taken-onto keep'.done left))

    pub reply_is : k.reply ≡ (if is_done c v.past then Some (reply_of (world_of v) c) else None)
    reply_is = (keep v now kept holders open_count reserved h c k at).reply ∙ by_done (is_done c v.past) refl
      where
        by_done : (b : Bool) → is_done c v.past ≡ b → (if b then Some (emitted (keep v now kept holders open_count reserved h c k at).done) else None) ≡ (if b then Some (reply_of (world_of v) c) else None)
        by_done true over = ap Some (done_reply over)
        by_done false open' = refl

  -- ---- what each call has done

  pub kept_at : (c : ℕ) → c < admits v.past → (k : Kept) × (slice_get kept c ≡ Some k)
  kept_at c lt =
      let long = calls_long in
      let e = h.counted in
      some_at kept c (omega arith)

  pub fit_call : (c : ℕ) → c < length v.calls → IsFit v c
  fit_call c lt =
      let k = kept_at c (let e = h.counted in omega arith) in
      let call = call_is v now kept holders open_count reserved h c k.0 k.1 in
      record {
        known = subst (λ z. z.procedure < length v.procedures) (sym call) (request_known c k.0 k.1);
        code = sym (request_code c k.0 k.1) ∙ ap (λ z. (procedure_at v z.procedure).code) (sym call);
        accepted = subst (λ z. Acceptable z.code.instrs) (sym call) (keep v now kept holders open_count reserved h c k.0 k.1).accepted;
        arity = ap (λ z. length z.args) call ∙ request_arity c k.0 k.1;
      }

  module _ (c : ℕ) (lt : c < admits v.past) where
    -- what the call does alone on the tree with the records that it found
    abbrev acts : List Action
    acts = (alone_of ((world_of v).meanings c) v.opening v.past c).actions

    pub obeys_so_far : Obeys v.parents (done_by v c)
    obeys_so_far =
        let k = kept_at c lt in
        obeys_first v.parents ((world_of v).meanings c) (h.sound.meanings c lt) (found_tree v now kept holders open_count reserved h c k.0 k.1)
        (found_size v now kept holders open_count reserved h c k.0 k.1) (call_of v c).count

    in_steps : length acts ≤ budget (code_of v c)
    in_steps =
        let k = kept_at c lt in
        let keep' = keep v now kept holders open_count reserved h c k.0 k.1 in
        let tree = found_tree v now kept holders open_count reserved h c k.0 k.1 in
        let few = few_steps k.0.turn.code keep'.valid keep'.accepted v.parents h.sound.tree k.0.args tree (found_size v now kept holders open_count reserved h c k.0 k.1) in
        subst (λ z. length (meaning z.code.instrs v.parents z.args tree).actions ≤ budget z.code.instrs) (sym (call_is v now kept holders open_count reserved h c k.0 k.1)) few

    in_locks : lock_count (all_taken acts) ≤ lock_bound (code_of v c)
    in_locks =
        let k = kept_at c lt in
        let keep' = keep v now kept holders open_count reserved h c k.0 k.1 in
        let tree = found_tree v now kept holders open_count reserved h c k.0 k.1 in
        let few = few_locks k.0.turn.code keep'.valid keep'.accepted v.parents h.sound.tree k.0.args tree (found_size v now kept holders open_count reserved h c k.0 k.1) in
        subst (λ z. lock_count (all_taken (meaning z.code.instrs v.parents z.args tree).actions) ≤ lock_bound z.code.instrs) (sym (call_is v now kept holders open_count reserved h c k.0 k.1)) few

    in_emits : length (emits_of acts) ≤ emit_bound (code_of v c)
    in_emits =
        let k = kept_at c lt in
        let keep' = keep v now kept holders open_count reserved h c k.0 k.1 in
        let tree = found_tree v now kept holders open_count reserved h c k.0 k.1 in
        let few = few_values k.0.turn.code keep'.valid keep'.accepted v.parents h.sound.tree k.0.args tree (found_size v now kept holders open_count reserved h c k.0 k.1) in
        subst (λ z. length (meaning z.code.instrs v.parents z.args tree).reply ≤ emit_bound z.code.instrs) (sym (call_is v now kept holders open_count reserved h c k.0 k.1)) few

    pub steps_so_far : length (done_by v c) ≤ budget (code_of v c)
    steps_so_far = let all = in_steps in let part = length-take (call_of v c).count acts in omega arith

    pub count_so_far : (call_of v c).count ≤ budget (code_of v c)
    count_so_far = let all = in_steps in let part = (h.sound.legal.genuine c lt).within in omega arith

    pub locks_so_far : lock_count (done_by v c) ≤ lock_bound (code_of v c)
    locks_so_far = let all = in_locks in let part = locks-take (call_of v c).count acts in let same = locks-taken acts [] in omega arith

    pub emits_so_far : length (emits_of (done_by v c)) ≤ emit_bound (code_of v c)
    emits_so_far = let all = in_emits in let part = emits-take (call_of v c).count acts in omega arith
