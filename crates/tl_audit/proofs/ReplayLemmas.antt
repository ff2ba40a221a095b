-- Replaying a call alone along its recorded locks and frees.
use Rattle.std.proofs.Common.{◌≡◌, ℕ, ◌==◌, false, ◌||◌, List, [], ◌∷◌, ◌++◌, length, drop, reverse, refl, sym, ap, ◌∙◌, subst, arith}
use Rattle.std.proofs.lemmas.Bool.{or_parts}
use Rattle.std.proofs.lemmas.List.{reverse-append, reverse-reverse, append-nil, append_assoc, take_all}
use Rattle.std.proofs.Math.Seq.{drop-append_seam}
use Rattle.tl_tree.specs.Records.{Record, Records, put_record}
use Rattle.tl_tree_locking.specs.declared.action.Action.{Action}
use Rattle.tl_tree_locking.specs.declared.action.Action.TheVariants as did
use Rattle.tl_tree_locking.specs.Actions.{freed, emitted, has_ended, is_end, locks_and_frees}
use Rattle.tl_tree_locking.specs.Alone.{EndsOnce, all_taken}
use Rattle.tl_tree_locking.proofs.ObeysByPlaces.{reverse-taken}
use Rattle.tl_machine.specs.Runs.{Run, Then, At, Ended, actions, emits_of}
use Rattle.tl_machine.specs.Call.{reply_so_far}
use Rattle.tl_machine.specs.BetweenSteps.{run_left, Steps, Locks, Frees, Counts}
use Rattle.tl_machine.specs.Turns.{TurnValue, Stops, with_call, left_of}
use Rattle.tl_machine.specs.Wants.{want_of}
use Rattle.tl_machine.specs.declared.want.Want.TheVariants as want
use Rattle.tl_machine.specs.declared.want.Stop.{Stop}
use Rattle.tl_machine.specs.declared.want.Stop.TheVariants as stop
use Rattle.tl_machine.specs.declared.call.CallState.{CallState}
use Rattle.tl_machine.specs.Along.{after_done, with_left}
use Rattle.tl_machine.proofs.Along.{onto, actions-after_done, length-with_left, unfreed}
use Rattle.tl_audit.specs.Genuine.{AreFit, IsOn}

-- ---- locks and frees of longer lists

pub locks_and_frees-append : (xs ys : List Action) → locks_and_frees (xs ++ ys) ≡ locks_and_frees xs ++ locks_and_frees ys
locks_and_frees-append [] ys = refl
locks_and_frees-append (did.Plain ∷ xs) ys = locks_and_frees-append xs ys
locks_and_frees-append (did.Lock x r ∷ xs) ys = ap (λ l. did.Lock x r ∷ l) (locks_and_frees-append xs ys)
locks_and_frees-append (did.Read x f n ∷ xs) ys = locks_and_frees-append xs ys
locks_and_frees-append (did.Write x f n ∷ xs) ys = locks_and_frees-append xs ys
locks_and_frees-append (did.Free x r ∷ xs) ys = ap (λ l. did.Free x r ∷ l) (locks_and_frees-append xs ys)
locks_and_frees-append (did.Emit n ∷ xs) ys = locks_and_frees-append xs ys
locks_and_frees-append (did.End ∷ xs) ys = locks_and_frees-append xs ys

onto-locks_and_frees : (done more : List Action) → locks_and_frees (onto done more) ≡ reverse (locks_and_frees done) ++ locks_and_frees more
onto-locks_and_frees [] more = refl
onto-locks_and_frees (a ∷ done) more = onto-locks_and_frees done (a ∷ more) ∙ next a
  where
    one : (b : Action) (xs ys : List Action) → reverse xs ++ b ∷ ys ≡ reverse (b ∷ xs) ++ ys
    one b xs ys = sym (append_assoc (reverse xs) (b ∷ []) ys) ∙ ap (λ l. l ++ ys) (sym (reverse-append (b ∷ []) xs))

    next : (a : Action) → reverse (locks_and_frees done) ++ locks_and_frees (a ∷ more) ≡ reverse (locks_and_frees (a ∷ done)) ++ locks_and_frees more
    next did.Plain = refl
    next (did.Lock x r) = one (did.Lock x r) (locks_and_frees done) (locks_and_frees more)
    next (did.Read x f n) = refl
    next (did.Write x f n) = refl
    next (did.Free x r) = one (did.Free x r) (locks_and_frees done) (locks_and_frees more)
    next (did.Emit n) = refl
    next did.End = refl

locks_and_frees-reverse : (xs : List Action) → locks_and_frees (reverse xs) ≡ reverse (locks_and_frees xs)
locks_and_frees-reverse [] = refl
locks_and_frees-reverse (a ∷ xs) =
    ap locks_and_frees (reverse-append (a ∷ []) xs) ∙ locks_and_frees-append (reverse xs) (a ∷ [])
    ∙ ap (λ l. l ++ locks_and_frees (a ∷ [])) (locks_and_frees-reverse xs) ∙ last a
  where
    one : (b : Action) → reverse (locks_and_frees xs) ++ b ∷ [] ≡ reverse (b ∷ locks_and_frees xs)
    one b = sym (reverse-append (b ∷ []) (locks_and_frees xs))

    last : (a : Action) → reverse (locks_and_frees xs) ++ locks_and_frees (a ∷ []) ≡ reverse (locks_and_frees (a ∷ xs))
    last did.Plain = append-nil (reverse (locks_and_frees xs))
    last (did.Lock x r) = one (did.Lock x r)
    last (did.Read x f n) = append-nil (reverse (locks_and_frees xs))
    last (did.Write x f n) = append-nil (reverse (locks_and_frees xs))
    last (did.Free x r) = one (did.Free x r)
    last (did.Emit n) = append-nil (reverse (locks_and_frees xs))
    last did.End = append-nil (reverse (locks_and_frees xs))

all_taken-reverse : (xs : List Action) → all_taken xs ≡ reverse xs
all_taken-reverse xs =
    let e : reverse (all_taken xs) ≡ xs = reverse-taken (length xs) xs ∙ take_all (length xs) xs (omega arith) in
    sym (reverse-reverse (all_taken xs)) ∙ ap reverse e

pub freed-locks_and_frees : (done : List Action) (x : ℕ) → freed (locks_and_frees done) x ≡ freed done x
freed-locks_and_frees [] x = refl
freed-locks_and_frees (did.Plain ∷ done) x = freed-locks_and_frees done x
freed-locks_and_frees (did.Lock y r ∷ done) x = freed-locks_and_frees done x
freed-locks_and_frees (did.Read y f n ∷ done) x = freed-locks_and_frees done x
freed-locks_and_frees (did.Write y f n ∷ done) x = freed-locks_and_frees done x
freed-locks_and_frees (did.Free y r ∷ done) x = ap (λ b. (y == x) || b) (freed-locks_and_frees done x)
freed-locks_and_frees (did.Emit n ∷ done) x = freed-locks_and_frees done x
freed-locks_and_frees (did.End ∷ done) x = freed-locks_and_frees done x

-- ---- what is emitted, and where a run ends

emits_of-onto : (done more : List Action) → emits_of (onto done more) ≡ emitted done ++ emits_of more
emits_of-onto [] more = refl
emits_of-onto (did.Plain ∷ done) more = emits_of-onto done (did.Plain ∷ more)
emits_of-onto (did.Lock y r ∷ done) more = emits_of-onto done (did.Lock y r ∷ more)
emits_of-onto (did.Read y f n ∷ done) more = emits_of-onto done (did.Read y f n ∷ more)
emits_of-onto (did.Write y f n ∷ done) more = emits_of-onto done (did.Write y f n ∷ more)
emits_of-onto (did.Free y r ∷ done) more = emits_of-onto done (did.Free y r ∷ more)
emits_of-onto (did.Emit n ∷ done) more = emits_of-onto done (did.Emit n ∷ more) ∙ sym (append_assoc (emitted done) (n ∷ []) (emits_of more))
emits_of-onto (did.End ∷ done) more = emits_of-onto done (did.End ∷ more)

-- ---- what is left of a run that ends

ends-onto : (done more : List Action) → has_ended done ≡ false → EndsOnce (onto done more) → EndsOnce more
ends-onto [] more h e = e
ends-onto (a ∷ done) more h e =
    let parts = or_parts (is_end a) (has_ended done) h in
    tail a parts.0 (ends-onto done (a ∷ more) parts.1 e)
  where
    tail : (a : Action) → is_end a ≡ false → EndsOnce (a ∷ more) → EndsOnce more
    tail did.Plain h e = e
    tail (did.Lock x r) h e = e
    tail (did.Read x f n) h e = e
    tail (did.Write x f n) h e = e
    tail (did.Free x r) h e = e
    tail (did.Emit n) h e = e
    tail did.End h e = absurd cc

-- the first lock or free of a run that stops there
abbrev pub BeginsWith : Stop → List Action → Type 0
BeginsWith (stop.Lock x) acts = (r : Record) × (more : List Action) × (locks_and_frees acts ≡ did.Lock x r ∷ more)
BeginsWith (stop.Free x) acts = (r : Record) × (more : List Action) × (locks_and_frees acts ≡ did.Free x r ∷ more)
BeginsWith stop.Return acts = acts ≡ did.End ∷ []
BeginsWith stop.Over acts = ⊥

begins : (rest : Run) (s : Stop) → want_of rest ≡ want.Stop s → EndsOnce (actions rest) → BeginsWith s (actions rest)
begins (Then (did.Lock x r) more) s w e = let is : stop.Lock x ≡ s = cc in subst (λ z. BeginsWith z (did.Lock x r ∷ actions more)) is (r, locks_and_frees (actions more), refl)
begins (Then (did.Free x r) more) s w e = let is : stop.Free x ≡ s = cc in subst (λ z. BeginsWith z (did.Free x r ∷ actions more)) is (r, locks_and_frees (actions more), refl)
begins (Then did.End more) s w e = let is : stop.Return ≡ s = cc in subst (λ z. BeginsWith z (did.End ∷ actions more)) is (ap (λ l. did.End ∷ l) e)
begins (Then did.Plain more) s w e = absurd cc
begins (Then (did.Read x f n) more) s w e = absurd cc
begins (Then (did.Write x f n) more) s w e = absurd cc
begins (Then (did.Emit n) more) s w e = absurd cc
begins (At p u) s w e = absurd e
begins (Ended u) s w e = absurd e

begins-lock : (s : Stop) (acts : List Action) (x : ℕ) (r : Record) (more : List Action) → BeginsWith s acts → locks_and_frees acts ≡ did.Lock x r ∷ more → s ≡ stop.Lock x
begins-lock (stop.Lock y) acts x r more b is = let same : did.Lock y b.0 ∷ b.1 ≡ did.Lock x r ∷ more = sym b.2 ∙ is in cc
begins-lock (stop.Free y) acts x r more b is = let same : did.Free y b.0 ∷ b.1 ≡ did.Lock x r ∷ more = sym b.2 ∙ is in absurd cc
begins-lock stop.Return acts x r more b is = let same : [] ≡ did.Lock x r ∷ more = sym (ap locks_and_frees b) ∙ is in absurd cc
begins-lock stop.Over acts x r more b is = absurd b

begins-free : (s : Stop) (acts : List Action) (x : ℕ) (r : Record) (more : List Action) → BeginsWith s acts → locks_and_frees acts ≡ did.Free x r ∷ more → s ≡ stop.Free x
begins-free (stop.Free y) acts x r more b is = let same : did.Free y b.0 ∷ b.1 ≡ did.Free x r ∷ more = sym b.2 ∙ is in cc
begins-free (stop.Lock y) acts x r more b is = let same : did.Lock y b.0 ∷ b.1 ≡ did.Free x r ∷ more = sym b.2 ∙ is in absurd cc
begins-free stop.Return acts x r more b is = let same : [] ≡ did.Free x r ∷ more = sym (ap locks_and_frees b) ∙ is in absurd cc
begins-free stop.Over acts x r more b is = absurd b

begins-none : (s : Stop) (acts : List Action) → BeginsWith s acts → locks_and_frees acts ≡ [] → s ≡ stop.Return
begins-none (stop.Lock y) acts b is = let same : did.Lock y b.0 ∷ b.1 ≡ [] = sym b.2 ∙ is in absurd cc
begins-none (stop.Free y) acts b is = let same : did.Free y b.0 ∷ b.1 ≡ [] = sym b.2 ∙ is in absurd cc
begins-none stop.Return acts b is = refl
begins-none stop.Over acts b is = absurd b

-- ---- the run

module _ (t : Records) (whole : Run) (so_far : List Action) (turn : TurnValue) (h : IsOn t whole so_far turn) where
  size_left : length (with_left h.done t) ≡ length turn.parents
  size_left = length-with_left h.done t ∙ h.size

  -- one more action
  module _ (new : TurnValue) (same : new ≡ with_call turn new.call) where
    with_it : (l : List Action) → IsOn t whole l (with_call turn new.call) → IsOn t whole l new
    with_it l on = subst (IsOn t whole l) (sym same) on

    plain : (act : Action) → Counts turn.call act new.call → emitted (act ∷ h.done) ≡ emitted h.done ++ emits_of (act ∷ []) → is_end act ≡ false
        → locks_and_frees (act ∷ h.done) ≡ locks_and_frees h.done → with_left (act ∷ h.done) t ≡ with_left h.done t
        → run_left turn.code.instrs turn.parents turn.call (with_left h.done t) ≡ Then act (run_left turn.code.instrs turn.parents new.call (with_left h.done t))
        → IsOn t whole so_far new
    plain act counts emits open' told left leads = with_it so_far (record {
      size = h.size;
      ends = h.ends;
      done = act ∷ h.done;
      runs = h.runs ∙ ap (after_done h.done) leads ∙ ap (λ u. after_done h.done (Then act (run_left turn.code.instrs turn.parents new.call u))) (sym left);
      reply = counts.reply ∙ ap (λ r. r ++ emits_of (act ∷ [])) h.reply ∙ sym emits;
      told = told ∙ h.told;
      goes_on = rw open' h.goes_on;
    })

    pub on_step : (act : Action) → Steps turn.code.instrs turn.parents turn.call act new.call → IsOn t whole so_far new
    on_step did.Plain s = plain did.Plain s.counts (sym (append-nil (emitted h.done))) refl refl refl (s.left (with_left h.done t) size_left)
    on_step (did.Read x f n) s = plain (did.Read x f n) s.counts (sym (append-nil (emitted h.done))) refl refl refl (s.left (with_left h.done t) size_left)
    on_step (did.Write x f n) s = plain (did.Write x f n) s.counts (sym (append-nil (emitted h.done))) refl refl refl (s.left (with_left h.done t) size_left)
    on_step (did.Emit n) s = plain (did.Emit n) s.counts refl refl refl refl (s.left (with_left h.done t) size_left)
    on_step (did.Lock x found) s = absurd s.is_local
    on_step (did.Free x left) s = absurd s.is_local
    on_step did.End s = absurd s.is_local

    pub on_lock : (x : ℕ) (found : Record) → AreFit t (did.Lock x found ∷ so_far)
        → Locks turn.code.instrs turn.parents turn.call x found new.call → IsOn t whole (did.Lock x found ∷ so_far) new
    on_lock x found fit l =
        let unfree : freed h.done x ≡ false = sym (freed-locks_and_frees h.done x) ∙ ap (λ d. freed d x) h.told ∙ fit.2 in
        with_it (did.Lock x found ∷ so_far) (record {
          size = h.size;
          ends = h.ends;
          done = did.Lock x found ∷ h.done;
          runs = h.runs ∙ ap (after_done h.done) (l.left (with_left h.done t) size_left (unfreed h.done t x fit.0 unfree ∙ sym fit.1));
          reply = l.counts.reply ∙ append-nil (reply_so_far turn.call) ∙ h.reply;
          told = ap (λ d. did.Lock x found ∷ d) h.told;
          goes_on = h.goes_on;
        })

    pub on_free : (x : ℕ) (left : Record) → Frees turn.code.instrs turn.parents turn.call x left new.call → IsOn t whole (did.Free x left ∷ so_far) new
    on_free x left f = with_it (did.Free x left ∷ so_far) (record {
      size = h.size;
      ends = h.ends;
      done = did.Free x left ∷ h.done;
      runs = h.runs ∙ ap (after_done h.done) (f.left (with_left h.done t) size_left);
      reply = f.counts.reply ∙ append-nil (reply_so_far turn.call) ∙ h.reply;
      told = ap (λ d. did.Free x left ∷ d) h.told;
      goes_on = h.goes_on;
    })

  abbrev rest : Run
  rest = run_left turn.code.instrs turn.parents turn.call (with_left h.done t)

  acts : actions whole ≡ onto h.done (actions rest)
  acts = ap actions h.runs ∙ actions-after_done h.done rest

  rest_ends : EndsOnce (actions rest)
  rest_ends = ends-onto h.done (actions rest) h.goes_on (subst EndsOnce acts h.ends)

  -- all locks and frees of the run: those so far, and those of the rest
  all_of : locks_and_frees (all_taken (actions whole)) ≡ reverse (locks_and_frees (actions rest)) ++ so_far
  all_of =
      ap locks_and_frees (all_taken-reverse (actions whole)) ∙ locks_and_frees-reverse (actions whole)
      ∙ ap (λ l. reverse (locks_and_frees l)) acts ∙ ap reverse (onto-locks_and_frees h.done (actions rest))
      ∙ reverse-append (reverse (locks_and_frees h.done)) (locks_and_frees (actions rest))
      ∙ ap (λ l. reverse (locks_and_frees (actions rest)) ++ l) (reverse-reverse (locks_and_frees h.done) ∙ h.told)

  -- if one more precedes them, the rest begins with it
  next_is : (later : List Action) (a : Action) → later ++ a ∷ so_far ≡ locks_and_frees (all_taken (actions whole)) → locks_and_frees (actions rest) ≡ a ∷ reverse later
  next_is later a is =
      let left = locks_and_frees (actions rest) in
      let one : reverse (later ++ a ∷ so_far) ≡ reverse so_far ++ a ∷ reverse later =
      reverse-append later (a ∷ so_far) ∙ ap (λ l. l ++ reverse later) (reverse-append (a ∷ []) so_far) ∙ append_assoc (reverse so_far) (a ∷ []) (reverse later) in
      let other : reverse (reverse left ++ so_far) ≡ reverse so_far ++ left =
      reverse-append (reverse left) so_far ∙ ap (λ l. reverse so_far ++ l) (reverse-reverse left) in
      let both : reverse so_far ++ left ≡ reverse so_far ++ a ∷ reverse later = sym other ∙ ap reverse (sym all_of ∙ sym is) ∙ one in
      sym (drop-append_seam (reverse so_far) left) ∙ ap (drop (length (reverse so_far))) both ∙ drop-append_seam (reverse so_far) (a ∷ reverse later)

  -- if these are all, the rest has none
  none_is : so_far ≡ locks_and_frees (all_taken (actions whole)) → locks_and_frees (actions rest) ≡ []
  none_is is =
      let left = locks_and_frees (actions rest) in
      let other : reverse (reverse left ++ so_far) ≡ reverse so_far ++ left =
      reverse-append (reverse left) so_far ∙ ap (λ l. reverse so_far ++ l) (reverse-reverse left) in
      let both : reverse so_far ++ left ≡ reverse so_far ++ [] = sym other ∙ ap reverse (sym all_of ∙ sym is) ∙ sym (append-nil (reverse so_far)) in
      sym (drop-append_seam (reverse so_far) left) ∙ ap (drop (length (reverse so_far))) both ∙ drop-append_seam (reverse so_far) []

  begins_with : (s : Stop) → Stops turn s → BeginsWith s (actions rest)
  begins_with s stops = begins rest s (stops (with_left h.done t) size_left) rest_ends

  pub lock_next : (s : Stop) → Stops turn s → (later : List Action) (x : ℕ) (found : Record) → later ++ did.Lock x found ∷ so_far ≡ locks_and_frees (all_taken (actions whole)) → s ≡ stop.Lock x
  lock_next s stops later x found is = begins-lock s (actions rest) x found (reverse later) (begins_with s stops) (next_is later (did.Lock x found) is)

  pub free_next : (s : Stop) → Stops turn s → (later : List Action) (x : ℕ) (left : Record) → later ++ did.Free x left ∷ so_far ≡ locks_and_frees (all_taken (actions whole)) → s ≡ stop.Free x
  free_next s stops later x left is = begins-free s (actions rest) x left (reverse later) (begins_with s stops) (next_is later (did.Free x left) is)

  pub freed_next : (x : ℕ) (record' : Record) (new : CallState) → Frees turn.code.instrs turn.parents turn.call x record' new → (later : List Action) (left : Record)
      → later ++ did.Free x left ∷ so_far ≡ locks_and_frees (all_taken (actions whole)) → record' ≡ left
  freed_next x record' new f later left is =
      let begin : locks_and_frees (actions rest) ≡ did.Free x record' ∷ locks_and_frees (actions (run_left turn.code.instrs turn.parents new (put_record (with_left h.done t) x record'))) =
      ap (λ r. locks_and_frees (actions r)) (f.left (with_left h.done t) size_left) in
      let same : did.Free x record' ∷ locks_and_frees (actions (run_left turn.code.instrs turn.parents new (put_record (with_left h.done t) x record'))) ≡ did.Free x left ∷ reverse later =
      sym begin ∙ next_is later (did.Free x left) is in
      cc

  pub return_next : (s : Stop) → Stops turn s → so_far ≡ locks_and_frees (all_taken (actions whole)) → s ≡ stop.Return
  return_next s stops is = begins-none s (actions rest) (begins_with s stops) (none_is is)

  pub returned_all : Stops turn stop.Return → so_far ≡ locks_and_frees (all_taken (actions whole))
  returned_all stops = sym (all_of ∙ ap (λ l. reverse (locks_and_frees l) ++ so_far) (begins_with stop.Return stops))

  pub returned_reply : Stops turn stop.Return → reply_so_far turn.call ≡ emits_of (actions whole)
  returned_reply stops =
      h.reply ∙ sym (append-nil (emitted h.done)) ∙ sym (emits_of-onto h.done (did.End ∷ []))
      ∙ sym (ap emits_of (acts ∙ ap (onto h.done) (begins_with stop.Return stops)))

-- the start of a run
pub on_start : (t : Records) (turn : TurnValue) → length t ≡ length turn.parents → EndsOnce (actions (left_of turn t)) → reply_so_far turn.call ≡ [] → IsOn t (left_of turn t) [] turn
on_start t turn size ends reply = record { size = size; ends = ends; done = []; runs = refl; reply = reply; told = refl; goes_on = refl }

-- a turn stops at only one node
pub one_free : (turn : TurnValue) (t : Records) → length t ≡ length turn.parents → (x y : ℕ) → Stops turn (stop.Free x) → Stops turn (stop.Free y) → x ≡ y
one_free turn t size x y wx wy = let e : want.Stop (stop.Free x) ≡ want.Stop (stop.Free y) = sym (wx t size) ∙ wy t size in cc
