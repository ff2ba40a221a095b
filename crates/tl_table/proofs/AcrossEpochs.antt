-- What a call finds at a node that a call of an earlier epoch left.
use Rattle.std.proofs.Common.{◌≡◌, ℕ, zero, suc, ◌+◌, ◌<◌, true, List, [], ◌∷◌, ◌++◌, length, refl, sym, ap, ◌∙◌, subst, arith}
use Rattle.std.specs.Prelude.{Some, slice_get, if◌then◌else◌, ◌==◌}
use Rattle.std.proofs.lemmas.List.{append-nil}
use Rattle.std.proofs.lemmas.Option.{none-some, same_Some}
use Rattle.tl_tree.specs.Records.{Record, Records, record_at}
use Rattle.tl_tree_locking.specs.Actions.{locked}
use Rattle.tl_tree_locking.specs.declared.event.Event.{Event}
use Rattle.tl_tree_locking.specs.declared.event.Event.TheVariants.{Admit, Lock, Free, Done}
use Rattle.tl_tree_locking.specs.History.{part_of, last_left, records_now, Follows}
use Rattle.tl_tree_locking.proofs.MayComeLemmas.{locked-any}
use Rattle.tl_tree_locking.proofs.NoStandstill.{done_free, any_admitted, sound_history}
use Rattle.tl_tree_locking.proofs.Records.{record_at-records_now}
use Rattle.tl_tree_locking.proofs.WorldSteps.{part_inside}
use Rattle.tl_procedures.specs.Names.{Named}
use Rattle.tl_table.specs.Across.{events_of, LockedIn, FindsAcross}
use Rattle.tl_table.specs.Epochs.{EpochValue, seen}
use Rattle.tl_table.specs.Tables.{epoch_world, InLine, IsRested, IsChain}
use Rattle.tl_table.proofs.Finding.{IsLockedIn, locked_in, IsFreedIn, freed_in, found_then, last_left-free}

last_left-append : (xs ys : List Event) (x : ℕ) (r : Record) → last_left (xs ++ ys) x r ≡ last_left xs x (last_left ys x r)
last_left-append [] ys x r = refl
last_left-append (Admit c ∷ xs) ys x r = last_left-append xs ys x r
last_left-append (Lock y c found ∷ xs) ys x r = last_left-append xs ys x r
last_left-append (Free y c own ∷ xs) ys x r = ap (λ z. if y == x then own else z) (last_left-append xs ys x r)
last_left-append (Done c ∷ xs) ys x r = last_left-append xs ys x r

-- ---- one epoch at rest

-- a call that locked a node in an epoch at rest has freed it
freed_by_rest : (e : EpochValue) (c x : ℕ) → IsRested e → locked (part_of c (seen e).past) x ≡ true → IsFreedIn (seen e).past c x
freed_by_rest e c x rested l =
    let w = epoch_world e in
    let history = sound_history w rested.sound in
    let admitted = any_admitted w.parents w.past history c (locked-any (part_of c w.past) x l) in
    freed_in w.past c x l (done_free w.parents w.past history c x (rested.done c admitted))

locked_there : (e : EpochValue) (c x : ℕ) → locked (part_of c (seen e).past) x ≡ true → IsLockedIn (seen e).past c x
locked_there e c x l = locked_in (seen e).past [] c x refl (ap (λ p. locked (part_of c p) x) (append-nil (seen e).past) ∙ l)

-- ---- later epochs

-- the position of a later epoch, and the records that it opens with
record IsLater (opening : Records) (parents : List ℕ) (es : List EpochValue) (j : ℕ) (f : EpochValue) : Type 0 where
  between : List EpochValue
  last : List EpochValue
  split : es ≡ between ++ f ∷ last
  count : length between ≡ j
  opens : (x : ℕ) → x < length parents → record_at (seen f).opening x ≡ last_left (events_of between) x (record_at opening x)
  rested : IsRested f
  shape : (seen f).parents ≡ parents

is_later : (n : ℕ) (parents : List ℕ) (opening : Records) (procedures : List Named) (es : List EpochValue) → InLine n parents opening procedures es → (j : ℕ) (f : EpochValue) → slice_get es j ≡ Some f
    → IsLater opening parents es j f
is_later n parents opening procedures [] line j f at = absurd (none-some f at)
is_later n parents opening procedures (g ∷ es) line zero f at =
    let same = same_Some g f at in
    record {
      between = [];
      last = es;
      split = ap (λ h. h ∷ es) same;
      count = refl;
      opens = λ x lt. ap (λ h. record_at (seen h).opening x) (sym same) ∙ ap (λ (t : Records). record_at t x) line.0.opening;
      rested = subst IsRested same line.1;
      shape = ap (λ h. (seen h).parents) (sym same) ∙ line.0.parents;
    }
is_later n parents opening procedures (g ∷ es) line (suc j) f at =
    let rest = is_later (n + 1) parents (records_now (seen g).past (seen g).opening) (seen g).procedures es line.2 j f at in
    record {
      between = g ∷ rest.between;
      last = rest.last;
      split = ap (λ l. g ∷ l) rest.split;
      count = ap suc rest.count;
      opens = λ x lt.
          let size : length (seen g).opening ≡ length parents = line.1.sound.size ∙ ap length line.0.parents in
          rest.opens x lt
          ∙ ap (last_left (events_of rest.between) x) (record_at-records_now (seen g).past (seen g).opening x (omega (arith, lt, size)) ∙ ap (λ (t : Records). last_left (seen g).past x (record_at t x)) line.0.opening)
          ∙ sym (last_left-append (events_of rest.between) (seen g).past x (record_at opening x));
      rested = rest.rested;
      shape = rest.shape;
    }

-- ---- two epochs

one_later : (g : EpochValue) (es : List EpochValue) (n a m b x : ℕ) → FindsAcross es n a m b x → FindsAcross (g ∷ es) (suc n) a (suc m) b x
one_later g es n a m b x h = record {
  first = g ∷ h.first;
  between = h.between;
  last = h.last;
  freeing = h.freeing;
  locking = h.locking;
  epochs = ap (λ l. g ∷ l) h.epochs;
  n_is = ap suc h.n_is;
  m_is = (let e = h.m_is in omega (arith, e));
  since = h.since;
  before = h.before;
  left = h.left;
  free = h.free;
  later = h.later;
  sooner = h.sooner;
  found = h.found;
  lock = h.lock;
  finds = h.finds;
}

-- the record left last, over the epochs in between
found_there : (sooner : List Event) (between : List EpochValue) (since before : List Event) (a x : ℕ) (left r : Record)
    → last_left sooner x (last_left (events_of between) x (last_left (since ++ Free x a left ∷ before) x r)) ≡ last_left (sooner ++ events_of between ++ since) x left
found_there sooner between since before a x left r =
    ap (λ z. last_left sooner x (last_left (events_of between) x z)) (last_left-free since before a x left r)
    ∙ sym (last_left-append sooner (events_of between) x (last_left since x left))
    ∙ sym (last_left-append (sooner ++ events_of between) since x left)

from_first : (n : ℕ) (parents : List ℕ) (opening : Records) (procedures : List Named) (e : EpochValue) (es : List EpochValue) → InLine n parents opening procedures (e ∷ es)
    → (j a b x : ℕ) (f : EpochValue) → slice_get es j ≡ Some f → locked (part_of a (seen e).past) x ≡ true → locked (part_of b (seen f).past) x ≡ true
    → FindsAcross (e ∷ es) 0 a (suc j) b x
from_first n parents opening procedures e es line j a b x f at la lb =
    let later = is_later (n + 1) parents (records_now (seen e).past (seen e).opening) (seen e).procedures es line.2 j f at in
    let free = freed_by_rest e a x line.1 la in
    let lock = locked_there f b x lb in
    let node : x < length (seen f).parents = part_inside (epoch_world f) later.rested.sound b x lb in
    let shape = later.shape in
    let size : length (seen e).opening ≡ length parents = line.1.sound.size ∙ ap length line.0.parents in
    let lt : x < length parents = subst (λ (ps : List ℕ). x < length ps) shape node in
    let found = found_then (seen f).opening lock.front lock.back b x lock.found (subst (Follows (seen f).opening) lock.split later.rested.sound.legal.follows) in
    let opened = later.opens x lt ∙ ap (last_left (events_of later.between) x) (record_at-records_now (seen e).past (seen e).opening x (omega (arith, lt, size)) ∙ ap (λ p. last_left p x (record_at (seen e).opening x)) free.split) in
    record {
      first = [];
      between = later.between;
      last = later.last;
      freeing = e;
      locking = f;
      epochs = ap (λ l. e ∷ l) later.split;
      n_is = refl;
      m_is = (let c = later.count in omega (arith, c));
      since = free.front;
      before = free.back;
      left = free.left;
      free = free.split;
      later = lock.front;
      sooner = lock.back;
      found = lock.found;
      lock = lock.split;
      finds = found ∙ ap (last_left lock.back x) opened ∙ found_there lock.back later.between free.front free.back a x free.left (record_at (seen e).opening x);
    }

in_line : (k : ℕ) (parents : List ℕ) (opening : Records) (procedures : List Named) (es : List EpochValue) → InLine k parents opening procedures es
    → (n m a b x : ℕ) → n < m → LockedIn es n a x → LockedIn es m b x → FindsAcross es n a m b x
in_line k parents opening procedures [] line n m a b x lt la lb = absurd (none-some la.0 la.1)
in_line k parents opening procedures (e ∷ es) line n zero a b x lt la lb = absurd (omega (arith, lt))
in_line k parents opening procedures (e ∷ es) line zero (suc j) a b x lt la lb =
    let same = same_Some e la.0 la.1 in
    from_first k parents opening procedures e es line j a b x lb.0 lb.1 (subst (λ g. locked (part_of a (seen g).past) x ≡ true) (sym same) la.2) lb.2
in_line k parents opening procedures (e ∷ es) line (suc n) (suc m) a b x lt la lb =
    one_later e es n a m b x (in_line (k + 1) parents (records_now (seen e).past (seen e).opening) (seen e).procedures es line.2 n m a b x (omega (arith, lt)) la lb)

pub finds_across : (es : List EpochValue) (n m a b x : ℕ) → IsChain es → n < m → LockedIn es n a x → LockedIn es m b x → FindsAcross es n a m b x
finds_across es n m a b x chain lt la lb = in_line 0 chain.parents chain.opening [] es chain.line n m a b x lt la lb
