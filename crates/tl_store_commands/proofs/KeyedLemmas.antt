-- How many calls had a key, and which of them are found by it.
use Rattle.std.proofs.Common.{◌≡◌, ◌∙◌, ◌≤◌, ◌<◌, ◌+◌, ◌-◌, ◌⊎◌, ℕ, zero, suc, pos, String, List, [], ◌∷◌, ◌++◌, length, map, take, drop, Option, Some, None, inl, inr, refl, sym, ap, subst, option_map, string_bytes, arith}
use Rattle.std.specs.Prelude.{Contains, is_some, slice_get, cond, Result, Ok, Err, OnOk}
use Rattle.std.specs.declared.alloc.Global.{Global}
use Rattle.std.proofs.lemmas.List.{take-take, drop-take, take-append-le, take-map, drop-map, length-map}
use Rattle.std.proofs.lemmas.List.Sums.{sum_by-cons, sum_by-append, sum_by-take-le, sum_by-take-drop}
use Rattle.std.proofs.lemmas.Option.{slice_get-map, slice_get_within}
use Rattle.sqlite_value.specs.Order.{Row}
use Rattle.tl_ledger.specs.declared.schema.TheConstants.{CALL, REPLY, SEAL, NAME}
use Rattle.tl_ledger.specs.declared.rows.CallRow.{CallRow}
use Rattle.tl_ledger.specs.declared.rows.ReplyRow.{ReplyRow}
use Rattle.tl_ledger.specs.declared.rows.SealRow.{SealRow}
use Rattle.sqlite_trees.specs.Tree.{Trees}
use Rattle.tl_ledger.specs.Rows.{rows_from}
use Rattle.tl_ledger.specs.Contents.{Contents, Holds}
use Rattle.tl_ledger.specs.News.{key_column, call_columns, reply_columns, seal_columns}
use Rattle.tl_keys.specs.declared.index.TheConstants.{CAPACITY}
use Rattle.tl_keys.specs.declared.index.KeyIndex.{KeyIndex}
use Rattle.tl_keys.specs.Kept.{KeptValue}
use Rattle.tl_keys.specs.Keys.{Lasts, Remembers}
use Rattle.tl_keys.proofs.Remembering.{lasts_here, lasts_on, lasts_found}
use Rattle.tl_store_commands.specs.declared.remembering.TheConstants.{RECALLED}
use Rattle.tl_store_commands.specs.declared.remembering.Counts.{Counts}
use Rattle.tl_store_commands.specs.Remembering.{IsReplyTo, HasKey, keyed, HoldsOn, AreFound, Began, IsAnswered, FindsMore, FindsLast}

-- ---- how long something lasts

pub lasts_less : (i : KeyIndex) (key : List ℕ) (n m : ℕ) → Lasts i key n → m ≤ n → Lasts i key m
lasts_less i key n m (inl here) le = inl (here.0, omega (arith, here.1, le))
lasts_less i key n m (inr there) le = inr (there.0, omega (arith, there.1, le))

-- ---- how many had a key

abbrev one_of : Option (String Global) → ℕ
one_of key = cond (is_some key) 1 0

abbrev has_one : CallRow → ℕ
has_one call = one_of call.key

keyed_cons : (x : CallRow) (xs : List CallRow) → keyed (x ∷ xs) ≡ has_one x + keyed xs
keyed_cons x xs = sum_by-cons has_one x xs

keyed_append : (xs ys : List CallRow) → keyed (xs ++ ys) ≡ keyed xs + keyed ys
keyed_append xs ys = sum_by-append has_one xs ys

same_one : (a b : Option (String Global)) → key_column a ≡ key_column b → one_of a ≡ one_of b
same_one None None is = refl
same_one None (Some y) is = absurd cc
same_one (Some x) None is = absurd cc
same_one (Some x) (Some y) is = refl

same_key : (a b : Option (String Global)) (key : List ℕ) → key_column a ≡ key_column b → option_map string_bytes b ≡ Some key → option_map string_bytes a ≡ Some key
same_key None None key is has = has
same_key None (Some y) key is has = absurd cc
same_key (Some x) None key is has = absurd cc
same_key (Some x) (Some y) key is has = let bytes : string_bytes x ≡ string_bytes y = cc in ap Some bytes ∙ has

columns_key : (x y : CallRow) → call_columns x ≡ call_columns y → key_column x.key ≡ key_column y.key
columns_key x y is = cc

keyed_same : (xs ys : List CallRow) → map call_columns xs ≡ map call_columns ys → keyed xs ≡ keyed ys
keyed_same [] [] is = refl
keyed_same [] (y ∷ ys) is = absurd cc
keyed_same (x ∷ xs) [] is = absurd cc
keyed_same (x ∷ xs) (y ∷ ys) is =
    let head : call_columns x ≡ call_columns y = cc in
    let tail : map call_columns xs ≡ map call_columns ys = cc in
    let one : has_one x ≡ has_one y = same_one x.key y.key (columns_key x y head) in
    let more = keyed_same xs ys tail in
    let a = keyed_cons x xs in
    let b = keyed_cons y ys in
    omega (arith, a, b, one, more)

some_key : (k : Option (String Global)) (key : List ℕ) → option_map string_bytes k ≡ Some key → one_of k ≡ 1
some_key None key has = absurd cc
some_key (Some x) key has = refl

-- a call that had a key is one
pub keyed_one : (xs : List CallRow) (j : ℕ) (x : CallRow) (key : List ℕ) → slice_get xs j ≡ Some x → HasKey x key → 1 ≤ keyed xs
keyed_one [] j x key at has = absurd cc
keyed_one (y ∷ ys) zero x key at has =
    let same : y ≡ x = cc in
    let one : has_one x ≡ 1 = some_key x.key key has in
    let a = keyed_cons y ys in
    let b : has_one y ≡ has_one x = ap has_one same in
    omega (arith, a, b, one)
keyed_one (y ∷ ys) (suc j) x key at has = let more = keyed_one ys j x key at has in let a = keyed_cons y ys in omega (arith, a, more)

-- the first calls up to a place, and those from there on
pub keyed_part : (all : List CallRow) (first j : ℕ) → keyed (take first all) + keyed (take j (drop first all)) ≡ keyed (take (first + j) all)
keyed_part all first j =
    let split = sum_by-take-drop has_one (take (first + j) all) first in
    let front : take first (take (first + j) all) ≡ take first all = take-take first (first + j) all (omega arith) in
    let back : drop first (take (first + j) all) ≡ take j (drop first all) = drop-take first j all in
    let a : keyed (take first (take (first + j) all)) ≡ keyed (take first all) = ap keyed front in
    let b : keyed (drop first (take (first + j) all)) ≡ keyed (take j (drop first all)) = ap keyed back in
    omega (arith, split, a, b)

-- fewer of fewer
keyed_less : (all : List CallRow) (m n : ℕ) → m ≤ n → keyed (take m all) ≤ keyed (take n all)
keyed_less all m n le =
    let part = keyed_part all m (n - m) in
    let same : m + (n - m) ≡ n = omega (arith, le) in
    let is : keyed (take (m + (n - m)) all) ≡ keyed (take n all) = ap (λ k. keyed (take k all)) same in
    omega (arith, part, is)

-- ---- one call more

more_at : {X : Type 0} → (xs : List X) (x y : X) (d : ℕ) → slice_get (xs ++ x ∷ []) d ≡ Some y → ((d ≡ length xs) × (x ≡ y)) ⊎ (slice_get xs d ≡ Some y)
more_at [] x y zero at = inl (refl, cc)
more_at [] x y (suc d) at = absurd cc
more_at (z ∷ xs) x y zero at = inr at
more_at (z ∷ xs) x y (suc d) at = elim (more_at xs x y d at) [
  | inl here ↦ inl (omega (arith, here.0), here.1)
  | inr before ↦ inr before
]

-- where nothing was remembered, all lasts that did
pub held_same : (calls : List CallRow) (index : KeyIndex) → HoldsOn calls index index
held_same calls index key n lasts = lasts_less index key (n + keyed calls) n lasts (omega arith)

-- one call with a key was remembered
pub held_keyed : (call : CallRow) (old new : KeyIndex) (own : List ℕ) (kept : KeptValue) → HasKey call own → Remembers old new own kept → HoldsOn (call ∷ []) old new
held_keyed call old new own kept has now key n lasts =
    let sum = keyed_cons call [] in
    let one : has_one call ≡ 1 = some_key call.key own has in
    lasts_on old new own key kept n now (lasts_less old key (n + keyed (call ∷ [])) (n + 1) lasts (omega (arith, sum, one)))

pub here_keyed : (call : CallRow) (old new : KeyIndex) (own : List ℕ) (kept : KeptValue) → HasKey call own → Remembers old new own kept → (key : List ℕ) → HasKey call key → Lasts new key CAPACITY
here_keyed call old new own kept has now key is =
    let both : Some own ≡ Some key = sym has ∙ is in
    let same : own ≡ key = cc in
    subst (λ q. Lasts new q CAPACITY) same (lasts_here old new own kept now)

pub held_more : (xs : List CallRow) (x : CallRow) (first old new : KeyIndex) → HoldsOn xs first old → HoldsOn (x ∷ []) old new → HoldsOn (xs ++ x ∷ []) first new
held_more xs x first old new before now key n lasts =
    let sum = keyed_append xs (x ∷ []) in
    now key n (before key (n + keyed (x ∷ [])) (lasts_less first key (n + keyed (xs ++ x ∷ [])) (n + keyed (x ∷ []) + keyed xs) lasts (omega (arith, sum))))

pub found_none : (replies : List ReplyRow) (index : KeyIndex) → AreFound [] replies index
found_none replies index place call reply key n at has there is room = absurd cc

pub found_more : (xs : List CallRow) (x : CallRow) (replies : List ReplyRow) (old new : KeyIndex) → AreFound xs replies old → HoldsOn (x ∷ []) old new
    → ((key : List ℕ) (reply : ReplyRow) → HasKey x key → Contains replies reply → IsReplyTo x reply → Lasts new key CAPACITY) → AreFound (xs ++ x ∷ []) replies new
found_more xs x replies old new before now here place call reply key n at has there is room =
    let sum = keyed_append xs (x ∷ []) in
    elim (more_at xs x call place at) [
      | inl last ↦
          let at_x : HasKey x key = subst (λ c. HasKey c key) (sym last.1) has in
          let to_x : IsReplyTo x reply = subst (λ c. IsReplyTo c reply) (sym last.1) is in
          let few = sum_by-take-le has_one (xs ++ x ∷ []) (place + 1) in
          lasts_less new key CAPACITY n (here key reply at_x there to_x) (omega (arith, room, few))
      | inr earlier ↦
          let inside : place < length xs = slice_get_within xs place call earlier in
          let front : take (place + 1) (xs ++ x ∷ []) ≡ take (place + 1) xs = take-append-le (place + 1) xs (x ∷ []) (omega (arith, inside)) in
          let same : keyed (take (place + 1) (xs ++ x ∷ [])) ≡ keyed (take (place + 1) xs) = ap keyed front in
          now key n (before place call reply key (n + keyed (x ∷ [])) earlier has there is (omega (arith, room, sum, same)))
    ]

-- ---- the calls of an epoch

pub contains_of_map : {X Y : Type 0} → (f : X → Y) (xs : List X) (y : Y) → Contains (map f xs) y → (x : X) × Contains xs x × (f x ≡ y)
contains_of_map f [] y there = absurd (omega (arith, there.1))
contains_of_map f (x ∷ xs) y (zero, inside, is) = (x, (zero, omega arith, refl), is)
contains_of_map f (x ∷ xs) y (suc k, inside, is) =
    let more = contains_of_map f xs y (k, omega (arith, inside), is) in
    (more.0, (suc more.1.0, omega (arith, more.1.1), more.1.2), more.2)

at_mapped : {A B : Type 0} (f : A → B) (xs : List A) (k : ℕ) (y : B) → slice_get (map f xs) k ≡ Some y → (x : A) × (slice_get xs k ≡ Some x) × (f x ≡ y)
at_mapped f [] k y at = absurd cc
at_mapped f (x ∷ xs) zero y at = (x, refl, (let h : f x ≡ y = cc in h))
at_mapped f (x ∷ xs) (suc k) y at = at_mapped f xs k y at

behind_at : {A : Type 0} (n : ℕ) (xs : List A) (j : ℕ) → slice_get (drop n xs) j ≡ slice_get xs (n + j)
behind_at zero xs j = let same : j ≡ 0 + j = omega arith in ap (slice_get xs) same
behind_at (suc n) [] j = refl
behind_at (suc n) (x ∷ xs) j =
    let same : suc (n + j) ≡ suc n + j = omega arith in
    behind_at n xs j ∙ ap (slice_get (x ∷ xs)) same

take_at : {X : Type 0} → (xs : List X) (n i : ℕ) → i < n → slice_get (take n xs) i ≡ slice_get xs i
take_at xs zero i lt = absurd (omega arith)
take_at [] (suc n) i lt = refl
take_at (x ∷ xs) (suc n) zero lt = refl
take_at (x ∷ xs) (suc n) (suc i) lt = take_at xs n i (omega arith)

-- when an epoch began is determined
pub began_same : (seals : List Row) (epoch calls replies others more : ℕ) → Began seals epoch calls replies → Began seals epoch others more → (calls ≡ others) × (replies ≡ more)
began_same seals zero calls replies others more a b = (let x = (a.first refl).0 in let y = (b.first refl).0 in x ∙ sym y, let x = (a.first refl).1 in let y = (b.first refl).1 in x ∙ sym y)
began_same seals (suc k) calls replies others more a b =
    let x = a.later k refl in
    let y = b.later k refl in
    let same : seal_columns x.0 ≡ seal_columns y.0 = let at = sym x.1 ∙ y.1 in cc in
    let called : x.0.calls ≡ y.0.calls = cc in
    let replied : x.0.replies ≡ y.0.replies = cc in
    let left : pos calls ≡ pos others = sym x.2 ∙ called ∙ y.2 in
    let right : pos replies ≡ pos more = sym x.3 ∙ replied ∙ y.3 in
    (cc, cc)

-- rows that were read are these of all
read_rows : (all xs : List CallRow) (columns : List Row) (first last : ℕ) → columns ≡ map call_columns all → map call_columns xs ≡ take (last - first) (drop first columns)
    → map call_columns xs ≡ take (last - first) (drop first (map call_columns all))
read_rows all xs columns first last is read = subst (λ r. map call_columns xs ≡ take (last - first) (drop first r)) is read

read_first : (all xs : List CallRow) (columns : List Row) (first last j : ℕ) → columns ≡ map call_columns all → map call_columns xs ≡ take (last - first) (drop first columns) → j ≤ last - first
    → keyed (take first all) + keyed (take j xs) ≡ keyed (take (first + j) all)
read_first all xs columns first last j is read le =
    let mine : map call_columns (take j xs) ≡ map call_columns (take j (drop first all)) =
    sym (take-map call_columns j xs) ∙ ap (take j) (read_rows all xs columns first last is read) ∙ take-take j (last - first) (drop first (map call_columns all)) le
    ∙ ap (take j) (drop-map call_columns first all) ∙ take-map call_columns j (drop first all) in
    let same = keyed_same (take j xs) (take j (drop first all)) mine in
    let part = keyed_part all first j in
    omega (arith, same, part)

read_whole : (all xs : List CallRow) (columns : List Row) (first last : ℕ) → columns ≡ map call_columns all → map call_columns xs ≡ take (last - first) (drop first columns) → first ≤ last
    → keyed (take first all) + keyed xs ≡ keyed (take last all)
read_whole all xs columns first last is read le =
    let mine : map call_columns xs ≡ map call_columns (take (last - first) (drop first all)) =
    read_rows all xs columns first last is read ∙ ap (take (last - first)) (drop-map call_columns first all) ∙ take-map call_columns (last - first) (drop first all) in
    let same = keyed_same xs (take (last - first) (drop first all)) mine in
    let part = keyed_part all first (last - first) in
    let sum : first + (last - first) ≡ last = omega (arith, le) in
    let whole : keyed (take (first + (last - first)) all) ≡ keyed (take last all) = ap (λ k. keyed (take k all)) sum in
    omega (arith, same, part, whole)

-- each of an epoch's calls that had a key and was answered is remembered
abbrev pub FindsOwn : Contents → ℕ → ℕ → List CallRow → KeyIndex → Type 0
FindsOwn c first last xs index = (place : ℕ) (x : CallRow) (reply : ReplyRow) (key : List ℕ) (n : ℕ) → slice_get xs place ≡ Some x → HasKey x key
    → Contains (take (last - first) (drop first (c REPLY))) (reply_columns reply) → IsReplyTo x reply → n + keyed xs ≤ CAPACITY + keyed (take (place + 1) xs) → Lasts index key n

reply_same : (x : CallRow) (r reply : ReplyRow) → reply_columns r ≡ reply_columns reply → IsReplyTo x reply → IsReplyTo x r
reply_same x r reply same is =
    let epoch : r.epoch ≡ reply.epoch = cc in
    let call : r.call ≡ reply.call = cc in
    (epoch ∙ is.0, call ∙ is.1)

pub own_found : (c : Contents) (first last : ℕ) (xs : List CallRow) (replies : List ReplyRow) (index : KeyIndex) → map reply_columns replies ≡ take (last - first) (drop first (c REPLY))
    → AreFound xs replies index → FindsOwn c first last xs index
own_found c first last xs replies index rows found place x reply key n at has there is room =
    let r = contains_of_map reply_columns replies (reply_columns reply) (subst (λ l. Contains l (reply_columns reply)) (sym rows) there) in
    found place x r.0 key n at has r.1 (reply_same x r.0 reply r.2 is) room

pub own_none : (c : Contents) (first last : ℕ) (xs : List CallRow) (index : KeyIndex) → keyed xs ≡ 0 → FindsOwn c first last xs index
own_none c first last xs index none place x reply key n at has there is room = let one = keyed_one xs place x key at has in absurd (omega (arith, none, one))

-- the call at a place of all is that one of the epoch's
own_at : (all xs : List CallRow) (columns : List Row) (first last place : ℕ) (call : CallRow) → columns ≡ map call_columns all → map call_columns xs ≡ take (last - first) (drop first columns)
    → first ≤ place → place < last → slice_get all place ≡ Some call → slice_get (map call_columns xs) (place - first) ≡ Some (call_columns call)
own_at all xs columns first last place call is read from below at =
    let j = place - first in
    let sum : first + j ≡ place = omega (arith, from) in
    ap (λ l. slice_get l j) (read_rows all xs columns first last is read) ∙ take_at (drop first (map call_columns all)) (last - first) j (omega (arith, from, below))
    ∙ behind_at first (map call_columns all) j ∙ ap (slice_get (map call_columns all)) sum ∙ slice_get-map call_columns all place ∙ ap (option_map call_columns) at

asked_same : (x call : CallRow) (reply : ReplyRow) → call_columns x ≡ call_columns call → IsReplyTo call reply → IsReplyTo x reply
asked_same x call reply same is =
    let epoch : x.epoch ≡ call.epoch = cc in
    let number : x.number ≡ call.number = cc in
    (is.0 ∙ sym epoch, is.1 ∙ sym number)

pub finds_more : (c : Contents) (epoch first_call first_reply last_call last_reply : ℕ) (xs : List CallRow) (old new : KeyIndex) → Began (c SEAL) epoch first_call first_reply
    → Began (c SEAL) (suc epoch) last_call last_reply → first_call ≤ last_call → map call_columns xs ≡ take (last_call - first_call) (drop first_call (c CALL))
    → HoldsOn xs old new → FindsOwn c first_reply last_reply xs new → FindsMore c epoch old new
finds_more c epoch first_call first_reply last_call last_reply xs old new begins ends order read holds own = record {
  first_call = first_call;
  first_reply = first_reply;
  begins = begins;
  last_call = last_call;
  last_reply = last_reply;
  ends = ends;
  order = order;
  held = λ calls all key m n room lasts.
      let sum = read_whole calls xs (c CALL) first_call last_call all read order in
      holds key n (lasts_less old key m (n + keyed xs) lasts (omega (arith, room, sum)));
  here = λ calls place key n a at_epoch room.
      let began : Began (c SEAL) epoch a.first_call a.first_reply = subst (λ e. Began (c SEAL) e a.first_call a.first_reply) at_epoch a.begins in
      let ended : Began (c SEAL) (suc epoch) a.last_call a.last_reply = subst (λ e. Began (c SEAL) (suc e) a.last_call a.last_reply) at_epoch a.ends in
      let from = began_same (c SEAL) epoch a.first_call a.first_reply first_call first_reply began begins in
      let to = began_same (c SEAL) (suc epoch) a.last_call a.last_reply last_call last_reply ended ends in
      let above : first_call ≤ place = omega (arith, a.inside.0, from.0) in
      let below : place < last_call = omega (arith, a.inside.1, to.0) in
      let j = place - first_call in
      let at = at_mapped call_columns xs j (call_columns a.call) (own_at calls xs (c CALL) first_call last_call place a.call a.all read above below a.at) in
      let x = at.0 in
      let has : HasKey x key = same_key x.key a.call.key key (columns_key x a.call at.2) a.has_key in
      let there : Contains (take (last_reply - first_reply) (drop first_reply (c REPLY))) (reply_columns a.reply) =
      subst (λ b. Contains (take (last_reply - b) (drop b (c REPLY))) (reply_columns a.reply)) from.1
      (subst (λ e. Contains (take (e - a.first_reply) (drop a.first_reply (c REPLY))) (reply_columns a.reply)) to.1 a.there) in
      let whole = read_whole calls xs (c CALL) first_call last_call a.all read order in
      let part = read_first calls xs (c CALL) first_call last_call (j + 1) a.all read (omega (arith, above, below)) in
      let sum : first_call + (j + 1) ≡ place + 1 = omega (arith, above) in
      let to_here : keyed (take (first_call + (j + 1)) calls) ≡ keyed (take (place + 1) calls) = ap (λ k. keyed (take k calls)) sum in
      own j x a.reply key n at.1 has there (asked_same x a.call a.reply at.2 a.replies) (omega (arith, room, whole, part, to_here));
}

-- ---- one epoch after another

-- each answered call with a key, of the epochs from the first one on and before this one, is remembered
abbrev pub FindsUpTo : Contents → ℕ → ℕ → KeyIndex → Type 0
FindsUpTo c first epoch index = (calls : List CallRow) (place : ℕ) (key : List ℕ) (a : IsAnswered c calls place key) → first ≤ a.epoch → a.epoch < epoch
    → (last : ℕ) × (more : ℕ) × Began (c SEAL) epoch last more × ((n : ℕ) → n + keyed (take last calls) ≤ CAPACITY + keyed (take (place + 1) calls) → Lasts index key n)

pub finds_none : (c : Contents) (first : ℕ) (index : KeyIndex) → FindsUpTo c first first index
finds_none c first index calls place key a from below = absurd (omega (arith, from, below))

pub last_or_before : (a b : ℕ) → a < b + 1 → (a ≡ b) ⊎ (a < b)
last_or_before zero zero lt = inl refl
last_or_before zero (suc b) lt = inr (omega arith)
last_or_before (suc a) zero lt = absurd (omega (arith, lt))
last_or_before (suc a) (suc b) lt = elim (last_or_before a b (omega (arith, lt))) [
  | inl same ↦ inl (ap suc same)
  | inr less ↦ inr (omega (arith, less))
]

pub finds_on : (c : Contents) (first epoch : ℕ) (old new : KeyIndex) → FindsUpTo c first epoch old → FindsMore c epoch old new → FindsUpTo c first (epoch + 1) new
finds_on c first epoch old new before more calls place key a from below =
    let next : suc epoch ≡ epoch + 1 = omega arith in
    let ends : Began (c SEAL) (epoch + 1) more.last_call more.last_reply = subst (λ e. Began (c SEAL) e more.last_call more.last_reply) next more.ends in (
      more.last_call,
      more.last_reply,
      ends,
      λ n room.
          elim (last_or_before a.epoch epoch below) [
            | inl same ↦ more.here calls place key n a same room
            | inr earlier ↦
                let b = before calls place key a from earlier in
                let at = began_same (c SEAL) epoch b.0 b.1 more.first_call more.first_reply b.2 more.begins in
                let less = keyed_less calls more.first_call more.last_call more.order in
                let same : keyed (take b.0 calls) ≡ keyed (take more.first_call calls) = ap (λ k. keyed (take k calls)) at.0 in
                let m = n + keyed (take more.last_call calls) - keyed (take more.first_call calls) in
                more.held calls a.all key m n (omega (arith, less)) (b.3 m (omega (arith, less, same, room)))
          ],
    )

pub finds_last : (c : Contents) (first many : ℕ) (index : KeyIndex) → FindsUpTo c first many index → length (c SEAL) ≤ many
    → ((epoch calls replies place : ℕ) → Began (c SEAL) (suc epoch) calls replies → place < calls → length (c CALL) ≤ place + RECALLED → first ≤ epoch) → FindsLast c index
finds_last c first many index all seals lately calls place key a recent few =
    let long : length (c CALL) ≡ length calls = ap length a.all ∙ length-map calls call_columns in
    let from = lately a.epoch a.last_call a.last_reply place a.ends a.inside.1 (omega (arith, recent, long)) in
    let seal = a.ends.later a.epoch refl in
    let inside : a.epoch < length (c SEAL) = slice_get_within (c SEAL) a.epoch (seal_columns seal.0) seal.1 in
    let b = all calls place key a from (omega (arith, inside, seals)) in
    let split = sum_by-take-drop has_one calls (place + 1) in
    let less = sum_by-take-le has_one calls b.0 in
    lasts_found index key 0 (b.3 0 (omega (arith, few, split, less)))

-- ---- what a seal says of an epoch

pub began_first : (seals : List Row) → Began seals 0 0 0
began_first seals = record { first = λ zero. (refl, refl); later = λ k is. absurd (omega (arith, is)) }

pub began_later : (seals : List SealRow) (epoch k calls replies : ℕ) (seal : SealRow) → epoch ≡ suc k → slice_get seals k ≡ Some seal → seal.calls ≡ pos calls → seal.replies ≡ pos replies
    → Began (map seal_columns seals) epoch calls replies
began_later seals epoch k calls replies seal is at called replied = record {
  first = λ zero. absurd (omega (arith, is, zero));
  later = λ j here.
      let same : k ≡ j = omega (arith, is, here) in
      let there : slice_get (map seal_columns seals) k ≡ Some (seal_columns seal) = slice_get-map seal_columns seals k ∙ ap (option_map seal_columns) at in
      (seal, subst (λ i. slice_get (map seal_columns seals) i ≡ Some (seal_columns seal)) same there, called, replied);
}

le_or_lt : (n e : ℕ) → (n ≤ e) ⊎ (e < n)
le_or_lt zero e = inl (omega arith)
le_or_lt (suc n) zero = inr (omega arith)
le_or_lt (suc n) (suc e) = elim (le_or_lt n e) [
  | inl le ↦ inl (omega (arith, le))
  | inr lt ↦ inr (omega (arith, lt))
]

-- what holds of nothing before n holds of nothing less
pub not_before : (P : ℕ → Type 0) (n : ℕ) → ((k : ℕ) → k < n → P k → ⊥) → (e : ℕ) → P e → n ≤ e
not_before P n none e is = elim (le_or_lt n e) [
  | inl le ↦ le
  | inr lt ↦ absurd (none e lt is)
]

-- ---- results

pub on_ok_both : {T E P Q R : Type 0} (r : Result T E) → (P → Q → R) → OnOk r P → OnOk r Q → OnOk r R
on_ok_both (Ok x) f p q = f p q
on_ok_both (Err e) f p q = tt

-- ---- rows that were read

-- equal rows that are numbered from the same number have equal columns
same_columns : (n : ℕ) (xs ys : List Row) → rows_from n xs ≡ rows_from n ys → xs ≡ ys
same_columns n [] [] e = refl
same_columns n [] (y ∷ ys) e = absurd cc
same_columns n (x ∷ xs) [] e = absurd cc
same_columns n (x ∷ xs) (y ∷ ys) e =
    let heads : x ≡ y = cc in
    let tails : rows_from (n + 1) xs ≡ rows_from (n + 1) ys = cc in
    ap (λ z. z ∷ xs) heads ∙ ap (λ l. y ∷ l) (same_columns (n + 1) xs ys tails)

pub all_read : (c : Contents) (db : Trees) (table : ℕ) (items : List Row) → table < NAME → Holds db c → db table ≡ rows_from 0 items → c table ≡ items
all_read c db table items inside holds rows = same_columns 0 (c table) items (sym (holds.numbered table inside) ∙ rows)

-- ---- the first epoch that is looked at

pub first_lately : (seals : List SealRow) (marked n : ℕ)
    → ((k calls replies place : ℕ) → k < n → Began (map seal_columns seals) (suc k) calls replies → place < calls → marked ≤ place + RECALLED → ⊥)
    → (epoch calls replies place : ℕ) → Began (map seal_columns seals) (suc epoch) calls replies → place < calls → marked ≤ place + RECALLED → n ≤ epoch
first_lately seals marked n none epoch calls replies place began below lately =
    not_before (λ k. (cs : ℕ) × (rs : ℕ) × (p : ℕ) × Began (map seal_columns seals) (suc k) cs rs × (p < cs) × (marked ≤ p + RECALLED)) n
    (λ k less has. none k has.0 has.1 has.2 less has.3 has.4 has.5) epoch (calls, replies, place, began, below, lately)

-- an epoch that ended with so many calls has none of the last ones
pub not_lately : (seals : List SealRow) (marked epoch calls replies place : ℕ) (n : Counts) → Began (map seal_columns seals) (epoch + 1) n.calls n.replies → n.calls ≤ marked - RECALLED
    → Began (map seal_columns seals) (suc epoch) calls replies → place < calls → marked ≤ place + RECALLED → ⊥
not_lately seals marked epoch calls replies place n ended few began below lately =
    let next : suc epoch ≡ epoch + 1 = omega arith in
    let same = began_same (map seal_columns seals) (epoch + 1) calls replies n.calls n.replies (subst (λ e. Began (map seal_columns seals) e calls replies) next began) ended in
    omega (arith, below, lately, same.0, few)
