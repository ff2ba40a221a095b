-- The rows of the news of an epoch.
use Rattle.std.proofs.Common.{◌≡◌, ◌⊎◌, inl, inr, ℕ, zero, suc, ◌+◌, ◌-◌, ◌<◌, ◌^◌, ◌==◌, ◌||◌, min, ℤ, pos, Bool, true, false, List, [], ◌∷◌, ◌++◌, length, map, drop, get_or, reverse, refl, sym, ap, ◌∙◌, subst, arith, Option, Some, slice_get, option_map}
use Rattle.std.specs.Prelude.{All, Any}
use Rattle.std.proofs.lemmas.Bool.{false≢true}
use Rattle.std.specs.List.{flat_map, filter_map}
use Rattle.std.proofs.lemmas.List.{append-nil, length-map, map-append, length-drop, length-reverse, reverse-append}
use Rattle.indexmap.proofs.ReorderLemmas.{map-reverse}
use Rattle.std.proofs.lemmas.List.Elements.{All-nil, All-cons, All-head, All-tail, All-same}
use Rattle.std.proofs.lemmas.Option.{slice_get_within, slice_get-map, slice_get-get_or, get_or_from_slice_get}
use Rattle.std.proofs.lemmas.Grind.{flat_map-append}
use Rattle.tl_tree_locking.specs.declared.event.Event.{Event}
use Rattle.tl_tree_locking.specs.declared.event.Event.TheVariants.{Admit, Lock, Free, Done}
use Rattle.tl_tree_locking.specs.History.{caller, is_done}
use Rattle.tl_tree_locking.specs.World.{reply_of}
use Rattle.tl_procedures.specs.Names.{number_of}
use Rattle.tl_core.specs.Cores.{CoreValue, CallValue, no_call, call_of, world_of}
use Rattle.tl_core.specs.Entries.{procedure_at}
use Rattle.tl_core.specs.Reached.{IsReached}
use Rattle.tl_json.specs.Procedures.{AreAccepted}
use Rattle.tl_news.specs.declared.news.EpochNews.{EpochNews}
use Rattle.tl_news.specs.declared.news.NewProcedure.{NewProcedure}
use Rattle.tl_news.specs.News.{Asked, NewsValue, named, asked, news_value, events_from, calls_of, answer_at, IsEnd, news_behind, end_of}
use Rattle.tl_news.proofs.Ends.{ends_behind}
use Rattle.tl_ledger.specs.declared.rows.CallRow.{CallRow}
use Rattle.tl_ledger.specs.declared.rows.TurnRow.{TurnRow}
use Rattle.tl_ledger.specs.declared.rows.ReplyRow.{ReplyRow}
use Rattle.tl_rows.specs.Rows.{procedure_form, named_form, call_bytes, turn_bytes, all_turn_bytes, IsTurnRow}
use Rattle.tl_rows.specs.Rows.{turn_form, reply_form}
use Rattle.tl_store.specs.Closing.{HasReply}
use Rattle.tl_store.specs.Recovered.{IsReplyOf}
use Rattle.tl_store_history.specs.History.{AreReplied}
use Rattle.tl_pending.specs.Claims.{ClaimValue}
use Rattle.tl_pending.specs.Pendings.{column, Admitted, admitted_in, admitted_at, admitted_from, turn_forms, answer_form, new_form, AreOfNews}
use Rattle.tl_recover.specs.Later.{Later}
use Rattle.tl_store_laws.specs.Growing.{IsRowOf, IsNewsOf}
use Rattle.tl_store_laws.proofs.Stay.{calls_longer}
use Rattle.tl_rows.specs.Batches.{Batch}
use Rattle.tl_journal_laws.proofs.Own.{own_number}

-- ---- lists

all_map : {A B : Type 0} (P : A → Type 0) (Q : B → Type 0) (f : A → B) → ((x : A) → P x → Q (f x)) → (xs : List A) → All P xs → All Q (map f xs)
all_map P Q f go [] all = All-nil Q
all_map P Q f go (x ∷ xs) all = All-cons Q (f x) (map f xs) (go x (All-head P x xs all)) (all_map P Q f go xs (All-tail P x xs all))

all_unmap : {A B : Type 0} (P : A → Type 0) (Q : B → Type 0) (f : A → B) → ((x : A) → Q (f x) → P x) → (xs : List A) → All Q (map f xs) → All P xs
all_unmap P Q f go [] all = All-nil P
all_unmap P Q f go (x ∷ xs) all = All-cons P x xs (go x (All-head Q (f x) (map f xs) all)) (all_unmap P Q f go xs (All-tail Q (f x) (map f xs) all))

at_mapped : {A B : Type 0} (f : A → B) (xs : List A) (k : ℕ) (y : B) → slice_get (map f xs) k ≡ Some y → (x : A) × (slice_get xs k ≡ Some x) × (f x ≡ y)
at_mapped f [] k y at = absurd cc
at_mapped f (x ∷ xs) zero y at = (x, refl, (let h : f x ≡ y = cc in h))
at_mapped f (x ∷ xs) (suc k) y at = at_mapped f xs k y at

behind_at : {A : Type 0} (n : ℕ) (xs : List A) (j : ℕ) → slice_get (drop n xs) j ≡ slice_get xs (n + j)
behind_at zero xs j = let same : j ≡ 0 + j = omega arith in ap (slice_get xs) same
behind_at (suc n) [] j = refl
behind_at (suc n) (x ∷ xs) j =
    let same : suc (n + j) ≡ suc n + j = omega arith in
    behind_at n xs j ∙ ap (slice_get (x ∷ xs)) same

drop_own : {A : Type 0} (xs ys : List A) → drop (length xs) (xs ++ ys) ≡ ys
drop_own [] ys = refl
drop_own (x ∷ xs) ys = drop_own xs ys

-- ---- calls

asked_place : (claims : List ClaimValue) (e : ℤ) (first : ℕ) (asks : List Asked) (j : ℕ) (x : Admitted) → slice_get (admitted_from claims e first asks) j ≡ Some x
    → (a : Asked) × (slice_get asks j ≡ Some a) × (x ≡ admitted_at claims e (first + j) a)
asked_place claims e first [] j x at = absurd cc
asked_place claims e first (a ∷ asks) zero x at =
    let here : first ≡ first + 0 = omega arith in
    let is : admitted_at claims e first a ≡ x = cc in
    (a, refl, sym is ∙ ap (λ n. admitted_at claims e n a) here)
asked_place claims e first (a ∷ asks) (suc j) x at =
    let rest = asked_place claims e (first + 1) asks j x at in
    let next : first + 1 + j ≡ first + suc j = omega arith in
    (rest.0, rest.1, rest.2 ∙ ap (λ n. admitted_at claims e n rest.0) next)

call_place : (w : CoreValue) (owners : List ℕ) (calls : List CallValue) (j : ℕ) (a : Asked) → slice_get (calls_of w owners calls) j ≡ Some a
    → (call : CallValue) × (slice_get calls j ≡ Some call) × (a.name ≡ (procedure_at w call.procedure).name) × (a.args ≡ call.args)
call_place w [] [] j a at = absurd cc
call_place w [] (call ∷ calls) j a at = absurd cc
call_place w (o ∷ owners) [] j a at = absurd cc
call_place w (o ∷ owners) (call ∷ calls) zero a at =
    let is : record { name = (procedure_at w call.procedure).name; args = call.args; session = o } ≡ a = cc in
    (call, refl, ap (λ (x : Asked). x.name) (sym is), ap (λ (x : Asked). x.args) (sym is))
call_place w (o ∷ owners) (call ∷ calls) (suc j) a at = call_place w owners calls j a at

calls_long : (w : CoreValue) (owners : List ℕ) (calls : List CallValue) → length owners ≡ length calls → length (calls_of w owners calls) ≡ length calls
calls_long w [] [] same = refl
calls_long w [] (c ∷ calls) same = absurd (omega arith)
calls_long w (o ∷ owners) [] same = absurd (omega arith)
calls_long w (o ∷ owners) (c ∷ calls) same = ap suc (calls_long w owners calls (omega arith))

admitted_long : (claims : List ClaimValue) (e : ℤ) (first : ℕ) (asks : List Asked) → length (admitted_from claims e first asks) ≡ length asks
admitted_long claims e first [] = refl
admitted_long claims e first (a ∷ asks) = ap suc (admitted_long claims e (first + 1) asks)

-- a row is told by what was admitted
row_passes : (w : CoreValue) (epoch n : ℕ) (x y : CallRow) → admitted_in x ≡ admitted_in y → IsRowOf w epoch n x → IsRowOf w epoch n y
row_passes w epoch n x y same is = record {
  epoch_is = ap (λ (a : Admitted). a.epoch) (sym same) ∙ is.epoch_is;
  number = ap (λ (a : Admitted). a.number) (sym same) ∙ is.number;
  call = record {
    procedure = ap (λ (a : Admitted). number_of w.procedures a.asks.0) (sym same) ∙ is.call.procedure;
    code = is.call.code;
    args = ap (λ (a : Admitted). a.asks.1) (sym same) ∙ is.call.args;
  };
}

-- the row of a call that the core has
new_row : (w : CoreValue) (claims : List ClaimValue) (epoch n : ℕ) (a : Asked) (row : CallRow) → IsReached w → n < length w.calls → epoch < 2 ^ 62
    → admitted_in row ≡ admitted_at claims (column epoch) n a → a.name ≡ (procedure_at w (call_of w n).procedure).name → a.args ≡ (call_of w n).args → IsRowOf w epoch n row
new_row w claims epoch n a row reached known small is name args =
    let fit = reached.fit n known in
    let few = reached.few in
    let epoch_fits : min epoch (2 ^ 63 - 1) ≡ epoch = omega arith in
    let number_fits : min n (2 ^ 63 - 1) ≡ n = omega arith in
    let own : number_of w.procedures (procedure_at w (call_of w n).procedure).name ≡ Some (call_of w n).procedure = own_number [] w.procedures (call_of w n).procedure reached.named fit.known ∙ ap Some (let z : 0 + (call_of w n).procedure ≡ (call_of w n).procedure = omega arith in z) in record {
      epoch_is = ap (λ (x : Admitted). x.epoch) is ∙ ap pos epoch_fits;
      number = ap (λ (x : Admitted). x.number) is ∙ ap pos number_fits;
      call = record {
        procedure = ap (λ (x : Admitted). number_of w.procedures x.asks.0) is ∙ ap (number_of w.procedures) name ∙ own;
        code = fit.code;
        args = ap (λ (x : Admitted). x.asks.1) is ∙ ap Some args;
      };
    }

-- ---- turns

pub record IsTurnForm (epoch : ℤ) (f : ℤ × List ℕ) : Type 0 where
  pub epoch_is : f.0 ≡ epoch
  pub turns : List ℕ
  pub bytes : f.1 ≡ turn_bytes turns

turn_in : (epoch : ℤ) (row : TurnRow) → IsTurnRow epoch row → IsTurnForm epoch (turn_form row)
turn_in epoch row is = record { epoch_is = is.epoch_is; turns = is.turns; bytes = is.bytes }

turn_out : (epoch : ℤ) (row : TurnRow) → IsTurnForm epoch (turn_form row) → IsTurnRow epoch row
turn_out epoch row is = record { epoch_is = is.epoch_is; turns = is.turns; bytes = is.bytes }

forms_right : (epoch : ℤ) (turns : List ℕ) → All (IsTurnForm epoch) (turn_forms epoch turns)
forms_right epoch [] = All-nil (IsTurnForm epoch)
forms_right epoch (t ∷ turns) = All-cons (IsTurnForm epoch) (epoch, turn_bytes (t ∷ turns)) [] (record { epoch_is = refl; turns = t ∷ turns; bytes = refl }) (All-nil (IsTurnForm epoch))

abbrev pub form_bytes : List (ℤ × List ℕ) → List ℕ
form_bytes forms = flat_map (λ f. f.1) forms

bytes_of_forms : (rows : List TurnRow) → all_turn_bytes rows ≡ form_bytes (map turn_form rows)
bytes_of_forms [] = refl
bytes_of_forms (r ∷ rows) = ap (λ l. r.calls.items ++ l) (bytes_of_forms rows)

form_bytes_of : (epoch : ℤ) (turns : List ℕ) → form_bytes (turn_forms epoch turns) ≡ turn_bytes turns
form_bytes_of epoch [] = refl
form_bytes_of epoch (t ∷ turns) = append-nil (turn_bytes (t ∷ turns))

forms_long : (epoch : ℤ) (turns : List ℕ) → length (turn_forms epoch turns) ≡ min (length turns) 1
forms_long epoch [] = refl
forms_long epoch (t ∷ turns) = omega arith

-- ---- replies

pub record IsReplyForm (w : CoreValue) (epoch : ℤ) (f : (ℤ × ℤ) × Option (List ℤ)) : Type 0 where
  pub epoch_is : f.0.0 ≡ epoch
  pub call : ℕ
  pub call_is : f.0.1 ≡ pos call
  pub known : call < length w.calls
  pub done : is_done call w.past ≡ true
  pub reply : f.1 ≡ Some (reply_of (world_of w) call)

reply_in : (w : CoreValue) (epoch : ℤ) (row : ReplyRow) → IsReplyOf w epoch row → IsReplyForm w epoch (reply_form row)
reply_in w epoch row is = record { epoch_is = is.epoch_is; call = is.call; call_is = is.call_is; known = is.known; done = is.done; reply = is.reply }

reply_out : (w : CoreValue) (epoch : ℤ) (row : ReplyRow) → IsReplyForm w epoch (reply_form row) → IsReplyOf w epoch row
reply_out w epoch row is = record { epoch_is = is.epoch_is; call = is.call; call_is = is.call_is; known = is.known; done = is.done; reply = is.reply }

answers_right : (w : CoreValue) (owners : List ℕ) (epoch : ℤ) (events : List Event) → All (IsEnd w) events → All (IsReplyForm w epoch) (map (answer_form epoch) (filter_map (answer_at w owners) events))
answers_right w owners epoch [] ends = All-nil (IsReplyForm w epoch)
answers_right w owners epoch (Admit c ∷ events) ends = answers_right w owners epoch events (All-tail (IsEnd w) (Admit c) events ends)
answers_right w owners epoch (Lock x c found ∷ events) ends = answers_right w owners epoch events (All-tail (IsEnd w) (Lock x c found) events ends)
answers_right w owners epoch (Free x c left ∷ events) ends = answers_right w owners epoch events (All-tail (IsEnd w) (Free x c left) events ends)
answers_right w owners epoch (Done c ∷ events) ends =
    let here = All-head (IsEnd w) (Done c) events ends in
    All-cons (IsReplyForm w epoch) (answer_form epoch (record { call = c; session = get_or owners c 0; reply = reply_of (world_of w) c })) (map (answer_form epoch) (filter_map (answer_at w owners) events))
    (record { epoch_is = refl; call = c; call_is = refl; known = here.0; done = here.1; reply = refl })
    (answers_right w owners epoch events (All-tail (IsEnd w) (Done c) events ends))

-- ---- each call that ended has an answer

or_behind : (a b c : Bool) → (a || (b || c)) ≡ ((a || b) || c)
or_behind true b c = refl
or_behind false b c = refl

or_around : (a b : Bool) → (a || (b || false)) ≡ (b || a)
or_around true true = refl
or_around true false = refl
or_around false true = refl
or_around false false = refl

or_none : (a : Bool) → (a || false) ≡ a
or_none true = refl
or_none false = refl

done_join : (c : ℕ) (xs ys : List Event) → is_done c (xs ++ ys) ≡ (is_done c xs || is_done c ys)
done_join c [] ys = refl
done_join c (Admit d ∷ xs) ys = done_join c xs ys
done_join c (Lock x d found ∷ xs) ys = done_join c xs ys
done_join c (Free x d left ∷ xs) ys = done_join c xs ys
done_join c (Done d ∷ xs) ys = ap (λ b. (d == c) || b) (done_join c xs ys) ∙ or_behind (d == c) (is_done c xs) (is_done c ys)

done_last : (c : ℕ) (x : Event) (xs : List Event) → (is_done c xs || is_done c (x ∷ [])) ≡ is_done c (x ∷ xs)
done_last c (Admit d) xs = or_none (is_done c xs)
done_last c (Lock x d found) xs = or_none (is_done c xs)
done_last c (Free x d left) xs = or_none (is_done c xs)
done_last c (Done d) xs = or_around (is_done c xs) (d == c)

done_reverse : (c : ℕ) (xs : List Event) → is_done c (reverse xs) ≡ is_done c xs
done_reverse c [] = refl
done_reverse c (x ∷ xs) =
    ap (is_done c) (reverse-append (x ∷ []) xs) ∙ done_join c (reverse xs) (x ∷ []) ∙ ap (λ b. b || is_done c (x ∷ [])) (done_reverse c xs) ∙ done_last c x xs

either : (a b : Bool) → (a || b) ≡ true → (a ≡ true) ⊎ (b ≡ true)
either true b is = inl refl
either false b is = inr is

-- a form of these is that of a reply of the call
abbrev pub HasForm : List ((ℤ × ℤ) × Option (List ℤ)) → ℕ → Type 0
HasForm forms c = Any (λ f. f.0.1 ≡ pos c) forms

form_behind : (f : (ℤ × ℤ) × Option (List ℤ)) (forms : List ((ℤ × ℤ) × Option (List ℤ))) (c : ℕ) → HasForm forms c → HasForm (f ∷ forms) c
form_behind f forms c found = (suc found.0, found.1, omega (arith, found.2), found.3, found.4)

answered : (w : CoreValue) (owners : List ℕ) (epoch : ℤ) (events : List Event) (c : ℕ) → is_done c events ≡ true → HasForm (map (answer_form epoch) (filter_map (answer_at w owners) events)) c
answered w owners epoch [] c over = absurd (false≢true over)
answered w owners epoch (Admit d ∷ events) c over = answered w owners epoch events c over
answered w owners epoch (Lock x d found ∷ events) c over = answered w owners epoch events c over
answered w owners epoch (Free x d left ∷ events) c over = answered w owners epoch events c over
answered w owners epoch (Done d ∷ events) c over =
    let own : (ℤ × ℤ) × Option (List ℤ) = answer_form epoch (record { call = d; session = get_or owners d 0; reply = reply_of (world_of w) d }) in
    let others = map (answer_form epoch) (filter_map (answer_at w owners) events) in
    elim (either (d == c) (is_done c events) over) [
      | inl here ↦ (let same : d ≡ c = grind (arith, here) in (0, own, omega arith, refl, ap pos same))
      | inr later ↦ form_behind own others c (answered w owners epoch events c later)
    ]

row_of_form : (rows : List ReplyRow) (c : ℕ) → HasForm (map reply_form rows) c → HasReply rows c
row_of_form rows c found =
    let inside : found.0 < length rows = (let l = length-map rows reply_form in omega (arith, found.2, l)) in
    let at = slice_get-get_or (map reply_form rows) found.0 found.1 found.2 ∙ ap Some found.3 in
    let row = at_mapped reply_form rows found.0 found.1 at in
    (found.0, row.0, inside, get_or_from_slice_get rows found.0 row.0 row.0 row.1, ap (λ f. f.0.1) row.2 ∙ found.4)

module _ (v w : CoreValue) (number : ℕ) (owners : List ℕ) (over : Bool) (came : EpochNews) (claims : List ClaimValue) (epoch : ℕ) (b : Batch) (later : Later v w) (reached : IsReached w)
    (each : length owners ≡ length w.calls) (small : epoch < 2 ^ 62) (accepted : AreAccepted (map named came.procedures.items))
    (is : news_value came ≡ news_behind (end_of v) number w owners over) (of : AreOfNews claims epoch came b) where
  abbrev e : ℤ
  e = column epoch

  e_is : column epoch ≡ pos epoch
  e_is = let fits : min epoch (2 ^ 63 - 1) ≡ epoch = omega arith in ap pos fits

  -- procedures
  fresh_are : map named came.procedures.items ≡ later.procedures.0
  fresh_are = ap (λ (n : NewsValue). n.procedures) is ∙ ap (drop (length v.procedures)) later.procedures.1 ∙ drop_own v.procedures later.procedures.0

  forms_named : (ps : List NewProcedure) → map new_form ps ≡ map named_form (map named ps)
  forms_named [] = refl
  forms_named (p ∷ ps) = ap (λ l. named_form (named p) ∷ l) (forms_named ps)

  pub procedures_now : map procedure_form b.procedures ≡ map named_form (map named came.procedures.items)
  procedures_now = of.procedures ∙ forms_named came.procedures.items

  pub new_now : w.procedures ≡ v.procedures ++ map named came.procedures.items
  new_now = later.procedures.1 ∙ ap (λ l. v.procedures ++ l) (sym fresh_are)

  -- calls
  asks : map asked came.calls.items ≡ calls_of w (drop (length v.calls) owners) (drop (length v.calls) w.calls)
  asks = ap (λ (n : NewsValue). n.calls) is

  rows_now : map admitted_in b.calls ≡ admitted_from claims (column epoch) (length v.calls) (map asked came.calls.items)
  rows_now = of.calls ∙ ap (λ n. admitted_from claims (column epoch) n (map asked came.calls.items)) (ap (λ (n : NewsValue). n.first_call) is)

  many_asked : length (map asked came.calls.items) + length v.calls ≡ length w.calls
  many_asked =
      let a = length-drop (length v.calls) owners in
      let d = length-drop (length v.calls) w.calls in
      let same : length (drop (length v.calls) owners) ≡ length (drop (length v.calls) w.calls) = omega (arith, a, d, each) in
      let long : length (map asked came.calls.items) ≡ length (drop (length v.calls) w.calls) = ap length asks ∙ calls_long w (drop (length v.calls) owners) (drop (length v.calls) w.calls) same in
      let m = calls_longer v w later in
      omega (arith, long, d, m)

  pub count_calls : length b.calls ≡ length came.calls.items
  count_calls = sym (length-map b.calls admitted_in) ∙ ap length of.calls ∙ admitted_long claims (column epoch) came.first_call (map asked came.calls.items) ∙ length-map came.calls.items asked

  many_now : length v.calls + length b.calls ≡ length w.calls
  many_now =
      let count = count_calls in
      let long = length-map came.calls.items asked in
      let all = many_asked in
      omega (arith, count, long, all)

  calls_now : (k : ℕ) (row : CallRow) → slice_get b.calls k ≡ Some row → IsRowOf w epoch (length v.calls + k) row
  calls_now k row at =
      let form : slice_get (map admitted_in b.calls) k ≡ Some (admitted_in row) = slice_get-map admitted_in b.calls k ∙ ap (option_map admitted_in) at in
      let a = asked_place claims (column epoch) (length v.calls) (map asked came.calls.items) k (admitted_in row) (ap (λ l. slice_get l k) (sym rows_now) ∙ form) in
      let call = call_place w (drop (length v.calls) owners) (drop (length v.calls) w.calls) k a.0 (ap (λ l. slice_get l k) (sym asks) ∙ a.1) in
      let there : slice_get w.calls (length v.calls + k) ≡ Some call.0 = sym (behind_at (length v.calls) w.calls k) ∙ call.1 in
      let known = slice_get_within w.calls (length v.calls + k) call.0 there in
      let is_call : call_of w (length v.calls + k) ≡ call.0 = get_or_from_slice_get w.calls (length v.calls + k) call.0 no_call there in
      new_row w claims epoch (length v.calls + k) a.0 row reached known small a.2
      (call.2 ∙ ap (λ (x : CallValue). (procedure_at w x.procedure).name) (sym is_call)) (call.3 ∙ ap (λ (x : CallValue). x.args) (sym is_call))

  -- turns
  later_events : drop (length v.past) (reverse w.past) ≡ reverse later.past.0
  later_events =
      let long : length v.past ≡ length (reverse v.past) = sym (length-reverse v.past) in
      ap (λ l. drop (length v.past) (reverse l)) later.past.1
      ∙ ap (drop (length v.past)) (reverse-append later.past.0 v.past)
      ∙ ap (λ n. drop n (reverse v.past ++ reverse later.past.0)) long ∙ drop_own (reverse v.past) (reverse later.past.0)

  turns_are : came.turns.items ≡ reverse (map caller later.past.0)
  turns_are = ap (λ (n : NewsValue). n.turns) is ∙ ap (map caller) later_events ∙ map-reverse caller later.past.0

  all_turns : reverse (map caller w.past) ≡ reverse (map caller v.past) ++ came.turns.items
  all_turns =
      ap (λ l. reverse (map caller l)) later.past.1 ∙ ap reverse (map-append caller later.past.0 v.past) ∙ reverse-append (map caller later.past.0) (map caller v.past)
      ∙ ap (λ l. reverse (map caller v.past) ++ l) (sym turns_are)

  bytes_now : all_turn_bytes b.turns ≡ turn_bytes came.turns.items
  bytes_now = bytes_of_forms b.turns ∙ ap form_bytes of.turns ∙ form_bytes_of (column epoch) came.turns.items

  turns_now : turn_bytes (reverse (map caller v.past)) ++ all_turn_bytes b.turns ≡ turn_bytes (reverse (map caller w.past))
  turns_now =
      ap (λ l. turn_bytes (reverse (map caller v.past)) ++ l) bytes_now
      ∙ sym (flat_map-append call_bytes (reverse (map caller v.past)) came.turns.items)
      ∙ ap turn_bytes (sym all_turns)

  pub count_turns : length b.turns ≡ min (length came.turns.items) 1
  count_turns = sym (length-map b.turns turn_form) ∙ ap length of.turns ∙ forms_long (column epoch) came.turns.items

  turn_rows_now : All (IsTurnRow (pos epoch)) b.turns
  turn_rows_now = subst (λ z. All (IsTurnRow z) b.turns) e_is
      (all_unmap (IsTurnRow e) (IsTurnForm e) turn_form (turn_out e) b.turns
      (All-same (IsTurnForm e) (map turn_form b.turns) (turn_forms e came.turns.items) of.turns (forms_right e came.turns.items)))

  -- replies
  answers_are : came.answers.items ≡ filter_map (answer_at w owners) (events_from (length v.past) w)
  answers_are = ap (λ (n : NewsValue). n.answers) is

  pub count_replies : length b.replies ≡ length came.answers.items
  count_replies = sym (length-map b.replies reply_form) ∙ ap length of.replies ∙ length-map came.answers.items (answer_form (column epoch))

  replies_now : All (IsReplyOf w (pos epoch)) b.replies
  replies_now = subst (λ z. All (IsReplyOf w z) b.replies) e_is
      (all_unmap (IsReplyOf w e) (IsReplyForm w e) reply_form (reply_out w e) b.replies
      (All-same (IsReplyForm w e) (map reply_form b.replies) (map (answer_form e) came.answers.items) of.replies
      (subst (λ l. All (IsReplyForm w e) (map (answer_form e) l)) (sym answers_are)
      (answers_right w owners e (events_from (length v.past) w) (ends_behind w (length v.past) reached.sound reached.counted)))))

  pub count_procedures : length b.procedures ≡ length came.procedures.items
  count_procedures = sym (length-map b.procedures procedure_form) ∙ ap length of.procedures ∙ length-map came.procedures.items new_form

  pub news_now : b.seals ≡ [] → b.records ≡ [] → IsNewsOf epoch v w b
  news_now seals records = record {
    nodes = of.nodes;
    seals = seals;
    records = records;
    new = map named came.procedures.items;
    procedures = procedures_now;
    new_are = new_now;
    accepted = accepted;
    many = many_now;
    calls = calls_now;
    turn_rows = turn_rows_now;
    turns = turns_now;
    replies = replies_now;
  }

  -- each call that ended since has its reply
  pub replied_now : AreReplied v w b.replies
  replied_now call over' = elim (either (is_done call later.past.0) (is_done call v.past) (sym (done_join call later.past.0 v.past) ∙ ap (is_done call) (sym later.past.1) ∙ over')) [
    | inl new ↦
        let ended : is_done call (events_from (length v.past) w) ≡ true = ap (is_done call) later_events ∙ done_reverse call later.past.0 ∙ new in
        let forms = answered w owners e (events_from (length v.past) w) call ended in
        let there : map (answer_form e) (filter_map (answer_at w owners) (events_from (length v.past) w)) ≡ map reply_form b.replies = ap (map (answer_form e)) (sym answers_are) ∙ sym of.replies in
        inr (row_of_form b.replies call (subst (λ l. HasForm l call) there forms))
    | inr was ↦ inl was
  ]
