-- The current records, and the records with those that a call found put in their places.
use Rattle.std.proofs.Common.{◌≡◌, ◌≢◌, ℕ, ◌<◌, ◌==◌, List, [], ◌∷◌, length, set, refl, sym, ap, ◌∙◌, subst, inl, inr}
use Rattle.std.specs.Prelude.{if◌then◌else◌}
use Rattle.std.proofs.lemmas.Bool.{cases_Bool, both_ways, eqb-true, eq-eqb}
use Rattle.std.proofs.lemmas.List.{get_or-set_same, get_or-set_other, length-set}
use Rattle.tl_tree.specs.Records.{Record, Records, record_at}
use Rattle.tl_tree_locking.specs.declared.action.Action.{Action}
use Rattle.tl_tree_locking.specs.declared.action.Action.TheVariants as A
use Rattle.tl_tree_locking.specs.declared.event.Event.{Event}
use Rattle.tl_tree_locking.specs.declared.event.Event.TheVariants.{Admit, Lock, Free, Done}
use Rattle.tl_tree_locking.specs.Actions.{found_in, with_found}
use Rattle.tl_tree_locking.specs.History.{last_left, records_now}

-- reading a record after one was replaced
pub record_at-put_record : (t : Records) (y : ℕ) (r : Record) (x : ℕ) → x < length t → record_at (set t y r) x ≡ (if y == x then r else record_at t x)
record_at-put_record t y r x lt = elim (cases_Bool (y == x)) [
  | inl same ↦ let e = eqb-true y x same in rw same (subst (λ z. record_at (set t z r) x ≡ r) (sym e) (get_or-set_same t x r [] lt))
  | inr other ↦ let ne : x ≢ y = λ (w : x ≡ y). both_ways (y == x) other (eq-eqb y x (sym w)) in rw other (get_or-set_other t y x r [] ne)
]

pub length-records_now : (past : List Event) (t : Records) → length (records_now past t) ≡ length t
length-records_now [] t = refl
length-records_now (Admit c ∷ past) t = length-records_now past t
length-records_now (Lock x c found ∷ past) t = length-records_now past t
length-records_now (Free x c left ∷ past) t = length-set (records_now past t) x left ∙ length-records_now past t
length-records_now (Done c ∷ past) t = length-records_now past t

pub record_at-records_now : (past : List Event) (t : Records) (x : ℕ) → x < length t → record_at (records_now past t) x ≡ last_left past x (record_at t x)
record_at-records_now [] t x lt = refl
record_at-records_now (Admit c ∷ past) t x lt = record_at-records_now past t x lt
record_at-records_now (Lock y c found ∷ past) t x lt = record_at-records_now past t x lt
record_at-records_now (Free y c left ∷ past) t x lt = record_at-put_record (records_now past t) y left x (subst (λ n. x < n) (sym (length-records_now past t)) lt) ∙ ap (λ r. if y == x then left else r) (record_at-records_now past t x lt)
record_at-records_now (Done c ∷ past) t x lt = record_at-records_now past t x lt

pub length-with_found : (done : List Action) (t : Records) → length (with_found done t) ≡ length t
length-with_found [] t = refl
length-with_found (A.Lock x found ∷ done) t = length-set (with_found done t) x found ∙ length-with_found done t
length-with_found (A.Read x field n ∷ done) t = length-with_found done t
length-with_found (A.Write x field n ∷ done) t = length-with_found done t
length-with_found (A.Free x left ∷ done) t = length-with_found done t
length-with_found (A.Emit n ∷ done) t = length-with_found done t
length-with_found (A.End ∷ done) t = length-with_found done t
length-with_found (A.Plain ∷ done) t = length-with_found done t

pub record_at-with_found : (done : List Action) (t : Records) (x : ℕ) → x < length t → record_at (with_found done t) x ≡ found_in done x (record_at t x)
record_at-with_found [] t x lt = refl
record_at-with_found (A.Lock y found ∷ done) t x lt = record_at-put_record (with_found done t) y found x (subst (λ n. x < n) (sym (length-with_found done t)) lt) ∙ ap (λ r. if y == x then found else r) (record_at-with_found done t x lt)
record_at-with_found (A.Read y field n ∷ done) t x lt = record_at-with_found done t x lt
record_at-with_found (A.Write y field n ∷ done) t x lt = record_at-with_found done t x lt
record_at-with_found (A.Free y left ∷ done) t x lt = record_at-with_found done t x lt
record_at-with_found (A.Emit n ∷ done) t x lt = record_at-with_found done t x lt
record_at-with_found (A.End ∷ done) t x lt = record_at-with_found done t x lt
record_at-with_found (A.Plain ∷ done) t x lt = record_at-with_found done t x lt
