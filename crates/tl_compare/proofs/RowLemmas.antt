-- Rows, and what they are compared with.
use Rattle.std.proofs.Common.{◌≡◌, ◌≢◌, ◌⊎◌, ◌∙◌, ℕ, zero, suc, ◌+◌, ◌<◌, pos, List, [], ◌∷◌, ◌++◌, length, map, reverse, get_or, Some, slice_get, refl, sym, ap, subst, arith, inl, inr}
use Rattle.std.specs.Prelude.{All}
use Rattle.std.proofs.lemmas.Bool.{cases_eq}
use Rattle.std.proofs.lemmas.List.{append-nil, length-append, length-map, nil_from_length}
use Rattle.std.proofs.lemmas.Option.{slice_get-get_or, slice_get_within}
use Rattle.tl_procedures.specs.declared.request.Request.{Request}
use Rattle.tl_procedures.specs.Names.{Named, BeginsWith, number_of}
use Rattle.indexmap.proofs.ReorderLemmas.{map-reverse}
use Rattle.tl_tree_locking.specs.History.{caller}
use Rattle.tl_tree_locking.proofs.Pasts.{All-reverse}
use Rattle.tl_core.specs.Cores.{CoreValue, call_of}
use Rattle.tl_core.specs.Reached.{IsReached}
use Rattle.tl_recover.specs.Redriven.{IsAsked}
use Rattle.tl_ledger.specs.declared.rows.CallRow.{CallRow}
use Rattle.tl_ledger.specs.declared.rows.TurnRow.{TurnRow}
use Rattle.tl_rows.specs.Rows.{call_form, request_form, HasArguments, AreNumbered, turn_bytes, all_turn_bytes}
use Rattle.tl_store.specs.Recovered.{IsCallOf}
use Rattle.tl_store.proofs.AgainLemmas.{IsSmall, same_turns, callers_small}
use Rattle.tl_compare.specs.Epochs.{AreAsked, AreCallsOf, AreTurnsOf}

-- one item more
pub each_more : {X : Type 0} (P : ℕ → X → Type 0) (xs : List X) (i : ℕ) (x : X) → slice_get xs i ≡ Some x → P i x
    → ((n : ℕ) (y : X) → n < i → slice_get xs n ≡ Some y → P n y) → (n : ℕ) (y : X) → n < i + 1 → slice_get xs n ≡ Some y → P n y
each_more P xs i x at here before n y less found = by_cases (cases_eq n i)
  where
    by_cases : (n ≡ i) ⊎ (n ≢ i) → P n y
    by_cases (inl same) =
        let both : Some x ≡ Some y = sym at ∙ ap (slice_get xs) (sym same) ∙ found in
        let is : x ≡ y = cc in
        subst (λ k. P k y) (sym same) (subst (P i) is here)
    by_cases (inr other) = before n y (omega (arith, less, other)) found

-- one pair of items more
pub pairs_more : {X Y : Type 0} (P : X → Y → Type 0) (xs : List X) (ys : List Y) (i : ℕ) (x : X) (y : Y) → slice_get xs i ≡ Some x → slice_get ys i ≡ Some y → P x y
    → ((n : ℕ) (a : X) (b : Y) → n < i → slice_get xs n ≡ Some a → slice_get ys n ≡ Some b → P a b)
    → (n : ℕ) (a : X) (b : Y) → n < i + 1 → slice_get xs n ≡ Some a → slice_get ys n ≡ Some b → P a b
pairs_more P xs ys i x y at_x at_y here before n a b less found_a found_b = by_cases (cases_eq n i)
  where
    by_cases : (n ≡ i) ⊎ (n ≢ i) → P a b
    by_cases (inl same) =
        let both_x : Some x ≡ Some a = sym at_x ∙ ap (slice_get xs) (sym same) ∙ found_a in
        let both_y : Some y ≡ Some b = sym at_y ∙ ap (slice_get ys) (sym same) ∙ found_b in
        let is_x : x ≡ a = cc in
        let is_y : y ≡ b = cc in
        subst (λ k. P k b) is_x (subst (P x) is_y here)
    by_cases (inr other) = before n a b (omega (arith, less, other)) found_a found_b

-- lists with the same forms have an item of the same form at each place
pub same_forms : {X Y F : Type 0} (f : X → F) (g : Y → F) (xs : List X) (ys : List Y) (n : ℕ) (x : X) → map f xs ≡ map g ys → slice_get xs n ≡ Some x
    → (y : Y) × (slice_get ys n ≡ Some y) × (f x ≡ g y)
same_forms f g [] ys n x is found = absurd (let less = slice_get_within [] n x found in omega arith)
same_forms f g (z ∷ xs) [] n x is found = absurd (let l = ap length is in omega arith)
same_forms f g (z ∷ xs) (y ∷ ys) zero x is found =
    let same : z ≡ x = cc in
    let heads : f z ≡ g y = cc in
    (y, refl, ap f (sym same) ∙ heads)
same_forms f g (z ∷ xs) (y ∷ ys) (suc n) x is found =
    let tails : map f xs ≡ map g ys = cc in
    same_forms f g xs ys n x tails found

call_asked : (v : CoreValue) (n : ℕ) (row : CallRow) (r : Request) → call_form row ≡ request_form r → IsAsked v n r → IsCallOf v n row
call_asked v n row r form asked = record {
  procedure = ap (λ p. number_of v.procedures p.0) form ∙ asked.procedure;
  code = asked.code;
  args = ap (λ p. p.1) form ∙ ap Some (sym asked.args);
}

asked_again : (v : CoreValue) (n : ℕ) (row : CallRow) (r : Request) → call_form row ≡ request_form r → IsCallOf v n row → IsAsked v n r
asked_again v n row r form call = record {
  procedure = ap (λ p. number_of v.procedures p.0) (sym form) ∙ call.procedure;
  code = call.code;
  args =
      let both : Some (call_of v n).args ≡ Some r.args.items = sym call.args ∙ ap (λ p. p.1) form in
      cc;
}

pub calls_are : (v : CoreValue) (epoch : ℕ) (rows : List CallRow) (requests : List Request) → All (λ r. r.epoch ≡ pos epoch) rows → AreNumbered rows
    → map call_form rows ≡ map request_form requests → AreAsked v requests → AreCallsOf v epoch rows
calls_are v epoch rows requests of_epoch numbered forms asked = record {
  epoch_is = of_epoch;
  numbered = numbered;
  many = sym (length-map rows call_form) ∙ ap length forms ∙ length-map requests request_form ∙ asked.many;
  each = λ n row found.
      let there = same_forms call_form request_form rows requests n row forms found in
      call_asked v n row there.0 there.2 (asked.each n there.0 there.1);
}

pub asked_are : (v : CoreValue) (epoch : ℕ) (rows : List CallRow) (requests : List Request) → map call_form rows ≡ map request_form requests → AreCallsOf v epoch rows → AreAsked v requests
asked_are v epoch rows requests forms calls = record {
  many = sym (length-map requests request_form) ∙ ap length (sym forms) ∙ length-map rows call_form ∙ calls.many;
  each = λ n r found.
      let there = same_forms request_form call_form requests rows n r (sym forms) found in
      asked_again v n there.0 r (sym there.2) (calls.each n there.0 there.1);
}

-- each call's arguments are a list of integers
pub arguments_are : (v : CoreValue) (epoch : ℕ) (rows : List CallRow) → AreCallsOf v epoch rows → All HasArguments rows
arguments_are v epoch rows calls n d less =
    let call = calls.each n (get_or rows n d) (slice_get-get_or rows n d less) in
    record { args = (call_of v n).args; read_as = call.args }

-- turns whose bytes are those that the calls took are those turns
pub same_callers : (v : CoreValue) (epoch : ℕ) (rows : List TurnRow) (turns : List ℕ) → IsReached v → All IsSmall turns → all_turn_bytes rows ≡ turn_bytes turns → AreTurnsOf v epoch rows
    → turns ≡ map caller (reverse v.past)
same_callers v epoch rows turns reached small told took =
    let few = reached.few in
    let counted = reached.counted in
    let callers = All-reverse IsSmall (map caller v.past) (callers_small v.past reached.sound.legal.in_turn (omega arith)) in
    same_turns turns (reverse (map caller v.past)) small callers (sym told ∙ took.turns) ∙ sym (map-reverse caller v.past)

-- as many procedures that begin with others are those
pub same_procedures : (xs ys : List Named) → length ys ≡ length xs → BeginsWith xs ys → ys ≡ xs
same_procedures xs ys count begins =
    let long = ap length begins.1 ∙ length-append xs begins.0 in
    let none : begins.0 ≡ [] = nil_from_length begins.0 (omega (arith, long, count)) in
    begins.1 ∙ ap (λ more. xs ++ more) none ∙ append-nil xs
