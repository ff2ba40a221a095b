-- A core that was made again is the one whose calls took these turns, at a later time.
use Rattle.std.proofs.Common.{◌≡◌, ℕ, zero, suc, ◌<◌, ◌≤◌, List, [], ◌∷◌, ◌++◌, length, map, get_or, refl, sym, ap, ap₂, ◌∙◌, arith}
use Rattle.std.proofs.lemmas.List.{append-nil, length-map, get_or-map}
use Rattle.tl_tree_locking.specs.declared.event.Event.{Event}
use Rattle.tl_tree_locking.specs.History.{admits}
use Rattle.tl_procedures.specs.declared.request.Request.{Request}
use Rattle.tl_core.specs.Cores.{CoreValue, CallValue, no_call, call_of}
use Rattle.tl_core.specs.Reached.{IsReached}
use Rattle.tl_recover.specs.Later.{Ask, ask_of, Later}
use Rattle.tl_recover.specs.Redriven.{Fits, GoesOn, AreTurnsTo}
use Rattle.tl_recover.proofs.Retaken.{admits_later, same_procedure, same_code, same_args}

-- a list that begins with the items of another
begins_with : {A : Type 0} (xs ys : List A) (d : A) → length xs ≤ length ys → ((i : ℕ) → i < length xs → get_or ys i d ≡ get_or xs i d) → (more : List A) × (ys ≡ xs ++ more)
begins_with [] ys d few each = (ys, refl)
begins_with (x ∷ xs) [] d few each = absurd (omega (arith, few))
begins_with (x ∷ xs) (y ∷ ys) d few each =
    let first : y ≡ x = each 0 (omega arith) in
    let rest = begins_with xs ys d (omega (arith, few)) (λ i less. each (suc i) (omega (arith, less))) in
    (rest.0, ap₂ (λ z l. z ∷ l) first rest.1)

module _ (v u w : CoreValue) (requests : List Request) (turns : List ℕ) (more : List Event) (to : AreTurnsTo v u requests turns) (on : GoesOn u w) (asked : Fits w requests)
    (grown : w.past ≡ more ++ v.past) (reached : IsReached w) where
  parents : w.parents ≡ v.parents
  parents = on.parents ∙ to.parents

  pub procedures : w.procedures ≡ v.procedures
  procedures = on.procedures ∙ to.procedures

  few : length v.calls ≤ length w.calls
  few =
      let before = to.reached.counted in
      let after = reached.counted in
      let later = admits_later more v.past in
      let same = ap admits grown in
      omega (arith, before, after, later, same)

  same_ask : (c : ℕ) → c < length v.calls → ask_of (call_of w c) ≡ ask_of (call_of v c)
  same_ask c known =
      let known_w : c < length w.calls = (let all = few in omega (arith, known, all)) in λ j. record {
        procedure = sym (same_procedure v w requests parents procedures to.asked asked c known known_w) j;
        code = sym (same_code v w requests parents procedures to.asked asked c known known_w) j;
        args = sym (same_args v w requests parents procedures to.asked asked c known known_w) j;
      }

  calls : (asks : List Ask) × (map ask_of w.calls ≡ map ask_of v.calls ++ asks)
  calls =
      let long_v = length-map v.calls ask_of in
      let long_w = length-map w.calls ask_of in
      let all = few in
      begins_with (map ask_of v.calls) (map ask_of w.calls) (ask_of no_call) (omega (arith, long_v, long_w, all))
      (λ c less.
      let known : c < length v.calls = omega (arith, less, long_v) in
      get_or-map ask_of w.calls c no_call (ask_of no_call) (omega (arith, known, all)) ∙ same_ask c known ∙ sym (get_or-map ask_of v.calls c no_call (ask_of no_call) known))

  pub later_core : Later v w
  later_core = record {
    parents = parents;
    opening = on.opening ∙ to.opening;
    procedures = ([], procedures ∙ sym (append-nil v.procedures));
    calls = calls;
    past = (more, grown);
  }
