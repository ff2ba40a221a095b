-- The world of a core after an action of a call.
use Rattle.std.proofs.Common.{◌≡◌, ℕ, suc, ◌+◌, ◌<◌, ◌==◌, List, length, sym, ap, ◌∙◌, subst, inl, inr, arith, get_or, set, if◌then◌else◌}
use Rattle.std.proofs.lemmas.Bool.{cases_eq, ne_eqb, eq-eqb}
use Rattle.std.proofs.lemmas.List.{get_or-set_same, get_or-set_other}
use Rattle.tl_tree_locking.specs.declared.action.Action.{Action}
use Rattle.tl_tree_locking.specs.World.{as_found, past_after, after_step as world_after}
use Rattle.tl_machine.specs.Outcomes.{meaning}
use Rattle.tl_core.specs.Cores.{CallValue, CoreValue, no_call, call_of, world_of}
use Rattle.tl_core.specs.Entries.{one_more}

module _ (v : CoreValue) (c : ℕ) where
  abbrev pub calls_after : List CallValue
  calls_after = set v.calls c (one_more (call_of v c))

  abbrev pub after : Action → CoreValue
  after a = record v { calls = calls_after; past = past_after c (as_found (world_of v) a) v.past }

  module _ (inside : c < length v.calls) where
    pub code_after : (d : ℕ) → (get_or calls_after d no_call).code ≡ (call_of v d).code
    code_after d = elim (cases_eq c d) [
      | inl same ↦ subst (λ z. (get_or calls_after z no_call).code ≡ (call_of v z).code) same (ap (λ z. z.code) (get_or-set_same v.calls c (one_more (call_of v c)) no_call inside))
      | inr other ↦ ap (λ z. z.code) (get_or-set_other v.calls c d (one_more (call_of v c)) no_call (λ e. other (sym e)))
    ]

    args_after : (d : ℕ) → (get_or calls_after d no_call).args ≡ (call_of v d).args
    args_after d = elim (cases_eq c d) [
      | inl same ↦ subst (λ z. (get_or calls_after z no_call).args ≡ (call_of v z).args) same (ap (λ z. z.args) (get_or-set_same v.calls c (one_more (call_of v c)) no_call inside))
      | inr other ↦ ap (λ z. z.args) (get_or-set_other v.calls c d (one_more (call_of v c)) no_call (λ e. other (sym e)))
    ]

    count_after : (d : ℕ) → (get_or calls_after d no_call).count ≡ (if c == d then suc ((call_of v d).count) else (call_of v d).count)
    count_after d = elim (cases_eq c d) [
      | inl same ↦
          let q = eq-eqb c d same in
          let one : (call_of v c).count + 1 ≡ suc ((call_of v c).count) = omega arith in
          rw q (subst (λ z. (get_or calls_after z no_call).count ≡ suc ((call_of v z).count)) same (ap (λ z. z.count) (get_or-set_same v.calls c (one_more (call_of v c)) no_call inside) ∙ one))
      | inr other ↦
          let q = ne_eqb c d other in
          rw q (ap (λ z. z.count) (get_or-set_other v.calls c d (one_more (call_of v c)) no_call (λ e. other (sym e))))
    ]

    pub world_is : (a : Action) → world_of (after a) ≡ world_after (world_of v) c a
    world_is a = λ i. record {
      parents = v.parents;
      opening = v.opening;
      meanings = λ d. meaning (code_after d i).instrs v.parents (args_after d i);
      past = past_after c (as_found (world_of v) a) v.past;
      counts = λ d. count_after d i;
    }
