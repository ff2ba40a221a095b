use Rattle.std.proofs.Common.{rules, ◌≡◌, ◌≢◌, ◌<◌, ◌≤◌, Some, None, length, refl, subst, inl, arith}
use Rattle.std.proofs.lemmas.Result.{IfOk-weaker, IfErr-weaker}
use Rattle.serde_json.specs.Find.{as_array}
use Rattle.serde_json.specs.View.{view, items_view}
use Rattle.tl_json.specs.Lists.{items_of_list}
use Rattle.tl_trail.specs.declared.fault.TrailFault.TheVariants.{Memory}
use Rattle.tl_trail.specs.Chains.{AreEach, IsFirstOf, IsChain, IsFaultOfChain, chain_of}
use Rattle.tl_trail.proofs.ChainTokenLemmas.{value_stands, value_wrong, value_none, value_other}
use Rattle.tl_trail.proofs.chain.chain_of_value.Goals as goal
use Rattle.tl_trail.proofs.chain.chain_of_value.Goals.{in_default-via-in-Some+then-not-is_empty+else-len-le-MAX_TRAILS, in_default-via-in-Some+else-not-is_empty, in_default-via-in_default}

pub returns-in-Some-clause-ok : goal.returns-in-Some-clause-ok
returns-in-Some-clause-ok c =
    let d = view c.args.value.now in
    let vs = c.in-Some.items.now.items in
    let is : Some (items_view vs) ≡ as_array d = search rules in
    let some : 0 < length vs = search rules in
    let few : length vs ≤ 256 = search rules in
    IfOk-weaker c.trails_of_items.result (λ ts. AreEach c.args.limit (items_of_list (items_view c.deref.result.now)) ts.items) (λ ts. IsChain c.args.limit (chain_of d) ts.items)
    (λ ts each. value_stands c.args.limit d vs ts.items is some few (subst (λ l. AreEach c.args.limit (items_of_list (items_view l)) ts.items) c.deref.ensures.value each)) c.trails_of_items.ensures.ok

pub returns-in-Some-clause-fault : goal.returns-in-Some-clause-fault
returns-in-Some-clause-fault c =
    let d = view c.args.value.now in
    let vs = c.in-Some.items.now.items in
    let is : Some (items_view vs) ≡ as_array d = search rules in
    let some : 0 < length vs = search rules in
    let few : length vs ≤ 256 = search rules in
    IfErr-weaker c.trails_of_items.result (λ e. e ≢ Memory → IsFirstOf c.args.limit (items_of_list (items_view c.deref.result.now)) e) (λ e. e ≢ Memory → IsFaultOfChain c.args.limit (chain_of d) e)
    (λ e wrong ne. value_wrong c.args.limit d vs e is some few (subst (λ l. IsFirstOf c.args.limit (items_of_list (items_view l)) e) c.deref.ensures.value (wrong ne))) c.trails_of_items.ensures.fault

pub returns-in_default-clause-fault : goal.returns-in_default-clause-fault
returns-in_default-clause-fault c = λ ne.
    let d = view c.args.value.now in
    let none : chain_of d ≡ None = elim c.in_default.branch [
      | in_default-via-in-Some+then-not-is_empty+else-len-le-MAX_TRAILS w ↦
          let vs = w.in-Some.items.now.items in
          let is : Some (items_view vs) ≡ as_array d = search rules in
          let many : 256 < length vs = search rules in
          value_other d vs is (λ some few. absurd (omega (arith, many, few)))
      | in_default-via-in-Some+else-not-is_empty w ↦
          let vs = w.in-Some.items.now.items in
          let is : Some (items_view vs) ≡ as_array d = search rules in
          let empty : length vs ≡ 0 = search rules in
          value_other d vs is (λ some few. absurd (omega (arith, empty, some)))
      | in_default-via-in_default w ↦
          let is : None ≡ as_array d = search rules in
          value_none d is
    ] in
    inl (refl, none)
