use Rattle.std.proofs.Common.{◌≡◌, ◌-◌, ◌∙◌, length, refl, ap, rules, arith, vec_capacity}
use Rattle.std.proofs.lemmas.List.{length-map}
use Rattle.tl_core.specs.declared.call.Progress.TheVariants.{Open}
use Rattle.tl_core.specs.Stored.{seen_call}
use Rattle.tl_core.proofs.AdmitLemmas.{admitted_begun, after_begun, turns_begun}
use Rattle.tl_core.proofs.interleaving.Core.admit.Goals as goal

pub invariant_of-self-2 : goal.invariant_of-self-2
invariant_of-self-2 c =
    let long = length-map c.self.inside.calls.items (seen_call c.self.inside.procedures c.self.inside.slots.items) in
    let number : c.len-call.result ≡ length c.self.inside.calls.items = omega arith in
    let slot : c.len-slot.result ≡ length c.self.inside.slots.items = omega arith in
    admitted_begun _ _ _ _ _ _ _ c.self.invariant _ _ c.in_ok-procedure.procedure _ _ _ c.in_ok-procedure.places c.begin.ensures (c.in_ok-shape.ensures ∙ c.shape.ensures.shape) (c.in_ok-proc.ensures ∙ c.get.ensures) (search rules) (search rules) (search rules) (search rules) (search rules) (search rules)
    (record { procedure = c.in_ok-procedure.procedure; args = c.kept.result; progress = Open c.len-slot.result }) refl c.kept.ensures (ap Open slot)
    (record { call = c.len-call.result; places = c.in_ok-procedure.places - 1; turn = c.begin.result }) (λ i. record { call = number i; places = c.in_ok-procedure.places - 1; turn = c.begin.result })
    c.push_reserved.new.self.items (search rules) c.push_reserved-2.new.self.items (search rules) c.reserve-2.new.self c.append.new.self (search rules) (search rules)
    (vec_capacity c.push_reserved-2.new.self) (rw c.push_reserved-2.ensures.capacity c.self.invariant.room)

pub returns-clause-ok : goal.returns-clause-ok
returns-clause-ok c =
    let long = length-map c.self.inside.calls.items (seen_call c.self.inside.procedures c.self.inside.slots.items) in
    let number : c.len-call.result ≡ length c.self.inside.calls.items = omega arith in
    let slot : c.len-slot.result ≡ length c.self.inside.slots.items = omega arith in
    let found = rw (← c.self.view_is) at c.in_ok-procedure.ensures.number in
    record {
      number = rw (← c.self.view_is) (omega arith);
      free = c.in_ok-procedure.ensures.free;
      after_it = rw (← c.self.view_is) (after_begun _ _ _ _ _ _ _ c.self.invariant _ _ c.in_ok-procedure.procedure _ _ _ c.in_ok-procedure.places c.begin.ensures (c.in_ok-shape.ensures ∙ c.shape.ensures.shape) (c.in_ok-proc.ensures ∙ c.get.ensures) (search rules) (search rules) (search rules) (search rules) (search rules) (search rules)
          (record { procedure = c.in_ok-procedure.procedure; args = c.kept.result; progress = Open c.len-slot.result }) refl c.kept.ensures (ap Open slot)
          (record { call = c.len-call.result; places = c.in_ok-procedure.places - 1; turn = c.begin.result }) (λ i. record { call = number i; places = c.in_ok-procedure.places - 1; turn = c.begin.result })
          c.push_reserved.new.self.items (search rules) c.push_reserved-2.new.self.items (search rules) c.append.new.self (search rules) (search rules) c.args.name.now found);
      turns = rw (← c.self.view_is) (turns_begun _ _ _ _ _ _ _ c.self.invariant _ _ c.in_ok-procedure.procedure _ _ _ c.in_ok-procedure.places c.begin.ensures (c.in_ok-shape.ensures ∙ c.shape.ensures.shape) (c.in_ok-proc.ensures ∙ c.get.ensures) (search rules) (search rules) (search rules) (search rules) (search rules) (search rules)
          (record { procedure = c.in_ok-procedure.procedure; args = c.kept.result; progress = Open c.len-slot.result }) refl c.kept.ensures (ap Open slot)
          (record { call = c.len-call.result; places = c.in_ok-procedure.places - 1; turn = c.begin.result }) (λ i. record { call = number i; places = c.in_ok-procedure.places - 1; turn = c.begin.result })
          c.push_reserved.new.self.items (search rules) c.push_reserved-2.new.self.items (search rules));
    }
