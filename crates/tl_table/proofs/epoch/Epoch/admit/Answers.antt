use Rattle.std.proofs.Common.{[], refl, ap, ◌∙◌, subst}
use Rattle.std.proofs.lemmas.Bool.{lt-ltb}
use Rattle.tl_procedures.specs.Names.{AreFreeAfter}
use Rattle.tl_table.proofs.Going.{admission_same, same_goes_on}
use Rattle.tl_table.proofs.Admitted.{IsAdmitted, admitted, name_short, table_more}
use Rattle.tl_table.proofs.epoch.Epoch.admit.Goals as goal

pub invariant_of-self : goal.invariant_of-self
invariant_of-self c =
    let v = c.self.inside.running.seen in
    let a : IsAdmitted v c.admit.new.self.seen c.args.name.now c.args.args.now = admitted v c.admit.new.self.seen c.args.name.now c.args.args.now c.in-Ok.ensures.ok.free c.in-Ok.ensures.ok.after_it in
    let in_turn = rw c.core.ensures at c.lemma_is_sound.ensures.legal.in_turn in
    let counted = rw c.core.ensures at c.lemma_is_sound.ensures.counted in
    table_more _ _ _ _ c.self.invariant in_turn counted c.admit.new.self _
    (ap (λ w. w.calls) a.is_more) (ap (λ w. w.past) a.is_more) c.args.session c.if-session-self.false _ _
    c.push_reserved.ensures.items c.push_reserved-in-Ok.ensures.items _ _ c.push_reserved.ensures.capacity c.push_reserved-in-Ok.ensures.capacity

pub returns-in-Ok-clause-ok : goal.returns-in-Ok-clause-ok
returns-in-Ok-clause-ok c =
    let v = c.self.inside.running.seen in
    let a = c.in-Ok.ensures.ok in
    let given = lt-ltb c.args.session c.self.inside.sessions c.if-session-self.false in
    rw (← c.self.view_is) (record {
      next = a.number;
      free = rw (given, a.free) refl;
      core = a.after_it;
      turns = a.turns;
      owners = c.push_reserved.ensures.items;
      sessions = refl;
      goes_on = same_goes_on _ _ refl (admission_same v c.admit.new.self.seen c.args.name.now c.args.args.now a.after_it);
    })

pub returns-in-Ok-clause-short : goal.returns-in-Ok-clause-short
returns-in-Ok-clause-short c =
    let v = c.self.inside.running.seen in
    let a : IsAdmitted v c.admit.new.self.seen c.args.name.now c.args.args.now = admitted v c.admit.new.self.seen c.args.name.now c.args.args.now c.in-Ok.ensures.ok.free c.in-Ok.ensures.ok.after_it in
    let kept = c.procedures.ensures ∙ ap (λ s. s.seen.procedures) c.core-2.ensures in
    name_short v.procedures c.args.name.now a.number (subst (AreFreeAfter []) kept c.len-fact.ensures.free) a.named
