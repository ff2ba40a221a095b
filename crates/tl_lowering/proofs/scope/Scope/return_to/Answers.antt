use Rattle.std.proofs.Common.{◌∙◌, ◌<◌, length, rules}
use Rattle.tl_lowering.proofs.ScopeLemmas.{pops_local, pops_meanings}
use Rattle.tl_lowering.proofs.scope.Scope.return_to.Goals as goal

pub loop-self-preserved-in-Some : goal.loop-self-preserved-in-Some
loop-self-preserved-in-Some c =
    let old = c.loop-self.self.local.items in
    let below : c.args.mark.local < length old = search rules in
    record {
      meanings =
          pops_meanings c.args.mark.local old c.set.new.self.local.items c.in-Some.symbol c.loop-self.self.meanings.items c.set.new.self.meanings.items (search rules) below (search rules)
          ∙ c.loop-self.invariant.meanings;
      fields = c.set.ensures.fields ∙ c.loop-self.invariant.fields;
      procedures = c.set.ensures.procedures ∙ c.loop-self.invariant.procedures;
      local = pops_local c.args.mark.local old c.set.new.self.local.items c.in-Some.symbol (search rules) below ∙ c.loop-self.invariant.local;
      loops = search rules;
    }
