use Rattle.std.proofs.Common.{◌≡◌, ap, ◌∙◌, sym, refl, length, ℕ, List, Option, option_map, Bor}
use Rattle.std.specs.Arc.{arc_value}
use Rattle.tl_commands.specs.Alone.{AloneInputs}
use Rattle.tl_commands.proofs.AloneLines.{ran_from}
use Rattle.tl_commands.proofs.alone.alone_cmd.Goals as goal

pub returns-in-Err-procedure_of-clause-fault : goal.returns-in-Err-procedure_of-clause-fault
returns-in-Err-procedure_of-clause-fault c = λ known. (record { tree = c.in-Ok.tree; same = c.in-Ok.ensures.ok }, c.in-Err-procedure_of.ensures.fault known)

pub returns-in_default-alone-clause-fault : goal.returns-in_default-alone-clause-fault
returns-in_default-alone-clause-fault c =
    let name : Option (List ℕ) = option_map (λ (n : Bor (List ℕ)). n.now) c.args.name in
    let inputs : AloneInputs c.args.limit c.args.tree.now c.args.source name c.args.args.now =
    record {
      tree = c.in-Ok.tree;
      code = c.in-Ok-procedure_of.procedure;
      args = c.in_ok-args.args.items;
      tree_is = c.in-Ok.ensures.ok;
      code_is = c.in-Ok-procedure_of.ensures.ok;
      args_are = c.in_ok-args.ensures.ok;
    }
    in
    let code : arc_value c.in-Ok-new.procedure ≡ c.in-Ok-procedure_of.procedure = c.in-Ok-new.ensures.ok in
    (inputs, λ arity. cc (c.in_default-alone.ensures.wrong.1 (ap length c.deref.ensures.value ∙ arity ∙ sym (ap (λ p. p.arity) code))))

pub returns-clause-ran : goal.returns-clause-ran
returns-clause-ran c =
    let name : Option (List ℕ) = option_map (λ (n : Bor (List ℕ)). n.now) c.args.name in
    let inputs : AloneInputs c.args.limit c.args.tree.now c.args.source name c.args.args.now =
    record {
      tree = c.in-Ok.tree;
      code = c.in-Ok-procedure_of.procedure;
      args = c.in_ok-args.args.items;
      tree_is = c.in-Ok.ensures.ok;
      code_is = c.in-Ok-procedure_of.ensures.ok;
      args_are = c.in_ok-args.ensures.ok;
    }
    in
    let p = arc_value c.in-Ok-new.procedure in
    let code : p ≡ c.in-Ok-procedure_of.procedure = c.in-Ok-new.ensures.ok in
    let args : c.deref.result.now ≡ c.in_ok-args.args.items = c.deref.ensures.value in
    let arity : length c.deref.result.now ≡ p.arity = c.in-Ok-alone.ensures.wrong.0 refl in
    record {
      inputs = inputs;
      arity = sym (ap length args) ∙ arity ∙ ap (λ p. p.arity) code;
      same = ran_from c.in-Ok.tree c.alone.new.tree p c.in-Ok-procedure_of.procedure c.deref.result.now c.in_ok-args.args.items c.in-Ok-alone.answer.reply c.in-Ok-alone.answer.steps code args c.in-Ok-alone.ensures.answer c.in-Ok-alone.ensures.tree;
    }
