use mir.Val.{to_z, of_z}
use Rattle.std.proofs.Common.{◌≡◌, ◌∙◌, [], w64, arith, rules, subst, sym}
use Rattle.std.specs.List.{All}
use Rattle.std.proofs.lemmas.List.{take_all}
use Rattle.std.proofs.lemmas.List.Elements.{All-push}
use Rattle.tl_syntax.specs.Tokens.{spellings}
use Rattle.tl_lowering.specs.declared.program.Procedure.{Procedure}
use Rattle.tl_lowering.specs.Fit.{IsWord}
use Rattle.tl_lowering.specs.Names.{names_of, with_constant}
use Rattle.tl_lowering.specs.Reading.{AreDeclared}
use Rattle.tl_lowering.specs.Sound.{IsInOrder}
use Rattle.tl_lowering.proofs.TextLemmas.{field_more, constant_more, procedure_more, part_more, all_so_far}
use Rattle.tl_lowering.proofs.lowering.Lowering.program.Goals.{in-Field+in_ok-declare_field-in-Field, in-Constant+in_ok-check_new-in-Constant+in_ok-number-in-Constant, in-Procedure+in_ok-procedure-in-Procedure+in_ok-push-in-Procedure, in-Part+in_ok-declare_procedure-in-Part}
use Rattle.tl_lowering.proofs.lowering.Lowering.program.Goals as goal

pub loop-index-preserved : goal.loop-index-preserved
loop-index-preserved c =
    let so_far = c.loop-index.invariant in
    let ps = c.loop-index.procedures.items in
    let xs = c.args.declarations.now in
    let i = c.loop-index.index in
    let x = c.index-declarations-index.result in
    elim c.match-declaration.branch [
      | in-Field+in_ok-declare_field-in-Field w ↦
          rw (w.self-is, w.procedures-is) (record {
            named = field_more (names_of w.declare_field.new.self.scope) ps xs i x (omega arith) c.index-declarations-index.is so_far.named w.in-Field.is w.in_ok-declare_field-in-Field.ensures.named;
            bare = w.in_ok-declare_field-in-Field.ensures.bare;
            procedures = so_far.procedures;
          })
      | in-Constant+in_ok-check_new-in-Constant+in_ok-number-in-Constant w ↦
          let number = w.in_ok-number-in-Constant.number in
          let same : to_z w64 (of_z w64 number) ≡ number = search rules in
          let constant = subst (λ n. names_of w.declare_constant.new.self ≡ with_constant (names_of c.loop-index.self.scope) w.in-Constant.name n i) same w.declare_constant.ensures.named in
          rw (w.self-is, w.procedures-is) (record {
            named = constant_more (names_of w.declare_constant.new.self) ps xs i x (omega arith) c.index-declarations-index.is so_far.named w.in-Constant.is w.in_ok-check_new-in-Constant.ensures w.in_ok-number-in-Constant.ensures constant;
            bare = record {
              names = w.declare_constant.ensures.in_use so_far.bare.names;
              values = w.declare_constant.ensures.values ∙ so_far.bare.values;
              nodes = w.declare_constant.ensures.nodes ∙ so_far.bare.nodes;
              loops = w.declare_constant.ensures.loops ∙ so_far.bare.loops;
            };
            procedures = so_far.procedures;
          })
      | in-Procedure+in_ok-procedure-in-Procedure+in_ok-push-in-Procedure w ↦
          rw (w.self-is, w.procedures-is) (record {
            named =
                procedure_more (names_of w.procedure.new.self.scope) ps xs i x (omega arith) c.index-declarations-index.is so_far.named w.push.new.self.items w.in-Procedure.is
                w.in_ok-procedure-in-Procedure.ensures.fresh w.in_ok-procedure-in-Procedure.ensures.named w.in_ok-procedure-in-Procedure.ensures.names w.in_ok-push-in-Procedure.ensures.items;
            bare = w.in_ok-procedure-in-Procedure.ensures.scope;
            procedures =
                subst (All (λ (p : Procedure). IsWord p.name.items → IsInOrder p)) (sym w.in_ok-push-in-Procedure.ensures.items)
                (All-push (λ (p : Procedure). IsWord p.name.items → IsInOrder p) ps w.in_ok-procedure-in-Procedure.field-0 so_far.procedures w.in_ok-procedure-in-Procedure.ensures.procedure);
          })
      | in-Part+in_ok-declare_procedure-in-Part w ↦
          let declared = w.in_ok-declare_procedure-in-Part.ensures in
          rw (w.self-is, w.procedures-is) (record {
            named = part_more (names_of w.declare_procedure.new.self) ps xs i x (omega arith) c.index-declarations-index.is so_far.named w.in-Part.is declared.fresh declared.named;
            bare = declared.bare so_far.bare;
            procedures = so_far.procedures;
          })
    ]

pub returns-clause-named : goal.returns-clause-named
returns-clause-named c =
    subst (λ xs. AreDeclared (spellings c.args.names.now.keys) [] (names_of c.args.self.now.scope) xs c.loop-index.procedures.items)
    (take_all c.loop-index.index c.args.declarations.now (omega arith)) (all_so_far c.loop-index.invariant.named)
