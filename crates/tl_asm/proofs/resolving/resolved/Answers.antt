use Rattle.std.proofs.Common.{◌∙◌, arith, refl, sym, ap, take, map, Some, None}
use Rattle.tl_instr.specs.declared.instr.Instr.TheVariants.{Return}
use Rattle.tl_asm.specs.declared.sketch.Origin.{Origin}
use Rattle.tl_instr.specs.Instructions.{with_target}
use Rattle.tl_asm.specs.Sketches.{known, traced, drafts_of}
use Rattle.tl_asm.proofs.ResolvingLemmas.{this_draft, all_aimed, step, plain, targeted, astray, whole, length_traced}
use Rattle.tl_asm.proofs.resolving.resolved.Goals.{in-None, in-Some+in-Some-get}
use Rattle.tl_asm.proofs.resolving.resolved.Goals as goal

pub loop-index-preserved : goal.loop-index-preserved
loop-index-preserved c =
    let labels = known c.args.labels.now.entries in
    let origin : Origin = record { line = 0; label = None } in
    elim c.match-label.branch [
      | in-None w ↦
          let now = plain c.args.instrs.now c.args.origins.now c.loop-index.index w.index-instrs-index.result origin c.requires c.loop-index-test.true labels c.match-label.instr w.in-None.is (w.instr-is ∙ w.index-instrs-index.is) in
          step c.args.instrs.now c.args.origins.now c.loop-index.index w.index-instrs-index.result origin c.requires c.loop-index-test.true labels c.loop-index.resolved.items c.match-label.instr c.loop-index.invariant now
          ∙ ap (map Some) (sym c.in_ok-push.ensures.items)
      | in-Some+in-Some-get w ↦
          let now = targeted c.args.instrs.now c.args.origins.now c.loop-index.index w.index-instrs-index-in-Some-get.result origin c.requires c.loop-index-test.true c.args.labels.now.entries c.match-label.instr w.in-Some.label w.in-Some-get.target.now w.in-Some.is w.in-Some-get.ensures.value (w.instr-is ∙ w.with_target.ensures ∙ ap (with_target w.in-Some-get.target.now) w.index-instrs-index-in-Some-get.is) in
          step c.args.instrs.now c.args.origins.now c.loop-index.index w.index-instrs-index-in-Some-get.result origin c.requires c.loop-index-test.true labels c.loop-index.resolved.items c.match-label.instr c.loop-index.invariant now
          ∙ ap (map Some) (sym c.in_ok-push.ensures.items)
    ]

pub returns-clause-found : goal.returns-clause-found
returns-clause-found c = whole (known c.args.labels.now.entries) c.args.instrs.now (traced c.args.origins.now) c.loop-index.index c.loop-index.resolved.items (length_traced c.args.origins.now c.args.instrs.now c.requires) (omega arith) c.loop-index.invariant

pub returns-in-None-get-clause-fault : goal.returns-in-None-get-clause-fault
returns-in-None-get-clause-fault c = λ _.
    let origin : Origin = record { line = 0; label = None } in (
      _,
      refl,
      record {
        place = c.loop-index.index;
        draft = _;
        here = this_draft c.args.instrs.now c.args.origins.now c.loop-index.index Return origin c.requires c.loop-index-test.true;
        astray = astray c.args.instrs.now c.args.origins.now c.loop-index.index Return origin c.requires c.loop-index-test.true c.args.labels.now.entries c.in-Some.label c.in-Some.is c.in-None-get.ensures.value;
        before = all_aimed (known c.args.labels.now.entries) (take c.loop-index.index (drafts_of c.args.instrs.now (traced c.args.origins.now))) c.loop-index.resolved.items c.loop-index.invariant;
      },
    )
