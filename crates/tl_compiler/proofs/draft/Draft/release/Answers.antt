use Rattle.std.proofs.Common.{rules, ◌≡◌, reverse, ap, ◌∙◌, arith, true, false, refl}
use Rattle.tl_instr.specs.declared.operand.TheConstants.{NODE_REGISTERS}
use Rattle.tl_compiler.specs.NodeSets.{nodes_of}
use Rattle.tl_compiler.specs.Statements.{release_below}
use Rattle.tl_compiler.proofs.CodeLemmas.{released_more}
use Rattle.tl_compiler.proofs.draft.Draft.release.Goals.{then-contains+in_ok-put, else-contains}
use Rattle.tl_compiler.proofs.draft.Draft.release.Goals as goal

pub loop-number-init : goal.loop-number-init
loop-number-init c = refl

pub loop-number-preserved : goal.loop-number-preserved
loop-number-preserved c =
    let n = c.loop-number.number in
    let k = reverse c.args.self.now.instrs.items in
    let old = reverse c.loop-number.self.instrs.items in
    let more = reverse c.if-contains.self.instrs.items in
    elim c.if-contains.branch [
      | then-contains+in_ok-put w ↦ released_more n (nodes_of c.args.nodes) k true old more (search rules) c.loop-number.invariant (search rules)
      | else-contains w ↦ released_more n (nodes_of c.args.nodes) k false old more (search rules) c.loop-number.invariant (search rules)
    ]

pub returns-after-loop-number : goal.returns-after-loop-number
returns-after-loop-number c =
    let all : c.loop-number.number ≡ NODE_REGISTERS = omega (arith, c.loop-number-test.false, c.loop-number.auto.number-end) in
    c.loop-number.invariant ∙ ap (λ n. release_below n (nodes_of c.args.nodes) (reverse c.args.self.now.instrs.items)) all
