use Rattle.std.proofs.Common.{◌≡◌, ◌-◌, ◌<◌, map, sym, ap, ◌∙◌, subst, arith, false}
use Rattle.std.specs.List.{range_with_len}
use Rattle.tl_verify.specs.Bits.{bits_of}
use Rattle.tl_compiler.specs.Contexts.{ArePads, code_of}
use Rattle.tl_compiler.specs.NodeSets.{nodes_of}
use Rattle.tl_compiler.specs.Statements as Code
use Rattle.tl_compiler.specs.Statements.{pads_of}
use Rattle.tl_compiler.proofs.PadLemmas.{pad_put, not_there, begins_there}
use Rattle.tl_compiler.proofs.draft.Draft.pads.Goals.{then-contains+then-not-is_same+in_ok-pad, else-contains, else-contains-via-then-contains+else-not-is_same, else-contains-via-else-contains}
use Rattle.tl_compiler.proofs.draft.Draft.pads.Goals as goal

pub loop-index-preserved : goal.loop-index-preserved
loop-index-preserved c = λ list those pad leads.
    let i = c.loop-index.index in
    let small : i < 256 = omega arith in
    let held = nodes_of c.of_bits-held.result in
    let number : 256 - 1 - i ≡ 255 - i = omega arith in
    let is : held ≡ bits_of 8 (255 - i) = c.of_bits-held.ensures ∙ ap (bits_of 8) number in
    let handled = nodes_of c.args.handled in
    let f = c.args.handler.0 in
    let first : Code.Pads = record { code = code_of c.args.self.now; pad = pad; are_some = false } in
    let so_far = c.loop-index.invariant list those pad leads in
    let there = c.contains.ensures list those in
    elim c.if-contains.branch [
      | then-contains+then-not-is_same+in_ok-pad w ↦
          rw (w.self-is, w.pads-is, w.is_one-is)
          (pad_put list handled f i first held small is c.loop-index.self _ c.loop-index.pads _ c.loop-index.is_one
          (sym there ∙ w.if-contains.true) (sym w.is_same.ensures ∙ w.if-not-is_same.true) so_far w.in_ok-pad.ensures.code w.in_ok-pad.ensures.leads)
      | else-contains w ↦
          rw (w.self-is, w.pads-is, w.is_one-is)
          (elim w.else-contains.branch [
            | else-contains-via-then-contains+else-not-is_same v ↦
                begins_there list handled f i first held small is c.loop-index.self c.loop-index.pads c.loop-index.is_one (sym v.is_same.ensures ∙ v.if-not-is_same.false) so_far
            | else-contains-via-else-contains v ↦
                not_there list handled f i first held small is c.loop-index.self c.loop-index.pads c.loop-index.is_one (sym there ∙ v.if-contains.false) so_far
          ])
    ]

pub returns : goal.returns
returns c = λ list those pad leads.
    let all : c.loop-index.index ≡ 256 = omega (arith, c.loop-index-test.false, c.loop-index.auto.index-end) in
    subst
    (λ n. ArePads (pads_of (map (bits_of 8) (range_with_len (256 - n) n)) list (nodes_of c.args.handled) c.args.handler.0 (record { code = code_of c.args.self.now; pad = pad; are_some = false })) c.loop-index.self c.loop-index.pads c.loop-index.is_one)
    all (c.loop-index.invariant list those pad leads)
