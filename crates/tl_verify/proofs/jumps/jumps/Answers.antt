use Rattle.std.proofs.Common.{◌≡◌, length, refl, sym, arith, subst, inl, inr}
use Rattle.std.proofs.lemmas.Option.{slice_get_read}
use Rattle.tl_verify.specs.Known.{AheadTo}
use Rattle.tl_verify.proofs.JumpsLemmas.{none_more, ahead_more, back_is_first, past_is_first, into_is_first, all_ahead}
use Rattle.tl_verify.proofs.jumps.jumps.Goals.{else-depth_at-gt0-via-then-depth_at-gt0+else-opening_of-position, else-depth_at-gt0-via-else-depth_at-gt0}
use Rattle.tl_verify.proofs.jumps.jumps.Goals as goal

pub loop-position-preserved-in_default : goal.loop-position-preserved-in_default
loop-position-preserved-in_default c =
    let code = c.args.code.now in
    let p = c.loop-position.position in
    let i = c.index-code-position.result in
    let at = slice_get_read code (length code) p i refl c.loop-position-test.true c.index-code-position.is in
    none_more code p i at c.loop-position.invariant (sym c.in_default.ensures)

pub returns-then-target-position-clause-fault : goal.returns-then-target-position-clause-fault
returns-then-target-position-clause-fault c =
    let code = c.args.code.now in
    let p = c.loop-position.position in
    let i = c.index-code-position.result in
    let at = slice_get_read code (length code) p i refl c.loop-position-test.true c.index-code-position.is in
    back_is_first code p i at c.loop-position.invariant c.in-Some.target (sym c.in-Some.ensures) c.requires.nest.nested c.if-target-position.true

pub returns-then-target-code-clause-fault : goal.returns-then-target-code-clause-fault
returns-then-target-code-clause-fault c =
    let code = c.args.code.now in
    let p = c.loop-position.position in
    let i = c.index-code-position.result in
    let at = slice_get_read code (length code) p i refl c.loop-position-test.true c.index-code-position.is in
    past_is_first code p i at c.loop-position.invariant c.in-Some.target (sym c.in-Some.ensures) c.requires.nest.nested c.if-target-position.false c.if-target-code.true

pub returns-then-opening_of-position-clause-fault : goal.returns-then-opening_of-position-clause-fault
returns-then-opening_of-position-clause-fault c =
    let code = c.args.code.now in
    let p = c.loop-position.position in
    let i = c.index-code-position.result in
    let at = slice_get_read code (length code) p i refl c.loop-position-test.true c.index-code-position.is in
    let depth = c.depth_at.ensures in
    let opening = c.opening_of.ensures in
    let deep = c.if-depth_at-gt0.true in
    let behind = c.if-opening_of-position.true in
    into_is_first code p i at c.loop-position.invariant c.in-Some.target (sym c.in-Some.ensures) c.args.nest.now c.requires.nest c.if-target-position.false c.if-target-code.false
    (omega arith) (omega arith)

pub loop-position-preserved : goal.loop-position-preserved
loop-position-preserved c =
    let code = c.args.code.now in
    let p = c.loop-position.position in
    let i = c.index-code-position.result in
    let at = slice_get_read code (length code) p i refl c.loop-position-test.true c.index-code-position.is in
    let depth = c.depth_at.ensures in
    ahead_more code p i at c.loop-position.invariant c.in-Some.target (sym c.in-Some.ensures) c.args.nest.now c.requires.nest c.if-target-position.false c.if-target-code.false
    (elim c.else-depth_at-gt0.branch [
      | else-depth_at-gt0-via-then-depth_at-gt0+else-opening_of-position w ↦ inr (let opening = w.opening_of.ensures in let less = w.if-opening_of-position.false in omega arith)
      | else-depth_at-gt0-via-else-depth_at-gt0 w ↦ inl (let none = w.if-depth_at-gt0.false in omega arith)
    ])

pub returns-clause-ahead : goal.returns-clause-ahead
returns-clause-ahead c =
    let code = c.args.code.now in
    let at_end : c.loop-position.position ≡ length code = omega arith in
    all_ahead code c.requires.nest.nested (subst (AheadTo code) at_end c.loop-position.invariant)
