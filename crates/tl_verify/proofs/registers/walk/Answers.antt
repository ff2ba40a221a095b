use Rattle.std.proofs.Common.{◌<◌, None, length, refl, ◌∙◌, arith, get_or, subst}
use Rattle.std.proofs.lemmas.List.{get_or_default}
use Rattle.std.proofs.lemmas.Option.{slice_get-get_or, slice_get_read}
use Rattle.tl_instr.specs.declared.instr.Instr.TheVariants.{Return}
use Rattle.tl_verify.specs.Known.{PassesOn}
use Rattle.tl_verify.proofs.Asides.{aside_at}
use Rattle.tl_verify.proofs.KnownLemmas.{known_next, known_skip}
use Rattle.tl_verify.proofs.RegistersLemmas.{clear_skip, clear_next, fault_here, alike, next_inside, aside_inside, body_inside}
use Rattle.tl_verify.proofs.registers.walk.Goals as goal

pub loop-position-preserved-in_default : goal.loop-position-preserved-in_default
loop-position-preserved-in_default c =
    let p = c.loop-position.position in
    let code = c.args.code.now in
    let lt : p < length code = c.loop-position-test.true in
    let within : p < length c.loop-position.states = let h = c.loop-position.invariant.0.long in omega arith in
    let is = get_or_default c.loop-position.states p None _ within ∙ c.in_default.is in (
      known_skip code p (get_or code p Return) c.loop-position.states (slice_get-get_or code p Return lt) lt c.loop-position.invariant.0 is,
      clear_skip code p c.loop-position.states c.loop-position.invariant.1 c.loop-position.invariant.0 lt is,
    )

pub is_changed-changed-requires-clause-start : goal.is_changed-changed-requires-clause-start
is_changed-changed-requires-clause-start c ends =
    let p = c.loop-position.position in
    let code = c.args.code.now in
    let lt : p < length code = c.loop-position-test.true in
    let i = c.index-code-position.result in
    let at = slice_get_read code (length code) p i refl lt c.index-code-position.is in
    body_inside code c.args.nest.now c.requires.nest p i c.loop-position.states at c.loop-position.invariant.0 ends

pub returns-in-Err-clause-fault : goal.returns-in-Err-clause-fault
returns-in-Err-clause-fault c =
    let p = c.loop-position.position in
    let code = c.args.code.now in
    let lt : p < length code = c.loop-position-test.true in
    let within : p < length c.loop-position.states = let h = c.loop-position.invariant.0.long in omega arith in
    let is = get_or_default c.loop-position.states p None _ within ∙ c.in-Some.is in
    let i = c.index-code-position.result in
    let at = slice_get_read code (length code) p i refl lt c.index-code-position.is in
    fault_here code p c.args.nest.now c.requires.nest i at c.loop-position.states c.loop-position.invariant.0 c.loop-position.invariant.1 c.in-Some.arrivals is c.is_changed-changed.result c.is_changed-changed.ensures
    c.furthest-far.result c.furthest-far.ensures c.in-Err.fault c.requires.ahead c.in-Err.ensures.fault

pub pass_on-requires-clause-next : goal.pass_on-requires-clause-next
pass_on-requires-clause-next c =
    let p = c.loop-position.position in
    let code = c.args.code.now in
    let lt : p < length code = c.loop-position-test.true in
    let within : p < length c.loop-position.states = let h = c.loop-position.invariant.0.long in omega arith in
    let is = get_or_default c.loop-position.states p None _ within ∙ c.in-Some.is in
    let i = c.index-code-position.result in
    let at = slice_get_read code (length code) p i refl lt c.index-code-position.is in
    next_inside code p c.args.nest.now c.requires.nest i at c.loop-position.states c.loop-position.invariant.0 c.loop-position.invariant.1 c.in-Some.arrivals is c.is_changed-changed.result c.is_changed-changed.ensures
    c.furthest-far.result c.furthest-far.ensures c.in-Ok.ensures.ok

pub pass_on-requires-clause-aside : goal.pass_on-requires-clause-aside
pass_on-requires-clause-aside c l is =
    let p = c.loop-position.position in
    let code = c.args.code.now in
    let lt : p < length code = c.loop-position-test.true in
    let within : p < length c.loop-position.states = let h = c.loop-position.invariant.0.long in omega arith in
    let is_there = get_or_default c.loop-position.states p None _ within ∙ c.in-Some.is in
    let i = c.index-code-position.result in
    let at = slice_get_read code (length code) p i refl lt c.index-code-position.is in
    aside_inside code p c.args.nest.now c.requires.nest i at c.loop-position.states c.loop-position.invariant.0 c.loop-position.invariant.1 c.in-Some.arrivals is_there c.is_changed-changed.result c.is_changed-changed.ensures
    c.furthest-far.result c.furthest-far.ensures c.in-Ok.ensures.ok c.requires.ahead c.aside-beside.result c.aside-beside.ensures l is

pub loop-position-preserved : goal.loop-position-preserved
loop-position-preserved c =
    let p = c.loop-position.position in
    let code = c.args.code.now in
    let i = c.index-code-position.result in
    let a = c.in-Some.arrivals in
    let states = c.loop-position.states in
    let known = c.loop-position.invariant.0 in
    let lt : p < length code = c.loop-position-test.true in
    let within : p < length c.loop-position.states = let h = c.loop-position.invariant.0.long in omega arith in
    let is = get_or_default c.loop-position.states p None _ within ∙ c.in-Some.is in
    let at = slice_get_read code (length code) p i refl lt c.index-code-position.is in
    let same = alike code p c.args.nest.now c.requires.nest i at states known c.loop-position.invariant.1 a is c.is_changed-changed.result c.is_changed-changed.ensures c.furthest-far.result c.furthest-far.ensures c.in-Ok.ensures.ok in (
      known_next code p i a states c.pass_on.new.states at lt c.requires.ahead known is same (subst (λ o. PassesOn i o p a.marks states c.pass_on.new.states) (c.aside-beside.ensures ∙ aside_at code c.args.nest.now c.requires.nest p i at) c.pass_on.ensures),
      clear_next code p c.args.nest.now c.requires.nest i at states known c.loop-position.invariant.1 a is c.is_changed-changed.result c.is_changed-changed.ensures c.furthest-far.result c.furthest-far.ensures c.in-Ok.ensures.ok,
    )
