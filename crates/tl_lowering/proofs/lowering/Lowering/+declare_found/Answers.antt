use Rattle.std.proofs.Common.{◌+◌, ◌∙◌, ap, arith, length}
use Rattle.std.proofs.lemmas.Result.{on_ok_weaker}
use Rattle.tl_lowering.specs.Names.{names_of}
use Rattle.tl_lowering.proofs.FoundLemmas.{none_named, none_fresh, more_named, more_fresh}
use Rattle.tl_lowering.proofs.lowering.Lowering.+declare_found.Goals as goal

pub declare_found-requires : goal.declare_found-requires
declare_found-requires t c =
    let shorter = ap length c.in-Some.ensures.cases.0 in
    (omega (arith, shorter, c.decreases), omega (arith, shorter, c.requires, c.in_ok-register.ensures, c.in_ok-declare_variable.ensures.values))

pub returns-in_default-clause-named : goal.returns-in_default-clause-named
returns-in_default-clause-named t c = none_named _ c.args.names.now c.in_default.ensures.cases

pub returns-in_default-clause-fresh : goal.returns-in_default-clause-fresh
returns-in_default-clause-fresh t c = none_fresh (names_of c.args.self.now.scope) _ c.args.names.now c.in_default.ensures.cases

pub returns-clause-named : goal.returns-clause-named
returns-clause-named t c =
    on_ok_weaker c.declare_found.result (λ w. more_named (names_of c.args.self.now.scope) (c.args.below + 1) c.in-Some.name.now c.in-Some.ensures.cases.0 c.in_ok-register.ensures c.in_ok-declare_variable.ensures.named w) c.declare_found.ensures.named

pub returns-clause-fresh : goal.returns-clause-fresh
returns-clause-fresh t c =
    on_ok_weaker c.declare_found.result (λ w. more_fresh (names_of c.args.self.now.scope) (c.args.below + 1) c.in-Some.name.now c.in-Some.ensures.cases.0 c.in_ok-register.ensures c.in_ok-declare_variable.ensures.named c.in_ok-check_new.ensures w) c.declare_found.ensures.fresh

pub declare_variable-requires : goal.declare_variable-requires
declare_variable-requires t c = let shorter = ap length c.in-Some.ensures.cases.0 in omega (arith, shorter, c.requires, c.in_ok-register.ensures)

pub returns-clause-in_use : goal.returns-clause-in_use
returns-clause-in_use t c = on_ok_weaker c.declare_found.result (λ w h. w (c.in_ok-declare_variable.ensures.in_use h)) c.declare_found.ensures.in_use

pub returns-clause-values : goal.returns-clause-values
returns-clause-values t c = on_ok_weaker c.declare_found.result (λ w. w ∙ c.in_ok-declare_variable.ensures.values) c.declare_found.ensures.values

pub returns-clause-nodes : goal.returns-clause-nodes
returns-clause-nodes t c = on_ok_weaker c.declare_found.result (λ w. w ∙ c.in_ok-declare_variable.ensures.nodes) c.declare_found.ensures.nodes

pub returns-clause-loops : goal.returns-clause-loops
returns-clause-loops t c = on_ok_weaker c.declare_found.result (λ w. w ∙ c.in_ok-declare_variable.ensures.loops) c.declare_found.ensures.loops

pub returns-clause-extends : goal.returns-clause-extends
returns-clause-extends t c =
    on_ok_weaker c.declare_found.result (λ w outer e. w outer (c.in_ok-declare_variable.ensures.names outer c.in_ok-check_new.ensures e)) c.declare_found.ensures.extends
