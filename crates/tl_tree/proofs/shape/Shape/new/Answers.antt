use Rattle.std.proofs.Common.{◌≡◌, ◌≢◌, Err, IfErr, sym, ap, ◌∙◌, arith, rules}
use Rattle.std.proofs.lemmas.Result.{IfErr-weaker}
use Rattle.tl_tree.specs.declared.fault.TreeFault.TheVariants.{Memory}
use Rattle.tl_tree.specs.Shape.{shape_of}
use Rattle.tl_tree.proofs.Faults.{memory_from_fault}
use Rattle.tl_tree.proofs.Parents.{tree_from_shape_of, shape_of-pos, astray_from_shape_of}
use Rattle.tl_tree.proofs.shape.Shape.new.Goals as goal

pub returns-in_err-parents-clause-taken : goal.returns-in_err-parents-clause-taken
returns-in_err-parents-clause-taken c = λ s tree few same.
    let limit = c.args.limit in
    let numbers = c.args.parents.now in
    let fault : IfErr c.from_residual.result (λ e. e ≢ Memory → shape_of limit numbers ≡ Err e) = search rules in
    memory_from_fault c.from_residual.result _ (shape_of limit numbers) s (search rules) fault (ap (shape_of limit) (sym same) ∙ shape_of-pos limit s tree few)

pub returns-in_err-parents-clause-astray : goal.returns-in_err-parents-clause-astray
returns-in_err-parents-clause-astray c =
    let limit = c.args.limit in
    let numbers = c.args.parents.now in
    let fault : IfErr c.from_residual.result (λ e. e ≢ Memory → shape_of limit numbers ≡ Err e) = search rules in
    IfErr-weaker c.from_residual.result _ _ (λ e only x is. astray_from_shape_of limit numbers x (only (λ memory. cc) ∙ ap Err is)) fault

pub kid_lists-requires : goal.kid_lists-requires
kid_lists-requires c = rw c.deref.ensures.value ((tree_from_shape_of c.args.limit c.args.parents.now c.in_ok-parents.parents.items (omega arith) c.in_ok-parents.ensures.ok).0)

pub invariant_of-result : goal.invariant_of-result
invariant_of-result c = ((tree_from_shape_of c.args.limit c.args.parents.now c.in_ok-parents.parents.items (omega arith) c.in_ok-parents.ensures.ok).0, rw (← c.deref.ensures.value) c.in_ok-kid_lists.ensures)

pub returns-clause-tree : goal.returns-clause-tree
returns-clause-tree c = tree_from_shape_of c.args.limit c.args.parents.now c.in_ok-parents.parents.items (omega arith) c.in_ok-parents.ensures.ok

pub returns-clause-taken : goal.returns-clause-taken
returns-clause-taken c = λ s tree few same.
    let taken = ap (shape_of c.args.limit) (sym same) ∙ shape_of-pos c.args.limit s tree few in
    let ours = c.in_ok-parents.ensures.ok in
    cc
