-- The meaning and the code of a procedure, compared on a tree.
use Rattle.std.proofs.Common.{◌≡◌, [], ◌∷◌, false, refl, arith}
use Rattle.std.specs.Prelude.{pos, replicate}
use Rattle.tl_tree_locking.specs.declared.action.Action.TheVariants as did
use Rattle.tl_lowering.specs.declared.program.Expression.TheVariants as E
use Rattle.tl_lowering.specs.declared.program.Place.TheVariants as P
use Rattle.tl_lowering.specs.declared.program.Statement.{Statement}
use Rattle.tl_lowering.specs.declared.program.Statement.TheVariants as S
use Rattle.tl_machine.specs.Runs.{actions}
use Rattle.tl_machine.specs.Alone.{alone}
use Rattle.tl_compiler.specs.Aiming.{at_positions}
use Rattle.tl_lowering.specs.Sets.{none_held}
use Rattle.tl_lowering.specs.Outcomes.{fails}
use Rattle.tl_compiler.specs.Statements.{procedure_code}
use Rattle.tl_meaning.specs.Meaning.{call}
use Rattle.tl_lowering.specs.Sound.{IsWellFormed}
use Rattle.tl_meaning.specs.Told.{told}

-- lock root = node(0); lock first = child(root, 0); first.value = amount; free first; lock second = child(root, 1); emit second.value;
-- It is well-formed and handles each failure. Its text means what the machine does with its code.
both_children : (p : _) → (let body : Statement = S.Try' p (S.Try' p
    (S.Lock' (P.Node 0 (E.Constant (pos 0))) p
    (S.Lock' (P.Child 1 0 (E.Constant (pos 0))) p
    (S.Sequence' p (S.Write 1 0 (E.Value 0))
    p (S.Sequence' p (S.Free 1)
    p (S.Lock' (P.Child 2 0 (E.Constant (pos 1))) p (S.Emit (E.Field 2 0)) p S.Fail)))
    p S.Fail)
    p S.Fail)
    p S.Skip) p S.Skip in
    let zeros = replicate 3 (replicate 8 (pos 0)) in
    let events = did.Lock 0 (replicate 8 (pos 0)) ∷ did.Lock 1 (replicate 8 (pos 0)) ∷ did.Write 1 0 (pos 7)
    ∷ did.Free 1 (pos 7 ∷ replicate 7 (pos 0)) ∷ did.Lock 2 (replicate 8 (pos 0)) ∷ did.Emit (pos 0)
    ∷ did.Free 2 (replicate 8 (pos 0)) ∷ did.Free 0 (replicate 8 (pos 0)) ∷ [] in
    IsWellFormed body 1 0 none_held false
    × (fails body none_held ≡ [])
    × ((call (0 ∷ 0 ∷ 0 ∷ []) body (pos 7 ∷ []) zeros).events ≡ events)
    × (told (actions (alone (at_positions (procedure_code 1 body)) (0 ∷ 0 ∷ 0 ∷ []) (pos 7 ∷ []) zeros)) ≡ events))
both_children p =
    (((((refl, tt), ((refl, refl, tt), ((refl, omega arith), (refl, ((refl, refl, tt), refl, tt))), tt), tt), tt), tt), refl, refl, refl)
