-- Definitions compared with a worked example.
use Rattle.std.proofs.Common.{◌≡◌, [], ◌∷◌, refl}
use Rattle.std.specs.Prelude.{pos}
use Rattle.tl_instr.specs.declared.instr.Instr.TheVariants as I
use Rattle.tl_lowering.specs.declared.program.Expression.TheVariants as E
use Rattle.tl_lowering.specs.declared.program.Place.TheVariants as P
use Rattle.tl_lowering.specs.declared.program.Statement.TheVariants as S
use Rattle.tl_compiler.specs.Statements.{procedure_code}

-- lock root = node(0); lock first = child(root, 0); first.value = amount; free first; lock second = child(root, 1); emit second.value;
-- with an empty `else`: a failure while the root is held leads to a pad that frees it
both_children : (p : _) →
    procedure_code 1 (S.Try' p (S.Try' p
    (S.Lock' (P.Node 0 (E.Constant (pos 0))) p
    (S.Lock' (P.Child 1 0 (E.Constant (pos 0))) p
    (S.Sequence' p (S.Write 1 0 (E.Value 0))
    p (S.Sequence' p (S.Free 1)
    p (S.Lock' (P.Child 2 0 (E.Constant (pos 1))) p (S.Emit (E.Field 2 0)) p S.Fail)))
    p S.Fail)
    p S.Fail)
    p S.Skip) p S.Skip)
    ≡ I.Set 1 (pos 0) ∷ I.First 0 1 1 ∷ I.Set 1 (pos 0) ∷ I.Child 1 0 1 3 ∷ I.Put 1 0 0 ∷ I.Release 1 ∷ I.Set 1 (pos 1)
    ∷ I.Child 2 0 1 3 ∷ I.Get 1 2 0 ∷ I.Emit 1 ∷ I.Release 2 ∷ I.Release 0 ∷ I.Jump 1 ∷ I.Release 0 ∷ I.Jump 1 ∷ I.Return ∷ []
both_children p = refl
