-- Where a `for each` may occur, in worked core forms: for each child c of n at most 64 { }, where n has node register 0.
use Rattle.std.proofs.Common.{◌≡◌, true, false, refl}
use Rattle.std.specs.Prelude.{pos}
use Rattle.tl_lowering.specs.declared.program.Condition.TheVariants as C
use Rattle.tl_lowering.specs.declared.program.Expression.TheVariants as E
use Rattle.tl_lowering.specs.declared.program.Place.TheVariants as P
use Rattle.tl_lowering.specs.declared.program.Statement.{Statement}
use Rattle.tl_lowering.specs.declared.program.Statement.TheVariants as S
use Rattle.tl_lowering.specs.Naming.{calculated, IsThen, then}
use Rattle.tl_lowering.specs.Passing.{nothing_before, EntersOnce}
use Rattle.tl_lowering.specs.Reading.{IsVisiting, visiting}
use Rattle.tl_lowering.specs.Sets.{none_held, with_node}

-- it may occur where no child was passed
once : {walk : Statement} → IsVisiting 1 1 0 64 S.Skip walk → EntersOnce walk nothing_before
once (visiting calculated then) = ((tt, ((λ g. refl), tt, tt)), (λ h. h), refl)

-- it may not occur after another one for the same node
twice : {walk again whole : Statement} → IsVisiting 1 1 0 64 S.Skip walk → IsVisiting 1 1 0 64 S.Skip again → IsThen walk again whole → EntersOnce whole nothing_before → ⊥
twice (visiting calculated then) (visiting calculated then) then h = let passed : true ≡ false = h.1.2 in absurd cc

-- it may not occur inside lock c = child(n, 0)
behind_child : {walk : Statement} (p q : _) → IsVisiting 1 1 0 64 S.Skip walk → EntersOnce (S.Lock' (P.Child 2 0 (E.Constant (pos 0))) p walk q S.Fail) nothing_before → ⊥
behind_child p q (visiting calculated then) h = let passed : true ≡ false = h.1.2 in absurd cc

-- it may occur where only one of two paths has locked a child: if 0 == 0 { if lock c = child(n, 0) { } else { fail; } }
one_path : {walk : Statement} (p q r s t u : _) → IsVisiting 1 1 0 64 S.Skip walk
    → EntersOnce (S.Sequence' p (S.If' (C.Equal (E.Constant (pos 0)) (E.Constant (pos 0))) q (S.Lock' (P.Child 1 0 (E.Constant (pos 0))) r S.Skip s S.Fail) t S.Skip) u walk) nothing_before
one_path p q r s t u (visiting calculated then) = ((((λ g. refl), tt, tt), tt), ((tt, ((λ g. refl), tt, tt)), (λ h. h), refl))

-- it may occur where n has become another node, even if the first one's children were passed: repeat 3 { descend n to 1; break; }
other_node : {walk : Statement} (p q r s t : _) → IsVisiting 1 1 0 64 S.Skip walk
    → EntersOnce (S.Sequence' p (S.Repeat' 3 q (S.Sequence' r (S.Descend 0 (E.Constant (pos 1))) s S.Break)) t walk) (record nothing_before { passed = with_node none_held 0 })
other_node p q r s t (visiting calculated then) = (((tt, tt), tt), ((tt, ((λ g. refl), tt, tt)), (λ h. h), refl))
