-- A block is no turn of a `for each`.
use Rattle.std.proofs.Common.{◌≡◌, ℕ, ◌/◌, List, [], length, Bool, true, false, Option, None, refl, ap, ◌∙◌}
use Rattle.std.specs.List.{All}
use Rattle.std.proofs.lemmas.List.Elements.{All-nil, All-cons, All-head, All-take}
use Rattle.tl_syntax.specs.declared.parsed.Declaration.{Declaration}
use Rattle.tl_syntax.specs.declared.parsed.Statement.{Statement as TextStatement}
use Rattle.tl_lowering.specs.declared.loops.Repetition.{Repetition}
use Rattle.tl_lowering.specs.declared.loops.Repetition.TheVariants as R
use Rattle.tl_lowering.specs.declared.program.Expression.{Expression}
use Rattle.tl_lowering.specs.declared.program.Statement.{Statement}
use Rattle.tl_lowering.specs.declared.program.Statement.TheVariants as S
use Rattle.tl_lowering.specs.Choosing.{IsKept, IsTurnBody}
use Rattle.tl_lowering.specs.declared.readers.Readers.{Readers}
use Rattle.tl_lowering.specs.Failing.{IsRenewed, not_renewed, renewed}
use Rattle.tl_lowering.specs.Names.{Names}
use Rattle.tl_lowering.specs.Naming.{then, IsHalved, none, one, more}
use Rattle.tl_lowering.specs.Passing.{walks}
use Rattle.tl_lowering.specs.Reading.{IsAtOffset, at, IsBlock, block, AreStatements, no_more, next, let_rest, let_told, let_else, lock_rest, lock_else}

-- the lowering of a block isn't a `for each`'s turn, since the block's statements have offsets
abbrev is_put : Statement → Bool
is_put S.Skip = true
is_put (S.Sequence' p a q b) = is_put a
is_put (S.At' offset p a) = true
is_put other = false

put : {offset : ℕ} {a b : Statement} → IsAtOffset offset a b → is_put b ≡ true
put at = refl

are_put : {before : List Declaration} {readers : Readers} {names : Names} {xs : List TextStatement} {parts : List Statement} → AreStatements before readers names xs parts → All (λ s. is_put s ≡ true) parts
are_put no_more = All-nil (λ s. is_put s ≡ true)
are_put (next {c = c} {parts = parts} s m o rest leaves) = All-cons (λ z. is_put z ≡ true) _ parts (put o) (are_put rest)
are_put (let_rest {a = a} form fresh room is fits told body o) = All-cons (λ z. is_put z ≡ true) a [] (put o) (All-nil (λ z. is_put z ≡ true))
are_put (let_else {a = a} form fresh room is fits other leaves body o) = All-cons (λ z. is_put z ≡ true) a [] (put o) (All-nil (λ z. is_put z ≡ true))
are_put (let_told {a = a} form fresh room is fits told other body o) = All-cons (λ z. is_put z ≡ true) a [] (put o) (All-nil (λ z. is_put z ≡ true))
are_put (lock_rest {a = a} form place other body o) = All-cons (λ z. is_put z ≡ true) a [] (put o) (All-nil (λ z. is_put z ≡ true))
are_put (lock_else {a = a} form place other leaves body o) = All-cons (λ z. is_put z ≡ true) a [] (put o) (All-nil (λ z. is_put z ≡ true))

halved_put : {whole : Statement} {parts : List Statement} → IsHalved whole parts → All (λ s. is_put s ≡ true) parts → is_put whole ≡ true
halved_put none all = refl
halved_put (one {a}) all = All-head (λ s. is_put s ≡ true) a [] all
halved_put (more {xs = parts} long s t then) all = halved_put s (All-take (λ z. is_put z ≡ true) (length parts / 2) parts all)

no_walk : (s : Statement) → is_put s ≡ true → walks s ≡ None
no_walk (S.Sequence' p (S.Assign x n) q b) e = cc
no_walk other e = refl

pub block_is_no_walk : {before : List Declaration} {readers : Readers} {names : Names} {xs : List TextStatement} {s : Statement} → IsBlock before readers names xs s → walks s ≡ None
block_is_no_walk {s = s} (block are halved) = no_walk s (halved_put halved (are_put are))

-- nor is it one with a mark behind it
renewed_is_no_walk : {c : Option ℕ} {a b : Statement} → IsRenewed c a b → walks a ≡ None → walks b ≡ None
renewed_is_no_walk not_renewed e = e
renewed_is_no_walk (renewed {r = r} {a = a} (then {p} {q})) e = behind p q r _ a
  where
    behind : (p q : _) (v : ℕ) (n : Expression) (s : Statement) → walks (S.Sequence' p s q (S.Assign v n)) ≡ None
    behind p q v n (S.Assign x m) = refl
    behind p q v n other = refl

kept_is_no_walk : (readers : Readers) (r : Repetition) (a b : Statement) → IsKept readers r a b → walks a ≡ None → walks b ≡ None
kept_is_no_walk readers (R.Times w) a b k e = ap walks k ∙ e
kept_is_no_walk readers (R.UpTo n w) a b k e = ap walks k ∙ e
kept_is_no_walk readers (R.Children v) a b k e = renewed_is_no_walk k e

pub turn_is_no_walk : {before : List Declaration} {readers : Readers} {names : Names} {r : Repetition} {xs : List TextStatement} {s : Statement} → IsTurnBody before readers names r xs s → walks s ≡ None
turn_is_no_walk {readers = readers} {r = r} {s = s} t = kept_is_no_walk readers r t.read s t.kept_is (block_is_no_walk t.read_is)
