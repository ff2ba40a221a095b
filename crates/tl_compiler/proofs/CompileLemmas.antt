-- Lists that are built element by element, and how they relate to a text.
use Rattle.std.proofs.Common.{◌≡◌, ℕ, List, [], ◌∷◌, ◌++◌, map, refl, ap}
use Rattle.std.specs.Prelude.{IsUtf8}
use Rattle.std.specs.List.{All, AllZip}
use Rattle.tl_lowering.specs.declared.program.Procedure.{Procedure}
use Rattle.tl_lowering.specs.Reading.{IsProgram}
use Rattle.tl_lowering.specs.Sound.{IsInOrder}
use Rattle.tl_compiler.specs.declared.compiler.Compiled.{Compiled}
use Rattle.tl_compiler.specs.Compiled.{Compiles, AreCompiled}

pub one_more_each : {A B : Type 0} (R : A → B → Type 0) (xs : List A) (ys : List B) (x : A) (y : B) → AllZip R xs ys → R x y → AllZip R (xs ++ x ∷ []) (ys ++ y ∷ [])
one_more_each R [] [] x y h r = (r, tt)
one_more_each R [] (b ∷ ys) x y h r = absurd h
one_more_each R (a ∷ xs) [] x y h r = absurd h
one_more_each R (a ∷ xs) (b ∷ ys) x y h r = (h.0, one_more_each R xs ys x y h.1 r)

pub map_more : {A B : Type 0} (f : A → B) (xs : List A) (x : A) → map f (xs ++ x ∷ []) ≡ map f xs ++ f x ∷ []
map_more f [] x = refl
map_more f (y ∷ xs) x = ap (λ l. f y ∷ l) (map_more f xs x)

pub compiles : (text : List ℕ) (sources : List Procedure) (made : List Compiled) → IsUtf8 text → IsProgram text sources → All IsInOrder sources → AreCompiled sources made → Compiles text made
compiles text sources made utf8 program order each = record { utf8 = utf8; sources = sources; program = program; in_order = order; each = each }
