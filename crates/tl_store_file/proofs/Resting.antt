-- A store that was opened or created is at rest.
use Rattle.std.proofs.Common.{◌≡◌, ℕ, zero, suc, ◌<◌, List, [], ◌∷◌, map, replicate, get_or, refl, ap, ◌∙◌, arith}
use Rattle.sqlite_trees.specs.declared.schema.Object.{Object}
use Rattle.sqlite_trees.specs.declared.store.Shape.TheVariants.{Table, Absent}
use Rattle.sqlite_store.specs.declared.catalog.Wanted.{Wanted}
use Rattle.sqlite_store.specs.Catalog.{shape_at, wanted_of, Describes}
use Rattle.tl_ledger.specs.declared.schema.TheConstants.{TABLES}
use Rattle.tl_store_file.specs.Listed.{ListsTables}

shapes_listed : (objects : List Object) → map (λ (w : Wanted). w.shape) (map wanted_of objects) ≡ map (λ (o : Object). o.shape) objects
shapes_listed [] = refl
shapes_listed (o ∷ os) = ap (λ l. o.shape ∷ l) (shapes_listed os)

among : (n t : ℕ) → t < n → get_or (replicate n Table) t Absent ≡ Table
among zero t less = absurd (omega arith)
among (suc n) zero less = refl
among (suc n) (suc t) less = among n t (omega arith)

pub lists_tables : (schema : List Wanted) (objects : List Object) → Describes schema objects → map (λ (o : Object). o.shape) objects ≡ replicate TABLES Table → ListsTables schema
lists_tables schema objects describes shapes t less =
    ap (λ s. shape_at s t) describes ∙ ap (λ l. get_or l t Absent) (shapes_listed objects ∙ shapes) ∙ among TABLES t less
