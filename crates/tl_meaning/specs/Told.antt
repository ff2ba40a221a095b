-- The events of a run: its locks, writes, frees and emitted values.
use Rattle.std.specs.Prelude.{List, [], ◌∷◌}
use Rattle.tl_tree_locking.specs.declared.action.Action.{Action}
use Rattle.tl_tree_locking.specs.declared.action.Action.TheVariants as did

abbrev pub told : List Action → List Action
told [] = []
told (did.Plain ∷ more) = told more
told (did.Read x f v ∷ more) = told more
told (did.End ∷ more) = told more
told (did.Lock x r ∷ more) = did.Lock x r ∷ told more
told (did.Write x f v ∷ more) = did.Write x f v ∷ told more
told (did.Free x r ∷ more) = did.Free x r ∷ told more
told (did.Emit v ∷ more) = did.Emit v ∷ told more
