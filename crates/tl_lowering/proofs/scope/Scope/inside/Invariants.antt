-- The meanings so far are those of the part, and the fields.
use Rattle.std.proofs.Common.{◌≡◌, take}
use Rattle.std.specs.Prelude.{map}
use Rattle.tl_lowering.specs.Names.{constant_only, field_before}
use Rattle.tl_lowering.proofs.scope.Scope.inside.Given as goal

abbrev pub invariant-loop-meaning : goal.invariant-loop-meaning
invariant-loop-meaning l = l.meanings.items ≡ map (constant_only l.part) (take l.meaning-index l.self.meanings.items)

abbrev pub invariant-loop-field : goal.invariant-loop-field
invariant-loop-field l = l.fields.items ≡ map (field_before l.part) (take l.field-index l.self.fields.items)
