use Rattle.std.proofs.Common.{◌<◌, ◌∷◌, length, map, set, sym, refl, ap, ◌∙◌, subst, arith}
use Rattle.std.proofs.lemmas.List.{length-map, map-set}
use Rattle.tl_serial_order.specs.declared.part.Mark.TheVariants.{Freed}
use Rattle.tl_serial_order.specs.Part.{IsPart, was_locked, is_held}
use Rattle.tl_serial_order.proofs.Marks.{shown, read_at, shows_free, trues-one_less}
use Rattle.tl_serial_order.proofs.part.Part.free.Goals as goal

pub overflow_sub-self : goal.overflow_sub-self
overflow_sub-self c =
    let ms = c.self.inside.marks.items in
    let index = c.args.node in
    let size = ap (λ m. length m.locked) c.self.view_is in
    let all = length-map ms was_locked in
    let inside : index < length ms = omega (arith, size, all, c.requires) in
    let read = read_at is_held ms index index c.index.result.now c.is_held.result refl inside c.index.ensures c.is_held.ensures in
    let less = trues-one_less (map is_held ms) index (sym read ∙ c.if-is_held.true) in
    omega (arith, less, c.self.invariant)

pub invariant_of-self : goal.invariant_of-self
invariant_of-self c =
    let ms = c.self.inside.marks.items in
    let index = c.args.node in
    let size = ap (λ m. length m.locked) c.self.view_is in
    let all = length-map ms was_locked in
    let inside : index < length ms = omega (arith, size, all, c.requires) in
    let read = read_at is_held ms index index c.index.result.now c.is_held.result refl inside c.index.ensures c.is_held.ensures in
    let less = trues-one_less (map is_held ms) index (sym read ∙ c.if-is_held.true) in
    rw (map-set is_held ms index Freed) (omega (arith, less, c.self.invariant))

pub returns-then-is_held-clause-free : goal.returns-then-is_held-clause-free
returns-then-is_held-clause-free c done left part =
    let ms = c.self.inside.marks.items in
    let index = c.args.node in
    let size = ap (λ m. length m.locked) c.self.view_is in
    let all = length-map ms was_locked in
    let inside : index < length ms = omega (arith, size, all, c.requires) in
    let read = read_at is_held ms index index c.index.result.now c.is_held.result refl inside c.index.ensures c.is_held.ensures in
    let own : IsPart (shown ms) done = subst (λ m. IsPart m done) (sym c.self.view_is) part in
    shows_free ms index done left inside (sym read ∙ c.if-is_held.true) own
