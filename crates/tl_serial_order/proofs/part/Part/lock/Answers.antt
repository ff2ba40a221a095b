use Rattle.std.proofs.Common.{◌<◌, ◌∷◌, length, map, set, sym, refl, ap, ◌∙◌, subst, arith}
use Rattle.std.proofs.lemmas.List.{length-map, map-set}
use Rattle.tl_serial_order.specs.declared.part.Mark.TheVariants.{Held}
use Rattle.tl_serial_order.specs.Part.{IsPart, was_locked, is_held}
use Rattle.tl_serial_order.proofs.Marks.{shown, read_at, shows_lock, trues-one_more, trues-room}
use Rattle.tl_serial_order.proofs.part.Part.lock.Goals as goal

pub overflow_add-self : goal.overflow_add-self
overflow_add-self c =
    let ms = c.self.inside.marks.items in
    let hs = map is_held ms in
    let index = c.args.node in
    let size = ap (λ m. length m.locked) c.self.view_is in
    let all = length-map ms was_locked in
    let even = length-map ms is_held in
    let inside : index < length ms = omega (arith, size, all, c.requires) in
    let read = read_at is_held ms index index c.index.result.now c.is_held.result refl inside c.index.ensures c.is_held.ensures in
    let room = trues-room hs index (omega (arith, even, inside)) (sym read ∙ c.if-not-is_held.true) in
    let small = c.self.inside.marks.small in
    let ok = c.self.inside.marks.ok in
    omega (arith, room, even, small, ok.0, ok.1, c.self.invariant)

pub invariant_of-self : goal.invariant_of-self
invariant_of-self c =
    let ms = c.self.inside.marks.items in
    let index = c.args.node in
    let size = ap (λ m. length m.locked) c.self.view_is in
    let all = length-map ms was_locked in
    let even = length-map ms is_held in
    let inside : index < length ms = omega (arith, size, all, c.requires) in
    let read = read_at is_held ms index index c.index.result.now c.is_held.result refl inside c.index.ensures c.is_held.ensures in
    let more = trues-one_more (map is_held ms) index (omega (arith, even, inside)) (sym read ∙ c.if-not-is_held.true) in
    rw (map-set is_held ms index Held) (omega (arith, more, c.self.invariant))

pub returns-then-not-is_held-clause-lock : goal.returns-then-not-is_held-clause-lock
returns-then-not-is_held-clause-lock c done found part =
    let ms = c.self.inside.marks.items in
    let own : IsPart (shown ms) done = subst (λ m. IsPart m done) (sym c.self.view_is) part in
    shows_lock ms c.args.node done found own
