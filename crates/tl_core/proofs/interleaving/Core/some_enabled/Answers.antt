use Rattle.std.proofs.Common.{◌≡◌, length, refl, sym, ◌∙◌, arith}
use Rattle.std.proofs.lemmas.Option.{slice_get_read}
use Rattle.tl_core.specs.Cores.{world_of}
use Rattle.std.proofs.lemmas.Bool.{ltb-true, ltb-false}
use Rattle.tl_core.proofs.StoredCalls.{same_item}
use Rattle.tl_core.proofs.EnabledLemmas.{least_stays, least_moves, least_least, none_least, is_enabled, not_enabled, whole_least}
use Rattle.tl_core.proofs.interleaving.Core.some_enabled.Goals.{in-Some, in-None}
use Rattle.tl_core.proofs.interleaving.Core.some_enabled.Goals.{then-is_less+then-unwrap_or, else-is_less, else-is_less-via-then-is_less+else-unwrap_or, else-is_less-via-else-is_less}
use Rattle.tl_core.proofs.interleaving.Core.some_enabled.Goals as goal

pub loop-current-preserved : goal.loop-current-preserved
loop-current-preserved c =
    let at = slice_get_read c.deref-current-items.result.now _ c.loop-current.current-index c.current-item.result refl c.loop-current-test.true c.current-item.is in
    let was : c.match-least.least ≡ c.loop-current.least = elim c.match-least.branch [ in-Some x ↦ x.least-is ∙ sym x.in-Some.is | in-None x ↦ x.least-is ] in
    elim c.if-is_less.branch [
      | then-is_less+then-unwrap_or w ↦
          rw w.least-is (least_moves (world_of c.args.self.now.seen) c.deref-current-items.result.now c.loop-current.current-index c.loop-current.least c.current-item.result at c.loop-current.invariant
          (is_enabled w.enabled.result w.enabled.ensures.enabled (sym w.unwrap_or.ensures ∙ w.if-unwrap_or.true))
          (λ e same. elim c.match-least.branch [
            | in-Some x ↦
                let other : x.in-Some.other ≡ e = same_item (sym x.in-Some.is ∙ same) in
                let less = ltb-true c.current-item.result.call x.in-Some.other (sym x.is_less-is ∙ w.if-is_less.true) in
                omega arith
            | in-None x ↦ let none = sym x.in-None.is ∙ same in absurd cc
          ]))
      | else-is_less w ↦
          rw (w.least-is ∙ was) (least_stays (world_of c.args.self.now.seen) c.deref-current-items.result.now c.loop-current.current-index c.loop-current.least c.current-item.result at c.loop-current.invariant
          (λ enabled. elim w.else-is_less.branch [
            | else-is_less-via-then-is_less+else-unwrap_or y ↦
                absurd (not_enabled y.enabled.result (y.enabled.ensures.known.1 enabled.is_open.0) y.enabled.ensures.enabled (sym y.unwrap_or.ensures ∙ y.if-unwrap_or.false) enabled)
            | else-is_less-via-else-is_less y ↦ elim c.match-least.branch [
              | in-Some x ↦
                  let le = ltb-false c.current-item.result.call x.in-Some.other (sym x.is_less-is ∙ y.if-is_less.false) in
                  (x.in-Some.other, x.in-Some.is, omega arith)
              | in-None x ↦ let both = sym x.is_less-is ∙ y.if-is_less.false in absurd cc
            ]
          ]))
    ]

pub returns-clause-least : goal.returns-clause-least
returns-clause-least c =
    let full : c.loop-current.current-index ≡ length c.deref-current-items.result.now = let end = c.loop-current.auto.current-index-end in omega arith in
    let least = rw (← c.self.view_is) at c.loop-current.invariant in
    rw (← c.self.view_is) (least_least _ _ _ _ _ _ _ c.self.invariant c.loop-current.least (whole_least _ _ _ _ _ c.deref-current-items.ensures.value full least))

pub returns-clause-none : goal.returns-clause-none
returns-clause-none c =
    let full : c.loop-current.current-index ≡ length c.deref-current-items.result.now = let end = c.loop-current.auto.current-index-end in omega arith in
    let least = rw (← c.self.view_is) at c.loop-current.invariant in
    rw (← c.self.view_is) (none_least _ _ _ _ _ _ _ c.self.invariant c.loop-current.least (whole_least _ _ _ _ _ c.deref-current-items.ensures.value full least))
