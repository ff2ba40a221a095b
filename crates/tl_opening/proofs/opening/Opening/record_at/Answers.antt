use Rattle.std.proofs.Common.{◌≡◌, ◌<◌, List, length, sym, ap, ◌∙◌, subst}
use Rattle.std.specs.Arc.{arc_value}
use Rattle.tl_tree.specs.Records.{record_at}
use Rattle.tl_tree.specs.Trees.{TreeValue}
use Rattle.tl_opening.specs.declared.frees.Left.{Left}
use Rattle.tl_opening.specs.Opening.{records_behind, epochs_of}
use Rattle.tl_opening.proofs.BehindLemmas.{length-behind}
use Rattle.tl_opening.proofs.opening.Opening.record_at.Goals as goal

inside_base : (base now : TreeValue) (epochs : List (List Left)) (node : _) → records_behind base.records epochs ≡ now.records → node < length now.records → node < length base.records
inside_base base now epochs node is inside = subst (λ n. node < n) (ap length (sym is) ∙ length-behind base.records epochs) inside

pub record_at-requires : goal.record_at-requires
record_at-requires c =
    let base = arc_value c.self.inside.base in
    let now_is = ap (λ (t : TreeValue). t.records) c.self.view_is in
    subst (λ (t : TreeValue). c.args.node < length t.records) (sym c.deref-in-None.ensures) (inside_base base c.args.self.now (epochs_of c.self.inside.left.items) c.args.node now_is c.requires)

pub returns-in-Some : goal.returns-in-Some
returns-in-Some c =
    let base = arc_value c.self.inside.base in
    let now_is = ap (λ (t : TreeValue). t.records) c.self.view_is in
    let inside = inside_base base c.args.self.now (epochs_of c.self.inside.left.items) c.args.node now_is c.requires in
    sym (c.in-Some.ensures base.records inside) ∙ ap (λ hs. record_at (records_behind base.records (epochs_of hs)) c.args.node) c.deref.ensures.value
    ∙ ap (λ t. record_at t c.args.node) now_is
