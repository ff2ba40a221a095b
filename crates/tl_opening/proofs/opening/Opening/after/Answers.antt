use Rattle.std.proofs.Common.{◌≡◌, ℕ, ◌∷◌, ◌++◌, [], List, ap, ap₂, ◌∙◌}
use Rattle.std.proofs.lemmas.List.{map-append}
use Rattle.std.specs.Arc.{arc_value}
use Rattle.tl_tree.specs.Records.{Records}
use Rattle.tl_tree.specs.Trees.{TreeValue}
use Rattle.tl_tree_locking.specs.History.{records_now}
use Rattle.tl_opening.specs.Opening.{records_behind, epoch_of, epochs_of}
use Rattle.tl_opening.proofs.BehindLemmas.{behind-push}
use Rattle.tl_opening.proofs.opening.Opening.after.Goals as goal

abbrev tree_of : List ℕ → Records → TreeValue
tree_of parents records = record { parents = parents; records = records }

pub returns : goal.returns
returns c =
    let base = arc_value c.self.inside.base in
    let olds = epochs_of c.self.inside.left.items in
    let lefts : epochs_of c.push.new.self.items ≡ olds ++ c.in_ok-frees.frees ∷ [] =
    ap epochs_of c.in_ok-push.ensures.items ∙ map-append epoch_of c.in_ok-left.left.items (c.in_ok-new.field-0 ∷ [])
    ∙ ap₂ (λ xs x. xs ++ x ∷ []) (c.in_ok-left.ensures ∙ ap epochs_of c.deref.ensures.value) c.in_ok-new.ensures.ok in
    let behind : records_behind base.records (epochs_of c.push.new.self.items) ≡ records_now c.args.history.now.past (records_behind base.records olds) =
    ap (records_behind base.records) lefts ∙ behind-push base.records olds c.in_ok-frees.frees ∙ c.in_ok-frees.ensures (records_behind base.records olds) in
    rw (← c.self.view_is) (ap₂ tree_of (ap (λ t. t.parents) c.in_ok-base.ensures) (ap (λ t. records_behind t.records (epochs_of c.push.new.self.items)) c.in_ok-base.ensures ∙ behind))
