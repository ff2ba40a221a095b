use Rattle.std.proofs.Common.{rules, ◌≡◌, ◌≢◌, Option, option_map, sym, subst}
use Rattle.std.proofs.lemmas.Result.{err_from_is_err_and}
use Rattle.serde_json.specs.View.{view}
use Rattle.tl_tree.specs.Reading.{form_at as tree_form_at}
use Rattle.tl_trail.specs.declared.fault.TrailFault.TheVariants.{Memory}
use Rattle.tl_trail.specs.Reading.{form_at, TrailForm}
use Rattle.tl_trail.specs.Raw.{form_with, parts_in, IsUnread}
use Rattle.tl_trail.proofs.TreeOfText.{unread}
use Rattle.tl_trail.proofs.reading.raw_at.Goals as goal

pub returns-in_err-tree-clause-fault : goal.returns-in_err-tree-clause-fault
returns-in_err-tree-clause-fault c =
    let width = c.args.width in
    let members = c.args.members.now in
    let raw = c.in-Some.raw in
    let formed : form_at c.args.width (parts_in c.args.members.now) ≡ option_map (form_with raw) (tree_form_at c.args.width (view c.args.members.now.tree.now)) = search rules in
    let p = err_from_is_err_and c.from_residual-in_err-tree.result c.from_residual-in_err-tree.ensures.1 in
    let wrong : p.0 ≢ Memory → IsUnread c.args.limit (form_at c.args.width (parts_in c.args.members.now)) p.0 =
    λ ne. subst (λ (o : Option TrailForm). IsUnread c.args.limit o p.0) (sym formed) (unread c.args.limit (tree_form_at width (view members.tree.now)) raw c.in_err-tree.field-0.0 p.0 c.in_err-tree.ensures.fault p.2 ne) in
    rw (p.1) wrong
