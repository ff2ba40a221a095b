use Rattle.std.proofs.Common.{◌≡◌, ◌<◌, ℕ, List, Bool, false, get_or, Some, None, refl, sym, ap, ◌∙◌, inl, inr, arith}
use Rattle.std.proofs.lemmas.Bool.{both_ways, cases_Bool}
use Rattle.tl_tree.specs.Shape.{IsTree, parent}
use Rattle.tl_tree_locking.specs.declared.event.Event.{Event}
use Rattle.tl_tree_locking.specs.Actions.{locked_any}
use Rattle.tl_tree_locking.specs.History.{part_of, is_done}
use Rattle.tl_tree_locking.specs.Order.{stands}
use Rattle.tl_tree_locking.specs.Holders.{holder_of}
use Rattle.tl_tree_locking.specs.Placing.{under_of}
use Rattle.tl_serial_order.specs.Checked.{IsChecked}
use Rattle.tl_serial_order.specs.declared.checked.CheckedOrder.{CheckedOrder}
use Rattle.tl_serial_order.proofs.CheckedLemmas.{stands_begun, is_other, first_lock, not_under, under_again, under_first, holder_open}
use Rattle.tl_serial_order.proofs.checked.CheckedOrder.may_lock.Goals as goal
use Rattle.tl_serial_order.proofs.checked.CheckedOrder.may_lock.Goals.{then-node-eq0-via-then-node-eq0, then-node-eq0-via-else-node-eq0+then-ne}

-- an open call has locked a node exactly if it occurs in the order
begun_as : (parents : List ℕ) → IsTree parents → (past : List Event) (o : CheckedOrder) → IsChecked parents o past → (call : ℕ) (b : Bool) → b ≡ stands call o.kept.order.calls
    → is_done call past ≡ false → locked_any (part_of call past) ≡ b
begun_as parents tree past o checked call b is open' =
    sym (stands_begun parents tree past checked.legal call open') ∙ ap (λ calls. stands call calls) (sym checked.kept.order) ∙ sym is

pub returns-then-not-stands : goal.returns-then-not-stands
returns-then-not-stands c past found checked =
    let shape = c.args.shape.now in
    let call = c.args.call in
    let is_open = c.is_open.ensures shape past checked in (
      λ t.
          let open' = is_open.0 t in
          let begun = begun_as shape c.requires.tree past c.args.self.now checked call c.stands.result c.stands.ensures open'.1 ∙ c.if-not-stands.true in
          record { may_happen = open'; permitted = first_lock shape c.requires.tree past checked.legal call c.args.node found begun },
      λ k. is_open.1 k.may_happen,
    )

-- a call that has begun may not lock the root, nor a node whose parent it doesn't hold
pub returns-then-node-eq0 : goal.returns-then-node-eq0
returns-then-node-eq0 c past found checked =
    let shape = c.args.shape.now in
    let call = c.args.call in
    let legal = checked.legal in
    let nowhere : 0 < c.args.node → holder_of past (parent shape c.args.node) ≡ Some call → ⊥ =
    λ pos holds. elim c.then-node-eq0.branch [
      | then-node-eq0-via-then-node-eq0 w ↦ omega (arith, pos, w.if-node-eq0.true)
      | then-node-eq0-via-else-node-eq0+then-ne w ↦
          let size = checked.kept.holders (parent shape c.args.node) (rw (checked.even.size.holders, sym w.parent.ensures.parent) w.parent.ensures.inside) in
          let is : w.holder.result ≡ holder_of past (parent shape c.args.node) = w.holder.ensures ∙ ap (λ k. get_or c.args.self.now.kept.holders k None) w.parent.ensures.parent ∙ size in
          (is_other w.ne.result w.holder.result call w.ne.ensures).0 w.if-ne.true (is ∙ holds)
    ] in (
      λ no'. absurd (both_ways false refl no'),
      λ k.
          let begun = begun_as shape c.requires.tree past c.args.self.now checked call c.stands.result c.stands.ensures k.may_happen.1 ∙ c.if-not-stands.false in
          absurd (not_under shape c.requires.tree past legal call c.args.node found begun nowhere k.permitted),
    )

pub returns : goal.returns
returns c past found checked =
    let shape = c.args.shape.now in
    let call = c.args.call in
    let node = c.args.node in
    let legal = checked.legal in
    let above = c.parent.ensures.parent in
    let size = checked.kept.holders (parent shape node) (rw (checked.even.size.holders, sym above) c.parent.ensures.inside) in
    let is : c.holder.result ≡ holder_of past (parent shape node) = c.holder.ensures ∙ ap (λ k. get_or c.args.self.now.kept.holders k None) above ∙ size in
    let holds = sym is ∙ (is_other c.ne.result c.holder.result call c.ne.ensures).1 c.if-ne.false in
    let last : c.under.result ≡ under_of shape past node = c.under.ensures ∙ checked.kept.under node (rw checked.even.size.under c.requires.node) in
    let test = is_other c.ne-2.result c.under.result call c.ne-2.ensures in (
      λ t. record {
        may_happen = holder_open shape past legal call (parent shape node) holds;
        permitted = under_first shape c.requires.tree past legal call node found (omega (arith, c.if-node-eq0.false)) holds (λ again. test.0 t (last ∙ again));
      },
      λ k.
          let begun = begun_as shape c.requires.tree past c.args.self.now checked call c.stands.result c.stands.ensures k.may_happen.1 ∙ c.if-not-stands.false in
          elim (cases_Bool c.ne-2.result) [
            | inl t ↦ t
            | inr f ↦ absurd (under_again shape c.requires.tree past legal call node found begun (sym last ∙ test.1 f) k.permitted)
          ],
    )
