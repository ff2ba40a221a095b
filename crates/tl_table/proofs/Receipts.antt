-- When two receipts are equal, and which are valid.
use Rattle.std.proofs.Common.{◌≡◌, Bool, sym, ap, ◌∙◌}
use Rattle.std.specs.Prelude.{◌==◌, ◌&&◌, IsTrue}
use Rattle.std.specs.Bool.{Decides}
use Rattle.std.specs.Cmp.Rules.{signed_items}
use Rattle.std.specs.Ordering.{int_eq}
use Rattle.std.proofs.lemmas.Bool.{and_parts}
use Rattle.std.proofs.lemmas.Bool.Decides.{Decides-eqb}
use lib.Pointwise.{pointwise}
use Rattle.tl_table.specs.declared.receipt.Receipt.{Receipt}

pub both_decide : {P Q : Type 0} (a b : Bool) → Decides a P → Decides b Q → Decides (a && b) (P × Q)
both_decide a b p q = ((λ h. let parts = and_parts a b h in (p.0 parts.0, q.0 parts.1)), (λ h. (λ i. p.1 h.0 i && q.1 h.1 i)))

same_parts : (a b : Receipt) → (a.session ≡ b.session) × ((a.epoch ≡ b.epoch) × ((a.call ≡ b.call) × ((a.procedure ≡ b.procedure) × ((a.args.items ≡ b.args.items) × (a.reply.items ≡ b.reply.items))))) → a ≡ b
same_parts a b h = (λ i. record {
  session = h.0 i;
  epoch = h.1.0 i;
  call = h.1.1.0 i;
  procedure = h.1.1.1.0 i;
  args = record { items = h.1.1.1.1.0 i };
  reply = record { items = h.1.1.1.1.1 i };
})

parts_same : (a b : Receipt) → a ≡ b → (a.session ≡ b.session) × ((a.epoch ≡ b.epoch) × ((a.call ≡ b.call) × ((a.procedure ≡ b.procedure) × ((a.args.items ≡ b.args.items) × (a.reply.items ≡ b.reply.items)))))
parts_same a b e = (ap (λ r. r.session) e, (ap (λ r. r.epoch) e, (ap (λ r. r.call) e, (ap (λ r. r.procedure) e, (ap (λ r. r.args.items) e, ap (λ r. r.reply.items) e)))))

-- the derived comparison is equality of receipts
pub receipts_compare : (a b : Receipt) (r : Bool)
    → r ≡ ((a.session == b.session) && ((a.epoch == b.epoch) && ((a.call == b.call) && ((a.procedure == b.procedure) && (pointwise int_eq a.args.items b.args.items && pointwise int_eq a.reply.items b.reply.items)))))
    → (IsTrue r → a ≡ b) × (a ≡ b → IsTrue r)
receipts_compare a b r is =
    let numbers = both_decide (a.procedure == b.procedure) _ (Decides-eqb a.procedure b.procedure) (both_decide (pointwise int_eq a.args.items b.args.items) _ (signed_items a.args.items b.args.items) (signed_items a.reply.items b.reply.items)) in
    let all = both_decide (a.session == b.session) _ (Decides-eqb a.session b.session) (both_decide (a.epoch == b.epoch) _ (Decides-eqb a.epoch b.epoch) (both_decide (a.call == b.call) _ (Decides-eqb a.call b.call) numbers)) in
    ((λ t. same_parts a b (all.0 (sym is ∙ t))), (λ e. is ∙ all.1 (parts_same a b e)))
