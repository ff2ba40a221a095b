-- The orders of a closed table, and the tree that its calls left.
use Rattle.std.proofs.Common.{◌≡◌, ◌-◌, ℕ, zero, suc, List, [], ◌∷◌, length, Bool, true, false, Some, refl, sym, ap, arith}
use Rattle.std.specs.Prelude.{slice_get}
use Rattle.std.proofs.lemmas.Option.{none-some, same_Some}
use Rattle.serde_json.specs.Data.{Data}
use Rattle.tl_serial_order.specs.Order.{OrderValue}
use Rattle.tl_json.specs.Lists.{calls_data, orders_data}
use Rattle.tl_table.specs.Chains.{calls_in}
use Rattle.tl_table.specs.Epochs.{EpochValue, seen}
use Rattle.tl_commands.specs.Closing.{orders_form, sessions_given, tree_after}
use Rattle.tl_commands.specs.Scripted.{tree_now}

abbrev pub order_form : OrderValue → Data
order_form o = calls_data (calls_in o)

pub all_form : (orders : List (List ℕ)) → orders_data orders ≡ orders_form true orders
all_form orders = refl

pub none_form : (orders : List (List ℕ)) → length orders ≡ 0 → (b : Bool) → orders_data orders ≡ orders_form b orders
none_form [] none true = refl
none_form [] none false = refl
none_form (o ∷ os) none b = absurd (omega (arith, none))

pub last_tree : (es : List EpochValue) (n : ℕ) (e : EpochValue) → n ≡ length es - 1 → slice_get es n ≡ Some e → tree_now (seen e) ≡ tree_after es
last_tree [] n e is at = absurd (none-some e at)
last_tree (x ∷ []) zero e is at = ap (λ y. tree_now (seen y)) (sym (same_Some x e at))
last_tree (x ∷ []) (suc n) e is at = absurd (omega (arith, is))
last_tree (x ∷ y ∷ es) zero e is at = absurd (omega (arith, is))
last_tree (x ∷ y ∷ es) (suc n) e is at = last_tree (y ∷ es) n e (omega (arith, is)) at

pub last_sessions : (es : List EpochValue) (n : ℕ) (e : EpochValue) → n ≡ length es - 1 → slice_get es n ≡ Some e → e.sessions ≡ sessions_given es
last_sessions [] n e is at = absurd (none-some e at)
last_sessions (x ∷ []) zero e is at = ap (λ (y : EpochValue). y.sessions) (sym (same_Some x e at))
last_sessions (x ∷ []) (suc n) e is at = absurd (omega (arith, is))
last_sessions (x ∷ y ∷ es) zero e is at = absurd (omega (arith, is))
last_sessions (x ∷ y ∷ es) (suc n) e is at = last_sessions (y ∷ es) n e (omega (arith, is)) at
