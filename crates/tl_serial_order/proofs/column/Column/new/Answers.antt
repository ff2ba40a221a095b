use Rattle.std.proofs.Common.{◌≡◌, ℕ, zero, suc, ◌∷◌, None, map, replicate, refl, ap, ◌∙◌}
use Rattle.tl_serial_order.specs.Column.{call_in}
use Rattle.tl_serial_order.specs.declared.column.TheConstants.{NO_CALL}
use Rattle.tl_serial_order.proofs.column.Column.new.Goals as goal

all_none : (n : ℕ) → map call_in (replicate n NO_CALL) ≡ replicate n None
all_none zero = refl
all_none (suc n) = ap (λ calls. None ∷ calls) (all_none n)

pub returns : goal.returns
returns c = ap (map call_in) (c.in_ok-vec.ensures.items_if_clones_equal (λ _ e. e)) ∙ all_none c.args.nodes
