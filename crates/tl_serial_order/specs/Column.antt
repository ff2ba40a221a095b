-- For each node a call or none.
use Rattle.std.specs.Prelude.{ℕ, Option, None, Some, cond, nat_eq}
use Rattle.tl_serial_order.specs.declared.column.TheConstants.{NO_CALL}

-- the call that an entry denotes
abbrev pub call_in : ℕ → Option ℕ
call_in entry = cond (nat_eq entry NO_CALL) None (Some entry)
