use Rattle.std.specs.Prelude.{All, Contains, take}
use Rattle.tl_ledger.specs.declared.schema.TheConstants.{CALL, REPLY}
use Rattle.tl_ledger.specs.Contents.{Contents}
use Rattle.tl_ledger.specs.News.{call_columns, reply_columns}
use Rattle.tl_keys.specs.declared.index.KeyIndex.{KeyIndex}
use Rattle.tl_keys.specs.Keys.{AllUnder}
use Rattle.tl_store_commands.specs.Remembering.{IsKnown, HoldsOn, AreFound}
use Rattle.tl_store_commands.proofs.remembering.remember_calls.Given as goal

-- all that is remembered so far was remembered before, or is in the store; what was remembered lasts on, and of the calls so far those that had a key and a reply are remembered
abbrev pub invariant-loop-number : goal.invariant-loop-number
invariant-loop-number l =
    ((c : Contents) → All (λ call. Contains (c CALL) (call_columns call)) l.calls → All (λ reply. Contains (c REPLY) (reply_columns reply)) l.replies
    → (start : KeyIndex) → AllUnder (IsKnown start l.before c) l.initial.index → AllUnder (IsKnown start l.before c) l.index)
    × HoldsOn (take l.number l.calls) l.initial.index l.index
    × AreFound (take l.number l.calls) l.replies l.index
