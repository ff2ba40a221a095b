use Rattle.std.proofs.Common.{map, take}
use Rattle.tl_news.specs.News.{asked}
use Rattle.tl_pending.specs.Pendings.{admitted_in, admitted_from, Appends}
use Rattle.tl_pending.proofs.pending.push_calls.Given as goal

-- the rows of the first calls were appended
abbrev pub invariant-loop-index : goal.invariant-loop-index
invariant-loop-index l = Appends admitted_in (admitted_from l.claims l.epoch l.first (map asked (take l.index l.calls))) l.initial.rows.items l.rows.items
