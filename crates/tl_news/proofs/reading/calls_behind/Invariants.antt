use Rattle.std.proofs.Common.{◌≡◌, ◌++◌, map, drop}
use Rattle.tl_news.specs.News.{asked, calls_of}
use Rattle.tl_news.proofs.reading.calls_behind.Given as goal

abbrev pub invariant-loop-call : goal.invariant-loop-call
invariant-loop-call l =
    map asked l.found.items ++ calls_of l.core.seen (drop l.call l.owners) (drop l.call l.core.seen.calls)
    ≡ calls_of l.core.seen (drop l.first l.owners) (drop l.first l.core.seen.calls)
