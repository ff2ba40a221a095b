use Rattle.std.proofs.Common.{◌≡◌, ◌++◌, map, drop, take}
use Rattle.std.specs.Prelude.{All}
use Rattle.tl_news.specs.News.{HasAccepted, IsWhole, news_value, news_through}
use Rattle.tl_news.proofs.reading.news_since.Given as goal

abbrev pub invariant-loop-closed : goal.invariant-loop-closed
invariant-loop-closed l =
    (map news_value l.epochs.items ++ news_through l.is_over l.place (drop l.closed-index l.unread) l.table.current
    ≡ news_through l.is_over l.mark.place l.unread l.table.current)
    × All HasAccepted l.epochs.items × All IsWhole (take l.closed-index l.unread)
