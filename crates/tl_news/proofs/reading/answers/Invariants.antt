use Rattle.std.proofs.Common.{◌≡◌, ◌++◌, drop}
use Rattle.std.specs.List.{filter_map}
use Rattle.tl_news.specs.News.{answer_at}
use Rattle.tl_news.proofs.reading.answers.Given as goal

abbrev pub invariant-loop-event : goal.invariant-loop-event
invariant-loop-event l =
    l.found.items ++ filter_map (answer_at l.core.seen l.owners) (drop l.event-index l.events) ≡ filter_map (answer_at l.core.seen l.owners) l.events
