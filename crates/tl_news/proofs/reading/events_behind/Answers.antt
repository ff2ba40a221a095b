use Rattle.std.proofs.Common.{◌≡◌, drop, reverse, ap, ◌∙◌}
use Rattle.std.proofs.lemmas.List.Elements.{All-same}
use Rattle.tl_news.specs.News.{IsEnd, events_from}
use Rattle.tl_news.proofs.Ends.{ends_behind}
use Rattle.tl_news.proofs.reading.events_behind.Goals as goal

pub returns-clause-ends : goal.returns-clause-ends
returns-clause-ends c =
    let v = c.args.core.now.seen in
    let is : c.behind.result.now ≡ events_from c.args.first v =
    c.behind.ensures ∙ ap (drop c.args.first) (c.events.ensures.events ∙ ap reverse c.history.ensures.past) in
    All-same (IsEnd v) c.behind.result.now (events_from c.args.first v) is (ends_behind v c.args.first c.lemma_is_sound.ensures.sound c.lemma_is_sound.ensures.counted)
