use Rattle.std.proofs.Common.{◌≡◌, ◌<◌, ◌+◌, ◌∷◌, ◌++◌, ◌∙◌, [], true, length, map, drop, ap, ap₂, sym, subst, arith}
use Rattle.std.specs.Prelude.{All}
use Rattle.std.proofs.lemmas.List.{append_assoc, drop_more, map-append, take_all}
use Rattle.std.proofs.lemmas.List.Elements.{All-nil, All-cons, All-append, All-more}
use Rattle.tl_core.specs.Cores.{CoreState}
use Rattle.tl_core.specs.Reached.{IsReached}
use Rattle.tl_news.specs.News.{HasAccepted, IsWhole, news_value, news_behind, news_through, start_after}
use Rattle.tl_news.proofs.reading.news_since.Goals as goal

pub loop-closed-preserved : goal.loop-closed-preserved
loop-closed-preserved c =
    let came = c.in_ok-epoch_news.field-0 in
    let closed = c.closed-item.result in
    let unread = c.behind-unread.result.now in
    let i = c.loop-closed.closed-index in
    let less : i < length unread = omega (arith, c.loop-closed-test.true) in
    let current = c.args.table.now.current in
    let epochs = c.loop-closed.epochs.items in
    let place = c.loop-closed.place in
    let core = c.core-core.ensures.same in
    let came_is : news_value came ≡ news_behind place closed.number closed.core.seen closed.owners true =
    c.in_ok-epoch_news.ensures.news ∙ (λ j. news_behind place (c.number-number.ensures j) (core j).seen (c.owners-owners.ensures.same j) true) in
    let place_is : c.start_after-place.result ≡ start_after closed.core.seen = c.start_after-place.ensures ∙ ap (λ (k : CoreState). start_after k.seen) core in
    let step = drop_more unread i closed less ∙ ap (λ x. x ∷ drop (i + 1) unread) (sym c.closed-item.is) in
    let whole : IsWhole closed = record { reached = subst (λ (k : CoreState). IsReached k.seen) core c.in_ok-epoch_news.ensures.reached; owned = c.owners-owners.ensures.owned.each } in (
      ap (λ l. l ++ news_through c.args.is_over c.start_after-place.result (drop (i + 1) unread) current) (ap (map news_value) c.in_ok-push.ensures.items ∙ map-append news_value epochs (came ∷ []))
          ∙ append_assoc (map news_value epochs) (news_value came ∷ []) (news_through c.args.is_over c.start_after-place.result (drop (i + 1) unread) current)
          ∙ ap₂ (λ x p. map news_value epochs ++ x ∷ news_through c.args.is_over p (drop (i + 1) unread) current) came_is place_is
          ∙ ap (λ l. map news_value epochs ++ news_through c.args.is_over place l current) (sym step) ∙ c.loop-closed.invariant.0,
      subst (All HasAccepted) (sym c.in_ok-push.ensures.items)
          (All-append HasAccepted epochs (came ∷ []) c.loop-closed.invariant.1 (All-cons HasAccepted came [] c.in_ok-epoch_news.ensures.accepted (All-nil HasAccepted))),
      All-more IsWhole unread i closed less c.loop-closed.invariant.2 (subst IsWhole c.closed-item.is whole),
    )

pub returns-clause-accepted : goal.returns-clause-accepted
returns-clause-accepted c =
    let came = c.in_ok-epoch_news-2.field-0 in
    subst (All HasAccepted) (sym c.in_ok-push-2.ensures.items)
    (All-append HasAccepted c.loop-closed.epochs.items (came ∷ []) c.loop-closed.invariant.1 (All-cons HasAccepted came [] c.in_ok-epoch_news-2.ensures.accepted (All-nil HasAccepted)))

pub returns-clause-whole : goal.returns-clause-whole
returns-clause-whole c =
    let current = c.args.table.now.current in
    let unread = c.behind-unread.result.now in
    let first = c.args.mark.now.epochs in
    let whole : IsWhole current = record { reached = subst (λ (k : CoreState). IsReached k.seen) c.core-core-2.ensures c.in_ok-epoch_news-2.ensures.reached; owned = c.owners-owners-2.ensures.owned.each } in
    let all : All IsWhole unread = subst (All IsWhole) (take_all c.loop-closed.closed-index unread c.loop-closed-test.false) c.loop-closed.invariant.2 in
    let is : unread ≡ drop first c.args.table.now.sealed = c.behind-unread.ensures ∙ ap (drop first) c.sealed.ensures in
    All-append IsWhole (drop first c.args.table.now.sealed) (current ∷ []) (subst (All IsWhole) is all) (All-cons IsWhole current [] whole (All-nil IsWhole))
