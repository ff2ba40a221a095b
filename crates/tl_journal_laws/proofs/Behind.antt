-- What is pending leads to a history.
use Rattle.std.proofs.Common.{◌≡◌, Bool, true, false, List, [], ◌∷◌, ◌++◌, length, map, refl, sym, ap, ◌∙◌, subst, append_assoc, arith}
use Rattle.std.specs.Prelude.{All}
use Rattle.std.proofs.lemmas.List.{append-nil}
use Rattle.std.proofs.lemmas.List.Elements.{All-head, All-tail}
use Rattle.tl_tree.specs.Trees.{TreeValue}
use Rattle.tl_tree_locking.specs.History.{AllDone}
use Rattle.tl_core.specs.Cores.{CoreValue, opened_after}
use Rattle.tl_ledger.specs.Contents.{Contents}
use Rattle.tl_ledger.specs.News.{IsMarked, after_news}
use Rattle.tl_news.specs.declared.news.EpochNews.{EpochNews}
use Rattle.tl_news.specs.News.{news_value, HasAccepted, IsWhole, news_behind, news_through, end_of}
use Rattle.tl_pending.specs.declared.pending.Pending.{Pending}
use Rattle.tl_pending.specs.Pendings.{Adds, AddsAll, IsEmpty}
use Rattle.tl_recover.specs.Later.{Later}
use Rattle.tl_rows.specs.Batches.{batch_of, after_batch}
use Rattle.tl_store_history.specs.History.{PastEpoch, HasHistory}
use Rattle.tl_store_history.proofs.Whole.{history_again}
use Rattle.tl_table.specs.Epochs.{EpochValue, seen}
use Rattle.tl_journal_laws.specs.Unstored.{AreFew, IsPendingBehind, AreLater, core_after, over_cores, core_of}
use Rattle.tl_journal_laws.proofs.Resting.{same_without_news, begins, stored}
use Rattle.tl_journal_laws.proofs.Step.{goes_on, goes_over, history_open, history_over}
use Rattle.tl_journal_laws.proofs.Through.{heads, few_before_all}

pub behind_begins : (c : Contents) (t : TreeValue) (es : List PastEpoch) (v : CoreValue) (p : Pending) → HasHistory c t es v → IsMarked c p.rows → p.records.items ≡ v.opening → IsEmpty p.news → IsPendingBehind c p t es v
behind_begins c t es v p h marked records empty = record {
  pending = begins c v p h.ledger marked records empty;
  history = history_again c (after_batch c (batch_of p.news)) (same_without_news c p.news empty) refl t es v h;
}

pub behind_stored : (c : Contents) (t : TreeValue) (es : List PastEpoch) (v : CoreValue) (old new : Pending) → IsPendingBehind c old t es v → IsEmpty new.news → new ≡ record old { news = new.news }
    → IsPendingBehind (after_news c old.news) new t es v
behind_stored c t es v old new behind empty rest = record {
  pending = stored c v old new behind.pending empty rest;
  history = history_again (after_news c old.news) (after_batch (after_news c old.news) (batch_of new.news)) (same_without_news (after_news c old.news) new.news empty) refl t es v behind.history;
}

open_behind : (c : Contents) (t : TreeValue) (es : List PastEpoch) (v : CoreValue) (e : EpochValue) (came : EpochNews) (old new : Pending) → IsPendingBehind c old t es v → Later v (seen e) → IsWhole e → AreFew new.rows
    → HasAccepted came → Adds came old new → news_value came ≡ news_behind (end_of v) e.number (seen e) e.owners false → IsPendingBehind c new t es (seen e)
open_behind c t es v e came old new behind later whole few accepted adds is = record {
  pending = goes_on c v (seen e) e.number e.owners came old new behind.pending later whole.reached whole.owned few accepted adds is;
  history = history_open c v (seen e) e.number e.owners came old new behind.pending later whole.reached whole.owned few accepted adds t es is behind.history;
}

over_behind : (c : Contents) (t : TreeValue) (es : List PastEpoch) (v : CoreValue) (e : EpochValue) (came : EpochNews) (old new : Pending) (behind : IsPendingBehind c old t es v) → Later v (seen e) → IsWhole e
    → AllDone (seen e).past → AreFew new.rows → HasAccepted came → Adds came old new → news_value came ≡ news_behind (end_of v) e.number (seen e) e.owners true
    → IsPendingBehind c new t (es ++ record { added = behind.history.added; core = seen e } ∷ []) (opened_after (seen e)).seen
over_behind c t es v e came old new behind later whole done few accepted adds is = record {
  pending = goes_over c v (seen e) e.number e.owners came old new behind.pending later whole.reached whole.owned few accepted adds is;
  history = history_over c v (seen e) e.number e.owners came old new behind.pending later whole.reached whole.owned few accepted adds t es is done behind.history;
}

-- so many epochs more, these among them
abbrev Leads : Contents → Pending → TreeValue → List PastEpoch → List CoreValue → CoreValue → Type 0
Leads c new t es cores next = (more : List PastEpoch) × (map core_of more ≡ cores) × IsPendingBehind c new t (es ++ more) next

last_behind : (c : Contents) (t : TreeValue) (es : List PastEpoch) (over : Bool) (epochs : List EpochNews) (current : EpochValue) (v : CoreValue) (old new : Pending) → IsPendingBehind c old t es v → Later v (seen current)
    → IsWhole current → All (λ (w : CoreValue). AllDone w.past) (over_cores over [] current) → map news_value epochs ≡ news_behind (end_of v) current.number (seen current) current.owners over ∷ []
    → All HasAccepted epochs → AddsAll epochs old new → AreFew new.rows → Leads c new t es (over_cores over [] current) (core_after over (seen current))
last_behind c t es over [] current v old new behind later whole done is accepted adds few = absurd (let l = ap length is in omega arith)
last_behind c t es over (came ∷ other ∷ more) current v old new behind later whole done is accepted adds few = absurd (let l = ap length is in omega arith)
last_behind c t es false (came ∷ []) current v old new behind later whole done is accepted adds few =
    let first = (heads (news_value came) _ [] [] is).0 in
    let here = open_behind c t es v current came old adds.0 behind later whole (subst (λ (p : Pending). AreFew p.rows) adds.2 few) (All-head HasAccepted came [] accepted) adds.1 first in
    ([], refl, subst (λ l. IsPendingBehind c new t l (seen current)) (sym (append-nil es)) (subst (λ p. IsPendingBehind c p t es (seen current)) (sym adds.2) here))
last_behind c t es true (came ∷ []) current v old new behind later whole done is accepted adds few =
    let first = (heads (news_value came) _ [] [] is).0 in
    let e : PastEpoch = record { added = behind.history.added; core = seen current } in
    let here = over_behind c t es v current came old adds.0 behind later whole (All-head (λ (w : CoreValue). AllDone w.past) (seen current) [] done) (subst (λ (p : Pending). AreFew p.rows) adds.2 few)
    (All-head HasAccepted came [] accepted) adds.1 first in
    (e ∷ [], refl, subst (λ p. IsPendingBehind c p t (es ++ e ∷ []) (opened_after (seen current)).seen) (sym adds.2) here)

over_more : (over : Bool) (e : EpochValue) (es : List EpochValue) (current : EpochValue) → over_cores over (e ∷ es) current ≡ seen e ∷ over_cores over es current
over_more true e es current = refl
over_more false e es current = refl

pub through_behind : (c : Contents) (t : TreeValue) (es : List PastEpoch) (over : Bool) (epochs : List EpochNews) (unread : List EpochValue) (current : EpochValue) (v : CoreValue) (old new : Pending)
    → IsPendingBehind c old t es v → AreLater v unread current → All IsWhole (unread ++ current ∷ []) → All (λ (w : CoreValue). AllDone w.past) (over_cores over unread current)
    → map news_value epochs ≡ news_through over (end_of v) unread current → All HasAccepted epochs → AddsAll epochs old new → AreFew new.rows
    → Leads c new t es (over_cores over unread current) (core_after over (seen current))
through_behind c t es over epochs [] current v old new behind are whole done is accepted adds few =
    last_behind c t es over epochs current v old new behind are (All-head IsWhole current [] whole) done is accepted adds few
through_behind c t es over [] (e ∷ unread) current v old new behind are whole done is accepted adds few = absurd (let l = ap length is in omega arith)
through_behind c t es over (came ∷ epochs) (e ∷ unread) current v old new behind are whole done is accepted adds few =
    let both = heads (news_value came) _ (map news_value epochs) _ is in
    let rest_done = subst (All (λ (w : CoreValue). AllDone w.past)) (over_more over e unread current) done in
    let one : PastEpoch = record { added = behind.history.added; core = seen e } in
    let here = over_behind c t es v e came old adds.0 behind are.0 (All-head IsWhole e (unread ++ current ∷ []) whole) (All-head (λ (w : CoreValue). AllDone w.past) (seen e) (over_cores over unread current) rest_done)
    (few_before_all epochs adds.0 new adds.2 few) (All-head HasAccepted came epochs accepted) adds.1 both.0 in
    let rest = through_behind c t (es ++ one ∷ []) over epochs unread current (opened_after (seen e)).seen adds.0 new here are.1 (All-tail IsWhole e (unread ++ current ∷ []) whole)
    (All-tail (λ (w : CoreValue). AllDone w.past) (seen e) (over_cores over unread current) rest_done) both.1 (All-tail HasAccepted came epochs accepted) adds.2 few in (
      one ∷ rest.0,
      ap (λ l. seen e ∷ l) rest.1 ∙ sym (over_more over e unread current),
      subst (λ l. IsPendingBehind c new t l (core_after over (seen current))) (append_assoc es (one ∷ []) rest.0) rest.2,
    )
