-- What isn't stored yet, after all epochs since a table was read.
use Rattle.std.proofs.Common.{◌≡◌, ℕ, Bool, true, false, List, [], ◌∷◌, ◌++◌, length, map, refl, sym, ap, subst, arith, option_map}
use Rattle.std.specs.Prelude.{All}
use Rattle.std.proofs.lemmas.List.{append-nil}
use Rattle.std.proofs.lemmas.List.Elements.{All-head, All-tail}
use Rattle.tl_tree_locking.specs.History.{records_now}
use Rattle.tl_core.specs.Cores.{CoreValue, opened_after}
use Rattle.tl_table.specs.Epochs.{EpochValue, seen}
use Rattle.tl_table.specs.Tables.{IsNext}
use Rattle.tl_news.specs.declared.news.EpochNews.{EpochNews}
use Rattle.tl_news.specs.News.{NewsValue, news_value, news_behind, news_through, end_of, HasAccepted, IsWhole}
use Rattle.tl_ledger.specs.Contents.{Contents}
use Rattle.tl_pending.specs.declared.pending.Pending.{Pending}
use Rattle.tl_pending.specs.Pendings.{counted, Adds, AddsAll}
use Rattle.tl_recover.specs.Later.{ask_of, Later}
use Rattle.tl_journal_laws.specs.Unstored.{AreFew, IsPendingOf, AreLater, core_after}
use Rattle.tl_journal_laws.proofs.Step.{few_counted, goes_on, goes_over}

pub heads : (x y : NewsValue) (xs ys : List NewsValue) → x ∷ xs ≡ y ∷ ys → (x ≡ y) × (xs ≡ ys)
heads x y xs ys same = (let h : x ≡ y = cc in h, let t : xs ≡ ys = cc in t)

-- there were no more rows before
few_before : (came : EpochNews) (old new : Pending) → Adds came old new → AreFew new.rows → AreFew old.rows
few_before came old new adds few =
    let enough = few_counted (option_map (λ x. x.items) came.records) (counted came old.rows) adds.rows old new adds.seal few in record {
      procedures = let f = enough.procedures in omega (arith, f);
      calls = let f = enough.calls in omega (arith, f);
      turns = let f = enough.turns in omega (arith, f);
      replies = let f = enough.replies in omega (arith, f);
      seals = enough.seals;
    }

pub few_before_all : (epochs : List EpochNews) (old new : Pending) → AddsAll epochs old new → AreFew new.rows → AreFew old.rows
few_before_all [] old new same few = subst (λ (p : Pending). AreFew p.rows) same few
few_before_all (came ∷ epochs) old new adds few = few_before came old adds.0 adds.1 (few_before_all epochs adds.0 new adds.2 few)

one_epoch : (c : Contents) (over : Bool) (epochs : List EpochNews) (current : EpochValue) (v : CoreValue) (old new : Pending) → IsPendingOf c old v → Later v (seen current) → IsWhole current
    → map news_value epochs ≡ news_behind (end_of v) current.number (seen current) current.owners over ∷ [] → All HasAccepted epochs → AddsAll epochs old new → AreFew new.rows
    → IsPendingOf c new (core_after over (seen current))
one_epoch c over [] current v old new pending later whole is accepted adds few = absurd (let l = ap length is in omega arith)
one_epoch c over (came ∷ other ∷ more) current v old new pending later whole is accepted adds few = absurd (let l = ap length is in omega arith)
one_epoch c false (came ∷ []) current v old new pending later whole is accepted adds few =
    let first = (heads (news_value came) _ [] [] is).0 in
    subst (λ p. IsPendingOf c p (seen current)) (sym adds.2)
    (goes_on c v (seen current) current.number current.owners came old adds.0 pending later whole.reached whole.owned (subst (λ (p : Pending). AreFew p.rows) adds.2 few) (All-head HasAccepted came [] accepted) adds.1 first)
one_epoch c true (came ∷ []) current v old new pending later whole is accepted adds few =
    let first = (heads (news_value came) _ [] [] is).0 in
    subst (λ p. IsPendingOf c p (opened_after (seen current)).seen) (sym adds.2)
    (goes_over c v (seen current) current.number current.owners came old adds.0 pending later whole.reached whole.owned (subst (λ (p : Pending). AreFew p.rows) adds.2 few) (All-head HasAccepted came [] accepted) adds.1 first)

pub through : (c : Contents) (over : Bool) (epochs : List EpochNews) (unread : List EpochValue) (current : EpochValue) (v : CoreValue) (old new : Pending) → IsPendingOf c old v
    → AreLater v unread current → All IsWhole (unread ++ current ∷ []) → map news_value epochs ≡ news_through over (end_of v) unread current → All HasAccepted epochs → AddsAll epochs old new → AreFew new.rows
    → IsPendingOf c new (core_after over (seen current))
through c over epochs [] current v old new pending are whole is accepted adds few =
    one_epoch c over epochs current v old new pending are (All-head IsWhole current [] whole) is accepted adds few
through c over [] (e ∷ es) current v old new pending are whole is accepted adds few = absurd (let l = ap length is in omega arith)
through c over (came ∷ epochs) (e ∷ es) current v old new pending are whole is accepted adds few =
    let both = heads (news_value came) _ (map news_value epochs) _ is in
    let here_whole = All-head IsWhole e (es ++ current ∷ []) whole in
    let here = few_before_all epochs adds.0 new adds.2 few in
    through c over epochs es current (opened_after (seen e)).seen adds.0 new
    (goes_over c v (seen e) e.number e.owners came old adds.0 pending are.0 here_whole.reached here_whole.owned here (All-head HasAccepted came epochs accepted) adds.1 both.0)
    are.1 (All-tail IsWhole e (es ++ current ∷ []) whole) both.1 (All-tail HasAccepted came epochs accepted) adds.2 few

pub next_later : (n : ℕ) (one next : EpochValue) → IsNext n (seen one).parents (records_now (seen one).past (seen one).opening) (seen one).procedures next → Later (opened_after (seen one)).seen (seen next)
next_later n one next is = record {
  parents = is.parents;
  opening = is.opening;
  procedures = is.procedures;
  calls = (map ask_of (seen next).calls, refl);
  past = ((seen next).past, sym (append-nil (seen next).past));
}
