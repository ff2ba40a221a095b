-- A core without calls, taken up again.
use Rattle.std.proofs.Common.{◌≡◌, ℕ, ◌<◌, ◌≤◌, pos, List, [], ◌∷◌, length, map, reverse, get_or, refl, sym, ap, ◌∙◌, subst, arith, Some, slice_get}
use Rattle.std.proofs.lemmas.List.{nil_from_length}
use Rattle.std.proofs.lemmas.Option.{slice_get_within}
use Rattle.tl_tree_locking.specs.declared.event.Event.{Event}
use Rattle.tl_tree_locking.specs.declared.event.Event.TheVariants.{Admit, Lock, Free, Done}
use Rattle.tl_tree_locking.specs.History.{caller, admits, records_now, InTurn}
use Rattle.tl_core.specs.Cores.{CoreValue, opened_after}
use Rattle.tl_core.specs.Reached.{IsReached}
use Rattle.tl_ledger.specs.declared.rows.CallRow.{CallRow}
use Rattle.tl_ledger.specs.declared.rows.ReplyRow.{ReplyRow}
use Rattle.tl_ledger.specs.declared.schema.TheConstants.{SEAL}
use Rattle.tl_ledger.specs.Contents.{Contents}
use Rattle.tl_rows.specs.Rows.{turn_bytes, all_turn_bytes}
use Rattle.tl_store.specs.Recovered.{IsCallOf, IsReplyOf, IsMadeAgain}
use Rattle.tl_store_laws.specs.Growing.{AreRowsOf, IsLedgerOf}
use Rattle.tl_store_laws.proofs.Stay.{calls_longer}

-- where no call was admitted nothing has happened
no_events : (past : List Event) → InTurn past → admits past ≡ 0 → past ≡ []
no_events [] in_turn none = refl
no_events (Admit c ∷ past) in_turn none = absurd (omega arith)
no_events (Lock x c found ∷ past) in_turn none = absurd (let here = in_turn.0.0 in omega (arith, here, none))
no_events (Free x c left ∷ past) in_turn none = absurd (let here = in_turn.0.0 in omega (arith, here, none))
no_events (Done c ∷ past) in_turn none = absurd (let here = in_turn.0.0 in omega (arith, here, none))

idle : (v : CoreValue) → IsReached v → length v.calls ≡ 0 → v.past ≡ []
idle v reached none = no_events v.past reached.sound.legal.in_turn (sym reached.counted ∙ none)

module _ (c : Contents) (v w : CoreValue) (old : IsLedgerOf c v) (made : IsMadeAgain v w) (reached_v : IsReached v) (reached_w : IsReached w) (none : w.calls ≡ []) where
  abbrev next : CoreValue
  next = (opened_after w).seen

  none_before : length v.calls ≡ 0
  none_before =
      let more = calls_longer v w made.later in
      let now = ap length none in
      omega (arith, more, now)

  no_rows : length old.rows.calls ≡ 0
  no_rows = old.right.many ∙ none_before

  past_w : w.past ≡ []
  past_w = idle w reached_w (ap length none)

  past_v : v.past ≡ []
  past_v = idle v reached_v none_before

  no_reply : (k : ℕ) (d : ReplyRow) → k < length old.rows.replies → IsReplyOf next (pos (length (c SEAL))) (get_or old.rows.replies k d)
  no_reply k d less =
      let known = (old.right.replies k d less).known in
      let count = none_before in
      absurd (omega (arith, known, count))

  no_call : (k : ℕ) (row : CallRow) → slice_get old.rows.calls k ≡ Some row → IsCallOf next k row
  no_call k row at =
      let inside = slice_get_within old.rows.calls k row at in
      let long = no_rows in
      absurd (omega (arith, inside, long))

  right : AreRowsOf (length (c SEAL)) old.rows next
  right = record {
    parents = old.right.parents ∙ ap (map pos) (sym made.later.parents);
    records = old.right.records ∙ sym made.later.opening ∙ sym (ap (λ past. records_now past w.opening) past_w);
    all = old.right.all;
    procedures = old.right.procedures;
    latest_are = made.procedures ∙ old.right.latest_are;
    allowed = old.right.allowed;
    accepted = old.right.accepted;
    epoch_is = old.right.epoch_is;
    numbered = old.right.numbered;
    many = no_rows;
    calls = no_call;
    turn_rows = old.right.turn_rows;
    turns = old.right.turns ∙ ap (λ past. turn_bytes (reverse (map caller past))) past_v;
    replies = no_reply;
  }

  pub kept : IsLedgerOf c next
  kept = record { rows = old.rows; there = old.there; right = right }
