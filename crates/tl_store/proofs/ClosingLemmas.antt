-- What is added after the stored rows.
use Rattle.std.proofs.Common.{◌≡◌, ◌≢◌, ℕ, ◌+◌, ◌*◌, ◌/◌, ◌<◌, ℤ, pos, List, [], ◌∷◌, ◌++◌, length, map, drop, reverse, true, Some, string_bytes, refl, sym, ap, ◌∙◌, below_more, inl, inr, arith}
use Rattle.std.specs.Prelude.{◌⊎◌, All, Any}
use Rattle.std.specs.List.{drop-map}
use Rattle.std.proofs.lemmas.List.{length-append, reverse-append, reverse-reverse, get_or_append_left}
use Rattle.std.proofs.lemmas.List.Elements.{All-nil, All-push}
use Rattle.std.proofs.lemmas.List.Quantifiers.{Any-push}
use Rattle.std.proofs.Math.Seq.{drop-append_seam}
use Rattle.tl_tree_locking.specs.declared.event.Event.{Event}
use Rattle.tl_tree_locking.specs.History.{caller, is_done}
use Rattle.tl_tree_locking.specs.World.{reply_of}
use Rattle.tl_core.specs.Cores.{CoreValue, world_of}
use Rattle.tl_ledger.specs.declared.rows.ReplyRow.{ReplyRow}
use Rattle.tl_rows.specs.Rows.{numbers_in, turn_bytes}
use Rattle.tl_store.specs.Closing.{HasReply, IsLateReply, AreLateReplies}
use Rattle.tl_store.proofs.TurnLemmas.{turns_joined}

-- each turn has two bytes
pub two_bytes : (turns : List ℕ) → length (turn_bytes turns) ≡ 2 * length turns
two_bytes [] = refl
two_bytes (t ∷ turns) = let rest = two_bytes turns in omega arith

-- the turns after the first ones
pub behind : (past : List Event) (turns later : List ℕ) (bytes late : List ℕ) (first : ℕ) → bytes ≡ turn_bytes turns → map caller past ≡ later ++ reverse turns
    → map caller (reverse past) ≡ reverse (map caller past) → first ≡ length bytes / 2 → late ≡ turn_bytes (map caller (drop first (reverse past)))
    → bytes ++ late ≡ turn_bytes (reverse (map caller past))
behind past turns later bytes late first is took turned first_is rest =
    let all : reverse (map caller past) ≡ turns ++ reverse later = ap reverse took ∙ reverse-append later (reverse turns) ∙ ap (λ l. l ++ reverse later) (reverse-reverse turns) in
    let long : length bytes ≡ 2 * length turns = ap length is ∙ two_bytes turns in
    let count : first ≡ length turns = omega arith in
    let left : map caller (drop first (reverse past)) ≡ reverse later =
    sym (drop-map caller first (reverse past)) ∙ ap (drop first) (turned ∙ all) ∙ ap (λ n. drop n (turns ++ reverse later)) count ∙ drop-append_seam turns (reverse later) in
    ap (λ l. l ++ late) is ∙ ap (λ l. turn_bytes turns ++ l) (rest ∙ ap turn_bytes left) ∙ sym (turns_joined turns (reverse later)) ∙ ap turn_bytes (sym all)

-- ---- replies, call by call

pub late_none : (v : CoreValue) (epoch : ℤ) (stored : List ReplyRow) → AreLateReplies 0 v epoch stored []
late_none v epoch stored = record { each = All-nil (IsLateReply v epoch stored); whole = λ c lt. absurd (omega arith) }

-- the next call has a stored reply, or isn't done
pub late_stays : (n : ℕ) (v : CoreValue) (epoch : ℤ) (stored late : List ReplyRow) → AreLateReplies n v epoch stored late → (is_done n v.past ≡ true → HasReply stored n)
    → AreLateReplies (n + 1) v epoch stored late
late_stays n v epoch stored late so_far here = record {
  each = so_far.each;
  whole = below_more (λ c. is_done c v.past ≡ true → HasReply stored c ⊎ HasReply late c) n so_far.whole (λ done. inl (here done));
}

any_more : {X : Type 0} (P : X → Type 0) (xs : List X) (y : X) → Any P xs → Any P (xs ++ y ∷ [])
any_more P xs y found =
    let long = length-append xs (y ∷ []) in
    (found.0, found.1, omega (arith, found.2), get_or_append_left xs (y ∷ []) found.1 found.0 found.2 ∙ found.3, found.4)

kept : (stored late : List ReplyRow) (row : ReplyRow) (c : ℕ) → HasReply stored c ⊎ HasReply late c → HasReply stored c ⊎ HasReply (late ++ row ∷ []) c
kept stored late row c (inl found) = inl found
kept stored late row c (inr found) = inr (any_more (λ r. r.call ≡ pos c) late row found)

-- the next call has a reply that isn't stored
pub late_push : (n : ℕ) (v : CoreValue) (epoch : ℤ) (stored late : List ReplyRow) (row : ReplyRow) → AreLateReplies n v epoch stored late → n < length v.calls → (HasReply stored n → ⊥)
    → row.epoch ≡ epoch → row.call ≡ pos n → is_done n v.past ≡ true → numbers_in (string_bytes row.reply) ≡ Some (reply_of (world_of v) n) → AreLateReplies (n + 1) v epoch stored (late ++ row ∷ [])
late_push n v epoch stored late row so_far known missing epoch_is call_is done reply = record {
  each = All-push (IsLateReply v epoch stored) late row so_far.each
      (record { right = record { epoch_is = epoch_is; call = n; call_is = call_is; known = known; done = done; reply = reply }; late = missing });
  whole = below_more (λ c. is_done c v.past ≡ true → HasReply stored c ⊎ HasReply (late ++ row ∷ []) c) n
      (λ c lt is_done. kept stored late row c (so_far.whole c lt is_done)) (λ done. inr (Any-push (λ r. r.call ≡ pos n) late row call_is));
}

-- no row is of the call
pub has_none : (rows : List ReplyRow) (c : ℕ) → All (λ r. r.call ≢ pos c) rows → HasReply rows c → ⊥
has_none rows c others found = others found.0 found.1 found.2 (ap (λ r. r.call) found.3 ∙ found.4)
