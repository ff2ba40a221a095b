-- An epoch that was read back, and found to be that of a core, is one of a store's history.
use Rattle.std.proofs.Common.{◌≡◌, ◌∙◌, ◌⊎◌, inl, inr, ℕ, suc, ◌+◌, ◌<◌, ◌==◌, ◌||◌, pos, Bool, true, false, List, [], ◌∷◌, ◌++◌, length, map, get_or, reverse, refl, sym, ap, subst, arith, Some, slice_get}
use Rattle.std.specs.Prelude.{All}
use Rattle.std.specs.List.{filter_map}
use Rattle.std.proofs.lemmas.Bool.{false≢true}
use Rattle.std.proofs.lemmas.List.{reverse-append}
use Rattle.std.proofs.lemmas.Option.{slice_get-get_or, slice_get_within, get_or_from_slice_get}
use Rattle.tl_tree.specs.Records.{Records}
use Rattle.tl_tree_locking.specs.declared.event.Event.{Event}
use Rattle.tl_tree_locking.specs.declared.event.Event.TheVariants.{Admit, Lock, Free, Done}
use Rattle.tl_tree_locking.specs.History.{is_done, AllDone}
use Rattle.tl_core.specs.Cores.{CoreValue}
use Rattle.tl_core.specs.Reached.{IsReached}
use Rattle.tl_ledger.specs.declared.rows.NodeRow.{NodeRow}
use Rattle.tl_ledger.specs.declared.rows.ReplyRow.{ReplyRow}
use Rattle.tl_ledger.specs.Contents.{Contents}
use Rattle.tl_rows.specs.Rows.{parent_in, fields_in}
use Rattle.tl_store.specs.Closing.{HasReply}
use Rattle.tl_store.specs.Recovered.{IsReplyOf}
use Rattle.tl_compare.specs.declared.reading.EpochRows.{EpochRows}
use Rattle.tl_compare.specs.Epochs.{AreEpochRows, AreOfEpoch, AreWholeRows, AreRepliesOf, ended, ends_of}
use Rattle.tl_store_laws.proofs.Seal.{record_row}
use Rattle.tl_store_history.specs.Sealed.{HasNodes, HasSealed, CountsOn}
use Rattle.tl_store_history.proofs.Kept.{at_longer}

-- ---- each call that is done is among the ends

at_back : {X : Type 0} (xs ys : List X) (n : ℕ) (x : X) → slice_get ys n ≡ Some x → slice_get (xs ++ ys) (length xs + n) ≡ Some x
at_back [] ys n x at = (let same : 0 + n ≡ n = omega arith in ap (slice_get ys) same ∙ at)
at_back (z ∷ xs) ys n x at = (let same : length (z ∷ xs) + n ≡ suc (length xs + n) = omega arith in ap (slice_get (z ∷ xs ++ ys)) same ∙ at_back xs ys n x at)

ends_joined : (xs ys : List Event) → filter_map ended (xs ++ ys) ≡ filter_map ended xs ++ filter_map ended ys
ends_joined [] ys = refl
ends_joined (Admit c ∷ xs) ys = ends_joined xs ys
ends_joined (Lock x c found ∷ xs) ys = ends_joined xs ys
ends_joined (Free x c left ∷ xs) ys = ends_joined xs ys
ends_joined (Done c ∷ xs) ys = ap (λ l. c ∷ l) (ends_joined xs ys)

abbrev IsEndAt : ℕ → List Event → Type 0
IsEndAt c past = (n : ℕ) × (slice_get (filter_map ended (reverse past)) n ≡ Some c)

either : (a b : Bool) → (a || b) ≡ true → (a ≡ true) ⊎ (b ≡ true)
either true b is = inl refl
either false b is = inr is

end_earlier : (c : ℕ) (x : Event) (past : List Event) → IsEndAt c past → IsEndAt c (x ∷ past)
end_earlier c x past found =
    let split = ap (filter_map ended) (reverse-append (x ∷ []) past) ∙ ends_joined (reverse past) (x ∷ []) in
    (found.0, ap (λ l. slice_get l found.0) split ∙ at_longer (filter_map ended (reverse past)) (filter_map ended (x ∷ [])) found.0 c found.1)

end_there : (c : ℕ) (past : List Event) → is_done c past ≡ true → IsEndAt c past
end_there c [] over = absurd (false≢true over)
end_there c (Admit d ∷ past) over = end_earlier c (Admit d) past (end_there c past over)
end_there c (Lock x d found ∷ past) over = end_earlier c (Lock x d found) past (end_there c past over)
end_there c (Free x d left ∷ past) over = end_earlier c (Free x d left) past (end_there c past over)
end_there c (Done d ∷ past) over = elim (either (d == c) (is_done c past) over) [
  | inl here ↦
      let same : d ≡ c = grind (arith, here) in
      let split = ap (filter_map ended) (reverse-append (Done d ∷ []) past) ∙ ends_joined (reverse past) (Done d ∷ []) in
      let ends = filter_map ended (reverse past) in
      (length ends + 0, ap (λ l. slice_get l (length ends + 0)) split ∙ at_back ends (d ∷ []) 0 c (ap Some same))
  | inr before ↦ end_earlier c (Done d) past (end_there c past before)
]

module _ (v : CoreValue) (epoch : ℕ) (rows : List ReplyRow) (are : AreRepliesOf v epoch rows) where
  answered : (call : ℕ) → is_done call v.past ≡ true → HasReply rows call
  answered call over =
      let end = end_there call v.past over in
      let inside : end.0 < length rows = (let l = slice_get_within (ends_of v) end.0 call end.1 in omega (arith, l, are.many)) in
      let none : ReplyRow = get_or rows end.0 (first inside) in
      let at = slice_get-get_or rows end.0 (first inside) inside in
      let is = are.each end.0 call none end.1 at in
      (end.0, none, inside, get_or_from_slice_get rows end.0 none none at, is.call_is)
    where
      first : {n : ℕ} → n < length rows → ReplyRow
      first {n} less = by rows less
        where
          by : (xs : List ReplyRow) → n < length xs → ReplyRow
          by [] none = absurd (omega (arith, none))
          by (x ∷ xs) some = x

  replies_so : All (IsReplyOf v (pos epoch)) rows
  replies_so k d less =
      let inside : k < length (ends_of v) = omega (arith, less, are.many) in
      let call = get_or (ends_of v) k 0 in
      let is = are.each k call (get_or rows k d) (slice_get-get_or (ends_of v) k 0 inside) (slice_get-get_or rows k d less) in record {
        epoch_is = is.epoch_is;
        call = call;
        call_is = is.call_is;
        known = is.replied.known;
        done = is.replied.done;
        reply = is.read_as ∙ ap Some (sym is.replied.same);
      }

rows_fields : (records : Records) → map fields_in (map record_row records) ≡ records
rows_fields [] = refl
rows_fields (r ∷ records) = ap (λ l. r ∷ l) (rows_fields records)

pub compared_sealed : (c : Contents) (epoch : ℕ) (rows : EpochRows) (v : CoreValue) (nodes : List NodeRow) → AreEpochRows c epoch rows → AreOfEpoch rows v → AreWholeRows rows v → HasNodes c epoch nodes
    → map parent_in nodes ≡ map pos v.parents → CountsOn c epoch → IsReached v → AllDone v.past → HasSealed c epoch v
compared_sealed c epoch rows v nodes there are whole has parents counts reached done =
    let replies : AreRepliesOf v epoch rows.replies.items = subst (λ n. AreRepliesOf v n rows.replies.items) there.number are.replies in
    let new = counts there.first there.last there.before there.seal in record {
      rows = record { nodes = nodes; records = map record_row v.opening; procedures = rows.procedures.items; calls = rows.calls.items; turns = rows.turns.items; replies = rows.replies.items };
      there = record {
        first = there.first;
        last = there.last;
        before = there.before;
        seal = there.seal;
        nodes = has;
        procedures = there.procedures;
        new = new.0;
        new_are = new.1;
        calls = there.calls;
        turns = there.turns;
        replies = there.replies;
      };
      right = record {
        parents = parents;
        records = rows_fields v.opening;
        all = whole.all;
        procedures = whole.forms;
        latest_are = whole.latest_are;
        allowed = whole.allowed;
        accepted = whole.accepted;
        epoch_is = rw (sym there.number) are.calls.epoch_is;
        numbered = are.calls.numbered;
        many = are.calls.many;
        calls = are.calls.each;
        turn_rows = rw (sym there.number) whole.turn_rows;
        turns = are.turns.turns;
        replies = replies_so v epoch rows.replies.items replies;
      };
      replied = λ call known. answered v epoch rows.replies.items replies call (done call (omega (arith, known, reached.counted)));
    }
