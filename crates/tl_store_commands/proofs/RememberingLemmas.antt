-- What is remembered of a store's calls.
use Rattle.std.proofs.Common.{◌≡◌, ◌∙◌, inr, ◌+ℤ◌, ℕ, ℤ, pos, List, [], ◌∷◌, map, take, drop, Some, option_map, string_bytes, sym, ap, subst}
use Rattle.std.specs.Prelude.{All, Contains}
use Rattle.std.proofs.lemmas.List.Elements.{All-nil, All-cons, All-head, All-tail, All-take, All-drop, All-contains_itself}
use Rattle.sqlite_value.specs.Order.{Row}
use Rattle.tl_ledger.specs.declared.schema.TheConstants.{CALL, REPLY}
use Rattle.tl_ledger.specs.declared.rows.CallRow.{CallRow}
use Rattle.tl_ledger.specs.declared.rows.ReplyRow.{ReplyRow}
use Rattle.tl_ledger.specs.Contents.{Contents}
use Rattle.tl_ledger.specs.News.{call_columns, reply_columns}
use Rattle.tl_rows.specs.Rows.{numbers_in}
use Rattle.tl_keys.specs.declared.index.KeyIndex.{KeyIndex}
use Rattle.tl_keys.specs.Kept.{KeptValue}
use Rattle.tl_keys.specs.Keys.{AllUnder, Remembers}
use Rattle.tl_keys.proofs.Remembering.{all_more}
use Rattle.tl_store_commands.specs.Remembering.{IsReplyTo, IsKnown}

-- one more call that had a key
pub one_more : (start : KeyIndex) (before : ℕ) (c : Contents) (old new : KeyIndex) (call : CallRow) (reply : ReplyRow) (key : List ℕ) (epoch : ℤ) (values : List ℤ) (kept : KeptValue)
    → IsReplyTo call reply → option_map string_bytes call.key ≡ Some key → Some values ≡ numbers_in (string_bytes reply.reply) → epoch ≡ pos before +ℤ call.epoch
    → kept ≡ record { epoch = epoch; call = call.number; reply = values } → Remembers old new key kept → Contains (c CALL) (call_columns call) → Contains (c REPLY) (reply_columns reply)
    → AllUnder (IsKnown start before c) old → AllUnder (IsKnown start before c) new
one_more start before c old new call reply key epoch values kept replies has_key numbers counted is now is_call is_reply all =
    all_more (IsKnown start before c) old new key kept all (inr (record {
      call = call;
      reply = reply;
      is_call = is_call;
      is_reply = is_reply;
      replies = replies;
      has_key = has_key;
      epoch = ap (λ k. k.epoch) is ∙ counted;
      number = sym (ap (λ k. k.call) is);
      values = sym numbers ∙ ap (λ k. Some k.reply) (sym is);
    })) now

of_map : {X Y : Type 0} (P : Y → Type 0) (f : X → Y) (xs : List X) → All P (map f xs) → All (λ x. P (f x)) xs
of_map P f [] all = All-nil (λ x. P (f x))
of_map P f (x ∷ xs) all = All-cons (λ x. P (f x)) x xs (All-head P (f x) (map f xs) all) (of_map P f xs (All-tail P (f x) (map f xs) all))

-- what was read from any row on is among the rows
pub are_among : {X : Type 0} (f : X → Row) (items : List X) (columns : List Row) (first many : ℕ) → map f items ≡ take many (drop first columns) → All (λ item. Contains columns (f item)) items
are_among f items columns first many is =
    of_map (Contains columns) f items
    (subst (All (Contains columns)) (sym is) (All-take (Contains columns) many (drop first columns) (All-drop (Contains columns) first columns (All-contains_itself columns))))
