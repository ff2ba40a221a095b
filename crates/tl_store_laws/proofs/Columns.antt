-- What columns say of a row.
use Rattle.std.proofs.Common.{◌≡◌, ℕ, zero, suc, ◌+◌, ◌<◌, ◌≤◌, ℤ, pos, List, [], ◌∷◌, ◌++◌, length, map, drop, get_or, refl, sym, ap, ap₂, ◌∙◌, subst, arith, Option, Some, None, slice_get, string_bytes}
use Rattle.std.specs.Prelude.{All}
use Rattle.std.proofs.lemmas.List.{length-map, get_or-map}
use Rattle.std.proofs.lemmas.Option.{slice_get-get_or}
use Rattle.sqlite_value.specs.declared.value.Value.{Value}
use Rattle.sqlite_value.specs.declared.value.Value.TheVariants.{Null, Int, Text, Blob}
use Rattle.sqlite_value.specs.Order.{Row}
use Rattle.tl_procedures.specs.Names.{number_of}
use Rattle.tl_core.specs.Cores.{CoreValue}
use Rattle.tl_ledger.specs.declared.rows.NodeRow.{NodeRow}
use Rattle.tl_ledger.specs.declared.rows.RecordRow.{RecordRow}
use Rattle.tl_ledger.specs.declared.rows.ProcedureRow.{ProcedureRow}
use Rattle.tl_ledger.specs.declared.rows.CallRow.{CallRow}
use Rattle.tl_ledger.specs.declared.rows.TurnRow.{TurnRow}
use Rattle.tl_ledger.specs.declared.rows.ReplyRow.{ReplyRow}
use Rattle.tl_ledger.specs.declared.schema.TheConstants.{SEAL}
use Rattle.tl_ledger.specs.Contents.{Contents}
use Rattle.tl_ledger.specs.News.{node_columns, record_columns, procedure_columns, call_columns, turn_columns, reply_columns, key_column}
use Rattle.tl_rows.specs.Rows.{parent_in, fields_in, procedure_form, numbers_in, IsTurnRow, all_turn_bytes, AreNumbered}
use Rattle.tl_store.specs.declared.stored.Stored.{Stored}
use Rattle.tl_store.specs.Stored.{AreStored}
use Rattle.tl_store.specs.Recovered.{IsCallOf, IsReplyOf, AreOfCore, IsStoreOf}
use Rattle.tl_store_laws.specs.Growing.{RowsValue, AreRowsOf, AreRowsIn, IsLedgerOf}

-- where columns tell a form, equal columns have equal forms
told : {A B : Type 0} (columns : A → Row) (form : A → B) → ((x y : A) → columns x ≡ columns y → form x ≡ form y)
    → (xs ys : List A) → map columns xs ≡ map columns ys → map form xs ≡ map form ys
told columns form tells [] [] same = refl
told columns form tells [] (y ∷ ys) same = absurd (let l = ap length same in omega arith)
told columns form tells (x ∷ xs) [] same = absurd (let l = ap length same in omega arith)
told columns form tells (x ∷ xs) (y ∷ ys) same =
    let heads : columns x ≡ columns y = cc in
    let tails : map columns xs ≡ map columns ys = cc in
    ap₂ (λ a l. a ∷ l) (tells x y heads) (told columns form tells xs ys tails)

same_fields : (a b : List ℤ) → map Int a ≡ map Int b → a ≡ b
same_fields [] [] same = refl
same_fields [] (y ∷ b) same = absurd (let l = ap length same in omega arith)
same_fields (x ∷ a) [] same = absurd (let l = ap length same in omega arith)
same_fields (x ∷ a) (y ∷ b) same =
    let heads : x ≡ y = cc in
    let tails : map Int a ≡ map Int b = cc in
    ap₂ (λ z l. z ∷ l) heads (same_fields a b tails)

node_told : (x y : NodeRow) → node_columns x ≡ node_columns y → parent_in x ≡ parent_in y
node_told x y same = cc

record_told : (x y : RecordRow) → record_columns x ≡ record_columns y → fields_in x ≡ fields_in y
record_told x y same = let tails : map Int x.fields ≡ map Int y.fields = cc in same_fields x.fields y.fields tails

procedure_told : (x y : ProcedureRow) → procedure_columns x ≡ procedure_columns y → procedure_form x ≡ procedure_form y
procedure_told x y same =
    let names : string_bytes x.name ≡ string_bytes y.name = cc in
    let codes : x.container.items ≡ y.container.items = cc in
    ap₂ (λ a b. (a, b)) names codes

-- what is compared of a call's row
pub record CallTold : Type 0 where
  pub epoch : ℤ
  pub number : ℤ
  pub procedure : List ℕ
  pub arguments : List ℕ

abbrev pub call_told_of : CallRow → CallTold
call_told_of r = record { epoch = r.epoch; number = r.number; procedure = string_bytes r.procedure; arguments = string_bytes r.arguments }

call_told : (x y : CallRow) → call_columns x ≡ call_columns y → call_told_of x ≡ call_told_of y
call_told x y same =
    let epochs : x.epoch ≡ y.epoch = cc in
    let numbers : x.number ≡ y.number = cc in
    let names : string_bytes x.procedure ≡ string_bytes y.procedure = cc in
    let texts : string_bytes x.arguments ≡ string_bytes y.arguments = cc in
    λ i. record { epoch = epochs i; number = numbers i; procedure = names i; arguments = texts i }

abbrev pub turn_told_of : TurnRow → ℤ × List ℕ
turn_told_of r = (r.epoch, r.calls.items)

turn_told : (x y : TurnRow) → turn_columns x ≡ turn_columns y → turn_told_of x ≡ turn_told_of y
turn_told x y same =
    let epochs : x.epoch ≡ y.epoch = cc in
    let calls : x.calls.items ≡ y.calls.items = cc in
    ap₂ (λ a b. (a, b)) epochs calls

pub record ReplyTold : Type 0 where
  pub epoch : ℤ
  pub call : ℤ
  pub reply : List ℕ

abbrev pub reply_told_of : ReplyRow → ReplyTold
reply_told_of r = record { epoch = r.epoch; call = r.call; reply = string_bytes r.reply }

reply_told : (x y : ReplyRow) → reply_columns x ≡ reply_columns y → reply_told_of x ≡ reply_told_of y
reply_told x y same =
    let epochs : x.epoch ≡ y.epoch = cc in
    let calls : x.call ≡ y.call = cc in
    let texts : string_bytes x.reply ≡ string_bytes y.reply = cc in
    λ i. record { epoch = epochs i; call = calls i; reply = texts i }

-- the item at a place of a list whose forms are those of another list
same_at : {A B : Type 0} (form : A → B) (xs ys : List A) (n : ℕ) (y : A) → map form xs ≡ map form ys → slice_get ys n ≡ Some y → (x : A) × (slice_get xs n ≡ Some x) × (form x ≡ form y)
same_at form [] [] n y same at = absurd cc
same_at form (x ∷ xs) [] n y same at = absurd cc
same_at form [] (z ∷ ys) n y same at = absurd (let l = ap length same in omega arith)
same_at form (x ∷ xs) (z ∷ ys) zero y same at =
    let here : z ≡ y = cc in
    let heads : form x ≡ form z = cc in
    (x, refl, heads ∙ ap form here)
same_at form (x ∷ xs) (z ∷ ys) (suc n) y same at =
    let tails : map form xs ≡ map form ys = cc in
    same_at form xs ys n y tails at

-- what is so of each item of a list, by its form, is so of each item of the other
all_told : {A B : Type 0} (P : A → Type 0) (form : A → B) → ((x y : A) → form x ≡ form y → P x → P y) → (xs ys : List A) → map form xs ≡ map form ys → All P xs → All P ys
all_told P form passes xs ys same all k d less =
    let found = same_at form xs ys k (get_or ys k d) same (slice_get-get_or ys k d less) in
    let long : length xs ≡ length ys = sym (length-map xs form) ∙ ap length same ∙ length-map ys form in
    let at : slice_get xs k ≡ Some (get_or xs k d) = slice_get-get_or xs k d (omega arith) in
    let is : get_or xs k d ≡ found.0 = (let both : Some (get_or xs k d) ≡ Some found.0 = sym at ∙ found.1 in cc) in
    passes found.0 (get_or ys k d) found.2 (subst P is (all k d (omega arith)))

turn_bytes_told : (xs ys : List TurnRow) → map turn_told_of xs ≡ map turn_told_of ys → all_turn_bytes xs ≡ all_turn_bytes ys
turn_bytes_told [] [] same = refl
turn_bytes_told [] (y ∷ ys) same = absurd (let l = ap length same in omega arith)
turn_bytes_told (x ∷ xs) [] same = absurd (let l = ap length same in omega arith)
turn_bytes_told (x ∷ xs) (y ∷ ys) same =
    let heads : turn_told_of x ≡ turn_told_of y = cc in
    let tails : map turn_told_of xs ≡ map turn_told_of ys = cc in
    ap₂ (λ a l. a ++ l) (ap (λ t. t.1) heads) (turn_bytes_told xs ys tails)

numbers_told : (xs ys : List CallRow) → map call_told_of xs ≡ map call_told_of ys → map (λ (r : CallRow). r.number) xs ≡ map (λ (r : CallRow). r.number) ys
numbers_told [] [] same = refl
numbers_told [] (y ∷ ys) same = absurd (let l = ap length same in omega arith)
numbers_told (x ∷ xs) [] same = absurd (let l = ap length same in omega arith)
numbers_told (x ∷ xs) (y ∷ ys) same =
    let heads : call_told_of x ≡ call_told_of y = cc in
    let tails : map call_told_of xs ≡ map call_told_of ys = cc in
    ap₂ (λ a l. a ∷ l) (ap (λ t. t.number) heads) (numbers_told xs ys tails)

call_passes : (v : CoreValue) (n : ℕ) (x y : CallRow) → call_told_of x ≡ call_told_of y → IsCallOf v n x → IsCallOf v n y
call_passes v n x y same is = record {
  procedure = ap (λ (t : CallTold). number_of v.procedures t.procedure) (sym same) ∙ is.procedure;
  code = is.code;
  args = ap (λ (t : CallTold). numbers_in t.arguments) (sym same) ∙ is.args;
}

reply_passes : (v : CoreValue) (epoch : ℤ) (x y : ReplyRow) → reply_told_of x ≡ reply_told_of y → IsReplyOf v epoch x → IsReplyOf v epoch y
reply_passes v epoch x y same is = record {
  epoch_is = ap (λ (t : ReplyTold). t.epoch) (sym same) ∙ is.epoch_is;
  call = is.call;
  call_is = ap (λ (t : ReplyTold). t.call) (sym same) ∙ is.call_is;
  known = is.known;
  done = is.done;
  reply = ap (λ (t : ReplyTold). numbers_in t.reply) (sym same) ∙ is.reply;
}

turn_passes : (epoch : ℤ) (x y : TurnRow) → turn_told_of x ≡ turn_told_of y → IsTurnRow epoch x → IsTurnRow epoch y
turn_passes epoch x y same is = record {
  epoch_is = ap (λ (t : ℤ × List ℕ). t.0) (sym same) ∙ is.epoch_is;
  turns = is.turns;
  bytes = ap (λ (t : ℤ × List ℕ). t.1) (sym same) ∙ is.bytes;
}

epoch_passes : (epoch : ℤ) (x y : CallRow) → call_told_of x ≡ call_told_of y → x.epoch ≡ epoch → y.epoch ≡ epoch
epoch_passes epoch x y same is = ap (λ (t : CallTold). t.epoch) (sym same) ∙ is

module _ (c : Contents) (v : CoreValue) (r : RowsValue) (there : AreRowsIn c r) (right : AreRowsOf (length (c SEAL)) r v) (s : Stored) (stored : AreStored c s) where
  abbrev epoch : ℕ
  epoch = length (c SEAL)

  same_epoch : epoch ≡ s.marks.seals
  same_epoch = stored.marked.seals

  calls : map call_told_of r.calls ≡ map call_told_of s.calls.items
  calls = told call_columns call_told_of call_told r.calls s.calls.items ((there.behind stored.sealed stored.is_last).calls ∙ sym stored.calls)

  turns : map turn_told_of r.turns ≡ map turn_told_of s.turns.items
  turns = told turn_columns turn_told_of turn_told r.turns s.turns.items ((there.behind stored.sealed stored.is_last).turns ∙ sym stored.turns)

  replies : map reply_told_of r.replies ≡ map reply_told_of s.replies.items
  replies = told reply_columns reply_told_of reply_told r.replies s.replies.items ((there.behind stored.sealed stored.is_last).replies ∙ sym stored.replies)

  as_many : length r.calls ≡ length s.calls.items
  as_many = sym (length-map r.calls call_told_of) ∙ ap length calls ∙ length-map s.calls.items call_told_of

  pub are_of_core : AreOfCore s v
  are_of_core = record {
    parents = sym (told node_columns parent_in node_told r.nodes s.nodes.items (sym there.nodes ∙ stored.nodes)) ∙ right.parents;
    records = sym (told record_columns fields_in record_told r.records s.records.items (sym there.records ∙ stored.records)) ∙ right.records;
    all = right.all;
    procedures = sym (told procedure_columns procedure_form procedure_told r.procedures s.procedures.items (sym there.procedures ∙ stored.procedures)) ∙ right.procedures;
    latest_are = right.latest_are;
    allowed = right.allowed;
    accepted = right.accepted;
    epoch = subst (λ e. All (λ (x : CallRow). x.epoch ≡ pos e) s.calls.items) same_epoch
        (all_told (λ (x : CallRow). x.epoch ≡ pos epoch) call_told_of (epoch_passes (pos epoch)) r.calls s.calls.items calls right.epoch_is);
    numbered = λ n less. ap (λ l. get_or l n (pos 0)) (sym (numbers_told r.calls s.calls.items calls)) ∙ right.numbered n (let many = as_many in omega arith);
    many = sym as_many ∙ right.many;
    calls = λ n row at.
        let found = same_at call_told_of r.calls s.calls.items n row calls at in
        call_passes v n found.0 row found.2 (right.calls n found.0 found.1);
    turn_rows = subst (λ e. All (IsTurnRow (pos e)) s.turns.items) same_epoch
        (all_told (IsTurnRow (pos epoch)) turn_told_of (turn_passes (pos epoch)) r.turns s.turns.items turns right.turn_rows);
    turns = sym (turn_bytes_told r.turns s.turns.items turns) ∙ right.turns;
    replies = subst (λ e. All (IsReplyOf v (pos e)) s.replies.items) same_epoch
        (all_told (IsReplyOf v (pos epoch)) reply_told_of (reply_passes v (pos epoch)) r.replies s.replies.items replies right.replies);
  }

pub ledger_is_store : (c : Contents) (v : CoreValue) → IsLedgerOf c v → IsStoreOf c v
ledger_is_store c v ledger = λ s stored. are_of_core c v ledger.rows ledger.there ledger.right s stored
