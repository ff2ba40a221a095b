use Rattle.std.proofs.Common.{◌≡◌, ◌-◌, [], ◌∷◌, ◌++◌, map, Some, None, string_bytes, sym, ap, ◌∙◌, subst, arith, rules}
use Rattle.std.proofs.lemmas.List.{map_push}
use Rattle.json.specs.Json.{parse_map, after_end_array, read_key, items, members, value}
use Rattle.json.specs.Reads.{token_of}
use Rattle.json.proofs.Grammar.{read_key-shorter}
use Rattle.serde_json.specs.Data.{null, boolean, number, string, put}
use Rattle.serde_json.specs.Read.{of_items, of_members, converted}
use Rattle.serde_json.specs.View.{view, number_view, items_view, members_view}
use Rattle.serde_json.specs.declared.value.Value.{String, Number, Bool, Null, the_lemmas}
use Rattle.serde_json.proofs.Views.{view-Array, view-Object, members_view-insert_entry}
use Rattle.tl_tokens.specs.Tokens.{BeginsWith}
use Rattle.tl_tokens.proofs.TokenLemmas.{items_onto, one_item, no_item, one_member, no_member, parsed_one, onto_views, value_of, begins_null, begins_boolean, begins_string, begins_number, begins_array, begins_object}
use Rattle.tl_tokens.proofs.tokens.+value.Goals as goal

pub value-returns-in-Null : goal.value-returns-in-Null
value-returns-in-Null t c =
    let seen : view Null ≡ null = search (rules, the_lemmas) in
    let is = c.in-Some.ensures.value ∙ ap (λ k. token_of k ∷ c.next.new.self) c.in-Null.is in
    subst (λ d. BeginsWith Some c.args.depth c.args.reader.now d c.next.new.self) (sym seen) (begins_null c.args.depth c.args.reader.now c.next.new.self is)

pub value-returns-in-Bool : goal.value-returns-in-Bool
value-returns-in-Bool t c =
    let seen : view (Bool c.in-Bool.b) ≡ boolean c.in-Bool.b = search (rules, the_lemmas) in
    let is = c.in-Some.ensures.value ∙ ap (λ k. token_of k ∷ c.next.new.self) c.in-Bool.is in
    subst (λ d. BeginsWith Some c.args.depth c.args.reader.now d c.next.new.self) (sym seen) (begins_boolean c.args.depth c.args.reader.now c.next.new.self c.in-Bool.b is)

pub value-returns-in-Some-integer : goal.value-returns-in-Some-integer
value-returns-in-Some-integer t c =
    let seen : view (Number c.in-Some-integer.number) ≡ number (number_view c.in-Some-integer.number) = search (rules, the_lemmas) in
    let is = c.in-Some.ensures.value ∙ ap (λ k. token_of k ∷ c.next.new.self) c.in-Number.is in
    subst (λ d. BeginsWith Some c.args.depth c.args.reader.now d c.next.new.self) (sym seen)
    (begins_number c.args.depth c.args.reader.now c.next.new.self c.in-Number.text.now (number_view c.in-Some-integer.number) is c.in-Some-integer.ensures)

pub value-returns-in_ok-from_str-in-String : goal.value-returns-in_ok-from_str-in-String
value-returns-in_ok-from_str-in-String t c =
    let seen : view (String c.in_ok-from_str-in-String.field-0) ≡ string c.in-String.text.now = search (rules, the_lemmas) in
    let is = c.in-Some.ensures.value ∙ ap (λ k. token_of k ∷ c.next.new.self) c.in-String.is in
    subst (λ d. BeginsWith Some c.args.depth c.args.reader.now d c.next.new.self) (sym seen) (begins_string c.args.depth c.args.reader.now c.next.new.self c.in-String.text.now is)

pub value-returns-in-Some-2 : goal.value-returns-in-Some-2
value-returns-in-Some-2 t c =
    let v = c.in-Some-2.found in
    let is = c.in-Some.ensures.value ∙ ap (λ k. token_of k ∷ c.next.new.self) c.in-BeginArray.is in
    let read = rw c.in-Some-2.is at c.in_ok-found-in-BeginArray.ensures.read in
    let less = rw c.in-Some-2.is at c.in_ok-found-in-BeginArray.ensures.shorter in
    subst (λ d. BeginsWith Some c.args.depth c.args.reader.now d c.items.new.reader) (sym (view-Array v))
    (begins_array c.args.depth c.args.reader.now c.items.new.reader c.next.new.self (items_view v.items) is (omega arith) read less)

pub value-returns-in-Some-3 : goal.value-returns-in-Some-3
value-returns-in-Some-3 t c =
    let m = c.in-Some-3.found in
    let is = c.in-Some.ensures.value ∙ ap (λ k. token_of k ∷ c.next.new.self) c.in-BeginObject.is in
    let read = rw c.in-Some-3.is at c.in_ok-found-in-BeginObject.ensures.read in
    let less = rw c.in-Some-3.is at c.in_ok-found-in-BeginObject.ensures.shorter in
    subst (λ d. BeginsWith Some c.args.depth c.args.reader.now d c.members.new.reader) (sym (view-Object m))
    (begins_object c.args.depth c.args.reader.now c.members.new.reader c.next.new.self (members_view m.entries) is (omega arith) read less)

pub items-loop-alloc-preserved : goal.items-loop-alloc-preserved
items-loop-alloc-preserved t c =
    let p = value c.args.depth in
    let l = c.loop-alloc in
    let n = l.invariant.0 in
    let goes_on : (after_end_array l.reader ≡ None) × (c.take_end_array.new.self ≡ l.reader) = grind arith in
    let v = c.in-Some.item in
    let r = c.value.new.reader in
    let got : BeginsWith Some c.args.depth l.reader (view v) r = rw (← goes_on.1) (rw c.in-Some.is at c.in_ok-item.ensures) in
    let turn = one_item p n l.reader r (view v) (omega (arith, l.invariant.1, got.shorter)) goes_on.0 (value_of c.args.depth l.reader r (view v) got) in
    let more : map view c.push.new.self.items ≡ map view l.found.items ++ view v ∷ [] = ap (map view) c.in_ok-push.ensures.items ∙ map_push view l.found.items v in (
      n - 1,
      omega (arith, l.invariant.1, got.shorter),
      l.invariant.2 ∙ ap (parse_map (items_onto (map view l.found.items))) turn ∙ parsed_one (map view l.found.items) (view v) (converted of_items (items p (n - 1) r))
          ∙ ap (λ ds. parse_map (items_onto ds) (converted of_items (items p (n - 1) r))) (sym more),
      omega (arith, l.invariant.3, got.shorter),
    )

pub items-returns-clause-read : goal.items-returns-clause-read
items-returns-clause-read t c =
    let p = value c.args.depth in
    let l = c.loop-alloc in
    let r = c.take_end_array.new.self in
    l.invariant.2 ∙ ap (parse_map (items_onto (map view l.found.items))) (no_item p l.invariant.0 l.reader r l.invariant.1 (grind arith)) ∙ ap (λ ds. Some (ds, r)) (onto_views l.found.items)

pub members-returns-in_default-next-clause-read : goal.members-returns-in_default-next-clause-read
members-returns-in_default-next-clause-read t c =
    let p = value c.args.depth in
    let l = c.loop-next in
    let end : read_key l.reader ≡ Some (None, c.next_key.new.self) = rw c.in_default-next.is at c.in-Ok.ensures.value in
    l.invariant.2 ∙ no_member p l.invariant.0 l.reader (members_view l.found.entries) c.next_key.new.self l.invariant.1 end

pub members-loop-next-preserved : goal.members-loop-next-preserved
members-loop-next-preserved t c =
    let p = value c.args.depth in
    let l = c.loop-next in
    let n = l.invariant.0 in
    let before = members_view l.found.entries in
    let k = c.in-Some.name.now in
    let s = c.next_key.new.self in
    let named : read_key l.reader ≡ Some (Some k, s) = rw c.in-Some.is at c.in-Ok.ensures.value in
    let v = c.in-Some-2.member in
    let r = c.value.new.reader in
    let got : BeginsWith Some c.args.depth s (view v) r = rw c.in-Some-2.is at c.in_ok-member.ensures in
    let less = read_key-shorter l.reader (Some k) s named in
    let copied : string_bytes c.in_ok-key.key ≡ k = search rules in
    let put_in : members_view c.insert.new.self.entries ≡ put k (view v) before =
    ap members_view c.in_ok-insert.ensures.entries ∙ members_view-insert_entry l.found.entries c.in_ok-key.key v ∙ ap (λ name. put name (view v) before) copied in (
      n - 1,
      omega (arith, l.invariant.1, less, got.shorter),
      l.invariant.2 ∙ one_member p n l.reader before k s r (view v) (omega (arith, l.invariant.1, less)) named (value_of c.args.depth s r (view v) got)
          ∙ ap (λ found. converted (λ ms. of_members ms found) (members p (n - 1) r)) (sym put_in),
      omega (arith, l.invariant.3, less, got.shorter),
    )
