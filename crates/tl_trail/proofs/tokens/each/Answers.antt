use Rattle.std.proofs.Common.{◌≡◌, ◌-◌, [], ◌∷◌, ◌++◌, map, Some, None, sym, ap, ◌∙◌, subst, arith}
use Rattle.std.proofs.lemmas.List.{map_push}
use Rattle.json.specs.Json.{parse_map, after_end_array, items, value}
use Rattle.json.proofs.Grammar.{after_end_array-shorter}
use Rattle.serde_json.specs.Data.{no_items}
use Rattle.serde_json.specs.Read.{of_items, converted}
use Rattle.tl_tokens.specs.Tokens.{BeginsWith}
use Rattle.tl_trail.specs.Tokens.{item_depth}
use Rattle.tl_tokens.proofs.TokenLemmas.{items_onto, one_item, no_item, parsed_one}
use Rattle.tl_trail.proofs.TokenLemmas.{Stand, one_stands, all_stand}
use Rattle.tl_trail.proofs.tokens.each.Goals as goal

pub loop-alloc-preserved : goal.loop-alloc-preserved
loop-alloc-preserved g c =
    let form = g.T.FromValue.form in
    let form_of = g.T.FromValue.form_of in
    let p = value item_depth in
    let l = c.loop-alloc in
    let n = l.invariant.0 in
    let ds = l.invariant.1 in
    let goes_on : (after_end_array l.reader ≡ None) × (c.take_end_array.new.self ≡ l.reader) = grind arith in
    let x = c.in-Some.one in
    let r = c.item.new.reader in
    let got : BeginsWith form_of item_depth l.reader (form x) r = rw (← goes_on.1) (rw c.in-Some.is at c.in_ok-one.ensures) in
    let turn = one_item p n l.reader r got.found (omega (arith, l.invariant.2, got.shorter)) goes_on.0 got.is_value in
    let more : map form c.push.new.self.items ≡ map form l.found.items ++ form x ∷ [] = ap (map form) c.in_ok-push.ensures.items ∙ map_push form l.found.items x in (
      n - 1,
      ds ++ got.found ∷ [],
      omega (arith, l.invariant.2, got.shorter),
      l.invariant.3 ∙ ap (parse_map (items_onto ds)) turn ∙ parsed_one ds got.found (converted of_items (items p (n - 1) r)),
      subst (Stand form_of (ds ++ got.found ∷ [])) (sym more) (one_stands form_of ds (map form l.found.items) got.found (form x) l.invariant.4 got.stands),
      omega (arith, l.invariant.5, got.shorter),
    )

pub returns : goal.returns
returns g c =
    let form = g.T.FromValue.form in
    let form_of = g.T.FromValue.form_of in
    let p = value item_depth in
    let l = c.loop-alloc in
    let ds = l.invariant.1 in
    let r = c.take_end_array.new.self in
    let end : after_end_array l.reader ≡ Some r = grind arith in
    record {
      found = items_onto ds no_items;
      are_items = l.invariant.3 ∙ ap (parse_map (items_onto ds)) (no_item p l.invariant.0 l.reader r l.invariant.2 end);
      stand = all_stand form_of ds (map form l.found.items) l.invariant.4;
      shorter = omega (arith, after_end_array-shorter l.reader r end, l.invariant.5);
    }
