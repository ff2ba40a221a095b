use Rattle.std.proofs.Common.{◌≡◌, ◌∙◌, ◌+◌, ◌++◌, ◌∷◌, [], true, false, map, get_or, string_bytes, sym, ap, subst}
use Rattle.std.proofs.lemmas.List.{map-append}
use Rattle.tl_procedures.specs.Names.{IsOther, OtherNamesBelow, no_procedure}
use Rattle.tl_procedures.proofs.Others.{others_push}
use Rattle.tl_procedures.proofs.procedures.Procedures.add_other.Goals as goal

pub returns : goal.returns
returns c =
    let n = c.args.number in
    let xs = c.args.first.now in
    let ys = c.args.self.now in
    let old = c.args.names.now.items in
    let other : IsOther xs ys n = λ same. absurd (
    let e : false ≡ true = sym c.if-is.false ∙ c.is.ensures.1 (c.deref.ensures ∙ c.get.ensures ∙ same ∙ sym c.get-2.ensures ∙ sym c.deref-2.ensures) in cc) in
    let names : map string_bytes c.push.new.self.items ≡ map string_bytes old ++ (get_or xs n no_procedure).name ∷ [] =
    ap (map string_bytes) c.in_ok-push.ensures.items ∙ map-append string_bytes old (c.in_ok-from_str.field-0 ∷ [])
    ∙ (λ i. map string_bytes old ++ (c.in_ok-from_str.ensures.ok ∙ c.name.ensures) i ∷ []) in
    subst (OtherNamesBelow (n + 1) xs ys) (sym names) (others_push n xs ys (map string_bytes old) c.requires.so_far c.requires.inside other)
