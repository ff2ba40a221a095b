use Rattle.std.proofs.Common.{◌≡◌, ◌<◌, ◌+◌, ◌∷◌, ◌++◌, ◌∙◌, [], length, map, drop, get_or, ap, sym, subst, arith}
use Rattle.std.proofs.lemmas.List.{append_assoc, drop_more, map-append}
use Rattle.std.proofs.lemmas.List.Elements.{All-nil, All-cons, All-append}
use Rattle.tl_instr.specs.Codes.{IsCode}
use Rattle.tl_json.specs.Procedures.{AreAccepted}
use Rattle.tl_procedures.specs.Names.{Named, no_procedure}
use Rattle.tl_verify.specs.Acceptable.{Acceptable}
use Rattle.tl_news.specs.News.{named}
use Rattle.tl_news.proofs.reading.procedures_behind.Goals as goal

abbrev IsAccepted : Named → Type 0
IsAccepted p = IsCode p.code × Acceptable p.code.instrs

pub loop-number-preserved : goal.loop-number-preserved
loop-number-preserved c =
    let procedures = c.args.procedures.now in
    let i = c.loop-number.number in
    let one = c.in_ok-new_procedure.ensures in
    let p = c.in_ok-new_procedure.field-0 in
    let less : i < length procedures = omega arith in
    let is : named p ≡ get_or procedures i no_procedure = one.named ∙ (λ j. record { name = c.name.ensures j; code = c.get.ensures j }) in
    let code = ap (λ (q : Named). q.code) one.named in
    let accepted : IsAccepted (named p) = (subst IsCode (sym code) one.code, subst (λ k. Acceptable k.instrs) (sym code) one.accepted) in
    let before = map named c.loop-number.found.items in
    let grown = ap (map named) c.in_ok-push.ensures.items ∙ map-append named c.loop-number.found.items (p ∷ []) in (
      ap (λ l. l ++ drop (i + 1) procedures) grown ∙ append_assoc before (named p ∷ []) (drop (i + 1) procedures)
          ∙ ap (λ l. before ++ l) (sym (drop_more procedures i no_procedure less ∙ ap (λ x. x ∷ drop (i + 1) procedures) (sym is))) ∙ c.loop-number.invariant.0,
      subst AreAccepted (sym grown) (All-append IsAccepted before (named p ∷ []) c.loop-number.invariant.1 (All-cons IsAccepted (named p) [] accepted (All-nil IsAccepted))),
    )
