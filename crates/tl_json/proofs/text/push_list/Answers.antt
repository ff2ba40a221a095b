use Rattle.std.proofs.Common.{◌++◌, ◌∷◌, nat_lt, codes, false, map, take, ap, ◌∙◌, subst, string_bytes}
use Rattle.std.proofs.lemmas.List.{take_all}
use Rattle.std.proofs.lemmas.List.Elements.{All-more}
use Rattle.std.specs.Prelude.{All}
use Rattle.serde_json.specs.Written.{comma_if, compact_text}
use Rattle.tl_json.proofs.Texts.{joined, pushed, ok_so, joined_more, list_whole}
use Rattle.tl_json.proofs.text.push_list.Goals as goal

pub loop-index-preserved : goal.loop-index-preserved
loop-index-preserved g c =
    let f = g.T.PushText.data in
    let old = string_bytes c.args.text.now in
    let items = c.args.items.now in
    let i = c.loop-index.index in
    let item = c.index-items-index.result in
    let begun = old ++ 91 ∷ joined false (map f (take i items)) in
    let comma = comma_if (nat_lt 0 i) in
    let added = c.in_ok-push_text.ensures in (
      added.text ∙ ap (λ l. l ++ compact_text (f item)) (c.in_ok-push_comma.ensures ∙ ap (λ l. l ++ comma) c.loop-index.invariant.0)
          ∙ ap (λ x. (begun ++ comma) ++ compact_text (f x)) c.index-items-index.is ∙ joined_more f old items i item c.loop-index-test.true,
      All-more g.T.PushText.IsFit items i item c.loop-index-test.true c.loop-index.invariant.1 (subst g.T.PushText.IsFit c.index-items-index.is added.fit),
    )

pub returns-clause-text : goal.returns-clause-text
returns-clause-text g c =
    let f = g.T.PushText.data in
    let old = string_bytes c.args.text.now in
    let items = c.args.items.now in
    let all = take_all c.loop-index.index items c.loop-index-test.false in
    pushed c.push_str-2.result _ _ (codes "]") _ c.push_str-2.ensures.bytes
    (ap (λ l. l ++ codes "]") (c.loop-index.invariant.0 ∙ ap (λ xs. old ++ 91 ∷ joined false (map f xs)) all) ∙ list_whole old (map f items))

pub returns-clause-fit : goal.returns-clause-fit
returns-clause-fit g c =
    ok_so c.push_str-2.result _ (subst (All g.T.PushText.IsFit) (take_all c.loop-index.index c.args.items.now c.loop-index-test.false) c.loop-index.invariant.1)
