use Rattle.std.proofs.Common.{◌≡◌, ◌<◌, ◌+◌, ◌++◌, length, get_or, take, codes, sym, ap, ap₂, ◌∙◌, string_bytes, arith}
use Rattle.serde_json.specs.Written.{has_float, compact_text}
use Rattle.tl_commands.specs.Run.{RunValue, answers_of, batch_data, batch_lines}
use Rattle.tl_commands.proofs.LineLemmas.{batch_whole}
use Rattle.tl_commands.proofs.RunLemmas.{answers_of_more, lines_more, taken_answers}
use Rattle.tl_commands.proofs.running.Ran.lines.Goals as goal

pub loop-answers-preserved : goal.loop-answers-preserved
loop-answers-preserved c =
    let xs = c.self.inside.answers.items in
    let i = c.loop-answers.answers-index in
    let a = c.answers-item.result in
    let before = answers_of (take i xs) in
    let seen : answers_of xs ≡ c.args.self.now.answers = ap (λ (r : RunValue). r.answers) c.self.view_is in
    let items : c.deref-answers-items.result.now ≡ xs = c.deref-answers-items.ensures.value in
    let value_is = c.in_ok-batch_to_value.ensures ∙ ap batch_data c.deref.ensures.value in
    let line : string_bytes c.in_ok-line.line ≡ compact_text (batch_data a.items) = c.in_ok-line.ensures.text (ap has_float value_is ∙ batch_whole a.items) ∙ ap compact_text value_is in
    let so_far = c.loop-answers.invariant ∙ ap (λ l. batch_lines (take i l)) (sym seen) ∙ ap batch_lines (sym (taken_answers xs i)) in
    let first : string_bytes c.push_str.new.self ≡ batch_lines before ++ compact_text (batch_data a.items) =
    c.in_ok-push_str.ensures.bytes ∙ ap₂ (λ x y. x ++ y) so_far (c.deref-in-loop-answers.ensures ∙ line) in
    let inside : i < length xs = omega (arith, ap length items, c.loop-answers-test.true) in
    let here : a ≡ get_or xs i a = c.answers-item.is ∙ ap (λ l. get_or l i a) items in
    c.in_ok-push_str-2.ensures.bytes ∙ ap (λ l. l ++ codes "\n") first ∙ sym (lines_more before a.items) ∙ ap batch_lines (sym (answers_of_more xs i a inside here))
    ∙ ap batch_lines (taken_answers xs (i + 1)) ∙ ap (λ l. batch_lines (take (i + 1) l)) seen
