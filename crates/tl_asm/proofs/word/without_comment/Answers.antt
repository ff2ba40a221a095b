use Rattle.std.proofs.Common.{rules, tests, ◌≡◌, ◌∙◌, ap, take, ◌==◌, ℕ}
use Rattle.std.proofs.lemmas.Iterator.{YieldsList-from_slice}
use Rattle.std.proofs.lemmas.Iterator.Search.{position_from_yields_List}
use Rattle.std.specs.List.{position_or_len}
use Rattle.tl_asm.proofs.ByteSearch.{searched}
use Rattle.tl_asm.proofs.word.without_comment.Goals as goal

pub returns : goal.returns
returns c =
    let end : c.unwrap_or-end.result ≡ position_or_len (λ b. b == 59) c.args.line.now = searched (λ b. b == 59) c.args.line.now c.position.result c.unwrap_or-end.result (position_from_yields_List (λ b. b == 59) _ _ c.position.result c.position.ensures.ran (YieldsList-from_slice c.args.line.now c.iter.ensures.rest) (λ x b q k. search (rules, tests))) (search rules) in
    c.split_at.ensures.front ∙ ap (λ (n : ℕ). take n c.args.line.now) end
