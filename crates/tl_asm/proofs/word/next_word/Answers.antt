use Rattle.std.proofs.Common.{rules, tests, ◌≡◌, ◌∙◌, ap, drop, ℕ, not}
use Rattle.std.proofs.lemmas.Iterator.{YieldsList-from_slice}
use Rattle.std.proofs.lemmas.Iterator.Search.{position_from_yields_List}
use Rattle.std.proofs.lemmas.List.Sums.{prefix_len-le-length}
use Rattle.std.specs.List.{position_or_len}
use Rattle.tl_asm.specs.Words.{is_blank, first_of}
use Rattle.tl_asm.proofs.ByteSearch.{searched, no_word, a_word}
use Rattle.tl_asm.proofs.word.next_word.Goals as goal

pub split_at-requires : goal.split_at-requires
split_at-requires c = rw c.indent.ensures (prefix_len-le-length (λ b. not (not (is_blank b))) c.args.line.now)

pub returns-then-end-eq0 : goal.returns-then-end-eq0
returns-then-end-eq0 c =
    let rest : c.split_at.result.1.now ≡ drop (position_or_len (λ b. not (is_blank b)) c.args.line.now) c.args.line.now = c.split_at.ensures.back ∙ ap (λ (n : ℕ). drop n c.args.line.now) c.indent.ensures in
    let end : c.unwrap_or-end.result ≡ position_or_len is_blank c.split_at.result.1.now = searched is_blank c.split_at.result.1.now c.position.result c.unwrap_or-end.result (position_from_yields_List is_blank _ _ c.position.result c.position.ensures.ran (YieldsList-from_slice c.split_at.result.1.now c.iter.ensures.rest) (λ x b q k. search (rules, tests))) (search rules) in
    ap first_of (no_word c.args.line.now c.split_at.result.1.now c.unwrap_or-end.result rest end c.if-end-eq0.true)

pub returns : goal.returns
returns c =
    let rest : c.split_at.result.1.now ≡ drop (position_or_len (λ b. not (is_blank b)) c.args.line.now) c.args.line.now = c.split_at.ensures.back ∙ ap (λ (n : ℕ). drop n c.args.line.now) c.indent.ensures in
    let end : c.unwrap_or-end.result ≡ position_or_len is_blank c.split_at.result.1.now = searched is_blank c.split_at.result.1.now c.position.result c.unwrap_or-end.result (position_from_yields_List is_blank _ _ c.position.result c.position.ensures.ran (YieldsList-from_slice c.split_at.result.1.now c.iter.ensures.rest) (λ x b q k. search (rules, tests))) (search rules) in
    rw (c.split_at-2.ensures.front, c.split_at-2.ensures.back) (ap first_of (a_word c.args.line.now c.split_at.result.1.now c.unwrap_or-end.result rest end c.if-end-eq0.false))
