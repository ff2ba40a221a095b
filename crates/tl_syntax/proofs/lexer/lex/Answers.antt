use Rattle.std.proofs.Common.{arith, refl, ◌≡◌, ◌+◌, ◌≤◌, length}
use Rattle.tl_syntax.proofs.NameLemmas.{extends_same, same_distinct}
use Rattle.tl_syntax.proofs.TokenLemmas.{so_far_none, so_far_left, so_far_end, extends_more, adds_extends, take_more}
use Rattle.tl_syntax.proofs.NumberingLemmas.{none_numbered, pushed_other}
use Rattle.tl_syntax.proofs.lexer.lex.Goals as goal

pub loop-first-init : goal.loop-first-init
loop-first-init c = record {
  within = omega arith;
  names = extends_same c.in_ok-lexed.ensures.names;
  distinct = c.in_ok-lexed.ensures.distinct;
  numbered = none_numbered _ _ c.in_ok-lexed.ensures.tokens c.in_ok-lexed.ensures.names;
  so_far = so_far_none _ _ _ c.in_ok-lexed.ensures.tokens;
}

pub loop-first-preserved : goal.loop-first-preserved
loop-first-preserved c = record {
  within =
      let all : length c.in-Some.after.now + 1 ≡ length c.loop-first.rest.now = c.in-Some.ensures.cases.1 in
      let left : length c.split_at-in-Some.result.1.now + c.in-Some-first_piece.more ≡ length c.in-Some.after.now = c.split_at-in-Some.ensures.back_len in
      let fits : length c.loop-first.rest.now ≤ length c.args.text.now = c.loop-first.invariant.within in
      omega arith;
  names = extends_more c.loop-first.invariant.names (adds_extends c.in_ok-add.ensures.adds);
  distinct = c.in_ok-add.ensures.distinct c.loop-first.invariant.distinct;
  numbered = c.in_ok-add.ensures.numbered c.in-Some.first.now c.in-Some.after.now c.in-Some-first_piece.more c.in-Some-first_piece.ensures.begins c.loop-first.invariant.numbered;
  so_far =
      so_far_left c.split_at-in-Some.ensures.back c.loop-first.invariant.so_far c.in-Some.ensures.cases.0 c.loop-first.invariant.within
      c.in-Some-first_piece.ensures.within
      (take_more c.in-Some.first.now c.in-Some.after.now c.loop-first.rest.now c.split_at.result.0.now c.in-Some-first_piece.more
      c.split_at.ensures.front c.in-Some.ensures.cases.0)
      c.in-Some-first_piece.ensures.begins c.in_ok-add.ensures.adds;
}

pub returns-clause-tokens : goal.returns-clause-tokens
returns-clause-tokens c = rw c.in_ok-push.ensures.names (so_far_end c.loop-first.invariant.so_far c.in_default.ensures.cases c.in_ok-push.ensures.tokens)

pub returns-clause-distinct : goal.returns-clause-distinct
returns-clause-distinct c = same_distinct _ _ c.in_ok-push.ensures.names c.loop-first.invariant.distinct

pub returns-clause-numbered : goal.returns-clause-numbered
returns-clause-numbered c = pushed_other _ _ _ _ _ _ c.in_ok-push.ensures.names c.in_ok-push.ensures.tokens refl c.loop-first.invariant.numbered
