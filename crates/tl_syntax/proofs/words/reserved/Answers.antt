use Rattle.std.proofs.Common.{rules, arith, ◌≡◌, length, codes}
use Rattle.std.proofs.lemmas.Slice.Eq.{text_from_reads}
use Rattle.tl_syntax.specs.Tokens.{word_and, word_break, word_child, word_const, word_descend, word_else, word_emit, word_fail, word_field, word_for, word_free, word_if, word_kids, word_let, word_lock, word_node, word_not, word_or, word_proc, word_repeat, word_require, word_return, word_try}
use Rattle.tl_syntax.proofs.words.reserved.Goals as goal

pub returns-in-and-clause-some : goal.returns-in-and-clause-some
returns-in-and-clause-some c =
    let long : length c.args.word.now ≡ 3 = omega arith in
    word_and (text_from_reads c.args.word.now (codes "and") long (search rules))

pub returns-in-break-clause-some : goal.returns-in-break-clause-some
returns-in-break-clause-some c =
    let long : length c.args.word.now ≡ 5 = omega arith in
    word_break (text_from_reads c.args.word.now (codes "break") long (search rules))

pub returns-in-child-clause-some : goal.returns-in-child-clause-some
returns-in-child-clause-some c =
    let long : length c.args.word.now ≡ 5 = omega arith in
    word_child (text_from_reads c.args.word.now (codes "child") long (search rules))

pub returns-in-const-clause-some : goal.returns-in-const-clause-some
returns-in-const-clause-some c =
    let long : length c.args.word.now ≡ 5 = omega arith in
    word_const (text_from_reads c.args.word.now (codes "const") long (search rules))

pub returns-in-descend-clause-some : goal.returns-in-descend-clause-some
returns-in-descend-clause-some c =
    let long : length c.args.word.now ≡ 7 = omega arith in
    word_descend (text_from_reads c.args.word.now (codes "descend") long (search rules))

pub returns-in-else-clause-some : goal.returns-in-else-clause-some
returns-in-else-clause-some c =
    let long : length c.args.word.now ≡ 4 = omega arith in
    word_else (text_from_reads c.args.word.now (codes "else") long (search rules))

pub returns-in-emit-clause-some : goal.returns-in-emit-clause-some
returns-in-emit-clause-some c =
    let long : length c.args.word.now ≡ 4 = omega arith in
    word_emit (text_from_reads c.args.word.now (codes "emit") long (search rules))

pub returns-in-fail-clause-some : goal.returns-in-fail-clause-some
returns-in-fail-clause-some c =
    let long : length c.args.word.now ≡ 4 = omega arith in
    word_fail (text_from_reads c.args.word.now (codes "fail") long (search rules))

pub returns-in-field-clause-some : goal.returns-in-field-clause-some
returns-in-field-clause-some c =
    let long : length c.args.word.now ≡ 5 = omega arith in
    word_field (text_from_reads c.args.word.now (codes "field") long (search rules))

pub returns-in-for-clause-some : goal.returns-in-for-clause-some
returns-in-for-clause-some c =
    let long : length c.args.word.now ≡ 3 = omega arith in
    word_for (text_from_reads c.args.word.now (codes "for") long (search rules))

pub returns-in-free-clause-some : goal.returns-in-free-clause-some
returns-in-free-clause-some c =
    let long : length c.args.word.now ≡ 4 = omega arith in
    word_free (text_from_reads c.args.word.now (codes "free") long (search rules))

pub returns-in-if-clause-some : goal.returns-in-if-clause-some
returns-in-if-clause-some c =
    let long : length c.args.word.now ≡ 2 = omega arith in
    word_if (text_from_reads c.args.word.now (codes "if") long (search rules))

pub returns-in-kids-clause-some : goal.returns-in-kids-clause-some
returns-in-kids-clause-some c =
    let long : length c.args.word.now ≡ 4 = omega arith in
    word_kids (text_from_reads c.args.word.now (codes "kids") long (search rules))

pub returns-in-let-clause-some : goal.returns-in-let-clause-some
returns-in-let-clause-some c =
    let long : length c.args.word.now ≡ 3 = omega arith in
    word_let (text_from_reads c.args.word.now (codes "let") long (search rules))

pub returns-in-lock-clause-some : goal.returns-in-lock-clause-some
returns-in-lock-clause-some c =
    let long : length c.args.word.now ≡ 4 = omega arith in
    word_lock (text_from_reads c.args.word.now (codes "lock") long (search rules))

pub returns-in-node-clause-some : goal.returns-in-node-clause-some
returns-in-node-clause-some c =
    let long : length c.args.word.now ≡ 4 = omega arith in
    word_node (text_from_reads c.args.word.now (codes "node") long (search rules))

pub returns-in-not-clause-some : goal.returns-in-not-clause-some
returns-in-not-clause-some c =
    let long : length c.args.word.now ≡ 3 = omega arith in
    word_not (text_from_reads c.args.word.now (codes "not") long (search rules))

pub returns-in-or-clause-some : goal.returns-in-or-clause-some
returns-in-or-clause-some c =
    let long : length c.args.word.now ≡ 2 = omega arith in
    word_or (text_from_reads c.args.word.now (codes "or") long (search rules))

pub returns-in-proc-clause-some : goal.returns-in-proc-clause-some
returns-in-proc-clause-some c =
    let long : length c.args.word.now ≡ 4 = omega arith in
    word_proc (text_from_reads c.args.word.now (codes "proc") long (search rules))

pub returns-in-repeat-clause-some : goal.returns-in-repeat-clause-some
returns-in-repeat-clause-some c =
    let long : length c.args.word.now ≡ 6 = omega arith in
    word_repeat (text_from_reads c.args.word.now (codes "repeat") long (search rules))

pub returns-in-require-clause-some : goal.returns-in-require-clause-some
returns-in-require-clause-some c =
    let long : length c.args.word.now ≡ 7 = omega arith in
    word_require (text_from_reads c.args.word.now (codes "require") long (search rules))

pub returns-in-return-clause-some : goal.returns-in-return-clause-some
returns-in-return-clause-some c =
    let long : length c.args.word.now ≡ 6 = omega arith in
    word_return (text_from_reads c.args.word.now (codes "return") long (search rules))

pub returns-in-try-clause-some : goal.returns-in-try-clause-some
returns-in-try-clause-some c =
    let long : length c.args.word.now ≡ 3 = omega arith in
    word_try (text_from_reads c.args.word.now (codes "try") long (search rules))
