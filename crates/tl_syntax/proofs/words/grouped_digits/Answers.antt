use Rattle.std.proofs.Common.{◌≡◌, ◌+◌, ◌++◌, ◌∷◌, [], take, get_or, refl, sym, ◌∙◌, arith}
use Rattle.std.proofs.lemmas.List.{take_more}
use Rattle.tl_syntax.proofs.DigitLemmas.{reads_nothing, reads_digit, reads_gap}
use Rattle.tl_syntax.proofs.words.grouped_digits.Goals.{then-is_ascii_digit+in_ok-checked_mul+in_ok-number, else-is_ascii_digit+then-byte-eq95+then-follows_digit}
use Rattle.tl_syntax.proofs.words.grouped_digits.Goals as goal

pub loop-byte-init : goal.loop-byte-init
loop-byte-init c = reads_nothing refl

pub loop-byte-preserved : goal.loop-byte-preserved
loop-byte-preserved c =
    let word = c.args.word.now in
    let i = c.loop-byte.byte-index in
    let more : take (i + 1) word ≡ take i word ++ get_or word i 0 ∷ [] = take_more word i 0 (omega arith) in
    elim c.if-is_ascii_digit.branch [
      | then-is_ascii_digit+in_ok-checked_mul+in_ok-number w ↦
          rw w.follows_digit-is
          (reads_digit (get_or word i 0) c.loop-byte.number c.if-is_ascii_digit.number more c.loop-byte.invariant (sym c.is_ascii_digit.ensures.value ∙ w.if-is_ascii_digit.true) (omega arith))
      | else-is_ascii_digit+then-byte-eq95+then-follows_digit w ↦
          rw (w.follows_digit-is, w.number-is)
          (reads_gap (get_or word i 0) c.loop-byte.number more (rw w.if-follows_digit.true at c.loop-byte.invariant) w.if-byte-eq95.true)
    ]
