-- The bytes read so far are the digits of the number.
use Rattle.std.proofs.Common.{take}
use Rattle.tl_syntax.proofs.DigitLemmas.{IsReading}
use Rattle.tl_syntax.proofs.words.grouped_digits.Given as goal

abbrev pub invariant-loop-byte : goal.invariant-loop-byte
invariant-loop-byte l = IsReading (take l.byte-index l.word) l.number l.follows_digit
