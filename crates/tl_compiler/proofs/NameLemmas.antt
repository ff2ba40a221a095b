-- Words are ASCII.
use Rattle.std.proofs.Common.{ℕ, ◌<◌, List, arith}
use Rattle.std.specs.Prelude.{IsTrue, IsUtf8}
use Rattle.std.proofs.lemmas.Str.{IsUtf8-from_ascii}
use Rattle.std.proofs.lemmas.Str.Ascii.{IsAscii-from_all}
use Rattle.tl_syntax.specs.Tokens.{stays_word}
use Rattle.tl_lowering.specs.Fit.{IsWord}

small : (b : ℕ) → IsTrue (stays_word b) → b < 128
small b h = grind arith

pub word_utf8 : (bytes : List ℕ) → IsWord bytes → IsUtf8 bytes
word_utf8 bytes h = IsUtf8-from_ascii bytes (IsAscii-from_all bytes (λ k d lt. small _ (h k d lt)))
