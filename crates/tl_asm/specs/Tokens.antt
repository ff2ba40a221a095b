-- The kinds of words.
use Rattle.std.specs.Prelude.{ℕ, [], ◌∷◌, length, slice_index, Option, Some, None, option_and_then, option_map, Bool, false, nat_lt, ℤ, pos, neg_ℤ, ◌==◌, ◌||◌, ◌&&◌, not, if◌then◌else◌}
use Rattle.std.specs.List.{list_all}
use Rattle.std.specs.Char.{is_ascii_alphabetic, is_ascii_alphanumeric}
use Rattle.std.specs.Str.{all_ascii_digits}
use Rattle.std.specs.Str.Parse.{digits_value}
use Rattle.tl_instr.specs.declared.operand.TheConstants.{VALUE_REGISTERS, NODE_REGISTERS}
use Rattle.tl_asm.specs.declared.token.TheConstants.{MAX_LABEL}
use Rattle.tl_asm.specs.Words.{Word}

infixl 10 ◌>>=◌
abbrev pub ◌>>=◌ : {A B : Type 0} → Option A → (A → Option B) → Option B
o >>= f = option_and_then f o

-- decimal digits without a leading zero
abbrev pub is_number : Word → Bool
is_number word = nat_lt 0 (length word) && (all_ascii_digits word && ((length word == 1) || not (slice_index word 0 == 48)))

-- a number below the limit
unfoldable pub number_in : ℕ → Word → Option ℕ
number_in limit word = if is_number word && nat_lt (digits_value 10 word) limit then Some (digits_value 10 word) else None

-- this letter followed by a number below the limit
unfoldable pub register_in : ℕ → ℕ → Word → Option ℕ
register_in letter limit [] = None
register_in letter limit (b ∷ word) = if b == letter then number_in limit word else None

abbrev pub value_register : Word → Option ℕ
value_register word = register_in 118 VALUE_REGISTERS word

abbrev pub node_register : Word → Option ℕ
node_register word = register_in 110 NODE_REGISTERS word

-- a number from -2147483648 to 2147483647, with `-` before a negative one
unfoldable pub signed_in : Word → Option ℤ
signed_in [] = None
signed_in (b ∷ word) = if b == 45 then option_and_then (λ n. if n == 0 then None else Some (neg_ℤ (pos n))) (number_in 2147483649 word) else option_map pos (number_in 2147483648 (b ∷ word))

-- a letter or `_`
abbrev pub begins_label : ℕ → Bool
begins_label b = is_ascii_alphabetic b || (b == 95)

-- the same, or a digit
abbrev pub continues_label : ℕ → Bool
continues_label b = is_ascii_alphanumeric b || (b == 95)

-- 1 to 32 characters: the first may begin a label, and each other one may continue it
unfoldable pub is_label : Word → Bool
is_label [] = false
is_label (b ∷ word) = begins_label b && (nat_lt (length word) MAX_LABEL && list_all continues_label word)
