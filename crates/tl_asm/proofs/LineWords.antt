-- A name and words are read as an instruction exactly if they are the words of that instruction.
use Rattle.std.proofs.Common.{◌≡◌, ℕ, zero, suc, ◌<◌, ◌≤◌, ◌^◌, List, [], ◌∷◌, length, get_or, Option, Some, None, Bool, true, false, cond, refl, sym, ◌∙◌, ap, subst, arith, ◌==◌, ◌||◌, ◌&&◌, not, slice_index}
use Rattle.std.specs.Prelude.{◌↔◌, ℤ, pos, negsuc, neg_ℤ, nat_lt, option_and_then, option_map}
use Rattle.std.specs.Int.{w32}
use Rattle.std.specs.Int.RustNames.{FitsSigned}
use Rattle.std.specs.Str.{bytes_eq}
use Rattle.std.specs.Str.Parse.{digits_value}
use Rattle.std.specs.Fmt.{decimal, signed_decimal}
use Rattle.std.proofs.lemmas.Bool.{ltb-true, eqb-true, eq-eqb, ne_eqb}
use Rattle.std.proofs.lemmas.Fmt.{decimal-digits_value}
use Rattle.tl_instr.specs.declared.instr.Instr.{Instr}
use Rattle.tl_instr.specs.declared.instr.Instr.TheVariants.{Set, Copy, Add, Subtract, Multiply, Divide, Jump, JumpIfLess, JumpIfEqual, Repeat, RepeatBy, End, First, Child, Move, Release, Get, Put, Kids, Emit, Return}
use Rattle.tl_instr.specs.Instructions.{InRange, target}
use Rattle.tl_width.specs.Fields.{field_count}
use Rattle.tl_instr.specs.declared.operand.TheConstants.{VALUE_REGISTERS, NODE_REGISTERS}
use Rattle.tl_asm.specs.Words.{Word}
use Rattle.tl_asm.specs.Tokens.{◌>>=◌, is_number, number_in, register_in, value_register, node_register, signed_in, is_label}
use Rattle.tl_asm.specs.Statements.{DraftValue, plain, going, token, last, label_in, else_in, otherwise_in, bare_in, set_in, copy_in, arithmetic_in, add_in, subtract_in, multiply_in, divide_in, jump_in, comparison_in, jump_if_less_in, jump_if_equal_in, repeat_in, repeat_by_in, first_in, child_in, move_in, release_in, get_in, put_in, kids_in, emit_in, draft_in}
use Rattle.tl_asm.specs.Listing.{value_word, node_word, words_to}
use Rattle.tl_asm.specs.Lines.{label_or_none, IsLabelFor, IsLineOf}
use lib.Chars.{codes}
use Rattle.tl_asm.proofs.DecimalNumbers.{own, is_digits}
use Rattle.tl_asm.proofs.StatementLists.{bytes_same}
use Rattle.tl_asm.proofs.TokenSpelling.{both_true, number_again, value_again, node_again, signed_again}

-- ---- tokens: each number, register and label has one spelling

-- the result of a test
tested : {A : Type 0} (b : Bool) (x y : A) → (if_true : cond b (Some x) None ≡ Some y) → (b ≡ true) × (x ≡ y)
tested true x y e = (refl, cc e)
tested false x y e = absurd (cc e)

one_digit : (a b : Bool) → (a || not b) ≡ true → b ≡ true → a ≡ true
one_digit true b e f = refl
one_digit false true e f = absurd (cc e)
one_digit false false e f = absurd (cc f)

number_word : (limit n : ℕ) (word : Word) → limit ≤ 2 ^ 32 → number_in limit word ≡ Some n → (word ≡ decimal n) × (n < limit)
unfolding number_in
number_word limit n word fits e =
    let found = tested (is_number word && nat_lt (digits_value 10 word) limit) (digits_value 10 word) n e in
    let both = both_true (is_number word) (nat_lt (digits_value 10 word) limit) found.0 in
    let small : digits_value 10 word < limit = ltb-true (digits_value 10 word) limit both.1 in
    let (some, digits, plain') = is_digits word both.0 in
    let first : get_or word 0 0 ≡ 48 → length word ≡ 1
    = λ zero'. eqb-true (length word) 1 (one_digit (length word == 1) (slice_index word 0 == 48) plain' (eq-eqb (slice_index word 0) 48 zero')) in
    let written : decimal (digits_value 10 word) ≡ word = decimal-digits_value own word digits some first (omega arith) in
    (sym written ∙ ap decimal found.1, (let P : ℕ → Type 0 = λ k. k < limit in subst P found.1 small))

register_word : (letter limit n : ℕ) (word : Word) → limit ≤ 2 ^ 32 → register_in letter limit word ≡ Some n → (word ≡ letter ∷ decimal n) × (n < limit)
unfolding register_in
register_word letter limit n [] fits e = absurd (cc e)
register_word letter limit n (b ∷ word) fits e = by (b == letter) refl e
  where
    by : (t : Bool) → (b == letter) ≡ t → cond t (number_in limit word) None ≡ Some n → (b ∷ word ≡ letter ∷ decimal n) × (n < limit)
    by true t e =
        let (is, small) = number_word limit n word fits e in
        let same : b ≡ letter = eqb-true b letter t in
        ((ap (λ x. x ∷ word) same ∙ ap (λ ds. letter ∷ ds) is), small)
    by false t e = absurd (cc e)

value_found : (n : ℕ) (word : Word) → value_register word ≡ Some n → (word ≡ value_word n) × (n < VALUE_REGISTERS)
value_found n word e = register_word 118 VALUE_REGISTERS n word (omega arith) e

node_found : (n : ℕ) (word : Word) → node_register word ≡ Some n → (word ≡ node_word n) × (n < NODE_REGISTERS)
node_found n word e = register_word 110 NODE_REGISTERS n word (omega arith) e

negative : (n : ℕ) (z : ℤ) → n < 2147483649 → cond (n == 0) None (Some (neg_ℤ (pos n))) ≡ Some z → (45 ∷ decimal n ≡ signed_decimal z) × FitsSigned w32 z
negative zero z small e = absurd (cc e)
negative (suc n) z small e =
    let P : ℤ → Type 0 = λ z. (45 ∷ decimal (suc n) ≡ signed_decimal z) × FitsSigned w32 z in
    let fits : FitsSigned w32 (negsuc n) = record { sfits = omega arith } in
    let other : (suc n == 0) ≡ false = ne_eqb (suc n) 0 (λ h. omega (arith, h)) in
    let e' : ◌≡◌ {A = Option ℤ} (Some (negsuc n)) (Some z) = ap (λ b. cond b None (Some (neg_ℤ (pos (suc n))))) (sym other) ∙ e in
    let same : negsuc n ≡ z = cc e' in
    subst P same (refl, fits)

signed_found : (z : ℤ) (word : Word) → signed_in word ≡ Some z → (word ≡ signed_decimal z) × FitsSigned w32 z
unfolding signed_in
signed_found z [] e = absurd (cc e)
signed_found z (b ∷ word) e = by (b == 45) refl e
  where
    minus : (o : Option ℕ) → number_in 2147483649 word ≡ o → option_and_then (λ n. cond (n == 0) None (Some (neg_ℤ (pos n)))) o ≡ Some z → (45 ∷ word ≡ signed_decimal z) × FitsSigned w32 z
    minus None is e = absurd (cc e)
    minus (Some n) is e =
        let (word_is, small) = number_word 2147483649 n word (omega arith) is in
        let (written, fits) = negative n z small e in
        (ap (λ ds. 45 ∷ ds) word_is ∙ written, fits)

    plus : (o : Option ℕ) → number_in 2147483648 (b ∷ word) ≡ o → option_map pos o ≡ Some z → (b ∷ word ≡ signed_decimal z) × FitsSigned w32 z
    plus None is e = absurd (cc e)
    plus (Some n) is e =
        let (word_is, small) = number_word 2147483648 n (b ∷ word) (omega arith) is in
        let P : ℤ → Type 0 = λ z. (b ∷ word ≡ signed_decimal z) × FitsSigned w32 z in
        let fits : FitsSigned w32 (pos n) = record { sfits = small } in
        let same : pos n ≡ z = cc e in
        subst P same (word_is, fits)

    by : (t : Bool) → (b == 45) ≡ t
        → cond t (option_and_then (λ n. cond (n == 0) None (Some (neg_ℤ (pos n)))) (number_in 2147483649 word)) (option_map pos (number_in 2147483648 (b ∷ word))) ≡ Some z
        → (b ∷ word ≡ signed_decimal z) × FitsSigned w32 z
    by true t e =
        let (word_is, fits) = minus (number_in 2147483649 word) refl e in
        let same : b ≡ 45 = eqb-true b 45 t in
        (ap (λ x. x ∷ word) same ∙ word_is, fits)
    by false t e = plus (number_in 2147483648 (b ∷ word)) refl e

label_found : (l word : Word) → label_in word ≡ Some l → (word ≡ l) × (is_label l ≡ true)
label_found l word e =
    let found = tested (is_label word) word l e in
    (found.1, (let P : Word → Type 0 = λ w. is_label w ≡ true in subst P found.1 found.0))

else_found : (l word : Word) → else_in word ≡ Some l → word ≡ codes "else"
else_found l word e = bytes_same word (codes "else") (tested (bytes_eq word (codes "else")) word l e).0

-- ---- words, one after another

bound : {A B : Type 0} (o : Option A) (f : A → Option B) (y : B) → option_and_then f o ≡ Some y → (x : A) × (o ≡ Some x) × (f x ≡ Some y)
bound None f y e = absurd (cc e)
bound (Some x) f y e = (x, refl, e)

token_found : {A : Type 0} (read : Word → Option A) (words : List Word) (x : A × List Word) → token read words ≡ Some x → (w : Word) × (words ≡ w ∷ x.1) × (read w ≡ Some x.0)
token_found {A} read [] x e = absurd (cc e)
token_found {A} read (w ∷ ws) x e =
    let (v, is, same) = bound (read w) (λ v. let r : Option (A × List Word) = Some (v, ws) in r) x e in
    let pair : (v, ws) ≡ x = cc same in
    (w, ap (λ (r : A × List Word). w ∷ r.1) pair, is ∙ ap (λ (r : A × List Word). Some r.0) pair)

last_found : {A : Type 0} (read : Word → Option A) (words : List Word) (x : A) → last read words ≡ Some x → (w : Word) × (words ≡ w ∷ []) × (read w ≡ Some x)
last_found read [] x e = absurd (cc e)
last_found read (w ∷ []) x e = (w, refl, e)
last_found read (w ∷ next ∷ ws) x e = absurd (cc e)

-- ---- instructions: from what is read to the words

Line : Word → List Word → DraftValue → Type 0
Line name words d = IsLineOf d (name ∷ words)

otherwise_found : (words : List Word) (l : Word) → otherwise_in words ≡ Some l → (words ≡ codes "else" ∷ l ∷ []) × (is_label l ≡ true)
unfolding otherwise_in
otherwise_found words l e =
    let (literal, is, rest) = bound (token else_in words) (λ literal. last label_in literal.1) l e in
    let (w, at, else_is) = token_found else_in words literal is in
    let (v, after, label_is) = last_found label_in literal.1 l rest in
    let word = else_found literal.0 w else_is in
    let (label, good) = label_found l v label_is in
    (at ∙ ap (λ x. x ∷ literal.1) word ∙ ap (λ ws. codes "else" ∷ ws) after ∙ ap (λ x. codes "else" ∷ x ∷ []) label, good)

arithmetic_found : (words : List Word) (x : ℕ × ℕ × ℕ × Word) → arithmetic_in words ≡ Some x
    → (words ≡ value_word x.0 ∷ value_word x.1 ∷ value_word x.2 ∷ codes "else" ∷ x.3 ∷ []) × (x.0 < VALUE_REGISTERS) × (x.1 < VALUE_REGISTERS) × (x.2 < VALUE_REGISTERS) × (is_label x.3 ≡ true)
unfolding arithmetic_in
arithmetic_found words x e =
    let (to, to_is, e1) = bound (token value_register words) (λ to. do
      left ← token value_register to.1
      right ← token value_register left.1
      label ← otherwise_in right.1
      Some (to.0, left.0, right.0, label)) x e in
    let (left, left_is, e2) = bound (token value_register to.1) (λ left. do
      right ← token value_register left.1
      label ← otherwise_in right.1
      Some (to.0, left.0, right.0, label)) x e1 in
    let (right, right_is, e3) = bound (token value_register left.1) (λ right. do
      label ← otherwise_in right.1
      Some (to.0, left.0, right.0, label)) x e2 in
    let (label, label_is, e4) = bound (otherwise_in right.1) (λ label. let r : Option (ℕ × ℕ × ℕ × Word) = Some (to.0, left.0, right.0, label) in r) x e3 in
    let (w0, at0, r0) = token_found value_register words to to_is in
    let (w1, at1, r1) = token_found value_register to.1 left left_is in
    let (w2, at2, r2) = token_found value_register left.1 right right_is in
    let (at3, good) = otherwise_found right.1 label label_is in
    let (v0, b0) = value_found to.0 w0 r0 in
    let (v1, b1) = value_found left.0 w1 r1 in
    let (v2, b2) = value_found right.0 w2 r2 in
    let same : (to.0, left.0, right.0, label) ≡ x = cc e4 in
    let P : (ℕ × ℕ × ℕ × Word) → Type 0 = λ x. (words ≡ value_word x.0 ∷ value_word x.1 ∷ value_word x.2 ∷ codes "else" ∷ x.3 ∷ []) × (x.0 < VALUE_REGISTERS) × (x.1 < VALUE_REGISTERS) × (x.2 < VALUE_REGISTERS) × (is_label x.3 ≡ true) in
    let all : words ≡ value_word to.0 ∷ value_word left.0 ∷ value_word right.0 ∷ codes "else" ∷ label ∷ [] = cc in
    subst P same (all, b0, b1, b2, good)

comparison_found : (words : List Word) (x : ℕ × ℕ × Word) → comparison_in words ≡ Some x
    → (words ≡ value_word x.0 ∷ value_word x.1 ∷ x.2 ∷ []) × (x.0 < VALUE_REGISTERS) × (x.1 < VALUE_REGISTERS) × (is_label x.2 ≡ true)
unfolding comparison_in
comparison_found words x e =
    let (left, left_is, e1) = bound (token value_register words) (λ left. do
      right ← token value_register left.1
      label ← last label_in right.1
      Some (left.0, right.0, label)) x e in
    let (right, right_is, e2) = bound (token value_register left.1) (λ right. do
      label ← last label_in right.1
      Some (left.0, right.0, label)) x e1 in
    let (label, label_is, e3) = bound (last label_in right.1) (λ label. let r : Option (ℕ × ℕ × Word) = Some (left.0, right.0, label) in r) x e2 in
    let (w0, at0, r0) = token_found value_register words left left_is in
    let (w1, at1, r1) = token_found value_register left.1 right right_is in
    let (w2, at2, r2) = last_found label_in right.1 label label_is in
    let (v0, b0) = value_found left.0 w0 r0 in
    let (v1, b1) = value_found right.0 w1 r1 in
    let (v2, good) = label_found label w2 r2 in
    let same : (left.0, right.0, label) ≡ x = cc e3 in
    let P : (ℕ × ℕ × Word) → Type 0 = λ x. (words ≡ value_word x.0 ∷ value_word x.1 ∷ x.2 ∷ []) × (x.0 < VALUE_REGISTERS) × (x.1 < VALUE_REGISTERS) × (is_label x.2 ≡ true) in
    let all : words ≡ value_word left.0 ∷ value_word right.0 ∷ label ∷ [] = cc in
    subst P same (all, b0, b1, good)

set_line : (words : List Word) (d : DraftValue) → set_in words ≡ Some d → Line (codes "set") words d
unfolding set_in Line
set_line words d h =
    let (a, a_is, h0) = bound (token value_register words) (λ a. do
      z ← last signed_in a.1
      Some (plain (Set a.0 z))) d h in
    let (z, z_is, hz) = bound (last signed_in a.1) (λ z. Some (plain (Set a.0 z))) d h0 in
    let (w_a, at_a, r_a) = token_found value_register words a a_is in
    let (v_a, b_a) = value_found a.0 w_a r_a in
    let (w_z, at_z, r_z) = last_found signed_in a.1 z z_is in
    let (v_z, b_z) = signed_found z w_z r_z in
    let same : plain (Set a.0 z) ≡ d = cc hz in
    let all : words ≡ value_word a.0 ∷ signed_decimal z ∷ [] = cc in
    subst (Line (codes "set") words) same (record { words_are = ap (λ ws. codes "set" ∷ ws) all; in_range = (b_a, b_z); label = refl })

copy_line : (words : List Word) (d : DraftValue) → copy_in words ≡ Some d → Line (codes "copy") words d
unfolding copy_in Line
copy_line words d h =
    let (a, a_is, h0) = bound (token value_register words) (λ a. do
      z ← last value_register a.1
      Some (plain (Copy a.0 z))) d h in
    let (z, z_is, hz) = bound (last value_register a.1) (λ z. Some (plain (Copy a.0 z))) d h0 in
    let (w_a, at_a, r_a) = token_found value_register words a a_is in
    let (v_a, b_a) = value_found a.0 w_a r_a in
    let (w_z, at_z, r_z) = last_found value_register a.1 z z_is in
    let (v_z, b_z) = value_found z w_z r_z in
    let same : plain (Copy a.0 z) ≡ d = cc hz in
    let all : words ≡ value_word a.0 ∷ value_word z ∷ [] = cc in
    subst (Line (codes "copy") words) same (record { words_are = ap (λ ws. codes "copy" ∷ ws) all; in_range = (b_a, b_z); label = refl })

add_line : (words : List Word) (d : DraftValue) → add_in words ≡ Some d → Line (codes "add") words d
unfolding add_in Line
add_line words d e =
    let (x, is, e1) = bound (arithmetic_in words) (λ x. Some (going x.3 (Add x.0 x.1 x.2 0))) d e in
    let (at, b0, b1, b2, good) = arithmetic_found words x is in
    let same : going x.3 (Add x.0 x.1 x.2 0) ≡ d = cc e1 in
    subst (Line (codes "add") words) same (record { words_are = ap (λ ws. codes "add" ∷ ws) at; in_range = (b0, b1, b2); label = (refl, good) })

sub_line : (words : List Word) (d : DraftValue) → subtract_in words ≡ Some d → Line (codes "sub") words d
unfolding subtract_in Line
sub_line words d e =
    let (x, is, e1) = bound (arithmetic_in words) (λ x. Some (going x.3 (Subtract x.0 x.1 x.2 0))) d e in
    let (at, b0, b1, b2, good) = arithmetic_found words x is in
    let same : going x.3 (Subtract x.0 x.1 x.2 0) ≡ d = cc e1 in
    subst (Line (codes "sub") words) same (record { words_are = ap (λ ws. codes "sub" ∷ ws) at; in_range = (b0, b1, b2); label = (refl, good) })

mul_line : (words : List Word) (d : DraftValue) → multiply_in words ≡ Some d → Line (codes "mul") words d
unfolding multiply_in Line
mul_line words d e =
    let (x, is, e1) = bound (arithmetic_in words) (λ x. Some (going x.3 (Multiply x.0 x.1 x.2 0))) d e in
    let (at, b0, b1, b2, good) = arithmetic_found words x is in
    let same : going x.3 (Multiply x.0 x.1 x.2 0) ≡ d = cc e1 in
    subst (Line (codes "mul") words) same (record { words_are = ap (λ ws. codes "mul" ∷ ws) at; in_range = (b0, b1, b2); label = (refl, good) })

div_line : (words : List Word) (d : DraftValue) → divide_in words ≡ Some d → Line (codes "div") words d
unfolding divide_in Line
div_line words d e =
    let (x, is, e1) = bound (arithmetic_in words) (λ x. Some (going x.3 (Divide x.0 x.1 x.2 0))) d e in
    let (at, b0, b1, b2, good) = arithmetic_found words x is in
    let same : going x.3 (Divide x.0 x.1 x.2 0) ≡ d = cc e1 in
    subst (Line (codes "div") words) same (record { words_are = ap (λ ws. codes "div" ∷ ws) at; in_range = (b0, b1, b2); label = (refl, good) })

jmp_line : (words : List Word) (d : DraftValue) → jump_in words ≡ Some d → Line (codes "jmp") words d
unfolding jump_in Line
jmp_line words d h =
    let (z, z_is, hz) = bound (last label_in words) (λ z. Some (going z (Jump 0))) d h in
    let (w_z, at_z, r_z) = last_found label_in words z z_is in
    let (v_z, b_z) = label_found z w_z r_z in
    let same : going z (Jump 0) ≡ d = cc hz in
    let all : words ≡ z ∷ [] = cc in
    subst (Line (codes "jmp") words) same (record { words_are = ap (λ ws. codes "jmp" ∷ ws) all; in_range = tt; label = (refl, b_z) })

jlt_line : (words : List Word) (d : DraftValue) → jump_if_less_in words ≡ Some d → Line (codes "jlt") words d
unfolding jump_if_less_in Line
jlt_line words d e =
    let (x, is, e1) = bound (comparison_in words) (λ x. Some (going x.2 (JumpIfLess x.0 x.1 0))) d e in
    let (at, b0, b1, good) = comparison_found words x is in
    let same : going x.2 (JumpIfLess x.0 x.1 0) ≡ d = cc e1 in
    subst (Line (codes "jlt") words) same (record { words_are = ap (λ ws. codes "jlt" ∷ ws) at; in_range = (b0, b1); label = (refl, good) })

jeq_line : (words : List Word) (d : DraftValue) → jump_if_equal_in words ≡ Some d → Line (codes "jeq") words d
unfolding jump_if_equal_in Line
jeq_line words d e =
    let (x, is, e1) = bound (comparison_in words) (λ x. Some (going x.2 (JumpIfEqual x.0 x.1 0))) d e in
    let (at, b0, b1, good) = comparison_found words x is in
    let same : going x.2 (JumpIfEqual x.0 x.1 0) ≡ d = cc e1 in
    subst (Line (codes "jeq") words) same (record { words_are = ap (λ ws. codes "jeq" ∷ ws) at; in_range = (b0, b1); label = (refl, good) })

rep_line : (words : List Word) (d : DraftValue) → repeat_in words ≡ Some d → Line (codes "rep") words d
unfolding repeat_in Line
rep_line words d h =
    let (z, z_is, hz) = bound (last (number_in 65536) words) (λ z. Some (plain (Repeat z))) d h in
    let (w_z, at_z, r_z) = last_found (number_in 65536) words z z_is in
    let (v_z, b_z) = number_word 65536 z w_z (omega arith) r_z in
    let same : plain (Repeat z) ≡ d = cc hz in
    let all : words ≡ decimal z ∷ [] = cc in
    subst (Line (codes "rep") words) same (record { words_are = ap (λ ws. codes "rep" ∷ ws) all; in_range = b_z; label = refl })

repv_line : (words : List Word) (d : DraftValue) → repeat_by_in words ≡ Some d → Line (codes "repv") words d
unfolding repeat_by_in Line
repv_line words d h =
    let (a, a_is, h0) = bound (token value_register words) (λ a. do
      z ← last (number_in 65536) a.1
      Some (plain (RepeatBy a.0 z))) d h in
    let (z, z_is, hz) = bound (last (number_in 65536) a.1) (λ z. Some (plain (RepeatBy a.0 z))) d h0 in
    let (w_a, at_a, r_a) = token_found value_register words a a_is in
    let (v_a, b_a) = value_found a.0 w_a r_a in
    let (w_z, at_z, r_z) = last_found (number_in 65536) a.1 z z_is in
    let (v_z, b_z) = number_word 65536 z w_z (omega arith) r_z in
    let same : plain (RepeatBy a.0 z) ≡ d = cc hz in
    let all : words ≡ value_word a.0 ∷ decimal z ∷ [] = cc in
    subst (Line (codes "repv") words) same (record { words_are = ap (λ ws. codes "repv" ∷ ws) all; in_range = (b_a, b_z); label = refl })

first_line : (words : List Word) (d : DraftValue) → first_in words ≡ Some d → Line (codes "first") words d
unfolding first_in Line
first_line words d h =
    let (a, a_is, h0) = bound (token node_register words) (λ a. do
      b ← token value_register a.1
      z ← otherwise_in b.1
      Some (going z (First a.0 b.0 0))) d h in
    let (b, b_is, h1) = bound (token value_register a.1) (λ b. do
      z ← otherwise_in b.1
      Some (going z (First a.0 b.0 0))) d h0 in
    let (z, z_is, hz) = bound (otherwise_in b.1) (λ z. Some (going z (First a.0 b.0 0))) d h1 in
    let (w_a, at_a, r_a) = token_found node_register words a a_is in
    let (v_a, b_a) = node_found a.0 w_a r_a in
    let (w_b, at_b, r_b) = token_found value_register a.1 b b_is in
    let (v_b, b_b) = value_found b.0 w_b r_b in
    let (at_z, b_z) = otherwise_found b.1 z z_is in
    let same : going z (First a.0 b.0 0) ≡ d = cc hz in
    let all : words ≡ node_word a.0 ∷ value_word b.0 ∷ codes "else" ∷ z ∷ [] = cc in
    subst (Line (codes "first") words) same (record { words_are = ap (λ ws. codes "first" ∷ ws) all; in_range = (b_a, b_b); label = (refl, b_z) })

child_line : (words : List Word) (d : DraftValue) → child_in words ≡ Some d → Line (codes "child") words d
unfolding child_in Line
child_line words d h =
    let (a, a_is, h0) = bound (token node_register words) (λ a. do
      b ← token node_register a.1
      c ← token value_register b.1
      z ← otherwise_in c.1
      Some (going z (Child a.0 b.0 c.0 0))) d h in
    let (b, b_is, h1) = bound (token node_register a.1) (λ b. do
      c ← token value_register b.1
      z ← otherwise_in c.1
      Some (going z (Child a.0 b.0 c.0 0))) d h0 in
    let (c, c_is, h2) = bound (token value_register b.1) (λ c. do
      z ← otherwise_in c.1
      Some (going z (Child a.0 b.0 c.0 0))) d h1 in
    let (z, z_is, hz) = bound (otherwise_in c.1) (λ z. Some (going z (Child a.0 b.0 c.0 0))) d h2 in
    let (w_a, at_a, r_a) = token_found node_register words a a_is in
    let (v_a, b_a) = node_found a.0 w_a r_a in
    let (w_b, at_b, r_b) = token_found node_register a.1 b b_is in
    let (v_b, b_b) = node_found b.0 w_b r_b in
    let (w_c, at_c, r_c) = token_found value_register b.1 c c_is in
    let (v_c, b_c) = value_found c.0 w_c r_c in
    let (at_z, b_z) = otherwise_found c.1 z z_is in
    let same : going z (Child a.0 b.0 c.0 0) ≡ d = cc hz in
    let all : words ≡ node_word a.0 ∷ node_word b.0 ∷ value_word c.0 ∷ codes "else" ∷ z ∷ [] = cc in
    subst (Line (codes "child") words) same (record { words_are = ap (λ ws. codes "child" ∷ ws) all; in_range = (b_a, b_b, b_c); label = (refl, b_z) })

move_line : (words : List Word) (d : DraftValue) → move_in words ≡ Some d → Line (codes "move") words d
unfolding move_in Line
move_line words d h =
    let (a, a_is, h0) = bound (token node_register words) (λ a. do
      z ← last node_register a.1
      Some (plain (Move a.0 z))) d h in
    let (z, z_is, hz) = bound (last node_register a.1) (λ z. Some (plain (Move a.0 z))) d h0 in
    let (w_a, at_a, r_a) = token_found node_register words a a_is in
    let (v_a, b_a) = node_found a.0 w_a r_a in
    let (w_z, at_z, r_z) = last_found node_register a.1 z z_is in
    let (v_z, b_z) = node_found z w_z r_z in
    let same : plain (Move a.0 z) ≡ d = cc hz in
    let all : words ≡ node_word a.0 ∷ node_word z ∷ [] = cc in
    subst (Line (codes "move") words) same (record { words_are = ap (λ ws. codes "move" ∷ ws) all; in_range = (b_a, b_z); label = refl })

rel_line : (words : List Word) (d : DraftValue) → release_in words ≡ Some d → Line (codes "rel") words d
unfolding release_in Line
rel_line words d h =
    let (z, z_is, hz) = bound (last node_register words) (λ z. Some (plain (Release z))) d h in
    let (w_z, at_z, r_z) = last_found node_register words z z_is in
    let (v_z, b_z) = node_found z w_z r_z in
    let same : plain (Release z) ≡ d = cc hz in
    let all : words ≡ node_word z ∷ [] = cc in
    subst (Line (codes "rel") words) same (record { words_are = ap (λ ws. codes "rel" ∷ ws) all; in_range = b_z; label = refl })

get_line : (words : List Word) (d : DraftValue) → get_in words ≡ Some d → Line (codes "get") words d
unfolding get_in Line
get_line words d h =
    let (a, a_is, h0) = bound (token value_register words) (λ a. do
      b ← token node_register a.1
      z ← last (number_in field_count) b.1
      Some (plain (Get a.0 b.0 z))) d h in
    let (b, b_is, h1) = bound (token node_register a.1) (λ b. do
      z ← last (number_in field_count) b.1
      Some (plain (Get a.0 b.0 z))) d h0 in
    let (z, z_is, hz) = bound (last (number_in field_count) b.1) (λ z. Some (plain (Get a.0 b.0 z))) d h1 in
    let (w_a, at_a, r_a) = token_found value_register words a a_is in
    let (v_a, b_a) = value_found a.0 w_a r_a in
    let (w_b, at_b, r_b) = token_found node_register a.1 b b_is in
    let (v_b, b_b) = node_found b.0 w_b r_b in
    let (w_z, at_z, r_z) = last_found (number_in field_count) b.1 z z_is in
    let (v_z, b_z) = number_word field_count z w_z (omega arith) r_z in
    let same : plain (Get a.0 b.0 z) ≡ d = cc hz in
    let all : words ≡ value_word a.0 ∷ node_word b.0 ∷ decimal z ∷ [] = cc in
    subst (Line (codes "get") words) same (record { words_are = ap (λ ws. codes "get" ∷ ws) all; in_range = (b_a, b_b, b_z); label = refl })

put_line : (words : List Word) (d : DraftValue) → put_in words ≡ Some d → Line (codes "put") words d
unfolding put_in Line
put_line words d h =
    let (a, a_is, h0) = bound (token node_register words) (λ a. do
      b ← token (number_in field_count) a.1
      z ← last value_register b.1
      Some (plain (Put a.0 b.0 z))) d h in
    let (b, b_is, h1) = bound (token (number_in field_count) a.1) (λ b. do
      z ← last value_register b.1
      Some (plain (Put a.0 b.0 z))) d h0 in
    let (z, z_is, hz) = bound (last value_register b.1) (λ z. Some (plain (Put a.0 b.0 z))) d h1 in
    let (w_a, at_a, r_a) = token_found node_register words a a_is in
    let (v_a, b_a) = node_found a.0 w_a r_a in
    let (w_b, at_b, r_b) = token_found (number_in field_count) a.1 b b_is in
    let (v_b, b_b) = number_word field_count b.0 w_b (omega arith) r_b in
    let (w_z, at_z, r_z) = last_found value_register b.1 z z_is in
    let (v_z, b_z) = value_found z w_z r_z in
    let same : plain (Put a.0 b.0 z) ≡ d = cc hz in
    let all : words ≡ node_word a.0 ∷ decimal b.0 ∷ value_word z ∷ [] = cc in
    subst (Line (codes "put") words) same (record { words_are = ap (λ ws. codes "put" ∷ ws) all; in_range = (b_a, b_b, b_z); label = refl })

kids_line : (words : List Word) (d : DraftValue) → kids_in words ≡ Some d → Line (codes "kids") words d
unfolding kids_in Line
kids_line words d h =
    let (a, a_is, h0) = bound (token value_register words) (λ a. do
      z ← last node_register a.1
      Some (plain (Kids a.0 z))) d h in
    let (z, z_is, hz) = bound (last node_register a.1) (λ z. Some (plain (Kids a.0 z))) d h0 in
    let (w_a, at_a, r_a) = token_found value_register words a a_is in
    let (v_a, b_a) = value_found a.0 w_a r_a in
    let (w_z, at_z, r_z) = last_found node_register a.1 z z_is in
    let (v_z, b_z) = node_found z w_z r_z in
    let same : plain (Kids a.0 z) ≡ d = cc hz in
    let all : words ≡ value_word a.0 ∷ node_word z ∷ [] = cc in
    subst (Line (codes "kids") words) same (record { words_are = ap (λ ws. codes "kids" ∷ ws) all; in_range = (b_a, b_z); label = refl })

emit_line : (words : List Word) (d : DraftValue) → emit_in words ≡ Some d → Line (codes "emit") words d
unfolding emit_in Line
emit_line words d h =
    let (z, z_is, hz) = bound (last value_register words) (λ z. Some (plain (Emit z))) d h in
    let (w_z, at_z, r_z) = last_found value_register words z z_is in
    let (v_z, b_z) = value_found z w_z r_z in
    let same : plain (Emit z) ≡ d = cc hz in
    let all : words ≡ value_word z ∷ [] = cc in
    subst (Line (codes "emit") words) same (record { words_are = ap (λ ws. codes "emit" ∷ ws) all; in_range = b_z; label = refl })

end_line : (words : List Word) (d : DraftValue) → bare_in End words ≡ Some d → Line (codes "end") words d
unfolding bare_in Line
end_line [] d e = let same : plain End ≡ d = cc e in subst (Line (codes "end") []) same (record { words_are = refl; in_range = tt; label = refl })
end_line (word ∷ words) d e = absurd (cc e)

ret_line : (words : List Word) (d : DraftValue) → bare_in Return words ≡ Some d → Line (codes "ret") words d
unfolding bare_in Line
ret_line [] d e = let same : plain Return ≡ d = cc e in subst (Line (codes "ret") []) same (record { words_are = refl; in_range = tt; label = refl })
ret_line (word ∷ words) d e = absurd (cc e)

-- ---- the name decides

pick : (b : Bool) (x y : Option DraftValue) (d : DraftValue) (G : Type 0) → cond b x y ≡ Some d → (b ≡ true → x ≡ Some d → G) → (y ≡ Some d → G) → G
pick true x y d G e here there = here refl e
pick false x y d G e here there = there e

named : (name want : Word) (words : List Word) (d : DraftValue) → bytes_eq name want ≡ true → Line want words d → Line name words d
named name want words d e h = let P : Word → Type 0 = λ n. Line n words d in subst P (sym (bytes_same name want e)) h

line_of_read : (name : Word) (words : List Word) (d : DraftValue) → draft_in name words ≡ Some d → Line name words d
unfolding draft_in
line_of_read name words d e =
    pick (bytes_eq name (codes "set")) (set_in words) (cond (bytes_eq name (codes "copy")) (copy_in words) (cond (bytes_eq name (codes "add")) (add_in words) (cond (bytes_eq name (codes "sub")) (subtract_in words) (cond (bytes_eq name (codes "mul")) (multiply_in words) (cond (bytes_eq name (codes "div")) (divide_in words) (cond (bytes_eq name (codes "jmp")) (jump_in words) (cond (bytes_eq name (codes "jlt")) (jump_if_less_in words) (cond (bytes_eq name (codes "jeq")) (jump_if_equal_in words) (cond (bytes_eq name (codes "rep")) (repeat_in words) (cond (bytes_eq name (codes "end")) (bare_in End words) (cond (bytes_eq name (codes "first")) (first_in words) (cond (bytes_eq name (codes "child")) (child_in words) (cond (bytes_eq name (codes "move")) (move_in words) (cond (bytes_eq name (codes "rel")) (release_in words) (cond (bytes_eq name (codes "get")) (get_in words) (cond (bytes_eq name (codes "put")) (put_in words) (cond (bytes_eq name (codes "kids")) (kids_in words) (cond (bytes_eq name (codes "emit")) (emit_in words) (cond (bytes_eq name (codes "ret")) (bare_in Return words) (cond (bytes_eq name (codes "repv")) (repeat_by_in words) None)))))))))))))))))))) d (Line name words d) e (λ t x. named name (codes "set") words d t (set_line words d x)) (λ e1.
    pick (bytes_eq name (codes "copy")) (copy_in words) (cond (bytes_eq name (codes "add")) (add_in words) (cond (bytes_eq name (codes "sub")) (subtract_in words) (cond (bytes_eq name (codes "mul")) (multiply_in words) (cond (bytes_eq name (codes "div")) (divide_in words) (cond (bytes_eq name (codes "jmp")) (jump_in words) (cond (bytes_eq name (codes "jlt")) (jump_if_less_in words) (cond (bytes_eq name (codes "jeq")) (jump_if_equal_in words) (cond (bytes_eq name (codes "rep")) (repeat_in words) (cond (bytes_eq name (codes "end")) (bare_in End words) (cond (bytes_eq name (codes "first")) (first_in words) (cond (bytes_eq name (codes "child")) (child_in words) (cond (bytes_eq name (codes "move")) (move_in words) (cond (bytes_eq name (codes "rel")) (release_in words) (cond (bytes_eq name (codes "get")) (get_in words) (cond (bytes_eq name (codes "put")) (put_in words) (cond (bytes_eq name (codes "kids")) (kids_in words) (cond (bytes_eq name (codes "emit")) (emit_in words) (cond (bytes_eq name (codes "ret")) (bare_in Return words) (cond (bytes_eq name (codes "repv")) (repeat_by_in words) None))))))))))))))))))) d (Line name words d) e1 (λ t x. named name (codes "copy") words d t (copy_line words d x)) (λ e2.
    pick (bytes_eq name (codes "add")) (add_in words) (cond (bytes_eq name (codes "sub")) (subtract_in words) (cond (bytes_eq name (codes "mul")) (multiply_in words) (cond (bytes_eq name (codes "div")) (divide_in words) (cond (bytes_eq name (codes "jmp")) (jump_in words) (cond (bytes_eq name (codes "jlt")) (jump_if_less_in words) (cond (bytes_eq name (codes "jeq")) (jump_if_equal_in words) (cond (bytes_eq name (codes "rep")) (repeat_in words) (cond (bytes_eq name (codes "end")) (bare_in End words) (cond (bytes_eq name (codes "first")) (first_in words) (cond (bytes_eq name (codes "child")) (child_in words) (cond (bytes_eq name (codes "move")) (move_in words) (cond (bytes_eq name (codes "rel")) (release_in words) (cond (bytes_eq name (codes "get")) (get_in words) (cond (bytes_eq name (codes "put")) (put_in words) (cond (bytes_eq name (codes "kids")) (kids_in words) (cond (bytes_eq name (codes "emit")) (emit_in words) (cond (bytes_eq name (codes "ret")) (bare_in Return words) (cond (bytes_eq name (codes "repv")) (repeat_by_in words) None)))))))))))))))))) d (Line name words d) e2 (λ t x. named name (codes "add") words d t (add_line words d x)) (λ e3.
    pick (bytes_eq name (codes "sub")) (subtract_in words) (cond (bytes_eq name (codes "mul")) (multiply_in words) (cond (bytes_eq name (codes "div")) (divide_in words) (cond (bytes_eq name (codes "jmp")) (jump_in words) (cond (bytes_eq name (codes "jlt")) (jump_if_less_in words) (cond (bytes_eq name (codes "jeq")) (jump_if_equal_in words) (cond (bytes_eq name (codes "rep")) (repeat_in words) (cond (bytes_eq name (codes "end")) (bare_in End words) (cond (bytes_eq name (codes "first")) (first_in words) (cond (bytes_eq name (codes "child")) (child_in words) (cond (bytes_eq name (codes "move")) (move_in words) (cond (bytes_eq name (codes "rel")) (release_in words) (cond (bytes_eq name (codes "get")) (get_in words) (cond (bytes_eq name (codes "put")) (put_in words) (cond (bytes_eq name (codes "kids")) (kids_in words) (cond (bytes_eq name (codes "emit")) (emit_in words) (cond (bytes_eq name (codes "ret")) (bare_in Return words) (cond (bytes_eq name (codes "repv")) (repeat_by_in words) None))))))))))))))))) d (Line name words d) e3 (λ t x. named name (codes "sub") words d t (sub_line words d x)) (λ e4.
    pick (bytes_eq name (codes "mul")) (multiply_in words) (cond (bytes_eq name (codes "div")) (divide_in words) (cond (bytes_eq name (codes "jmp")) (jump_in words) (cond (bytes_eq name (codes "jlt")) (jump_if_less_in words) (cond (bytes_eq name (codes "jeq")) (jump_if_equal_in words) (cond (bytes_eq name (codes "rep")) (repeat_in words) (cond (bytes_eq name (codes "end")) (bare_in End words) (cond (bytes_eq name (codes "first")) (first_in words) (cond (bytes_eq name (codes "child")) (child_in words) (cond (bytes_eq name (codes "move")) (move_in words) (cond (bytes_eq name (codes "rel")) (release_in words) (cond (bytes_eq name (codes "get")) (get_in words) (cond (bytes_eq name (codes "put")) (put_in words) (cond (bytes_eq name (codes "kids")) (kids_in words) (cond (bytes_eq name (codes "emit")) (emit_in words) (cond (bytes_eq name (codes "ret")) (bare_in Return words) (cond (bytes_eq name (codes "repv")) (repeat_by_in words) None)))))))))))))))) d (Line name words d) e4 (λ t x. named name (codes "mul") words d t (mul_line words d x)) (λ e5.
    pick (bytes_eq name (codes "div")) (divide_in words) (cond (bytes_eq name (codes "jmp")) (jump_in words) (cond (bytes_eq name (codes "jlt")) (jump_if_less_in words) (cond (bytes_eq name (codes "jeq")) (jump_if_equal_in words) (cond (bytes_eq name (codes "rep")) (repeat_in words) (cond (bytes_eq name (codes "end")) (bare_in End words) (cond (bytes_eq name (codes "first")) (first_in words) (cond (bytes_eq name (codes "child")) (child_in words) (cond (bytes_eq name (codes "move")) (move_in words) (cond (bytes_eq name (codes "rel")) (release_in words) (cond (bytes_eq name (codes "get")) (get_in words) (cond (bytes_eq name (codes "put")) (put_in words) (cond (bytes_eq name (codes "kids")) (kids_in words) (cond (bytes_eq name (codes "emit")) (emit_in words) (cond (bytes_eq name (codes "ret")) (bare_in Return words) (cond (bytes_eq name (codes "repv")) (repeat_by_in words) None))))))))))))))) d (Line name words d) e5 (λ t x. named name (codes "div") words d t (div_line words d x)) (λ e6.
    pick (bytes_eq name (codes "jmp")) (jump_in words) (cond (bytes_eq name (codes "jlt")) (jump_if_less_in words) (cond (bytes_eq name (codes "jeq")) (jump_if_equal_in words) (cond (bytes_eq name (codes "rep")) (repeat_in words) (cond (bytes_eq name (codes "end")) (bare_in End words) (cond (bytes_eq name (codes "first")) (first_in words) (cond (bytes_eq name (codes "child")) (child_in words) (cond (bytes_eq name (codes "move")) (move_in words) (cond (bytes_eq name (codes "rel")) (release_in words) (cond (bytes_eq name (codes "get")) (get_in words) (cond (bytes_eq name (codes "put")) (put_in words) (cond (bytes_eq name (codes "kids")) (kids_in words) (cond (bytes_eq name (codes "emit")) (emit_in words) (cond (bytes_eq name (codes "ret")) (bare_in Return words) (cond (bytes_eq name (codes "repv")) (repeat_by_in words) None)))))))))))))) d (Line name words d) e6 (λ t x. named name (codes "jmp") words d t (jmp_line words d x)) (λ e7.
    pick (bytes_eq name (codes "jlt")) (jump_if_less_in words) (cond (bytes_eq name (codes "jeq")) (jump_if_equal_in words) (cond (bytes_eq name (codes "rep")) (repeat_in words) (cond (bytes_eq name (codes "end")) (bare_in End words) (cond (bytes_eq name (codes "first")) (first_in words) (cond (bytes_eq name (codes "child")) (child_in words) (cond (bytes_eq name (codes "move")) (move_in words) (cond (bytes_eq name (codes "rel")) (release_in words) (cond (bytes_eq name (codes "get")) (get_in words) (cond (bytes_eq name (codes "put")) (put_in words) (cond (bytes_eq name (codes "kids")) (kids_in words) (cond (bytes_eq name (codes "emit")) (emit_in words) (cond (bytes_eq name (codes "ret")) (bare_in Return words) (cond (bytes_eq name (codes "repv")) (repeat_by_in words) None))))))))))))) d (Line name words d) e7 (λ t x. named name (codes "jlt") words d t (jlt_line words d x)) (λ e8.
    pick (bytes_eq name (codes "jeq")) (jump_if_equal_in words) (cond (bytes_eq name (codes "rep")) (repeat_in words) (cond (bytes_eq name (codes "end")) (bare_in End words) (cond (bytes_eq name (codes "first")) (first_in words) (cond (bytes_eq name (codes "child")) (child_in words) (cond (bytes_eq name (codes "move")) (move_in words) (cond (bytes_eq name (codes "rel")) (release_in words) (cond (bytes_eq name (codes "get")) (get_in words) (cond (bytes_eq name (codes "put")) (put_in words) (cond (bytes_eq name (codes "kids")) (kids_in words) (cond (bytes_eq name (codes "emit")) (emit_in words) (cond (bytes_eq name (codes "ret")) (bare_in Return words) (cond (bytes_eq name (codes "repv")) (repeat_by_in words) None)))))))))))) d (Line name words d) e8 (λ t x. named name (codes "jeq") words d t (jeq_line words d x)) (λ e9.
    pick (bytes_eq name (codes "rep")) (repeat_in words) (cond (bytes_eq name (codes "end")) (bare_in End words) (cond (bytes_eq name (codes "first")) (first_in words) (cond (bytes_eq name (codes "child")) (child_in words) (cond (bytes_eq name (codes "move")) (move_in words) (cond (bytes_eq name (codes "rel")) (release_in words) (cond (bytes_eq name (codes "get")) (get_in words) (cond (bytes_eq name (codes "put")) (put_in words) (cond (bytes_eq name (codes "kids")) (kids_in words) (cond (bytes_eq name (codes "emit")) (emit_in words) (cond (bytes_eq name (codes "ret")) (bare_in Return words) (cond (bytes_eq name (codes "repv")) (repeat_by_in words) None))))))))))) d (Line name words d) e9 (λ t x. named name (codes "rep") words d t (rep_line words d x)) (λ e10.
    pick (bytes_eq name (codes "end")) (bare_in End words) (cond (bytes_eq name (codes "first")) (first_in words) (cond (bytes_eq name (codes "child")) (child_in words) (cond (bytes_eq name (codes "move")) (move_in words) (cond (bytes_eq name (codes "rel")) (release_in words) (cond (bytes_eq name (codes "get")) (get_in words) (cond (bytes_eq name (codes "put")) (put_in words) (cond (bytes_eq name (codes "kids")) (kids_in words) (cond (bytes_eq name (codes "emit")) (emit_in words) (cond (bytes_eq name (codes "ret")) (bare_in Return words) (cond (bytes_eq name (codes "repv")) (repeat_by_in words) None)))))))))) d (Line name words d) e10 (λ t x. named name (codes "end") words d t (end_line words d x)) (λ e11.
    pick (bytes_eq name (codes "first")) (first_in words) (cond (bytes_eq name (codes "child")) (child_in words) (cond (bytes_eq name (codes "move")) (move_in words) (cond (bytes_eq name (codes "rel")) (release_in words) (cond (bytes_eq name (codes "get")) (get_in words) (cond (bytes_eq name (codes "put")) (put_in words) (cond (bytes_eq name (codes "kids")) (kids_in words) (cond (bytes_eq name (codes "emit")) (emit_in words) (cond (bytes_eq name (codes "ret")) (bare_in Return words) (cond (bytes_eq name (codes "repv")) (repeat_by_in words) None))))))))) d (Line name words d) e11 (λ t x. named name (codes "first") words d t (first_line words d x)) (λ e12.
    pick (bytes_eq name (codes "child")) (child_in words) (cond (bytes_eq name (codes "move")) (move_in words) (cond (bytes_eq name (codes "rel")) (release_in words) (cond (bytes_eq name (codes "get")) (get_in words) (cond (bytes_eq name (codes "put")) (put_in words) (cond (bytes_eq name (codes "kids")) (kids_in words) (cond (bytes_eq name (codes "emit")) (emit_in words) (cond (bytes_eq name (codes "ret")) (bare_in Return words) (cond (bytes_eq name (codes "repv")) (repeat_by_in words) None)))))))) d (Line name words d) e12 (λ t x. named name (codes "child") words d t (child_line words d x)) (λ e13.
    pick (bytes_eq name (codes "move")) (move_in words) (cond (bytes_eq name (codes "rel")) (release_in words) (cond (bytes_eq name (codes "get")) (get_in words) (cond (bytes_eq name (codes "put")) (put_in words) (cond (bytes_eq name (codes "kids")) (kids_in words) (cond (bytes_eq name (codes "emit")) (emit_in words) (cond (bytes_eq name (codes "ret")) (bare_in Return words) (cond (bytes_eq name (codes "repv")) (repeat_by_in words) None))))))) d (Line name words d) e13 (λ t x. named name (codes "move") words d t (move_line words d x)) (λ e14.
    pick (bytes_eq name (codes "rel")) (release_in words) (cond (bytes_eq name (codes "get")) (get_in words) (cond (bytes_eq name (codes "put")) (put_in words) (cond (bytes_eq name (codes "kids")) (kids_in words) (cond (bytes_eq name (codes "emit")) (emit_in words) (cond (bytes_eq name (codes "ret")) (bare_in Return words) (cond (bytes_eq name (codes "repv")) (repeat_by_in words) None)))))) d (Line name words d) e14 (λ t x. named name (codes "rel") words d t (rel_line words d x)) (λ e15.
    pick (bytes_eq name (codes "get")) (get_in words) (cond (bytes_eq name (codes "put")) (put_in words) (cond (bytes_eq name (codes "kids")) (kids_in words) (cond (bytes_eq name (codes "emit")) (emit_in words) (cond (bytes_eq name (codes "ret")) (bare_in Return words) (cond (bytes_eq name (codes "repv")) (repeat_by_in words) None))))) d (Line name words d) e15 (λ t x. named name (codes "get") words d t (get_line words d x)) (λ e16.
    pick (bytes_eq name (codes "put")) (put_in words) (cond (bytes_eq name (codes "kids")) (kids_in words) (cond (bytes_eq name (codes "emit")) (emit_in words) (cond (bytes_eq name (codes "ret")) (bare_in Return words) (cond (bytes_eq name (codes "repv")) (repeat_by_in words) None)))) d (Line name words d) e16 (λ t x. named name (codes "put") words d t (put_line words d x)) (λ e17.
    pick (bytes_eq name (codes "kids")) (kids_in words) (cond (bytes_eq name (codes "emit")) (emit_in words) (cond (bytes_eq name (codes "ret")) (bare_in Return words) (cond (bytes_eq name (codes "repv")) (repeat_by_in words) None))) d (Line name words d) e17 (λ t x. named name (codes "kids") words d t (kids_line words d x)) (λ e18.
    pick (bytes_eq name (codes "emit")) (emit_in words) (cond (bytes_eq name (codes "ret")) (bare_in Return words) (cond (bytes_eq name (codes "repv")) (repeat_by_in words) None)) d (Line name words d) e18 (λ t x. named name (codes "emit") words d t (emit_line words d x)) (λ e19.
    pick (bytes_eq name (codes "ret")) (bare_in Return words) (cond (bytes_eq name (codes "repv")) (repeat_by_in words) None) d (Line name words d) e19 (λ t x. named name (codes "ret") words d t (ret_line words d x)) (λ e20.
    pick (bytes_eq name (codes "repv")) (repeat_by_in words) None d (Line name words d) e20 (λ t x. named name (codes "repv") words d t (repv_line words d x)) (λ e21.
    absurd (cc e21))))))))))))))))))))))

-- ---- from the words to what is read

read_words : List Word → Option DraftValue
read_words [] = None
read_words (name ∷ words) = draft_in name words

with_label : Instr → Option Word → DraftValue
with_label i label = record { instr = i; label = label }

read_again : (i : Instr) (label : Option Word) → InRange i → IsLabelFor (target i) label → read_words (words_to (label_or_none label) i) ≡ Some (with_label i label)
unfolding read_words with_label otherwise_in bare_in set_in copy_in arithmetic_in add_in subtract_in multiply_in divide_in jump_in comparison_in jump_if_less_in jump_if_equal_in repeat_in repeat_by_in first_in child_in move_in release_in get_in put_in kids_in emit_in draft_in
read_again (Set to number) label h k = rw (value_again to h.0, signed_again number h.1) (ap (λ l. Some (with_label (Set to number) l)) (sym k))
read_again (Copy to from) label h k = rw (value_again to h.0, value_again from h.1) (ap (λ l. Some (with_label (Copy to from) l)) (sym k))
read_again (Add to left right otherwise) None h k = absurd k
read_again (Add to left right otherwise) (Some w) h k = rw (value_again to h.0, value_again left h.1, value_again right h.2, k.1) (ap (λ o. Some (with_label (Add to left right o) (Some w))) (sym k.0))
read_again (Subtract to left right otherwise) None h k = absurd k
read_again (Subtract to left right otherwise) (Some w) h k = rw (value_again to h.0, value_again left h.1, value_again right h.2, k.1) (ap (λ o. Some (with_label (Subtract to left right o) (Some w))) (sym k.0))
read_again (Multiply to left right otherwise) None h k = absurd k
read_again (Multiply to left right otherwise) (Some w) h k = rw (value_again to h.0, value_again left h.1, value_again right h.2, k.1) (ap (λ o. Some (with_label (Multiply to left right o) (Some w))) (sym k.0))
read_again (Divide to left right otherwise) None h k = absurd k
read_again (Divide to left right otherwise) (Some w) h k = rw (value_again to h.0, value_again left h.1, value_again right h.2, k.1) (ap (λ o. Some (with_label (Divide to left right o) (Some w))) (sym k.0))
read_again (Jump to) None h k = absurd k
read_again (Jump to) (Some w) h k = rw (k.1) (ap (λ o. Some (with_label (Jump o) (Some w))) (sym k.0))
read_again (JumpIfLess left right to) None h k = absurd k
read_again (JumpIfLess left right to) (Some w) h k = rw (value_again left h.0, value_again right h.1, k.1) (ap (λ o. Some (with_label (JumpIfLess left right o) (Some w))) (sym k.0))
read_again (JumpIfEqual left right to) None h k = absurd k
read_again (JumpIfEqual left right to) (Some w) h k = rw (value_again left h.0, value_again right h.1, k.1) (ap (λ o. Some (with_label (JumpIfEqual left right o) (Some w))) (sym k.0))
read_again (Repeat count) label h k = rw (number_again 65536 count h (omega arith)) (ap (λ l. Some (with_label (Repeat count) l)) (sym k))
read_again (RepeatBy turns count) label h k = rw (value_again turns h.0, number_again 65536 count h.1 (omega arith)) (ap (λ l. Some (with_label (RepeatBy turns count) l)) (sym k))
read_again End label h k = (ap (λ l. Some (with_label End l)) (sym k))
read_again (First to number otherwise) None h k = absurd k
read_again (First to number otherwise) (Some w) h k = rw (node_again to h.0, value_again number h.1, k.1) (ap (λ o. Some (with_label (First to number o) (Some w))) (sym k.0))
read_again (Child to parent number otherwise) None h k = absurd k
read_again (Child to parent number otherwise) (Some w) h k = rw (node_again to h.0, node_again parent h.1, value_again number h.2, k.1) (ap (λ o. Some (with_label (Child to parent number o) (Some w))) (sym k.0))
read_again (Move to from) label h k = rw (node_again to h.0, node_again from h.1) (ap (λ l. Some (with_label (Move to from) l)) (sym k))
read_again (Release node) label h k = rw (node_again node h) (ap (λ l. Some (with_label (Release node) l)) (sym k))
read_again (Get to node field) label h k = rw (value_again to h.0, node_again node h.1, number_again field_count field h.2 (omega arith)) (ap (λ l. Some (with_label (Get to node field) l)) (sym k))
read_again (Put node field from) label h k = rw (node_again node h.0, number_again field_count field h.1 (omega arith), value_again from h.2) (ap (λ l. Some (with_label (Put node field from) l)) (sym k))
read_again (Kids to node) label h k = rw (value_again to h.0, node_again node h.1) (ap (λ l. Some (with_label (Kids to node) l)) (sym k))
read_again (Emit from) label h k = rw (value_again from h) (ap (λ l. Some (with_label (Emit from) l)) (sym k))
read_again Return label h k = (ap (λ l. Some (with_label Return l)) (sym k))

pub line_read : (name : Word) (words : List Word) (d : DraftValue) → (draft_in name words ≡ Some d) ↔ IsLineOf d (name ∷ words)
unfolding Line read_words with_label
line_read name words d = (line_of_read name words d, λ h. ap read_words h.words_are ∙ read_again d.instr d.label h.in_range h.label)
