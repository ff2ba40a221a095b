-- Tokens and instructions are read back as they are written.
use Rattle.std.proofs.Common.{◌≡◌, ◌≢◌, ℕ, zero, suc, ◌<◌, ◌≤◌, ◌^◌, List, [], ◌∷◌, ◌++◌, length, get_or, refl, ◌∙◌, ap, arith, Bool, true, false, ◌==◌, not, ◌||◌, ◌&&◌, Some, option_map, slice_index, ◌-◌, length-append}
use Rattle.std.proofs.Math.Seq.{get_or-append_seam, take-append_seam}
use Rattle.std.specs.Prelude.{ℤ, pos, negsuc}
use Rattle.std.specs.Int.{w32}
use Rattle.std.specs.Int.RustNames.{FitsSigned}
use Rattle.std.specs.Char.{is_ascii_digit}
use Rattle.std.specs.List.{list_all}
use Rattle.std.specs.Fmt.{decimal, signed_decimal}
use Rattle.std.specs.Str.{all_ascii_digits}
use Rattle.std.proofs.lemmas.Bool.{ne_eqb, lt-ltb}
use Rattle.std.proofs.lemmas.Fmt.{digits_decimal, digits_value-decimal, decimal_nonempty, decimal_digit, first_decimal, length-decimal-le}
use Rattle.tl_instr.specs.declared.instr.Instr.{Instr}
use Rattle.tl_instr.specs.declared.instr.Instr.TheVariants.{Set, Copy, Add, Subtract, Multiply, Divide, Jump, JumpIfLess, JumpIfEqual, Repeat, RepeatBy, End, First, Child, Move, Release, Get, Put, Kids, Emit, Return}
use Rattle.tl_instr.specs.Instructions.{InRange, GoesWithin, target, with_target}
use Rattle.tl_width.specs.Fields.{field_count}
use Rattle.tl_instr.specs.declared.operand.TheConstants.{VALUE_REGISTERS, NODE_REGISTERS}
use Rattle.tl_asm.specs.Tokens.{is_number, number_in, register_in, signed_in, continues_label, is_label}
use Rattle.tl_asm.specs.Statements.{DraftValue, Version2, Takes, Names, Does, otherwise_in, bare_in, set_in, copy_in, arithmetic_in, add_in, subtract_in, multiply_in, divide_in, jump_in, comparison_in, jump_if_less_in, jump_if_equal_in, repeat_in, repeat_by_in, first_in, child_in, move_in, release_in, get_in, put_in, kids_in, emit_in, draft_in, said_in}
use Rattle.tl_asm.specs.Listing.{label_word, instr_words}
use lib.Chars.{codes}
use Rattle.tl_asm.proofs.DecimalNumbers.{own}

pub either_true : (a b : Bool) → b ≡ true → (a || b) ≡ true
either_true true b e = refl
either_true false b e = e

no_zero_first : (n : ℕ) → n < 2 ^ 64 → ((length (decimal n) == 1) || not (slice_index (decimal n) 0 == 48)) ≡ true
no_zero_first zero lt = rw (decimal_digit 0 (omega arith)) refl
no_zero_first (suc n) lt =
    let first : 48 < get_or (decimal (suc n)) 0 0 = first_decimal (suc n) (omega arith) lt in
    either_true (length (decimal (suc n)) == 1) (not (slice_index (decimal (suc n)) 0 == 48)) (ap not (ne_eqb (slice_index (decimal (suc n)) 0) 48 (λ e. omega (arith, e, first))))

is_number_again : (n : ℕ) → n < 2 ^ 64 → is_number (decimal n) ≡ true
is_number_again n lt = rw (lt-ltb 0 (length (decimal n)) (decimal_nonempty n lt), digits_decimal own n lt, no_zero_first n lt) refl

pub number_again : (limit n : ℕ) → n < limit → limit < 2 ^ 64 → number_in limit (decimal n) ≡ Some n
unfolding number_in
number_again limit n lt fits =
    let small : n < 2 ^ 64 = omega arith in
    rw (is_number_again n small, digits_value-decimal own n small, lt-ltb n limit lt) refl

pub value_again : (n : ℕ) → n < VALUE_REGISTERS → register_in 118 VALUE_REGISTERS (118 ∷ decimal n) ≡ Some n
unfolding register_in
value_again n lt = number_again VALUE_REGISTERS n lt (omega arith)

pub node_again : (n : ℕ) → n < NODE_REGISTERS → register_in 110 NODE_REGISTERS (110 ∷ decimal n) ≡ Some n
unfolding register_in
node_again n lt = number_again NODE_REGISTERS n lt (omega arith)

unsigned : (ds : List ℕ) → 0 < length ds → get_or ds 0 0 ≢ 45 → signed_in ds ≡ option_map pos (number_in 2147483648 ds)
unfolding signed_in
unsigned [] some other = absurd (omega (arith, some))
unsigned (d ∷ ds) some other = rw (ne_eqb d 45 other) refl

not_minus : (n : ℕ) → n < 2 ^ 64 → get_or (decimal n) 0 0 ≢ 45
not_minus zero lt = rw (decimal_digit 0 (omega arith)) (λ e. absurd (omega (arith, e)))
not_minus (suc n) lt = let first : 48 < get_or (decimal (suc n)) 0 0 = first_decimal (suc n) (omega arith) lt in λ e. omega (arith, first, e)

pub signed_again : (z : ℤ) → FitsSigned w32 z → signed_in (signed_decimal z) ≡ Some z
unfolding signed_in
signed_again (pos n) fits =
    let lt : n < 2147483648 = fits.sfits in
    let small : n < 2 ^ 64 = omega arith in
    unsigned (decimal n) (decimal_nonempty n small) (not_minus n small) ∙ ap (option_map pos) (number_again 2147483648 n lt (omega arith))
signed_again (negsuc n) fits =
    let lt : n < 2147483648 = fits.sfits in
    rw (number_again 2147483649 (suc n) (omega arith) (omega arith), ne_eqb (suc n) 0 (λ e. omega (arith, e))) refl

pub both_true : (a b : Bool) → (a && b) ≡ true → (a ≡ true) × (b ≡ true)
both_true true b e = (refl, e)
both_true false b e = absurd (cc)

all_continue : (ds : List ℕ) → all_ascii_digits ds ≡ true → list_all continues_label ds ≡ true
all_continue [] h = refl
all_continue (d ∷ ds) h =
    let parts = both_true (is_ascii_digit d) (all_ascii_digits ds) h in
    let digit : is_ascii_digit d ≡ true = parts.0 in
    rw (digit, all_continue ds parts.1) refl

pub label_again : (pc : ℕ) → pc ≤ 1024 → is_label (76 ∷ decimal pc) ≡ true
unfolding is_label
label_again pc le =
    let small : pc < 2 ^ 64 = omega arith in
    let short : length (decimal pc) < 32 = omega (arith, length-decimal-le 4 pc (omega arith) (omega arith) small) in
    rw (lt-ltb (length (decimal pc)) 32 short, all_continue (decimal pc) (digits_decimal own pc small)) refl

-- an instruction whose target isn't resolved
abbrev pub drafted : Instr → DraftValue
drafted i = record { instr = with_target 0 i; label = option_map label_word (target i) }

pub instr_again : (i : Instr) → InRange i → GoesWithin 1024 i → said_in (instr_words i) ≡ Some (Does (drafted i))
unfolding otherwise_in bare_in set_in copy_in arithmetic_in add_in subtract_in multiply_in divide_in jump_in comparison_in jump_if_less_in jump_if_equal_in repeat_in repeat_by_in first_in child_in move_in release_in get_in put_in kids_in emit_in draft_in said_in
instr_again (Set to number) h t = rw (value_again to h.0, signed_again number h.1) refl
instr_again (Copy to from) h t = rw (value_again to h.0, value_again from h.1) refl
instr_again (Add to left right otherwise) h t = rw (value_again to h.0, value_again left h.1, value_again right h.2, label_again otherwise t) refl
instr_again (Subtract to left right otherwise) h t = rw (value_again to h.0, value_again left h.1, value_again right h.2, label_again otherwise t) refl
instr_again (Multiply to left right otherwise) h t = rw (value_again to h.0, value_again left h.1, value_again right h.2, label_again otherwise t) refl
instr_again (Divide to left right otherwise) h t = rw (value_again to h.0, value_again left h.1, value_again right h.2, label_again otherwise t) refl
instr_again (Jump to) h t = rw (label_again to t) refl
instr_again (JumpIfLess left right to) h t = rw (value_again left h.0, value_again right h.1, label_again to t) refl
instr_again (JumpIfEqual left right to) h t = rw (value_again left h.0, value_again right h.1, label_again to t) refl
instr_again (Repeat count) h t = rw (number_again 65536 count h (omega arith)) refl
instr_again (RepeatBy turns count) h t = rw (value_again turns h.0, number_again 65536 count h.1 (omega arith)) refl
instr_again End h t = refl
instr_again (First to number otherwise) h t = rw (node_again to h.0, value_again number h.1, label_again otherwise t) refl
instr_again (Child to parent number otherwise) h t = rw (node_again to h.0, node_again parent h.1, value_again number h.2, label_again otherwise t) refl
instr_again (Move to from) h t = rw (node_again to h.0, node_again from h.1) refl
instr_again (Release node) h t = rw (node_again node h) refl
instr_again (Get to node field) h t = rw (value_again to h.0, node_again node h.1, number_again field_count field h.2 (omega arith)) refl
instr_again (Put node field from) h t = rw (node_again node h.0, number_again field_count field h.1 (omega arith), value_again from h.2) refl
instr_again (Kids to node) h t = rw (value_again to h.0, node_again node h.1) refl
instr_again (Emit from) h t = rw (value_again from h) refl
instr_again Return h t = refl

pub arity_again : (n : ℕ) → n ≤ 8 → said_in (codes "arity" ∷ decimal n ∷ []) ≡ Some (Takes n)
unfolding said_in
arity_again n le = rw (number_again 9 n (omega arith) (omega arith)) refl

pub version_again : said_in (codes "version" ∷ codes "2" ∷ []) ≡ Some Version2
unfolding said_in
version_again = refl

-- a label's line
pub label_line_again : (pc : ℕ) → pc ≤ 1024 → said_in ((label_word pc ++ 58 ∷ []) ∷ []) ≡ Some (Names (label_word pc))
unfolding said_in
label_line_again pc le =
    let long : length (label_word pc ++ 58 ∷ []) - 1 ≡ length (label_word pc) = omega (arith, length-append (label_word pc) (58 ∷ [])) in
    rw (long, get_or-append_seam (label_word pc) 58 [] 0, take-append_seam (label_word pc) (58 ∷ []), label_again pc le) refl
