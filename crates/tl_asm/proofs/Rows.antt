-- Worked examples for the definitions.
use Rattle.std.proofs.Common.{◌≡◌, [], ◌∷◌, Some, None, refl}
use Rattle.std.specs.Prelude.{negsuc}
use Rattle.std.specs.Fmt.{digits}
use lib.Chars.{codes}
use Rattle.tl_instr.specs.declared.version.Version.TheVariants.{One, Two}
use Rattle.tl_instr.specs.declared.instr.Instr.TheVariants.{Set, Add, Jump, RepeatBy, End, Put, Return}
use Rattle.tl_asm.specs.declared.fault.AsmFault.TheVariants.{NoLabel, TooLong}
use Rattle.tl_asm.specs.Words.{lines_of, words_of}
use Rattle.tl_asm.specs.Tokens.{number_in, register_in, signed_in, is_label}
use Rattle.tl_asm.specs.Statements.{Blank, Version2, Takes, Names, Does, plain, going, otherwise_in, bare_in, set_in, arithmetic_in, add_in, repeat_by_in, put_in, draft_in, said_in, says}
use Rattle.tl_asm.specs.Texts.{statements, version_in, labels_in, drafts_in, aimed}
use Rattle.tl_asm.specs.Faults.{numbers_of}
use Rattle.tl_asm.specs.Listing.{listing}

two_lines : lines_of (codes "ret\n") ≡ codes "ret" ∷ [] ∷ []
two_lines = refl

one_line : lines_of [] ≡ [] ∷ []
one_line = refl

words : words_of (codes " jmp \t a  ") ≡ codes "jmp" ∷ codes "a" ∷ []
unfolding words_of
words = refl

blank : says (codes " \t; only a comment") ≡ Some Blank
unfolding words_of said_in
blank = refl

arity : says (codes "arity 8") ≡ Some (Takes 8)
unfolding words_of said_in number_in
arity = refl

arity_too_large : says (codes "arity 9") ≡ None
unfolding words_of said_in number_in
arity_too_large = refl

label : says (codes "loop_1: ;") ≡ Some (Names (codes "loop_1"))
unfolding words_of said_in is_label
label = refl

no_label : says (codes "1a:") ≡ None
unfolding words_of said_in is_label
no_label = refl

negative : says (codes "set v3 -2") ≡ Some (Does (plain (Set 3 (negsuc 1))))
unfolding words_of said_in draft_in set_in register_in number_in signed_in
negative = refl

negative_zero : says (codes "set v3 -0") ≡ None
unfolding words_of said_in draft_in set_in register_in number_in signed_in
negative_zero = refl

leading_zero : says (codes "set v03 1") ≡ None
unfolding words_of said_in draft_in set_in register_in number_in signed_in
leading_zero = refl

no_such_register : says (codes "set v16 1") ≡ None
unfolding words_of said_in draft_in set_in register_in number_in signed_in
no_such_register = refl

with_a_label : says (codes "add v2 v15 v1 else L4") ≡ Some (Does (going (codes "L4") (Add 2 15 1 0)))
unfolding words_of said_in draft_in add_in arithmetic_in otherwise_in register_in number_in is_label
with_a_label = refl

without_else : says (codes "add v2 v15 v1 L4") ≡ None
unfolding words_of said_in draft_in add_in arithmetic_in otherwise_in register_in number_in is_label
without_else = refl

field : says (codes "put n0 3 v2") ≡ Some (Does (plain (Put 0 3 2)))
unfolding words_of said_in draft_in put_in register_in number_in
field = refl

too_many_words : says (codes "ret ret") ≡ None
unfolding words_of said_in draft_in bare_in
too_many_words = refl

label_at_the_end : labels_in 0 (statements (codes "arity 0\nret\nend_:")) ≡ (codes "end_", 1) ∷ []
unfolding words_of said_in draft_in bare_in number_in is_label
label_at_the_end = refl

second_line : drafts_in 1 (statements (codes "arity 0\nret")) ≡ (2, plain Return) ∷ []
unfolding words_of said_in draft_in bare_in number_in
second_line = refl

known : aimed ((codes "a", 0) ∷ (codes "b", 7) ∷ []) (Jump 0) (Some (codes "b")) ≡ Some (Jump 7)
known = refl

unknown : aimed ((codes "a", 0) ∷ []) (Jump 0) (Some (codes "b")) ≡ None
unknown = refl

second_version : says (codes " version\t2 ; newer") ≡ Some Version2
unfolding words_of said_in
second_version = refl

no_third_version : says (codes "version 3") ≡ None
unfolding words_of said_in
no_third_version = refl

turns_of_a_register : says (codes "repv v0 10") ≡ Some (Does (plain (RepeatBy 0 10)))
unfolding words_of said_in draft_in repeat_by_in register_in number_in
turns_of_a_register = refl

version_of_text : version_in (statements (codes "; a comment\nversion 2\narity 0\nret")) ≡ Two
unfolding words_of said_in draft_in bare_in number_in
version_of_text = refl

listed_with_version : listing (record { version = Two; arity = 1; instrs = RepeatBy 0 10 ∷ End ∷ Return ∷ [] }) ≡ codes "version 2\narity 1\nrepv v0 10\nend\nret\n"
unfolding digits
listed_with_version = refl

labels_listed : listing (record { version = One; arity = 1; instrs = Jump 2 ∷ Set 3 (negsuc 1) ∷ [] }) ≡ codes "arity 1\njmp L2\nset v3 -2\nL2:\n"
unfolding digits
labels_listed = refl

numbers : numbers_of (NoLabel 2) ≡ 252 ∷ 2 ∷ []
numbers = refl

number_alone : numbers_of TooLong ≡ 254 ∷ []
number_alone = refl
