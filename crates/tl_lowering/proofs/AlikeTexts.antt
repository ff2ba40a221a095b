-- Texts with alike declarations have the same program, except for the memory that its parts occupy.
use Rattle.std.proofs.Common.{◌≡◌, ◌∙◌, ℕ, zero, suc, ℤ, List, [], ◌∷◌, ◌++◌, length, get_or, Option, None, refl, sym, ap, ap₂, subst, arith}
use Rattle.tl_syntax.specs.declared.parsed.Name.{Name}
use Rattle.tl_syntax.specs.declared.parsed.Expression.{Expression}
use Rattle.tl_syntax.specs.declared.parsed.Procedure.{Procedure as TextProcedure}
use Rattle.tl_syntax.specs.declared.parsed.Part.{Part}
use Rattle.tl_syntax.specs.declared.parsed.Declaration.{Declaration}
use Rattle.tl_syntax.specs.declared.parsed.Declaration.TheVariants as D
use Rattle.tl_syntax.specs.Alike.{AlikeForm, AlikeProcedure, AlikeDeclaration}
use Rattle.tl_syntax.proofs.AlikeParts.{PairedDeclarations, paired_nothing, paired_declaration, push_declaration, paired_declarations, same_declaration_rank, field_of, constant_of, procedure_of, part_of, part_name}
use Rattle.tl_syntax.specs.Tokens.{AreTokens}
use Rattle.tl_syntax.specs.Declarations.{IsFile}
use Rattle.tl_syntax.proofs.NamesOnce.{names_once}
use Rattle.tl_syntax.proofs.TokensOnce.{tokens_once}
use Rattle.tl_syntax.proofs.DeclarationsOnce.{file_once}
use Rattle.tl_lowering.specs.declared.program.Procedure.{Procedure}
use Rattle.tl_lowering.specs.declared.program.Statement.{Statement}
use Rattle.tl_lowering.specs.Alike.{SameStatement, same_skip, same_let, same_constant, SameProcedure, SameProcedures, no_procedures, more_procedures}
use Rattle.tl_lowering.specs.Names.{Names, with_constant, with_field, with_procedure, with_values, without_meaning}
use Rattle.tl_lowering.specs.Failing.{nothing_read}
use Rattle.tl_lowering.specs.Reading.{IsBlock, readers_in, names_in_body, names_in_else, IsCaught, unnamed, named, IsBody, IsProcedure, IsProgram, IsWithField, AreDeclared, none_declared, next_field, next_constant, next_procedure, next_part}
use Rattle.tl_lowering.proofs.AlikeLemmas.{alike_constant}
use Rattle.tl_lowering.proofs.AlikeBlocks.{block_itself, alike_block, AlikeBefore, tried_of}

-- ---- parts

paired_alike : {ds es : List Declaration} → PairedDeclarations ds es → AlikeBefore ds es
paired_alike paired_nothing k p q e f itself = cc
paired_alike (paired_declaration {d = d} {e = b} x h) zero p q e f itself =
    let first : d ≡ D.Part p = cc in
    let second : b ≡ D.Part q = cc in
    part_of itself (subst (AlikeDeclaration (D.Part p)) second (subst (λ z. AlikeDeclaration z b) first x))
paired_alike (paired_declaration x h) (suc k) p q e f itself = paired_alike h k p q e f itself

paired_length : {ds es : List Declaration} → PairedDeclarations ds es → length ds ≡ length es
paired_length paired_nothing = refl
paired_length (paired_declaration x h) = ap suc (paired_length h)

-- ---- procedures

caught_of : {names : Names} {why : Option Name} {a b c d e f : Statement} → SameStatement a c → SameStatement b d → IsCaught names a b why e → IsCaught names c d why f → SameStatement e f
caught_of x y (unnamed t) (unnamed u) = tried_of x y t u
caught_of x y (named t) (named u) = same_let refl (same_constant refl) (tried_of x y t u)

alike_body : {before later : List Declaration} {names : Names} {text other : TextProcedure} {a b : Statement} → AlikeBefore before later → AlikeProcedure text other → IsBody before names text a →
    IsBody later names other b → SameStatement a b
alike_body {later = later} {names} {text} {other} parts s g h =
    let body : IsBlock later (readers_in names text.why) (names_in_body names text.why) other.body.items h.body =
    subst (λ z. IsBlock later (readers_in names z) (names_in_body names z) other.body.items h.body) (sym s.why) h.body_is in
    let handler : IsBlock later nothing_read (names_in_else names text.why) other.otherwise.items h.handler =
    subst (λ z. IsBlock later nothing_read (names_in_else names z) other.otherwise.items h.handler) (sym s.why) h.handler_is in
    let handled : IsCaught names h.body h.handler text.why h.handled = subst (λ z. IsCaught names h.body h.handler z h.handled) (sym s.why) h.handled_is in
    tried_of (caught_of (alike_block parts s.body g.body_is body) (alike_block parts s.otherwise g.handler_is handler) g.handled_is handled) same_skip g.whole_is h.whole_is

same_later : {k : ℕ} {names a b : Names} {name : Name} {x y : Expression} → AlikeForm x.form y.form → IsWithField k names name x a → IsWithField k names name y b → a ≡ b
same_later {k} {names} {name = name} s g h =
    let w = alike_constant s g.number_is h.number_is in
    let same : g.field ≡ h.field = cc in
    g.later_is ∙ ap (λ f. with_field names name f k) same ∙ sym h.later_is

alike_procedure : {spellings : List (List ℕ)} {before later : List Declaration} {names : Names} {text other : TextProcedure} {p q : Procedure} → AlikeBefore before later → AlikeProcedure text other →
    IsProcedure spellings before names text p → IsProcedure spellings later names other q → SameProcedure p q
alike_procedure {spellings} {before} {later} {names} {other = other} {q = q} parts s f k = record {
  name = f.name ∙ ap (λ (n : Name). get_or spellings n.symbol.0 []) s.name ∙ sym k.name;
  offset = f.offset ∙ ap (λ (n : Name). n.offset) s.name ∙ sym k.offset;
  arity = f.arity ∙ ap length s.arguments ∙ sym k.arity;
  body = alike_body parts s f.body (subst (λ n. IsBody later (with_values names n) other q.body) (sym s.arguments) k.body);
}

procedure_itself : {spellings : List (List ℕ)} {before : List Declaration} {names : Names} {text : TextProcedure} {p : Procedure} → IsProcedure spellings before names text p → AlikeProcedure text text
procedure_itself f = record { mark = refl; name = refl; arguments = refl; body = block_itself f.body.body_is; why = refl; otherwise = block_itself f.body.handler_is }

pub alike_procedures : {spellings : List (List ℕ)} {before later : List Declaration} {names : Names} {ds es : List Declaration} {ps qs : List Procedure} → PairedDeclarations before later →
    PairedDeclarations ds es → AreDeclared spellings before names ds ps → AreDeclared spellings later names es qs → SameProcedures ps qs
alike_procedures parts s none_declared none_declared = no_procedures
alike_procedures {spellings} {before} {later} {names} {qs = qs} parts (paired_declaration {e = d} {es = rest} x s) (next_field {name = n} {number = v} f g) (next_field {later = now} {name = m} {number = w} k h) =
    let same = field_of x in
    let first : IsWithField (length later) names n w now = subst (λ z. IsWithField (length later) names z w now) (sym same.0) k in
    let here : IsWithField (length before) names n w now = subst (λ z. IsWithField z names n w now) (sym (paired_length parts)) first in
    alike_procedures (push_declaration x parts) s g (subst (λ n. AreDeclared spellings (later ++ d ∷ []) n rest qs) (sym (same_later same.1 f here)) h)
alike_procedures {spellings} {before} {later} {names} {qs = qs} parts (paired_declaration {e = d} {es = rest} x s) (next_constant {name = n} {number = v} f i g) (next_constant {name = m} {number = w} k j h) =
    let same = constant_of x in
    let first : AreDeclared spellings (later ++ d ∷ []) (with_constant names n w (length later)) rest qs =
    subst (λ z. AreDeclared spellings (later ++ d ∷ []) (with_constant names z w (length later)) rest qs) (sym same.0) h in
    let here : AreDeclared spellings (later ++ d ∷ []) (with_constant names n w (length before)) rest qs =
    subst (λ z. AreDeclared spellings (later ++ d ∷ []) (with_constant names n w z) rest qs) (sym (paired_length parts)) first in
    alike_procedures (push_declaration x parts) s g
    (subst (λ z. AreDeclared spellings (later ++ d ∷ []) (with_constant names n z (length before)) rest qs) (sym (alike_constant same.1 i j)) here)
alike_procedures {spellings} {before} {later} {names} parts (paired_declaration {e = d} {es = rest} x s) (next_procedure {text = text} fresh f g) (next_procedure {text = other} {p = q} {ps = qs} again k h) =
    let same = procedure_of (procedure_itself f) x in
    let count : length later ≡ length before = sym (paired_length parts) in
    let with_name : with_procedure names other.name (length later) ≡ with_procedure names text.name (length before) = ap₂ (with_procedure names) (sym same.name) count in
    let one : IsProcedure spellings later (with_procedure names text.name (length before)) other q = subst (λ n. IsProcedure spellings later n other q) with_name k in
    let others : AreDeclared spellings (later ++ d ∷ []) (with_procedure names text.name (length before)) rest qs = subst (λ n. AreDeclared spellings (later ++ d ∷ []) n rest qs) with_name h in
    more_procedures (alike_procedure (paired_alike parts) same f one) (alike_procedures (push_declaration x parts) s g others)
alike_procedures {spellings} {before} {later} {names} {qs = qs} parts (paired_declaration {e = d} {es = rest} x s) (next_part {part = p} fresh g) (next_part {part = q} again h) =
    let same = part_name x in
    let count : length later ≡ length before = sym (paired_length parts) in
    let with_name : with_procedure names q.name (length later) ≡ with_procedure names p.name (length before) = ap₂ (with_procedure names) (sym same) count in
    alike_procedures (push_declaration x parts) s g (subst (λ n. AreDeclared spellings (later ++ d ∷ []) n rest qs) with_name h)
alike_procedures parts (paired_declaration x s) a b = absurd (omega (arith, same_declaration_rank x))

pub one_program : {text : List ℕ} {ps qs : List Procedure} → IsProgram text ps → IsProgram text qs → SameProcedures ps qs
one_program {text} {qs = qs} x y =
    let words : x.names ≡ y.names = names_once x.read.words y.read.words x.read.distinct y.read.distinct x.read.read y.read.read x.read.numbered y.read.numbered in
    let read : AreTokens x.names 0 text y.read.tokens = subst (λ l. AreTokens l 0 text y.read.tokens) (sym words) y.read.read in
    let spelled : IsFile x.read.tokens y.declarations = subst (λ z. IsFile z y.declarations) (sym (tokens_once x.read.distinct x.read.read read)) y.read.spelled in
    let declared : AreDeclared x.names [] (without_meaning (length x.names)) y.declarations qs =
    subst (λ l. AreDeclared l [] (without_meaning (length l)) y.declarations qs) (sym words) y.declared in
    alike_procedures paired_nothing (paired_declarations (file_once x.read.spelled spelled)) x.declared declared
