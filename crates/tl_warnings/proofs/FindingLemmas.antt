-- The warnings of a block, statement by statement.
use Rattle.std.proofs.lemmas.List.{take_more}
use Rattle.std.proofs.Common.{◌≡◌, ℕ, ◌+◌, ◌<◌, ◌≤◌, List, Option, length, get_or, take, drop, sym, subst}
use Rattle.tl_syntax.specs.declared.parsed.Name.{Name}
use Rattle.tl_syntax.specs.declared.parsed.Statement.{Statement}
use Rattle.tl_syntax.specs.declared.parsed.Procedure.{Procedure}
use Rattle.tl_syntax.specs.declared.parsed.Question.{Question}
use Rattle.tl_syntax.specs.declared.parsed.Parameter.{Parameter}
use Rattle.tl_syntax.specs.declared.parsed.Part.{Part}
use Rattle.tl_syntax.specs.declared.parsed.Declaration.{Declaration}
use Rattle.tl_warnings.specs.declared.warning.Warning.{Warning}
use Rattle.tl_warnings.specs.Finding.{BlockWarns, no_statements, next_statement, StatementWarns, ValueWarns, ValuesWarn, more_values, NamedWarns, AskedWarns, ArgumentWarns, ArgumentsWarn, more_arguments, ParameterWarns, ParametersWarn, more_parameters, DeclarationWarns, DeclarationsWarn, more_declarations}
use Rattle.tl_warnings.proofs.ListLemmas.{taken_more, left_next, left_none}

pub block_at : {ss ts : List Statement} {ws vs us : List Warning} → ss ≡ ts → ws ≡ vs → BlockWarns ss ws us → BlockWarns ts vs us
block_at {ss} {ts} {ws} {vs} {us} is same block = subst (λ z. BlockWarns ts z us) same (subst (λ z. BlockWarns z ws us) is block)

pub named_at : {ss ts : List Statement} {ws vs : List Warning} {m n : Option Name} → ss ≡ ts → m ≡ n → NamedWarns ss ws m vs → NamedWarns ts ws n vs
named_at {ss} {ts} {ws} {vs} {m} {n} is same named = subst (λ z. NamedWarns ts ws z vs) same (subst (λ z. NamedWarns z ws m vs) is named)

pub asked_at : {q : Question} {ss ts : List Statement} {ws vs : List Warning} → ss ≡ ts → AskedWarns ss ws q vs → AskedWarns ts ws q vs
asked_at {q} {ws = ws} {vs = vs} is = subst (λ z. AskedWarns z ws q vs) is

pub value_at : {name : Name} {ss ts : List Statement} {ws vs : List Warning} → ss ≡ ts → ValueWarns name ss ws vs → ValueWarns name ts ws vs
value_at {name} {ws = ws} {vs = vs} is = subst (λ z. ValueWarns name z ws vs) is

-- behind one statement more: what makes warnings of the rest those of the whole
pub block_next : {ws vs : List Warning} {P : List Warning → Type 0} (ss : List Statement) (i : ℕ) (s : Statement) (rest : List Statement) → i < length ss → s ≡ get_or ss i s
    → rest ≡ drop (i + 1) ss → StatementWarns s.offset s.form rest ws vs → ((us : List Warning) → BlockWarns (drop i ss) ws us → P us) → (us : List Warning) → BlockWarns (drop (i + 1) ss) vs us → P us
block_next {ws} {vs} ss i s rest inside is left here before us later =
    before us (subst (λ z. BlockWarns z ws us) (sym (left_next ss i s inside is)) (next_statement (subst (λ z. StatementWarns s.offset s.form z ws vs) left here) later))

pub block_end : {P : List Warning → Type 0} (ss : List Statement) (i : ℕ) (ws : List Warning) → length ss ≤ i → ((us : List Warning) → BlockWarns (drop i ss) ws us → P us) → P ws
block_end ss i ws past before = before ws (subst (λ z. BlockWarns z ws ws) (sym (left_none ss i past)) no_statements)

pub values_at : {ss ts : List Statement} {ws vs : List Warning} {ms ns : List Name} → ss ≡ ts → ms ≡ ns → ValuesWarn ss ws ms vs → ValuesWarn ts ws ns vs
values_at {ss} {ts} {ws} {vs} {ms} is same values = subst (λ z. ValuesWarn ts ws z vs) same (subst (λ z. ValuesWarn z ws ms vs) is values)

pub values_more : {known : List Statement} {ws vs us : List Warning} (names : List Name) (i : ℕ) (d : Name) → i < length names → ValuesWarn known ws (take i names) vs
    → ValueWarns (get_or names i d) known vs us → ValuesWarn known ws (take (i + 1) names) us
values_more {known} {ws} {vs} {us} names i d inside before here = subst (λ z. ValuesWarn known ws z us) (sym (take_more names i d inside)) (more_values (get_or names i d) before here)

pub arguments_more : {p : Procedure} {ws vs us : List Warning} (names : List Name) (i : ℕ) (d : Name) → i < length names → ArgumentsWarn p ws (take i names) vs
    → ArgumentWarns p (get_or names i d) vs us → ArgumentsWarn p ws (take (i + 1) names) us
arguments_more {p} {ws} {vs} {us} names i d inside before here = subst (λ z. ArgumentsWarn p ws z us) (sym (take_more names i d inside)) (more_arguments (get_or names i d) before here)

pub parameters_more : {p : Part} {ws vs us : List Warning} (names : List Parameter) (i : ℕ) (d : Parameter) → i < length names → ParametersWarn p ws (take i names) vs
    → ParameterWarns p vs (get_or names i d) us → ParametersWarn p ws (take (i + 1) names) us
parameters_more {p} {ws} {vs} {us} names i d inside before here = subst (λ z. ParametersWarn p ws z us) (sym (take_more names i d inside)) (more_parameters (get_or names i d) before here)

pub declarations_more : {ws vs us : List Warning} (ds : List Declaration) (i : ℕ) (d : Declaration) → i < length ds → d ≡ get_or ds i d → DeclarationsWarn ws (take i ds) vs
    → DeclarationWarns vs d us → DeclarationsWarn ws (take (i + 1) ds) us
declarations_more {ws} {vs} {us} ds i d inside is before here = taken_more (λ z. DeclarationsWarn ws z us) ds i d inside is (more_declarations d before here)
