-- The rules for pushing a declaration that was read to a list, where the list is given by an equation.
use Rattle.std.proofs.Common.{◌≡◌, ℕ, List, [], ◌∷◌, ◌++◌, sym, subst}
use Rattle.tl_syntax.specs.declared.token.Token.{Token}
use Rattle.tl_syntax.specs.declared.token.TokenKind.TheVariants as K
use Rattle.tl_syntax.specs.declared.parsed.Name.{Name}
use Rattle.tl_syntax.specs.declared.parsed.Parameter.{Parameter}
use Rattle.tl_syntax.specs.declared.parsed.Declaration.{Declaration}
use Rattle.tl_syntax.specs.Grammar.{Stands, IsName}
use Rattle.tl_syntax.specs.Statements.{AreNames, one_name, one_name_more}
use Rattle.tl_syntax.specs.Declarations as R
use Rattle.tl_syntax.specs.Declarations.{AreArguments, IsParameter, AreParameters, AreTaken, IsDeclaration, AreDeclarations}
use Rattle.tl_syntax.proofs.StatementLemmas.{pushed_first}

pub first_name : {tokens : List Token} {i j : ℕ} {n : Name} {old new : List Name} → new ≡ old ++ n ∷ [] → old ≡ [] →
    IsName tokens i j n → AreNames tokens i j new
first_name {tokens} {i} {j} p o h = subst (λ ns. AreNames tokens i j ns) (sym (pushed_first p o)) (one_name h)

pub next_name : {tokens : List Token} {i j k l : ℕ} {n : Name} {old new : List Name} → new ≡ old ++ n ∷ [] →
    AreNames tokens i j old → Stands tokens K.Comma j k → IsName tokens k l n → AreNames tokens i l new
next_name {tokens} {i} {l = l} p a b h = subst (λ ns. AreNames tokens i l ns) (sym p) (one_name_more a b h)

pub no_arguments : {tokens : List Token} {i j : ℕ} {ns : List Name} → ns ≡ [] → Stands tokens K.RightParenthesis i j → AreArguments tokens i j ns
no_arguments {tokens} {i} {j} e h = subst (λ ns. AreArguments tokens i j ns) (sym e) (R.none h)

pub first_parameter : {tokens : List Token} {i j : ℕ} {p : Parameter} {old new : List Parameter} → new ≡ old ++ p ∷ [] → old ≡ [] →
    IsParameter tokens i j p → AreParameters tokens i j new
first_parameter {tokens} {i} {j} p o h = subst (λ ps. AreParameters tokens i j ps) (sym (pushed_first p o)) (R.first_parameter h)

pub next_parameter : {tokens : List Token} {i j k l : ℕ} {p : Parameter} {old new : List Parameter} → new ≡ old ++ p ∷ [] →
    AreParameters tokens i j old → Stands tokens K.Comma j k → IsParameter tokens k l p → AreParameters tokens i l new
next_parameter {tokens} {i} {l = l} p a b h = subst (λ ps. AreParameters tokens i l ps) (sym p) (R.next_parameter a b h)

pub none_taken : {tokens : List Token} {i j : ℕ} {ps : List Parameter} → ps ≡ [] → Stands tokens K.RightParenthesis i j → AreTaken tokens i j ps
none_taken {tokens} {i} {j} e h = subst (λ ps. AreTaken tokens i j ps) (sym e) (R.none_taken h)

pub no_declarations : {tokens : List Token} {i : ℕ} {ds : List Declaration} → ds ≡ [] → AreDeclarations tokens i i ds
no_declarations {tokens} {i} e = subst (λ ds. AreDeclarations tokens i i ds) (sym e) R.no_more

pub next_declaration : {tokens : List Token} {i j k : ℕ} {d : Declaration} {old new : List Declaration} → new ≡ old ++ d ∷ [] →
    AreDeclarations tokens i j old → IsDeclaration tokens j k d → AreDeclarations tokens i k new
next_declaration {tokens} {i} {k = k} p a h = subst (λ ds. AreDeclarations tokens i k ds) (sym p) (R.next a h)
