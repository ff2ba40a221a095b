-- The blocks of a statement are smaller than the statement, and a part weighs less than all that stand before its use.
use Rattle.std.proofs.Common.{◌≡◌, ℕ, zero, suc, ◌+◌, ◌*◌, ◌<◌, ◌≤◌, List, [], ◌∷◌, length, take, max, Option, Some, Vec, Global, sym, ap, subst, refl, arith}
use Rattle.std.specs.Prelude.{slice_get}
use Rattle.tl_syntax.specs.declared.parsed.Name.{Name}
use Rattle.tl_syntax.specs.declared.parsed.Expression.{Expression}
use Rattle.tl_syntax.specs.declared.parsed.Question.{Question}
use Rattle.tl_syntax.specs.declared.parsed.Statement.{Statement}
use Rattle.tl_syntax.specs.declared.parsed.StatementForm.{StatementForm, Act, Try, If, Repeat, ForEach, Block, Search, the_lemmas}
use Rattle.tl_syntax.specs.declared.parsed.Action.{Action}
use Rattle.tl_syntax.specs.declared.parsed.Otherwise.{Otherwise, out-Otherwise, the_lemmas as otherwise_lemmas}
use Rattle.tl_syntax.specs.declared.parsed.Parameter.{Parameter}
use Rattle.tl_syntax.specs.declared.parsed.Part.{Part}
use Rattle.tl_syntax.specs.declared.parsed.Declaration.{Declaration}
use Rattle.tl_syntax.specs.declared.parsed.Declaration.TheVariants as D
use Rattle.tl_syntax.proofs.parsed.StatementForm.TheLaws as form
use Rattle.tl_syntax.proofs.parsed.Statement.TheLaws as statement
use denote.Param.Weighed.{most}

in_act : (f : StatementForm) (a : Action) (other : Option Otherwise) (o : Otherwise) → f ≡ Act a other → other ≡ Some o → most statement.the_size (out-Otherwise o).body.items < form.the_size f
in_act f a other o e is = grind (arith, the_lemmas, otherwise_lemmas)

in_else : (f : StatementForm) (a : Action) (o : Otherwise) → f ≡ Act a (Some o) → most statement.the_size (out-Otherwise o).body.items < form.the_size f
in_else f a o e = in_act f a (Some o) o e refl

in_repeat : (f : StatementForm) (turns : Expression) (at_most : Option Expression) (body : Vec Statement Global) → f ≡ Repeat turns at_most body → most statement.the_size body.items < form.the_size f
in_repeat f turns at_most body e = grind (arith, the_lemmas)

in_try : (f : StatementForm) (why : Option Name) (body handler : Vec Statement Global) → f ≡ Try why body handler → most statement.the_size body.items < form.the_size f
in_try f why body handler e = grind (arith, the_lemmas)

in_handler : (f : StatementForm) (why : Option Name) (body handler : Vec Statement Global) → f ≡ Try why body handler → most statement.the_size handler.items < form.the_size f
in_handler f why body handler e = grind (arith, the_lemmas)

in_first : (f : StatementForm) (q : Question) (body otherwise : Vec Statement Global) → f ≡ If q body otherwise → most statement.the_size body.items < form.the_size f
in_first f q body otherwise e = grind (arith, the_lemmas)

in_second : (f : StatementForm) (q : Question) (body otherwise : Vec Statement Global) → f ≡ If q body otherwise → most statement.the_size otherwise.items < form.the_size f
in_second f q body otherwise e = grind (arith, the_lemmas)

in_visit : (f : StatementForm) (child : Name) (index : Option Name) (parent : Name) (at_most : Expression) (body : Vec Statement Global) → f ≡ ForEach child index parent at_most body → most statement.the_size body.items < form.the_size f
in_visit f child index parent at_most body e = grind (arith, the_lemmas)

in_block : (f : StatementForm) (body : Vec Statement Global) → f ≡ Block body → most statement.the_size body.items < form.the_size f
in_block f body e = grind (arith, the_lemmas)

in_turns : (f : StatementForm) (turns : Vec Statement Global) (names : Vec Name Global) (found otherwise : Vec Statement Global) → f ≡ Search turns names found otherwise → most statement.the_size turns.items < form.the_size f
in_turns f turns names found otherwise e = grind (arith, the_lemmas)

in_found : (f : StatementForm) (turns : Vec Statement Global) (names : Vec Name Global) (found otherwise : Vec Statement Global) → f ≡ Search turns names found otherwise → most statement.the_size found.items < form.the_size f
in_found f turns names found otherwise e = grind (arith, the_lemmas)

in_not_found : (f : StatementForm) (turns : Vec Statement Global) (names : Vec Name Global) (found otherwise : Vec Statement Global) → f ≡ Search turns names found otherwise → most statement.the_size otherwise.items < form.the_size f
in_not_found f turns names found otherwise e = grind (arith, the_lemmas)

-- ---- the measure

-- what reading the body of a part takes at most, without the parts that it uses
abbrev cost : Declaration → ℕ
cost (D.Field name number) = 0
cost (D.Constant name value) = 0
cost (D.Procedure p) = 0
cost (D.Part p) = 4 * most statement.the_size p.body.items + length p.parameters.items + 2

-- what reading the bodies of all these parts takes at most
abbrev pub weight : List Declaration → ℕ
weight [] = 0
weight (d ∷ ds) = cost d + weight ds

-- a part weighs less with those before it than with those up to it
pub weight_falls : (ds : List Declaration) (k : ℕ) (p : Part) → slice_get ds k ≡ Some (D.Part p) →
    4 * most statement.the_size p.body.items + length p.parameters.items + 2 + weight (take k ds) ≤ weight ds
weight_falls [] k p e = cc
weight_falls (d ∷ ds) zero p e = let same : d ≡ D.Part p = cc in let c = ap cost same in omega arith
weight_falls (d ∷ ds) (suc k) p e = let rest = weight_falls ds k p e in omega arith

-- a call for a smaller block has a smaller measure
falls : (t k w : ℕ) (f : StatementForm) (block items : List Statement) → 4 * form.the_size f + 3 + w ≡ t → block ≡ items → k < 4 → most statement.the_size items < form.the_size f → 4 * most statement.the_size block + k + w < t
falls t k w f block items e is few lt = let same : most statement.the_size block < form.the_size f = subst (λ x. most statement.the_size x < form.the_size f) (sym is) lt in omega arith

pub falls_in_else : (t k w : ℕ) (f : StatementForm) (a : Action) (o : Otherwise) (block : List Statement) → 4 * form.the_size f + 3 + w ≡ t → block ≡ (out-Otherwise o).body.items → k < 4 → f ≡ Act a (Some o) → 4 * most statement.the_size block + k + w < t
falls_in_else t k w f a o block e is few at = falls t k w f block (out-Otherwise o).body.items e is few (in_else f a o at)

pub falls_in_tried : (t w : ℕ) (f : StatementForm) (why : Option Name) (body handler : Vec Statement Global) (first second : List Statement) → 4 * form.the_size f + 3 + w ≡ t → first ≡ body.items → second ≡ handler.items → f ≡ Try why body handler
    → 4 * max (most statement.the_size first) (most statement.the_size second) + 4 + w < t
falls_in_tried t w f why body handler first second e is same at = rw (is, same) (let one = in_try f why body handler at in let two = in_handler f why body handler at in omega arith)

pub falls_in_if : (t w : ℕ) (f : StatementForm) (q : Question) (body otherwise : Vec Statement Global) (first second : List Statement) → 4 * form.the_size f + 3 + w ≡ t → first ≡ body.items → second ≡ otherwise.items → f ≡ If q body otherwise
    → 4 * max (most statement.the_size first) (most statement.the_size second) + 3 + w < t
falls_in_if t w f q body otherwise first second e is same at = rw (is, same) (let one = in_first f q body otherwise at in let two = in_second f q body otherwise at in omega arith)

pub falls_in_repeat : (t k w : ℕ) (f : StatementForm) (turns : Expression) (at_most : Option Expression) (body : Vec Statement Global) (block : List Statement) → 4 * form.the_size f + 3 + w ≡ t → block ≡ body.items → k < 4 → f ≡ Repeat turns at_most body
    → 4 * most statement.the_size block + k + w < t
falls_in_repeat t k w f turns at_most body block e is few at = falls t k w f block body.items e is few (in_repeat f turns at_most body at)

pub falls_in_visit : (t k w : ℕ) (f : StatementForm) (child : Name) (index : Option Name) (parent : Name) (at_most : Expression) (body : Vec Statement Global) (block : List Statement) → 4 * form.the_size f + 3 + w ≡ t → block ≡ body.items → k < 4 → f ≡ ForEach child index parent at_most body
    → 4 * most statement.the_size block + k + w < t
falls_in_visit t k w f child index parent at_most body block e is few at = falls t k w f block body.items e is few (in_visit f child index parent at_most body at)

pub falls_in_block : (t k w : ℕ) (f : StatementForm) (body : Vec Statement Global) (block : List Statement) → 4 * form.the_size f + 3 + w ≡ t → block ≡ body.items → k < 4 → f ≡ Block body → 4 * most statement.the_size block + k + w < t
falls_in_block t k w f body block e is few at = falls t k w f block body.items e is few (in_block f body at)

pub falls_in_search : (t w : ℕ) (f : StatementForm) (turns : Vec Statement Global) (names : Vec Name Global) (found otherwise : Vec Statement Global) (one two three : List Statement) → 4 * form.the_size f + 3 + w ≡ t → one ≡ turns.items → two ≡ found.items
    → three ≡ otherwise.items → f ≡ Search turns names found otherwise → 4 * max (most statement.the_size one) (max (most statement.the_size two) (most statement.the_size three)) + 4 + w < t
falls_in_search t w f turns names found otherwise one two three e is same again at =
    rw (is, same, again) (let a = in_turns f turns names found otherwise at in let b = in_found f turns names found otherwise at in let c = in_not_found f turns names found otherwise at in omega arith)

-- a part has a smaller measure than its use
pub falls_in_part : (t : ℕ) (ds earlier : List Declaration) (k : ℕ) (p : Part) (body : List Statement) (ps : List Parameter) → weight ds + 1 ≡ t → slice_get ds k ≡ Some (D.Part p) → earlier ≡ take k ds → body ≡ p.body.items
    → ps ≡ p.parameters.items → 4 * most statement.the_size body + length ps + 2 + weight earlier < t
falls_in_part t ds earlier k p body ps is at e f g = rw (e, f, g) (let w = weight_falls ds k p at in omega arith)
