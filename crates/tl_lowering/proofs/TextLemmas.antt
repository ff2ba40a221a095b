-- The declarations of a text, and its procedures.
use Rattle.std.proofs.Common.{◌≡◌, ◌∙◌, ℕ, zero, suc, ◌+◌, ◌<◌, List, [], ◌∷◌, ◌++◌, length, length-take, take, get_or, ℤ, None, Some, refl, sym, ap, subst, append-nil, append_assoc, arith}
use Rattle.std.specs.Prelude.{slice_get}
use Rattle.std.specs.Borrow.{Bor}
use Rattle.std.proofs.lemmas.List.{take_more}
use Rattle.tl_syntax.specs.declared.parsed.Name.{Name}
use Rattle.tl_syntax.specs.declared.parsed.Expression.{Expression as TextExpression}
use Rattle.tl_syntax.specs.declared.parsed.Part.{Part}
use Rattle.tl_syntax.specs.declared.parsed.Declaration.{Declaration}
use Rattle.tl_syntax.specs.declared.parsed.Declaration.TheVariants as D
use Rattle.tl_syntax.specs.declared.parsed.Procedure.{Procedure as TextProcedure}
use Rattle.tl_syntax.specs.Tokens.{spellings}
use Rattle.tl_lowering.specs.declared.program.Procedure.{Procedure}
use Rattle.tl_lowering.specs.Names.{Names, IsNew, AreNew, index_of, with_procedure, with_constant, with_value, with_values}
use Rattle.tl_lowering.specs.Naming.{IsConstant}
use Rattle.tl_lowering.specs.Reading.{IsWithField, IsProcedure, AreDeclared, none_declared, next_field, next_constant, next_procedure, next_part}

-- ---- arguments

with_values_append : (names : Names) (xs ys : List Name) → with_values names (xs ++ ys) ≡ with_values (with_values names xs) ys
with_values_append names [] ys = refl
with_values_append names (x ∷ xs) ys = with_values_append (with_value names x) xs ys

pub argument_more : (names : Names) {old new : Names} (xs : List Name) (i : ℕ) (d : Name) → i < length xs → old ≡ with_values names (take i xs)
    → new ≡ with_value old (get_or xs i d) → new ≡ with_values names (take (i + 1) xs)
argument_more names xs i d lt e g =
    g ∙ ap (λ n. with_value n (get_or xs i d)) e ∙ sym (with_values_append names (take i xs) (get_or xs i d ∷ [])) ∙ ap (with_values names) (sym (take_more xs i d lt))

-- names that are new one after another
pub more_new : (names : Names) {old : Names} (xs : List Name) (i : ℕ) (d : Name) → i < length xs → old ≡ with_values names (take i xs) → IsNew old (get_or xs i d) → AreNew names (take i xs)
    → AreNew names (take (i + 1) xs)
more_new names xs i d lt e fresh so_far =
    subst (AreNew names) (sym (take_more xs i d lt)) (append names (take i xs) (get_or xs i d) (subst (λ n. IsNew n (get_or xs i d)) e fresh) so_far)
  where
    append : (names : Names) (xs : List Name) (x : Name) → IsNew (with_values names xs) x → AreNew names xs → AreNew names (xs ++ x ∷ [])
    append names [] x f h = (f, tt)
    append names (y ∷ xs) x f h = (h.0, append (with_value names y) xs x f h.1)

pub count_values : (names : Names) (xs : List Name) → (with_values names xs).values ≡ names.values + length xs
count_values names [] = omega arith
count_values names (x ∷ xs) = let h = count_values (with_value names x) xs in omega arith

-- ---- declarations

-- for any declarations that follow, those that were read declare these procedures
abbrev pub AreSoFar : List (List ℕ) → Names → List Declaration → List Procedure → Names → Type 0
AreSoFar spellings names read ps now =
    (rest : List Declaration) (more : List Procedure) → AreDeclared spellings read now rest more → AreDeclared spellings [] names (read ++ rest) (ps ++ more)

pub none_so_far : {spellings : List (List ℕ)} {names : Names} {ps : List Procedure} → ps ≡ [] → AreSoFar spellings names [] ps names
none_so_far {spellings} {names} e rest more h = subst (λ z. AreDeclared spellings [] names rest (z ++ more)) (sym e) h

another : (xs : List Declaration) (i : ℕ) (x : Declaration) → i < length xs → x ≡ get_or xs i x → take (i + 1) xs ≡ take i xs ++ x ∷ []
another xs i x lt f = take_more xs i x lt ∙ ap (λ z. take i xs ++ z ∷ []) (sym f)

one_more : {spellings : List (List ℕ)} {names : Names} (xs : List Declaration) (i : ℕ) (x : Declaration) (rest : List Declaration) (all : List Procedure) → i < length xs → x ≡ get_or xs i x
    → AreDeclared spellings [] names (take i xs ++ x ∷ rest) all → AreDeclared spellings [] names (take (i + 1) xs ++ rest) all
one_more {spellings} {names} xs i x rest all lt f h =
    subst (λ z. AreDeclared spellings [] names z all) (sym (ap (λ z. z ++ rest) (another xs i x lt f) ∙ append_assoc (take i xs) (x ∷ []) rest)) h

module _ {spellings : List (List ℕ)} {names old : Names} (new : Names) (ps : List Procedure) (xs : List Declaration) (i : ℕ) (x : Declaration) (lt : i < length xs) (f : x ≡ get_or xs i x)
    (part : AreSoFar spellings names (take i xs) ps old) where
  count : i ≡ length (take i xs)
  count = omega (arith, length-take i xs)

  -- what is declared behind x
  behind : (d : Declaration) {now : Names} {rest : List Declaration} {more : List Procedure} → x ≡ d → new ≡ now → AreDeclared spellings (take (i + 1) xs) new rest more →
      AreDeclared spellings (take i xs ++ d ∷ []) now rest more
  behind d {now} {rest} {more} e g h =
      subst (λ z. AreDeclared spellings (take i xs ++ z ∷ []) now rest more) e
      (subst (λ n. AreDeclared spellings (take i xs ++ x ∷ []) n rest more) g (subst (λ l. AreDeclared spellings l new rest more) (another xs i x lt f) h))

  pub field_more : {name : Name} {number : TextExpression} → x ≡ D.Field name number → IsWithField i old name number new → AreSoFar spellings names (take (i + 1) xs) ps new
  field_more {name} {number} e g rest more h =
      let here : IsWithField (length (take i xs)) old name number new = subst (λ k. IsWithField k old name number new) count g in
      one_more xs i x rest (ps ++ more) lt f
      (part (x ∷ rest) more (subst (λ d. AreDeclared spellings (take i xs) old (d ∷ rest) more) (sym e) (next_field here (behind (D.Field name number) e refl h))))

  pub constant_more : {name : Name} {value : TextExpression} {number : ℤ} → x ≡ D.Constant name value → IsNew old name → IsConstant old value.form number → new ≡ with_constant old name number i
      → AreSoFar spellings names (take (i + 1) xs) ps new
  constant_more {name} {value} {number} e fresh is g rest more h =
      one_more xs i x rest (ps ++ more) lt f
      (part (x ∷ rest) more (subst (λ d. AreDeclared spellings (take i xs) old (d ∷ rest) more) (sym e) (next_constant fresh is (behind (D.Constant name value) e (g ∙ ap (with_constant old name number) count) h))))

  pub procedure_more : {text : TextProcedure} {p : Procedure} (qs : List Procedure) → x ≡ D.Procedure text → index_of old text.name ≡ None
      → IsProcedure spellings (take i xs) (with_procedure old text.name (length (take i xs))) text p → new ≡ with_procedure old text.name (length (take i xs)) → qs ≡ ps ++ p ∷ []
      → AreSoFar spellings names (take (i + 1) xs) qs new
  procedure_more {text} {p = p} qs e fresh g k q rest more h =
      one_more xs i x rest (qs ++ more) lt f
      (subst (AreDeclared spellings [] names (take i xs ++ x ∷ rest)) (sym (ap (λ z. z ++ more) q ∙ append_assoc ps (p ∷ []) more))
      (part (x ∷ rest) (p ∷ more) (subst (λ d. AreDeclared spellings (take i xs) old (d ∷ rest) (p ∷ more)) (sym e) (next_procedure fresh g (behind (D.Procedure text) e k h)))))

  pub part_more : {p : Part} → x ≡ D.Part p → index_of old p.name ≡ None → new ≡ with_procedure old p.name i → AreSoFar spellings names (take (i + 1) xs) ps new
  part_more {p} e fresh g rest more h =
      one_more xs i x rest (ps ++ more) lt f
      (part (x ∷ rest) more (subst (λ d. AreDeclared spellings (take i xs) old (d ∷ rest) more) (sym e) (next_part fresh (behind (D.Part p) e (g ∙ ap (with_procedure old p.name) count) h))))

pub all_so_far : {spellings : List (List ℕ)} {names now : Names} {read : List Declaration} {ps : List Procedure} → AreSoFar spellings names read ps now → AreDeclared spellings [] names read ps
all_so_far {spellings} {names} {read = read} {ps = ps} part =
    subst (λ z. AreDeclared spellings [] names z ps) (append-nil read) (subst (AreDeclared spellings [] names (read ++ [])) (append-nil ps) (part [] [] none_declared))

-- ---- the spelling of a name

pub spelling_some : (keys : List (Bor (List ℕ))) (i : ℕ) (x : Bor (List ℕ)) → slice_get keys i ≡ Some x → get_or (spellings keys) i [] ≡ x.now
spelling_some [] i x e = cc
spelling_some (k ∷ keys) zero x e = let h : k ≡ x = cc in ap (λ z. z.now) h
spelling_some (k ∷ keys) (suc i) x e = spelling_some keys i x e

pub spelling_none : (keys : List (Bor (List ℕ))) (i : ℕ) → slice_get keys i ≡ None → get_or (spellings keys) i [] ≡ []
spelling_none [] i e = refl
spelling_none (k ∷ keys) zero e = cc
spelling_none (k ∷ keys) (suc i) e = spelling_none keys i e

pub count_spellings : (keys : List (Bor (List ℕ))) → length (spellings keys) ≡ length keys
count_spellings [] = refl
count_spellings (k ∷ keys) = ap suc (count_spellings keys)
