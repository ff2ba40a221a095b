-- Tokens denote only one list of declarations.
use Rattle.std.proofs.Common.{◌≡◌, ℕ, ◌-◌, ◌≤◌, Bool, false, true≢false, List, [], ◌∷◌, ◌++◌, refl, sym, ap, ap₂, subst, ◌∙◌, arith}
use Rattle.std.proofs.Math.Path.{subst₂}
use Rattle.std.specs.Prelude.{nat_eq, if◌then◌else◌}
use Rattle.tl_syntax.specs.declared.token.Token.{Token}
use Rattle.tl_syntax.specs.declared.token.TokenKind.{TokenKind}
use Rattle.tl_syntax.specs.declared.token.TokenKind.TheVariants as K
use Rattle.tl_syntax.specs.declared.parsed.Name.{Name}
use Rattle.tl_syntax.specs.declared.parsed.Procedure.{Procedure}
use Rattle.tl_syntax.specs.declared.parsed.Parameter.{Parameter}
use Rattle.tl_syntax.specs.declared.parsed.Parameter.TheVariants as P
use Rattle.tl_syntax.specs.declared.parsed.Part.{Part}
use Rattle.tl_syntax.specs.declared.parsed.Declaration.{Declaration}
use Rattle.tl_syntax.specs.declared.parsed.Declaration.TheVariants as V
use Rattle.tl_syntax.specs.declared.parser.TheConstants.{MAX_LEVELS}
use Rattle.tl_syntax.specs.Grammar.{kind_at, Stands, IsName, IsExpression, Disjunction}
use Rattle.tl_syntax.specs.Statements.{IsBlock, IsOptionalName}
use Rattle.tl_syntax.specs.Declarations as D
use Rattle.tl_syntax.specs.Declarations.{AreArguments, IsMark, IsProcedure, names_something, IsParameter, AreParameters, AreTaken, IsPart, IsDeclaration, AreDeclarations, IsFile}
use Rattle.tl_syntax.specs.Alike as A
use Rattle.tl_syntax.specs.Alike.{AlikeStatements, AlikeProcedure, AlikePart, AlikeDeclaration, AlikeDeclarations}
use Rattle.tl_syntax.proofs.ListsOnce.{Rest, done, append, Compared, within, another_compared, list_end}
use Rattle.tl_syntax.proofs.ExpressionsOnce.{same_end, differ, same_name, once}
use Rattle.tl_syntax.proofs.ActionsOnce.{at, ends, some_comma, closes}
use Rattle.tl_syntax.proofs.NameListsOnce.{Anything, names_once, names_start}
use Rattle.tl_syntax.proofs.StatementsOnce.{NoElse, some_else, no_else, parting as brace, optional_once, block_starts, block_once}

-- ---- arguments

abbrev closing : TokenKind → ℕ
closing (K.Name s) = 1
closing K.RightParenthesis = 2
closing kind = 0

arguments_once : {tokens : List Token} {i j k : ℕ} {ns ms : List Name} → AreArguments tokens i j ns → AreArguments tokens i k ms → (j ≡ k) × (ns ≡ ms)
arguments_once (D.none s) (D.none t) = (same_end s t, refl)
arguments_once (D.none s) (D.some a t) = differ closing (names_start a).1 s.kind_is (omega arith)
arguments_once (D.some a s) (D.none t) = differ closing (names_start a).1 t.kind_is (omega arith)
arguments_once {tokens} {k = end} (D.some {j = a1} a s) (D.some b t) =
    let same = names_once a (closes s) b (closes t) in
    let t' : Stands tokens K.RightParenthesis a1 end = at (λ z. Stands tokens K.RightParenthesis z end) same.0 t in
    (same_end s t', same.1)

-- ---- procedures

abbrev starts : TokenKind → ℕ
starts K.Proc = 1
starts (K.Name s) = 2
starts kind = 0

-- the token behind a mark shows whether there is one
mark_once : {tokens : List Token} {h i k a b : ℕ} {x y : Bool} → IsMark tokens h i x → Stands tokens K.Proc i a → IsMark tokens h k y → Stands tokens K.Proc k b → (i ≡ k) × (x ≡ y)
mark_once D.no_mark s D.no_mark t = (refl, refl)
mark_once D.no_mark s (D.mark n) t = differ starts s.kind_is n.kind_is (omega arith)
mark_once (D.mark m) s D.no_mark t = differ starts t.kind_is m.kind_is (omega arith)
mark_once (D.mark m) s (D.mark n) t = (same_end m n, refl)

-- a procedure up to its body, and the position of the body
record IsHead (tokens : List Token) (h j : ℕ) (p : Procedure) : Type 0 where
  i : ℕ
  a : ℕ
  b : ℕ
  c : ℕ
  d : ℕ
  marked : IsMark tokens h i p.is_atomic
  begins : Stands tokens K.Proc i a
  named : IsName tokens a b p.name
  opens : Stands tokens K.LeftParenthesis b c
  arguments : AreArguments tokens c d p.arguments.items
  body : IsBlock tokens MAX_LEVELS d j p.body.items

record SameHead (j k : ℕ) (p q : Procedure) : Type 0 where
  ends : j ≡ k
  marked : p.is_atomic ≡ q.is_atomic
  named : p.name ≡ q.name
  arguments : p.arguments.items ≡ q.arguments.items
  body : AlikeStatements p.body.items q.body.items

head_once : (tokens : List Token) (i j k : ℕ) (p q : Procedure) → IsHead tokens i j p → IsHead tokens i k q → SameHead j k p q
head_once tokens i j k p q x y =
    let marked = mark_once x.marked x.begins y.marked y.begins in
    let begins : Stands tokens K.Proc x.i y.a = at (λ z. Stands tokens K.Proc z y.a) marked.0 y.begins in
    let named : IsName tokens x.a y.b q.name = at (λ z. IsName tokens z y.b q.name) (same_end x.begins begins) y.named in
    let opens : Stands tokens K.LeftParenthesis x.b y.c = at (λ z. Stands tokens K.LeftParenthesis z y.c) (same_end x.named.stands named.stands) y.opens in
    let arguments : AreArguments tokens x.c y.d q.arguments.items = at (λ z. AreArguments tokens z y.d q.arguments.items) (same_end x.opens opens) y.arguments in
    let same = arguments_once x.arguments arguments in
    let body : IsBlock tokens MAX_LEVELS x.d k q.body.items = at (λ z. IsBlock tokens MAX_LEVELS z k q.body.items) same.0 y.body in
    let alike = block_once x.body body in
    record { ends = alike.0; marked = marked.1; named = same_name x.named named; arguments = same.1; body = alike.1 }

procedure_once : {tokens : List Token} {i j k : ℕ} {p q : Procedure} → IsProcedure tokens i j p → NoElse tokens j → IsProcedure tokens i k q → NoElse tokens k → (j ≡ k) × AlikeProcedure p q
procedure_once {tokens} {i} {j} {k} {p} {q} (D.procedure {i = a0} {j = a1} {k = a2} {l = a3} {m = a4} r s n t a b w none) f (D.procedure {i = b0} {j = b1} {k = b2} {l = b3} {m = b4} r2 s2 n2 t2 x2 y2 w2 none2) g =
    let h = head_once tokens i j k p q (record { i = a0; a = a1; b = a2; c = a3; d = a4; marked = r; begins = s; named = n; opens = t; arguments = a; body = b })
    (record { i = b0; a = b1; b = b2; c = b3; d = b4; marked = r2; begins = s2; named = n2; opens = t2; arguments = x2; body = y2 }) in
    (h.ends, record { mark = h.marked; name = h.named; arguments = h.arguments; body = h.body; why = w ∙ sym w2; otherwise = subst₂ AlikeStatements (sym none) (sym none2) A.no_statements })
procedure_once {tokens} {i} {j} {k} {p} {q} (D.procedure {i = a0} {j = a1} {k = a2} {l = a3} {m = a4} r s n t a b w none) f (D.procedure_else {i = b0} {j = b1} {k = b2} {l = b3} {m = b4} {n = b5} r2 s2 n2 t2 x2 y2 u2 w2 c2) g =
    let h = head_once tokens i j b5 p q (record { i = a0; a = a1; b = a2; c = a3; d = a4; marked = r; begins = s; named = n; opens = t; arguments = a; body = b })
    (record { i = b0; a = b1; b = b2; c = b3; d = b4; marked = r2; begins = s2; named = n2; opens = t2; arguments = x2; body = y2 }) in
    some_else u2 (subst (λ z. NoElse tokens z) h.ends f)
procedure_once {tokens} {i} {j} {k} {p} {q} (D.procedure_else {i = a0} {j = a1} {k = a2} {l = a3} {m = a4} {n = a5} r s n t a b u w c) f (D.procedure {i = b0} {j = b1} {k = b2} {l = b3} {m = b4} r2 s2 n2 t2 x2 y2 w2 none2) g =
    let h = head_once tokens i a5 k p q (record { i = a0; a = a1; b = a2; c = a3; d = a4; marked = r; begins = s; named = n; opens = t; arguments = a; body = b })
    (record { i = b0; a = b1; b = b2; c = b3; d = b4; marked = r2; begins = s2; named = n2; opens = t2; arguments = x2; body = y2 }) in
    some_else u (at (λ z. NoElse tokens z) h.ends g)
procedure_once {tokens} {i} {j} {k} {p} {q} (D.procedure_else {i = a0} {j = a1} {k = a2} {l = a3} {m = a4} {n = a5} {o = a6} {q = a7} r s n t a b u w c) f (D.procedure_else {i = b0} {j = b1} {k = b2} {l = b3} {m = b4} {n = b5} {o = b6} {q = b7} r2 s2 n2 t2 x2 y2 u2 w2 c2) g =
    let h = head_once tokens i a5 b5 p q (record { i = a0; a = a1; b = a2; c = a3; d = a4; marked = r; begins = s; named = n; opens = t; arguments = a; body = b })
    (record { i = b0; a = b1; b = b2; c = b3; d = b4; marked = r2; begins = s2; named = n2; opens = t2; arguments = x2; body = y2 }) in
    let u2' : Stands tokens K.Else a5 b6 = at (λ z. Stands tokens K.Else z b6) h.ends u2 in
    let w2' : IsOptionalName tokens a6 b7 q.why = at (λ z. IsOptionalName tokens z b7 q.why) (same_end u u2') w2 in
    let why = optional_once w (ap brace (block_starts c)) w2' (ap brace (block_starts c2)) in
    let c2' : IsBlock tokens MAX_LEVELS a7 k q.otherwise.items = at (λ z. IsBlock tokens MAX_LEVELS z k q.otherwise.items) why.0 c2 in
    let other = block_once c c2' in
    (other.0, record { mark = h.marked; name = h.named; arguments = h.arguments; body = h.body; why = why.1; otherwise = other.1 })

-- ---- parts

-- how a parameter begins
abbrev beginning : TokenKind → ℕ
beginning K.Node = 1
beginning (K.Name s) = 2
beginning kind = 0

abbrev parting : TokenKind → ℕ
parting K.Node = 1
parting (K.Name s) = 1
parting kind = 0

-- a name stands where none does
name_behind : {tokens : List Token} {i j k : ℕ} {n : Name} → IsName tokens i k n → i ≡ j → names_something (kind_at tokens j) ≡ false → ⊥
name_behind {tokens} n same none = true≢false (sym (ap names_something (sym (ap (kind_at tokens) same) ∙ n.stands.kind_is)) ∙ none)

parameter_once : {tokens : List Token} {i j k : ℕ} {p q : Parameter} → IsParameter tokens i j p → IsParameter tokens i k q → (j ≡ k) × (p ≡ q)
parameter_once {tokens} {k = end} (D.node_parameter {j = a1} s n) (D.node_parameter {n = y} t m) =
    let m' : IsName tokens a1 end y = at (λ z. IsName tokens z end y) (same_end s t) m in
    (same_end n.stands m'.stands, ap P.Node (same_name n m'))
parameter_once (D.node_parameter s n) (D.variable_parameter t m) = differ beginning s.kind_is t.kind_is (omega arith)
parameter_once (D.node_parameter s n) (D.value_parameter m l) = differ beginning s.kind_is m.stands.kind_is (omega arith)
parameter_once (D.variable_parameter s n) (D.node_parameter t m) = differ beginning t.kind_is s.kind_is (omega arith)
parameter_once {tokens} {k = end} (D.variable_parameter {j = a1} s n) (D.variable_parameter {n = y} t m) =
    let m' : IsName tokens a1 end y = at (λ z. IsName tokens z end y) (same_end s t) m in
    (same_end n.stands m'.stands, ap P.Variable (same_name n m'))
parameter_once (D.variable_parameter s n) (D.value_parameter m l) = absurd (name_behind n (same_end s m.stands) l)
parameter_once (D.value_parameter n l) (D.node_parameter t m) = differ beginning t.kind_is n.stands.kind_is (omega arith)
parameter_once (D.value_parameter n l) (D.variable_parameter s m) = absurd (name_behind m (same_end s n.stands) l)
parameter_once (D.value_parameter n l) (D.value_parameter m k) = (same_end n.stands m.stands, ap P.Value (same_name n m))

-- a comma and a parameter
record IsNextParameter (tokens : List Token) (i k : ℕ) (p : Parameter) : Type 0 where
  middle : ℕ
  stands : Stands tokens K.Comma i middle
  is : IsParameter tokens middle k p

record AreSplit (tokens : List Token) (i k : ℕ) (ps : List Parameter) : Type 0 where
  middle : ℕ
  one : Parameter
  first : IsParameter tokens i middle one
  rest : Rest (IsNextParameter tokens) middle (one ∷ []) k ps

split : {tokens : List Token} {i k : ℕ} {ps : List Parameter} → AreParameters tokens i k ps → AreSplit tokens i k ps
split (D.first_parameter {j = j} {p = p} h) = record { middle = j; one = p; first = h; rest = done }
split (D.next_parameter {k = k} a s h) =
    let p = split a in record { middle = p.middle; one = p.one; first = p.first; rest = append p.rest (record { middle = k; stands = s; is = h }) }

abbrev SameParameters : List Parameter → List Parameter → Type 0
SameParameters ps qs = ps ≡ qs

next_parameter_once : (tokens : List Token) (j k : ℕ) (p : Parameter) → IsNextParameter tokens j k p → Anything k → (l : ℕ) (q : Parameter) → IsNextParameter tokens j l q → Anything l →
    (k ≡ l) × (p ≡ q)
next_parameter_once tokens j k p x a l q y b =
    let is : IsParameter tokens x.middle l q = at (λ z. IsParameter tokens z l q) (same_end x.stands y.stands) y.is in parameter_once x.is is

parameter_pushed : (ps qs : List Parameter) (p q : Parameter) → SameParameters ps qs → p ≡ q → SameParameters (ps ++ p ∷ []) (qs ++ q ∷ [])
parameter_pushed ps qs p q e f = ap (λ l. l ++ p ∷ []) e ∙ ap (λ x. qs ++ x ∷ []) f

parameters_compared : {tokens : List Token} {i j : ℕ} {ps : List Parameter} → AreParameters tokens i j ps → (k : ℕ) (qs : List Parameter) → AreSplit tokens i k qs →
    Compared (IsNextParameter tokens) SameParameters j ps k qs
parameters_compared {tokens} (D.first_parameter h) k qs p =
    let same = parameter_once h p.first in
    within (at (λ z. Rest (IsNextParameter tokens) z (p.one ∷ []) k qs) same.0 p.rest) (ap (λ n. n ∷ []) same.1)
parameters_compared {tokens} (D.next_parameter {j = j} {k = m} {l = l} {ps = ps} {p = p} a s h) k qs q =
    let item : IsNextParameter tokens j l p = record { middle = m; stands = s; is = h } in
    another_compared (IsNextParameter tokens) (λ x y. x ≡ y) SameParameters Anything (λ j k x h. tt) parameter_pushed j l k ps qs p item (next_parameter_once tokens j l p item) tt tt
    (parameters_compared a k qs q)

parameters_start : {tokens : List Token} {i j : ℕ} {ps : List Parameter} → AreParameters tokens i j ps → parting (kind_at tokens i) ≡ 1
parameters_start (D.first_parameter (D.node_parameter s n)) = ap parting s.kind_is
parameters_start (D.first_parameter (D.variable_parameter s n)) = ap parting s.kind_is
parameters_start (D.first_parameter (D.value_parameter n l)) = ap parting n.stands.kind_is
parameters_start (D.next_parameter a s h) = parameters_start a

taken_once : {tokens : List Token} {i j k : ℕ} {ps qs : List Parameter} → AreTaken tokens i j ps → AreTaken tokens i k qs → (j ≡ k) × (ps ≡ qs)
taken_once (D.none_taken s) (D.none_taken t) = (same_end s t, refl)
taken_once (D.none_taken s) (D.some_taken a t) = absurd (omega (arith, parameters_start a, ap parting s.kind_is))
taken_once (D.some_taken a s) (D.none_taken t) = absurd (omega (arith, parameters_start a, ap parting t.kind_is))
taken_once {tokens} {k = end} {ps = ps} {qs = qs} (D.some_taken {j = a1} a s) (D.some_taken {j = b1} b t) =
    let same = list_end a1 b1 ps qs (parameters_compared a b1 qs (split b)) (λ l y q. some_comma q.stands (closes s)) (λ l y q. some_comma q.stands (closes t)) in
    let t' : Stands tokens K.RightParenthesis a1 end = at (λ z. Stands tokens K.RightParenthesis z end) same.0 t in
    (same_end s t', same.1)

part_once : {tokens : List Token} {i j k : ℕ} {p q : Part} → IsPart tokens i j p → IsPart tokens i k q → (j ≡ k) × AlikePart p q
part_once {tokens} {k = end} {q = q} (D.part {j = a1} {k = a2} {l = a3} {m = a4} s n w v t a b r z) (D.part {k = b2} {l = b3} {m = b4} s2 n2 w2 v2 t2 x2 y2 r2 z2) =
    let n2' : IsName tokens a1 b2 q.name = at (λ z. IsName tokens z b2 q.name) (same_end s s2) n2 in
    let t2' : Stands tokens K.LeftParenthesis a2 b3 = at (λ z. Stands tokens K.LeftParenthesis z b3) (same_end n.stands n2'.stands) t2 in
    let x2' : AreTaken tokens a3 b4 q.parameters.items = at (λ z. AreTaken tokens z b4 q.parameters.items) (same_end t t2') x2 in
    let taken = taken_once a x2' in
    let y2' : IsBlock tokens MAX_LEVELS a4 end q.body.items = at (λ z. IsBlock tokens MAX_LEVELS z end q.body.items) taken.0 y2 in
    let body = block_once b y2' in
    (body.0, record { name = same_name n n2'; parameters = taken.1; body = body.1; size = z ∙ ap₂ (λ x y. x - y) body.0 taken.0 ∙ sym z2 })

-- ---- declarations

-- the word `part` or another word
abbrev word_rank : ℕ → ℕ
word_rank s = if nat_eq s 7 then 4 else 3

abbrev declares : TokenKind → ℕ
declares K.Field = 1
declares K.Const = 2
declares K.Proc = 3
declares (K.Name s) = word_rank s.0
declares kind = 0

mark_starts : {tokens : List Token} {h i a : ℕ} {x : Bool} → IsMark tokens h i x → Stands tokens K.Proc i a → declares (kind_at tokens h) ≡ 3
mark_starts D.no_mark s = ap declares s.kind_is
mark_starts (D.mark m) s = ap declares m.kind_is

procedure_starts : {tokens : List Token} {i j : ℕ} {p : Procedure} → IsProcedure tokens i j p → declares (kind_at tokens i) ≡ 3
procedure_starts (D.procedure r s n t a b w none) = mark_starts r s
procedure_starts (D.procedure_else r s n t a b u w c) = mark_starts r s

abbrev rank : {tokens : List Token} {i j : ℕ} {d : Declaration} → IsDeclaration tokens i j d → ℕ
rank (D.field s n t m u) = 1
rank (D.constant s n t m u) = 2
rank (D.procedures p) = 3
rank (D.parts p) = 4

rank_is : {tokens : List Token} {i j : ℕ} {d : Declaration} (x : IsDeclaration tokens i j d) → declares (kind_at tokens i) ≡ rank x
rank_is (D.field s n t m u) = ap declares s.kind_is
rank_is (D.constant s n t m u) = ap declares s.kind_is
rank_is (D.procedures p) = procedure_starts p
rank_is (D.parts (D.part s n w v t a b r z)) = ap declares s.kind_is

some_rank : {tokens : List Token} {i j : ℕ} {d : Declaration} → IsDeclaration tokens i j d → 1 ≤ declares (kind_at tokens i)
some_rank (D.field s n t m u) = omega (arith, ap declares s.kind_is)
some_rank (D.constant s n t m u) = omega (arith, ap declares s.kind_is)
some_rank (D.procedures p) = omega (arith, procedure_starts p)
some_rank (D.parts (D.part s n w v t a b r z)) = omega (arith, ap declares s.kind_is)

declaration_once : {tokens : List Token} {i j k : ℕ} {d e : Declaration} → IsDeclaration tokens i j d → NoElse tokens j → IsDeclaration tokens i k e → NoElse tokens k →
    (j ≡ k) × AlikeDeclaration d e
declaration_once {tokens} {k = end} (D.field {j = a1} {k = a2} {l = a3} {m = a4} {n = x} {number = v} s n t m u) f (D.field {k = b2} {l = b3} {m = b4} {n = y} {number = w} s2 n2 t2 m2 u2) g =
    let n2' : IsName tokens a1 b2 y = at (λ z. IsName tokens z b2 y) (same_end s s2) n2 in
    let t2' : Stands tokens K.Assign a2 b3 = at (λ z. Stands tokens K.Assign z b3) (same_end n.stands n2'.stands) t2 in
    let m2' : IsExpression tokens MAX_LEVELS Disjunction a3 b4 w = at (λ z. IsExpression tokens MAX_LEVELS Disjunction z b4 w) (same_end t t2') m2 in
    let same = once m (ends u.kind_is refl) MAX_LEVELS b4 w m2' (ends u2.kind_is refl) in
    let u2' : Stands tokens K.Semicolon a4 end = at (λ z. Stands tokens K.Semicolon z end) same.0 u2 in
    (same_end u u2', subst (λ z. AlikeDeclaration (V.Field x v) (V.Field z w)) (same_name n n2') (A.fields same.1))
declaration_once {tokens} {k = end} (D.constant {j = a1} {k = a2} {l = a3} {m = a4} {n = x} {value = v} s n t m u) f (D.constant {k = b2} {l = b3} {m = b4} {n = y} {value = w} s2 n2 t2 m2 u2) g =
    let n2' : IsName tokens a1 b2 y = at (λ z. IsName tokens z b2 y) (same_end s s2) n2 in
    let t2' : Stands tokens K.Assign a2 b3 = at (λ z. Stands tokens K.Assign z b3) (same_end n.stands n2'.stands) t2 in
    let m2' : IsExpression tokens MAX_LEVELS Disjunction a3 b4 w = at (λ z. IsExpression tokens MAX_LEVELS Disjunction z b4 w) (same_end t t2') m2 in
    let same = once m (ends u.kind_is refl) MAX_LEVELS b4 w m2' (ends u2.kind_is refl) in
    let u2' : Stands tokens K.Semicolon a4 end = at (λ z. Stands tokens K.Semicolon z end) same.0 u2 in
    (same_end u u2', subst (λ z. AlikeDeclaration (V.Constant x v) (V.Constant z w)) (same_name n n2') (A.constants same.1))
declaration_once (D.procedures p) f (D.procedures q) g = let same = procedure_once p f q g in (same.0, A.procedures same.1)
declaration_once (D.parts p) f (D.parts q) g = let same = part_once p q in (same.0, A.parts same.1)
declaration_once x f y g = absurd (omega (arith, rank_is x, rank_is y))

-- ---- files

no_else_before : (tokens : List Token) (j k : ℕ) (d : Declaration) → IsDeclaration tokens j k d → NoElse tokens j
no_else_before tokens j k d h = record { is = λ e. omega (arith, some_rank h, ap declares e) }

none_at_end : (tokens : List Token) (i : ℕ) → kind_at tokens i ≡ K.End → (k : ℕ) (d : Declaration) → IsDeclaration tokens i k d → ⊥
none_at_end tokens i e k d h = omega (arith, some_rank h, ap declares e)

declarations_rest : {tokens : List Token} {i k : ℕ} {ds : List Declaration} → AreDeclarations tokens i k ds → Rest (IsDeclaration tokens) i [] k ds
declarations_rest D.no_more = done
declarations_rest (D.next a h) = append (declarations_rest a) h

declarations_compared : {tokens : List Token} {i j : ℕ} {ds : List Declaration} → AreDeclarations tokens i j ds → NoElse tokens j → (k : ℕ) (es : List Declaration) →
    Rest (IsDeclaration tokens) i [] k es → NoElse tokens k → Compared (IsDeclaration tokens) AlikeDeclarations j ds k es
declarations_compared D.no_more a k es r b = within r A.no_declarations
declarations_compared {tokens} (D.next {j = j} {k = m} {ds = ds} {d = d} xs h) a k es r b =
    another_compared (IsDeclaration tokens) AlikeDeclaration AlikeDeclarations (NoElse tokens) (no_else_before tokens) (λ xs ys x y ps q. A.next_declaration ps q) j m k ds es d h
    (λ f l e y g. declaration_once h f y g) a b (declarations_compared xs (no_else_before tokens j m d h) k es r b)

abbrev last : TokenKind → ℕ
last K.End = 1
last kind = 0

pub file_once : {tokens : List Token} {ds es : List Declaration} → IsFile tokens ds → IsFile tokens es → AlikeDeclarations ds es
file_once {tokens} {ds} {es} x y =
    let compared = declarations_compared x.declarations (no_else last x.ends (omega arith)) y.end es (declarations_rest y.declarations) (no_else last y.ends (omega arith)) in
    (list_end x.end y.end ds es compared (none_at_end tokens x.end x.ends) (none_at_end tokens y.end y.ends)).1
