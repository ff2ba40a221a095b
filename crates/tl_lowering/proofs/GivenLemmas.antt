-- What a part is where it is used.
use Rattle.std.proofs.Common.{◌≡◌, ◌≢◌, ℕ, ◌+◌, ◌<◌, ◌≤◌, List, [], ◌∷◌, length, Bool, true, false, ◌⊎◌, inl, inr, Option, None, Some, refl, sym, ap, ap₂, ◌∙◌, subst, true≢false, arith}
use Rattle.std.specs.Prelude.{IfSome, slice_set, get_or}
use Rattle.std.proofs.lemmas.Bool.{cases_eq, cases_lt}
use Rattle.std.proofs.lemmas.List.{get_or-set_same, get_or-set_other, get_or_past, length-set}
use Rattle.tl_syntax.specs.declared.parsed.Name.{Name}
use Rattle.tl_syntax.specs.declared.parsed.Expression.{Expression as TextExpression}
use Rattle.tl_syntax.specs.declared.parsed.Parameter.{Parameter}
use Rattle.tl_syntax.specs.declared.parsed.Parameter.TheVariants as G
use Rattle.tl_syntax.specs.declared.parsed.Declaration.{Declaration}
use Rattle.tl_syntax.specs.declared.parsed.Statement.{Statement as TextStatement}
use Rattle.tl_lowering.specs.declared.loops.Repetition.{Repetition}
use Rattle.tl_lowering.specs.declared.lowering.Binding.TheVariants as B
use Rattle.tl_lowering.specs.declared.paths.Flow.{Flow}
use Rattle.tl_lowering.specs.declared.paths.Held.{Held}
use Rattle.tl_lowering.specs.declared.program.Expression.{Expression}
use Rattle.tl_lowering.specs.declared.program.Statement.{Statement}
use Rattle.tl_lowering.specs.declared.program.Statement.TheVariants as S
use Rattle.tl_lowering.specs.declared.scope.Meaning.{Meaning}
use Rattle.tl_lowering.specs.declared.scope.Meaning.TheVariants as M
use Rattle.tl_lowering.specs.Drafts.{Binds, binds_value}
use Rattle.tl_lowering.specs.Entering.{before_of}
use Rattle.tl_lowering.specs.Giving.{IsNodeGiven, IsVariableGiven, IsValueGiven}
use Rattle.tl_lowering.specs.declared.readers.Readers.{Readers}
use Rattle.tl_lowering.specs.Names.{Names}
use Rattle.tl_lowering.specs.Reading.{IsBlock, IsGiven, all_given, node_given, variable_given, value_given}
use Rattle.tl_lowering.specs.Outcomes.{locked, nodes_behind, handled_by, after, fails}
use Rattle.tl_lowering.specs.Paths.{bits, nodes_of}
use Rattle.tl_lowering.specs.Repeating.{IsTurn}
use Rattle.tl_lowering.specs.Scopes.{View, IsBelow, IsLowered, is_in_loop}
use Rattle.tl_lowering.specs.Sets.{Nodes, holds, with_node, all_of}
use Rattle.tl_lowering.specs.Sound.{IsWellFormed}
use Rattle.tl_lowering.proofs.SetLemmas.{holds_other}

if_some : (o : Option Nodes) (P Q : Nodes → Type 0) → ((h : Nodes) → P h → Q h) → IfSome o P → IfSome o Q
if_some None P Q f x = tt
if_some (Some h) P Q f x = f h x

-- a statement that is well-formed outside of loops is well-formed in them
pub in_loops : (s : Statement) (d m : ℕ) (held : Nodes) (in_loop : Bool) → IsWellFormed s d m held false → IsWellFormed s d m held in_loop
in_loops S.Skip d m held b w = tt
in_loops (S.Sequence' p x q y) d m held b w = (in_loops x d m held b w.0, if_some (after x held) (λ h. IsWellFormed y d m h false) (λ h. IsWellFormed y d m h b) (λ h. in_loops y d m h b) w.1)
in_loops (S.Assign v e) d m held b w = w
in_loops (S.Write n f e) d m held b w = w
in_loops (S.Emit e) d m held b w = w
in_loops (S.Free n) d m held b w = w
in_loops (S.Descend n e) d m held b w = w
in_loops (S.Take n k) d m held b w = w
in_loops S.Break d m held b w = absurd (true≢false (sym w))
in_loops S.Return d m held b w = tt
in_loops S.Fail d m held b w = tt
in_loops (S.If' c p x q y) d m held b w = (w.0, in_loops x d m held b w.1, in_loops y d m held b w.2)
in_loops (S.Let' v e p x) d m held b w = (w.0, w.1, in_loops x (d + 1) m held b w.2)
in_loops (S.LetElse' v e p x q o) d m held b w = (w.0, w.1, in_loops x (d + 1) m held b w.2, in_loops o d m held b w.3)
in_loops (S.Lock' place p x q o) d m held b w = (w.0, in_loops x d (nodes_behind place) (locked place held) b w.1, in_loops o d m held b w.2)
in_loops (S.Try' p x q y) d m held b w = (in_loops x d m held b w.0, in_loops y d m (handled_by held (all_of (fails x held))) b w.1)
in_loops (S.Repeat' t p x) d m held b w = w
in_loops (S.RepeatUpTo' e t p x) d m held b w = w
in_loops (S.At' offset p x) d m held b w = in_loops x d m held b w

-- with as many registers in use and as many loops around
pub lowered_there : {here there : View} {held : Held} {a : Statement} {flow : Flow} → here ≡ there → IsLowered here held a flow → IsLowered there held a flow
lowered_there {held = held} {a = a} {flow = flow} e = subst (λ v. IsLowered v held a flow) e

pub lowered_as : (a b : View) (held : Held) {s : Statement} {flow : Flow} → a.values ≡ b.values → a.nodes ≡ b.nodes → a.loops ≡ b.loops → IsLowered a held s flow → IsLowered b held s flow
lowered_as a b held {s} v n l h = record {
  sound = subst (λ z. IsWellFormed s z b.nodes (nodes_of held) (is_in_loop b)) v (subst (λ z. IsWellFormed s a.values z (nodes_of held) (is_in_loop b)) n
      (subst (λ z. IsWellFormed s a.values a.nodes (nodes_of held) z) (ap (λ k. is_in_loop (record b { loops = k })) l) h.sound));
  paths = h.paths;
}

-- a part is lowered outside of loops
pub lowered_in_loops : (a b : View) (held : Held) {s : Statement} {flow : Flow} → a.values ≡ b.values → a.nodes ≡ b.nodes → a.loops ≡ 0 → IsLowered a held s flow → IsLowered b held s flow
lowered_in_loops a b held {s} v n l h = record {
  sound =
      in_loops s b.values b.nodes (nodes_of held) (is_in_loop b)
      (subst (λ z. IsWellFormed s z b.nodes (nodes_of held) false) v (subst (λ z. IsWellFormed s a.values z (nodes_of held) false) n
      (subst (λ z. IsWellFormed s a.values a.nodes (nodes_of held) z) (ap (λ k. is_in_loop (record b { loops = k })) l) h.sound)));
  paths = h.paths;
}

-- ---- the nodes that have names in a part

abbrev pub HoldsNamed : List Meaning → Nodes → Type 0
HoldsNamed ms named = (i n : ℕ) → get_or ms i M.Nothing ≡ M.Node n → holds named n ≡ true

no_node_in : (n : ℕ) → M.Nothing ≡ M.Node n → ⊥
no_node_in n e = cc

-- a name for a number is no name of a node
pub value_names : (ms : List Meaning) (s x i n : ℕ) → get_or (slice_set ms s (M.Value x)) i M.Nothing ≡ M.Node n → get_or ms i M.Nothing ≡ M.Node n
value_names ms s x i n e = by (cases_eq i s) (cases_lt s (length ms))
  where
    by : (i ≡ s) ⊎ (i ≢ s) → (s < length ms) ⊎ (length ms ≤ s) → get_or ms i M.Nothing ≡ M.Node n
    by (inl same) (inl lt) =
        let f : M.Value x ≡ M.Node n = sym (get_or-set_same ms s (M.Value x) M.Nothing lt) ∙ ap (λ z. get_or (slice_set ms s (M.Value x)) z M.Nothing) (sym same) ∙ e in cc
    by (inl same) (inr le) = absurd (no_node_in n (sym (get_or_past (slice_set ms s (M.Value x)) i M.Nothing (omega (arith, length-set ms s (M.Value x)))) ∙ e))
    by (inr other) c = sym (get_or-set_other ms s i (M.Value x) M.Nothing other) ∙ e

-- a node that gets a name is among those that have one
pub alias_names : (ms : List Meaning) (named : Nodes) (s r : ℕ) → r < length named → HoldsNamed ms named → HoldsNamed (slice_set ms s (M.Node r)) (with_node named r)
alias_names ms named s r few h i n e = by (cases_eq i s) (cases_lt s (length ms))
  where
    now : holds (with_node named r) r ≡ true
    now = get_or-set_same named r true false few

    kept : (r ≡ n) ⊎ (r ≢ n) → holds named n ≡ true → holds (with_node named r) n ≡ true
    kept (inl same) f = ap (holds (with_node named r)) (sym same) ∙ now
    kept (inr other) f = holds_other named r n other ∙ f

    by : (i ≡ s) ⊎ (i ≢ s) → (s < length ms) ⊎ (length ms ≤ s) → holds (with_node named r) n ≡ true
    by (inl same) (inl lt) =
        let f : M.Node r ≡ M.Node n = sym (get_or-set_same ms s (M.Node r) M.Nothing lt) ∙ ap (λ z. get_or (slice_set ms s (M.Node r)) z M.Nothing) (sym same) ∙ e in
        let register : r ≡ n = cc in
        ap (holds (with_node named r)) (sym register) ∙ now
    by (inl same) (inr le) = absurd (no_node_in n (sym (get_or_past (slice_set ms s (M.Node r)) i M.Nothing (omega (arith, length-set ms s (M.Node r)))) ∙ e))
    by (inr other) c = kept (cases_eq r n) (h i n (sym (get_or-set_other ms s i (M.Node r) M.Nothing other) ∙ e))

pub unnamed : (ms : List Meaning) (named : Nodes) (r i : ℕ) → HoldsNamed ms named → holds named r ≡ false → get_or ms i M.Nothing ≢ M.Node r
unnamed ms named r i h none e = true≢false (sym (h i r e) ∙ none)

-- the registers below those in use, of names of outside
pub in_use_outside : (t m : ℕ) (x : Meaning) (r : ℕ) → IsBelow t m x → x ≡ M.Node r → r < m
in_use_outside t m x r below e = subst (IsBelow t m) e below

-- ---- what is given, one after another

pub given_none : {before : List Declaration} {readers : Readers} {outer names : Names} {ps : List Parameter} {args : List TextExpression} {body : List TextStatement} {a : Statement} → length ps ≡ 0 → length args ≡ 0
    → IsBlock before readers names body a → IsGiven before readers outer names ps args body a
given_none {ps = []} {args = []} e f b = all_given b
given_none {ps = []} {args = x ∷ args} e f b = absurd (omega (arith, f))
given_none {ps = p ∷ ps} e f b = absurd (omega (arith, e))

pub given_node : {before : List Declaration} {readers : Readers} {outer names later : Names} {ps rest : List Parameter} {args more : List TextExpression} {p : Parameter} {name : Name} {argument : TextExpression} {body : List TextStatement}
    {a : Statement} → ps ≡ p ∷ rest → p ≡ G.Node name → args ≡ argument ∷ more → IsNodeGiven outer names name argument later → IsGiven before readers outer later rest more body a
    → IsGiven before readers outer names ps args body a
given_node {before} {readers} {outer} {names} {rest = rest} {args = args} {name = name} {argument = argument} {body = body} {a = a} e f g h k =
    subst (λ z. IsGiven before readers outer names z args body a) (sym (e ∙ ap (λ z. z ∷ rest) f)) (subst (λ z. IsGiven before readers outer names (G.Node name ∷ rest) z body a) (sym g) (node_given argument h k))

pub given_variable : {before : List Declaration} {readers : Readers} {outer names later : Names} {ps rest : List Parameter} {args more : List TextExpression} {p : Parameter} {name : Name} {argument : TextExpression} {body : List TextStatement}
    {a : Statement} → ps ≡ p ∷ rest → p ≡ G.Variable name → args ≡ argument ∷ more → IsVariableGiven outer names name argument later → IsGiven before readers outer later rest more body a
    → IsGiven before readers outer names ps args body a
given_variable {before} {readers} {outer} {names} {rest = rest} {args = args} {name = name} {argument = argument} {body = body} {a = a} e f g h k =
    subst (λ z. IsGiven before readers outer names z args body a) (sym (e ∙ ap (λ z. z ∷ rest) f)) (subst (λ z. IsGiven before readers outer names (G.Variable name ∷ rest) z body a) (sym g) (variable_given argument h k))

bound_given : {before : List Declaration} {readers : Readers} {outer names later : Names} {rest : List Parameter} {more : List TextExpression} {name : Name} {argument : TextExpression} {body : List TextStatement}
    {e : Expression} {a whole : Statement} → IsValueGiven outer names name argument e later → IsGiven before readers outer later rest more body a → Binds (B.Value names.values e) a whole
    → IsGiven before readers outer names (G.Value name ∷ rest) (argument ∷ more) body whole
bound_given {argument = argument} h k binds_value = value_given argument h k

pub given_value : {before : List Declaration} {readers : Readers} {outer names later : Names} {ps rest : List Parameter} {args more : List TextExpression} {p : Parameter} {name : Name} {argument : TextExpression} {body : List TextStatement}
    {x : ℕ} {number : Expression} {a whole : Statement} → ps ≡ p ∷ rest → p ≡ G.Value name → args ≡ argument ∷ more → IsValueGiven outer names name argument number later → x ≡ names.values
    → IsGiven before readers outer later rest more body a → Binds (B.Value x number) a whole → IsGiven before readers outer names ps args body whole
given_value {before} {readers} {outer} {names} {rest = rest} {args = args} {name = name} {body = body} {number = number} {a = a} {whole = whole} e f g h x k b =
    subst (λ z. IsGiven before readers outer names z args body whole) (sym (e ∙ ap (λ z. z ∷ rest) f))
    (subst (λ z. IsGiven before readers outer names (G.Value name ∷ rest) z body whole) (sym g) (bound_given h k (subst (λ z. Binds (B.Value z number) a whole) x b)))

pub given_at : {before others : List Declaration} {readers : Readers} {outer o names n : Names} {ps qs : List Parameter} {args : List TextExpression} {body xs : List TextStatement} {a : Statement} → others ≡ before → o ≡ outer → n ≡ names
    → qs ≡ ps → xs ≡ body → IsGiven others readers o n qs args xs a → IsGiven before readers outer names ps args body a
given_at {before} {others} {readers} {outer} {o} {names} {n} {ps} {qs} {args} {body} {xs} {a} e f g h i k =
    subst (λ z. IsGiven z readers outer names ps args body a) e (subst (λ z. IsGiven others readers z names ps args body a) f (subst (λ z. IsGiven others readers o z ps args body a) g
    (subst (λ z. IsGiven others readers o n z args body a) h (subst (λ z. IsGiven others readers o n qs args z a) i k))))

-- ---- where a turn begins

pub same_before : (a b held : Held) → a.is_entered ≡ held.is_entered → b.is_entered ≡ held.is_entered → a.visited ≡ b.visited → before_of a ≡ before_of b
same_before a b held e f v = ap₂ (λ x y. record { entered = x; passed = bits y }) (e ∙ sym f) v

-- the same where as many registers are in use
pub turn_as : (scope now : View) (start held : Held) {r : Repetition} {body : Statement} {flow : Flow} → now ≡ scope → nodes_of start ≡ nodes_of held → IsTurn scope.values scope.nodes (nodes_of start) r body flow
    → IsTurn now.values now.nodes (nodes_of held) r body flow
turn_as scope now start held {r} {body} {flow} e n t =
    subst (λ (v : View). IsTurn v.values v.nodes (nodes_of held) r body flow) (sym e) (subst (λ h. IsTurn scope.values scope.nodes h r body flow) n t)
