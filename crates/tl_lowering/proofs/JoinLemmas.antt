-- One statement for a sequence of others, and blocks whose declarations are closed.
use Rattle.std.proofs.Common.{◌≡◌, ℕ, ◌+◌, ◌-◌, ◌/◌, ◌<◌, ◌≤◌, List, [], ◌∷◌, ◌++◌, length, take, drop, reverse, Option, Some, None, refl, sym, ap, ap₂, ◌∙◌, subst, arith, append-nil, length-take-le, take-take}
use Rattle.std.specs.Prelude.{MatchOption}
use Rattle.std.specs.Option.{unwrap_or}
use Rattle.std.proofs.lemmas.List.{reverse-append, drop-take}
use Rattle.tl_lowering.specs.declared.lowering.Binding.TheVariants as B
use Rattle.tl_lowering.specs.declared.lowering.Draft.{Draft}
use Rattle.tl_lowering.specs.declared.lowering.Opened.{Opened}
use Rattle.tl_lowering.specs.declared.program.Expression.{Expression}
use Rattle.tl_lowering.specs.declared.program.Place.{Place}
use Rattle.tl_lowering.specs.declared.program.Statement.{Statement}
use Rattle.tl_lowering.specs.declared.program.Statement.TheVariants as S
use Rattle.tl_lowering.specs.Naming.{IsThen, then, IsHalved, none, one, more}
use Rattle.tl_lowering.specs.Reading.{IsAtOffset, at, IsTried, tried}
use Rattle.tl_syntax.specs.declared.parsed.Action.{Action}
use Rattle.tl_syntax.specs.declared.parsed.Otherwise.{Otherwise}
use Rattle.tl_syntax.specs.declared.parsed.StatementForm.TheVariants as T
use Rattle.tl_lowering.specs.Naming.{declares}
use Rattle.tl_lowering.specs.Drafts.{opens, Binds, binds_value, binds_value_else, binds_nodes, Encloses, Ends, none_open, last_open, IsFinished}

-- ---- of what lies in boxes

pub then_of : {p q : _} {a b x y : Statement} → a ≡ x → b ≡ y → IsThen x y (S.Sequence' p a q b)
then_of {p} {q} {a} {b} {x} {y} e f = subst (λ z. IsThen z y (S.Sequence' p a q b)) e (subst (λ z. IsThen a z (S.Sequence' p a q b)) f then)

pub tried_of : {p q : _} {a b x y : Statement} → a ≡ x → b ≡ y → IsTried x y (S.Try' p a q b)
tried_of {p} {q} {a} {b} {x} {y} e f = subst (λ z. IsTried z y (S.Try' p a q b)) e (subst (λ z. IsTried a z (S.Try' p a q b)) f tried)

pub at_offset_of : {p : _} {offset : ℕ} {a x : Statement} → a ≡ x → IsAtOffset offset x (S.At' offset p a)
at_offset_of {p} {offset} {a} {x} e = subst (λ z. IsAtOffset offset z (S.At' offset p a)) e at

pub binds_value_of : {p : _} {x : ℕ} {e : Expression} {a rest : Statement} → a ≡ rest → Binds (B.Value x e) rest (S.Let' x e p a)
binds_value_of {p} {x} {e} {a} f = subst (λ z. Binds (B.Value x e) z (S.Let' x e p a)) f binds_value

pub binds_value_else_of : {p q : _} {x : ℕ} {e : Expression} {a b rest other : Statement} → a ≡ rest → b ≡ other
    → Binds (B.ValueElse x e other) rest (S.LetElse' x e p a q b)
binds_value_else_of {p} {q} {x} {e} {a} {b} {rest} f g =
    subst (λ z. Binds (B.ValueElse x e z) rest (S.LetElse' x e p a q b)) g (subst (λ z. Binds (B.ValueElse x e b) z (S.LetElse' x e p a q b)) f binds_value_else)

pub binds_nodes_of : {p q : _} {place : Place} {a b rest other : Statement} → a ≡ rest → b ≡ other
    → Binds (B.Nodes place other) rest (S.Lock' place p a q b)
binds_nodes_of {p} {q} {place} {a} {b} {rest} f g =
    subst (λ z. Binds (B.Nodes place z) rest (S.Lock' place p a q b)) g (subst (λ z. Binds (B.Nodes place b) z (S.Lock' place p a q b)) f binds_nodes)

-- ---- a list of statements, halved

pub joins_none : {xs : List Statement} → xs ≡ [] → IsHalved S.Skip xs
joins_none e = subst (IsHalved S.Skip) (sym e) none

pub joins_few : (count n m : ℕ) (o : Option Statement) (xs ys : List Statement) (s : Statement) → 0 < count → count < 2 → count ≤ n
    → MatchOption o ((n ≡ 0) × (m ≡ 0)) (λ x. (xs ≡ x ∷ ys) × (m + 1 ≡ n)) → s ≡ unwrap_or o S.Skip → IsHalved s (take count xs)
joins_few count n m None xs ys s some few fits e f = absurd (let z : n ≡ 0 = e.0 in omega arith)
joins_few count n m (Some x) xs ys s some few fits e f =
    let c : count ≡ 1 = omega arith in
    let w : xs ≡ x ∷ ys = e.0 in
    subst (IsHalved s) (sym (ap₂ take c w)) (subst (λ z. IsHalved z (x ∷ [])) (sym f) one)

pub joins_halves : (count half : ℕ) (xs rest : List Statement) (whole a b : Statement) → 2 ≤ count → count ≤ length xs → half ≡ count / 2 → IsThen a b whole
    → IsHalved a (take half xs) → rest ≡ drop half xs → IsHalved b (take (count - half) rest) → IsHalved whole (take count xs)
joins_halves count half xs rest whole a b two fits e w s f t =
    let all : length (take count xs) ≡ count = length-take-le count xs fits in
    let middle : length (take count xs) / 2 ≡ half = ap (λ n. n / 2) all ∙ sym e in
    let within : half ≤ count = omega arith in
    let first : take (length (take count xs) / 2) (take count xs) ≡ take half xs = ap (λ n. take n (take count xs)) middle ∙ take-take half count xs within in
    let split : half + (count - half) ≡ count = omega arith in
    let second : drop (length (take count xs) / 2) (take count xs) ≡ take (count - half) rest =
    ap (λ n. drop n (take count xs)) middle ∙ ap (λ n. drop half (take n xs)) (sym split) ∙ drop-take half (count - half) xs ∙ ap (take (count - half)) (sym f) in
    more (omega arith) (subst (IsHalved a) (sym first) s) (subst (IsHalved b) (sym second) t) w

-- ---- declarations are closed one after another, the last first

-- the statement with the declarations that are closed so far
pub record IsEnding (draft : Draft) (os : List Opened) (whole : Statement) : Type 0 where
  pub parts : List Statement
  pub joined : IsHalved whole parts
  pub ends : (all : List Statement) → Ends (reverse os) parts all → Ends (reverse draft.opened.items) draft.statements.items all

pub first_ending : (draft : Draft) (whole : Statement) → IsHalved whole draft.statements.items → IsEnding draft draft.opened.items whole
first_ending draft whole j = record { parts = draft.statements.items; joined = j; ends = λ all e. e }

pub next_ending : (draft : Draft) (old new : List Opened) (last : Opened) (rest whole : Statement) → IsEnding draft old rest → old ≡ new ++ last ∷ []
    → Encloses last rest whole → IsEnding draft new whole
next_ending draft old new last rest whole s e c =
    let f : reverse old ≡ last ∷ reverse new = ap reverse e ∙ reverse-append new (last ∷ []) in
    record {
      parts = last.earlier.items ++ c.at_offset ∷ [];
      joined = c.joined;
      ends = λ all g. s.ends all (subst (λ os. Ends os s.parts all) (sym f) (last_open s.joined c.bound_is c.placed_is g));
    }

pub all_ended : (draft : Draft) (os : List Opened) (whole : Statement) → os ≡ [] → IsEnding draft os whole → IsFinished draft whole
all_ended draft os whole e s = record {
  parts = s.parts;
  becomes =
      subst (λ xs. Ends (reverse draft.opened.items) xs s.parts) (sym (append-nil draft.statements.items))
      (s.ends s.parts (subst (λ z. Ends (reverse z) s.parts s.parts) (sym e) none_open));
  joined = s.joined;
}

-- ---- a statement's form

pub act_opens : (a : Action) (o : Option Otherwise) → opens (T.Act a o) ≡ declares a
act_opens a o = refl

pub same_action : (a b : Action) (o p : Option Otherwise) → T.Act a o ≡ T.Act b p → a ≡ b
same_action a b o p e = cc

pub same_else : (a b : Action) (o p : Option Otherwise) → T.Act a o ≡ T.Act b p → o ≡ p
same_else a b None None e = refl
same_else a b None (Some p) e = cc
same_else a b (Some o) None e = cc
same_else a b (Some o) (Some p) e = cc
