-- A text has at most one first fault.
use Rattle.std.proofs.Common.{◌≡◌, ◌⊎◌, ℕ, ◌+◌, ◌<◌, List, length, take, get_or, Option, Some, refl, sym, ◌∙◌, ap, subst, arith, inl, inr}
use Rattle.std.specs.Prelude.{IsSome, slice_get}
use Rattle.std.proofs.lemmas.Bool.{cases_lt, cases_eq}
use Rattle.std.proofs.lemmas.List.{take-take, length-take-le, get_or-take}
use Rattle.std.proofs.lemmas.Option.{get_or_from_slice_get, slice_get_within}
use Rattle.tl_asm.specs.declared.fault.AsmFault.{AsmFault}
use Rattle.tl_asm.specs.declared.fault.AsmFault.TheVariants.{BadLine, NoLabel, LabelTwice, TooLong, Memory}
use Rattle.tl_asm.specs.Statements.{DraftValue, Said}
use Rattle.tl_asm.specs.Texts.{InPlace, Distinct, statements, aimed, labels_in, drafts_in}
use Rattle.tl_asm.specs.Faults.{Begin, IsReached, IsWhole, IsFirstAstray, IsFirstFaultIn, IsFirstFault}
use Rattle.tl_asm.proofs.OneCode.{front_of, none_some}

module _ (ss : List (Option Said)) where
  -- the fault at line k + 1, by the kind of the fault
  Kind : ℕ → AsmFault → Type 0
  Kind k f =
      ((f ≡ BadLine (k + 1)) × ¬ InPlace (take (k + 1) ss))
      ⊎ (((f ≡ LabelTwice (k + 1)) × InPlace (take (k + 1) ss) × ¬ Distinct (labels_in 0 (take (k + 1) ss)))
      ⊎ ((f ≡ TooLong) × InPlace (take (k + 1) ss) × Distinct (labels_in 0 (take (k + 1) ss))))

  record AtLine (f : AsmFault) : Type 0 where
    k : ℕ
    reached : IsReached ss k
    fails : ¬ Begin (take (k + 1) ss)
    kind : Kind k f

  record AtEnd (f : AsmFault) : Type 0 where
    begin : Begin ss
    kind : ((f ≡ BadLine (length ss)) × ¬ IsWhole ss) ⊎ ((n : ℕ) × (f ≡ NoLabel n) × IsFirstAstray ss n)

  sorted : (f : AsmFault) → IsFirstFaultIn ss f → AtLine f ⊎ AtEnd f
  unfolding Kind
  sorted (BadLine n) (inl h) = inl (record { k = h.0; reached = h.2; fails = λ b. h.3 b.in_place; kind = inl (ap BadLine h.1, h.3) })
  sorted (BadLine n) (inr h) = inr (record { begin = h.1; kind = inl (ap BadLine h.0, h.2) })
  sorted (LabelTwice n) h = inl (record { k = h.0; reached = h.2; fails = λ b. h.4 b.distinct; kind = inr (inl (ap LabelTwice h.1, h.3, h.4)) })
  sorted TooLong h = inl (record { k = h.0; reached = h.1; fails = λ b. (let short = b.short in let long = h.4 in omega arith); kind = inr (inr (refl, h.2, h.3)) })
  sorted (NoLabel n) h = inr (record { begin = h.whole.lines; kind = inr (n, refl, h) })
  sorted Memory h = absurd h

  -- all lines before a line that is reached are a valid beginning
  never_before : (j k : ℕ) → IsReached ss j → ¬ Begin (take (k + 1) ss) → k < j → ⊥
  never_before j k reached fails lt =
      let shorter : take (k + 1) (take j ss) ≡ take (k + 1) ss = take-take (k + 1) j ss (omega arith) in
      fails (subst Begin shorter (front_of (take j ss) (k + 1) reached.before))

  same_kind : (k : ℕ) (f g : AsmFault) → Kind k f → Kind k g → f ≡ g
  unfolding Kind
  same_kind k f g (inl a) (inl b) = a.0 ∙ sym b.0
  same_kind k f g (inl a) (inr (inl b)) = absurd (a.1 b.1)
  same_kind k f g (inl a) (inr (inr b)) = absurd (a.1 b.1)
  same_kind k f g (inr (inl a)) (inl b) = absurd (b.1 a.1)
  same_kind k f g (inr (inl a)) (inr (inl b)) = a.0 ∙ sym b.0
  same_kind k f g (inr (inl a)) (inr (inr b)) = absurd (a.2 b.2)
  same_kind k f g (inr (inr a)) (inl b) = absurd (b.1 a.1)
  same_kind k f g (inr (inr a)) (inr (inl b)) = absurd (b.2 a.2)
  same_kind k f g (inr (inr a)) (inr (inr b)) = a.0 ∙ sym b.0

  one_line : (f g : AsmFault) → AtLine f → AtLine g → f ≡ g
  one_line f g a b = elim (cases_eq a.k b.k) [
    | inl same ↦ same_kind b.k f g (subst (λ (k : ℕ). Kind k f) same a.kind) b.kind
    | inr other ↦ elim (cases_lt a.k b.k) [
      | inl before ↦ absurd (never_before b.k a.k b.reached a.fails before)
      | inr after ↦ absurd (never_before a.k b.k a.reached b.fails (omega (arith, other, after)))
    ]
  ]

  not_astray_before : (m n : ℕ) (a : IsFirstAstray ss m) (b : IsFirstAstray ss n) → a.place < b.place → ⊥
  not_astray_before m n a b lt =
      let there = slice_get_within (drafts_in 1 ss) b.place (n, b.draft) b.here in
      let long : length (take b.place (drafts_in 1 ss)) ≡ b.place = length-take-le b.place (drafts_in 1 ss) (omega arith) in
      let some = b.before a.place (m, a.draft) (omega arith) in
      let at : get_or (take b.place (drafts_in 1 ss)) a.place (m, a.draft) ≡ (m, a.draft) = get_or-take b.place (drafts_in 1 ss) a.place (m, a.draft) lt ∙ get_or_from_slice_get (drafts_in 1 ss) a.place (m, a.draft) (m, a.draft) a.here in
      none_some (aimed (labels_in 0 ss) a.draft.instr a.draft.label) a.astray (subst (λ (d : ℕ × DraftValue). IsSome (aimed (labels_in 0 ss) d.1.instr d.1.label)) at some)

  same_astray : (m n : ℕ) → IsFirstAstray ss m → IsFirstAstray ss n → m ≡ n
  same_astray m n a b = elim (cases_eq a.place b.place) [
    | inl same ↦
        let one : Some (m, a.draft) ≡ Some (n, b.draft) = sym a.here ∙ ap (slice_get (drafts_in 1 ss)) same ∙ b.here in
        (let pair : (m, a.draft) ≡ (n, b.draft) = cc in ap (λ (d : ℕ × DraftValue). d.0) pair)
    | inr other ↦ elim (cases_lt a.place b.place) [
      | inl before ↦ absurd (not_astray_before m n a b before)
      | inr after ↦ absurd (not_astray_before n m b a (omega (arith, other, after)))
    ]
  ]

  one_end : (f g : AsmFault) → AtEnd f → AtEnd g → f ≡ g
  one_end f g a b = both a.kind b.kind
    where
      both : ((f ≡ BadLine (length ss)) × ¬ IsWhole ss) ⊎ ((n : ℕ) × (f ≡ NoLabel n) × IsFirstAstray ss n) → ((g ≡ BadLine (length ss)) × ¬ IsWhole ss) ⊎ ((n : ℕ) × (g ≡ NoLabel n) × IsFirstAstray ss n) → f ≡ g
      both (inl x) (inl y) = x.0 ∙ sym y.0
      both (inl x) (inr y) = absurd (x.1 y.2.whole)
      both (inr x) (inl y) = absurd (y.1 x.2.whole)
      both (inr x) (inr y) = x.1 ∙ ap NoLabel (same_astray x.0 y.0 x.2 y.2) ∙ sym y.1

  one_in : (f g : AsmFault) → AtLine f ⊎ AtEnd f → AtLine g ⊎ AtEnd g → f ≡ g
  one_in f g (inl a) (inl b) = one_line f g a b
  one_in f g (inl a) (inr b) = absurd (a.fails (front_of ss (a.k + 1) b.begin))
  one_in f g (inr a) (inl b) = absurd (b.fails (front_of ss (b.k + 1) a.begin))
  one_in f g (inr a) (inr b) = one_end f g a b

pub one_fault : (text : List ℕ) (f g : AsmFault) → IsFirstFault text f → IsFirstFault text g → f ≡ g
one_fault text f g a b = one_in (statements text) f g (sorted (statements text) f a) (sorted (statements text) g b)
