-- The pads to which failures lead.
use Rattle.std.proofs.Common.{◌≡◌, ◌≢◌, ◌⊎◌, inl, inr, ℕ, suc, ◌+◌, ◌-◌, ◌<◌, List, ◌∷◌, length, Bool, true, false, refl, sym, ap, ap₂, subst, ◌∙◌, arith, get_or}
use Rattle.std.proofs.Math.ListN.{replicate}
use Rattle.std.specs.Prelude.{nat_eq, slice_set, if◌then◌else◌, map, not, ◌&&◌}
use Rattle.std.specs.List.{range_with_len}
use Rattle.std.proofs.lemmas.Bool.Decides.{eqb_tells}
use Rattle.std.proofs.lemmas.List.{get_or-set_same, get_or-set_other, get_or-replicate}
use Rattle.tl_instr.specs.declared.instr.Instr.TheVariants.{Jump}
use Rattle.tl_lowering.specs.Sets.{Nodes, minus, same, is_among}
use Rattle.tl_verify.specs.Bits.{bits_of}
use Rattle.tl_compiler.specs.declared.context.Pads.{Pads}
use Rattle.tl_compiler.specs.declared.draft.Draft.{Draft}
use Rattle.tl_compiler.specs.declared.draft.Label.{Label}
use Rattle.tl_compiler.specs.Contexts.{LeadsTo, ArePads, code_of}
use Rattle.tl_compiler.specs.Labels.{target_of}
use Rattle.tl_compiler.specs.Statements as Code
use Rattle.tl_compiler.specs.Statements.{release_code, pad_at, one_pad, pads_of}
use Rattle.tl_compiler.proofs.SetNumbers.{same_number}

-- one pad for all sets
pub all_set : (new : Pads) (label : Label) → new.labels ≡ replicate 256 label → LeadsTo (λ held. label.0) new
all_set new label is = record {
  at_each = λ n lt.
      sym (ap (λ (l : List Label). (get_or {A = Label} l n (record { 0 = 0 })).0) is ∙ ap (λ (l : Label). l.0) (get_or-replicate 256 n label (record { 0 = 0 }) lt));
}

-- one pad is replaced
pub one_set : (old new : Pads) (k : ℕ) (label : Label) (pad : Nodes → ℕ) → k < 256 → length old.labels ≡ 256 → new.labels ≡ slice_set old.labels k label
    → LeadsTo pad old → LeadsTo (pad_at (bits_of 8 k) label.0 pad) new
one_set old new k label pad small all is leads = record { at_each = λ n lt. by n lt (eqb_tells k n) }
  where
    by : (n : ℕ) → n < 256 → ((nat_eq k n ≡ true) × (k ≡ n)) ⊎ ((nat_eq k n ≡ false) × (k ≢ n))
        → (if same (bits_of 8 k) (bits_of 8 n) then label.0 else pad (bits_of 8 n)) ≡ (get_or {A = Label} new.labels n (record { 0 = 0 })).0
    by n lt (inl e) =
        let there : k < length old.labels = omega arith in
        rw (same_number 8 k n small lt ∙ e.0)
        (sym (ap (λ (l : List Label). (get_or {A = Label} l n (record { 0 = 0 })).0) is
        ∙ ap (λ m. (get_or {A = Label} (slice_set old.labels k label) m (record { 0 = 0 })).0) (sym e.1)
        ∙ ap (λ (l : Label). l.0) (get_or-set_same old.labels k label (record { 0 = 0 }) there)))
    by n lt (inr e) =
        rw (same_number 8 k n small lt ∙ e.0)
        (leads.at_each n lt
        ∙ sym (ap (λ (l : List Label). (get_or {A = Label} l n (record { 0 = 0 })).0) is
        ∙ ap (λ (l : Label). l.0) (get_or-set_other old.labels k n label (record { 0 = 0 }) (λ z. e.1 (sym z)))))

-- ---- all pads, from the last set on

pub pads_step : (list : List Nodes) (handled : Nodes) (f i : ℕ) (first : Code.Pads) → i < 256
    → pads_of (map (bits_of 8) (range_with_len (256 - (i + 1)) (i + 1))) list handled f first
    ≡ one_pad (is_among (bits_of 8 (255 - i)) list && not (same (bits_of 8 (255 - i)) handled)) (bits_of 8 (255 - i)) handled f
    (pads_of (map (bits_of 8) (range_with_len (256 - i) i)) list handled f first)
pads_step list handled f i first lt =
    let begin : 256 - (i + 1) ≡ 255 - i = omega arith in
    let more : i + 1 ≡ suc i = omega arith in
    let behind : (255 - i) + 1 ≡ 256 - i = omega arith in
    ap₂ (λ a n. pads_of (map (bits_of 8) (range_with_len a n)) list handled f first) begin more
    ∙ ap (λ a. one_pad (is_among (bits_of 8 (255 - i)) list && not (same (bits_of 8 (255 - i)) handled)) (bits_of 8 (255 - i)) handled f (pads_of (map (bits_of 8) (range_with_len a i)) list handled f first)) behind

module _ (list : List Nodes) (handled : Nodes) (f i : ℕ) (first : Code.Pads) (held : Nodes) (small : i < 256) (is : held ≡ bits_of 8 (255 - i)) where
  -- the pads so far, and below with the next set
  abbrev pub so_far : Code.Pads
  so_far = pads_of (map (bits_of 8) (range_with_len (256 - i) i)) list handled f first

  abbrev pub one_further : Code.Pads
  one_further = pads_of (map (bits_of 8) (range_with_len (256 - (i + 1)) (i + 1))) list handled f first

  further : (b : Bool) → is_among held list && not (same held handled) ≡ b → one_further ≡ one_pad b held handled f so_far
  further b test =
      pads_step list handled f i first small
      ∙ ap (λ h. one_pad (is_among h list && not (same h handled)) h handled f so_far) (sym is)
      ∙ ap (λ b. one_pad b held handled f so_far) test

  pub pad_put : (old new : Draft) (before behind : Pads) (some : Bool) → is_among held list ≡ true → same held handled ≡ false → ArePads so_far old before some
      → code_of new ≡ release_code (minus held handled) (Jump (target_of f) ∷ code_of old)
      → ((pad : Nodes → ℕ) → LeadsTo pad before → LeadsTo (pad_at held (length (code_of new)) pad) behind)
      → ArePads one_further new behind true
  pad_put old new before behind some there other are code leads =
      let whole = code ∙ ap (λ k. release_code (minus held handled) (Jump (target_of f) ∷ k)) are.code in
      subst (λ made. ArePads made new behind true) (sym (further true (ap₂ (λ a b. a && not b) there other)))
      (record { code = whole; leads = subst (λ n. LeadsTo (pad_at held n so_far.pad) behind) (ap length whole) (leads so_far.pad are.leads); some = refl })

  left_out : (new : Draft) (pads : Pads) (some : Bool) → is_among held list && not (same held handled) ≡ false → ArePads so_far new pads some → ArePads one_further new pads some
  left_out new pads some test are = subst (λ made. ArePads made new pads some) (sym (further false test)) are

  pub not_there : (new : Draft) (pads : Pads) (some : Bool) → is_among held list ≡ false → ArePads so_far new pads some → ArePads one_further new pads some
  not_there new pads some absent are = left_out new pads some (ap (λ a. a && not (same held handled)) absent) are

  pub begins_there : (new : Draft) (pads : Pads) (some : Bool) → same held handled ≡ true → ArePads so_far new pads some → ArePads one_further new pads some
  begins_there new pads some equal are = left_out new pads some (ap (λ b. is_among held list && not b) equal ∙ never (is_among held list)) are
    where
      never : (a : Bool) → a && false ≡ false
      never true = refl
      never false = refl
