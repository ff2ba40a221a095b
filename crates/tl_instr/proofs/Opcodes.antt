-- The opcodes of the language.
use Rattle.std.proofs.Common.{◌≡◌, ℕ, Bool, true, false, ◌||◌, eqb, List, [], ◌∷◌, refl, sym, ◌∙◌, subst, ◌↔◌, IsTrue, pos, inl, inr}
use Rattle.std.specs.List.{list_any, AllByRecursion}
use Rattle.std.proofs.lemmas.Bool.Decides.{eqb_tells}
use Rattle.tl_instr.specs.declared.instr.Instr.{Instr}
use Rattle.tl_instr.specs.declared.instr.Instr.TheVariants.{Set, Copy, Add, Subtract, Multiply, Divide, Jump, JumpIfLess, JumpIfEqual, Repeat, RepeatBy, End, First, Child, Move, Release, Get, Put, Kids, Emit, Return}
use Rattle.tl_instr.specs.declared.version.Version.TheVariants.{One, Two}
use Rattle.tl_instr.specs.Versions.{HasOpcode}
use Rattle.std.proofs.lemmas.Bool.{eqb-true}
use Rattle.tl_instr.specs.Faults.{IsOpcode}
use Rattle.tl_instr.specs.Spelling.{cell_of}

abbrev pub opcodes : List ℕ
opcodes =
    1 ∷ 2 ∷ 3 ∷ 4 ∷ 5 ∷ 6 ∷ 7 ∷ 8 ∷ 9 ∷ 10 ∷ 11 ∷ 12 ∷ 13 ∷ 14 ∷ 15 ∷ 16 ∷ 17 ∷ 18 ∷ 19 ∷ 20 ∷ []

-- n is the opcode of an instruction that both versions have
abbrev Everywhere : ℕ → Type 0
Everywhere n = (i : Instr) × HasOpcode One i × HasOpcode Two i × ((cell_of i).opcode ≡ n)

-- each listed opcode is that of an instruction
each_is : AllByRecursion Everywhere opcodes
each_is = ((Set 0 (pos 0), tt, tt, refl), ((Copy 0 0, tt, tt, refl), ((Add 0 0 0 0, tt, tt, refl), ((Subtract 0 0 0 0, tt, tt, refl), ((Multiply 0 0 0 0, tt, tt, refl), ((Divide 0 0 0 0, tt, tt, refl), ((Jump 0, tt, tt, refl), ((JumpIfLess 0 0 0, tt, tt, refl), ((JumpIfEqual 0 0 0, tt, tt, refl), ((Repeat 0, tt, tt, refl), ((End, tt, tt, refl), ((First 0 0 0, tt, tt, refl), ((Child 0 0 0 0, tt, tt, refl), ((Move 0 0, tt, tt, refl), ((Release 0, tt, tt, refl), ((Get 0 0 0, tt, tt, refl), ((Put 0 0 0, tt, tt, refl), ((Kids 0 0, tt, tt, refl), ((Emit 0, tt, tt, refl), ((Return, tt, tt, refl), tt))))))))))))))))))))

-- the opcode of each instruction of the first version is listed
is_listed : (i : Instr) → HasOpcode One i → list_any (λ y. eqb y (cell_of i).opcode) opcodes ≡ true
is_listed (RepeatBy turns count) h = absurd h
is_listed i h = refl

or_by_register : (i : Instr) → (eqb (cell_of i).opcode 21 || list_any (λ y. eqb y (cell_of i).opcode) opcodes) ≡ true
or_by_register (RepeatBy turns count) = refl
or_by_register i = refl

-- a property of all elements of the list is a property of each listed number
found : (P : ℕ → Type 0) (ks : List ℕ) (n : ℕ) → AllByRecursion P ks → list_any (λ y. eqb y n) ks ≡ true → P n
found P [] n all e = absurd cc
found P (k ∷ ks) n all e =
    elim (eqb_tells k n) [
      | inl same ↦ subst P same.1 all.0
      | inr other ↦ found P ks n all.1 (rw other.0 at e)
    ]

pub decides_one : (n : ℕ) (b : Bool) → b ≡ list_any (λ y. eqb y n) opcodes → IsTrue b ↔ IsOpcode One n
decides_one n b e =
    (λ yes. let f = found Everywhere opcodes n each_is (sym e ∙ yes) in (f.0, f.1, f.3), λ has. e ∙ subst (λ (m : ℕ). list_any (λ y. eqb y m) opcodes ≡ true) has.2 (is_listed has.0 has.1))

pub decides_two : (n : ℕ) (b : Bool) → b ≡ (eqb n 21 || list_any (λ y. eqb y n) opcodes) → IsTrue b ↔ IsOpcode Two n
decides_two n b e =
    (λ yes. by (eqb n 21) refl (sym e ∙ yes), λ has. e ∙ subst (λ (m : ℕ). (eqb m 21 || list_any (λ y. eqb y m) opcodes) ≡ true) has.2 (or_by_register has.0))
  where
    by : (c : Bool) → eqb n 21 ≡ c → (c || list_any (λ y. eqb y n) opcodes) ≡ true → IsOpcode Two n
    by true same f = (RepeatBy 0 0, tt, sym (eqb-true n 21 same))
    by false other f = let g = found Everywhere opcodes n each_is f in (g.0, g.2, g.3)
