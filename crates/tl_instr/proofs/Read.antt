-- What is read from a container is the code that it encodes.
use Rattle.std.proofs.Common.{◌≡◌, ◌≢◌, ℕ, ◌+◌, ◌<◌, ◌≤◌, List, ◌∷◌, ◌++◌, length, take, drop, get_or, refl, sym, ◌∙◌, ap, subst, arith, inl, inr}
use Rattle.std.specs.Prelude.{slice_index}
use Rattle.std.specs.Int.{w16, to_be_bytes}
use Rattle.std.specs.List.{All, flat_map}
use Rattle.std.proofs.Math.Seq.{drop-cons}
use Rattle.std.proofs.lemmas.Nat.{be_bytes_2}
use Rattle.std.proofs.lemmas.List.{take-append-drop, drop-drop, length-take, length-drop, get_or-drop, get_or-take, get_or_past}
use Rattle.std.proofs.lemmas.Bool.{cases_lt}
use Rattle.tl_instr.specs.declared.fault.CodeFault.{CodeFault}
use Rattle.tl_instr.specs.declared.fault.CodeFault.TheVariants.{BadMagic, BadLength, BadOpcode, BadOperand, BadCount, BadArity, NotVersion1, Memory}
use Rattle.tl_instr.specs.declared.version.Version.{Version}
use Rattle.tl_instr.specs.declared.instr.Instr.{Instr}
use Rattle.tl_instr.specs.Instructions.{IsInstr}
use Rattle.tl_instr.specs.Codes.{CodeValue, IsCode, IsArity, IsCount}
use Rattle.tl_instr.specs.Faults.{IsFramed, IsFirstFault, HasMagic, version_at, count_at}
use Rattle.tl_instr.specs.Versions.{magic}
use Rattle.tl_instr.specs.declared.version.Version.TheVariants.{One, Two}
use Rattle.tl_instr.specs.Spelling.{header, instr_bytes, Spelled}
use Rattle.tl_instr.proofs.Laws.{faultless}

-- the two bytes of the count
count_bytes : (bytes : List ℕ) → 8 ≤ length bytes → ((i : ℕ) → get_or bytes i 0 < 256) → to_be_bytes w16 (count_at bytes) ≡ take 2 (drop 6 bytes)
count_bytes bytes long fits =
    be_bytes_2 (take 2 (drop 6 bytes)) _ (omega (arith, length-take 2 (drop 6 bytes), length-drop 6 bytes)) bytes_fit refl
  where
    bytes_fit : (i : ℕ) → get_or (take 2 (drop 6 bytes)) i 0 < 256
    bytes_fit i =
        elim (cases_lt i 2) [
          | inl lt ↦ rw (get_or-take 2 (drop 6 bytes) i 0 lt, get_or-drop 6 bytes i 0) (fits (6 + i))
          | inr le ↦ rw (get_or_past (take 2 (drop 6 bytes)) i 0 (omega (arith, length-take 2 (drop 6 bytes)))) (omega arith)
        ]

-- the bytes are a header and the bytes after it
framed_bytes : (bytes : List ℕ) → IsFramed bytes → ((i : ℕ) → get_or bytes i 0 < 256) → bytes ≡ header (version_at bytes) (slice_index bytes 4) (count_at bytes) ++ drop 8 bytes
framed_bytes bytes framed fits =
    let from_4 : drop 4 bytes ≡ get_or bytes 4 0 ∷ drop 5 bytes = drop-cons bytes 4 0 (omega (arith, framed.header)) in
    let from_5 : drop 5 bytes ≡ get_or bytes 5 0 ∷ drop 6 bytes = drop-cons bytes 5 0 (omega (arith, framed.header)) in
    let from_6 : drop 6 bytes ≡ to_be_bytes w16 (count_at bytes) ++ drop 8 bytes = sym (take-append-drop 2 (drop 6 bytes)) ∙ ap (λ (l : List ℕ). take 2 (drop 6 bytes) ++ l) (drop-drop 2 6 bytes) ∙ ap (λ (l : List ℕ). l ++ drop 8 bytes) (sym (count_bytes bytes framed.header fits)) in
    let front : bytes ≡ magic (version_at bytes) ++ drop 4 bytes = sym (take-append-drop 4 bytes) ∙ ap (λ (l : List ℕ). l ++ drop 4 bytes) framed.magic in
    front ∙ ap (λ (l : List ℕ). magic (version_at bytes) ++ l) (from_4 ∙ ap (λ (l : List ℕ). get_or bytes 4 0 ∷ l) from_5 ∙ ap (λ (n : ℕ). get_or bytes 4 0 ∷ (n ∷ drop 6 bytes)) framed.arity.1 ∙ ap (λ (l : List ℕ). get_or bytes 4 0 ∷ (0 ∷ l)) from_6)
    ∙ by (version_at bytes)
  where
    by : (v : Version) → magic v ++ (get_or bytes 4 0 ∷ (0 ∷ (to_be_bytes w16 (count_at bytes) ++ drop 8 bytes))) ≡ header v (slice_index bytes 4) (count_at bytes) ++ drop 8 bytes
    by One = refl
    by Two = refl

pub is_read : (bytes : List ℕ) (v : Version) (arity count : ℕ) (instrs : List Instr) → IsFramed bytes → arity ≡ slice_index bytes 4 → count ≡ count_at bytes → All (IsInstr v count) instrs → length instrs ≡ count → IsCode (record { version = v; arity = arity; instrs = instrs })
is_read bytes v arity count instrs framed arity_is count_is valid counted =
    let n : length instrs ≡ count_at bytes = counted ∙ count_is in
    record {
      arity = subst IsArity (sym arity_is) framed.arity.0;
      count = subst IsCount (sym n) framed.count;
      instrs = subst (λ (k : ℕ). All (IsInstr v k) instrs) (sym counted) valid;
    }

pub is_spelled : (bytes : List ℕ) (v : Version) (arity count : ℕ) (instrs : List Instr) → ((i : ℕ) → get_or bytes i 0 < 256) → IsFramed bytes → v ≡ version_at bytes → arity ≡ slice_index bytes 4 → count ≡ count_at bytes → All (IsInstr v count) instrs → length instrs ≡ count → drop 8 bytes ≡ flat_map instr_bytes instrs → Spelled bytes (record { version = v; arity = arity; instrs = instrs })
is_spelled bytes v arity count instrs fits framed version_is arity_is count_is valid counted rest =
    let n : count_at bytes ≡ length instrs = sym (counted ∙ count_is) in
    record {
      valid = is_read bytes v arity count instrs framed arity_is count_is valid counted;
      same = framed_bytes bytes framed fits ∙ ap (λ (l : List ℕ). header (version_at bytes) (slice_index bytes 4) (count_at bytes) ++ l) rest ∙ ap (λ (k : ℕ). header (version_at bytes) (slice_index bytes 4) k ++ flat_map instr_bytes instrs) n ∙ ap (λ (a : ℕ). header (version_at bytes) a (length instrs) ++ flat_map instr_bytes instrs) (sym arity_is) ∙ ap (λ (w : Version). header w arity (length instrs) ++ flat_map instr_bytes instrs) (sym version_is);
    }

-- if the bytes encode a code, the only fault can be one of memory
pub memory_alone : (bytes : List ℕ) (c : CodeValue) (f : CodeFault) → Spelled bytes c → (f ≢ Memory → IsFirstFault bytes f) → f ≡ Memory
memory_alone bytes c Memory spelled first = refl
memory_alone bytes c NotVersion1 spelled first = absurd (faultless bytes c NotVersion1 spelled (first (λ e. cc)))
memory_alone bytes c BadMagic spelled first = absurd (faultless bytes c BadMagic spelled (first (λ e. cc)))
memory_alone bytes c BadLength spelled first = absurd (faultless bytes c BadLength spelled (first (λ e. cc)))
memory_alone bytes c (BadOpcode pc) spelled first = absurd (faultless bytes c (BadOpcode pc) spelled (first (λ e. cc)))
memory_alone bytes c (BadOperand pc) spelled first = absurd (faultless bytes c (BadOperand pc) spelled (first (λ e. cc)))
memory_alone bytes c BadCount spelled first = absurd (faultless bytes c BadCount spelled (first (λ e. cc)))
memory_alone bytes c BadArity spelled first = absurd (faultless bytes c BadArity spelled (first (λ e. cc)))

-- the version is the one whose magic is there
pub version_is : (bytes : List ℕ) (v : Version) → take 4 bytes ≡ magic v → version_at bytes ≡ v
version_is bytes v e =
    let byte : slice_index bytes 3 ≡ get_or (magic v) 3 0 = sym (get_or-take 4 bytes 3 0 (omega arith)) ∙ ap (λ (l : List ℕ). get_or l 3 0) e in
    by v byte
  where
    by : (v : Version) → slice_index bytes 3 ≡ get_or (magic v) 3 0 → version_at bytes ≡ v
    by One b = rw b refl
    by Two b = rw b refl

pub has_magic : (bytes : List ℕ) (v : Version) → take 4 bytes ≡ magic v → HasMagic bytes × (v ≡ version_at bytes)
has_magic bytes v e = let same = version_is bytes v e in (e ∙ ap magic (sym same), sym same)

pub no_magic : (bytes : List ℕ) → (take 4 bytes ≡ magic One → ⊥) → (take 4 bytes ≡ magic Two → ⊥) → HasMagic bytes → ⊥
no_magic bytes one two has = by (version_at bytes) has
  where
    by : (v : Version) → take 4 bytes ≡ magic v → ⊥
    by One e = one e
    by Two e = two e
