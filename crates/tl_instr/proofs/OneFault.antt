-- Bytes have at most one first fault.
use Rattle.std.proofs.Common.{◌≡◌, ℕ, List, refl, sym, ap, subst, arith, inl, inr}
use Rattle.std.proofs.lemmas.Bool.{cases_order}
use Rattle.tl_instr.specs.declared.fault.CodeFault.{CodeFault}
use Rattle.tl_instr.specs.declared.fault.CodeFault.TheVariants.{BadMagic, BadLength, BadOpcode, BadOperand, BadCount, BadArity, NotVersion1, Memory}
use Rattle.tl_instr.specs.Faults.{IsFramed, IsFirstBad, IsOpcode, IsFirstFault, version_at, opcode_at}

length_arity : (bytes : List ℕ) → IsFirstFault bytes BadLength → IsFirstFault bytes BadArity → ⊥
length_arity bytes (magic, inl short) q = omega (arith, q.1)
length_arity bytes (magic, inr long) q = q.2 long.1

length_count : (bytes : List ℕ) → IsFirstFault bytes BadLength → IsFirstFault bytes BadCount → ⊥
length_count bytes (magic, inl short) q = omega (arith, q.1)
length_count bytes (magic, inr long) q = q.3 long.2

length_framed : (bytes : List ℕ) → IsFirstFault bytes BadLength → IsFramed bytes → ⊥
length_framed bytes (magic, inl short) framed = omega (arith, framed.header)
length_framed bytes (magic, inr long) framed = long.3 framed.size

-- there is at most one first position with a bad cell
same_place : (bytes : List ℕ) (j k : ℕ) → IsFirstBad bytes j → IsFirstBad bytes k → j ≡ k
same_place bytes j k p q =
    elim (cases_order j k) [
      | inl e ↦ e
      | inr (inl lt) ↦ absurd (p.here (q.before j lt))
      | inr (inr gt) ↦ absurd (q.here (p.before k gt))
    ]

known_or_not : (bytes : List ℕ) (j k : ℕ) → IsFirstFault bytes (BadOpcode j) → IsFirstFault bytes (BadOperand k) → ⊥
known_or_not bytes j k p q =
    p.1 (subst (λ (n : ℕ). IsOpcode (version_at bytes) (opcode_at bytes n)) (sym (same_place bytes j k p.0 q.0)) q.1)

pub one_fault : (bytes : List ℕ) (f g : CodeFault) → IsFirstFault bytes f → IsFirstFault bytes g → f ≡ g
one_fault bytes BadMagic BadMagic p q = refl
one_fault bytes BadMagic BadLength p q = absurd (p q.0)
one_fault bytes BadMagic BadArity p q = absurd (p q.0)
one_fault bytes BadMagic BadCount p q = absurd (p q.0)
one_fault bytes BadMagic (BadOpcode k) p q = absurd (p q.0.framed.magic)
one_fault bytes BadMagic (BadOperand k) p q = absurd (p q.0.framed.magic)
one_fault bytes BadMagic NotVersion1 p q = absurd q
one_fault bytes BadMagic Memory p q = absurd q
one_fault bytes BadLength BadMagic p q = absurd (q p.0)
one_fault bytes BadLength BadLength p q = refl
one_fault bytes BadLength BadArity p q = absurd (length_arity bytes p q)
one_fault bytes BadLength BadCount p q = absurd (length_count bytes p q)
one_fault bytes BadLength (BadOpcode k) p q = absurd (length_framed bytes p q.0.framed)
one_fault bytes BadLength (BadOperand k) p q = absurd (length_framed bytes p q.0.framed)
one_fault bytes BadLength NotVersion1 p q = absurd q
one_fault bytes BadLength Memory p q = absurd q
one_fault bytes BadArity BadMagic p q = absurd (q p.0)
one_fault bytes BadArity BadLength p q = absurd (length_arity bytes q p)
one_fault bytes BadArity BadArity p q = refl
one_fault bytes BadArity BadCount p q = absurd (p.2 q.2)
one_fault bytes BadArity (BadOpcode k) p q = absurd (p.2 q.0.framed.arity)
one_fault bytes BadArity (BadOperand k) p q = absurd (p.2 q.0.framed.arity)
one_fault bytes BadArity NotVersion1 p q = absurd q
one_fault bytes BadArity Memory p q = absurd q
one_fault bytes BadCount BadMagic p q = absurd (q p.0)
one_fault bytes BadCount BadLength p q = absurd (length_count bytes q p)
one_fault bytes BadCount BadArity p q = absurd (q.2 p.2)
one_fault bytes BadCount BadCount p q = refl
one_fault bytes BadCount (BadOpcode k) p q = absurd (p.3 q.0.framed.count)
one_fault bytes BadCount (BadOperand k) p q = absurd (p.3 q.0.framed.count)
one_fault bytes BadCount NotVersion1 p q = absurd q
one_fault bytes BadCount Memory p q = absurd q
one_fault bytes (BadOpcode j) BadMagic p q = absurd (q p.0.framed.magic)
one_fault bytes (BadOpcode j) BadLength p q = absurd (length_framed bytes q p.0.framed)
one_fault bytes (BadOpcode j) BadArity p q = absurd (q.2 p.0.framed.arity)
one_fault bytes (BadOpcode j) BadCount p q = absurd (q.3 p.0.framed.count)
one_fault bytes (BadOpcode j) (BadOpcode k) p q = ap (λ (n : ℕ). BadOpcode n) (same_place bytes j k p.0 q.0)
one_fault bytes (BadOpcode j) (BadOperand k) p q = absurd (known_or_not bytes j k p q)
one_fault bytes (BadOpcode j) NotVersion1 p q = absurd q
one_fault bytes (BadOpcode j) Memory p q = absurd q
one_fault bytes (BadOperand j) BadMagic p q = absurd (q p.0.framed.magic)
one_fault bytes (BadOperand j) BadLength p q = absurd (length_framed bytes q p.0.framed)
one_fault bytes (BadOperand j) BadArity p q = absurd (q.2 p.0.framed.arity)
one_fault bytes (BadOperand j) BadCount p q = absurd (q.3 p.0.framed.count)
one_fault bytes (BadOperand j) (BadOpcode k) p q = absurd (known_or_not bytes k j q p)
one_fault bytes (BadOperand j) (BadOperand k) p q = ap (λ (n : ℕ). BadOperand n) (same_place bytes j k p.0 q.0)
one_fault bytes (BadOperand j) NotVersion1 p q = absurd q
one_fault bytes (BadOperand j) Memory p q = absurd q
one_fault bytes NotVersion1 BadMagic p q = absurd p
one_fault bytes NotVersion1 BadLength p q = absurd p
one_fault bytes NotVersion1 BadArity p q = absurd p
one_fault bytes NotVersion1 BadCount p q = absurd p
one_fault bytes NotVersion1 (BadOpcode k) p q = absurd p
one_fault bytes NotVersion1 (BadOperand k) p q = absurd p
one_fault bytes NotVersion1 NotVersion1 p q = absurd p
one_fault bytes NotVersion1 Memory p q = absurd p
one_fault bytes Memory BadMagic p q = absurd p
one_fault bytes Memory BadLength p q = absurd p
one_fault bytes Memory BadArity p q = absurd p
one_fault bytes Memory BadCount p q = absurd p
one_fault bytes Memory (BadOpcode k) p q = absurd p
one_fault bytes Memory (BadOperand k) p q = absurd p
one_fault bytes Memory NotVersion1 p q = absurd p
one_fault bytes Memory Memory p q = absurd p
