-- Code that is built from its end to its start.
use Rattle.std.proofs.Common.{◌≡◌, ℕ, suc, ◌+◌, List, [], ◌∷◌, ◌++◌, length, reverse, Bool, if◌then◌else◌, ap, ◌∙◌, arith}
use Rattle.std.proofs.lemmas.List.{reverse-append, length-reverse}
use Rattle.std.proofs.Common.{sym}
use Rattle.tl_instr.specs.declared.instr.Instr.{Instr}
use Rattle.tl_instr.specs.declared.instr.Instr.TheVariants.{Release}
use Rattle.tl_lowering.specs.Sets.{Nodes, holds}
use Rattle.tl_compiler.specs.Statements.{release_below}

-- one more instruction in front of the others
pub pushed : (code : List Instr) (i : Instr) → reverse (code ++ i ∷ []) ≡ i ∷ reverse code
pushed code i = reverse-append code (i ∷ [])

pub as_many : (code : List Instr) → length code ≡ length (reverse code)
as_many code = sym (length-reverse code)

-- the next register is freed if it is in the set
pub released_more : (n : ℕ) (held : Nodes) (k : List Instr) (b : Bool) (old more : List Instr) → holds held n ≡ b → old ≡ release_below n held k → more ≡ (if b then Release n ∷ old else old)
    → more ≡ release_below (n + 1) held k
released_more n held k b old more is before after =
    let next : suc n ≡ n + 1 = omega arith in
    after
    ∙ ap (λ l. if b then Release n ∷ l else l) before
    ∙ ap (λ b. if b then Release n ∷ release_below n held k else release_below n held k) (sym is)
    ∙ ap (λ m. release_below m held k) next
