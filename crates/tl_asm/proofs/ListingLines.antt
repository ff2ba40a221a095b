-- The listing, line by line.
use Rattle.std.proofs.Common.{◌≡◌, ℕ, suc, ◌+◌, ◌<◌, List, ◌∷◌, ◌++◌, length, drop, get_or, sym, ◌∙◌, ap, arith, append_assoc, add-one}
use Rattle.std.proofs.lemmas.List.{drop_all}
use Rattle.std.proofs.Math.Seq.{drop-cons}
use Rattle.tl_instr.specs.declared.instr.Instr.{Instr}
use Rattle.tl_asm.specs.Listing.{instr_line, label_line, lines_from}

rest_at : (instrs : List Instr) (pc : ℕ) (i : Instr) → pc < length instrs → i ≡ get_or instrs pc i → lines_from instrs pc (drop pc instrs) ≡ label_line instrs pc ++ (instr_line i ++ lines_from instrs (pc + 1) (drop (pc + 1) instrs))
rest_at instrs pc i lt e =
    let cut : drop pc instrs ≡ i ∷ drop (pc + 1) instrs = rw (add-one) (drop-cons instrs pc i lt ∙ ap (λ (x : Instr). x ∷ drop (suc pc) instrs) (sym e)) in
    ap (lines_from instrs pc) cut

-- one more position
pub one_listed : (instrs : List Instr) (pc : ℕ) (i : Instr) (text middle new whole : List ℕ) → pc < length instrs → i ≡ get_or instrs pc i → text ++ lines_from instrs pc (drop pc instrs) ≡ whole → middle ≡ text ++ label_line instrs pc → new ≡ middle ++ instr_line i → new ++ lines_from instrs (pc + 1) (drop (pc + 1) instrs) ≡ whole
one_listed instrs pc i text middle new whole lt e before label line =
    let rest = lines_from instrs (pc + 1) (drop (pc + 1) instrs) in
    ap (λ (t : List ℕ). t ++ rest) (line ∙ ap (λ (t : List ℕ). t ++ instr_line i) label)
    ∙ append_assoc (text ++ label_line instrs pc) (instr_line i) rest
    ∙ append_assoc text (label_line instrs pc) (instr_line i ++ rest)
    ∙ ap (λ (t : List ℕ). text ++ t) (sym (rest_at instrs pc i lt e))
    ∙ before

-- the end
pub all_listed : (instrs : List Instr) (pc count : ℕ) (text new whole : List ℕ) → pc ≡ count → count ≡ length instrs → text ++ lines_from instrs pc (drop pc instrs) ≡ whole → new ≡ text ++ label_line instrs count → new ≡ whole
all_listed instrs pc count text new whole e long before last =
    last ∙ ap (λ (n : ℕ). text ++ label_line instrs n) (sym e)
    ∙ ap (λ (is : List Instr). text ++ lines_from instrs pc is) (sym (drop_all pc instrs (omega arith)))
    ∙ before
