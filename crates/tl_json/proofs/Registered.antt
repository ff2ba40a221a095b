-- Named texts are registered with one result, or have a fault.
use Rattle.std.proofs.Common.{◌≡◌, ℕ, List, [], ◌∷◌, sym, ◌∙◌, subst, inl, inr}
use Rattle.tl_instr.specs.Codes.{CodeValue}
use Rattle.tl_asm.proofs.OneCode.{same_code, faultless}
use Rattle.tl_verify.proofs.NoFindings.{nothing_found}
use Rattle.tl_verify.specs.Acceptable.{Acceptable}
use Rattle.tl_procedures.specs.Names.{Named}
use Rattle.tl_json.specs.declared.fault.ProcedureFault.{ProcedureFault}
use Rattle.tl_json.specs.declared.fault.ProcedureFault.TheVariants.{Asm, Verify}
use Rattle.tl_json.specs.declared.fault.RegisterFault.{RegisterFault}
use Rattle.tl_json.specs.declared.fault.RegisterFault.TheVariants.{Text, Name}
use Rattle.tl_json.specs.Registering.{IsCodeText, IsTextFault, IsFit, and_named, TakenUp, IsUnfit, IsFirstUnfit}

pub one_taking : (before : List Named) (ps : List (List ℕ × List ℕ)) (a b : List Named) → TakenUp before ps a → TakenUp before ps b → a ≡ b
one_taking before [] a b x y = x ∙ sym y
one_taking before (p ∷ ps) a b (c, fit, rest) (d, other, more) =
    let code : d ≡ c = same_code p.1 d c other.text.written fit.text.written in
    one_taking (and_named before p.0 c) ps a b rest (subst (λ k. TakenUp (and_named before p.0 k) ps b) code more)

not_text_fault : (text : List ℕ) (code : CodeValue) (f : ProcedureFault) → IsCodeText text code → ¬ IsTextFault text f
not_text_fault text code (Asm f) is wrong = faultless text code f is.written wrong
not_text_fault text code (Verify f) is (other, written, first) =
    let same : other ≡ code = same_code text other code written is.written in
    let accepted : Acceptable other.instrs = subst (λ (k : CodeValue). Acceptable k.instrs) (sym same) is.accepted in
    nothing_found other.instrs accepted first.finding first.arises

not_unfit : (before : List Named) (p : List ℕ × List ℕ) (code : CodeValue) (e : RegisterFault) → IsFit before p code → ¬ IsUnfit before p e
not_unfit before p code (Text f) fit wrong = not_text_fault p.1 code f fit.text wrong
not_unfit before p code (Name f) fit (other, text, refused) = let free = fit.free in absurd cc

pub none_unfit : (before : List Named) (ps : List (List ℕ × List ℕ)) (after : List Named) (e : RegisterFault) → TakenUp before ps after → ¬ IsFirstUnfit before ps e
none_unfit before [] after e taken wrong = wrong
none_unfit before (p ∷ ps) after e (code, fit, rest) (inl wrong) = not_unfit before p code e fit wrong
none_unfit before (p ∷ ps) after e (code, fit, rest) (inr (other, again, wrong)) =
    let same : other ≡ code = same_code p.1 other code again.text.written fit.text.written in
    none_unfit (and_named before p.0 code) ps after e rest (subst (λ k. IsFirstUnfit (and_named before p.0 k) ps e) same wrong)
