-- The procedures while they are registered one after another.
use Rattle.std.proofs.Common.{◌≡◌, ◌+◌, ◌<◌, ℕ, List, ◌∷◌, length, get_or, drop, map, ap, subst, inl, inr}
use Rattle.std.proofs.lemmas.List.{drop_more}
use Rattle.tl_instr.specs.Codes.{CodeValue}
use Rattle.tl_procedures.specs.Names.{Named}
use Rattle.tl_json.specs.declared.fault.RegisterFault.{RegisterFault}
use Rattle.tl_json.specs.declared.procedure.ProcedureText.{ProcedureText}
use Rattle.tl_json.specs.Procedures.{procedure_form}
use Rattle.tl_json.specs.Registering.{IsFit, and_named, TakenUp, IsUnfit, IsFirstUnfit}

-- the result for the remaining texts is the result for all
pub record SoFar (before : List Named) (whole rest : List (List ℕ × List ℕ)) (now : List Named) : Type 0 where
  pub taken : (after : List Named) → TakenUp now rest after → TakenUp before whole after
  pub unfit : (e : RegisterFault) → IsFirstUnfit now rest e → IsFirstUnfit before whole e

rest_is : (vs : List ProcedureText) (i : ℕ) (d : ProcedureText) → i < length vs → map procedure_form (drop i vs) ≡ procedure_form (get_or vs i d) ∷ map procedure_form (drop (i + 1) vs)
rest_is vs i d lt = ap (map procedure_form) (drop_more vs i d lt)

-- one more is registered
pub one_taken : (before now : List Named) (vs : List ProcedureText) (i : ℕ) (d : ProcedureText) (code : CodeValue) → i < length vs
    → SoFar before (map procedure_form vs) (map procedure_form (drop i vs)) now → IsFit now (procedure_form (get_or vs i d)) code
    → SoFar before (map procedure_form vs) (map procedure_form (drop (i + 1) vs)) (and_named now (procedure_form (get_or vs i d)).0 code)
one_taken before now vs i d code lt so_far fit =
    let here : SoFar before (map procedure_form vs) (procedure_form (get_or vs i d) ∷ map procedure_form (drop (i + 1) vs)) now =
    subst (λ rest. SoFar before (map procedure_form vs) rest now) (rest_is vs i d lt) so_far in
    record { taken = λ after more. here.taken after (code, fit, more); unfit = λ e wrong. here.unfit e (inr (code, fit, wrong)) }

-- this one can't be registered
pub one_unfit : (before now : List Named) (vs : List ProcedureText) (i : ℕ) (d : ProcedureText) (e : RegisterFault) → i < length vs
    → SoFar before (map procedure_form vs) (map procedure_form (drop i vs)) now → IsUnfit now (procedure_form (get_or vs i d)) e → IsFirstUnfit before (map procedure_form vs) e
one_unfit before now vs i d e lt so_far wrong =
    let here : SoFar before (map procedure_form vs) (procedure_form (get_or vs i d) ∷ map procedure_form (drop (i + 1) vs)) now =
    subst (λ rest. SoFar before (map procedure_form vs) rest now) (rest_is vs i d lt) so_far in
    here.unfit e (inl wrong)
