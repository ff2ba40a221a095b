-- What is wrong with the inputs of a script.
use Rattle.std.proofs.Common.{◌≡◌, ◌≢◌, ◌⊎◌, inl, inr, ℕ, List, map, Bool, true, false, if◌then◌else◌, Option, Ok, refl, ap, subst}
use Rattle.serde_json.specs.Data.{Data}
use Rattle.tl_tree.specs.Trees.{TreeValue}
use Rattle.tl_tree.specs.Reading.{tree_of_text}
use Rattle.tl_tree.specs.declared.fault.TreeFault.{TreeFault}
use Rattle.tl_tree.specs.declared.fault.TreeFault.TheVariants as tree_fault
use Rattle.tl_procedures.specs.Names.{Named}
use Rattle.tl_json.specs.Procedures.{procedure_form}
use Rattle.tl_json.specs.declared.procedure.ProcedureText.{ProcedureText}
use Rattle.tl_json.specs.declared.fault.RegisterFault.{RegisterFault}
use Rattle.tl_commands.specs.declared.fault.CliFault.{CliFault}
use Rattle.tl_commands.specs.declared.fault.CliFault.TheVariants.{Tree, Register, NotScript, Memory}
use Rattle.tl_commands.specs.Alone.{IsTreeFault}
use Rattle.tl_commands.specs.Faults.{status_of}
use Rattle.tl_commands.specs.Script.{ScriptValue, IsScript, beside}
use Rattle.tl_commands.specs.Scripted.{IsUnregistered, IsWrong}

module _ {A : Type 0} (limit : ℕ) (script_of : Option Data → Data → Option (ScriptValue A)) (t s : List ℕ) (more : List Named) (e : CliFault) (tree : TreeValue) (tree_is : tree_of_text limit t ≡ Ok tree) where
  pub no_script : (others : List Named) → others ≡ more → (e ≡ Memory) ⊎ (e ≡ NotScript) × ((x : ScriptValue A) → ¬ IsScript (script_of (beside others)) s x) → status_of e ≢ 4
      → IsWrong limit (script_of (beside more)) t s more e
  no_script others same (inl memory) known = absurd (known (ap status_of memory))
  no_script others same (inr h) known =
      inr (inl (h.0, record { tree = tree; same = tree_is }, subst (λ os. (x : ScriptValue A) → ¬ IsScript (script_of (beside os)) s x) same h.1))

  pub no_procedures : (others : List Named) → others ≡ more → (script : ScriptValue A) → IsScript (script_of (beside others)) s script
      → (texts : List ProcedureText) → map procedure_form texts ≡ script.procedures
      → (status_of e ≢ 4 → (f : RegisterFault) × (e ≡ Register f) × IsUnregistered (map procedure_form texts) more f) → status_of e ≢ 4
      → IsWrong limit (script_of (beside more)) t s more e
  no_procedures others same script script_is texts texts_are wrong known =
      let h = wrong known in
      inr (inr (
        script,
        h.0,
        h.1,
        record { tree = tree; same = tree_is },
        subst (λ os. IsScript (script_of (beside os)) s script) same script_is,
        subst (λ ps. IsUnregistered ps more h.0) texts_are h.2,
      ))

-- the tree's file has none
pub no_tree : {A : Type 0} (limit : ℕ) (script_of : Data → Option (ScriptValue A)) (t s : List ℕ) (more : List Named) (f : TreeFault) → (f ≢ tree_fault.Memory → IsTreeFault limit t f)
    → status_of (Tree f) ≢ 4 → IsWrong limit script_of t s more (Tree f)
no_tree limit script_of t s more f wrong known = inl (f, refl, wrong (λ is. known (ap (λ x. status_of (Tree x)) is)))

-- a status that isn't that of want of memory
pub no_memory : (b : Bool) → ◌≢◌ {A = ℕ} (if b then 4 else 1) 4 → b ≡ false
no_memory true known = absurd (known refl)
no_memory false known = refl
