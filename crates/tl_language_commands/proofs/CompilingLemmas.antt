-- The output of the commands on texts of the procedure language.
use Rattle.std.proofs.Common.{◌≡◌, ◌≢◌, ℕ, pos, List, [], ◌∷◌, ◌++◌, Option, true, false, if◌then◌else◌, map, codes, decimal, refl, sym, ap, ap₂, ◌∙◌, subst, append_assoc}
use Rattle.std.proofs.lemmas.List.{map_push}
use Rattle.std.specs.declared.vec.Vec.{Vec}
use Rattle.std.specs.declared.alloc.Global.{Global}
use Rattle.serde_json.specs.Data.{Data, object, member, no_members}
use Rattle.serde_json.specs.View.{view}
use Rattle.serde_json.specs.declared.value.Value.{Value}
use Rattle.serde_json.specs.declared.value.Value.TheVariants.{Array}
use Rattle.serde_json.proofs.Views.{view-Array}
use Rattle.serde_json.specs.Written.{has_float, compact_text}
use Rattle.serde_json.proofs.OnLiterals.{serde_json_on_literals}
use Rattle.tl_tree.specs.Writing.{integer_data}
use Rattle.tl_tree.proofs.Texts.{whole_items}
use Rattle.tl_procedures.specs.Names.{Named}
use Rattle.tl_json.specs.Lists.{list_data}
use Rattle.tl_json.specs.Procedures.{procedure_data}
use Rattle.tl_sources.specs.declared.fault.SourceFault.{SourceFault}
use Rattle.tl_sources.specs.declared.source.Source.{Source as File}
use Rattle.tl_sources.specs.Faults.{is_memory}
use Rattle.tl_sources.specs.Sources.{IsProgramFault, IsSourceFault}
use Rattle.tl_language_commands.specs.declared.fault.LanguageFault.{LanguageFault}
use Rattle.tl_language_commands.specs.declared.fault.LanguageFault.TheVariants.{Source}
use Rattle.tl_language_commands.specs.Faults.{status_of}
use Rattle.tl_language_commands.specs.Compiling.{compiled_text, checked_data, IsFirstCompilingFault, IsFirstTextFault}

-- ---- one line

abbrev pub compiled_data : ℕ → ℕ → ℕ → ℕ → Data
compiled_data emits locks steps count =
    object (member (codes "bounds")
    (object (member (codes "emits") (integer_data (pos emits)) (member (codes "locks") (integer_data (pos locks)) (member (codes "steps") (integer_data (pos steps)) no_members))))
    (member (codes "count") (integer_data (pos count)) no_members))

pub compiled_whole : (emits locks steps count : ℕ) → has_float (compiled_data emits locks steps count) ≡ false
compiled_whole emits locks steps count = refl

regroup : (a b c d e f g h i j k : List ℕ) → (a ++ ((b ++ (c ++ (d ++ (e ++ (f ++ g))))) ++ (h ++ (i ++ j)))) ++ k ≡ a ++ b ++ c ++ d ++ e ++ f ++ (g ++ h) ++ i ++ (j ++ k)
regroup a b c d e f g h i j k = simp append_assoc

pub compiled_written : (emits locks steps count : ℕ) → compact_text (compiled_data emits locks steps count) ++ 10 ∷ [] ≡ compiled_text emits locks steps count
unfolding serde_json_on_literals
compiled_written emits locks steps count =
    regroup (codes "{\"bounds\":{\"emits\":") (decimal emits) (codes ",\"locks\":") (decimal locks) (codes ",\"steps\":") (decimal steps) (codes "}")
    (codes ",\"count\":") (decimal count) (codes "}") (10 ∷ [])

-- ---- a line of them all

procedure_whole : (p : Named) → has_float (procedure_data p) ≡ false
procedure_whole p = refl

checked_whole : (p : Named) → has_float (checked_data p) ≡ false
checked_whole p = refl

pub procedures_whole : (ps : List Named) → has_float (list_data (map procedure_data ps)) ≡ false
procedures_whole ps = whole_items procedure_data procedure_whole ps

pub all_checked_whole : (ps : List Named) → has_float (list_data (map checked_data ps)) ≡ false
all_checked_whole ps = whole_items checked_data checked_whole ps

-- one value more
pub pushed : (g : Named → Data) (vs ws : List Value) (v : Value) (ps : List Named) (p : Named) → ws ≡ vs ++ v ∷ [] → map view vs ≡ map g ps → view v ≡ g p → map view ws ≡ map g (ps ++ p ∷ [])
pushed g vs ws v ps p more before here = ap (map view) more ∙ map_push view vs v ∙ ap₂ (λ ds e. ds ++ e ∷ []) before here ∙ sym (map_push g ps p)

pub array_of : {ds : List Data} (vs : Vec Value Global) → map view vs.items ≡ ds → view (Array vs) ≡ list_data ds
array_of vs is = view-Array vs ∙ ap list_data is

-- ---- faults

known_of_status : (f : SourceFault) → status_of (Source f) ≢ 4 → is_memory f ≡ false
known_of_status f = elim (is_memory f) as (λ b. ◌≢◌ {A = ℕ} (if b then 4 else 1) 4 → b ≡ false) [ true ↦ λ other. absurd (other refl) | false ↦ λ _. refl ]

pub compiling_fault : (file : File) (name : Option (List ℕ)) (f : SourceFault) (e : LanguageFault) → e ≡ Source f → (is_memory f ≡ false → IsSourceFault file name f)
    → IsFirstCompilingFault file name e
compiling_fault file name f e is fault = λ other. (f, is, fault (known_of_status f (subst (λ x. status_of x ≢ 4) is other)))

pub text_fault : (text : List ℕ) (f : SourceFault) (e : LanguageFault) → e ≡ Source f → (is_memory f ≡ false → IsProgramFault text f) → IsFirstTextFault text e
text_fault text f e is fault = λ other. (f, is, fault (known_of_status f (subst (λ x. status_of x ≢ 4) is other)))
