-- The parts of a run of the command `drive` together.
use Rattle.std.proofs.Common.{◌≡◌, ℕ, List, map, ap, ◌∙◌, subst, Ok}
use Rattle.tl_tree.specs.Trees.{TreeValue}
use Rattle.tl_tree.specs.Reading.{tree_of_text}
use Rattle.tl_json.specs.declared.procedure.ProcedureText.{ProcedureText}
use Rattle.tl_json.specs.Procedures.{procedure_form}
use Rattle.tl_core.specs.Cores.{CoreValue}
use Rattle.tl_core.specs.Entries.{Traced, after_moves}
use Rattle.tl_core.specs.declared.moves.Move.{Move}
use Rattle.tl_core.specs.declared.moves.Entry.{Entry}
use Rattle.tl_commands.specs.declared.script.Script.{Script}
use Rattle.tl_commands.specs.Script.{IsScript, beside, move_view, script_view, script_of_moves}
use Rattle.tl_commands.specs.Scripted.{AreRegistered, core_with}
use Rattle.tl_procedures.specs.Names.{Named}
use Rattle.tl_sources.specs.Given.{GiveAll}
use Rattle.tl_sources.specs.declared.given.Given.{Given}
use Rattle.tl_commands.specs.Drive.{IsDriven}

pub driven : (limit : ℕ) (t s : List ℕ) (sources : List Given) (more : List Named) (tree : TreeValue) (script : Script Move) (core after : CoreValue) (texts : List ProcedureText) (moves : List Move) (entries : List Entry)
    → GiveAll sources more → tree_of_text limit t ≡ Ok tree → IsScript (script_of_moves (beside more)) s (script_view move_view script) → texts ≡ script.procedures.items → AreRegistered (map procedure_form texts) more core.procedures
    → core ≡ core_with tree core.procedures → moves ≡ script.tasks.items → Traced core moves entries → after ≡ after_moves core moves entries
    → IsDriven limit t s sources (record { entries = entries; core = after })
driven limit t s sources more tree script core after texts moves entries given tree_is script_is texts_are registered core_is moves_are traced after_is =
    record {
      tree = tree;
      more = more;
      given = given;
      script = script_view move_view script;
      procedures = core.procedures;
      moves = moves;
      tree_is = tree_is;
      script_is = script_is;
      registered = subst (λ ps. AreRegistered (map procedure_form ps) more core.procedures) texts_are registered;
      moves_are = ap (map move_view) moves_are;
      traced = subst (λ v. Traced v moves entries) core_is traced;
      after = after_is ∙ ap (λ v. after_moves v moves entries) core_is;
    }
