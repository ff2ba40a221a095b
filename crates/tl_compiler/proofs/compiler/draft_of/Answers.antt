use Rattle.std.proofs.Common.{◌∷◌, refl, ap, ◌∙◌, reverse}
use Rattle.tl_instr.specs.declared.instr.Instr.TheVariants.{Return}
use Rattle.tl_compiler.specs.NodeSets.{nodes_of}
use Rattle.tl_compiler.proofs.StatementLemmas.{procedure_written}
use Rattle.tl_compiler.proofs.compiler.draft_of.Goals as goal

pub returns : goal.returns
unfolding nodes_of
returns c =
    procedure_written c.args.procedure.now.body c.args.procedure.now.arity c.here.result.0 _ c.put.new.self c.statement.new.self
    c.in_ok-statement.ensures c.from.ensures refl refl refl c.all-pads.ensures c.here.ensures
    (c.in_ok-put.ensures ∙ ap (λ l. Return ∷ reverse l) c.new-draft.ensures)
