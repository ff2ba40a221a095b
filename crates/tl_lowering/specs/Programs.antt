-- When a text has only one program.
use Rattle.std.specs.Prelude.{ℕ, List}
use Rattle.tl_lowering.specs.declared.program.Procedure.{Procedure}
use Rattle.tl_lowering.specs.Alike.{SameProcedures}
use Rattle.tl_lowering.specs.Reading.{IsProgram}

-- all lists of the text's procedures are the same, except for the memory that their parts occupy
abbrev pub HasOneProgram : List ℕ → Type 0
HasOneProgram text = (procedures others : List Procedure) → IsProgram text procedures → IsProgram text others → SameProcedures procedures others
