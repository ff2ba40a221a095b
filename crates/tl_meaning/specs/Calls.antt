-- What a call of a procedure's code does.
use Rattle.std.specs.Prelude.{◌≡◌, ℕ, List, ℤ}
use Rattle.tl_instr.specs.declared.instr.Instr.{Instr}
use Rattle.tl_tree.specs.Records.{Records}
use Rattle.tl_machine.specs.Runs.{actions, last_state}
use Rattle.tl_machine.specs.Alone.{alone, start}
use Rattle.tl_lowering.specs.declared.program.Statement.{Statement}
use Rattle.tl_meaning.specs.Meaning.{Fails, behaviour, call}
use Rattle.tl_meaning.specs.Told.{told}

-- the code, run alone on a tree, has the events of the text's call and leaves the same records
abbrev pub DoesCall : List Instr → List ℕ → Statement → List ℤ → Records → Type 0
DoesCall instrs parents body args t =
    let run = alone instrs parents args t in
    let done = call parents body args t in
    (told (actions run) ≡ done.events) × ((last_state run).records ≡ done.state.records)

-- if the statement fails at the start of a call, the records are those of before
abbrev pub WritesNothing : List ℕ → Statement → List ℤ → Records → Type 0
WritesNothing parents a args t =
    let done = behaviour parents a (start args t) in
    done.outcome ≡ Fails → done.state.records ≡ t
