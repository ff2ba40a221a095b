use Rattle.std.proofs.Common.{subst}
use Rattle.tl_instr.specs.Spelling.{Spelled}
use Rattle.tl_language_commands.proofs.compiling.compile_cmd.Goals as goal

pub returns-clause-printed : goal.returns-clause-printed
returns-clause-printed c = record {
  code = c.in_ok-procedure.procedure;
  provided = c.in_ok-procedure.ensures.ok;
  spelled = subst (Spelled c.in-Ok.container.items) c.code.ensures.value c.in-Ok.ensures.spelled;
  same = c.in_ok-line.ensures;
}
