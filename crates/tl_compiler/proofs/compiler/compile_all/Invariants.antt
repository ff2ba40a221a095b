use Rattle.tl_compiler.specs.Compiled.{AreCompiled}
use Rattle.tl_compiler.proofs.compiler.compile_all.Given as goal

abbrev pub invariant-loop-procedure : goal.invariant-loop-procedure
invariant-loop-procedure l = AreCompiled l.yielded l.compiled.items
