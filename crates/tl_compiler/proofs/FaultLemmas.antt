-- The fault of a code is a fault of its text.
use Rattle.std.proofs.Common.{ℕ, List}
use Rattle.std.specs.Prelude.{IsUtf8}
use Rattle.std.specs.List.{Contains}
use Rattle.tl_lowering.specs.declared.program.Procedure.{Procedure}
use Rattle.tl_lowering.specs.Reading.{IsProgram}
use Rattle.tl_compiler.specs.declared.fault.CompileFault.{CompileFault}
use Rattle.tl_compiler.specs.declared.fault.CompileFault.TheVariants.{NotUtf8, Wrong, Over, NotOne, Memory}
use Rattle.tl_compiler.specs.Faults.{IsCodeFault, IsCodesFault, IsCompileFault}

pub one_of_codes : (sources : List Procedure) (source : Procedure) (e : CompileFault) → Contains sources source → IsCodeFault source e → IsCodesFault sources e
one_of_codes sources source NotUtf8 there f = absurd f
one_of_codes sources source (Wrong wrong position) there f = absurd f
one_of_codes sources source (Over excess sum position) there f = (source, there, f)
one_of_codes sources source NotOne there f = absurd f
one_of_codes sources source Memory there f = tt

pub of_text : (text : List ℕ) (sources : List Procedure) (e : CompileFault) → IsUtf8 text → IsProgram text sources → IsCodesFault sources e → IsCompileFault text e
of_text text sources NotUtf8 utf8 program f = absurd f
of_text text sources (Wrong wrong position) utf8 program f = absurd f
of_text text sources (Over excess sum position) utf8 program f = record { utf8 = utf8; sources = sources; program = program; fault = f }
of_text text sources NotOne utf8 program f = absurd f
of_text text sources Memory utf8 program f = tt
