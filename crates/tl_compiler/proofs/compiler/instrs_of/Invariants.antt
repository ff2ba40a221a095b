use Rattle.std.proofs.Common.{◌≡◌, length, reverse, map, Bor}
use Rattle.std.specs.List.{All}
use Rattle.tl_instr.specs.Instructions.{InRange}
use Rattle.tl_instr.specs.declared.instr.Instr.{Instr}
use Rattle.tl_compiler.specs.Aiming.{aimed}
use Rattle.tl_compiler.proofs.compiler.instrs_of.Given as goal

abbrev pub invariant-loop-instr : goal.invariant-loop-instr
invariant-loop-instr l = record {
  count : l.count ≡ length (reverse l.draft.instrs.items);
  made : l.instrs.items ≡ map (aimed l.count) (map (λ (i : Bor Instr). i.now) l.yielded);
  in_range : All InRange l.instrs.items;
}
