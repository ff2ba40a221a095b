-- The output for moves, on examples.
use Rattle.std.proofs.Common.{◌≡◌, [], ◌∷◌, codes, pos, negsuc, refl}
use Rattle.std.specs.Fmt.{digits}
use Rattle.serde_json.specs.Written.{compact_text}
use Rattle.serde_json.proofs.OnLiterals.{serde_json_on_literals}
use Rattle.tl_tree_locking.specs.declared.action.Action.TheVariants.{Plain, Lock, Read, Write, Free, Emit, End}
use Rattle.tl_core.specs.declared.fault.CoreFault.TheVariants.{NoCall}
use Rattle.tl_core.specs.declared.stepped.Stepped.TheVariants.{Moved, Blocked, Over}
use Rattle.tl_core.specs.declared.moves.Entry.TheVariants.{Admitted, Stepped, Refused}
use Rattle.tl_commands.specs.Trace.{trace_data, unfinished_data}
use Rattle.tl_json.specs.Lists.{order_data}

done : compact_text (trace_data (Admitted 0 ∷ Stepped 0 (Moved Plain) ∷ Stepped 0 (Moved (Lock 2 (pos 20 ∷ pos 0 ∷ pos 0 ∷ negsuc 0 ∷ []))) ∷ Stepped 0 (Moved (Read 2 0 (pos 20))) ∷ []))
    ≡ codes "{\"trace\":[[\"a\",0],[\"s\",0],[\"l\",0,2,[20,0,0,-1]],[\"r\",0,2,0,20]]}"
unfolding serde_json_on_literals digits
done = refl

left : compact_text (trace_data (Stepped 0 (Moved (Write 2 3 (negsuc 6))) ∷ Stepped 0 (Moved (Free 2 (pos 1 ∷ pos 2 ∷ pos 3 ∷ pos 4 ∷ []))) ∷ Stepped 0 (Moved (Emit (pos 5))) ∷ Stepped 0 (Moved End) ∷ []))
    ≡ codes "{\"trace\":[[\"w\",0,2,3,-7],[\"f\",0,2,[1,2,3,4]],[\"e\",0,5],[\"d\",0]]}"
unfolding serde_json_on_literals digits
left = refl

nothing_done : compact_text (trace_data (Stepped 0 (Blocked 2 1) ∷ Stepped 1 Over ∷ Refused NoCall ∷ []))
    ≡ codes "{\"trace\":[[\"b\",0,2,1],[\"o\",1],[\"x\",602]]}"
unfolding serde_json_on_literals digits
nothing_done = refl

order : compact_text (order_data (2 ∷ 0 ∷ 1 ∷ [])) ≡ codes "{\"order\":[2,0,1]}"
unfolding serde_json_on_literals digits
order = refl

unfinished : compact_text (unfinished_data 0) ≡ codes "{\"error\":[651,0]}"
unfolding serde_json_on_literals digits
unfinished = refl
