use Rattle.std.proofs.Common.{[], ◌∷◌, ◌++◌, map, ap, ◌∙◌, sym, arith, below_more}
use Rattle.std.specs.List.{range_with_len}
use Rattle.std.proofs.lemmas.List.{map-append}
use Rattle.std.proofs.lemmas.List.FromFn.{map-range_with_len_more}
use Rattle.tl_trail.specs.Trails.{call_value}
use Rattle.tl_record.specs.Recording.{told_call, IsCoreCall}
use Rattle.tl_record.proofs.recording.calls_of.Goals as goal

pub loop-call-preserved : goal.loop-call-preserved
loop-call-preserved c =
    let core = c.args.core.now.seen in
    let before = c.loop-call.calls.items in
    let call = c.loop-call.call in
    record {
      calls = ap (map call_value) c.push_reserved.ensures.items ∙ map-append call_value before (c.call_of.result ∷ [])
          ∙ ap (λ ks. ks ++ call_value c.call_of.result ∷ []) c.loop-call.invariant.calls
          ∙ ap (λ k. map (told_call core) (range_with_len 0 call) ++ k ∷ []) c.call_of.ensures.told
          ∙ sym (map-range_with_len_more (told_call core) 0 call call (omega arith));
      each = below_more (IsCoreCall core) call c.loop-call.invariant.each c.call_of.ensures.of_core;
      size = let more = c.push_reserved.ensures.len in let size = c.loop-call.invariant.size in omega arith;
      space = let same = c.push_reserved.ensures.capacity in let space = c.loop-call.invariant.space in omega arith;
    }
