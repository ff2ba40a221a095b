use Rattle.std.proofs.Common.{◌≡◌, ◌+◌, ◌++◌, ◌∷◌, [], Ok, drop, get_or, length, map, sym, ap, ◌∙◌, arith, length-append}
use Rattle.std.specs.Prelude.{All}
use Rattle.std.proofs.lemmas.List.{map_push}
use Rattle.std.proofs.lemmas.List.Elements.{All-push}
use Rattle.tl_trail.specs.Trails.{IsCallOf, call_value}
use Rattle.tl_trail.specs.Reading.{call_as, each_call}
use Rattle.tl_trail.specs.Raw.{call_form}
use Rattle.tl_trail.proofs.CallsTaken.{onto_calls, call_taken}
use Rattle.tl_trail.proofs.reading.checked_each_call.Goals as goal

pub loop-one-preserved : goal.loop-one-preserved
loop-one-preserved c =
    let ps = c.args.procedures.now in
    let vs = c.args.raw.now in
    let i = c.loop-one.one-index in
    let x = c.one-item.result in
    let k = c.in_ok-call.call in
    let done = c.loop-one.calls.items in
    let pushed : c.push.new.self.items ≡ done ++ k ∷ [] = c.in_ok-push.ensures.items in
    let taken : call_as ps (call_form (get_or vs i x)) ≡ Ok (call_value k) = ap (λ v. call_as ps (call_form v)) (sym c.one-item.is) ∙ c.in_ok-call.ensures.ok in
    let next = call_taken ps done k vs i x (omega arith) taken in
    let so_far : onto_calls (map call_value c.push.new.self.items) (each_call ps (map call_form (drop (i + 1) vs))) ≡ each_call ps (map call_form vs) =
    rw pushed (next ∙ c.loop-one.invariant.so_far) in
    let all : All (IsCallOf ps) (map call_value c.push.new.self.items) =
    rw (pushed, map_push call_value done k) (All-push (IsCallOf ps) (map call_value done) (call_value k) c.loop-one.invariant.calls c.in_ok-call.ensures.call) in
    let size : length c.push.new.self.items ≡ length done + 1 = ap length pushed ∙ length-append done (k ∷ []) in
    record { so_far = so_far; calls = all; count = size ∙ ap (λ n. n + 1) c.loop-one.invariant.count }
