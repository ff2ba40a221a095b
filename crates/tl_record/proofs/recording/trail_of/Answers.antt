use Rattle.std.proofs.Common.{rules, ◌≡◌, map, sym, subst}
use Rattle.std.specs.Prelude.{◌↔◌}
use Rattle.tl_tree_locking.specs.History.{AllDone}
use Rattle.tl_trail.specs.Trails.{TrailValue, IsTrail, call_value}
use Rattle.tl_trail.specs.Clean.{Clean}
use Rattle.tl_record.specs.Recording.{trail_value}
use Rattle.tl_record.proofs.Recorded.{recorded_trail, recorded_clean}
use Rattle.tl_record.proofs.recording.trail_of.Goals as goal

pub new-requires : goal.new-requires
new-requires c =
    let v = c.args.core.now.seen in
    let told : TrailValue = record {
      parents = c.in-Ok.opening.parents;
      opening = c.in-Ok.opening.records;
      procedures = c.in_ok-procedures.procedures;
      calls = map call_value c.in_ok-calls.calls.items;
      past = c.in_ok-history.history.past;
      ends = c.in_ok-ends.ends.items;
    } in
    let same : told ≡ trail_value v = search rules in
    subst IsTrail (sym same) (recorded_trail v c.lemma_is_sound.ensures.sound c.lemma_is_sound.ensures.counted c.in_ok-calls.ensures.each c.calls_of.ensures.few)

pub returns-clause-clean : goal.returns-clause-clean
returns-clause-clean c =
    let v = c.args.core.now.seen in
    let same : c.new.result ≡ trail_value v = search rules in
    subst (λ t. Clean t ↔ AllDone v.past) (sym same) (recorded_clean v c.lemma_is_sound.ensures.sound c.lemma_is_sound.ensures.counted c.in_ok-calls.ensures.each)
