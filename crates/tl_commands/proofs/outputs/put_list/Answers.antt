use Rattle.std.proofs.Common.{◌++◌, codes, take, ap, ◌∙◌, subst}
use Rattle.std.proofs.lemmas.List.{take_all}
use Rattle.std.proofs.lemmas.List.Elements.{All-more}
use Rattle.std.proofs.lemmas.Result.{on_ok_weaker}
use Rattle.tl_table.specs.Epochs.{EpochValue}
use Rattle.tl_trail.specs.Clean.{Clean}
use Rattle.tl_trail.specs.Writing.{trail_text}
use Rattle.tl_commands.specs.Sinks.{Adds, AreClean, comma_before, epoch_trail}
use Rattle.tl_commands.proofs.SinkLemmas.{added_then, list_begun, one_more, list_ended}
use Rattle.tl_commands.proofs.outputs.put_list.Goals as goal

pub loop-number-preserved : goal.loop-number-preserved
loop-number-preserved g c =
    let text = g.S.TrailSink.text in
    let es = c.args.chain.now in
    let i = c.loop-number.number in
    let e = c.index-chain-number.result in
    let old = text c.args.sink.now in
    let new = text c.put_trail.new.sink in
    let begun = list_begun (take i es) in
    let comma = added_then old (text c.loop-number.sink) (text c.put_comma.new.sink) begun (comma_before i) c.loop-number.invariant.0 c.in_ok-put_comma.ensures.put in
    let trail = added_then old (text c.put_comma.new.sink) new (begun ++ comma_before i) (trail_text (epoch_trail e)) comma c.in_ok-put_trail.ensures.put in (
      subst (λ l. Adds old l new) (ap (λ x. (begun ++ comma_before i) ++ trail_text (epoch_trail x)) c.index-chain-number.is ∙ one_more es i e c.loop-number-test.true) trail,
      c.in_ok-put_trail.ensures.fine ∙ c.in_ok-put_comma.ensures.fine ∙ c.loop-number.invariant.1,
      All-more (λ (x : EpochValue). Clean (epoch_trail x)) es i e c.loop-number-test.true c.loop-number.invariant.2
          (subst (λ (x : EpochValue). Clean (epoch_trail x)) c.index-chain-number.is c.in_ok-put_trail.ensures.clean),
    )

pub returns-clause-put : goal.returns-clause-put
returns-clause-put g c =
    let text = g.S.TrailSink.text in
    let es = c.args.chain.now in
    let old = text c.args.sink.now in
    let new = text c.put-2.new.self in
    let all : Adds old (list_begun es) (text c.loop-number.sink) = subst (λ xs. Adds old (list_begun xs) (text c.loop-number.sink)) (take_all c.loop-number.number es c.loop-number-test.false) c.loop-number.invariant.0 in
    on_ok_weaker c.put-2.result (λ h. subst (λ l. Adds old l new) (list_ended es) (added_then old (text c.loop-number.sink) new (list_begun es) (codes "]") all h)) c.put-2.ensures.put

pub returns-clause-clean : goal.returns-clause-clean
returns-clause-clean g c =
    on_ok_weaker c.put-2.result (λ h. subst AreClean (take_all c.loop-number.number c.args.chain.now c.loop-number-test.false) c.loop-number.invariant.2) c.put-2.ensures.put
