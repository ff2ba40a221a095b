use Rattle.std.proofs.Common.{◌≡◌, ◌≢◌, length, codes, sym, subst, arith}
use Rattle.std.proofs.lemmas.Result.{on_ok_weaker}
use Rattle.tl_commands.specs.Sinks.{Adds, AreClean, trails_text}
use Rattle.tl_commands.proofs.SinkLemmas.{added_then, file_of_one, file_of_list, clean_of_one, clean_chain}
use Rattle.tl_commands.proofs.outputs.put_trails.Goals as goal
use Rattle.tl_commands.proofs.outputs.put_trails.Goals.{in-len1+in_ok-put_trail-in-len1, in_default+in_ok-put_list-in_default, in_default-via-then-chain-lt1, in_default-via-else-chain-lt1+else-chain-lt2}

pub returns-clause-put : goal.returns-clause-put
returns-clause-put g c =
    let text = g.S.TrailSink.text in
    let es = c.args.chain.now in
    let old = text c.args.sink.now in
    let new = text c.put.new.self in
    let put : Adds old (trails_text es) (text c.if-chain-lt1.sink) = elim c.if-chain-lt1.branch [
      | in-len1+in_ok-put_trail-in-len1 w ↦
          let e = w.closed-item.result in
          let one : length es ≡ 1 = grind arith in
          let own : Adds old (trails_text es) (text w.put_trail.new.sink) = subst (λ l. Adds old l (text w.put_trail.new.sink)) (sym (file_of_one es e one (sym w.closed-item.is))) w.in_ok-put_trail-in-len1.ensures.put in
          subst (λ s. Adds old (trails_text es) (text s)) (sym w.sink-is) own
      | in_default+in_ok-put_list-in_default w ↦
          let other : length es ≢ 1 = elim w.in_default.branch [
            | in_default-via-then-chain-lt1 w' ↦ λ one. grind arith
            | in_default-via-else-chain-lt1+else-chain-lt2 w' ↦ λ one. grind arith
          ] in
          let own : Adds old (trails_text es) (text w.put_list.new.sink) = subst (λ l. Adds old l (text w.put_list.new.sink)) (sym (file_of_list es other)) w.in_ok-put_list-in_default.ensures.put in
          subst (λ s. Adds old (trails_text es) (text s)) (sym w.sink-is) own
    ] in
    let clean : AreClean es = elim c.if-chain-lt1.branch [
      | in-len1+in_ok-put_trail-in-len1 w ↦
          let e = w.closed-item.result in
          let one : length es ≡ 1 = grind arith in
          clean_of_one es e one (sym w.closed-item.is) w.in_ok-put_trail-in-len1.ensures.clean
      | in_default+in_ok-put_list-in_default w ↦ w.in_ok-put_list-in_default.ensures.clean
    ] in
    on_ok_weaker c.put.result
    (λ h. record { added = added_then old (text c.if-chain-lt1.sink) new (trails_text es) (codes "\n") put h; clean = clean_chain es c.requires clean }) c.put.ensures.put
