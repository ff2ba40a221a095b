use Rattle.std.proofs.Common.{List, subst}
use Rattle.tl_workers.specs.Kept.{SessionValue}
use Rattle.tl_workers.specs.Sessions.{AreAllOf, AskForEachOnce}
use Rattle.tl_commands.proofs.serving.close_engine.Goals as goal

pub returns-clause-once : goal.returns-clause-once
returns-clause-once c =
    let es = c.in-Ok.chain.items in
    subst (λ (ss : List SessionValue). AreAllOf es ss → AskForEachOnce es ss) c.in-Ok.ensures.ok.0 c.in-Ok.ensures.once
