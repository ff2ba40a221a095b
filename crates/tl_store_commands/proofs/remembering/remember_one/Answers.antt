use Rattle.std.proofs.Common.{rules, [], ◌∷◌}
use Rattle.std.specs.Prelude.{Contains}
use Rattle.std.proofs.lemmas.List.Elements.{All-contains}
use Rattle.std.proofs.lemmas.Result.{on_ok_weaker}
use Rattle.tl_ledger.specs.declared.schema.TheConstants.{REPLY}
use Rattle.tl_ledger.specs.News.{reply_columns}
use Rattle.tl_store_commands.proofs.KeyedLemmas.{held_same}
use Rattle.tl_store_commands.proofs.remembering.remember_one.Goals as goal

pub returns-in-Some-clause-stored : goal.returns-in-Some-clause-stored
returns-in-Some-clause-stored c =
    let reply = c.in-Some.reply.now in
    let among : Contains c.args.replies.now reply = search rules in
    on_ok_weaker c.remember_call.result
    (λ learns contents is_call replies start all. learns contents is_call (All-contains (λ r. Contains (contents REPLY) (reply_columns r)) c.args.replies.now reply replies among) start all)
    c.remember_call.ensures.stored

pub returns-in-Some-clause-here : goal.returns-in-Some-clause-here
returns-in-Some-clause-here c = on_ok_weaker c.remember_call.result (λ here key reply has there is. here key has) c.remember_call.ensures.here

pub returns-in-None-clause-held : goal.returns-in-None-clause-held
returns-in-None-clause-held c = held_same (c.args.call.now ∷ []) c.args.index.now

pub returns-in-None-clause-here : goal.returns-in-None-clause-here
returns-in-None-clause-here c = λ key reply has there is. absurd (c.in-None.ensures.none reply there is)
