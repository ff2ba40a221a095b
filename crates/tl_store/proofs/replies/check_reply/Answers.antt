use Rattle.std.proofs.Common.{rules, ◌≡◌, ◌∙◌, ap, sym, Some, IsTrue, string_bytes}
use Rattle.tl_rows.specs.Rows.{numbers_in}
use Rattle.tl_store.proofs.replies.check_reply.Goals as goal

pub returns-clause-right : goal.returns-clause-right
returns-clause-right c =
    let same : IsTrue c.has_replied.result = search rules in
    let read : numbers_in (string_bytes c.args.row.now.reply) ≡ Some c.in-Some.values.items = search rules in record {
      epoch_is = search rules;
      call = c.in-Ok.call;
      call_is = search rules;
      known = c.has_replied.ensures.known same;
      done = c.has_replied.ensures.done same;
      reply = read ∙ ap Some (sym (c.has_replied.ensures.reply same ∙ c.as_slice.ensures.value));
    }
