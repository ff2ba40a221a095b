use Rattle.std.proofs.Common.{rules, ◌≡◌, ◌+ℤ◌, ℤ, pos, Some, option_map, string_bytes}
use Rattle.tl_keys.specs.Kept.{KeptValue}
use Rattle.tl_rows.specs.Rows.{numbers_in}
use Rattle.tl_store_commands.specs.Remembering.{HasKey}
use Rattle.tl_store_commands.proofs.KeyedLemmas.{held_keyed, here_keyed}
use Rattle.tl_store_commands.proofs.RememberingLemmas.{one_more}
use Rattle.tl_store_commands.proofs.remembering.remember_call.Goals as goal

pub returns-clause-stored : goal.returns-clause-stored
returns-clause-stored c = λ contents is_call is_reply start all.
    let call = c.args.call.now in
    let reply = c.args.reply.now in
    let key = string_bytes c.in_ok-clone.field-0 in
    let values = c.in-Some-2.reply.items in
    let has_key : option_map string_bytes call.key ≡ Some key = search rules in
    let numbers : Some values ≡ numbers_in (string_bytes reply.reply) = search rules in
    let epoch = c.in-Some-number_among.epoch in
    let counted : epoch ≡ pos c.args.before +ℤ call.epoch = search rules in
    let kept : KeptValue = record { epoch = epoch; call = call.number; reply = values } in
    let is : c.in_ok-kept.kept ≡ kept = search rules in
    one_more start c.args.before contents c.args.index.now c.remember.new.self call reply key epoch values c.in_ok-kept.kept c.requires has_key numbers counted is c.in_ok-remember.ensures is_call is_reply all

pub returns-clause-held : goal.returns-clause-held
returns-clause-held c =
    let key = string_bytes c.in_ok-clone.field-0 in
    let has_key : HasKey c.args.call.now key = search rules in
    held_keyed c.args.call.now c.args.index.now c.remember.new.self key c.in_ok-kept.kept has_key c.in_ok-remember.ensures

pub returns-clause-here : goal.returns-clause-here
returns-clause-here c =
    let key = string_bytes c.in_ok-clone.field-0 in
    let has_key : HasKey c.args.call.now key = search rules in
    here_keyed c.args.call.now c.args.index.now c.remember.new.self key c.in_ok-kept.kept has_key c.in_ok-remember.ensures
