use Rattle.std.proofs.Common.{rules, ◌≡◌, ◌∙◌, ◌≤◌, ◌-◌, suc, List, ap, sym, subst, arith}
use Rattle.std.specs.Prelude.{All, Contains}
use Rattle.std.proofs.lemmas.List.Elements.{All-same}
use Rattle.std.proofs.lemmas.Result.{on_ok_weaker}
use Rattle.sqlite_trees.specs.View.{IsClean}
use Rattle.tl_ledger.specs.declared.schema.TheConstants.{CALL, REPLY, SEAL}
use Rattle.sqlite_value.specs.Order.{Row}
use Rattle.tl_ledger.specs.declared.rows.CallRow.{CallRow}
use Rattle.tl_ledger.specs.declared.rows.ReplyRow.{ReplyRow}
use Rattle.tl_ledger.specs.News.{call_columns, reply_columns}
use Rattle.tl_store_commands.specs.Remembering.{keyed, HoldsOn, AreFound, Began}
use Rattle.tl_store_commands.proofs.RememberingLemmas.{are_among}
use Rattle.tl_store_commands.proofs.KeyedLemmas.{own_found, own_none, finds_more, held_same, on_ok_both}
use Rattle.tl_store_commands.proofs.remembering.remember_epoch.Goals as goal

pub returns-clause-keys : goal.returns-clause-keys
returns-clause-keys g c =
    let old = (g.S.Store.view c.args.store.now).trees in
    let last = c.in-Some.last in
    let marks = c.args.marks.now in
    let bounds : (last.calls ≤ marks.calls) × (last.replies ≤ marks.replies) = search rules in
    on_ok_weaker c.remember_calls.result
    (λ learns clean contents holds marked start all.
    let clean1 : IsClean (g.S.Store.view c.read_part.new.store) = omega (arith, clean, c.read_part-2.ensures.clean) in
    let same : (g.S.Store.view c.read_part.new.store).trees ≡ old = ap (λ v. v.trees) ((c.in_ok-calls.ensures.reads clean1).same) in
    let first = c.in-Some.first in
    let calls : All (λ call. Contains (contents CALL) (call_columns call)) c.in_ok-calls.calls.items =
    are_among call_columns c.in_ok-calls.calls.items (contents CALL) first.calls (last.calls - first.calls)
    (c.in_ok-calls.ensures.rows clean1 (contents CALL) (holds.numbered CALL (omega arith)) (omega (arith, bounds.0, marked.calls))) in
    let replies : All (λ reply. Contains (contents REPLY) (reply_columns reply)) c.in_ok-replies.replies.items =
    are_among reply_columns c.in_ok-replies.replies.items (contents REPLY) first.replies (last.replies - first.replies)
    (c.in_ok-replies.ensures.rows clean (contents REPLY) (ap (λ f. f REPLY) same ∙ holds.numbered REPLY (omega arith)) (omega (arith, bounds.1, marked.replies))) in
    learns contents
    (All-same (λ call. Contains (contents CALL) (call_columns call)) c.as_slice-2.result.now c.in_ok-calls.calls.items c.as_slice-2.ensures.value calls)
    (All-same (λ reply. Contains (contents REPLY) (reply_columns reply)) c.as_slice-3.result.now c.in_ok-replies.replies.items c.as_slice-3.ensures.value replies)
    start all)
    c.remember_calls.ensures.stored

pub returns-clause-found : goal.returns-clause-found
returns-clause-found g c =
    let old = (g.S.Store.view c.args.store.now).trees in
    let first = c.in-Some.first in
    let last = c.in-Some.last in
    let marks = c.args.marks.now in
    let bounds : (last.calls ≤ marks.calls) × (last.replies ≤ marks.replies) = search rules in
    let order : first.calls ≤ last.calls = search rules in
    let xs = c.in_ok-calls.calls.items in
    let rs = c.in_ok-replies.replies.items in
    on_ok_both c.remember_calls.result
    (λ held here clean contents holds marked seals.
    let clean1 : IsClean (g.S.Store.view c.read_part.new.store) = omega (arith, clean, c.read_part-2.ensures.clean) in
    let same : (g.S.Store.view c.read_part.new.store).trees ≡ old = ap (λ v. v.trees) ((c.in_ok-calls.ensures.reads clean1).same) in
    let read = c.in_ok-calls.ensures.rows clean1 (contents CALL) (holds.numbered CALL (omega arith)) (omega (arith, bounds.0, marked.calls)) in
    let answered = c.in_ok-replies.ensures.rows clean (contents REPLY) (ap (λ f. f REPLY) same ∙ holds.numbered REPLY (omega arith)) (omega (arith, bounds.1, marked.replies)) in
    let begins : Began (contents SEAL) c.args.epoch first.calls first.replies = subst (λ (l : List Row). Began l c.args.epoch first.calls first.replies) (sym seals) c.in-Some.ensures.begins in
    let ends : Began (contents SEAL) (suc c.args.epoch) last.calls last.replies = subst (λ (l : List Row). Began l (suc c.args.epoch) last.calls last.replies) (sym seals) (c.in-Some.ensures.ends c.requires.epoch) in
    let holds_on : HoldsOn xs c.args.index.now c.remember_calls.new.index = subst (λ (l : List CallRow). HoldsOn l c.args.index.now c.remember_calls.new.index) c.as_slice-2.ensures.value held in
    let are : AreFound xs rs c.remember_calls.new.index =
    subst (λ (l : List ReplyRow). AreFound xs l c.remember_calls.new.index) c.as_slice-3.ensures.value (subst (λ (l : List CallRow). AreFound l c.as_slice-3.result.now c.remember_calls.new.index) c.as_slice-2.ensures.value here) in
    finds_more contents c.args.epoch first.calls first.replies last.calls last.replies xs c.args.index.now c.remember_calls.new.index begins ends order read holds_on
    (own_found contents first.replies last.replies xs rs c.remember_calls.new.index answered are))
    c.remember_calls.ensures.held c.remember_calls.ensures.here

pub returns-then-have_no_keys-clause-found : goal.returns-then-have_no_keys-clause-found
returns-then-have_no_keys-clause-found g c = λ clean contents holds marked seals.
    let first = c.in-Some.first in
    let last = c.in-Some.last in
    let marks = c.args.marks.now in
    let bounds : (last.calls ≤ marks.calls) × (last.replies ≤ marks.replies) = search rules in
    let order : first.calls ≤ last.calls = search rules in
    let xs = c.in_ok-calls.calls.items in
    let read = c.in_ok-calls.ensures.rows clean (contents CALL) (holds.numbered CALL (omega arith)) (omega (arith, bounds.0, marked.calls)) in
    let begins : Began (contents SEAL) c.args.epoch first.calls first.replies = subst (λ (l : List Row). Began l c.args.epoch first.calls first.replies) (sym seals) c.in-Some.ensures.begins in
    let ends : Began (contents SEAL) (suc c.args.epoch) last.calls last.replies = subst (λ (l : List Row). Began l (suc c.args.epoch) last.calls last.replies) (sym seals) (c.in-Some.ensures.ends c.requires.epoch) in
    let shown : keyed c.as_slice.result.now ≡ 0 = search rules in
    let none : keyed xs ≡ 0 = subst (λ (l : List CallRow). keyed l ≡ 0) c.as_slice.ensures.value shown in
    finds_more contents c.args.epoch first.calls first.replies last.calls last.replies xs c.args.index.now c.args.index.now begins ends order read (held_same xs c.args.index.now)
    (own_none contents first.replies last.replies xs c.args.index.now none)
