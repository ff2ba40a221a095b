use Rattle.std.proofs.Common.{rules, ◌≡◌, ◌∙◌, ◌-◌, suc, pos, Some, slice_get, ap, sym, arith}
use Rattle.std.proofs.lemmas.Option.{slice_get-get_or}
use Rattle.tl_store_commands.proofs.KeyedLemmas.{began_later}
use Rattle.tl_store_commands.proofs.remembering.counts_before.Goals as goal

pub returns : goal.returns
returns c =
    let is : c.args.epoch ≡ suc (c.args.epoch - 1) = omega (arith, c.if-epoch-eq0.false) in
    let seal = c.in_ok-seal.seal.now in
    let l = c.in_ok-seal.ensures.lookup in
    let at : slice_get c.args.seals.now (c.args.epoch - 1) ≡ Some seal = slice_get-get_or c.args.seals.now (c.args.epoch - 1) seal l.3.0 ∙ ap Some (sym l.1) in
    let called : seal.calls ≡ pos c.in_ok-ok.field-0 = search rules in
    let replied : seal.replies ≡ pos c.in_ok-ok-2.field-0 = search rules in
    began_later c.args.seals.now c.args.epoch (c.args.epoch - 1) c.in_ok-ok.field-0 c.in_ok-ok-2.field-0 seal is at called replied
