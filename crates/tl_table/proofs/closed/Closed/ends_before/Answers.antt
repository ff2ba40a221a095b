use Rattle.std.proofs.Common.{◌≡◌, ◌∙◌, ap, subst, ◌<◌, length, true, arith}
use Rattle.std.proofs.lemmas.Bool.{leb-true, le-leb}
use Rattle.tl_tree_locking.specs.History.{admits, is_done, InTurn}
use Rattle.tl_table.specs.Epochs.{seen}
use Rattle.tl_table.proofs.Ended.{ended-iff}
use Rattle.tl_table.proofs.closed.Closed.ends_before.Goals as goal

pub returns : goal.returns
returns c =
    let v = c.args.self.now in
    let same : c.core.result.now.seen ≡ seen v = ap (λ s. s.seen) c.core.ensures ∙ ap seen c.self.view_is in
    let counted : length (seen v).calls ≡ admits (seen v).past = subst (λ w. length w.calls ≡ admits w.past) same c.lemma_is_sound.ensures.counted in
    let turn : InTurn (seen v).past = subst (λ w. InTurn w.past) same c.lemma_is_sound.ensures.legal.in_turn in
    let first : c.args.first < admits (seen v).past = omega (arith, c.requires.0, counted) in
    let second : c.args.second < admits (seen v).past = omega (arith, c.requires.1, counted) in
    let rest = subst (λ w. (d : _) → d < admits (seen w).past → is_done d (seen w).past ≡ true) c.self.view_is c.self.invariant in
    let iff = ended-iff (seen v).past c.args.first c.args.second turn second (rest c.args.first first) in
    let number = c.begun_by_end.ensures.number in (
      (λ t. let le = leb-true _ _ t in iff.0 (omega (arith, le, number))),
      (λ e. let le = iff.1 e in le-leb _ _ (omega (arith, le, number))),
    )
