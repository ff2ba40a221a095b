use Rattle.std.proofs.Common.{◌≡◌, ◌≤◌, length, ap, ◌∙◌, subst}
use Rattle.tl_history.specs.declared.history.TheConstants.{MAX_CALLS}
use Rattle.tl_tree_locking.specs.History.{admits}
use Rattle.tl_tree_locking.specs.World.{IsSound, Reached}
use Rattle.tl_core.specs.Cores.{CoreState, world_of}
use Rattle.tl_table.proofs.epoch.Epoch.lemma_is_rested.Goals as goal

pub returns : goal.returns
returns c =
    let same : c.core.result.now ≡ c.args.self.now.core = c.core.ensures ∙ ap (λ t. t.core) c.self.view_is in
    let all = c.lemma_is_sound.ensures in
    record {
      sound = subst (λ (k : CoreState). IsSound (world_of k.seen)) same all.sound;
      reached = subst (λ (k : CoreState). Reached k.seen.parents k.seen.opening (world_of k.seen)) same all.reached;
      done = c.requires;
      counted = subst (λ (k : CoreState). length k.seen.calls ≡ admits k.seen.past) same all.counted;
      few = subst (λ (k : CoreState). length k.seen.calls ≤ MAX_CALLS) same all.few;
      owned = c.owners-fact.ensures.owned;
    }
