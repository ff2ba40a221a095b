-- All calls of epochs in a line, run alone.
use Rattle.std.proofs.Common.{◌≡◌, ◌∙◌, ℕ, List, [], ◌∷◌, ◌++◌, length, map, refl, sym, ap}
use Rattle.tl_tree.specs.Records.{Records}
use Rattle.tl_tree_locking.specs.Epochs.{run_each}
use Rattle.tl_tree_locking.specs.Order.{Agrees}
use Rattle.tl_tree_locking.specs.World.{reply_of}
use Rattle.tl_tree_locking.proofs.EpochsJoined.{serial-each}
use Rattle.tl_tree_locking.proofs.NoStandstill.{sound_history}
use Rattle.tl_tree_locking.proofs.PlacedAgrees.{placed-agrees}
use Rattle.tl_tree_locking.proofs.ReachedWorlds.{serial-agreeing}
use Rattle.tl_core.specs.Cores.{world_of}
use Rattle.tl_store_history.specs.History.{PastEpoch, TakesOver, AreInLine, with_zeros, left_by, order_of, run_epochs, AreSerial}

one_serial : (parents : List ℕ) (records : Records) (e : PastEpoch) → TakesOver parents records e
    → ((run_each (map (world_of e.core).meanings (order_of e.core)) (with_zeros (length e.added) records)).tree ≡ left_by e)
    × ((run_each (map (world_of e.core).meanings (order_of e.core)) (with_zeros (length e.added) records)).replies ≡ map (reply_of (world_of e.core)) (order_of e.core))
one_serial parents records e takes =
    let v = e.core in
    let w = world_of v in
    let o = order_of v in
    let calls = map w.meanings o in
    let sound = takes.reached.sound in
    let agrees : Agrees o v.past = placed-agrees v.parents sound.tree v.past (sound_history w sound) in
    let own = serial-agreeing w sound takes.done o agrees in
    let same = serial-each w.meanings o v.opening in (
      ap (λ (r : Records). (run_each calls r).tree) (sym takes.opening) ∙ (ap (λ s. s.tree) (sym same) ∙ own.0),
      ap (λ (r : Records). (run_each calls r).replies) (sym takes.opening) ∙ (ap (λ s. s.replies) (sym same) ∙ own.1),
    )

pub line_serial : (parents : List ℕ) (records : Records) (es : List PastEpoch) → AreInLine parents records es → AreSerial records es
line_serial parents records [] line = record { tree = refl; replies = refl }
line_serial parents records (e ∷ es) line =
    let own = one_serial parents records e line.0 in
    let later = line_serial e.core.parents (left_by e) es line.1 in
    record {
      tree = ap (λ (r : Records). (run_epochs es r).tree) own.0 ∙ later.tree;
      replies = (λ i. own.1 i ++ (run_epochs es (own.0 i)).replies) ∙ ap (λ rs. map (reply_of (world_of e.core)) (order_of e.core) ++ rs) later.replies;
    }
