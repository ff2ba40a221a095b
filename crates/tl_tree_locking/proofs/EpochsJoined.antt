-- The calls of all epochs, run alone in the joined orders.
use Rattle.std.proofs.Common.{◌≡◌, ℕ, List, [], ◌∷◌, ◌++◌, map, refl, sym, ap, ◌∙◌, subst, append_assoc, ℤ}
use Rattle.tl_tree.specs.Records.{Records}
use Rattle.tl_tree_locking.specs.History.{AllDone, records_now}
use Rattle.tl_tree_locking.specs.Alone.{Outcome, SerialOutcome, serial}
use Rattle.tl_tree_locking.specs.World.{World, IsSound, reply_of}
use Rattle.tl_tree_locking.specs.Epochs.{run_each, joined, joined_replies, left_by, FollowOn, AreAtRest, AgreeEach}
use Rattle.tl_tree_locking.proofs.ReachedWorlds.{serial-agreeing}

tree-append : (xs ys : List (Records → Outcome)) (t : Records) → (run_each (xs ++ ys) t).tree ≡ (run_each ys (run_each xs t).tree).tree
tree-append [] ys t = refl
tree-append (x ∷ xs) ys t = tree-append xs ys (x t).tree

replies-append : (xs ys : List (Records → Outcome)) (t : Records) → (run_each (xs ++ ys) t).replies ≡ (run_each xs t).replies ++ (run_each ys (run_each xs t).tree).replies
replies-append [] ys t = refl
replies-append (x ∷ xs) ys t = ap (λ rs. (x t).reply ∷ rs) (replies-append xs ys (x t).tree)

-- the calls of one epoch in its order
pub serial-each : (meanings : ℕ → Records → Outcome) (order : List ℕ) (t : Records) → serial meanings order t ≡ run_each (map meanings order) t
serial-each meanings [] t = refl
serial-each meanings (c ∷ cs) t = ap (λ (s : SerialOutcome). record { tree = s.tree; replies = (meanings c t).reply ∷ s.replies }) (serial-each meanings cs (meanings c t).tree)

pub epochs-serial : (parents : List ℕ) (opening : Records) (ws : List World) (orders : List (List ℕ)) → FollowOn parents opening ws → AreAtRest ws → AgreeEach orders ws
    → ((run_each (joined ws orders) opening).tree ≡ left_by opening ws) × ((run_each (joined ws orders) opening).replies ≡ joined_replies ws orders)
epochs-serial parents opening [] orders follow rest agree = (refl, refl)
epochs-serial parents opening (w ∷ ws) [] follow rest agree = absurd agree
epochs-serial parents opening (w ∷ ws) (order ∷ orders) follow rest agree =
    let own = serial-agreeing w rest.0 rest.1 order agree.0 in
    let at : w.opening ≡ opening = follow.1 in
    let same : serial w.meanings order opening ≡ run_each (map w.meanings order) opening = serial-each w.meanings order opening in
    let tree : (run_each (map w.meanings order) opening).tree ≡ records_now w.past w.opening = sym (ap (λ s. s.tree) same) ∙ sym (ap (λ t. (serial w.meanings order t).tree) at) ∙ own.0 in
    let replies : (run_each (map w.meanings order) opening).replies ≡ map (reply_of w) order = sym (ap (λ s. s.replies) same) ∙ sym (ap (λ t. (serial w.meanings order t).replies) at) ∙ own.1 in
    let later = epochs-serial parents (records_now w.past w.opening) ws orders follow.2 rest.2 agree.1 in (
      tree-append (map w.meanings order) (joined ws orders) opening ∙ ap (λ t. (run_each (joined ws orders) t).tree) tree ∙ later.0,
      replies-append (map w.meanings order) (joined ws orders) opening
          ∙ (λ i. replies i ++ (run_each (joined ws orders) (tree i)).replies)
          ∙ ap (λ rs. map (reply_of w) order ++ rs) later.1,
    )
