-- What the orders of a closed table's epochs guarantee together.
use Rattle.std.proofs.Common.{◌≡◌, ℕ, ◌+◌, List, [], ◌∷◌, map, refl, ap, ◌∙◌}
use Rattle.tl_tree.specs.Records.{Records}
use Rattle.tl_tree_locking.specs.Epochs.{run_each, joined, left_by, AgreeEach}
use Rattle.tl_tree_locking.specs.History.{records_now}
use Rattle.tl_tree_locking.proofs.EpochsJoined.{epochs-serial}
use Rattle.tl_procedures.specs.Names.{Named}
use Rattle.tl_serial.proofs.OrderOfCore.{order_agrees}
use Rattle.tl_table.specs.Epochs.{EpochValue, seen}
use Rattle.tl_table.specs.Tables.{epoch_world, InLine, IsChain}
use Rattle.tl_table.specs.Chains.{epoch_order, last_records, IsSerial}
use Rattle.tl_table.proofs.Lines.{line_follows, line_rests}

line_agrees : (n : ℕ) (parents : List ℕ) (opening : Records) (procedures : List Named) (es : List EpochValue) → InLine n parents opening procedures es → AgreeEach (map epoch_order es) (map epoch_world es)
line_agrees n parents opening procedures [] line = tt
line_agrees n parents opening procedures (e ∷ es) line =
    (order_agrees (seen e) line.1.sound (epoch_order e) refl, line_agrees (n + 1) parents (records_now (seen e).past (seen e).opening) (seen e).procedures es line.2)

line_left : (opening : Records) (e : EpochValue) (es : List EpochValue) → left_by opening (map epoch_world (e ∷ es)) ≡ last_records (e ∷ es)
line_left opening e [] = refl
line_left opening e (f ∷ es) = line_left (records_now (seen e).past (seen e).opening) f es

serial_from : (parents : List ℕ) (opening : Records) (e : EpochValue) (es : List EpochValue) → InLine 0 parents opening [] (e ∷ es) → IsSerial (e ∷ es) (map epoch_order (e ∷ es))
serial_from parents opening e es line =
    let all = e ∷ es in
    let s = epochs-serial parents opening (map epoch_world all) (map epoch_order all) (line_follows 0 parents opening [] all line) (line_rests 0 parents opening [] all line) (line_agrees 0 parents opening [] all line) in
    let first : (seen e).opening ≡ opening = line.0.opening in
    record {
      tree = ap (λ (t : Records). (run_each (joined (map epoch_world all) (map epoch_order all)) t).tree) first ∙ s.0 ∙ line_left opening e es;
      replies = ap (λ (t : Records). (run_each (joined (map epoch_world all) (map epoch_order all)) t).replies) first ∙ s.1;
    }

pub chain_serial : (es : List EpochValue) → IsChain es → IsSerial es (map epoch_order es)
chain_serial [] chain = record { tree = refl; replies = refl }
chain_serial (e ∷ es) chain = serial_from chain.parents chain.opening e es chain.line
