-- What an auditor stores about the events so far.
use Rattle.std.specs.Prelude.{◌≡◌, ℕ, List, ◌∷◌, length}
use Rattle.tl_tree.specs.Records.{Records}
use Rattle.tl_tree_locking.specs.declared.event.Event.{Event}
use Rattle.tl_tree_locking.specs.History.{records_now}
use Rattle.tl_serial_order.specs.Checked.{calls_of, IsEventOf, IsEven as IsEvenOrder, IsChecked}
use Rattle.tl_trail.specs.Clean.{AreRight}
use Rattle.tl_audit.specs.declared.watch.Watch.{Watch}

-- there are entries for each call, and for each of `nodes` nodes
pub record IsEven (w : Watch) (nodes : ℕ) : Type 0 where
  pub order : IsEvenOrder w.order nodes
  pub records : length w.records.items ≡ nodes

-- the stored values are those of the events: their order and the values by which events are checked, for this number of
-- calls, and the current records
pub record Shows (parents : List ℕ) (opening : Records) (calls : ℕ) (w : Watch) (past : List Event) : Type 0 where
  pub even : IsEven w (length parents)
  pub calls_are : calls_of w.order ≡ calls
  pub checked : IsChecked parents w.order past
  pub latest : w.records.items ≡ records_now past opening

-- the event is right, and follows right events whose values are stored
pub record IsNext (parents : List ℕ) (w : Watch) (e : Event) : Type 0 where
  pub opening : Records
  pub calls : ℕ
  pub past : List Event
  pub shows : Shows parents opening calls w past
  pub right : AreRight parents opening (e ∷ past)
  pub event : IsEventOf (length parents) calls e
