-- The first fault of a trail.
use Rattle.std.specs.Prelude.{◌≡◌, ℕ, ◌<◌, true, false, List, ◌∷◌, ◌++◌, length}
use Rattle.tl_tree.specs.Records.{Records}
use Rattle.tl_tree_locking.specs.declared.event.Event.{Event}
use Rattle.tl_tree_locking.specs.History.{is_done}
use Rattle.tl_tree_locking.specs.Rules.{KeepsRules, IsApart}
use Rattle.tl_trail.specs.Trails.{TrailValue}
use Rattle.tl_trail.specs.Clean.{FindsNow, AreRight, AreDone, IsGenuine, RepliesSo, EndsSo}
use Rattle.tl_audit.specs.declared.fault.AuditFault.{AuditFault}
use Rattle.tl_audit.specs.declared.fault.AuditFault.TheVariants.{RuleBroken, Overlap, WrongFound, NotGenuine, Unfinished, WrongEnd, WrongReply, Memory}

-- the first fault of an event, which is numbered by the events before it
abbrev pub IsWrong : List ℕ → Records → List Event → Event → AuditFault → Type 0
IsWrong parents opening past e (RuleBroken n) = (n ≡ length past) × ¬ KeepsRules parents past e
IsWrong parents opening past e (Overlap n) = (n ≡ length past) × KeepsRules parents past e × ¬ IsApart past e
IsWrong parents opening past e (WrongFound n) =
    (n ≡ length past) × KeepsRules parents past e × IsApart past e × ¬ FindsNow opening past e
IsWrong parents opening past e _ = ⊥

-- the fault of the first event that has one
pub record IsFirstEventFault (t : TrailValue) (f : AuditFault) : Type 0 where
  pub later : List Event
  pub event : Event
  pub before : List Event
  pub split : t.past ≡ later ++ event ∷ before
  pub right : AreRight t.parents t.opening before
  pub wrong : IsWrong t.parents t.opening before event f

-- the events are right, and c is the lowest call that isn't done
pub record IsUnfinished (t : TrailValue) (c : ℕ) : Type 0 where
  pub right : AreRight t.parents t.opening t.past
  pub inside : c < length t.calls
  pub not_done : is_done c t.past ≡ false
  pub least : (d : ℕ) → d < c → is_done d t.past ≡ true

-- the events are right, each call is done, and each call below `count` is genuine and has its reply
pub record AreSo (t : TrailValue) (count : ℕ) : Type 0 where
  pub right : AreRight t.parents t.opening t.past
  pub done : AreDone t
  pub genuine : (c : ℕ) → c < count → IsGenuine t c
  pub replies : (c : ℕ) → c < count → RepliesSo t c

-- the first fault: of the events, then an unfinished call, then a call's actions or reply, then an end record
abbrev pub IsFirstFault : TrailValue → AuditFault → Type 0
IsFirstFault t (RuleBroken n) = IsFirstEventFault t (RuleBroken n)
IsFirstFault t (Overlap n) = IsFirstEventFault t (Overlap n)
IsFirstFault t (WrongFound n) = IsFirstEventFault t (WrongFound n)
IsFirstFault t (Unfinished c) = IsUnfinished t c
IsFirstFault t (NotGenuine c) = AreSo t c × (c < length t.calls) × ¬ IsGenuine t c
IsFirstFault t (WrongReply c) = AreSo t c × (c < length t.calls) × IsGenuine t c × ¬ RepliesSo t c
IsFirstFault t (WrongEnd x) =
    AreSo t (length t.calls) × (x < length t.parents) × ¬ EndsSo t x × ((y : ℕ) → y < x → EndsSo t y)
IsFirstFault t Memory = ⊥
