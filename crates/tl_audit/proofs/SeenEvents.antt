-- The events of a trail, one after another.
use Rattle.std.proofs.Common.{◌≡◌, ℕ, ◌+◌, ◌<◌, List, ◌∷◌, ◌++◌, length, get_or, take, drop, reverse, sym, ap, ◌∙◌, subst}
use Rattle.std.proofs.lemmas.List.{reverse-append, take-append-drop}
use Rattle.std.specs.Prelude.{All}
use Rattle.tl_tree_locking.specs.declared.event.Event.{Event}
use Rattle.tl_tree_locking.specs.declared.event.Event.TheVariants.{Admit}
use Rattle.tl_tree_locking.specs.History.{caller, past_of}
use Rattle.tl_tree_locking.specs.Nodes.{IsOfNodes}
use Rattle.tl_tree_locking.proofs.Pasts.{past_one_more, All-unreverse}
use Rattle.tl_serial_order.specs.Checked.{IsEventOf}
use Rattle.tl_trail.specs.Trails.{TrailValue, IsTrail}
use Rattle.tl_trail.specs.Clean.{AreRight}
use Rattle.tl_audit.specs.Findings.{IsWrong, IsFirstEventFault}
use Rattle.tl_audit.specs.declared.fault.AuditFault.{AuditFault}

-- each event is of a call and a node of the trail
pub event_at : (t : TrailValue) → IsTrail t → (events : List Event) → past_of events ≡ t.past → (i : ℕ) → i < length events
    → IsEventOf (length t.parents) (length t.calls) (get_or events i (Admit 0))
event_at t trail events whole i inside =
    let callers = All-unreverse (λ e. caller e < length t.calls) events (subst (λ p. All (λ e. caller e < length t.calls) p) (sym whole) trail.callers) in
    let nodes = All-unreverse (IsOfNodes (length t.parents)) events (subst (λ p. All (IsOfNodes (length t.parents)) p) (sym whole) trail.nodes) in
    record { call = callers i (Admit 0) inside; node = nodes i (Admit 0) inside }

-- the history consists of the later events, the event, and the earlier ones
pub past_split : (events : List Event) (i : ℕ) → i < length events
    → past_of events ≡ reverse (drop (i + 1) events) ++ get_or events i (Admit 0) ∷ reverse (take i events)
past_split events i inside =
    ap reverse (sym (take-append-drop (i + 1) events)) ∙ reverse-append (take (i + 1) events) (drop (i + 1) events)
    ∙ ap (λ p. reverse (drop (i + 1) events) ++ p) (past_one_more events i (Admit 0) inside)

pub first_wrong : (t : TrailValue) (events : List Event) → past_of events ≡ t.past → (i : ℕ) → i < length events
    → AreRight t.parents t.opening (reverse (take i events)) → (f : AuditFault)
    → IsWrong t.parents t.opening (reverse (take i events)) (get_or events i (Admit 0)) f → IsFirstEventFault t f
first_wrong t events whole i inside right f wrong = record {
  later = reverse (drop (i + 1) events);
  event = get_or events i (Admit 0);
  before = reverse (take i events);
  split = sym whole ∙ past_split events i inside;
  right = right;
  wrong = wrong;
}
