-- A core with more procedures keeps its calls.
use Rattle.std.proofs.Common.{◌≡◌, ℕ, List, [], ◌++◌, length, map, subst, Option, Result, Ok, Err, OnOk, OnErr, refl, sym, ◌∙◌, ap, arith}
use Rattle.std.proofs.lemmas.List.{get_or_append_left, length-append, append-nil}
use Rattle.tl_tree.specs.Trees.{TreeValue}
use Rattle.tl_procedures.specs.declared.fault.NamingFault.{NamingFault}
use Rattle.tl_core.specs.declared.call.Call.{Call}
use Rattle.tl_core.specs.declared.call.OpenCall.{OpenCall}
use Rattle.tl_core.specs.Stored.{Kept, seen_call, AreStored}
use Rattle.tl_procedures.specs.Names.{Named, no_procedure}
use Rattle.tl_machine.specs.Turns.{TurnValue}
use Rattle.tl_core.specs.Cores.{CoreValue, CoreState}
use Rattle.tl_core.specs.Kept.{IsKept, IsCore, IsWholeCore}
use Rattle.tl_core.proofs.Rooms.{had_room_then}
use Rattle.tl_core.proofs.StoredCalls.{seen_are}

-- the procedure of a stored call is one that existed before
keeps_call : (v : CoreValue) (more : List Named) (c : ℕ) (k : Kept) → IsKept v c k → IsKept (record v { procedures = v.procedures ++ more }) c k
keeps_call v more c k h =
    record {
      turn = h.turn;
      shape = h.shape;
      known = rw (length-append v.procedures more) (omega (arith, h.known));
      code = ap (λ p. p.code) (get_or_append_left v.procedures more no_procedure k.procedure h.known) ∙ h.code;
      valid = h.valid;
      accepted = h.accepted;
      arity = h.arity;
      done = h.done;
      along = h.along;
      part = h.part;
      over = h.over;
      reply = h.reply;
      places = h.places;
    }

pub keeps_core : (v : CoreValue) (more : List Named) (now : TreeValue) (kept : List Kept) (holders : List (Option ℕ)) (open_count reserved : ℕ)
    → IsCore v now kept holders open_count reserved → IsCore (record v { procedures = v.procedures ++ more }) now kept holders open_count reserved
keeps_core v more now kept holders open_count reserved h =
    record {
      sound = h.sound;
      reached = h.reached;
      had_room = had_room_then v (record v { procedures = v.procedures ++ more }) refl (omega arith) (length v.calls) (omega arith) (omega arith) (λ c known. refl) v.past (let e = h.counted in omega arith) h.sound.legal.in_turn h.had_room;
      counted = h.counted;
      few = h.few;
      calls = h.calls;
      now_is = h.now_is;
      each_node = h.each_node;
      holds = h.holds;
      each = λ c k at. keeps_call v more c k (h.each c k at);
      open_are = h.open_are;
      reserved_are = h.reserved_are;
    }

-- the calls are stored as before
module _ (v : CoreValue) (more : List Named) (now : TreeValue) (calls : List Call) (slots : List OpenCall) (holders : List (Option ℕ)) (reserved capacity : ℕ) (w : IsWholeCore v now calls slots holders reserved capacity) where
  still_stored : AreStored (v.procedures ++ more) calls slots w.kept
  still_stored = record {
    long = w.stored.long;
    each = λ c k s at there.
        let was = w.stored.each c k s at there in
        record {
          procedure = was.procedure;
          args = was.args;
          code = ap (λ p. p.code) (get_or_append_left v.procedures more no_procedure k.procedure (w.core.each c k at).known) ∙ was.code;
          reply = was.reply;
          slot = was.slot;
          steps = was.steps;
        };
    each_slot = w.stored.each_slot;
  }

  pub still_seen : map (seen_call (v.procedures ++ more) slots) calls ≡ v.calls
  still_seen = seen_are (v.procedures ++ more) calls slots w.kept still_stored ∙ sym w.core.calls

  pub keeps_whole : IsWholeCore (record v { procedures = v.procedures ++ more; calls = map (seen_call (v.procedures ++ more) slots) calls }) now calls slots holders reserved capacity
  keeps_whole = record {
    kept = w.kept;
    stored = still_stored;
    core =
        subst (λ l. IsCore (record v { procedures = v.procedures ++ more; calls = l }) now w.kept holders (length slots) reserved) (sym still_seen)
        (keeps_core v more now w.kept holders (length slots) reserved w.core);
    few_open = w.few_open;
    room = w.room;
  }

-- a refusal adds no procedure
pub added : {X : Type 0} (result : Result X NamingFault) (before after more : List Named) → OnOk result (after ≡ before ++ more) → OnErr result (after ≡ before)
    → (all : List Named) × (after ≡ before ++ all)
added (Ok x) before after more last same = (more, last)
added (Err fault) before after more last same = ([], same ∙ sym (append-nil before))

-- the core then as callers see it
pub seen_added : {X : Type 0} (v : CoreValue) (now : TreeValue) (calls : List Call) (slots : List OpenCall) (holders : List (Option ℕ)) (reserved capacity : ℕ) → IsWholeCore v now calls slots holders reserved capacity
    → (result : Result X NamingFault) (after more : List Named) → OnOk result (after ≡ v.procedures ++ more)
    → OnOk result (record v { procedures = after; calls = map (seen_call after slots) calls } ≡ record v { procedures = v.procedures ++ more })
seen_added v now calls slots holders reserved capacity w (Ok x) after more last =
    ap (λ ps. record v { procedures = ps; calls = map (seen_call ps slots) calls }) last
    ∙ ap (λ l. record v { procedures = v.procedures ++ more; calls = l }) (still_seen v more now calls slots holders reserved capacity w)
seen_added v now calls slots holders reserved capacity w (Err fault) after more last = tt

-- the same with the turns
pub state_added : {X : Type 0} (v2 v3 : CoreValue) (turns : List (Option TurnValue)) (result : Result X NamingFault) → OnOk result (v2 ≡ v3) → OnOk result (◌≡◌ {A = CoreState} (record { seen = v2; turns = turns }) (record { seen = v3; turns = turns }))
state_added v2 v3 turns (Ok x) same = λ i. record { seen = same i; turns = turns }
state_added v2 v3 turns (Err fault) same = tt
