-- A core before any call.
use Rattle.std.proofs.Common.{◌≡◌, ℕ, List, [], length, replicate, map, ◌≤◌, refl, sym, ap, ◌∙◌, subst, arith, Option, Some, None, get_or}
use Rattle.std.proofs.lemmas.List.{get_or-replicate, length-replicate}
use Rattle.std.proofs.lemmas.Option.{slice_get-get_or}
use Rattle.tl_tree.specs.Trees.{TreeValue, IsWhole}
use Rattle.tl_tree_locking.specs.World.{Opens}
use Rattle.tl_tree_locking.proofs.ReachedWorlds.{sound_opening}
use Rattle.tl_core.specs.Stored.{seen_call, AreStored}
use Rattle.tl_history.specs.Stored.{Stored}
use Rattle.tl_procedures.specs.Names.{Named}
use Rattle.tl_core.specs.Cores.{CoreValue, world_of}
use Rattle.tl_core.specs.Kept.{IsCore, IsWholeCore, call_value}
use Rattle.tl_core.specs.declared.call.Call.{Call}
use Rattle.tl_core.specs.declared.call.OpenCall.{OpenCall}
use Rattle.tl_core.specs.declared.interleaving.TheConstants.{MAX_OPEN}

abbrev none_held : ℕ → List (Option ℕ)
none_held n = replicate n None

pub opened : (tree : TreeValue) → IsWhole tree → (procedures : List Named) (limit : ℕ) (holders : List (Option ℕ)) → holders ≡ none_held (length tree.parents)
    → IsCore (record { parents = tree.parents; opening = tree.records; procedures = procedures; calls = map call_value []; past = []; limit = limit }) tree [] holders 0 0
opened tree whole procedures limit holders holders_are =
    let v : CoreValue = record { parents = tree.parents; opening = tree.records; procedures = procedures; calls = map call_value []; past = []; limit = limit } in
    let sized : length holders ≡ length tree.parents = ap length holders_are ∙ length-replicate (length tree.parents) None in
    record {
      sound = sound_opening tree.parents tree.records (world_of v).meanings whole.shape whole.count;
      reached = Opens (world_of v).meanings;
      had_room = tt;
      counted = refl;
      few = omega arith;
      calls = refl;
      now_is = refl;
      each_node = sized;
      holds = λ x lt.
          slice_get-get_or holders x None (omega arith) ∙ ap Some (ap (λ l. get_or l x None) holders_are ∙ get_or-replicate (length tree.parents) x None None lt);
      each = λ c k there. absurd cc;
      open_are = refl;
      reserved_are = refl;
    }

-- no call is stored
none_stored : (procedures : List Named) → AreStored procedures [] [] []
none_stored procedures = record {
  long = refl;
  each = λ c k s at there. absurd cc;
  each_slot = λ j o at. absurd cc;
}

-- the same for parts that are equal to these
pub opened_of : (tree : TreeValue) → IsWhole tree → (procedures : List Named) (limit : ℕ) (holders : List (Option ℕ)) → holders ≡ none_held (length tree.parents)
    → (now : TreeValue) → now ≡ tree → (calls : List Call) → calls ≡ [] → (slots : List OpenCall) → slots ≡ [] → (history : Stored) → history ≡ record { past = []; limit = limit; reserved = 0 }
    → (capacity : ℕ) → MAX_OPEN ≤ capacity
    → IsWholeCore (record { parents = tree.parents; opening = tree.records; procedures = procedures; calls = map (seen_call procedures slots) calls; past = history.past; limit = history.limit }) now calls slots holders history.reserved capacity
opened_of tree whole procedures limit holders holders_are now now_is calls no_calls slots no_slots history history_is capacity room =
    subst (λ t. IsWholeCore (record { parents = tree.parents; opening = tree.records; procedures = procedures; calls = map (seen_call procedures slots) calls; past = history.past; limit = history.limit }) t calls slots holders history.reserved capacity) (sym now_is)
    (subst (λ cs. IsWholeCore (record { parents = tree.parents; opening = tree.records; procedures = procedures; calls = map (seen_call procedures slots) cs; past = history.past; limit = history.limit }) tree cs slots holders history.reserved capacity) (sym no_calls)
    (subst (λ os. IsWholeCore (record { parents = tree.parents; opening = tree.records; procedures = procedures; calls = map (seen_call procedures os) []; past = history.past; limit = history.limit }) tree [] os holders history.reserved capacity) (sym no_slots)
    (subst (λ z. IsWholeCore (record { parents = tree.parents; opening = tree.records; procedures = procedures; calls = map (seen_call procedures []) []; past = z.past; limit = z.limit }) tree [] [] holders z.reserved capacity) (sym history_is)
    (record {
      kept = [];
      stored = none_stored procedures;
      core = opened tree whole procedures limit holders holders_are;
      few_open = omega arith;
      room = room;
    }))))
