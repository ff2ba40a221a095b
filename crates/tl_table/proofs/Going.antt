-- Events in an epoch don't change its number and its opening tree.
use Rattle.std.proofs.Common.{◌≡◌, ℕ, List, [], ◌∷◌, ◌++◌, refl, sym, ap, subst, Result, Ok, Err, ℤ, Option, Some, None}
use Rattle.std.specs.Prelude.{IfOk, OnOk, OnErr}
use Rattle.std.specs.Option.{option_map_or}
use Rattle.tl_tree_locking.specs.declared.action.Action.{Action}
use Rattle.tl_procedures.specs.Names.{Named, BeginsWith, number_of}
use Rattle.tl_machine.specs.Turns.{SegmentValue}
use Rattle.tl_core.specs.declared.stepped.Stepped.TheVariants.{Moved}
use Rattle.tl_core.specs.Cores.{CoreState, CoreValue}
use Rattle.tl_core.specs.Entries.{after_step, after_admission, with_call_of}
use Rattle.tl_core.specs.Followed.{Goes, HasGone}
use Rattle.tl_table.specs.Epochs.{EpochValue, seen, GoesOn}
use Rattle.tl_table.specs.Sent.{Sends}
use Rattle.tl_table.specs.declared.fault.TableFault.{TableFault}
use Rattle.tl_table.specs.declared.receipt.Sent.{Sent}
use Rattle.tl_table.proofs.Lines.{begins_same}

-- the second core has the same opening tree and the same procedures
pub record OpensSame (v w : CoreValue) : Type 0 where
  pub parents : w.parents ≡ v.parents
  pub opening : w.opening ≡ v.opening
  pub procedures : w.procedures ≡ v.procedures

pub same_goes_on : (t u : EpochValue) → u.number ≡ t.number → OpensSame (seen t) (seen u) → GoesOn t u
same_goes_on t u number h = record {
  number = number;
  parents = h.parents;
  opening = h.opening;
  procedures = subst (BeginsWith (seen t).procedures) (sym h.procedures) (begins_same (seen t).procedures);
}

pub same_core : (t u : EpochValue) → u.number ≡ t.number → u.core ≡ t.core → GoesOn t u
same_core t u number core = same_goes_on t u number (record { parents = ap (λ c. c.seen.parents) core; opening = ap (λ c. c.seen.opening) core; procedures = ap (λ c. c.seen.procedures) core })

pub nothing_goes_on : (t : EpochValue) → GoesOn t t
nothing_goes_on t = same_core t t refl refl

pub sent_goes_on : (t u : EpochValue) (c : ℕ) (segment : SegmentValue) (r : Result Sent TableFault) → IfOk r (λ s. Sends t c segment s u) → OnErr r (u ≡ t) → GoesOn t u
sent_goes_on t u c segment (Ok s) sends same = sends.keeps.goes_on
sent_goes_on t u c segment (Err e) sends same = subst (GoesOn t) (sym same) (nothing_goes_on t)

goes_same : (v : CoreValue) (c : ℕ) (actions : List Action) (w : CoreValue) → Goes v c actions w → OpensSame v w
goes_same v c [] w g = record { parents = ap (λ u. u.parents) (sym g); opening = ap (λ u. u.opening) (sym g); procedures = ap (λ u. u.procedures) (sym g) }
goes_same v c (a ∷ actions) w g =
    let rest = goes_same (after_step v c (Ok (Moved a))) c actions w g.1 in
    record { parents = rest.parents; opening = rest.opening; procedures = rest.procedures }

pub gone_same : (v w : CoreState) (c : ℕ) (segment : SegmentValue) → HasGone v c segment w → OpensSame v.seen w.seen
gone_same v w c segment h = goes_same v.seen c (h.local ++ h.last ∷ []) w.seen h.goes

admitted_same : (v w : CoreValue) (args : List ℤ) (found : Option ℕ) → w ≡ option_map_or (λ p. with_call_of v p args) found v → OpensSame v w
admitted_same v w args (Some p) is = record { parents = ap (λ u. u.parents) is; opening = ap (λ u. u.opening) is; procedures = ap (λ u. u.procedures) is }
admitted_same v w args None is = record { parents = ap (λ u. u.parents) is; opening = ap (λ u. u.opening) is; procedures = ap (λ u. u.procedures) is }

pub admission_same : (v w : CoreValue) (name : List ℕ) (args : List ℤ) → w ≡ after_admission v name args → OpensSame v w
admission_same v w name args is = admitted_same v w args (number_of v.procedures name) is

-- registered procedures are appended
pub added_goes_on : {N E : Type 0} (r : Result N E) (t : EpochValue) (w : CoreState) (more : List Named)
    → OnOk r (w ≡ record t.core { seen = record t.core.seen { procedures = t.core.seen.procedures ++ more } }) → OnErr r (w ≡ t.core)
    → GoesOn t (record { number = t.number; core = w; sessions = t.sessions; owners = t.owners })
added_goes_on (Ok n) t w more ok err = record {
  number = refl;
  parents = ap (λ (u : CoreState). u.seen.parents) ok;
  opening = ap (λ (u : CoreState). u.seen.opening) ok;
  procedures = (more, ap (λ (u : CoreState). u.seen.procedures) ok);
}
added_goes_on (Err e) t w more ok err = same_core t _ refl err
