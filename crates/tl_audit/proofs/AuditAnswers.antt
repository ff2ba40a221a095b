-- What the auditor's answer says about a trail.
use Rattle.std.proofs.Common.{◌≡◌, ◌≢◌, ℕ, ◌<◌, List, length, map, Some, Result, Ok, Err, IfOk, IfErr, refl, sym, subst}
use Rattle.std.proofs.lemmas.Result.{IfOk-weaker}
use Rattle.std.specs.Prelude.{MatchResult}
use Rattle.tl_audit.specs.declared.fault.AuditFault.{AuditFault}
use Rattle.tl_audit.specs.declared.fault.AuditFault.TheVariants.{RuleBroken, Overlap, WrongFound, NotGenuine, Unfinished, WrongEnd, WrongReply, Memory}
use Rattle.tl_tree_locking.specs.Alone.{serial}
use Rattle.tl_tree_locking.specs.Obeys.{Obeys}
use Rattle.tl_tree_locking.specs.Order.{placed, Agrees}
use Rattle.tl_tree_locking.specs.World.{Legal, reply_of}
use Rattle.tl_serial_order.specs.Order.{OrderValue}
use Rattle.tl_trail.specs.Trails.{TrailValue, IsTrail, call_at, found_alone, meaning_of, world_of}
use Rattle.tl_trail.specs.Clean.{Clean}
use Rattle.tl_audit.specs.Findings.{IsFirstFault}
use Rattle.tl_audit.specs.Verdict.{IsVerdict}
use Rattle.tl_audit.proofs.CleanTrailLemmas.{clean_faultless, clean_legal, clean_obeys, clean_agrees, clean_tree, clean_replies, clean_told}

pub both_ok : {X E : Type 0} (r : Result X E) (P Q R : X → Type 0) → ((x : X) → P x → Q x → R x) → IfOk r P → IfOk r Q → IfOk r R
both_ok (Ok x) P Q R f p q = f x p q
both_ok (Err e) P Q R f p q = tt

-- the only fault that is answered for a clean trail is a lack of memory
only_memory : (t : TrailValue) (f : AuditFault) → Clean t → (f ≢ Memory → IsFirstFault t f) → f ≡ Memory
only_memory t (RuleBroken n) clean h = absurd (clean_faultless t (RuleBroken n) clean (h (λ e. cc)))
only_memory t (Overlap n) clean h = absurd (clean_faultless t (Overlap n) clean (h (λ e. cc)))
only_memory t (WrongFound n) clean h = absurd (clean_faultless t (WrongFound n) clean (h (λ e. cc)))
only_memory t (NotGenuine c) clean h = absurd (clean_faultless t (NotGenuine c) clean (h (λ e. cc)))
only_memory t (Unfinished c) clean h = absurd (clean_faultless t (Unfinished c) clean (h (λ e. cc)))
only_memory t (WrongEnd x) clean h = absurd (clean_faultless t (WrongEnd x) clean (h (λ e. cc)))
only_memory t (WrongReply c) clean h = absurd (clean_faultless t (WrongReply c) clean (h (λ e. cc)))
only_memory t Memory clean h = refl

pub only_order : {X : Type 0} (t : TrailValue) (r : Result X AuditFault) (P : X → Type 0) → IfOk r P → IfErr r (λ f. f ≢ Memory → IsFirstFault t f) → Clean t
    → MatchResult r P (λ f. f ≡ Memory)
only_order t (Ok x) P ok err clean = ok
only_order t (Err f) P ok err clean = only_memory t f clean err

-- an answer that is right is a verdict
pub verdict : (t : TrailValue) → IsTrail t → (r : Result OrderValue AuditFault) → IfOk r (λ _. Clean t) → IfOk r (λ o. o.calls ≡ placed t.parents t.past)
    → IfErr r (λ f. f ≢ Memory → IsFirstFault t f) → IsVerdict t r
verdict t trail r clean order fault = record {
  clean = clean;
  order = order;
  fault = fault;
  only = only_order t r _ order fault;
  legal = IfOk-weaker r _ (λ _. Legal (world_of t)) (λ o is. clean_legal t trail is) clean;
  obeys = IfOk-weaker r _ (λ _. (c : ℕ) → c < length t.calls → Obeys t.parents (found_alone t c).actions) (λ o is c lt. clean_obeys t trail is c lt) clean;
  agrees = both_ok r _ _ (λ o. Agrees o.calls t.past) (λ o is same. subst (λ (p : List ℕ). Agrees p t.past) (sym same) (clean_agrees t trail is)) clean order;
  tree = both_ok r _ _ (λ o. (serial (meaning_of t) o.calls t.opening).tree ≡ t.ends)
      (λ o is same. subst (λ (p : List ℕ). (serial (meaning_of t) p t.opening).tree ≡ t.ends) (sym same) (clean_tree t trail is)) clean order;
  replies = both_ok r _ _ (λ o. (serial (meaning_of t) o.calls t.opening).replies ≡ map (reply_of (world_of t)) o.calls)
      (λ o is same. subst (λ (p : List ℕ). (serial (meaning_of t) p t.opening).replies ≡ map (reply_of (world_of t)) p) (sym same) (clean_replies t trail is)) clean order;
  told = IfOk-weaker r _ (λ _. (c : ℕ) → c < length t.calls → (call_at t c).reply ≡ Some (reply_of (world_of t) c)) (λ o is c lt. clean_told t c is lt) clean;
}
