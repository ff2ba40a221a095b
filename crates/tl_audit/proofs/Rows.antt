-- Worked examples of trails: a clean one, and the first faults of others, by computation.
use Rattle.std.proofs.Common.{◌≡◌, ℕ, zero, suc, ◌<◌, ℤ, pos, List, [], ◌∷◌, Bool, true, false, Option, Some, None, not, ◌&&◌, ◌||◌, ◌==◌, refl, arith}
use Rattle.tl_instr.specs.declared.instr.Instr.{Instr}
use Rattle.tl_instr.specs.declared.instr.Instr.TheVariants as instr
use Rattle.tl_instr.specs.declared.version.Version.TheVariants.{One}
use Rattle.tl_budget.specs.Loops.{loop_at}
use Rattle.tl_tree.specs.Records.{Record}
use Rattle.tl_tree_locking.specs.Actions.{held}
use Rattle.tl_tree_locking.specs.History.{is_done}
use Rattle.tl_tree_locking.specs.declared.action.Action.TheVariants as did
use Rattle.tl_tree_locking.specs.declared.event.Event.{Event}
use Rattle.tl_tree_locking.specs.declared.event.Event.TheVariants.{Admit, Lock, Free, Done}
use Rattle.tl_trail.specs.Clean.{Clean, AreRight, IsGenuine, RepliesSo, EndsSo}
use Rattle.tl_trail.specs.Trails.{TrailValue, found_alone}
use Rattle.tl_audit.specs.Findings.{IsFirstFault}
use Rattle.tl_audit.specs.declared.fault.AuditFault.TheVariants.{RuleBroken, Overlap, WrongFound, NotGenuine, Unfinished, WrongEnd, WrongReply}

-- first n0 v0 else 4; get v1 n0 0; emit v1; rel n0; ret
abbrev look : List Instr
look = instr.First 0 0 4 ∷ instr.Get 1 0 0 ∷ instr.Emit 1 ∷ instr.Release 0 ∷ instr.Return ∷ []

abbrev five : Record
five = pos 5 ∷ pos 0 ∷ pos 0 ∷ pos 0 ∷ []

abbrev six : Record
six = pos 6 ∷ pos 0 ∷ pos 0 ∷ pos 0 ∷ []

-- one call that looks at the root, with these events, the latest first, this reply and this end record
abbrev looked : List Event → Option (List ℤ) → Record → TrailValue
looked past reply end = record {
  parents = 0 ∷ [];
  opening = five ∷ [];
  procedures = record { name = 108 ∷ []; code = record { version = One; arity = 1; instrs = look } } ∷ [];
  calls = record { procedure = 0; args = pos 0 ∷ []; reply = reply } ∷ [];
  past = past;
  ends = end ∷ [];
}

abbrev whole : List Event
whole = Done 0 ∷ Free 0 0 five ∷ Lock 0 0 five ∷ Admit 0 ∷ []

-- what the call does alone
does : (found_alone (looked whole (Some (pos 5 ∷ [])) five) 0).actions ≡ did.Lock 0 five ∷ did.Read 0 0 (pos 5) ∷ did.Emit (pos 5) ∷ did.Free 0 five ∷ did.End ∷ []
unfolding loop_at
does = refl

-- ---- events with which nothing is wrong

opened : AreRight (0 ∷ []) (five ∷ []) (Admit 0 ∷ [])
opened = (record { rules = record { may_happen = refl; permitted = tt }; apart = tt; finds = tt }, tt)

locked : AreRight (0 ∷ []) (five ∷ []) (Lock 0 0 five ∷ Admit 0 ∷ [])
locked =
    (record { rules = record { may_happen = (omega arith, refl); permitted = (refl, λ e. absurd (cc e)) }; apart = λ d ne. refl; finds = refl }, opened)

freed : AreRight (0 ∷ []) (five ∷ []) (Free 0 0 five ∷ Lock 0 0 five ∷ Admit 0 ∷ [])
freed =
    (record { rules = record { may_happen = (omega arith, refl); permitted = refl }; apart = tt; finds = tt }, locked)

held_no_more : (x : ℕ) → held (did.Free 0 five ∷ did.Lock 0 five ∷ []) x ≡ false
held_no_more x = by (0 == x)
  where
    by : (b : Bool) → (not b && (b || false)) ≡ false
    by true = refl
    by false = refl

right : AreRight (0 ∷ []) (five ∷ []) whole
right =
    (record { rules = record { may_happen = (omega arith, refl); permitted = held_no_more }; apart = tt; finds = tt }, freed)

-- a property of 0 is a property of each number below 1
only : (P : ℕ → Type 0) → P 0 → (c : ℕ) → c < 1 → P c
only P p zero lt = p
only P p (suc c) lt = absurd (omega (arith, lt))

none : (P : ℕ → Type 0) → (c : ℕ) → c < 0 → P c
none P c lt = absurd (omega (arith, lt))

done : (c : ℕ) → c < 1 → is_done c whole ≡ true
done = only (λ c. is_done c whole ≡ true) refl

-- ---- the whole trail

abbrev true_trail : TrailValue
true_trail = looked whole (Some (pos 5 ∷ [])) five

clean : Clean true_trail
unfolding loop_at
clean = record {
  right = right;
  done = done;
  genuine = only (IsGenuine true_trail) refl;
  replies = only (RepliesSo true_trail) refl;
  ends = only (EndsSo true_trail) refl;
}

-- ---- what is wrong first

wrong_number : IsFirstFault (looked (Admit 1 ∷ []) None five) (RuleBroken 0)
wrong_number = record {
  later = [];
  event = Admit 1;
  before = [];
  split = refl;
  right = tt;
  wrong = (refl, λ rules. let e : 1 ≡ 0 = rules.may_happen in absurd (omega (arith, e)));
}

another_record_found : IsFirstFault (looked (Lock 0 0 six ∷ Admit 0 ∷ []) None five) (WrongFound 1)
another_record_found = record {
  later = [];
  event = Lock 0 0 six;
  before = Admit 0 ∷ [];
  split = refl;
  right = opened;
  wrong = (refl, record { may_happen = (omega arith, refl); permitted = (refl, λ e. absurd (cc e)) }, (λ d ne. refl), λ finds. let e : six ≡ five = finds in absurd (cc e));
}

still_open : IsFirstFault (looked (Lock 0 0 five ∷ Admit 0 ∷ []) None five) (Unfinished 0)
still_open = record { right = locked; inside = omega arith; not_done = refl; least = none (λ d. is_done d (Lock 0 0 five ∷ Admit 0 ∷ []) ≡ true) }

-- a call that locks nothing isn't one of `look`
abbrev idle : TrailValue
idle = looked (Done 0 ∷ Admit 0 ∷ []) (Some []) five

not_genuine : IsFirstFault idle (NotGenuine 0)
unfolding loop_at
not_genuine = (
  record {
    right = (record { rules = record { may_happen = (omega arith, refl); permitted = λ x. refl }; apart = tt; finds = tt }, opened);
    done = only (λ c. is_done c (Done 0 ∷ Admit 0 ∷ []) ≡ true) refl;
    genuine = none (IsGenuine idle);
    replies = none (RepliesSo idle);
  },
  omega arith,
  λ e. absurd (cc e),
)

another_reply : IsFirstFault (looked whole (Some (pos 6 ∷ [])) five) (WrongReply 0)
unfolding loop_at
another_reply = (
  record { right = right; done = done; genuine = none (IsGenuine (looked whole (Some (pos 6 ∷ [])) five)); replies = none (RepliesSo (looked whole (Some (pos 6 ∷ [])) five)) },
  omega arith,
  refl,
  λ e. let six_is_five : Some (pos 6 ∷ []) ≡ Some (pos 5 ∷ []) = e in absurd (cc six_is_five),
)

another_end : IsFirstFault (looked whole (Some (pos 5 ∷ [])) six) (WrongEnd 0)
unfolding loop_at
another_end = (
  record { right = right; done = done; genuine = only (IsGenuine (looked whole (Some (pos 5 ∷ [])) six)) refl; replies = only (RepliesSo (looked whole (Some (pos 5 ∷ [])) six)) refl },
  omega arith,
  (λ e. let six_is_five : six ≡ five = e in absurd (cc six_is_five)),
  none (EndsSo (looked whole (Some (pos 5 ∷ [])) six)),
)

opened_twice : AreRight (0 ∷ []) (five ∷ []) (Admit 1 ∷ Lock 0 0 five ∷ Admit 0 ∷ [])
opened_twice = (record { rules = record { may_happen = refl; permitted = tt }; apart = tt; finds = tt }, locked)

locked_by_another : IsFirstFault (looked (Lock 0 1 five ∷ Admit 1 ∷ Lock 0 0 five ∷ Admit 0 ∷ []) None five) (Overlap 3)
locked_by_another = record {
  later = [];
  event = Lock 0 1 five;
  before = Admit 1 ∷ Lock 0 0 five ∷ Admit 0 ∷ [];
  split = refl;
  right = opened_twice;
  wrong = (refl, record { may_happen = (omega arith, refl); permitted = (refl, λ e. absurd (cc e)) }, λ apart. let e : true ≡ false = apart 0 (λ z. omega (arith, z)) in absurd (cc e));
}
