-- The verifier accepts compiled code, apart from its sums.
use Rattle.std.proofs.Common.{◌≡◌, ◌≢◌, ◌⊎◌, inl, inr, ℕ, suc, ◌<◌, ◌≤◌, List, [], ◌∷◌, length, Bool, true, false, ◌||◌, Option, Some, None, option_map, is_some, if◌then◌else◌, refl, sym, ◌∙◌, ap, subst, arith}
use Rattle.std.specs.Prelude.{slice_set, get_or}
use Rattle.std.proofs.lemmas.List.{length-replicate, get_or-replicate, length-set, get_or-set_same}
use Rattle.std.proofs.lemmas.Bool.{cases_eq, cases_lt, eq-eqb}
use Rattle.tl_instr.specs.declared.operand.TheConstants.{NODE_REGISTERS}
use Rattle.tl_instr.specs.declared.instr.Instr.{Instr}
use Rattle.tl_instr.specs.declared.instr.Instr.TheVariants as I
use Rattle.tl_budget.specs.Loops.{budget, lock_bound, emit_bound}
use Rattle.tl_budget.specs.declared.limits.TheConstants.{MAX_STEPS, MAX_LOCKS, MAX_EMITS}
use Rattle.tl_verify.specs.declared.marks.Marks.{Marks}
use Rattle.tl_verify.specs.declared.fault.VerifyFault.{VerifyFault}
use Rattle.tl_verify.specs.declared.fault.VerifyFault.TheVariants as fault
use Rattle.tl_budget.specs.declared.fault.NestFault.TheVariants as nest
use Rattle.tl_budget.proofs.AroundLemmas.{nothing_found as loops_nothing_found}
use Rattle.tl_verify.specs.Marks.{entry, after as marks_after}
use Rattle.tl_verify.specs.Acceptable.{Allows, Acceptable}
use Rattle.tl_verify.specs.Findings.{Finding, OfLoops, TargetBack, TargetPastEnd, TargetInLoop, Joined, Spent, Missing, Taken, LeftHeld, Changed, NextPastEnd, Steps, Locks, Emits, Arises, IsFirstFault, pass, fault_of}
use Rattle.tl_verify.proofs.NoFindings.{fit_finds_nothing}
use Rattle.tl_lowering.specs.declared.program.Place.{Place}
use Rattle.tl_lowering.specs.declared.program.Place.TheVariants as P
use Rattle.tl_lowering.specs.declared.program.Statement.{Statement}
use Rattle.tl_lowering.specs.declared.program.Statement.TheVariants as S
use Rattle.tl_lowering.specs.Sets.{Nodes, none_held, holds, both, both_of, all_of, with_node, without_node}
use Rattle.tl_lowering.specs.declared.program.Procedure.{Procedure}
use Rattle.tl_lowering.specs.Sound.{IsInOrder}
use Rattle.tl_lowering.specs.Passing.{nothing_before}
use Rattle.tl_lowering.specs.Outcomes.{locked, unlocked, next, handled_by, behind_loop, after, fails, breaks}
use Rattle.tl_compiler.specs.Aiming.{at_positions}
use Rattle.tl_compiler.specs.Statements.{Site, procedure_code}
use Rattle.tl_compiler.specs.Among.{IsIn}
use Rattle.tl_compiler.proofs.SetLemmas.{Within, within_self, within_left, within_right, without_within, all_held}
use Rattle.tl_compiler.specs.Safe.{IsSafe}
use Rattle.tl_compiler.specs.Faults.{IsVerifierFault}
use Rattle.tl_compiler.specs.declared.fault.CompileFault.TheVariants as compile
use Rattle.tl_compiler.proofs.Leaps.{procedure_orderly}
use Rattle.tl_compiler.proofs.Entrances.{enters_once}
use Rattle.tl_compiler.proofs.Markings.{marks, at_label, Brings, Passes, Marked, none, dead, live, turn, marked_further, Begins}
use Rattle.tl_compiler.proofs.Marking.{holds_past, with_other, with_itself}
use Rattle.tl_compiler.proofs.StatementMarks.{statement_marked, low}
use Rattle.tl_compiler.proofs.Fitting.{marked_fits, marked_tail}
use Rattle.tl_compiler.proofs.SizeLemmas.{sizes}
use Rattle.tl_compiler.proofs.TailLemmas.{tail_length}

-- ---- what is held behind a statement was held before it

within_trans : (a b c : Nodes) → Within a b → Within b c → Within a c
within_trans a b c x y i t = y i (x i t)

-- either of two ways
either_within : (o p : Option Nodes) (held h : Nodes) → ((g : Nodes) → o ≡ Some g → Within g held) → ((g : Nodes) → p ≡ Some g → Within g held) → both_of o p ≡ Some h → Within h held
either_within None p held h x y e = y h e
either_within (Some a) None held h x y e = x h e
either_within (Some a) (Some b) held h x y e = let n : both a b ≡ h = cc in subst (λ z. Within z held) n (λ i t. x a refl i (within_left a b i t))

without_gone : (h : Nodes) (n i : ℕ) → holds (without_node h n) i ≡ true → n ≢ i
without_gone h n i t e = absurd (by (cases n (length h)))
  where
    cases : (a b : ℕ) → (a < b) ⊎ (b ≤ a)
    cases a b = cases_lt a b

    by : (n < length h) ⊎ (length h ≤ n) → ⊥
    by (inl lt) = let f = get_or-set_same h n false false lt in let g = ap (holds (without_node h n)) e in cc
    by (inr le) = let s = length-set h n false in let f = holds_past (without_node h n) i (omega (arith, s, le, e)) in cc

-- the locked nodes are released again
free_within : (place : Place) (w held : Nodes) → Within w (locked place held) → Within (unlocked place w) held
free_within (P.Node n v) w held x i t = let ne = without_gone w n i t in sym (with_other held n i ne) ∙ x i (without_within w n i t)
free_within (P.Child n p v) w held x i t = let ne = without_gone w n i t in sym (with_other held n i ne) ∙ x i (without_within w n i t)
free_within (P.Pair n k p a b) w held x i t =
    let ne_k = without_gone (without_node w n) k i t in
    let ne_n = without_gone w n i (without_within (without_node w n) k i t) in
    sym (with_other (with_node held n) k i ne_k ∙ with_other held n i ne_n) ∙ x i (without_within w n i (without_within (without_node w n) k i t))

one_more_held : (h : Nodes) (n : ℕ) → Within h (with_node h n)
one_more_held h n i t = by (cases_eq n i)
  where
    by : (n ≡ i) ⊎ (n ≡ i → ⊥) → holds (with_node h n) i ≡ true
    by (inr ne) = with_other h n i ne ∙ t
    by (inl e) = subst (λ j. holds (with_node h n) j ≡ true) e (with_itself h n (low h n (ap (holds h) e ∙ t)))

locked_more : (place : Place) (held : Nodes) → Within held (locked place held)
locked_more (P.Node n v) held = one_more_held held n
locked_more (P.Child n p v) held = one_more_held held n
locked_more (P.Pair n k p a b) held = within_trans held (with_node held n) (with_node (with_node held n) k) (one_more_held held n) (one_more_held (with_node held n) k)

map_within : (place : Place) (o : Option Nodes) (held h : Nodes) → ((w : Nodes) → o ≡ Some w → Within w (locked place held)) → option_map (unlocked place) o ≡ Some h → Within h held
map_within place None held h x e = cc
map_within place (Some w) held h x e = let n : unlocked place w ≡ h = cc in subst (λ z. Within z held) n (free_within place w held (x w refl))

loop_within : (b : Bool) (o : Option Nodes) (hs : List Nodes) (held h : Nodes) → behind_loop b o hs held ≡ Some h → Within h held
loop_within b o hs held h e = by (both_of (if b || is_some o then Some held else None) (all_of hs)) e
  where
    by : (q : Option Nodes) → option_map (λ g. both g held) q ≡ Some h → Within h held
    by None f = cc
    by (Some g) f = let n : both g held ≡ h = cc in subst (λ z. Within z held) n (within_right g held)

handled_within : (held : Nodes) (o : Option Nodes) → Within (handled_by held o) held
handled_within held None = within_self held
handled_within held (Some g) = within_right g held

pub after_within : (a : Statement) (held h : Nodes) → after a held ≡ Some h → Within h held
after_within S.Skip held h e = let n : held ≡ h = cc in subst (λ z. Within z held) n (within_self held)
after_within (S.Sequence' p a q b) held h e = by (after a held) refl e (after_within a held) (after_within b)
  where
    by : (o : Option Nodes) → after a held ≡ o → next o (after b) ≡ Some h → ((g : Nodes) → after a held ≡ Some g → Within g held) → ((g k : Nodes) → after b g ≡ Some k → Within k g) → Within h held
    by None is f x y = cc
    by (Some g) is f x y = within_trans h g held (y g h f) (x g is)
after_within (S.Assign v n) held h e = let n : held ≡ h = cc in subst (λ z. Within z held) n (within_self held)
after_within (S.Write n f v) held h e = let n : held ≡ h = cc in subst (λ z. Within z held) n (within_self held)
after_within (S.Emit v) held h e = let n : held ≡ h = cc in subst (λ z. Within z held) n (within_self held)
after_within (S.Free n) held h e = let m : without_node held n ≡ h = cc in subst (λ z. Within z held) m (without_within held n)
after_within (S.Descend n v) held h e = let n : held ≡ h = cc in subst (λ z. Within z held) n (within_self held)
after_within (S.Take n k) held h e = let m : without_node held k ≡ h = cc in subst (λ z. Within z held) m (without_within held k)
after_within S.Break held h e = cc
after_within S.Return held h e = cc
after_within S.Fail held h e = cc
after_within (S.If' c p a q b) held h e = either_within (after a held) (after b held) held h (after_within a held) (after_within b held) e
after_within (S.Let' v n p a) held h e = after_within a held h e
after_within (S.LetElse' v n p a q o) held h e = either_within (after a held) (after o held) held h (after_within a held) (after_within o held) e
after_within (S.Lock' place p a q o) held h e =
    map_within place (both_of (after a (locked place held)) (after o held)) held h
    (λ w f. either_within (after a (locked place held)) (after o held) (locked place held) w (after_within a (locked place held)) (λ g i. within_trans g held (locked place held) (after_within o held g i) (locked_more place held)) f) e
after_within (S.Try' p a q b) held h e =
    either_within (after a held) (after b (handled_by held (all_of (fails a held)))) held h (after_within a held)
    (λ g i. within_trans g (handled_by held (all_of (fails a held))) held (after_within b (handled_by held (all_of (fails a held))) g i) (handled_within held (all_of (fails a held)))) e
after_within (S.Repeat' w p a) held h e = loop_within false (after a held) (breaks a held) held h e
after_within (S.RepeatUpTo' n w p a) held h e = loop_within true (after a held) (breaks a held) held h e
after_within (S.At' offset p a) held h e = after_within a held h e

-- ---- procedures

nothing_within : (h : Nodes) → length h ≡ NODE_REGISTERS → Within h none_held → h ≡ none_held
nothing_within h size x = all_held h none_held (size ∙ sym (length-replicate NODE_REGISTERS false)) each
  where
    empty : (i : ℕ) → holds none_held i ≡ false
    empty i = by (cases_lt i NODE_REGISTERS)
      where
        by : (i < NODE_REGISTERS) ⊎ (NODE_REGISTERS ≤ i) → holds none_held i ≡ false
        by (inl lt) = get_or-replicate NODE_REGISTERS i false false lt
        by (inr le) = holds_past none_held i (let s = length-replicate NODE_REGISTERS false in omega (arith, s, le))

    each : (i : ℕ) → holds h i ≡ holds none_held i
    each i = by (holds h i) refl
      where
        by : (b : Bool) → holds h i ≡ b → holds h i ≡ holds none_held i
        by false e = e ∙ sym (empty i)
        by true e = absurd (let f = x i e in let g = empty i in cc)

abbrev pub site_of : ℕ → Site
site_of arity = record { values = arity; nodes = 0; pad = λ held. 1; exit = None }

return_is_fine : Allows I.Return (marks none_held true)
return_is_fine = record { held = λ n e. cc; empty = λ n e. cc; is_open = λ e. cc; returns = λ e n. empty n (cases_lt n NODE_REGISTERS) }
  where
    empty : (i : ℕ) → (i < NODE_REGISTERS) ⊎ (NODE_REGISTERS ≤ i) → holds none_held i ≡ false
    empty i (inl lt) = get_or-replicate NODE_REGISTERS i false false lt
    empty i (inr le) = holds_past none_held i (let s = length-replicate NODE_REGISTERS false in omega (arith, s, le))

last_list : List (Option Marks)
last_list = Some (marks none_held true) ∷ []

last_marked : Marked (I.Return ∷ []) (Some (marks none_held true) ∷ []) [] []
last_marked = live (inr refl) (record { allows = return_is_fine; next = λ g. cc; aside = λ t e. cc }) none

last_brings : (e : Bool) → Brings (Some (marks none_held true) ∷ []) 1 (marks none_held e)
last_brings e = record { there = marks none_held true; at = refl; held = refl; is_open = λ t. cc }

is_none_some : {A : Type 0} (x : A) → ◌≡◌ {A = Option A} None (Some x) → ⊥
is_none_some x e = cc

body_begins : (p : Procedure) → IsInOrder p → Begins (procedure_code p.arity p.body) (I.Return ∷ []) (Some (marks none_held true) ∷ []) (marks none_held false)
body_begins p f =
    let arity = p.arity in
    let body = p.body in
    let size : length none_held ≡ NODE_REGISTERS = length-replicate NODE_REGISTERS false in
    statement_marked body none_held false (site_of arity) (I.Return ∷ []) (Some (marks none_held true) ∷ []) refl
    (record { sized = size; sound = f.sound; enters = enters_once body nothing_before f.enters; slots = f.slots; turns = f.turns; depth = f.depth; exits = λ exit is. absurd (is_none_some exit is) })
    (record {
      after = λ h g i j.
          let n = nothing_within h ((sizes body none_held size).after h i) (after_within body none_held h i) in
          subst (λ z. Brings (Some (marks none_held true) ∷ []) 1 (marks z g)) (sym n) (last_brings g);
      fails = λ h g i j. absurd (subst (IsIn h) f.handled i);
      breaks = λ h g exit i j is. absurd (is_none_some exit is);
    })

-- the first instruction has the marks of a call's start
first_is : (x : Option Marks) (ms : List (Option Marks)) → at_label (x ∷ ms) (suc (length ms)) ≡ Some x
first_is x ms = ap (λ b. if b then Some x else at_label ms (suc (length ms))) (eq-eqb (suc (length ms)) (suc (length ms)) refl)

-- marks with `first` open can be used where it is spent
opener : (ms : List (Option Marks)) (l : ℕ) (m : Marks) → m.held ≡ entry.held → Brings ms l m → Brings ms l entry
opener ms l m held b = record { there = b.there; at = b.at; held = b.held ∙ held; is_open = λ e. refl }

after_held : (i : Instr) (m k : Marks) → m.held ≡ k.held → (marks_after i m).held ≡ (marks_after i k).held
after_held (I.First n v l) m k e = ap (λ h. slice_set h n true) e
after_held (I.Child n p v l) m k e = ap (λ h. slice_set h n true) e
after_held (I.Move n from) m k e = ap (λ h. slice_set (slice_set h from false) n true) e
after_held (I.Release n) m k e = ap (λ h. slice_set h n false) e
after_held (I.Set to number) m k e = e
after_held (I.Copy to from) m k e = e
after_held (I.Add to left right otherwise) m k e = e
after_held (I.Subtract to left right otherwise) m k e = e
after_held (I.Multiply to left right otherwise) m k e = e
after_held (I.Divide to left right otherwise) m k e = e
after_held (I.Jump to) m k e = e
after_held (I.JumpIfLess left right to) m k e = e
after_held (I.JumpIfEqual left right to) m k e = e
after_held (I.Repeat count) m k e = e
after_held (I.RepeatBy turns count) m k e = e
after_held I.End m k e = e
after_held (I.Get to node field) m k e = e
after_held (I.Put node field from) m k e = e
after_held (I.Kids to node) m k e = e
after_held (I.Emit from) m k e = e
after_held I.Return m k e = e

after_open : (i : Instr) (m : Marks) → (marks_after i m).is_open ≡ true → (marks_after i entry).is_open ≡ true
after_open (I.First n v l) m e = e
after_open (I.Child n p v l) m e = refl
after_open (I.Move n from) m e = refl
after_open (I.Release n) m e = refl
after_open (I.Set to number) m e = refl
after_open (I.Copy to from) m e = refl
after_open (I.Add to left right otherwise) m e = refl
after_open (I.Subtract to left right otherwise) m e = refl
after_open (I.Multiply to left right otherwise) m e = refl
after_open (I.Divide to left right otherwise) m e = refl
after_open (I.Jump to) m e = refl
after_open (I.JumpIfLess left right to) m e = refl
after_open (I.JumpIfEqual left right to) m e = refl
after_open (I.Repeat count) m e = refl
after_open (I.RepeatBy turns count) m e = refl
after_open I.End m e = refl
after_open (I.Get to node field) m e = refl
after_open (I.Put node field from) m e = refl
after_open (I.Kids to node) m e = refl
after_open (I.Emit from) m e = refl
after_open I.Return m e = refl

opened : (i : Instr) (m : Marks) (ns : List (Option Marks)) → m.held ≡ entry.held → Passes i m ns → Passes i entry ns
opened i m ns held p =
    let a = p.allows in
    record {
      allows = record {
        held = λ n e. sym (ap (λ h. get_or h n false) held) ∙ a.held n e;
        empty = λ n e. sym (ap (λ h. get_or h n false) held) ∙ a.empty n e;
        is_open = λ e. refl;
        returns = λ e n. sym (ap (λ h. get_or h n false) held) ∙ a.returns e n;
      };
      next = λ g. let b = p.next g in record { there = b.there; at = b.at; held = b.held ∙ after_held i m entry held; is_open = λ e. after_open i m (b.is_open e) };
      aside = λ t e. let x = p.aside t e in (x.0, x.1, opener ns x.0 m held x.2);
    }

opened_first : (c : List Instr) (ms : List (Option Marks)) → Marked c ms [] [] → 0 < length c → Brings ms (length ms) entry → (ls : List (Option Marks)) × Marked c ls [] [] × (at_label ls (length ls) ≡ Some (Some entry))
opened_first c ms none some b = absurd (omega arith)
opened_first c ms (dead {ms = ns} n) some b = absurd (let e = sym (first_is None ns) ∙ b.at in is_none_some b.there (some_same e))
  where
    some_same : {A : Type 0} {x y : A} → Some x ≡ Some y → x ≡ y
    some_same e = cc
opened_first c ms (live {i = i} {ms = ns} {m = m} s passes n) some b =
    let same : Some (Some m) ≡ Some (Some b.there) = sym (first_is (Some m) ns) ∙ b.at in
    let is_m : m ≡ b.there = cc in
    let held : m.held ≡ entry.held = ap (λ (x : Marks). x.held) is_m ∙ b.held in (
      Some entry ∷ ns,
      live s (opened i m ns held passes) n,
      first_is (Some entry) ns,
    )
opened_first c ms (turn {i = i} {mb = mb} {mj = mj} {m = m} o nests body into past ends n) some b =
    let same : Some (Some m) ≡ Some (Some b.there) = sym (first_is (Some m) mb) ∙ b.at in
    let is_m : m ≡ b.there = cc in
    let held : m.held ≡ entry.held = ap (λ (x : Marks). x.held) is_m ∙ b.held in (
      Some entry ∷ mb,
      turn o nests body (opener mb (length mb) m held into) (λ t. opener mj (length mj) m held (past t)) ends n,
      first_is (Some entry) mb,
    )

-- the code of a well-formed procedure is safe
pub procedure_safe : (p : Procedure) → IsInOrder p → length (procedure_code p.arity p.body) ≤ 65535 → IsSafe (at_positions (procedure_code p.arity p.body))
procedure_safe p f short =
    let b = body_begins p f in
    let marked = marked_further b.marked last_marked in
    let o = opened_first (procedure_code p.arity p.body) b.marks marked (longer b.marked) b.begins in
    let orderly = procedure_orderly p.arity p.body f.depth f.turns short in
    record {
      nested = orderly.nested;
      ahead = (orderly.targets).ahead;
      inside = (orderly.targets).inside;
      into_none = (orderly.targets).into_none;
      registers = marked_fits (procedure_code p.arity p.body) o.0 short o.1 o.2;
    }
  where
    longer : {ms : List (Option Marks)} → Marked (procedure_code p.arity p.body) ms (I.Return ∷ []) (Some (marks none_held true) ∷ []) → 0 < length (procedure_code p.arity p.body)
    longer m = let t = marked_tail m in let le = tail_length t in omega (arith, le)

-- safe code within the limits is accepted
pub accepted : (code : List Instr) → IsSafe code → budget code ≤ MAX_STEPS → lock_bound code ≤ MAX_LOCKS → emit_bound code ≤ MAX_EMITS → Acceptable code
accepted code s steps locks emits = record {
  matched = (s.nested).matched;
  deep = (s.nested).shallow;
  ahead = s.ahead;
  inside = s.inside;
  into_none = s.into_none;
  steps = steps;
  locks = locks;
  emits = emits;
  registers = s.registers;
}

-- safe code is refused only for its sums
pub only_sums : (code : List Instr) (f : VerifyFault) → IsSafe code → IsFirstFault code f → (f ≡ fault.Nest nest.StepsOver) ⊎ ((f ≡ fault.Nest nest.LocksOver) ⊎ (f ≡ fault.Nest nest.EmitsOver))
only_sums code f s h = by h.finding h.arises h.fault
  where
    fits : (g : Finding) → pass g ≡ 3 → Arises code g → ⊥
    fits g e a = fit_finds_nothing code s.into_none s.registers g e a

    by : (g : Finding) → Arises code g → f ≡ fault_of g → (f ≡ fault.Nest nest.StepsOver) ⊎ ((f ≡ fault.Nest nest.LocksOver) ⊎ (f ≡ fault.Nest nest.EmitsOver))
    by (OfLoops g) a e = absurd (loops_nothing_found code s.nested g a)
    by (TargetBack p) a e = absurd (let t = s.ahead p a.1 a.0 a.2 a.3 in let k = a.4 in omega (arith, t, k))
    by (TargetPastEnd p) a e = absurd (let t = s.inside p a.1 a.0 a.2 a.3 in let k = a.4 in omega (arith, t, k))
    by (TargetInLoop p) (i, l, o, k, at, is, into, out) e = absurd (out (s.into_none p l i at is o k into))
    by (Joined p) a e = absurd (fits (Joined p) refl a)
    by (Spent p) a e = absurd (fits (Spent p) refl a)
    by (Missing p n) a e = absurd (fits (Missing p n) refl a)
    by (Taken p n) a e = absurd (fits (Taken p n) refl a)
    by (LeftHeld p n) a e = absurd (fits (LeftHeld p n) refl a)
    by (Changed p) a e = absurd (fits (Changed p) refl a)
    by (NextPastEnd p) a e = absurd (fits (NextPastEnd p) refl a)
    by Steps a e = inl e
    by Locks a e = inr (inl e)
    by Emits a e = inr (inr e)

-- so its only other fault is lack of memory
pub for_sums : (code : List Instr) (f : VerifyFault) → IsSafe code → (f ≢ fault.Memory → IsFirstFault code f) → IsVerifierFault f compile.Memory
for_sums code fault.Memory s h = refl
for_sums code f s h = by (only_sums code f s (h (λ e. cc)))
  where
    by : (f ≡ fault.Nest nest.StepsOver) ⊎ ((f ≡ fault.Nest nest.LocksOver) ⊎ (f ≡ fault.Nest nest.EmitsOver)) → IsVerifierFault f compile.Memory
    by (inl e) = subst (λ g. IsVerifierFault g compile.Memory) (sym e) tt
    by (inr (inl e)) = subst (λ g. IsVerifierFault g compile.Memory) (sym e) tt
    by (inr (inr e)) = subst (λ g. IsVerifierFault g compile.Memory) (sym e) tt
