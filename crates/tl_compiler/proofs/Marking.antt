-- The marks of pieces of code: numbers, conditions, frees, places.
use Rattle.std.proofs.Common.{◌≡◌, ◌≢◌, ◌⊎◌, inl, inr, ℕ, zero, suc, ◌<◌, ◌≤◌, List, [], ◌∷◌, length, Bool, true, false, not, ◌&&◌, ◌||◌, Option, Some, None, if◌then◌else◌, refl, sym, ◌∙◌, ap, ap₂, subst, arith}
use Rattle.std.proofs.lemmas.Bool.{cases_eq, cases_order}
use Rattle.std.proofs.lemmas.List.{length-set, get_or-set_same, get_or-set_other}
use Rattle.tl_instr.specs.declared.operand.TheConstants.{NODE_REGISTERS}
use Rattle.tl_instr.specs.declared.instr.Instr.{Instr}
use Rattle.tl_instr.specs.declared.instr.Instr.TheVariants as I
use Rattle.tl_instr.specs.Instructions.{target}
use Rattle.tl_budget.specs.Loops.{Acts, kind}
use Rattle.tl_verify.specs.declared.marks.Marks.{Marks}
use Rattle.tl_verify.specs.Marks.{is_held, after}
use Rattle.tl_verify.specs.Acceptable.{Allows}
use Rattle.tl_lowering.specs.declared.program.Expression.{Expression}
use Rattle.tl_lowering.specs.declared.program.Condition.{Condition}
use Rattle.tl_lowering.specs.declared.program.Condition.TheVariants as C
use Rattle.tl_lowering.specs.declared.program.Place.{Place}
use Rattle.tl_lowering.specs.declared.program.Place.TheVariants as P
use Rattle.tl_lowering.specs.Sets.{Nodes, holds, both, minus, with_node, without_node}
use Rattle.tl_lowering.specs.Fit.{HasSlots}
use Rattle.tl_lowering.specs.Passing.{enters}
use Rattle.tl_lowering.specs.Sound.{IsReadable, IsTestable, IsLockable}
use Rattle.tl_lowering.specs.Outcomes.{may_fail, condition_may_fail, locked}
use Rattle.tl_compiler.specs.Labels.{target_of}
use Rattle.tl_compiler.specs.Numbers.{register_of, behind, into_code, operand_code, operands_code, jump_code, comparison_code, branch_code}
use Rattle.tl_compiler.specs.Statements.{release_below, release_code, joining_code, in_order_code, pair_code, place_code}
use Rattle.tl_compiler.proofs.SetLemmas.{Within, all_held, holds_both, holds_minus, length_both, both_within}
use Rattle.tl_compiler.proofs.Markings.{marks, Brings, first_brings, Marked, none, dead, live, marked_long, Begins, begins_further, one_more, free_of_nodes, reads, to_label, nowhere, stays_there, FailsTo, into_marked, operand_by}

-- ---- the record of what is begun

begun_here : (k : List Instr) (ns : List (Option Marks)) (m : Marks) → Brings ns (length ns) m → Begins k k ns m
begun_here k ns m b = record { marks = ns; marked = none; begins = b }

-- if there are as many marks as instructions, a piece begins at the label in front of it
pub begins_label : {c k : List Instr} {ns : List (Option Marks)} {m : Marks} → length ns ≡ length k → (b : Begins c k ns m) → Brings b.marks (length c) m
begins_label {c} {k} {ns} {m} size b = subst (λ n. Brings b.marks n m) (marked_long b.marked size) b.begins

pub at_end : {n : ℕ} {ns : List (Option Marks)} {m : Marks} → length ns ≡ n → Brings ns n m → Brings ns (length ns) m
at_end {n} {ns} {m} size b = subst (λ l. Brings ns l m) (sym size) b

-- ---- numbers

pub number_marked : (e : Expression) (x t f : ℕ) (k : List Instr) (ns : List (Option Marks)) (m : Marks) (d : ℕ) → IsReadable d m.held e → Brings ns (length ns) m → FailsTo (may_fail e) ns f m → Begins (into_code e x t f k) k ns m
number_marked e x t f k ns m d r on fail = into_marked e x t f k ns m d r on fail

pub operand_marked : (e : Expression) (t f : ℕ) (k : List Instr) (ns : List (Option Marks)) (m : Marks) (d : ℕ) → IsReadable d m.held e → Brings ns (length ns) m → FailsTo (may_fail e) ns f m → Begins (operand_code e t f k) k ns m
operand_marked e t f k ns m d r on fail = operand_by e (into_marked e) t f k ns m d r on fail

pub operands_marked : (a b : Expression) (t f : ℕ) (k : List Instr) (ns : List (Option Marks)) (m : Marks) (d : ℕ) → IsReadable d m.held a → IsReadable d m.held b → Brings ns (length ns) m → FailsTo (may_fail a || may_fail b) ns f m
    → Begins (operands_code a b t f k) k ns m
operands_marked a b t f k ns m d ra rb on fail =
    let second = operand_marked b (behind a t) f k ns m d rb on (λ e. fail (right_of (may_fail a) e)) in
    begins_further second (operand_marked a t f (operand_code b (behind a t) f k) second.marks m d ra second.begins (λ e. stays_there second.marked (fail (left_of (may_fail b) e))))
  where
    right_of : (x : Bool) {y : Bool} → y ≡ true → (x || y) ≡ true
    right_of true e = refl
    right_of false e = e

    left_of : {x : Bool} (y : Bool) → x ≡ true → (x || y) ≡ true
    left_of y e = ap (λ z. z || y) e

-- ---- conditions

-- a jump
pub jump_marked : (l : ℕ) (k : List Instr) (ns : List (Option Marks)) (m : Marks) → Brings ns l m → Begins (I.Jump (target_of l) ∷ k) k ns m
jump_marked l k ns m b =
    let i = I.Jump (target_of l) in
    record {
      marks = Some m ∷ ns;
      marked = live (inl refl) (record { allows = free_of_nodes i m refl refl refl refl; next = λ g. cc; aside = to_label i ns m l refl b }) none;
      begins = first_brings m ns;
    }

-- an instruction that jumps to a label if a test of two registers is true
record IsTest (i : ℕ → Instr) : Type 0 where
  is_target : (l : ℕ) → target (i l) ≡ Some l
  is_kind : (l : ℕ) → kind (i l) ≡ Acts
  allows : (l : ℕ) (m : Marks) → Allows (i l) m
  same : (l : ℕ) (m : Marks) → after (i l) m ≡ m

test_marked : (i : ℕ → Instr) → IsTest i → (sense : Bool) (label : ℕ) (k : List Instr) (ns : List (Option Marks)) (m : Marks) → length ns ≡ length k → Brings ns label m → Brings ns (length k) m → Begins (jump_code i sense label k) k ns m
test_marked i t true label k ns m size to on =
    one_more (i (target_of label)) k ns m (inl (t.is_kind (target_of label))) (t.allows (target_of label) m) (t.same (target_of label) m) (at_end size on) (to_label (i (target_of label)) ns m label (t.is_target (target_of label)) to)
test_marked i t false label k ns m size to on =
    let j = jump_marked label k ns m to in
    begins_further j (one_more (i (target_of (length k))) (I.Jump (target_of label) ∷ k) j.marks m (inl (t.is_kind (target_of (length k)))) (t.allows (target_of (length k)) m) (t.same (target_of (length k)) m) j.begins
    (to_label (i (target_of (length k))) j.marks m (length k) (t.is_target (target_of (length k))) (stays_there j.marked on)))

comparison_marked : (i : ℕ → ℕ → ℕ → Instr) → ((x y : ℕ) → IsTest (i x y)) → (a b : Expression) (sense : Bool) (label t f : ℕ) (k : List Instr) (ns : List (Option Marks)) (m : Marks) (d : ℕ) → length ns ≡ length k
    → IsReadable d m.held a → IsReadable d m.held b → Brings ns label m → Brings ns (length k) m → FailsTo (may_fail a || may_fail b) ns f m → Begins (comparison_code i a b sense label t f k) k ns m
comparison_marked i ts a b sense label t f k ns m d size ra rb to on fail =
    let x = register_of a t in
    let y = register_of b (behind a t) in
    let j = test_marked (i x y) (ts x y) sense label k ns m size to on in
    begins_further j (operands_marked a b t f (jump_code (i x y) sense label k) j.marks m d ra rb j.begins (λ e. stays_there j.marked (fail e)))

less : (x y : ℕ) → IsTest (λ l. I.JumpIfLess x y l)
less x y = record { is_target = λ l. refl; is_kind = λ l. refl; allows = λ l m. free_of_nodes (I.JumpIfLess x y l) m refl refl refl refl; same = λ l m. refl }

greater : (x y : ℕ) → IsTest (λ l. I.JumpIfLess y x l)
greater x y = record { is_target = λ l. refl; is_kind = λ l. refl; allows = λ l m. free_of_nodes (I.JumpIfLess y x l) m refl refl refl refl; same = λ l m. refl }

equal : (x y : ℕ) → IsTest (λ l. I.JumpIfEqual x y l)
equal x y = record { is_target = λ l. refl; is_kind = λ l. refl; allows = λ l m. free_of_nodes (I.JumpIfEqual x y l) m refl refl refl refl; same = λ l m. refl }

or_right : (x : Bool) {y : Bool} → y ≡ true → (x || y) ≡ true
or_right true e = refl
or_right false e = e

or_left : {x : Bool} (y : Bool) → x ≡ true → (x || y) ≡ true
or_left y e = ap (λ z. z || y) e

pub branch_marked : (c : Condition) (sense : Bool) (label t f : ℕ) (k : List Instr) (ns : List (Option Marks)) (m : Marks) (d : ℕ) → length ns ≡ length k → IsTestable d m.held c → Brings ns label m → Brings ns (length k) m
    → FailsTo (condition_may_fail c) ns f m → Begins (branch_code c sense label t f k) k ns m
branch_marked (C.Less a b) sense label t f k ns m d size r to on fail = comparison_marked (λ x y l. I.JumpIfLess x y l) less a b sense label t f k ns m d size r.0 r.1 to on fail
branch_marked (C.Greater a b) sense label t f k ns m d size r to on fail = comparison_marked (λ x y l. I.JumpIfLess y x l) greater a b sense label t f k ns m d size r.0 r.1 to on fail
branch_marked (C.Equal a b) sense label t f k ns m d size r to on fail = comparison_marked (λ x y l. I.JumpIfEqual x y l) equal a b sense label t f k ns m d size r.0 r.1 to on fail
branch_marked (C.Not' p c) sense label t f k ns m d size r to on fail = branch_marked c (not sense) label t f k ns m d size r to on fail
branch_marked (C.And' p c q e) sense label t f k ns m d size r to on fail =
    let second = branch_marked e sense label t f k ns m d size r.1 to on (λ x. fail (or_right (condition_may_fail c) x)) in
    let behind_c = branch_code e sense label t f k in
    begins_further second (branch_marked c false (if sense then length k else label) t f behind_c second.marks m d (marked_long second.marked size) r.0 (stays_there second.marked (out sense)) (begins_label size second)
    (λ x. stays_there second.marked (fail (or_left (condition_may_fail e) x))))
  where
    out : (s : Bool) → Brings ns (if s then length k else label) m
    out true = on
    out false = to

-- ---- frees

-- what is held after the registers of a set that are below n are freed
abbrev pub cleared : ℕ → Nodes → Nodes → Nodes
cleared zero set held = held
cleared (suc n) set held = cleared n set (if holds set n then without_node held n else held)

pub release_marked : (n : ℕ) (set held : Nodes) (e : Bool) (k : List Instr) (ns : List (Option Marks)) → length ns ≡ length k → ((i : ℕ) → i < n → holds set i ≡ true → holds held i ≡ true) → Brings ns (length k) (marks (cleared n set held) e)
    → Begins (release_below n set k) k ns (marks held e)
release_marked zero set held e k ns size has on = begun_here k ns (marks held e) (at_end size on)
release_marked (suc n) set held e k ns size has on = by (holds set n) refl on (λ h x b. release_marked n set h e k ns size x b)
  where
    by : (b : Bool) → holds set n ≡ b → Brings ns (length k) (marks (cleared n set (if b then without_node held n else held)) e)
        → ((h : Nodes) → ((i : ℕ) → i < n → holds set i ≡ true → holds h i ≡ true) → Brings ns (length k) (marks (cleared n set h) e) → Begins (release_below n set k) k ns (marks h e))
        → Begins (if b then I.Release n ∷ release_below n set k else release_below n set k) k ns (marks held e)
    by false f on' rest = rest held (λ i lt h. has i (omega arith) h) on'
    by true f on' rest =
        let r = rest (without_node held n) (λ i lt h. get_or-set_other held n i false false (λ same. absurd (omega (arith, same, lt))) ∙ has i (omega arith) h) on' in
        let i = I.Release n in
        begins_further r (record {
          marks = Some (marks held e) ∷ r.marks;
          marked = live (inl refl) (record {
            allows = reads i (marks held e) n refl (has n (omega arith) f) refl refl refl;
            next = λ g. r.begins;
            aside = nowhere i r.marks (marks held e) refl;
          }) none;
          begins = first_brings (marks held e) r.marks;
        })

pub holds_past : (h : Nodes) (i : ℕ) → length h ≤ i → holds h i ≡ false
holds_past [] i le = refl
holds_past (b ∷ h) zero le = absurd (omega arith)
holds_past (b ∷ h) (suc i) le = holds_past h i (omega arith)

past_end : (h : Nodes) (m i : ℕ) → i ≡ m → length h ≤ m → holds (without_node h m) i ≡ false
past_end h m i same le = let size = length-set h m false in holds_past (without_node h m) i (omega (arith, size, same, le))

-- the same, register by register
pub holds_cleared : (n : ℕ) (set held : Nodes) (i : ℕ) → (i < n → holds set i ≡ false) → holds (cleared n set held) i ≡ holds held i
holds_cleared zero set held i other = refl
holds_cleared (suc n) set held i other = by (holds set n) refl (λ h. holds_cleared n set h i (λ lt. other (omega arith)))
  where
    by : (b : Bool) → holds set n ≡ b → ((h : Nodes) → holds (cleared n set h) i ≡ holds h i) → holds (cleared n set (if b then without_node held n else held)) i ≡ holds held i
    by false f rest = rest held
    by true f rest = rest (without_node held n) ∙ get_or-set_other held n i false false (λ same. absurd (let h = other (omega (arith, same)) in let g = ap (holds set) same in cc))

pub freed_cleared : (n : ℕ) (set held : Nodes) (i : ℕ) → i < n → holds set i ≡ true → holds (cleared n set held) i ≡ false
freed_cleared zero set held i lt is = absurd (omega arith)
freed_cleared (suc n) set held i lt is = by (cases_eq i n) (λ less h. freed_cleared n set h i less is)
  where
    stays_freed : (m : ℕ) (h : Nodes) → holds h i ≡ false → holds (cleared m set h) i ≡ false
    stays_freed zero h f = f
    stays_freed (suc m) h f = stays_freed m (if holds set m then without_node h m else h) (one (holds set m))
      where
        one : (b : Bool) → holds (if b then without_node h m else h) i ≡ false
        one false = f
        one true = other (cases_eq i m)
          where
            other : (i ≡ m) ⊎ (i ≡ m → ⊥) → holds (without_node h m) i ≡ false
            other (inl same) = inside (cases_order m (length h))
              where
                inside : (m ≡ length h) ⊎ ((m < length h) ⊎ (length h < m)) → holds (without_node h m) i ≡ false
                inside (inr (inl lt)) = ap (holds (without_node h m)) same ∙ get_or-set_same h m false false lt
                inside (inl e) = past_end h m i same (omega (arith, e))
                inside (inr (inr lt)) = past_end h m i same (omega arith)
            other (inr ne) = get_or-set_other h m i false false ne ∙ f

    by : (i ≡ n) ⊎ (i ≡ n → ⊥) → (i < n → (h : Nodes) → holds (cleared n set h) i ≡ false) → holds (cleared n set (if holds set n then without_node held n else held)) i ≡ false
    by (inl same) rest =
        let here : holds set n ≡ true = ap (holds set) (sym same) ∙ is in
        ap (λ b. holds (cleared n set (if b then without_node held n else held)) i) here ∙ stays_freed n (without_node held n) (gone (cases_order n (length held)))
      where
        gone : (n ≡ length held) ⊎ ((n < length held) ⊎ (length held < n)) → holds (without_node held n) i ≡ false
        gone (inr (inl less)) = ap (holds (without_node held n)) same ∙ get_or-set_same held n false false less
        gone (inl e) = past_end held n i same (omega (arith, e))
        gone (inr (inr less)) = past_end held n i same (omega arith)
    by (inr ne) rest = rest (omega (arith, lt, ne)) (if holds set n then without_node held n else held)

true_or_false : (b : Bool) → (b ≡ true) ⊎ (b ≡ false)
true_or_false true = inl refl
true_or_false false = inr refl

cleared_size : (n : ℕ) (set held : Nodes) → length (cleared n set held) ≡ length held
cleared_size zero set held = refl
cleared_size (suc n) set held = cleared_size n set (if holds set n then without_node held n else held) ∙ by (holds set n)
  where
    by : (b : Bool) → length (if b then without_node held n else held) ≡ length held
    by true = length-set held n false
    by false = refl

-- everything that isn't kept is freed
pub cleared_both : (held kept : Nodes) → length held ≡ NODE_REGISTERS → length kept ≡ NODE_REGISTERS → cleared NODE_REGISTERS (minus held kept) held ≡ both held kept
cleared_both held kept size also =
    all_held (cleared NODE_REGISTERS (minus held kept) held) (both held kept) (cleared_size NODE_REGISTERS (minus held kept) held ∙ size ∙ sym (length_both held kept NODE_REGISTERS size also)) each
  where
    said : (i : ℕ) → holds (minus held kept) i ≡ holds held i && not (holds kept i)
    said i = holds_minus held kept i (size ∙ sym also)

    each : (i : ℕ) → holds (cleared NODE_REGISTERS (minus held kept) held) i ≡ holds (both held kept) i
    each i = by (holds held i) refl (holds kept i) refl
      where
        known : (a b : Bool) → holds held i ≡ a → holds kept i ≡ b → (holds (minus held kept) i ≡ a && not b) × (holds (both held kept) i ≡ a && b)
        known a b e f = (said i ∙ ap₂ (λ x y. x && not y) e f, holds_both held kept i ∙ ap₂ (λ x y. x && y) e f)

        below : holds held i ≡ true → i < NODE_REGISTERS
        below e = past (cases_order i NODE_REGISTERS)
          where
            past : (i ≡ NODE_REGISTERS) ⊎ ((i < NODE_REGISTERS) ⊎ (NODE_REGISTERS < i)) → i < NODE_REGISTERS
            past (inl same) = absurd (let h = holds_past held i (omega (arith, same, size)) in cc)
            past (inr (inl lt)) = lt
            past (inr (inr lt)) = absurd (let h = holds_past held i (omega (arith, lt, size)) in cc)

        by : (a : Bool) → holds held i ≡ a → (b : Bool) → holds kept i ≡ b → holds (cleared NODE_REGISTERS (minus held kept) held) i ≡ holds (both held kept) i
        by true e false f = let k = known true false e f in freed_cleared NODE_REGISTERS (minus held kept) held i (below e) k.0 ∙ sym k.1
        by true e true f = let k = known true true e f in holds_cleared NODE_REGISTERS (minus held kept) held i (λ lt. k.0) ∙ e ∙ sym k.1
        by false e false f = let k = known false false e f in holds_cleared NODE_REGISTERS (minus held kept) held i (λ lt. k.0) ∙ e ∙ sym k.1
        by false e true f = let k = known false true e f in holds_cleared NODE_REGISTERS (minus held kept) held i (λ lt. k.0) ∙ e ∙ sym k.1

-- a register in the difference is in the first set
minus_within : (held kept : Nodes) → length held ≡ length kept → (i : ℕ) → holds (minus held kept) i ≡ true → holds held i ≡ true
minus_within held kept size i e = by (holds held i) refl
  where
    by : (a : Bool) → holds held i ≡ a → holds held i ≡ true
    by true f = f
    by false f = absurd (let h = holds_minus held kept i size in let g = ap (λ x. x && not (holds kept i)) f in cc)

-- from what is held to the part of it that is kept
pub free_marked : (held kept : Nodes) (e : Bool) (k : List Instr) (ns : List (Option Marks)) → length ns ≡ length k → length held ≡ NODE_REGISTERS → length kept ≡ NODE_REGISTERS → Brings ns (length k) (marks (both held kept) e)
    → Begins (release_code (minus held kept) k) k ns (marks held e)
free_marked held kept e k ns size sized also on =
    release_marked NODE_REGISTERS (minus held kept) held e k ns size (λ i lt. minus_within held kept (sized ∙ sym also) i)
    (subst (λ h. Brings ns (length k) (marks h e)) (sym (cleared_both held kept sized also)) on)

-- ---- behind one of two ways

pub record Joined (c k : List Instr) (ns : List (Option Marks)) (o : Option Nodes) (p : Option Bool) : Type 0 where
  pub list : List (Option Marks)
  pub marked : Marked c list k ns
  pub begins : (h : Nodes) (f : Bool) → o ≡ Some h → p ≡ Some f → Brings list (length list) (marks h f)

-- code that is never reached
pub dead_marked : (n : ℕ) (set : Nodes) (j k : List Instr) (ls ns : List (Option Marks)) → Marked j ls k ns → (ms : List (Option Marks)) × Marked (release_below n set j) ms k ns
dead_marked zero set j k ls ns m = (ls, m)
dead_marked (suc n) set j k ls ns m = by (holds set n) (dead_marked n set j k ls ns m)
  where
    by : (b : Bool) → (ms : List (Option Marks)) × Marked (release_below n set j) ms k ns → (ms : List (Option Marks)) × Marked (if b then I.Release n ∷ release_below n set j else release_below n set j) ms k ns
    by true r = (None ∷ r.0, dead r.1)
    by false r = r

-- where a way leads after which control goes on
pub record Keeps (ns : List (Option Marks)) (h kept : Nodes) (f : Bool) (label : ℕ) : Type 0 where
  pub size : length h ≡ NODE_REGISTERS
  pub size_kept : length kept ≡ NODE_REGISTERS
  pub within : Within kept h
  pub to : Brings ns label (marks kept f)

pub joining_marked : (o : Option Nodes) (p : Option Bool) (kept : Nodes) (jumps : Bool) (done : ℕ) (k : List Instr) (ns : List (Option Marks)) → length ns ≡ length k
    → ((h : Nodes) (f : Bool) → o ≡ Some h → p ≡ Some f → Keeps ns h kept f (if jumps then done else length k)) → Joined (joining_code o kept jumps done k) k ns o p
joining_marked None p kept jumps done k ns size keeps = record { list = ns; marked = none; begins = λ h f e. absurd (let g : ◌≡◌ {A = Option Nodes} None (Some h) = e in cc) }
joining_marked (Some held) None kept false done k ns size keeps =
    let d = dead_marked NODE_REGISTERS (minus held kept) k k ns ns none in
    record { list = d.0; marked = d.1; begins = λ h f e g. absurd (let x : ◌≡◌ {A = Option Bool} None (Some f) = g in cc) }
joining_marked (Some held) None kept true done k ns size keeps =
    let d = dead_marked NODE_REGISTERS (minus held kept) (I.Jump (target_of done) ∷ k) k (None ∷ ns) ns (dead none) in
    record { list = d.0; marked = d.1; begins = λ h f e g. absurd (let x : ◌≡◌ {A = Option Bool} None (Some f) = g in cc) }
joining_marked (Some held) (Some e) kept jumps done k ns size keeps = by jumps (keeps held e refl refl)
  where
    begun : {c : List Instr} → Begins c k ns (marks held e) → Joined c k ns (Some held) (Some e)
    begun b = record {
      list = b.marks;
      marked = b.marked;
      begins = λ h f x y. let same : held ≡ h = cc in let also : e ≡ f = cc in subst (λ z. Brings b.marks (length b.marks) (marks z f)) same (subst (λ z. Brings b.marks (length b.marks) (marks held z)) also b.begins);
    }

    by : (jumps : Bool) → Keeps ns held kept e (if jumps then done else length k) → Joined (joining_code (Some held) kept jumps done k) k ns (Some held) (Some e)
    by false keep = begun (free_marked held kept e k ns size keep.size keep.size_kept (subst (λ z. Brings ns (length k) (marks z e)) (sym (both_within held kept (keep.size ∙ sym keep.size_kept) keep.within)) keep.to))
    by true keep =
        let j = jump_marked done k ns (marks kept e) keep.to in
        let at : Brings j.marks (length (I.Jump (target_of done) ∷ k)) (marks kept e) = begins_label size j in
        begun (begins_further j (free_marked held kept e (I.Jump (target_of done) ∷ k) j.marks (marked_long j.marked size) keep.size keep.size_kept
        (subst (λ z. Brings j.marks (length (I.Jump (target_of done) ∷ k)) (marks z e)) (sym (both_within held kept (keep.size ∙ sym keep.size_kept) keep.within)) at)))

-- ---- places

pub is_open : (e : Bool) → e ≡ false → not e ≡ true
is_open e f = ap not f

or_false : (e : Bool) → (e || false) ≡ e
or_false true = refl
or_false false = refl

or_true : (e : Bool) → (e || true) ≡ true
or_true true = refl
or_true false = refl

child_allows : (n p r l : ℕ) (m : Marks) → is_held m n ≡ false → is_held m p ≡ true → Allows (I.Child n p r l) m
child_allows n p r l m empty parent = record {
  held = λ j x. let same : p ≡ j = cc in subst (λ q. is_held m q ≡ true) same parent;
  empty = λ j x. let same : n ≡ j = cc in subst (λ q. is_held m q ≡ false) same empty;
  is_open = λ x. cc;
  returns = λ x. cc;
}

first_allows : (n r l : ℕ) (m : Marks) → is_held m n ≡ false → m.is_open ≡ true → Allows (I.First n r l) m
first_allows n r l m empty opened = record {
  held = λ j x. cc;
  empty = λ j x. let same : n ≡ j = cc in subst (λ q. is_held m q ≡ false) same empty;
  is_open = λ x. opened;
  returns = λ x. cc;
}

-- an instruction that locks a child
pub child_marked : (n p r f : ℕ) (held : Nodes) (e : Bool) (k : List Instr) (ns : List (Option Marks)) → holds held n ≡ false → holds held p ≡ true → Brings ns (length ns) (marks (with_node held n) e) → Brings ns f (marks held e)
    → Begins (I.Child n p r (target_of f) ∷ k) k ns (marks held e)
child_marked n p r f held e k ns empty parent on fail =
    let i = I.Child n p r (target_of f) in
    record {
      marks = Some (marks held e) ∷ ns;
      marked = live (inl refl) (record { allows = child_allows n p r (target_of f) (marks held e) empty parent; next = λ g. on; aside = to_label i ns (marks held e) f refl fail }) none;
      begins = first_brings (marks held e) ns;
    }

first_marked : (n r f : ℕ) (held : Nodes) (e : Bool) (k : List Instr) (ns : List (Option Marks)) → holds held n ≡ false → e ≡ false → Brings ns (length ns) (marks (with_node held n) true) → Brings ns f (marks held e)
    → Begins (I.First n r (target_of f) ∷ k) k ns (marks held e)
first_marked n r f held e k ns empty opened on fail =
    let i = I.First n r (target_of f) in
    record {
      marks = Some (marks held e) ∷ ns;
      marked = live (inl refl) (record { allows = first_allows n r (target_of f) (marks held e) empty (is_open e opened); next = λ g. on; aside = to_label i ns (marks held e) f refl fail }) none;
      begins = first_brings (marks held e) ns;
    }

pub free_one : (n : ℕ) (held : Nodes) (e : Bool) (k : List Instr) (ns : List (Option Marks)) → holds held n ≡ true → Brings ns (length ns) (marks (without_node held n) e) → Begins (I.Release n ∷ k) k ns (marks held e)
free_one n held e k ns has on =
    let i = I.Release n in
    record {
      marks = Some (marks held e) ∷ ns;
      marked = live (inl refl) (record { allows = reads i (marks held e) n refl has refl refl refl; next = λ g. on; aside = nowhere i ns (marks held e) refl }) none;
      begins = first_brings (marks held e) ns;
    }

pub with_itself : (held : Nodes) (n : ℕ) → n < length held → holds (with_node held n) n ≡ true
with_itself held n lt = get_or-set_same held n true false lt

pub with_other : (held : Nodes) (n i : ℕ) → n ≢ i → holds (with_node held n) i ≡ holds held i
with_other held n i ne = get_or-set_other held n i true false (λ e. ne (sym e))

pub without_other : (held : Nodes) (n i : ℕ) → n ≢ i → holds (without_node held n) i ≡ holds held i
without_other held n i ne = get_or-set_other held n i false false (λ e. ne (sym e))

-- a node that was locked and freed again
pub without_with : (held : Nodes) (n : ℕ) → n < length held → holds held n ≡ false → without_node (with_node held n) n ≡ held
without_with held n lt empty = all_held (without_node (with_node held n) n) held (length-set (with_node held n) n false ∙ length-set held n true) each
  where
    each : (i : ℕ) → holds (without_node (with_node held n) n) i ≡ holds held i
    each i = by (cases_eq i n)
      where
        by : (i ≡ n) ⊎ (i ≡ n → ⊥) → holds (without_node (with_node held n) n) i ≡ holds held i
        by (inl same) = ap (holds (without_node (with_node held n) n)) same ∙ get_or-set_same (with_node held n) n false false (let size = length-set held n true in omega (arith, size, lt)) ∙ sym (ap (holds held) same ∙ empty)
        by (inr ne) = without_other (with_node held n) n i (λ e. ne (sym e)) ∙ with_other held n i (λ e. ne (sym e))

pub with_swap : (held : Nodes) (n k : ℕ) → n ≢ k → with_node (with_node held n) k ≡ with_node (with_node held k) n
with_swap held n k ne = all_held (with_node (with_node held n) k) (with_node (with_node held k) n) sizes each
  where
    sizes : length (with_node (with_node held n) k) ≡ length (with_node (with_node held k) n)
    sizes = length-set (with_node held n) k true ∙ length-set held n true ∙ sym (length-set (with_node held k) n true ∙ length-set held k true)

    each : (i : ℕ) → holds (with_node (with_node held n) k) i ≡ holds (with_node (with_node held k) n) i
    each i = by (cases_eq i n) (cases_eq i k)
      where
        long_n : length (with_node held n) ≡ length held
        long_n = length-set held n true

        long_k : length (with_node held k) ≡ length held
        long_k = length-set held k true

        by : (i ≡ n) ⊎ (i ≡ n → ⊥) → (i ≡ k) ⊎ (i ≡ k → ⊥) → holds (with_node (with_node held n) k) i ≡ holds (with_node (with_node held k) n) i
        by (inl a) (inl b) = absurd (ne (sym a ∙ b))
        by (inl a) (inr b) = with_other (with_node held n) k i (λ e. b (sym e)) ∙ one (cases_order n (length held))
          where
            one : (n ≡ length held) ⊎ ((n < length held) ⊎ (length held < n)) → holds (with_node held n) i ≡ holds (with_node (with_node held k) n) i
            one (inr (inl lt)) = ap (holds (with_node held n)) a ∙ with_itself held n lt ∙ sym (ap (holds (with_node (with_node held k) n)) a ∙ with_itself (with_node held k) n (omega (arith, lt, long_k)))
            one (inl e) = holds_past (with_node held n) i (omega (arith, e, a, long_n)) ∙ sym (holds_past (with_node (with_node held k) n) i (let s = length-set (with_node held k) n true in omega (arith, e, a, long_k, s)))
            one (inr (inr lt)) = holds_past (with_node held n) i (omega (arith, lt, a, long_n)) ∙ sym (holds_past (with_node (with_node held k) n) i (let s = length-set (with_node held k) n true in omega (arith, lt, a, long_k, s)))
        by (inr a) (inl b) = sym (with_other (with_node held k) n i (λ e. a (sym e)) ∙ one (cases_order k (length held)))
          where
            one : (k ≡ length held) ⊎ ((k < length held) ⊎ (length held < k)) → holds (with_node held k) i ≡ holds (with_node (with_node held n) k) i
            one (inr (inl lt)) = ap (holds (with_node held k)) b ∙ with_itself held k lt ∙ sym (ap (holds (with_node (with_node held n) k)) b ∙ with_itself (with_node held n) k (omega (arith, lt, long_n)))
            one (inl e) = holds_past (with_node held k) i (omega (arith, e, b, long_k)) ∙ sym (holds_past (with_node (with_node held n) k) i (let s = length-set (with_node held n) k true in omega (arith, e, b, long_n, s)))
            one (inr (inr lt)) = holds_past (with_node held k) i (omega (arith, lt, b, long_k)) ∙ sym (holds_past (with_node (with_node held n) k) i (let s = length-set (with_node held n) k true in omega (arith, lt, b, long_n, s)))
        by (inr a) (inr b) = with_other (with_node held n) k i (λ e. b (sym e)) ∙ with_other held n i (λ e. a (sym e)) ∙ sym (with_other (with_node held k) n i (λ e. a (sym e)) ∙ with_other held k i (λ e. b (sym e)))

-- two children in rising order
in_order_marked : (lower x upper y parent done f : ℕ) (held : Nodes) (e : Bool) (k : List Instr) (ns : List (Option Marks)) → length ns ≡ length k → lower < length held → lower ≢ upper → holds held lower ≡ false → holds held upper ≡ false → holds held parent ≡ true
    → Brings ns done (marks (with_node (with_node held lower) upper) e) → Brings ns f (marks held e) → Begins (in_order_code lower x upper y parent done f k) k ns (marks held e)
in_order_marked lower x upper y parent done f held e k ns size lt ne empty also has on fail =
    let one = jump_marked f k ns (marks held e) fail in
    let taken = with_node held lower in
    let freed : Brings one.marks (length one.marks) (marks (without_node taken lower) e) = subst (λ h. Brings one.marks (length one.marks) (marks h e)) (sym (without_with held lower lt empty)) one.begins in
    let rel = free_one lower taken e (I.Jump (target_of f) ∷ k) one.marks (with_itself held lower lt) freed in
    let two = begins_further one rel in
    let undone : List Instr = I.Release lower ∷ I.Jump (target_of f) ∷ k in
    let out = jump_marked done undone two.marks (marks (with_node taken upper) e) (stays_there two.marked on) in
    let apart : lower ≢ parent = λ same. absurd (let h : holds held lower ≡ holds held parent = ap (holds held) same in cc) in
    let second = child_marked upper parent y (length undone) taken e (I.Jump (target_of done) ∷ undone) out.marks
    (with_other held lower upper ne ∙ also) (with_other held lower parent apart ∙ has) out.begins (stays_there out.marked (begins_label size two)) in
    let first = child_marked lower parent x f held e (I.Child upper parent y (target_of (length undone)) ∷ I.Jump (target_of done) ∷ undone) second.marks empty has second.begins
    (stays_there second.marked (stays_there out.marked (stays_there two.marked fail))) in
    begins_further two (begins_further out (begins_further second first))

pub place_marked : (place : Place) (t f : ℕ) (held : Nodes) (e : Bool) (d : ℕ) (k : List Instr) (ns : List (Option Marks)) → length ns ≡ length k → length held ≡ NODE_REGISTERS → IsLockable place d held → HasSlots place → (enters place ≡ true → e ≡ false)
    → Brings ns (length k) (marks (locked place held) (e || enters place)) → Brings ns f (marks held e) → Begins (place_code place t f k) k ns (marks held e)
place_marked (P.Node n v) t f held e d k ns size sized l slots enters on fail =
    let spent : Brings ns (length k) (marks (with_node held n) true) = subst (λ x. Brings ns (length k) (marks (with_node held n) x)) (or_true e) on in
    let i = first_marked n (register_of v t) f held e k ns l.0 (enters refl) (at_end size spent) fail in
    begins_further i (operand_marked v t f (I.First n (register_of v t) (target_of f) ∷ k) i.marks (marks held e) d l.1 i.begins (λ x. stays_there i.marked fail))
place_marked (P.Child n p v) t f held e d k ns size sized l slots enters on fail =
    let same : Brings ns (length k) (marks (with_node held n) e) = subst (λ x. Brings ns (length k) (marks (with_node held n) x)) (or_false e) on in
    let i = child_marked n p (register_of v t) f held e k ns l.0 l.1 (at_end size same) fail in
    begins_further i (operand_marked v t f (I.Child n p (register_of v t) (target_of f) ∷ k) i.marks (marks held e) d l.2 i.begins (λ x. stays_there i.marked fail))
place_marked (P.Pair n m p a b) t f held e d k ns size sized l slots enters on fail =
    let x = register_of a t in
    let y = register_of b (behind a t) in
    let same : Brings ns (length k) (marks (with_node (with_node held n) m) e) = subst (λ z. Brings ns (length k) (marks (with_node (with_node held n) m) z)) (or_false e) on in
    let n_low : n < length held = let s = slots.0 in omega (arith, s, sized) in
    let m_low : m < length held = let s = slots.1 in omega (arith, s, sized) in
    let upward = in_order_marked n x m y p (length k) f held e k ns size n_low l.0 l.1 l.2 l.3 same fail in
    let up : List Instr = in_order_code n x m y p (length k) f k in
    let swapped : Brings upward.marks (length k) (marks (with_node (with_node held m) n) e) = subst (λ h. Brings upward.marks (length k) (marks h e)) (with_swap held n m l.0) (stays_there upward.marked same) in
    let downward = in_order_marked m y n x p (length k) f held e up upward.marks (marked_long upward.marked size) m_low (λ h. l.0 (sym h)) l.2 l.1 l.3 swapped (stays_there upward.marked fail) in
    let down : List Instr = in_order_code m y n x p (length k) f up in
    let i = I.JumpIfEqual x y (target_of f) in
    let fail_down = stays_there downward.marked (stays_there upward.marked fail) in
    let alike = one_more i down downward.marks (marks held e) (inl refl) (free_of_nodes i (marks held e) refl refl refl refl) refl downward.begins (to_label i downward.marks (marks held e) f refl fail_down) in
    let j = I.JumpIfLess x y (target_of (length up)) in
    let below = one_more j (i ∷ down) alike.marks (marks held e) (inl refl) (free_of_nodes j (marks held e) refl refl refl refl) refl alike.begins
    (to_label j alike.marks (marks held e) (length up) refl (stays_there alike.marked (stays_there downward.marked (begins_label size upward)))) in
    let numbers = operands_marked a b t f (pair_code n x m y p f k) below.marks (marks held e) d l.4 l.5 below.begins (λ z. stays_there below.marked (stays_there alike.marked fail_down)) in
    begins_further upward (begins_further downward (begins_further alike (begins_further below numbers)))
