-- The marks of statements: a statement has marks if the code after it has fitting ones.
use Rattle.std.proofs.Common.{◌≡◌, ◌≢◌, ◌⊎◌, inl, inr, ℕ, suc, ◌+◌, ◌<◌, List, [], ◌∷◌, ◌++◌, length, Bool, true, false, ◌||◌, Option, Some, None, is_some, option_map, if◌then◌else◌, refl, sym, ◌∙◌, ap, subst, arith}
use Rattle.std.specs.Prelude.{pos, IfSome}
use Rattle.std.proofs.lemmas.Bool.{or_parts, cases_eq, cases_order}
use Rattle.std.proofs.lemmas.List.{length-set, length-replicate, get_or-set_same}
use Rattle.tl_instr.specs.declared.operand.TheConstants.{NODE_REGISTERS}
use Rattle.tl_instr.specs.declared.instr.Instr.{Instr}
use Rattle.tl_instr.specs.declared.instr.Instr.TheVariants as I
use Rattle.tl_budget.specs.Loops.{Opens, kind}
use Rattle.tl_budget.specs.declared.limits.TheConstants.{MAX_DEPTH}
use Rattle.tl_verify.specs.declared.marks.Marks.{Marks}
use Rattle.tl_verify.specs.Marks.{is_held}
use Rattle.tl_verify.specs.Acceptable.{Allows}
use Rattle.tl_lowering.specs.declared.program.Expression.{Expression}
use Rattle.tl_lowering.specs.declared.program.Condition.{Condition}
use Rattle.tl_lowering.specs.declared.program.Place.{Place}
use Rattle.tl_lowering.specs.declared.program.Statement.{Statement}
use Rattle.tl_lowering.specs.declared.program.Statement.TheVariants as S
use Rattle.tl_lowering.specs.Sets.{Nodes, none_held, holds, both, both_of, minus, all_of, with_node, without_node}
use Rattle.tl_lowering.specs.Sound.{IsWellFormed, KeepsHeld, nodes_behind}
use Rattle.tl_lowering.specs.Outcomes.{may_fail, condition_may_fail, locked, unlocked, here_if, next, going_on, handled_by, behind_loop, after, fails, breaks}
use Rattle.tl_compiler.specs.Labels.{target_of}
use Rattle.tl_compiler.specs.NodeSets.{all_sets}
use Rattle.tl_compiler.specs.Numbers.{register_of, behind, into_code, branch_code}
use Rattle.tl_compiler.specs.Statements.{Exit, Site, release_code, direct, is_skip, joining_code, Second, second_by, Pads, pad_at, pads_of, place_code, loop_code, held_behind, leave_code, ways_code, choice_code, statement_code}
use Rattle.tl_compiler.specs.Among.{IsIn}
use Rattle.tl_compiler.specs.Tails.{Tail}
use Rattle.tl_compiler.proofs.Stretches.{tail_of_stretch}
use Rattle.tl_compiler.proofs.StatementStretches.{statement_stretch}
use Rattle.tl_compiler.proofs.SetLemmas.{Within, all_held, both_within, in_left, in_right, all_within, within_left}
use Rattle.tl_compiler.proofs.SizeLemmas.{AnySized, sizes, handled_sized, locked_sized}
use Rattle.tl_compiler.proofs.WayLemmas.{second_short, keeps_first, keeps_second, keeps_itself, keeps_unlocked, Leaves as Left, leaves_first, leaves_second, some_of}
use Rattle.tl_compiler.proofs.PadSets.{one_of_all, pads_none}
use Rattle.tl_lowering.specs.Fit.{loops, AllTurn, AllSlots}
use Rattle.tl_compiler.proofs.Pieces.{left_max, right_max, statement_nests}
use Rattle.tl_compiler.proofs.Entrances.{Entered, or_of, some_if, or_else_of, then_by, entered, EntersOnce}
use Rattle.tl_lowering.specs.Passing.{enters}
use Rattle.tl_compiler.proofs.Markings.{marks, Brings, brings_on, first_brings, is_by, Marked, none, dead, live, turn, marked_further, marked_long, Promises, Begins, begins_further, one_more, free_of_nodes, reads, to_label, nowhere, stays_there}
use Rattle.tl_compiler.proofs.Marking.{begins_label, at_end, number_marked, operand_marked, jump_marked, branch_marked, free_marked, free_one, dead_marked, release_marked, Joined, joining_marked, place_marked, child_marked, cleared, holds_cleared, freed_cleared, holds_past, with_itself, with_other, without_other}
use Rattle.tl_compiler.proofs.WayMarks.{Facts, StatementMarked, Outs, outs_of, outs_further, promised, brings_less, OneOf, or_first, or_second, one_itself, itself_in, itself_fails, rests, keeps_label, direct_brings, direct_none, Other, second_marked, first_label, ways_marked, Padded, pads_marked}

-- ---- statements

none_some : {A : Type 0} (x : A) → ◌≡◌ {A = Option A} None (Some x) → ⊥
none_some x e = cc

skip_marked : StatementMarked S.Skip
skip_marked held e x k ns size facts p = record { marks = ns; marked = none; begins = p.after held e refl refl }

-- code that is never reached
all_dead : {c j : List Instr} → Tail c j → (ls : List (Option Marks)) → (ms : List (Option Marks)) × Marked c ms j ls
all_dead {c} {j} t ls = let r = by_front t.front in subst (λ d. (ms : List (Option Marks)) × Marked d ms j ls) (sym t.joined) r
  where
    by_front : (front : List Instr) → (ms : List (Option Marks)) × Marked (front ++ j) ms j ls
    by_front [] = (ls, none)
    by_front (i ∷ front) = let r = by_front front in (None ∷ r.0, dead r.1)

then_fails : (s : Option Bool) (y : Entered) (more : Bool → Entered) (f : Bool) → y.fails ≡ Some f → OneOf (then_by s y more).fails f
then_fails None y more f g = one_itself y.fails f g
then_fails (Some v) y more f g = or_first y.fails (more v).fails f g

then_breaks : (s : Option Bool) (y : Entered) (more : Bool → Entered) (f : Bool) → y.breaks ≡ Some f → OneOf (then_by s y more).breaks f
then_breaks None y more f g = one_itself y.breaks f g
then_breaks (Some v) y more f g = or_first y.breaks (more v).breaks f g

-- what one statement requires of failures' labels covers what another one requires
fails_by : (b : Statement) (hb : Nodes) (eb : Bool) (y : Site) {a : Statement} {ha : Nodes} {ea : Bool} {x : Site} {ns : List (Option Marks)} → Outs a ha ea x ns → x.pad ≡ y.pad → ((h : Nodes) → IsIn h (fails b hb) → IsIn h (fails a ha)) → ((f : Bool) → (entered b eb).fails ≡ Some f → OneOf (entered a ea).fails f)
    → (h : Nodes) (f : Bool) → IsIn h (fails b hb) → (entered b eb).fails ≡ Some f → Brings ns (y.pad h) (marks h f)
fails_by b hb eb y {ns = ns} outs alike is_in among_both h f i g =
    let o = among_both f g in
    subst (λ (q : Nodes → ℕ). Brings ns (q h) (marks h f)) alike (brings_less f o.more (outs.fails h o.value (is_in h i) o.is))

breaks_by : (b : Statement) (hb : Nodes) (eb : Bool) (y : Site) {a : Statement} {ha : Nodes} {ea : Bool} {x : Site} {ns : List (Option Marks)} → Outs a ha ea x ns → x.exit ≡ y.exit → ((h : Nodes) → IsIn h (breaks b hb) → IsIn h (breaks a ha)) → ((f : Bool) → (entered b eb).breaks ≡ Some f → OneOf (entered a ea).breaks f)
    → (h : Nodes) (f : Bool) (exit : Exit) → IsIn h (breaks b hb) → (entered b eb).breaks ≡ Some f → y.exit ≡ Some exit → Within exit.held h × Brings ns exit.label (marks exit.held f)
breaks_by b hb eb y outs alike is_in among_both h f exit i g is =
    let o = among_both f g in
    let c = outs.breaks h o.value exit (is_in h i) o.is (alike ∙ is) in
    (c.0, brings_less f o.more c.1)

sequence_marked : (p : _) (a : Statement) (q : _) (b : Statement) → StatementMarked a → StatementMarked b → StatementMarked (S.Sequence' p a q b)
sequence_marked p a q b one two held e x k ns size facts pr = by (after a held) refl (entered a e).after refl
  where
    facts_a : Facts a held e x
    facts_a = record { sized = facts.sized; sound = facts.sound.0; enters = facts.enters.0; slots = facts.slots.0; turns = facts.turns.0; depth = left_max (loops a) (loops b) MAX_DEPTH facts.depth; exits = facts.exits }

    outs : Outs (S.Sequence' p a q b) held e x ns
    outs = outs_of pr

    outs_a : Outs a held e x ns
    outs_a = record {
      fails = fails_by a held e x outs refl (λ h i. in_left h (fails a held) _ i) (λ f g. then_fails (entered a e).after (entered a e) (entered b) f g);
      breaks = breaks_by a held e x outs refl (λ h i. in_left h (breaks a held) _ i) (λ f g. then_breaks (entered a e).after (entered a e) (entered b) f g);
    }

    -- the first part, in front of code with fitting marks
    first : (ls : List (Option Marks)) (j : List Instr) → Marked j ls k ns → length ls ≡ length j → ((h : Nodes) (f : Bool) → after a held ≡ Some h → (entered a e).after ≡ Some f → Brings ls (length ls) (marks h f)) → Begins (statement_code a held x j) k ns (marks held e)
    first ls j m long on = let r = one held e x j ls long facts_a (promised on (outs_further m outs_a)) in record { marks = r.marks; marked = marked_further r.marked m; begins = r.begins }

    code_b : List Instr
    code_b = statement_code b (held_behind (after a held)) x k

    unreached : ((h : Nodes) (f : Bool) → after a held ≡ Some h → (entered a e).after ≡ Some f → ⊥) → Begins (statement_code a held x (statement_code b (held_behind (after a held)) x k)) k ns (marks held e)
    unreached never =
        let d = all_dead (tail_of_stretch (statement_stretch b (held_behind (after a held)) x k)) ns in
        first d.0 (statement_code b (held_behind (after a held)) x k) d.1 (marked_long d.1 size) (λ h f i g. absurd (never h f i g))

    reached : (h : Nodes) → after a held ≡ Some h → (f : Bool) → (entered a e).after ≡ Some f → Begins (statement_code a held x (statement_code b (held_behind (after a held)) x k)) k ns (marks held e)
    reached h is f goes =
        let facts_b : Facts b h f x =
        record {
          sized = (sizes a held facts.sized).after h is;
          sound = subst (λ o. IfSome o (λ g. IsWellFormed b x.values x.nodes g (is_some x.exit))) is facts.sound.1;
          enters = subst (λ o. IfSome o (λ g. EntersOnce b g)) goes facts.enters.1;
          slots = facts.slots.1;
          turns = facts.turns.1;
          depth = right_max (loops a) (loops b) MAX_DEPTH facts.depth;
          exits = facts.exits;
        } in
        let outs_b : Outs b h f x ns =
        record {
          fails = fails_by b h f x outs refl (λ g i. in_right g (fails a held) _ (subst (λ o. IsIn g (going_on o (fails b))) (sym is) i))
              (λ g t. let o = or_second (entered a e).fails (entered b f).fails g t in record { value = o.value; is = ap (λ s. (then_by s (entered a e) (entered b)).fails) goes ∙ o.is; more = o.more });
          breaks = breaks_by b h f x outs refl (λ g i. in_right g (breaks a held) _ (subst (λ o. IsIn g (going_on o (breaks b))) (sym is) i))
              (λ g t. let o = or_second (entered a e).breaks (entered b f).breaks g t in record { value = o.value; is = ap (λ s. (then_by s (entered a e) (entered b)).breaks) goes ∙ o.is; more = o.more });
        } in
        let r = two h f x k ns size facts_b (promised (λ g t i j. pr.after g t (ap (λ o. next o (after b)) is ∙ i) (ap (λ s. (then_by s (entered a e) (entered b)).after) goes ∙ j)) outs_b) in
        let code : Begins (statement_code b (held_behind (after a held)) x k) k ns (marks h f) = subst (λ g. Begins (statement_code b g x k) k ns (marks h f)) (sym (ap held_behind is)) r in
        first code.marks (statement_code b (held_behind (after a held)) x k) code.marked (marked_long code.marked size)
        (λ g t i j. let same : h ≡ g = let n : Some h ≡ Some g = sym is ∙ i in cc in let also : f ≡ t = let n : Some f ≡ Some t = sym goes ∙ j in cc in
        subst (λ z. Brings code.marks (length code.marks) (marks z t)) same (subst (λ z. Brings code.marks (length code.marks) (marks h z)) also code.begins))

    by : (o : Option Nodes) → after a held ≡ o → (s : Option Bool) → (entered a e).after ≡ s → Begins (statement_code a held x (statement_code b (held_behind (after a held)) x k)) k ns (marks held e)
    by None is s goes = unreached (λ h f i g. none_some h (sym is ∙ i))
    by (Some h) is None goes = unreached (λ g f i j. none_some f (sym goes ∙ j))
    by (Some h) is (Some f) goes = reached h is f goes

at_marked : (offset : ℕ) (p : _) (a : Statement) → StatementMarked a → StatementMarked (S.At' offset p a)
at_marked offset p a one held e x k ns size facts pr =
    one held e x k ns size (record { sized = facts.sized; sound = facts.sound; enters = facts.enters; slots = facts.slots; turns = facts.turns; depth = facts.depth; exits = facts.exits }) (record { after = pr.after; fails = pr.fails; breaks = pr.breaks })

-- ---- without blocks

may_itself : (may e : Bool) → may ≡ true → or_of (some_if may e) None ≡ Some e
may_itself true e t = refl
may_itself false e t = cc

itself_only : (may : Bool) (held : Nodes) → may ≡ true → IsIn held (here_if may held)
itself_only true held e = inl refl
itself_only false held e = cc

assign_marked : (v : ℕ) (n : Expression) → StatementMarked (S.Assign v n)
assign_marked v n held e x k ns size facts pr =
    number_marked n v x.values (x.pad held) k ns (marks held e) x.values facts.sound.1 (pr.after held e refl refl) (λ t. pr.fails held e (itself_only (may_fail n) held t) (may_itself (may_fail n) e t))

write_marked : (n f : ℕ) (v : Expression) → StatementMarked (S.Write n f v)
write_marked n f v held e x k ns size facts pr =
    let i = I.Put n f (register_of v x.values) in
    let put = one_more i k ns (marks held e) (inl refl) (reads i (marks held e) n refl facts.sound.0 refl refl refl) refl (pr.after held e refl refl) (nowhere i ns (marks held e) refl) in
    begins_further put (operand_marked v x.values (x.pad held) (i ∷ k) put.marks (marks held e) x.values facts.sound.1 put.begins
    (λ t. stays_there put.marked (pr.fails held e (itself_only (may_fail v) held t) (may_itself (may_fail v) e t))))

emit_marked : (v : Expression) → StatementMarked (S.Emit v)
emit_marked v held e x k ns size facts pr =
    let i = I.Emit (register_of v x.values) in
    let emit = one_more i k ns (marks held e) (inl refl) (free_of_nodes i (marks held e) refl refl refl refl) refl (pr.after held e refl refl) (nowhere i ns (marks held e) refl) in
    begins_further emit (operand_marked v x.values (x.pad held) (i ∷ k) emit.marks (marks held e) x.values facts.sound emit.begins
    (λ t. stays_there emit.marked (pr.fails held e (itself_only (may_fail v) held t) (may_itself (may_fail v) e t))))

free_marked_statement : (n : ℕ) → StatementMarked (S.Free n)
free_marked_statement n held e x k ns size facts pr = free_one n held e k ns facts.sound (pr.after (without_node held n) e refl refl)

fail_marked : StatementMarked S.Fail
fail_marked held e x k ns size facts pr = jump_marked (x.pad held) k ns (marks held e) (pr.fails held e (inl refl) refl)

-- a node that is moved
move_allows : (n m : ℕ) (k : Marks) → is_held k n ≡ false → is_held k m ≡ true → Allows (I.Move n m) k
move_allows n m k empty has = record {
  held = λ j x. let here : m ≡ j = cc in subst (λ q. is_held k q ≡ true) here has;
  empty = λ j x. let here : n ≡ j = cc in subst (λ q. is_held k q ≡ false) here empty;
  is_open = λ x. cc;
  returns = λ x. cc;
}

move_one : (n m : ℕ) (held : Nodes) (e : Bool) (k : List Instr) (ns : List (Option Marks)) → holds held n ≡ false → holds held m ≡ true → Brings ns (length ns) (marks (with_node (without_node held m) n) e) → Begins (I.Move n m ∷ k) k ns (marks held e)
move_one n m held e k ns empty has on =
    let i = I.Move n m in
    record {
      marks = Some (marks held e) ∷ ns;
      marked = live (inl refl) (record { allows = move_allows n m (marks held e) empty has; next = λ g. on; aside = nowhere i ns (marks held e) refl }) none;
      begins = first_brings (marks held e) ns;
    }

pub low : (held : Nodes) (n : ℕ) → holds held n ≡ true → n < length held
low held n has = by (cases_order n (length held))
  where
    by : (n ≡ length held) ⊎ ((n < length held) ⊎ (length held < n)) → n < length held
    by (inl e) = absurd (let h = holds_past held n (omega (arith, e)) in cc)
    by (inr (inl lt)) = lt
    by (inr (inr lt)) = absurd (let h = holds_past held n (omega arith) in cc)

without_itself : (held : Nodes) (n : ℕ) → n < length held → holds (without_node held n) n ≡ false
without_itself held n lt = get_or-set_same held n false false lt

-- the child is locked, the node is freed, and the child moves to its register
descended : (held : Nodes) (n m : ℕ) → holds held n ≡ true → holds held m ≡ false → m < length held → with_node (without_node (without_node (with_node held m) n) m) n ≡ held
descended held n m has empty lt =
    all_held (with_node (without_node (without_node (with_node held m) n) m) n) held
    (length-set (without_node (without_node (with_node held m) n) m) n true ∙ length-set (without_node (with_node held m) n) m false ∙ length-set (with_node held m) n false ∙ length-set held m true) each
  where
    apart : n ≢ m
    apart e = absurd (let h = ap (holds held) e in cc)

    each : (i : ℕ) → holds (with_node (without_node (without_node (with_node held m) n) m) n) i ≡ holds held i
    each i = by (cases_eq i n) (cases_eq i m)
      where
        long : length (without_node (without_node (with_node held m) n) m) ≡ length held
        long = length-set (without_node (with_node held m) n) m false ∙ length-set (with_node held m) n false ∙ length-set held m true

        long_less : length (without_node (with_node held m) n) ≡ length held
        long_less = length-set (with_node held m) n false ∙ length-set held m true

        by : (i ≡ n) ⊎ (i ≡ n → ⊥) → (i ≡ m) ⊎ (i ≡ m → ⊥) → holds (with_node (without_node (without_node (with_node held m) n) m) n) i ≡ holds held i
        by (inl a) b =
            let lt_n = low held n has in
            ap (holds (with_node (without_node (without_node (with_node held m) n) m) n)) a ∙ with_itself (without_node (without_node (with_node held m) n) m) n (omega (arith, lt_n, long)) ∙ sym (ap (holds held) a ∙ has)
        by (inr a) (inl b) =
            with_other (without_node (without_node (with_node held m) n) m) n i (λ e. a (sym e))
            ∙ ap (holds (without_node (without_node (with_node held m) n) m)) b ∙ without_itself (without_node (with_node held m) n) m (omega (arith, lt, long_less)) ∙ sym (ap (holds held) b ∙ empty)
        by (inr a) (inr b) =
            with_other (without_node (without_node (with_node held m) n) m) n i (λ e. a (sym e)) ∙ without_other (without_node (with_node held m) n) m i (λ e. b (sym e)) ∙ without_other (with_node held m) n i (λ e. a (sym e)) ∙ with_other held m i (λ e. b (sym e))

taken : (held : Nodes) (n k : ℕ) → n ≢ k → holds held n ≡ true → with_node (without_node (without_node held n) k) n ≡ without_node held k
taken held n k ne has =
    all_held (with_node (without_node (without_node held n) k) n) (without_node held k)
    (length-set (without_node (without_node held n) k) n true ∙ length-set (without_node held n) k false ∙ length-set held n false ∙ sym (length-set held k false)) each
  where
    long : length (without_node (without_node held n) k) ≡ length held
    long = length-set (without_node held n) k false ∙ length-set held n false

    each : (i : ℕ) → holds (with_node (without_node (without_node held n) k) n) i ≡ holds (without_node held k) i
    each i = by (cases_eq i n) (cases_eq i k)
      where
        by : (i ≡ n) ⊎ (i ≡ n → ⊥) → (i ≡ k) ⊎ (i ≡ k → ⊥) → holds (with_node (without_node (without_node held n) k) n) i ≡ holds (without_node held k) i
        by (inl a) b =
            let lt = low held n has in
            ap (holds (with_node (without_node (without_node held n) k) n)) a ∙ with_itself (without_node (without_node held n) k) n (omega (arith, lt, long))
            ∙ sym (without_other held k i (λ e. ne (sym (e ∙ a))) ∙ ap (holds held) a ∙ has)
        by (inr a) (inl b) =
            with_other (without_node (without_node held n) k) n i (λ e. a (sym e)) ∙ both_gone (cases_order k (length held))
          where
            size_one : length (without_node held n) ≡ length held
            size_one = length-set held n false

            both_gone : (k ≡ length held) ⊎ ((k < length held) ⊎ (length held < k)) → holds (without_node (without_node held n) k) i ≡ holds (without_node held k) i
            both_gone (inr (inl lt)) = ap (holds (without_node (without_node held n) k)) b ∙ without_itself (without_node held n) k (omega (arith, lt, size_one)) ∙ sym (ap (holds (without_node held k)) b ∙ without_itself held k lt)
            both_gone (inl e) =
                holds_past (without_node (without_node held n) k) i (omega (arith, e, b, long)) ∙ sym (holds_past (without_node held k) i (let s = length-set held k false in omega (arith, e, b, s)))
            both_gone (inr (inr lt)) =
                holds_past (without_node (without_node held n) k) i (omega (arith, lt, b, long)) ∙ sym (holds_past (without_node held k) i (let s = length-set held k false in omega (arith, lt, b, s)))
        by (inr a) (inr b) = with_other (without_node (without_node held n) k) n i (λ e. a (sym e)) ∙ without_other (without_node held n) k i (λ e. b (sym e)) ∙ without_other held n i (λ e. a (sym e)) ∙ sym (without_other held k i (λ e. b (sym e)))

descend_marked : (n : ℕ) (v : Expression) → StatementMarked (S.Descend n v)
descend_marked n v held e x k ns size facts pr =
    let m = x.nodes in
    let has = facts.sound.0 in
    let empty = facts.sound.1 in
    let slot = facts.slots in
    let sized = facts.sized in
    let lt : m < length held = omega (arith, slot, sized) in
    let apart : n ≢ m = λ s. absurd (let h = ap (holds held) s in cc) in
    let here = pr.after held e refl refl in
    let back : Brings ns (length ns) (marks (with_node (without_node (without_node (with_node held m) n) m) n) e) = subst (λ h. Brings ns (length ns) (marks h e)) (sym (descended held n m has empty lt)) here in
    let lt_n = low held n has in
    let long_m = length-set held m true in
    let moved = move_one n m (without_node (with_node held m) n) e k ns (without_itself (with_node held m) n (omega (arith, lt_n, long_m))) (without_other (with_node held m) n m apart ∙ with_itself held m lt) back in
    let freed = free_one n (with_node held m) e (I.Move n m ∷ k) moved.marks (with_other held m n (λ s. apart (sym s)) ∙ has) moved.begins in
    let f = x.pad held in
    let fail = pr.fails held e (inl refl) refl in
    let child = child_marked m n (register_of v x.values) f held e (I.Release n ∷ I.Move n m ∷ k) freed.marks empty has freed.begins (stays_there freed.marked (stays_there moved.marked fail)) in
    let number = operand_marked v x.values f (I.Child m n (register_of v x.values) (target_of f) ∷ I.Release n ∷ I.Move n m ∷ k) child.marks (marks held e) x.values facts.sound.2 child.begins (λ t. stays_there child.marked (stays_there freed.marked (stays_there moved.marked fail))) in
    begins_further moved (begins_further freed (begins_further child number))

take_marked : (n m : ℕ) → StatementMarked (S.Take n m)
take_marked n m held e x k ns size facts pr =
    let ne = facts.sound.0 in
    let has = facts.sound.1 in
    let also = facts.sound.2 in
    let here : Brings ns (length ns) (marks (with_node (without_node (without_node held n) m) n) e) = subst (λ h. Brings ns (length ns) (marks h e)) (sym (taken held n m ne has)) (pr.after (without_node held m) e refl refl) in
    let moved = move_one n m (without_node held n) e k ns (without_itself held n (low held n has)) (without_other held n m ne ∙ also) here in
    begins_further moved (free_one n held e (I.Move n m ∷ k) moved.marks has moved.begins)

break_marked : StatementMarked S.Break
break_marked held e x k ns size facts pr = by x.exit refl facts.sound
  where
    by : (o : Option Exit) → x.exit ≡ o → is_some o ≡ true → Begins (leave_code held o k) k ns (marks held e)
    by None is t = cc
    by (Some exit) is t =
        let b = pr.breaks held e exit (inl refl) refl is in
        let size_out = facts.exits exit is in
        let kept : both held exit.held ≡ exit.held = both_within held exit.held (facts.sized ∙ sym size_out) b.0 in
        let j = jump_marked exit.label k ns (marks exit.held e) b.1 in
        let code : List Instr = I.Jump (target_of exit.label) ∷ k in
        begins_further j (free_marked held exit.held e code j.marks (marked_long j.marked size) facts.sized size_out (subst (λ h. Brings j.marks (length code) (marks h e)) (sym kept) (begins_label size j)))

return_allows : (m : Marks) → ((n : ℕ) → is_held m n ≡ false) → Allows I.Return m
return_allows m none_held = record { held = λ j x. cc; empty = λ j x. cc; is_open = λ x. cc; returns = λ x. none_held }

return_marked : StatementMarked S.Return
return_marked held e x k ns size facts pr =
    let all_freed = cleared NODE_REGISTERS held held in
    let last : Begins (I.Return ∷ k) k ns (marks (cleared NODE_REGISTERS held held) e) = record {
      marks = Some (marks (cleared NODE_REGISTERS held held) e) ∷ ns;
      marked = live (inr refl) (record { allows = return_allows (marks (cleared NODE_REGISTERS held held) e) nothing; next = λ g. cc; aside = nowhere I.Return ns (marks (cleared NODE_REGISTERS held held) e) refl }) none;
      begins = first_brings (marks (cleared NODE_REGISTERS held held) e) ns;
    } in
    begins_further last (release_marked NODE_REGISTERS held held e (I.Return ∷ k) last.marks (marked_long last.marked size) (λ i lt h. h) (begins_label size last))
  where
    nothing : (n : ℕ) → holds (cleared NODE_REGISTERS held held) n ≡ false
    nothing n = by (holds held n) refl
      where
        by : (b : Bool) → holds held n ≡ b → holds (cleared NODE_REGISTERS held held) n ≡ false
        by true f = freed_cleared NODE_REGISTERS held held n (let lt = low held n f in let size = facts.sized in omega (arith, lt, size)) f
        by false f = holds_cleared NODE_REGISTERS held held n (λ lt. f) ∙ f

-- ---- with blocks

let_marked : (v : ℕ) (n : Expression) (p : _) (a : Statement) → StatementMarked a → StatementMarked (S.Let' v n p a)
let_marked v n p a one held e x k ns size facts pr =
    let y : Site = record x { values = v + 1 } in
    let whole = after a held in
    let outs : Outs (S.Let' v n p a) held e x ns = outs_of pr in
    let sound_v = facts.sound.0 in
    let facts_a : Facts a held e y =
    record {
      sized = facts.sized;
      sound = subst (λ w. IsWellFormed a (w + 1) x.nodes held (is_some x.exit)) (sym sound_v) facts.sound.2;
      enters = facts.enters;
      slots = facts.slots;
      turns = facts.turns;
      depth = facts.depth;
      exits = facts.exits;
    } in
    let known = (sizes a held facts.sized).after in
    let j = joining_marked (after a held) (entered a e).after (held_behind (after a held)) false (length k) k ns size
    (rests (keeps_itself (after a held) known) known (λ f g. one_itself (entered a e).after f g) (λ h f i g. subst (λ l. Brings ns l (marks h f)) size (pr.after h f i g))) in
    let rest = joining_code (after a held) (held_behind (after a held)) false (length k) k in
    let size_j : length j.list ≡ length rest = marked_long j.marked size in
    let outs_a : Outs a held e y ns =
    record {
      fails = fails_by a held e y outs refl (λ h i. in_right h (here_if (may_fail n) held) (fails a held) i) (λ f g. or_second (some_if (may_fail n) e) (entered a e).fails f g);
      breaks = breaks_by a held e y outs refl (λ h i. i) (λ f g. one_itself (entered a e).breaks f g);
    } in
    let r = one held e y rest j.list size_j facts_a (promised j.begins (outs_further j.marked outs_a)) in
    let body = statement_code a held y rest in
    let number = number_marked n v v (x.pad held) body r.marks (marks held e) x.values facts.sound.1 r.begins
    (λ t. let o = itself_fails (may_fail n) e (entered a e).fails t in stays_there (marked_further r.marked j.marked) (brings_less e o.more (pr.fails held o.value (itself_in (may_fail n) held (fails a held) t) o.is))) in
    begins_further (record { marks = r.marks; marked = marked_further r.marked j.marked; begins = r.begins }) number

let_else_marked : (v : ℕ) (n : Expression) (p : _) (a : Statement) (q : _) (o : Statement) → StatementMarked a → StatementMarked o → StatementMarked (S.LetElse' v n p a q o)
let_else_marked v n p a q o one two held e x k ns size facts pr =
    let y : Site = record x { values = v + 1 } in
    let outs : Outs (S.LetElse' v n p a q o) held e x ns = outs_of pr in
    let sound_v = facts.sound.0 in
    let la = left_max (loops a) (loops o) MAX_DEPTH facts.depth in
    let lo = right_max (loops a) (loops o) MAX_DEPTH facts.depth in
    let facts_a : Facts a held e y =
    record {
      sized = facts.sized;
      sound = subst (λ w. IsWellFormed a (w + 1) x.nodes held (is_some x.exit)) (sym sound_v) facts.sound.2;
      enters = facts.enters.0;
      slots = facts.slots.0;
      turns = facts.turns.0;
      depth = la;
      exits = facts.exits;
    } in
    let facts_o : Facts o held e x = record { sized = facts.sized; sound = facts.sound.3; enters = facts.enters.1; slots = facts.slots.1; turns = facts.turns.1; depth = lo; exits = facts.exits } in
    let outs_a : Outs a held e y ns =
    record {
      fails = fails_by a held e y outs refl (λ h i. in_left h (fails a held) (fails o held) i) (λ f g. or_first (entered a e).fails (entered o e).fails f g);
      breaks = breaks_by a held e y outs refl (λ h i. in_left h (breaks a held) (breaks o held) i) (λ f g. or_first (entered a e).breaks (entered o e).breaks f g);
    } in
    let outs_o : Outs o held e x ns =
    record {
      fails = fails_by o held e x outs refl (λ h i. in_right h (fails a held) (fails o held) i) (λ f g. or_second (entered a e).fails (entered o e).fails f g);
      breaks = breaks_by o held e x outs refl (λ h i. in_right h (breaks a held) (breaks o held) i) (λ f g. or_second (entered a e).breaks (entered o e).breaks f g);
    } in
    let known = (sizes a held facts.sized).after in
    let known_o = (sizes o held facts.sized).after in
    let on : (h : Nodes) (f : Bool) → both_of (after a held) (after o held) ≡ Some h → or_of (entered a e).after (entered o e).after ≡ Some f → Brings ns (length k) (marks h f) =
    λ h f i g. subst (λ l. Brings ns l (marks h f)) size (pr.after h f i g) in
    ways_marked a o one two held held e e y x (held_behind (both_of (after a held) (after o held))) k ns size facts_a facts_o outs_a outs_o
    (rests (keeps_first (after a held) (after o held) known known_o) known (λ f g. or_first (entered a e).after (entered o e).after f g) on)
    (rests (keeps_second (after a held) (after o held) known known_o) known_o (λ f g. or_second (entered a e).after (entered o e).after f g) on)
    (λ label j. into_code n v v label j) (marks held e)
    (λ j ls long m fail begins. number_marked n v v _ j ls (marks held e) x.values facts.sound.1 (at_end long begins) (λ t. fail))

lock_marked : (place : Place) (p : _) (a : Statement) (q : _) (o : Statement) → StatementMarked a → StatementMarked o → StatementMarked (S.Lock' place p a q o)
lock_marked place p a q o one two held e x k ns size facts pr =
    let y : Site = record x { nodes = nodes_behind place } in
    let outs : Outs (S.Lock' place p a q o) held e x ns = outs_of pr in
    let inside = locked place held in
    let inside_size = locked_sized place held facts.sized in
    let f = e || enters place in
    let la = left_max (loops a) (loops o) MAX_DEPTH facts.depth in
    let lo = right_max (loops a) (loops o) MAX_DEPTH facts.depth in
    let facts_a : Facts a (locked place held) (e || enters place) y =
    record { sized = inside_size; sound = facts.sound.1; enters = facts.enters.1; slots = facts.slots.1; turns = facts.turns.0; depth = la; exits = facts.exits } in
    let facts_o : Facts o held e x = record { sized = facts.sized; sound = facts.sound.2; enters = facts.enters.2; slots = facts.slots.2; turns = facts.turns.1; depth = lo; exits = facts.exits } in
    let outs_a : Outs a (locked place held) (e || enters place) y ns =
    record {
      fails = fails_by a (locked place held) (e || enters place) y outs refl (λ h i. in_left h (fails a (locked place held)) (fails o held) i) (λ f g. or_first (entered a (e || enters place)).fails (entered o e).fails f g);
      breaks = breaks_by a (locked place held) (e || enters place) y outs refl (λ h i. in_left h (breaks a (locked place held)) (breaks o held) i) (λ f g. or_first (entered a (e || enters place)).breaks (entered o e).breaks f g);
    } in
    let outs_o : Outs o held e x ns =
    record {
      fails = fails_by o held e x outs refl (λ h i. in_right h (fails a (locked place held)) (fails o held) i) (λ f g. or_second (entered a (e || enters place)).fails (entered o e).fails f g);
      breaks = breaks_by o held e x outs refl (λ h i. in_right h (breaks a (locked place held)) (breaks o held) i) (λ f g. or_second (entered a (e || enters place)).breaks (entered o e).breaks f g);
    } in
    let known = (sizes a (locked place held) inside_size).after in
    let known_o = (sizes o held facts.sized).after in
    let on : (h : Nodes) (f : Bool) → option_map (unlocked place) (both_of (after a (locked place held)) (after o held)) ≡ Some h → or_of (entered a (e || enters place)).after (entered o e).after ≡ Some f → Brings ns (length k) (marks h f) =
    λ h f i g. subst (λ l. Brings ns l (marks h f)) size (pr.after h f i g) in
    ways_marked a o one two (locked place held) held (e || enters place) e y x (held_behind (option_map (unlocked place) (both_of (after a (locked place held)) (after o held)))) k ns size facts_a facts_o outs_a outs_o
    (rests (keeps_unlocked place (after a (locked place held)) (both_of (after a (locked place held)) (after o held)) (keeps_first (after a (locked place held)) (after o held) known known_o)) known (λ f g. or_first (entered a (e || enters place)).after (entered o e).after f g) on)
    (rests (keeps_unlocked place (after o held) (both_of (after a (locked place held)) (after o held)) (keeps_second (after a (locked place held)) (after o held) known known_o)) known_o (λ f g. or_second (entered a (e || enters place)).after (entered o e).after f g) on)
    (λ label j. place_code place x.values label j) (marks held e)
    (λ j ls long m fail begins. place_marked place x.values _ held e x.values j ls long facts.sized facts.sound.0 facts.slots.0 facts.enters.0 begins fail)

if_marked : (c : Condition) (p : _) (a : Statement) (q : _) (b : Statement) → StatementMarked a → StatementMarked b → StatementMarked (S.If' c p a q b)
if_marked c p a q b one two held e x k ns size facts pr = by (direct a held x) refl (direct b held x) refl
  where
    outs : Outs (S.If' c p a q b) held e x ns
    outs = outs_of pr

    facts_a : Facts a held e x
    facts_a = record { sized = facts.sized; sound = facts.sound.1; enters = facts.enters.0; slots = facts.slots.0; turns = facts.turns.0; depth = left_max (loops a) (loops b) MAX_DEPTH facts.depth; exits = facts.exits }

    facts_b : Facts b held e x
    facts_b = record { sized = facts.sized; sound = facts.sound.2; enters = facts.enters.1; slots = facts.slots.1; turns = facts.turns.1; depth = right_max (loops a) (loops b) MAX_DEPTH facts.depth; exits = facts.exits }

    value : (f : Bool) (o : Option Bool) → OneOf o f → OneOf (or_of (some_if (condition_may_fail c) e) o) f
    value f o w = let v = or_second (some_if (condition_may_fail c) e) o w.value w.is in record { value = v.value; is = v.is; more = λ t. v.more (w.more t) }

    outs_a : Outs a held e x ns
    outs_a = record {
      fails = fails_by a held e x outs refl (λ h i. in_right h (here_if (condition_may_fail c) held) _ (in_left h (fails a held) (fails b held) i)) (λ f g. value f _ (or_first (entered a e).fails (entered b e).fails f g));
      breaks = breaks_by a held e x outs refl (λ h i. in_left h (breaks a held) (breaks b held) i) (λ f g. or_first (entered a e).breaks (entered b e).breaks f g);
    }

    outs_b : Outs b held e x ns
    outs_b = record {
      fails = fails_by b held e x outs refl (λ h i. in_right h (here_if (condition_may_fail c) held) _ (in_right h (fails a held) (fails b held) i)) (λ f g. value f _ (or_second (entered a e).fails (entered b e).fails f g));
      breaks = breaks_by b held e x outs refl (λ h i. in_right h (breaks a held) (breaks b held) i) (λ f g. or_second (entered a e).breaks (entered b e).breaks f g);
    }

    failing : condition_may_fail c ≡ true → Brings ns (x.pad held) (marks held e)
    failing t =
        let o = itself_fails (condition_may_fail c) e (or_of (entered a e).fails (entered b e).fails) t in
        brings_less e o.more (pr.fails held o.value (itself_in (condition_may_fail c) held (fails a held ++ fails b held) t) o.is)

    on : (h : Nodes) (f : Bool) → both_of (after a held) (after b held) ≡ Some h → or_of (entered a e).after (entered b e).after ≡ Some f → Brings ns (length k) (marks h f)
    on h f i g = subst (λ l. Brings ns l (marks h f)) size (pr.after h f i g)

    both_ways : Begins (ways_code (λ label k. branch_code c false label x.values (x.pad held) k) (record { to = None; skips = is_skip a; held = after a held; code = statement_code a held x })
        (second_by (direct b held x) (is_skip b) (after b held) (held_behind (both_of (after a held) (after b held))) (statement_code b held x) k) (held_behind (both_of (after a held) (after b held))) k) k ns (marks held e)
    both_ways =
        let known = (sizes a held facts.sized).after in
        let known_b = (sizes b held facts.sized).after in
        ways_marked a b one two held held e e x x (held_behind (both_of (after a held) (after b held))) k ns size facts_a facts_b outs_a outs_b
        (rests (keeps_first (after a held) (after b held) known known_b) known (λ f g. or_first (entered a e).after (entered b e).after f g) on)
        (rests (keeps_second (after a held) (after b held) known known_b) known_b (λ f g. or_second (entered a e).after (entered b e).after f g) on)
        (λ label j. branch_code c false label x.values (x.pad held) j) (marks held e)
        (λ j ls long m other begins. branch_marked c false _ x.values (x.pad held) j ls (marks held e) x.values long facts.sound.0 other begins (λ t. stays_there m (failing t)))

    by : (to : Option ℕ) → direct a held x ≡ to → (other : Option ℕ) → direct b held x ≡ other
        → Begins (choice_code (λ sense label k. branch_code c sense label x.values (x.pad held) k) to other
        (record { to = None; skips = is_skip a; held = after a held; code = statement_code a held x }) (record { to = direct b held x; skips = is_skip b; held = after b held; code = statement_code b held x })
        (held_behind (both_of (after a held) (after b held))) k) k ns (marks held e)
    by (Some label) is None also =
        let never = direct_none a held e x label is in
        let r = two held e x k ns size facts_b (promised (λ h f i g. pr.after h f (ap (λ o. both_of o (after b held)) never.0 ∙ i) (ap (λ o. or_of o (entered b e).after) never.1 ∙ g)) outs_b) in
        let to = direct_brings a held e x ns outs_a label is in
        begins_further r (branch_marked c true label x.values (x.pad held) (statement_code b held x k) r.marks (marks held e) x.values (marked_long r.marked size) facts.sound.0 (stays_there r.marked to) (begins_label size r) (λ t. stays_there r.marked (failing t)))
    by (Some label) is (Some l) also = both_ways
    by None is _ also = both_ways

-- ---- a handler

start_within : (held : Nodes) (hs : List Nodes) (h : Nodes) → IsIn h hs → Within (handled_by held (all_of hs)) h
start_within held hs h m = by (all_of hs) refl
  where
    by : (o : Option Nodes) → all_of hs ≡ o → Within (handled_by held o) h
    by None e = absurd (let g = some_of h hs m in none_some g.0 (sym e ∙ g.1))
    by (Some g) e = λ i b. all_within h hs g m e i (within_left g held i b)

or_else_some : (o : Option Bool) (e g : Bool) → o ≡ Some g → or_else_of o e ≡ g
or_else_some None e g i = cc
or_else_some (Some v) e g i = cc

module _ (p : _) (a : Statement) (q : _) (b : Statement) (one : StatementMarked a) (two : StatementMarked b) (held : Nodes) (e : Bool) (x : Site) (k : List Instr) (ns : List (Option Marks)) (size : length ns ≡ length k)
    (facts : Facts (S.Try' p a q b) held e x) (pr : Promises (S.Try' p a q b) held e x ns) where
  abbrev start_try : Nodes
  start_try = handled_by held (all_of (fails a held))

  abbrev eb : Bool
  eb = or_else_of (entered a e).fails e

  abbrev whole_try : Option Nodes
  whole_try = both_of (after a held) (after b (handled_by held (all_of (fails a held))))

  known_a : AnySized (after a held)
  known_a = (sizes a held facts.sized).after

  start_size : length (handled_by held (all_of (fails a held))) ≡ NODE_REGISTERS
  start_size = handled_sized held (fails a held) facts.sized (sizes a held facts.sized).fails

  known_b : AnySized (after b (handled_by held (all_of (fails a held))))
  known_b = (sizes b (handled_by held (all_of (fails a held))) start_size).after

  outs_try : Outs (S.Try' p a q b) held e x ns
  outs_try = outs_of pr

  facts_b : Facts b (handled_by held (all_of (fails a held))) (or_else_of (entered a e).fails e) x
  facts_b = record { sized = start_size; sound = facts.sound.1; enters = facts.enters.1; slots = facts.slots.1; turns = facts.turns.1; depth = right_max (loops a) (loops b) MAX_DEPTH facts.depth; exits = facts.exits }

  outs_b : Outs b (handled_by held (all_of (fails a held))) (or_else_of (entered a e).fails e) x ns
  outs_b = record {
    fails = fails_by b (handled_by held (all_of (fails a held))) (or_else_of (entered a e).fails e) x outs_try refl (λ h i. i) (λ f g. one_itself _ f g);
    breaks = breaks_by b (handled_by held (all_of (fails a held))) (or_else_of (entered a e).fails e) x outs_try refl (λ h i. in_right h (breaks a held) (breaks b (handled_by held (all_of (fails a held)))) i)
        (λ f g. or_second (entered a e).breaks (entered b (or_else_of (entered a e).fails e)).breaks f g);
  }

  on_try : (h : Nodes) (f : Bool) → both_of (after a held) (after b (handled_by held (all_of (fails a held)))) ≡ Some h → or_of (entered a e).after (entered b (or_else_of (entered a e).fails e)).after ≡ Some f → Brings ns (length k) (marks h f)
  on_try h f i g = subst (λ l. Brings ns l (marks h f)) size (pr.after h f i g)

  abbrev kept_try : Nodes
  kept_try = held_behind (both_of (after a held) (after b (handled_by held (all_of (fails a held)))))

  abbrev behind_b : Second
  behind_b = second_by (direct b (handled_by held (all_of (fails a held))) x) (is_skip b) (after b (handled_by held (all_of (fails a held)))) (held_behind (both_of (after a held) (after b (handled_by held (all_of (fails a held))))))
      (statement_code b (handled_by held (all_of (fails a held))) x) k

  handler : Other behind_b.code k behind_b.label ns (marks (handled_by held (all_of (fails a held))) (or_else_of (entered a e).fails e))
  handler = second_marked b two (handled_by held (all_of (fails a held))) (or_else_of (entered a e).fails e) x (held_behind (both_of (after a held) (after b (handled_by held (all_of (fails a held)))))) k ns size facts_b outs_b
      (rests (keeps_second (after a held) (after b (handled_by held (all_of (fails a held)))) known_a known_b) known_b (λ f g. or_second (entered a e).after (entered b (or_else_of (entered a e).fails e)).after f g) on_try) (direct b (handled_by held (all_of (fails a held))) x) refl

  size_handler : length handler.list ≡ length behind_b.code
  size_handler = marked_long handler.marked size

  abbrev base_try : Pads
  base_try = record { code = behind_b.code; pad = pad_at (handled_by held (all_of (fails a held))) behind_b.label x.pad; are_some = false }

  padded_try : Padded (pads_of all_sets (fails a held) (handled_by held (all_of (fails a held))) behind_b.label base_try) base_try (fails a held) all_sets (handled_by held (all_of (fails a held))) (entered a e).fails handler.list
  padded_try = pads_marked (fails a held) (handled_by held (all_of (fails a held))) behind_b.label base_try x.pad (λ h. refl) handler.list size_handler (sizes a held facts.sized).fails start_size (start_within held (fails a held)) (entered a e).fails
      (λ g i. subst (λ v. Brings handler.list behind_b.label (marks (handled_by held (all_of (fails a held))) v)) (or_else_some (entered a e).fails e g i) handler.begins) all_sets

  abbrev pads_try : Pads
  pads_try = pads_of all_sets (fails a held) (handled_by held (all_of (fails a held))) behind_b.label base_try

  size_padded : length padded_try.list ≡ length pads_try.code
  size_padded = marked_long padded_try.marked size_handler

  short_try : (behind_b.jumps || pads_try.are_some) ≡ false → length pads_try.code ≡ length k
  short_try j =
      let h = or_parts behind_b.jumps pads_try.are_some j in
      ap length (pads_none all_sets (fails a held) (handled_by held (all_of (fails a held))) behind_b.label base_try h.1)
      ∙ second_short (direct b (handled_by held (all_of (fails a held))) x) b (handled_by held (all_of (fails a held))) x (held_behind (both_of (after a held) (after b (handled_by held (all_of (fails a held)))))) k h.0

  behind_a : Joined (joining_code (after a held) (held_behind (both_of (after a held) (after b (handled_by held (all_of (fails a held)))))) (behind_b.jumps || pads_try.are_some) (length k) pads_try.code) pads_try.code padded_try.list (after a held) (entered a e).after
  behind_a = joining_marked (after a held) (entered a e).after (held_behind (both_of (after a held) (after b (handled_by held (all_of (fails a held)))))) (behind_b.jumps || pads_try.are_some) (length k) pads_try.code padded_try.list size_padded
      (λ h f i g. keeps_label (marked_further padded_try.marked handler.marked) (first_label (behind_b.jumps || pads_try.are_some) (length k) (length pads_try.code) short_try)
      (rests (keeps_first (after a held) (after b (handled_by held (all_of (fails a held)))) known_a known_b) known_a (λ f g. or_first (entered a e).after (entered b (or_else_of (entered a e).fails e)).after f g) on_try h f i g))

  abbrev inner_try : Site
  inner_try = record x { pad = pads_try.pad }

  body_begins : Begins (statement_code a held inner_try (joining_code (after a held) (held_behind (both_of (after a held) (after b (handled_by held (all_of (fails a held)))))) (behind_b.jumps || pads_try.are_some) (length k) pads_try.code)) (joining_code (after a held) (held_behind (both_of (after a held) (after b (handled_by held (all_of (fails a held)))))) (behind_b.jumps || pads_try.are_some) (length k) pads_try.code) behind_a.list (marks held e)
  body_begins = one held e inner_try (joining_code (after a held) (held_behind (both_of (after a held) (after b (handled_by held (all_of (fails a held)))))) (behind_b.jumps || pads_try.are_some) (length k) pads_try.code) behind_a.list (marked_long behind_a.marked size_padded)
      (record { sized = facts.sized; sound = facts.sound.0; enters = facts.enters.0; slots = facts.slots.0; turns = facts.turns.0; depth = left_max (loops a) (loops b) MAX_DEPTH facts.depth; exits = facts.exits })
      (record {
        after = behind_a.begins;
        fails = λ h f i g. stays_there behind_a.marked (padded_try.brings h f (inl (one_of_all h ((sizes a held facts.sized).fails h i))) i g);
        breaks = λ h f exit i g is.
            let b' = breaks_by a held e inner_try outs_try refl (λ h i. in_left h (breaks a held) (breaks b (handled_by held (all_of (fails a held)))) i) (λ f g. or_first (entered a e).breaks (entered b (or_else_of (entered a e).fails e)).breaks f g) h f exit i g is in
            (b'.0, stays_there (marked_further behind_a.marked (marked_further padded_try.marked handler.marked)) b'.1);
      })

  try_begins : Begins (statement_code a held inner_try (joining_code (after a held) kept_try (behind_b.jumps || pads_try.are_some) (length k) pads_try.code)) k ns (marks held e)
  try_begins = record { marks = body_begins.marks; marked = marked_further body_begins.marked (marked_further behind_a.marked (marked_further padded_try.marked handler.marked)); begins = body_begins.begins }

try_marked : (p : _) (a : Statement) (q : _) (b : Statement) → StatementMarked a → StatementMarked b → StatementMarked (S.Try' p a q b)
try_marked p a q b one two held e x k ns size facts pr = try_begins p a q b one two held e x k ns size facts pr

-- ---- loops

some_mark : (o : Option Nodes) (s : Option Bool) → Nodes → Option Marks
some_mark None s held = None
some_mark (Some h) None held = None
some_mark (Some h) (Some f) held = Some (marks held f)

mark_is : (o : Option Nodes) (s : Option Bool) (held : Nodes) (m : Marks) → some_mark o s held ≡ Some m → (h : Nodes) × (f : Bool) × (o ≡ Some h) × (s ≡ Some f) × (marks held f ≡ m)
unfolding some_mark
mark_is None s held m e = absurd (none_some m e)
mark_is (Some h) None held m e = absurd (none_some m e)
mark_is (Some h) (Some f) held m e = let n : marks held f ≡ m = cc in (h, f, refl, refl, n)

is_mark : (o : Option Nodes) (s : Option Bool) (held h : Nodes) (f : Bool) → o ≡ Some h → s ≡ Some f → some_mark o s held ≡ Some (marks held f)
unfolding some_mark
is_mark None s held h f e g = absurd (none_some h e)
is_mark (Some k) None held h f e g = absurd (none_some f g)
is_mark (Some k) (Some t) held h f e g = let n : t ≡ f = cc in ap (λ z. Some (marks held z)) n

-- the code after the end of a loop
pub record Rest (leaves : Bool) (held : Nodes) (p : Option Bool) (c k : List Instr) (ns : List (Option Marks)) : Type 0 where
  pub list : List (Option Marks)
  pub marked : Marked c list k ns
  pub begins : (w : Bool) → leaves ≡ true → p ≡ Some w → Brings list (length list) (marks held w)

module _ (a : Statement) (one : StatementMarked a) (held : Nodes) (e : Bool) (x : Site) (k : List Instr) (ns : List (Option Marks)) (size : length ns ≡ length k) (sized : length held ≡ NODE_REGISTERS)
    (sound : IsWellFormed a x.values x.nodes held true) (keeps : KeepsHeld (after a held) held) (enters_once : EntersOnce a e) (stays_open : IfSome (entered a e).after (λ f. f ≡ true → e ≡ true)) (slots : AllSlots a x.nodes) (all_turn : AllTurn a)
    (deep : loops a < MAX_DEPTH) (whole_of : Option Nodes) (sized_whole : AnySized whole_of) (leaves : Bool) (says : (h : Nodes) → after a held ≡ Some h → leaves ≡ true) (whole_is : leaves ≡ true → whole_of ≡ Some (held_behind whole_of))
    (within_held : leaves ≡ true → Within (held_behind whole_of) held) (broken_is : (h : Nodes) → IsIn h (breaks a held) → (whole_of ≡ Some (held_behind whole_of)) × Within (held_behind whole_of) h) (p : Option Bool)
    (promise : (h : Nodes) (f : Bool) → whole_of ≡ Some h → p ≡ Some f → Brings ns (length k) (marks h f)) (by_after : (f : Bool) → (entered a e).after ≡ Some f → OneOf p f) (by_breaks : (f : Bool) → (entered a e).breaks ≡ Some f → OneOf p f)
    (failing : (h : Nodes) (f : Bool) → IsIn h (fails a held) → (entered a e).fails ≡ Some f → Brings ns (x.pad h) (marks h f)) where
  abbrev out_of_loop : Exit
  out_of_loop = record { label = length k; held = held_behind whole_of }

  abbrev site_inside : Site
  site_inside = record x { exit = Some out_of_loop }

  abbrev code_behind : List Instr
  code_behind = if leaves then release_code (minus held (held_behind whole_of)) k else k

  rest_of_loop : Rest leaves held p code_behind k ns
  rest_of_loop = by leaves refl p refl
    where
      by : (l : Bool) → leaves ≡ l → (s : Option Bool) → p ≡ s → Rest l held p (if l then release_code (minus held (held_behind whole_of)) k else k) k ns
      by false i s g = record { list = ns; marked = none; begins = λ w t. cc }
      by true i None g = let d = dead_marked NODE_REGISTERS (minus held (held_behind whole_of)) k k ns ns none in record { list = d.0; marked = d.1; begins = λ w t is. absurd (none_some w (sym g ∙ is)) }
      by true i (Some v) g =
          let is = whole_is i in
          let size_kept = sized_whole (held_behind whole_of) is in
          let kept : both held (held_behind whole_of) ≡ held_behind whole_of = both_within held (held_behind whole_of) (sized ∙ sym size_kept) (within_held i) in
          let r = free_marked held (held_behind whole_of) v k ns size sized size_kept (subst (λ h. Brings ns (length k) (marks h v)) (sym kept) (promise (held_behind whole_of) v is g)) in
          record { list = r.marks; marked = r.marked; begins = λ w t is. let n : v ≡ w = let z : Some v ≡ Some w = sym g ∙ is in cc in subst (λ z. Brings r.marks (length r.marks) (marks held z)) n r.begins }

  size_rest : length rest_of_loop.list ≡ length code_behind
  size_rest = marked_long rest_of_loop.marked size

  abbrev last_marks : Option Marks
  last_marks = some_mark (after a held) (entered a e).after held

  same_held : (h : Nodes) → after a held ≡ Some h → h ≡ held
  same_held h i = subst (λ o. KeepsHeld o held) i keeps

  body_of_loop : Begins (statement_code a held site_inside (I.End ∷ code_behind)) (I.End ∷ code_behind) (last_marks ∷ rest_of_loop.list) (marks held e)
  body_of_loop = one held e site_inside (I.End ∷ code_behind) (last_marks ∷ rest_of_loop.list) (ap suc size_rest)
      (record {
        sized = sized;
        sound = sound;
        enters = enters_once;
        slots = slots;
        turns = all_turn;
        depth = omega (arith, deep);
        exits = λ exit is. let n : out_of_loop ≡ exit = cc in subst (λ (q : Exit). length q.held ≡ NODE_REGISTERS) n size_behind;
      })
      (record {
        after = λ h f i g.
            let n = is_mark (after a held) (entered a e).after held h f i g in
            let b = first_brings (marks held f) rest_of_loop.list in
            subst (λ o. Brings (o ∷ rest_of_loop.list) (suc (length rest_of_loop.list)) (marks h f)) (sym n) (subst (λ z. Brings (Some (marks held f) ∷ rest_of_loop.list) (suc (length rest_of_loop.list)) (marks z f)) (sym (same_held h i)) b);
        fails = λ h f i g. brings_on last_marks (stays_there rest_of_loop.marked (failing h f i g));
        breaks = λ h f exit i g is.
            let n : out_of_loop ≡ exit = cc in
            let b = broken_is h i in
            let o = by_breaks f g in
            subst (λ (q : Exit). Within q.held h × Brings (last_marks ∷ rest_of_loop.list) q.label (marks q.held f)) n
            (b.1, brings_on last_marks (stays_there rest_of_loop.marked (brings_less f o.more (promise (held_behind whole_of) o.value b.0 o.is))));
      })
    where
      size_behind : length (held_behind whole_of) ≡ NODE_REGISTERS
      size_behind = by whole_of sized_whole
        where
          by : (o : Option Nodes) → AnySized o → length (held_behind o) ≡ NODE_REGISTERS
          by None s = length-replicate NODE_REGISTERS false
          by (Some h) s = s h refl

  -- from the instruction that opens the loop
  loop_begins : (i : Instr) (w : ℕ) → kind i ≡ Opens w → (is_by i ≡ true → (leaves ≡ true) × OneOf p e) → Begins (i ∷ statement_code a held site_inside (I.End ∷ code_behind)) k ns (marks held e)
  loop_begins i w opens past =
      let r = body_of_loop in
      record {
        marks = Some (marks held e) ∷ r.marks;
        marked = turn opens (statement_nests a MAX_DEPTH held site_inside (I.End ∷ code_behind) (omega (arith, deep)) all_turn) r.marked r.begins
            (λ t. let q = past t in let o = q.1 in brings_less e o.more (rest_of_loop.begins o.value q.0 o.is)) (again r.marks r.begins) rest_of_loop.marked;
        begins = first_brings (marks held e) r.marks;
      }
    where
      again : (mb : List (Option Marks)) → Brings mb (length mb) (marks held e) → (m : Marks) → last_marks ≡ Some m → Brings rest_of_loop.list (length rest_of_loop.list) m × Brings mb (length mb) m
      again mb b m is =
          let l = mark_is (after a held) (entered a e).after held m is in
          let h = l.0 in let f = l.1 in
          let o = by_after f l.3 in
          let open_still : f ≡ true → e ≡ true = subst (λ s. IfSome s (λ g. g ≡ true → e ≡ true)) l.3 stays_open in (
            subst (λ z. Brings rest_of_loop.list (length rest_of_loop.list) z) l.4 (brings_less f o.more (rest_of_loop.begins o.value (says h l.2) o.is)),
            subst (λ z. Brings mb (length mb) z) l.4 (brings_less f open_still b),
          )

repeat_marked : (w : ℕ) (p : _) (a : Statement) → StatementMarked a → StatementMarked (S.Repeat' w p a)
repeat_marked w p a one held e x k ns size facts pr =
    let whole = behind_loop false (after a held) (breaks a held) held in
    let known = (sizes (S.Repeat' w p a) held facts.sized).after in
    loop_begins a one held e x k ns size facts.sized facts.sound.1 facts.sound.0 facts.enters.0 facts.enters.1 facts.slots facts.turns.1 (let d = facts.depth in omega (arith, d))
    (behind_loop false (after a held) (breaks a held) held) known (is_some (after a held)) (λ h i. ap is_some i) first_is first_within broken (or_of (entered a e).after (entered a e).breaks)
    (λ h f i g. subst (λ l. Brings ns l (marks h f)) size (pr.after h f i g)) (λ f g. or_first (entered a e).after (entered a e).breaks f g) (λ f g. or_second (entered a e).after (entered a e).breaks f g)
    (λ h f i g. pr.fails h f i g) (I.Repeat w) w refl (λ t. cc)
  where
    ended : (b : Bool) → b ≡ true → (if b then Some held else None) ≡ Some held
    ended true t = refl
    ended false t = cc

    first_is : is_some (after a held) ≡ true → behind_loop false (after a held) (breaks a held) held ≡ Some (held_behind (behind_loop false (after a held) (breaks a held) held))
    first_is t = (leaves_first held (if is_some (after a held) then Some held else None) (all_of (breaks a held))).is held (ended (is_some (after a held)) t)

    first_within : is_some (after a held) ≡ true → Within (held_behind (behind_loop false (after a held) (breaks a held) held)) held
    first_within t = (leaves_first held (if is_some (after a held) then Some held else None) (all_of (breaks a held))).within_held held (ended (is_some (after a held)) t)

    broken : (h : Nodes) → IsIn h (breaks a held) → (behind_loop false (after a held) (breaks a held) held ≡ Some (held_behind (behind_loop false (after a held) (breaks a held) held))) × Within (held_behind (behind_loop false (after a held) (breaks a held) held)) h
    broken h m =
        let g = some_of h (breaks a held) m in
        let l = leaves_second held (if is_some (after a held) then Some held else None) (all_of (breaks a held)) in
        (l.is g.0 g.1, λ i b. all_within h (breaks a held) g.0 m g.1 i (l.within g.0 g.1 i b))

up_to_marked : (n : Expression) (w : ℕ) (p : _) (a : Statement) → StatementMarked a → StatementMarked (S.RepeatUpTo' n w p a)
up_to_marked n w p a one held e x k ns size facts pr =
    let known = (sizes (S.RepeatUpTo' n w p a) held facts.sized).after in
    let u = behind n x.values in
    let r = register_of n x.values in
    let s = or_of (entered a e).after (entered a e).breaks in
    let f = x.pad held in
    let loop = loop_begins a one held e x k ns size facts.sized facts.sound.2 facts.sound.1 facts.enters.0 facts.enters.1 facts.slots facts.turns.1 (let d = facts.depth in omega (arith, d))
    (behind_loop true (after a held) (breaks a held) held) known true (λ h i. refl) (λ t. first_all.is held refl) (λ t. first_all.within_held held refl) broken (or_of (Some e) (or_of (entered a e).after (entered a e).breaks))
    (λ h g i j. subst (λ l. Brings ns l (marks h g)) size (pr.after h g i j))
    (λ g j. let o = or_first (entered a e).after (entered a e).breaks g j in let q = or_second (Some e) (or_of (entered a e).after (entered a e).breaks) o.value o.is in record { value = q.value; is = q.is; more = λ t. q.more (o.more t) })
    (λ g j. let o = or_second (entered a e).after (entered a e).breaks g j in let q = or_second (Some e) (or_of (entered a e).after (entered a e).breaks) o.value o.is in record { value = q.value; is = q.is; more = λ t. q.more (o.more t) })
    (λ h g i j. let o = or_second (Some e) (entered a e).fails g j in brings_less g o.more (pr.fails h o.value (inr i) o.is)) (I.RepeatBy r w) w refl
    (λ t. (refl, or_first (Some e) (or_of (entered a e).after (entered a e).breaks) e refl)) in
    let fail : Brings ns (x.pad held) (marks held e) = let o = or_first (Some e) (entered a e).fails e refl in brings_less e o.more (pr.fails held o.value (inl refl) o.is) in
    let body = loop_code (statement_code a held) true held (held_behind (behind_loop true (after a held) (breaks a held) held)) x k in
    let j = I.JumpIfLess u r (target_of (x.pad held)) in
    let less = one_more j (I.RepeatBy r w ∷ body) loop.marks (marks held e) (inl refl) (free_of_nodes j (marks held e) refl refl refl refl) refl loop.begins (to_label j loop.marks (marks held e) (x.pad held) refl (stays_there loop.marked fail)) in
    let i = I.Set u (pos w) in
    let bound = one_more i (j ∷ I.RepeatBy r w ∷ body) less.marks (marks held e) (inl refl) (free_of_nodes i (marks held e) refl refl refl refl) refl less.begins (nowhere i less.marks (marks held e) refl) in
    let number = operand_marked n x.values (x.pad held) (i ∷ j ∷ I.RepeatBy r w ∷ body) bound.marks (marks held e) x.values facts.sound.0 bound.begins (λ t. stays_there bound.marked (stays_there less.marked (stays_there loop.marked fail))) in
    begins_further loop (begins_further less (begins_further bound number))
  where
    first_all : Left held (Some held) (behind_loop true (after a held) (breaks a held) held)
    first_all = leaves_first held (Some held) (all_of (breaks a held))

    broken : (h : Nodes) → IsIn h (breaks a held) → (behind_loop true (after a held) (breaks a held) held ≡ Some (held_behind (behind_loop true (after a held) (breaks a held) held))) × Within (held_behind (behind_loop true (after a held) (breaks a held) held)) h
    broken h m =
        let g = some_of h (breaks a held) m in
        let l = leaves_second held (Some held) (all_of (breaks a held)) in
        (l.is g.0 g.1, λ i b. all_within h (breaks a held) g.0 m g.1 i (l.within g.0 g.1 i b))

-- ---- every statement

pub statement_marked : (a : Statement) → StatementMarked a
statement_marked S.Skip = skip_marked
statement_marked (S.Sequence' p a q b) = sequence_marked p a q b (statement_marked a) (statement_marked b)
statement_marked (S.Assign v n) = assign_marked v n
statement_marked (S.Write n f v) = write_marked n f v
statement_marked (S.Emit v) = emit_marked v
statement_marked (S.Free n) = free_marked_statement n
statement_marked (S.Descend n v) = descend_marked n v
statement_marked (S.Take n m) = take_marked n m
statement_marked S.Break = break_marked
statement_marked S.Return = return_marked
statement_marked S.Fail = fail_marked
statement_marked (S.If' c p a q b) = if_marked c p a q b (statement_marked a) (statement_marked b)
statement_marked (S.Let' v n p a) = let_marked v n p a (statement_marked a)
statement_marked (S.LetElse' v n p a q o) = let_else_marked v n p a q o (statement_marked a) (statement_marked o)
statement_marked (S.Lock' place p a q o) = lock_marked place p a q o (statement_marked a) (statement_marked o)
statement_marked (S.Try' p a q b) = try_marked p a q b (statement_marked a) (statement_marked b)
statement_marked (S.Repeat' w p a) = repeat_marked w p a (statement_marked a)
statement_marked (S.RepeatUpTo' n w p a) = up_to_marked n w p a (statement_marked a)
statement_marked (S.At' offset p a) = at_marked offset p a (statement_marked a)
