-- A choice by a condition.
use Rattle.std.proofs.Common.{◌≡◌, ℕ, ◌≤◌, List, [], ◌++◌, length, Bool, true, false, Option, Some, None, is_some, refl, sym, ap, ◌∙◌, subst, arith, append-nil}
use Rattle.tl_instr.specs.declared.operand.TheConstants.{NODE_REGISTERS}
use Rattle.tl_instr.specs.declared.instr.Instr.{Instr}
use Rattle.tl_tree_locking.specs.declared.action.Action.{Action}
use Rattle.tl_machine.specs.Runs.{State, Run}
use Rattle.tl_machine.specs.Left.{Frame}
use Rattle.tl_lowering.specs.declared.program.Condition.{Condition}
use Rattle.tl_lowering.specs.declared.program.Statement.{Statement}
use Rattle.tl_lowering.specs.declared.program.Statement.TheVariants as S
use Rattle.tl_compiler.specs.Numbers.{branch_code}
use Rattle.tl_lowering.specs.Sets.{Nodes, holds, both_of}
use Rattle.tl_lowering.specs.Outcomes.{condition_may_fail, here_if, after, fails, breaks}
use Rattle.tl_compiler.specs.Statements.{Site, direct, is_skip, Way, choice_code, held_behind, statement_code}
use Rattle.tl_meaning.specs.Meaning.{Ending, On, Breaks, Fails, Returns, plain, after_events, truth, chosen, leave, leaving, behaviour}
use Rattle.tl_meaning.specs.Leading.{Leads, Runs, from_label, Kept, ConditionLeads}
use Rattle.tl_compiler.specs.Tails.{Tail}
use Rattle.tl_lowering.specs.Sound.{IsTestable, IsWellFormed}
use Rattle.tl_meaning.specs.Endings.{Mirrors, IsSite, LeadsBy, StatementLeads}
use Rattle.tl_compiler.proofs.TailLemmas.{tail_further, tail_length}
use Rattle.tl_meaning.proofs.Steps.{further_in}
use Rattle.tl_compiler.proofs.Stretches.{tail_of_stretch}
use Rattle.tl_compiler.proofs.SetLemmas.{in_left, in_right}
use Rattle.tl_compiler.proofs.SizeLemmas.{sizes}
use Rattle.tl_compiler.proofs.NumberStretches.{branch_tail}
use Rattle.tl_meaning.proofs.ConditionRuns.{same_truth, branch_runs}
use Rattle.tl_compiler.proofs.StatementStretches.{statement_stretch}
use Rattle.tl_meaning.proofs.StatementRuns.{agrees_kept, here, prefixed, widened, StatementRuns}
use Rattle.tl_meaning.proofs.SimpleRuns.{held_size, holds_there}
use Rattle.tl_meaning.proofs.WayRuns.{leaves_all, second_runs}
use Rattle.tl_meaning.proofs.ChoiceRuns.{testable_there, condition_may_fail_at, direct_bound, second_bounds, second_at, first_at, first_tail, way_runs}
use Rattle.tl_compiler.proofs.WayLemmas.{keeps_first, keeps_second}

direct_after : (b : Statement) (held : Nodes) (x : Site) (label : ℕ) → direct b held x ≡ Some label → after b held ≡ None
direct_after S.Fail held x label e = refl
direct_after S.Break held x label e = refl
direct_after (S.At' offset p a) held x label e = direct_after a held x label e
direct_after b held x label e = cc

module _ (c : List Instr) (parents : List ℕ) where
  -- nothing is freed after a way
  unjoined : (A : Option Nodes) (F B : List Nodes) (fs : List Frame) (x : Site) (on : ℕ) (from : Run) (o : Ending) (s : State) (events : List Action) → LeadsBy A F B c parents fs x on from o s events
      → StatementLeads A F B c parents fs x on from (leaving A (record { outcome = o; state = s; events = events }))
  unjoined A F B fs x on from Fails s events l = l
  unjoined A F B fs x on from Breaks s events l = l
  unjoined A F B fs x on from Returns s events l = l
  unjoined None F B fs x on from On s events l = let e = l.2 in cc
  unjoined (Some h) F B fs x on from On s events l =
      let e = l.2 in
      let same : h ≡ l.1 = cc in
      let none : leave h s ≡ plain On s = leaves_all NODE_REGISTERS h s (λ i held. ap (λ g. holds g i) same ∙ holds_there l.4 i ∙ held) in
      let ends : StatementLeads (Some h) F B c parents fs x on from (after_events events (plain On s)) =
      (l.0, l.1, l.2, subst (λ es. Leads from es (from_label c parents fs on l.0)) (sym (append-nil events)) l.3, l.4) in
      subst (λ d. StatementLeads (Some h) F B c parents fs x on from (after_events events d)) (sym none) ends

module _ {c : List Instr} (parents : List ℕ) (ready : Runs c) (d : Condition) (a b : Statement) (ones : StatementRuns parents ready a) (twos : StatementRuns parents ready b) (held : Nodes) (x : Site) (k : List Instr) (fs : List Frame) (s u : State)
    (site : IsSite c fs x (length k)) (testable : IsTestable x.values held d) (sound_a : IsWellFormed a x.values x.nodes held (is_some x.exit)) (sound_b : IsWellFormed b x.values x.nodes held (is_some x.exit)) (agrees : Mirrors x.values held s u) where
  abbrev whole : Option Nodes
  whole = both_of (after a held) (after b held)

  abbrev failing : List Nodes
  failing = here_if (condition_may_fail d) held ++ (fails a held ++ fails b held)

  abbrev breaking : List Nodes
  breaking = breaks a held ++ breaks b held

  -- the condition itself fails
  failed : (on : ℕ) (from : Run) → truth parents d s ≡ None → (w : State) × Leads from [] (from_label c parents fs (x.pad held) w) × Kept x.values u w
      → StatementLeads whole failing breaking c parents fs x on from (plain Fails s)
  failed on from f l = (
    l.0,
    held,
    in_left held (here_if (condition_may_fail d) held) (fails a held ++ fails b held)
        (here (condition_may_fail d) held (condition_may_fail_at parents d x.values s (subst (λ h. IsTestable x.values h d) (sym agrees.held) testable) f)),
    l.1,
    agrees_kept agrees l.2,
  )

  -- the first way was taken, or the second one
  took_first : (from there : Run) → Leads from [] there → StatementLeads whole (fails a held) (breaks a held) c parents fs x (length k) there (leaving whole (behaviour parents a s))
      → StatementLeads whole failing breaking c parents fs x (length k) from (leaving whole (behaviour parents a s))
  took_first from there leads l =
      let all = leaving whole (behaviour parents a s) in
      prefixed c parents whole failing breaking fs x (length k) from there [] leads all.outcome all.state all.events
      (widened c parents whole (fails a held) (breaks a held) failing breaking fs x (length k) there
      (λ h m. in_right h (here_if (condition_may_fail d) held) (fails a held ++ fails b held) (in_left h (fails a held) (fails b held) m)) (λ h m. in_left h (breaks a held) (breaks b held) m) all.outcome all.state all.events l)

  took_second : (from there : Run) → Leads from [] there → StatementLeads whole (fails b held) (breaks b held) c parents fs x (length k) there (leaving whole (behaviour parents b s))
      → StatementLeads whole failing breaking c parents fs x (length k) from (leaving whole (behaviour parents b s))
  took_second from there leads l =
      let all = leaving whole (behaviour parents b s) in
      prefixed c parents whole failing breaking fs x (length k) from there [] leads all.outcome all.state all.events
      (widened c parents whole (fails b held) (breaks b held) failing breaking fs x (length k) there
      (λ h m. in_right h (here_if (condition_may_fail d) held) (fails a held ++ fails b held) (in_right h (fails a held) (fails b held) m)) (λ h m. in_right h (breaks a held) (breaks b held) m) all.outcome all.state all.events l)

  tested : (sense : Bool) (label : ℕ) (code : List Instr) → Tail c (branch_code d sense label x.values (x.pad held) code) → label ≤ length code → length k ≤ length code
      → ConditionLeads c parents fs sense label x.values (x.pad held) (length code) (from_label c parents fs (length (branch_code d sense label x.values (x.pad held) code)) u) u (truth parents d s)
  tested sense label code tail le long =
      let pad = site.pads held in
      subst (ConditionLeads c parents fs sense label x.values (x.pad held) (length code) (from_label c parents fs (length (branch_code d sense label x.values (x.pad held) code)) u) u)
      (same_truth parents d x.values held s u testable agrees.kept)
      (branch_runs parents ready fs d sense label x.values (x.pad held) code u tail (omega (arith, pad, long)) le (further_in c fs (length k) (length code) long site.inside) (testable_there d agrees testable) agrees.kept.size)

  by_ways : Tail c (first_at parents ready a held x (held_behind whole) (second_at parents ready b held x (held_behind whole) k) k) → (from : Run) (t : Option Bool) → truth parents d s ≡ t
      → ConditionLeads c parents fs false (second_at parents ready b held x (held_behind whole) k).label x.values (x.pad held) (length (first_at parents ready a held x (held_behind whole) (second_at parents ready b held x (held_behind whole) k) k)) from u t
      → StatementLeads whole failing breaking c parents fs x (length k) from (leaving whole (chosen t s (behaviour parents a) (behaviour parents b)))
  by_ways tail from None f l = failed (length k) from f l
  by_ways tail from (Some true) f l =
      let size = held_size agrees in
      let kept = held_behind whole in
      let ways = way_runs parents ready a b ones twos held held x x whole kept (keeps_first (after a held) (after b held) (sizes a held size).after (sizes b held size).after) (keeps_second (after a held) (after b held) (sizes a held size).after (sizes b held size).after)
      k fs tail site site sound_a sound_b in
      took_first from (from_label c parents fs (length (first_at parents ready a held x kept (second_at parents ready b held x kept k) k)) l.0) l.1 (ways.0 s l.0 (agrees_kept agrees l.2))
  by_ways tail from (Some false) f l =
      let size = held_size agrees in
      let kept = held_behind whole in
      let ways = way_runs parents ready a b ones twos held held x x whole kept (keeps_first (after a held) (after b held) (sizes a held size).after (sizes b held size).after) (keeps_second (after a held) (after b held) (sizes a held size).after (sizes b held size).after)
      k fs tail site site sound_a sound_b in
      took_second from (from_label c parents fs (second_at parents ready b held x kept k).label l.0) l.1 (ways.1 s l.0 (agrees_kept agrees l.2))

  by_jump : (label : ℕ) → direct a held x ≡ Some label → Tail c (statement_code b held x k) → (from : Run) (t : Option Bool) → truth parents d s ≡ t
      → ConditionLeads c parents fs true label x.values (x.pad held) (length (statement_code b held x k)) from u t
      → StatementLeads whole failing breaking c parents fs x (length k) from (leaving whole (chosen t s (behaviour parents a) (behaviour parents b)))
  by_jump label e tail from None f l = failed (length k) from f l
  by_jump label e tail from (Some true) f l =
      let size = held_size agrees in
      took_first from (from_label c parents fs label l.0) l.1
      (second_runs parents ready a ones held x whole (held_behind whole) (keeps_first (after a held) (after b held) (sizes a held size).after (sizes b held size).after) k fs s l.0 (Some label) e
      (tail_further tail (tail_of_stretch (statement_stretch b held x k))) site sound_a (agrees_kept agrees l.2))
  by_jump label e tail from (Some false) f l =
      let there = from_label c parents fs (length (statement_code b held x k)) l.0 in
      let done = behaviour parents b s in
      let is : after b held ≡ whole = ap (λ o. both_of o (after b held)) (sym (direct_after a held x label e)) in
      took_second from there l.1
      (subst (λ o. StatementLeads o (fails b held) (breaks b held) c parents fs x (length k) there (leaving o done)) is
      (unjoined c parents (after b held) (fails b held) (breaks b held) fs x (length k) there done.outcome done.state done.events
      (twos held x k fs s l.0 tail site sound_b (agrees_kept agrees l.2))))

  abbrev branching : Bool → ℕ → List Instr → List Instr
  branching sense label code = branch_code d sense label x.values (x.pad held) code

  abbrev one : Way
  one = record { to = None; skips = is_skip a; held = after a held; code = statement_code a held x }

  abbrev two : Way
  two = record { to = direct b held x; skips = is_skip b; held = after b held; code = statement_code b held x }

  by_both : Tail c (branching false (second_at parents ready b held x (held_behind whole) k).label (first_at parents ready a held x (held_behind whole) (second_at parents ready b held x (held_behind whole) k) k))
      → StatementLeads whole failing breaking c parents fs x (length k)
      (from_label c parents fs (length (branching false (second_at parents ready b held x (held_behind whole) k).label (first_at parents ready a held x (held_behind whole) (second_at parents ready b held x (held_behind whole) k) k))) u)
      (leaving whole (chosen (truth parents d s) s (behaviour parents a) (behaviour parents b)))
  by_both tail =
      let kept = held_behind whole in
      let second = second_at parents ready b held x kept k in
      let code = first_at parents ready a held x kept second k in
      let bounds = second_bounds b held x kept k site (direct b held x) refl in
      let long = tail_length (first_tail parents ready a held x kept second k) in
      by_ways (tail_further tail (branch_tail d false second.label x.values (x.pad held) code)) (from_label c parents fs (length (branching false second.label code)) u) (truth parents d s) refl
      (tested false second.label code tail (let le = bounds.1 in omega (arith, le, long)) (let le = bounds.0 in omega (arith, le, long)))

  pub if_by : (to other : Option ℕ) → direct a held x ≡ to → direct b held x ≡ other → Tail c (choice_code branching to other one two (held_behind whole) k)
      → StatementLeads whole failing breaking c parents fs x (length k) (from_label c parents fs (length (choice_code branching to other one two (held_behind whole) k)) u)
      (leaving whole (chosen (truth parents d s) s (behaviour parents a) (behaviour parents b)))
  if_by (Some label) None e f tail =
      let code = statement_code b held x k in
      let long = tail_length (tail_of_stretch (statement_stretch b held x k)) in
      by_jump label e (tail_further tail (branch_tail d true label x.values (x.pad held) code)) (from_label c parents fs (length (branching true label code)) u) (truth parents d s) refl
      (tested true label code tail (let le = direct_bound a held x (length k) label site e in omega (arith, le, long)) long)
  if_by (Some label) (Some l) e f tail = by_both tail
  if_by None other e f tail = by_both tail
