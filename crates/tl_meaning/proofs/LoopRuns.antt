-- Loops.
use Rattle.std.proofs.Common.{◌≡◌, ℕ, zero, suc, ◌≤◌, List, [], ◌∷◌, ◌++◌, length, Bool, true, false, ◌||◌, Option, Some, None, is_some, if◌then◌else◌, refl, sym, ◌∙◌, subst, arith, append-nil}
use Rattle.std.proofs.lemmas.List.{length-replicate}
use Rattle.tl_instr.specs.declared.operand.TheConstants.{NODE_REGISTERS}
use Rattle.tl_instr.specs.declared.instr.Instr.{Instr}
use Rattle.tl_instr.specs.declared.instr.Instr.TheVariants as I
use Rattle.tl_tree_locking.specs.declared.action.Action.{Action}
use Rattle.tl_budget.specs.Loops.{Opens, kind}
use Rattle.tl_machine.specs.Alone.{turn_count}
use Rattle.tl_compiler.specs.Aiming.{aimed}
use Rattle.tl_machine.specs.Runs.{State, Run}
use Rattle.tl_machine.specs.Left.{Frame}
use Rattle.tl_lowering.specs.declared.program.Statement.{Statement}
use Rattle.tl_lowering.specs.Sets.{Nodes, holds, both, all_of, minus}
use Rattle.tl_lowering.specs.Outcomes.{behind_loop, after, fails, breaks}
use Rattle.tl_compiler.specs.Statements.{Site, Exit, release_code, held_behind, loop_code, statement_code}
use Rattle.tl_meaning.specs.Meaning.{Ending, On, Breaks, Fails, Returns, and_then, leave, leaving, turns, broken, behaviour}
use Rattle.tl_meaning.specs.Leading.{Leads, Runs, from_label}
use Rattle.tl_compiler.specs.Among.{IsIn}
use Rattle.tl_compiler.specs.Tails.{Tail}
use Rattle.tl_meaning.specs.Endings.{Mirrors, IsSite, LeadsBy, StatementLeads}
use Rattle.tl_lowering.specs.Sound.{IsWellFormed, KeepsHeld}
use Rattle.tl_meaning.proofs.Steps.{and_on, further_in}
use Rattle.tl_compiler.proofs.TailLemmas.{tail_behind, tail_further, tail_length}
use Rattle.tl_compiler.proofs.Stretches.{Stretch, tail_of_stretch}
use Rattle.tl_compiler.proofs.SetLemmas.{Within, all_within, both_within}
use Rattle.tl_compiler.proofs.SizeLemmas.{AnySized, sizes}
use Rattle.tl_meaning.proofs.ReleaseRuns.{leave_on}
use Rattle.tl_compiler.proofs.StatementStretches.{statement_stretch, leaves_stretch}
use Rattle.tl_meaning.proofs.StatementRuns.{prefixed, StatementRuns}
use Rattle.tl_meaning.proofs.SimpleRuns.{held_size}
use Rattle.tl_compiler.proofs.WayLemmas.{Keeps, Leaves, leaves_first, leaves_second, some_of}
use Rattle.tl_meaning.proofs.WayRuns.{joined}
use Rattle.tl_meaning.proofs.LoopSteps.{frame, opens, closes_last, closes_again, out_of}

module _ {c : List Instr} (parents : List ℕ) (ready : Runs c) (a : Statement) (ones : StatementRuns parents ready a) (held : Nodes) (inner : Site) (rest : List Instr) (fs : List Frame) where
  abbrev body : List Instr
  body = statement_code a held inner (I.End ∷ rest)

  module _ (keeps : KeepsHeld (after a held) held) (site : IsSite c fs inner (length rest)) (tail : Tail c body) (sound : IsWellFormed a inner.values inner.nodes held (is_some inner.exit)) (long : suc (length body) ≤ length c) where
    ends : Stretch body (I.End ∷ rest)
    ends = statement_stretch a held inner (I.End ∷ rest)

    long_rest : suc (length rest) ≤ length c
    long_rest = let short = tail_length (tail_of_stretch ends) in omega (arith, short, long)

    in_loop : (more : ℕ) → IsSite c (frame c body rest more ∷ fs) inner (length (I.End ∷ rest))
    in_loop more = record {
      inside = omega arith;
      pads = λ h. let le = site.pads h in omega (arith, le);
      exits = λ e is. let le = site.exits e is in omega (arith, le);
      sizes = site.sizes;
    }

    same_held : (h : Nodes) → after a held ≡ Some h → h ≡ held
    same_held h e = subst (λ o. KeepsHeld o held) e keeps

    -- after a turn
    behind_turn : (more : ℕ)
        → ((s u : State) → Mirrors inner.values held s u → (m : ℕ) → suc m ≡ more → StatementLeads (after a held) (fails a held) (breaks a held) c parents fs inner (length rest) (from_label c parents (frame c body rest m ∷ fs) (length body) u) (turns more (behaviour parents a) s))
        → (from : Run) (o : Ending) (s : State) (events : List Action) → LeadsBy (after a held) (fails a held) (breaks a held) c parents (frame c body rest more ∷ fs) inner (suc (length rest)) from o s events
        → StatementLeads (after a held) (fails a held) (breaks a held) c parents fs inner (length rest) from (and_then (record { outcome = o; state = s; events = events }) (turns more (behaviour parents a)))
    behind_turn more again from Fails s events l =
        (l.0, l.1, l.2, subst (Leads from events) (out_of parents ready fs body rest ends more (inner.pad l.1) l.0 long_rest (site.pads l.1)) l.3, l.4)
    behind_turn more again from Breaks s events l =
        let e = l.3 in
        (l.0, l.1, l.2, e, l.4, subst (Leads from (events ++ (leave e.held s).events)) (out_of parents ready fs body rest ends more e.label l.0 long_rest (site.exits e l.4)) l.5, l.6)
    behind_turn more again from Returns s events l = l
    behind_turn zero again from On s events l =
        (l.0, l.1, l.2, and_on l.3 (closes_last parents ready fs body rest ends l.0 long_rest), l.4)
    behind_turn (suc m) again from On s events l =
        let d = turns (suc m) (behaviour parents a) s in
        let there = from_label c parents (frame c body rest m ∷ fs) (length body) l.0 in
        let agrees : Mirrors inner.values held s l.0 = subst (λ h. Mirrors inner.values h s l.0) (same_held l.1 l.2) l.4 in
        prefixed c parents (after a held) (fails a held) (breaks a held) fs inner (length rest) from there events
        (subst (λ es. Leads from es there) (append-nil events) (and_on l.3 (closes_again parents ready fs body rest ends m l.0 long))) d.outcome d.state d.events
        (again s l.0 agrees m refl)

    -- all turns, from the start of one on
    pub turns_run : (more : ℕ) (s u : State) → Mirrors inner.values held s u
        → StatementLeads (after a held) (fails a held) (breaks a held) c parents fs inner (length rest) (from_label c parents (frame c body rest more ∷ fs) (length body) u) (turns (suc more) (behaviour parents a) s)
    turns_run zero s u agrees =
        let d = behaviour parents a s in
        behind_turn zero (λ s u agrees m e. absurd (omega (arith, e))) (from_label c parents (frame c body rest 0 ∷ fs) (length body) u) d.outcome d.state d.events
        (ones held inner (I.End ∷ rest) (frame c body rest 0 ∷ fs) s u tail (in_loop 0) sound agrees)
    turns_run (suc more) s u agrees =
        let d = behaviour parents a s in
        behind_turn (suc more)
        (λ s u agrees m e. let same : m ≡ more = omega (arith, e) in subst (λ n. StatementLeads (after a held) (fails a held) (breaks a held) c parents fs inner (length rest) (from_label c parents (frame c body rest n ∷ fs) (length body) u) (turns (suc more) (behaviour parents a) s)) (sym same) (turns_run more s u agrees))
        (from_label c parents (frame c body rest (suc more) ∷ fs) (length body) u) d.outcome d.state d.events
        (ones held inner (I.End ∷ rest) (frame c body rest (suc more) ∷ fs) s u tail (in_loop (suc more)) sound agrees)

-- What is kept behind a loop, in the place of what is held where it ends: at the end of a turn or before the first one,
pub keeps_end : (a : Statement) (held : Nodes) (may_end : Bool) → (may_end || is_some (after a held)) ≡ true
    → let whole = behind_loop may_end (after a held) (breaks a held) held in AnySized whole → Keeps (Some held) whole (held_behind whole)
keeps_end a held may_end e = by (may_end || is_some (after a held)) e (leaves_first held (if may_end || is_some (after a held) then Some held else None) (all_of (breaks a held)))
  where
    whole : Option Nodes
    whole = behind_loop may_end (after a held) (breaks a held) held

    by : (b : Bool) → b ≡ true → Leaves held (if b then Some held else None) whole → AnySized whole → Keeps (Some held) whole (held_behind whole)
    by false e l sized = cc
    by true e l sized = record {
      is = λ h f. l.is held refl;
      within = λ h f i b. let same : held ≡ h = cc in subst (λ g. holds g i ≡ true) same (l.within held refl i b);
      size = λ h f s. sized (held_behind whole) (l.is held refl);
    }

-- and at a break
pub keeps_break : (a : Statement) (held : Nodes) (may_end : Bool) (h : Nodes) → IsIn h (breaks a held)
    → let whole = behind_loop may_end (after a held) (breaks a held) held in AnySized whole → Keeps (Some h) whole (held_behind whole)
keeps_break a held may_end h broken sized =
    let g = some_of h (breaks a held) broken in
    let ways = leaves_second held (if may_end || is_some (after a held) then Some held else None) (all_of (breaks a held)) in
    record {
      is = λ k f. ways.is g.0 g.1;
      within = λ k f i b. let same : h ≡ k = cc in subst (λ z. holds z i ≡ true) same (all_within h (breaks a held) g.0 broken g.1 i (ways.within g.0 g.1 i b));
      size = λ k f s. sized _ (ways.is g.0 g.1);
    }

module _ {c : List Instr} (parents : List ℕ) (ready : Runs c) (a : Statement) (held : Nodes) (x : Site) (may_end leaves : Bool) (k : List Instr) (fs : List Frame) (says : (h : Nodes) → after a held ≡ Some h → leaves ≡ true) (ended : (h : Nodes) → after a held ≡ Some h → (may_end || is_some (after a held)) ≡ true) where
  abbrev whole : Option Nodes
  whole = behind_loop may_end (after a held) (breaks a held) held

  abbrev out : Exit
  out = record { label = length k; held = held_behind whole }

  abbrev inside : Site
  inside = record x { exit = Some out }

  abbrev behind_end : List Instr
  behind_end = if leaves then release_code (minus held (held_behind whole)) k else k

  pub on_by : (b : Bool) → b ≡ true → Keeps (Some held) whole (held_behind whole) → IsSite c fs x (length k) → (from : Run) (s u : State) (events : List Action) → Tail c (if b then release_code (minus held (held_behind whole)) k else k)
      → Leads from events (from_label c parents fs (length (if b then release_code (minus held (held_behind whole)) k else k)) u) → Mirrors x.values held s u
      → StatementLeads whole (fails a held) [] c parents fs x (length k) from (leaving whole (record { outcome = On; state = s; events = events }))
  on_by false e keeps site from s u events tail leads agrees = cc
  on_by true e keeps site from s u events tail leads agrees =
      joined parents ready (Some held) whole (held_behind whole) keeps (fails a held) [] x false 0 k fs tail site.inside (omega arith) from On s events (u, held, refl, leads, agrees)

  -- after the turns
  finish : Tail c behind_end → IsSite c fs x (length k) → length held ≡ NODE_REGISTERS → KeepsHeld (after a held) held → AnySized whole
      → (from : Run) (o : Ending) (s : State) (events : List Action) → LeadsBy (after a held) (fails a held) (breaks a held) c parents fs inside (length behind_end) from o s events
      → StatementLeads whole (fails a held) [] c parents fs x (length k) from (leaving whole (broken (record { outcome = o; state = s; events = events })))
  finish tail site size keeps sized from Fails s events l = (l.0, l.1, l.2, l.3, l.4)
  finish tail site size keeps sized from Returns s events l = l
  finish tail site size keeps sized from On s events l =
      let same : l.1 ≡ held = subst (λ o. KeepsHeld o held) l.2 keeps in
      on_by leaves (says l.1 l.2) (keeps_end a held may_end (ended l.1 l.2) sized) site from s l.0 events tail l.3 (subst (λ h. Mirrors x.values h s l.0) same l.4)
  finish tail site size keeps sized from Breaks s events l =
      let h = l.1 in
      let e = l.3 in
      let f = l.4 in
      let same : out ≡ e = cc in
      let kept = held_behind whole in
      let keeps_h = keeps_break a held may_end h l.2 sized in
      let is : whole ≡ Some kept = keeps_h.is h refl in
      let within : Within kept h = keeps_h.within h refl in
      let leads : Leads from (events ++ (leave kept s).events) (from_label c parents fs (length k) l.0) =
      subst (λ (q : Exit). Leads from (events ++ (leave q.held s).events) (from_label c parents fs q.label l.0)) (sym same) l.5 in
      let agrees : Mirrors x.values (both h kept) (leave kept s).state l.0 =
      subst (λ (q : Exit). Mirrors x.values (both h q.held) (leave q.held s).state l.0) (sym same) l.6 in
      let h_size = (sizes a held size).breaks h l.2 in
      let is_kept : both h kept ≡ kept = both_within h kept (h_size ∙ sym (sized kept is)) within in
      let ends : LeadsBy whole (fails a held) [] c parents fs x (length k) from On (leave kept s).state (events ++ (leave kept s).events) =
      (l.0, kept, is, leads, subst (λ q. Mirrors x.values q (leave kept s).state l.0) is_kept agrees) in
      let by_kept : StatementLeads whole (fails a held) [] c parents fs x (length k) from (leaving (Some kept) (record { outcome = On; state = s; events = events })) =
      subst (λ o. LeadsBy whole (fails a held) [] c parents fs x (length k) from o (leave kept s).state (events ++ (leave kept s).events)) (sym (leave_on NODE_REGISTERS kept s)) ends in
      subst (λ w. StatementLeads whole (fails a held) [] c parents fs x (length k) from (leaving w (record { outcome = On; state = s; events = events }))) (sym is) by_kept

  kept_size : AnySized whole → length (held_behind whole) ≡ NODE_REGISTERS
  kept_size sized = by whole sized
    where
      by : (o : Option Nodes) → AnySized o → length (held_behind o) ≡ NODE_REGISTERS
      by None s = length-replicate NODE_REGISTERS false
      by (Some h) s = s h refl

  pub end_long : length k ≤ length behind_end
  end_long = tail_length (tail_of_stretch (leaves_stretch leaves (minus held (held_behind whole)) k))

  pub inside_site : IsSite c fs x (length k) → AnySized whole → IsSite c fs inside (length behind_end)
  inside_site site sized =
      let long = end_long in
      record {
        inside = further_in c fs (length k) (length behind_end) long site.inside;
        pads = λ h. let le = site.pads h in omega (arith, le, long);
        exits = λ e is. let same : out ≡ e = cc in subst (λ (q : Exit). q.label ≤ length behind_end) same long;
        sizes = λ e is. let same : out ≡ e = cc in subst (λ (q : Exit). length q.held ≡ NODE_REGISTERS) same (kept_size sized);
      }

  -- a loop with more + 1 turns, from the instruction that opens it
  pub loop_runs : StatementRuns parents ready a → IsSite c fs x (length k) → KeepsHeld (after a held) held → IsWellFormed a x.values x.nodes held true → AnySized whole
      → (i : Instr) (w more : ℕ) (s u : State) → Tail c (i ∷ loop_code (statement_code a held) leaves held (held_behind whole) x k) → kind i ≡ Opens w → kind (aimed (length c) i) ≡ Opens w → turn_count (aimed (length c) i) w u.values ≡ suc more → Mirrors x.values held s u
      → StatementLeads whole (fails a held) [] c parents fs x (length k) (from_label c parents fs (suc (length (loop_code (statement_code a held) leaves held (held_behind whole) x k))) u) (leaving whole (broken (turns (suc more) (behaviour parents a) s)))
  loop_runs ones site keeps sound sized i w more s u tail is is_aimed turns_are agrees =
      let code = statement_code a held inside (I.End ∷ behind_end) in
      let stretch = statement_stretch a held inside (I.End ∷ behind_end) in
      let size = held_size agrees in
      let long = end_long in
      let longer = tail_length (tail_of_stretch stretch) in
      let site_in = inside_site site sized in
      let tail_code = tail_further tail (tail_behind i code) in
      let opening = opens parents ready fs code behind_end stretch i w more u tail is is_aimed (further_in c fs (length k) (length code) (omega (arith, long, longer)) site.inside) turns_are in
      let d = turns (suc more) (behaviour parents a) s in
      let all = turns_run parents ready a ones held inside behind_end fs keeps site_in tail_code sound (tail_length tail) more s u agrees in
      let from = from_label c parents fs (suc (length code)) u in
      let there = from_label c parents (frame c code behind_end more ∷ fs) (length code) u in
      let tail_end = tail_further tail_code (tail_further (tail_of_stretch stretch) (tail_behind I.End behind_end)) in
      finish tail_end site size keeps sized from d.outcome d.state d.events
      (prefixed c parents (after a held) (fails a held) (breaks a held) fs inside (length behind_end) from there [] opening d.outcome d.state d.events all)
