-- The code of a procedure does what a call of its text means.
use Rattle.std.proofs.Common.{◌≡◌, ℕ, ◌+◌, ◌-◌, ◌≤◌, List, [], ◌∷◌, length, false, Option, Some, None, if◌then◌else◌, refl, sym, ap, ◌∙◌, subst, arith, append-nil}
use Rattle.std.specs.Prelude.{ℤ, pos, replicate, slice_get}
use Rattle.std.proofs.lemmas.List.{length-append, length-map, length-replicate}
use Rattle.tl_instr.specs.declared.operand.TheConstants.{VALUE_REGISTERS, NODE_REGISTERS}
use Rattle.tl_instr.specs.declared.instr.Instr.{Instr}
use Rattle.tl_instr.specs.declared.instr.Instr.TheVariants as I
use Rattle.tl_instr.specs.Codes.{CodeValue, IsCode}
use Rattle.tl_tree.specs.Records.{Records}
use Rattle.tl_tree_locking.specs.declared.action.Action.{Action}
use Rattle.tl_verify.specs.Acceptable.{Acceptable}
use Rattle.tl_machine.proofs.StartLemmas.{in_ranges}
use Rattle.tl_machine.specs.Runs.{State, Run, Held, Ended, actions, last_state}
use Rattle.tl_machine.specs.Alone.{alone, start}
use Rattle.tl_machine.specs.Left.{left}
use Rattle.tl_lowering.specs.declared.program.Statement.{Statement}
use Rattle.tl_compiler.specs.Aiming.{aimed, at_positions}
use Rattle.tl_lowering.specs.Sets.{none_held}
use Rattle.tl_lowering.specs.Outcomes.{after, fails, breaks}
use Rattle.tl_compiler.specs.Statements.{Site, procedure_code}
use Rattle.tl_meaning.specs.Calls.{DoesCall}
use Rattle.tl_meaning.specs.Meaning.{Ending, On, Breaks, Fails, Returns, Done, after_events, is_on, leave, behaviour}
use Rattle.tl_meaning.specs.Leading.{with_actions, Leads, Runs}
use Rattle.tl_meaning.specs.Endings.{Mirrors, IsSite, LeadsBy}
use Rattle.tl_compiler.specs.Among.{IsIn}
use Rattle.tl_lowering.specs.Sound.{IsWellFormed}
use Rattle.tl_meaning.specs.Told.{told}
use Rattle.tl_meaning.proofs.Steps.{and_on, returns}
use Rattle.tl_compiler.proofs.TailLemmas.{tail_whole}
use Rattle.tl_compiler.proofs.Stretches.{tail_of_stretch}
use Rattle.tl_meaning.proofs.NumberRuns.{kept_all}
use Rattle.tl_compiler.proofs.StatementStretches.{statement_stretch}
use Rattle.tl_meaning.proofs.EveryRuns.{every_runs}

actions_to_end : (acts : List Action) (u : State) → actions (with_actions acts (Ended u)) ≡ acts
actions_to_end [] u = refl
actions_to_end (a ∷ acts) u = ap (λ l. a ∷ l) (actions_to_end acts u)

last_at_end : (acts : List Action) (u : State) → last_state (with_actions acts (Ended u)) ≡ u
last_at_end [] u = refl
last_at_end (a ∷ acts) u = last_at_end acts u

told_to_end : (from : Run) (events : List Action) (u : State) → Leads from events (Ended u) → told (actions from) ≡ events
told_to_end from events u l = ap (λ x. told (actions x)) l.runs ∙ ap told (actions_to_end l.acts u) ∙ l.tells

last_to_end : (from : Run) (events : List Action) (u : State) → Leads from events (Ended u) → last_state from ≡ u
last_to_end from events u l = ap last_state l.runs ∙ last_at_end l.acts u

start_values : (args : List ℤ) (t : Records) → length args ≤ VALUE_REGISTERS → length (start args t).values ≡ VALUE_REGISTERS
start_values args t few =
    length-append args (replicate (VALUE_REGISTERS - length args) (pos 0))
    ∙ ap (λ n. length args + n) (length-replicate (VALUE_REGISTERS - length args) (pos 0))
    ∙ omega arith

-- the result of a call, given the result of its statement
abbrev call_of : Done → Done
call_of d = if is_on d.outcome then d else after_events d.events (leave none_held d.state)

-- the code of an accepted procedure, with labels in place of positions, satisfies `Runs`
pub accepted_runs : (code : List Instr) (c : CodeValue) → IsCode c → Acceptable c.instrs → c.instrs ≡ at_positions code → Runs code
accepted_runs code c valid accepted is =
    let long : length c.instrs ≡ length code = ap length is ∙ length-map code (aimed (length code)) in record {
      short = omega (arith, long, valid.count.1);
      accepted = subst Acceptable is accepted;
      ranges = λ p i at. in_ranges c valid p i (subst (λ instrs. slice_get instrs p ≡ Some i) (sym is) at);
    }

module _ (arity : ℕ) (parents : List ℕ) (body : Statement) (ready : Runs (procedure_code arity body)) (none : fails body none_held ≡ []) where
  abbrev code : List Instr
  code = procedure_code arity body

  abbrev site : Site
  site = record { values = arity; nodes = 0; pad = λ held. 1; exit = None }

  to_end : (from : Run) (o : Ending) (s : State) (events : List Action) → LeadsBy (after body none_held) (fails body none_held) (breaks body none_held) code parents [] site 1 from o s events
      → let d = call_of (record { outcome = o; state = s; events = events }) in (u : State) × Leads from d.events (Ended u) × (u.records ≡ d.state.records)
  to_end from On s events l =
      let u = l.0 in
      let last = returns parents ready [] [] u (tail_of_stretch (statement_stretch body none_held site (I.Return ∷ []))) tt in
      (u, subst (λ es. Leads from es (Ended u)) (append-nil events) (and_on l.3 last), (l.4).kept.records)
  to_end from Fails s events l = absurd (subst (IsIn l.1) none l.2)
  to_end from Breaks s events l = let e = l.4 in cc
  to_end from Returns s events l = l

  pub call_runs : IsWellFormed body arity 0 none_held false → (args : List ℤ) (t : Records) → length args ≤ VALUE_REGISTERS → DoesCall (at_positions code) parents body args t
  call_runs sound args t few =
      let s = start args t in
      let size = start_values args t few in
      let empty : Option Held = None in
      let agrees : Mirrors arity none_held s s = record { kept = kept_all arity s size; values = size; nodes = length-replicate NODE_REGISTERS empty; held = refl } in
      let is_site : IsSite code [] site 1 = record { inside = tt; pads = λ h. omega arith; exits = λ e is. cc; sizes = λ e is. cc } in
      let d = behaviour parents body s in
      let first : left (at_positions code) parents [] (length code - length code) s ≡ alone (at_positions code) parents args t = ap (λ p. left (at_positions code) parents [] p s) (omega arith) in
      let ends = to_end (left (at_positions code) parents [] (length code - length code) s) d.outcome d.state d.events
      (every_runs parents ready body none_held site (I.Return ∷ []) [] s s (tail_whole code) is_site sound agrees) in
      let run = alone (at_positions code) parents args t in
      let done = call_of d in
      let leads : Leads run done.events (Ended ends.0) = subst (λ r. Leads r done.events (Ended ends.0)) first ends.1 in
      (told_to_end run done.events ends.0 leads, ap (λ (w : State). w.records) (last_to_end run done.events ends.0 leads) ∙ ends.2)
