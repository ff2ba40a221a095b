-- The code of every statement does what the statement means.
use Rattle.std.proofs.Common.{ℕ, List, [], ◌∷◌, length, true, false, Some, None, option_map, if◌then◌else◌, refl, sym, subst}
use Rattle.tl_instr.specs.declared.instr.Instr.{Instr}
use Rattle.tl_machine.specs.Alone.{with_value}
use Rattle.tl_lowering.specs.declared.program.Statement.{Statement}
use Rattle.tl_lowering.specs.declared.program.Statement.TheVariants as S
use Rattle.tl_lowering.specs.Sets.{both_of, all_of}
use Rattle.tl_lowering.specs.Outcomes.{locked, unlocked, handled_by, behind_loop, after, fails, breaks}
use Rattle.tl_compiler.specs.Statements.{direct, statement_code}
use Rattle.tl_meaning.specs.Meaning.{number, truth, after_events, is_on, lock_place, and_then, or_else, given, chosen, counted, leave, leaving, turns, broken, behaviour}
use Rattle.tl_meaning.specs.Leading.{Runs, from_label}
use Rattle.tl_meaning.specs.Endings.{StatementLeads}
use Rattle.tl_compiler.proofs.SizeLemmas.{sizes}
use Rattle.tl_meaning.proofs.StatementRuns.{StatementRuns, skip_runs, fail_runs, assign_runs, emit_runs, write_runs}
use Rattle.tl_meaning.proofs.SimpleRuns.{held_size, free_runs, take_runs, return_runs, break_runs, sequence_runs}
use Rattle.tl_meaning.proofs.ChoiceRuns.{let_runs, else_runs}
use Rattle.tl_meaning.proofs.IfRuns.{if_by}
use Rattle.tl_meaning.proofs.TryRuns.{try_runs}
use Rattle.tl_meaning.proofs.LockRuns.{lock_runs}
use Rattle.tl_meaning.proofs.DescendRuns.{descend_runs}
use Rattle.tl_meaning.proofs.RepeatRuns.{repeat_runs, counted_runs}

module _ {c : List Instr} (parents : List ℕ) (ready : Runs c) where
  pub every_runs : (a : Statement) → StatementRuns parents ready a
  every_runs S.Skip held x k fs s u tail site sound agrees = skip_runs parents ready held x k fs s u tail site sound agrees
  every_runs (S.Sequence' p a q b) held x k fs s u tail site sound agrees =
      sequence_runs parents ready a b (every_runs a) (every_runs b) held x k fs s u tail site sound.0 sound.1 agrees
  every_runs (S.Assign v e) held x k fs s u tail site sound agrees = assign_runs parents ready v e held x k fs s u tail site sound agrees
  every_runs (S.Write n f e) held x k fs s u tail site sound agrees = write_runs parents ready n f e held x k fs s u tail site sound agrees
  every_runs (S.Emit e) held x k fs s u tail site sound agrees = emit_runs parents ready e held x k fs s u tail site sound agrees
  every_runs (S.Free n) held x k fs s u tail site sound agrees = free_runs parents ready n held x k fs s u tail site sound agrees
  every_runs (S.Descend n e) held x k fs s u tail site sound agrees = descend_runs parents ready n e held x k fs s u tail site sound agrees
  every_runs (S.Take n m) held x k fs s u tail site sound agrees = take_runs parents ready n m held x k fs s u tail site sound agrees
  every_runs S.Break held x k fs s u tail site sound agrees = break_runs parents ready held x k fs s u tail site sound agrees
  every_runs S.Return held x k fs s u tail site sound agrees = return_runs parents ready held x k fs s u tail site sound agrees
  every_runs S.Fail held x k fs s u tail site sound agrees = fail_runs parents ready held x k fs s u tail site sound agrees
  every_runs (S.If' d p a q b) held x k fs s u tail site sound agrees =
      let code = statement_code (S.If' d p a q b) held x k in
      subst (λ h. StatementLeads (after (S.If' d p a q b) held) (fails (S.If' d p a q b) held) (breaks (S.If' d p a q b) held) c parents fs x (length k) (from_label c parents fs (length code) u)
      (leaving (both_of (after a h) (after b h)) (chosen (truth parents d s) s (behaviour parents a) (behaviour parents b)))) (sym agrees.held)
      (if_by parents ready d a b (every_runs a) (every_runs b) held x k fs s u site sound.0 sound.1 sound.2 agrees (direct a held x) (direct b held x) refl refl tail)
  every_runs (S.Let' v e p a) held x k fs s u tail site sound agrees =
      let code = statement_code (S.Let' v e p a) held x k in
      subst (λ h. StatementLeads (after a held) (fails (S.Let' v e p a) held) (breaks a held) c parents fs x (length k) (from_label c parents fs (length code) u)
      (leaving (after a h) (given (number parents e s) s (λ y. behaviour parents a (with_value s v y))))) (sym agrees.held)
      (let_runs parents ready v e a (every_runs a) held x k fs s u tail site sound.0 sound.1 sound.2 agrees)
  every_runs (S.LetElse' v e p a q o) held x k fs s u tail site sound agrees =
      let code = statement_code (S.LetElse' v e p a q o) held x k in
      subst (λ h. StatementLeads (after (S.LetElse' v e p a q o) held) (fails (S.LetElse' v e p a q o) held) (breaks (S.LetElse' v e p a q o) held) c parents fs x (length k) (from_label c parents fs (length code) u)
      (leaving (both_of (after a h) (after o h)) (elim (number parents e s) [ Some y ↦ behaviour parents a (with_value s v y) | None ↦ behaviour parents o s ]))) (sym agrees.held)
      (else_runs parents ready v e a o (every_runs a) (every_runs o) held x k fs s u tail site sound.0 sound.1 sound.2 sound.3 agrees)
  every_runs (S.Lock' place p a q o) held x k fs s u tail site sound agrees =
      let code = statement_code (S.Lock' place p a q o) held x k in
      let locking = lock_place parents place s in
      subst (λ h. StatementLeads (after (S.Lock' place p a q o) held) (fails (S.Lock' place p a q o) held) (breaks (S.Lock' place p a q o) held) c parents fs x (length k) (from_label c parents fs (length code) u)
      (leaving (option_map (unlocked place) (both_of (after a (locked place h)) (after o h)))
      (after_events locking.events (if is_on locking.outcome then behaviour parents a locking.state else behaviour parents o locking.state)))) (sym agrees.held)
      (lock_runs parents ready place a o (every_runs a) (every_runs o) held x k fs site sound.0 sound.1 sound.2 s u agrees tail)
  every_runs (S.Try' p a q b) held x k fs s u tail site sound agrees =
      let code = statement_code (S.Try' p a q b) held x k in
      subst (λ h. StatementLeads (after (S.Try' p a q b) held) (fails (S.Try' p a q b) held) (breaks (S.Try' p a q b) held) c parents fs x (length k) (from_label c parents fs (length code) u)
      (leaving (both_of (after a h) (after b (handled_by h (all_of (fails a h))))) (or_else (behaviour parents a s) (λ t. and_then (leave (handled_by h (all_of (fails a h))) t) (behaviour parents b))))) (sym agrees.held)
      (try_runs parents ready a b (every_runs a) (every_runs b) held x k fs site s u agrees tail sound.0 sound.1)
  every_runs (S.Repeat' w p a) held x k fs s u tail site sound agrees =
      let code = statement_code (S.Repeat' w p a) held x k in
      subst (λ h. StatementLeads (after (S.Repeat' w p a) held) (fails a held) [] c parents fs x (length k) (from_label c parents fs (length code) u)
      (leaving (behind_loop false (after a h) (breaks a h) h) (broken (turns w (behaviour parents a) s)))) (sym agrees.held)
      (repeat_runs parents ready w a (every_runs a) held x k fs s u tail site sound.0 sound.1 ((sizes (S.Repeat' w p a) held (held_size agrees)).after) agrees)
  every_runs (S.RepeatUpTo' e w p a) held x k fs s u tail site sound agrees =
      let code = statement_code (S.RepeatUpTo' e w p a) held x k in
      subst (λ h. StatementLeads (after (S.RepeatUpTo' e w p a) held) (held ∷ fails a held) [] c parents fs x (length k) (from_label c parents fs (length code) u)
      (given (number parents e s) s (λ y. counted w y s (λ n. leaving (behind_loop true (after a h) (breaks a h) h) (broken (turns n (behaviour parents a) s)))))) (sym agrees.held)
      (counted_runs parents ready e w a (every_runs a) held x k fs s site sound.1 sound.2 ((sizes (S.RepeatUpTo' e w p a) held (held_size agrees)).after) sound.0 u tail agrees)
  every_runs (S.At' offset p a) held x k fs s u tail site sound agrees = every_runs a held x k fs s u tail site sound agrees
