-- The result of compiling one procedure.
use Rattle.std.proofs.Common.{◌≡◌, ◌≢◌, ℕ, ◌<◌, ◌≤◌, List, [], ◌∷◌, length, reverse, sym, ◌∙◌, ap, subst, arith}
use Rattle.std.proofs.lemmas.List.{length-reverse}
use Rattle.tl_instr.specs.declared.code.TheConstants.{MAX_COUNT}
use Rattle.tl_instr.specs.declared.instr.Instr.{Instr}
use Rattle.tl_instr.specs.declared.instr.Instr.TheVariants as I
use Rattle.tl_budget.specs.Findings as loops
use Rattle.tl_budget.specs.Loops.{budget, lock_bound, emit_bound}
use Rattle.tl_budget.specs.declared.limits.TheConstants.{MAX_STEPS, MAX_LOCKS, MAX_EMITS}
use Rattle.tl_budget.specs.declared.fault.NestFault.TheVariants as nest
use Rattle.tl_verify.specs.declared.fault.VerifyFault.{VerifyFault}
use Rattle.tl_verify.specs.declared.fault.VerifyFault.TheVariants as verify
use Rattle.tl_verify.specs.Findings.{Finding, OfLoops, Steps, Locks, Emits, Arises, IsFirstFault, fault_of}
use Rattle.tl_lowering.specs.declared.program.Procedure.{Procedure}
use Rattle.tl_lowering.specs.declared.program.Statement.{Statement}
use Rattle.tl_lowering.specs.Sets.{none_held}
use Rattle.tl_compiler.specs.declared.fault.CompileFault.{CompileFault}
use Rattle.tl_compiler.specs.declared.fault.CompileFault.TheVariants as compile
use Rattle.tl_compiler.specs.Aiming.{at_positions}
use Rattle.tl_compiler.specs.Faults.{IsOver, IsCodeFault, IsVerifierFault, placed_code}
use Rattle.tl_compiler.specs.Rooms.{IsReady}
use Rattle.tl_compiler.specs.Safe.{IsSafe}
use Rattle.tl_compiler.specs.Statements.{procedure_code}
use Rattle.tl_compiler.proofs.Acceptance.{site_of, procedure_safe}
use Rattle.tl_compiler.proofs.StatementStretches.{statement_stretch}
use Rattle.tl_compiler.proofs.Stretches.{tail_of_stretch}
use Rattle.tl_compiler.proofs.TailLemmas.{tail_length}

-- the code ends with `ret`, so it isn't empty
pub some_instrs : (arity : ℕ) (body : Statement) (instrs : List Instr) → reverse instrs ≡ procedure_code arity body → 0 < length instrs
some_instrs arity body instrs is =
    let long = tail_length (tail_of_stretch (statement_stretch body none_held (site_of arity) (I.Return ∷ []))) in
    let same = sym (length-reverse instrs) ∙ ap length is in
    omega (arith, long, same)

pub safe_draft : (p : Procedure) (instrs : List Instr) → IsReady p → reverse instrs ≡ procedure_code p.arity p.body → length instrs ≤ MAX_COUNT → IsSafe (at_positions (reverse instrs))
safe_draft p instrs ready is few =
    let same = sym (length-reverse instrs) ∙ ap length is in
    subst (λ c. IsSafe (at_positions c)) (sym is) (procedure_safe p ready.in_order (omega (arith, same)))

-- ---- what the verifier finds of the sums

steps_found : (code : List Instr) (g : Finding) → Arises code g → verify.Nest nest.StepsOver ≡ fault_of g → MAX_STEPS < budget code
steps_found code Steps a e = a
steps_found code (OfLoops (loops.Alone p)) a e = cc
steps_found code (OfLoops (loops.Zero p)) a e = cc
steps_found code (OfLoops (loops.Deep p)) a e = cc
steps_found code (OfLoops (loops.Unclosed p)) a e = cc
steps_found code g a e = cc

locks_found : (code : List Instr) (g : Finding) → Arises code g → verify.Nest nest.LocksOver ≡ fault_of g → MAX_LOCKS < lock_bound code
locks_found code Locks a e = a
locks_found code (OfLoops (loops.Alone p)) a e = cc
locks_found code (OfLoops (loops.Zero p)) a e = cc
locks_found code (OfLoops (loops.Deep p)) a e = cc
locks_found code (OfLoops (loops.Unclosed p)) a e = cc
locks_found code g a e = cc

emits_found : (code : List Instr) (g : Finding) → Arises code g → verify.Nest nest.EmitsOver ≡ fault_of g → MAX_EMITS < emit_bound code
emits_found code Emits a e = a
emits_found code (OfLoops (loops.Alone p)) a e = cc
emits_found code (OfLoops (loops.Zero p)) a e = cc
emits_found code (OfLoops (loops.Deep p)) a e = cc
emits_found code (OfLoops (loops.Unclosed p)) a e = cc
emits_found code g a e = cc

pub of_code : (p : Procedure) (code : List Instr) (f : VerifyFault) (e : CompileFault) → code ≡ placed_code p → (f ≢ verify.Memory → IsFirstFault code f) → IsVerifierFault f e → IsCodeFault p e
of_code p code verify.Memory e same first v = subst (IsCodeFault p) (sym v) tt
of_code p code (verify.Nest nest.StepsOver) (compile.Over excess sum position) same first v =
    let h = first (λ e. cc) in
    subst (IsOver p) (sym v) (subst (λ c. MAX_STEPS < budget c) same (steps_found code h.finding h.arises h.fault))
of_code p code (verify.Nest nest.LocksOver) (compile.Over excess sum position) same first v =
    let h = first (λ e. cc) in
    subst (IsOver p) (sym v) (subst (λ c. MAX_LOCKS < lock_bound c) same (locks_found code h.finding h.arises h.fault))
of_code p code (verify.Nest nest.EmitsOver) (compile.Over excess sum position) same first v =
    let h = first (λ e. cc) in
    subst (IsOver p) (sym v) (subst (λ c. MAX_EMITS < emit_bound c) same (emits_found code h.finding h.arises h.fault))
of_code p code (verify.Nest nest.StepsOver) compile.Memory same first v = tt
of_code p code (verify.Nest nest.LocksOver) compile.Memory same first v = tt
of_code p code (verify.Nest nest.EmitsOver) compile.Memory same first v = tt
of_code p code f e same first v = absurd v
