-- Loops with a fixed number of turns, and with a number of turns that is computed.
use Rattle.std.proofs.Common.{◌≡◌, ℕ, zero, suc, ◌-◌, ◌<◌, ◌≤◌, List, [], ◌∷◌, length, Bool, true, false, Option, Some, None, is_some, if◌then◌else◌, refl, sym, ap, ap₂, ◌∙◌, subst, arith, inl, inr}
use Rattle.std.specs.Prelude.{ℤ, pos, negsuc, nat_le}
use Rattle.std.specs.Int.Signed.{lt_z}
use Rattle.std.proofs.lemmas.Bool.{leb-true, leb-false, le-ltb, lt-ltb}
use Rattle.tl_instr.specs.declared.instr.Instr.{Instr}
use Rattle.tl_instr.specs.declared.instr.Instr.TheVariants as I
use Rattle.tl_tree_locking.specs.declared.action.Action.{Action}
use Rattle.tl_tree_locking.specs.declared.action.Action.TheVariants as did
use Rattle.tl_budget.proofs.LoopLemmas.{nests}
use Rattle.tl_machine.specs.Runs.{State, Run}
use Rattle.tl_machine.specs.Alone.{turn_count, up_to, jump_if, value, with_value}
use Rattle.tl_machine.specs.Left.{Frame}
use Rattle.tl_lowering.specs.declared.program.Expression.{Expression}
use Rattle.tl_lowering.specs.declared.program.Statement.{Statement}
use Rattle.tl_compiler.specs.Labels.{target_of}
use Rattle.tl_compiler.specs.Aiming.{at_positions}
use Rattle.tl_lowering.specs.Sets.{Nodes, minus}
use Rattle.tl_lowering.specs.Outcomes.{behind_loop, after, fails, breaks}
use Rattle.tl_compiler.specs.Statements.{Site, release_code, counted_code, held_behind, loop_code, statement_code}
use Rattle.tl_meaning.specs.Meaning.{Ending, On, Fails, Done, plain, number, given as given_number, counted, leaving, turns, broken, behaviour}
use Rattle.tl_meaning.specs.Leading.{Leads, Runs, from_label}
use Rattle.tl_compiler.specs.Tails.{Tail}
use Rattle.tl_lowering.specs.Sound.{IsReadable, IsWellFormed, KeepsHeld}
use Rattle.tl_meaning.specs.Endings.{Mirrors, IsSite, LeadsBy, StatementLeads}
use Rattle.tl_compiler.proofs.TailLemmas.{fetch, tail_further, tail_behind, tail_length}
use Rattle.tl_meaning.proofs.Steps.{further_in, in_range, goes_to_next, goes_to_label}
use Rattle.tl_meaning.proofs.NumberRuns.{OperandEnds, kept_below, kept_given, given, register_below, behind_above, operand_runs}
use Rattle.tl_compiler.proofs.NumberStretches.{operand_tail}
use Rattle.tl_compiler.proofs.Stretches.{tail_of_stretch}
use Rattle.tl_compiler.proofs.StatementStretches.{statement_stretch}
use Rattle.tl_meaning.proofs.LoopSteps.{skips}
use Rattle.tl_compiler.specs.Numbers.{register_of, behind}
use Rattle.tl_compiler.proofs.SizeLemmas.{AnySized}
use Rattle.tl_meaning.proofs.StatementRuns.{agrees_kept, readable_there, number_there, prefixed, widened, StatementRuns}
use Rattle.tl_meaning.proofs.LoopRuns.{keeps_end, on_by, end_long, inside_site, loop_runs}

module _ {c : List Instr} (parents : List ℕ) (ready : Runs c) where
  -- a loop of an accepted code has at least one turn
  some_turn : (w : ℕ) (k : List Instr) → Tail c (I.Repeat w ∷ k) → (more : ℕ) × (w ≡ suc more)
  some_turn w k tail = by w ((nests (at_positions c) ready.accepted.matched).opens (length c - suc (length k)) w (I.Repeat w) (fetch (I.Repeat w) k tail) refl).3
    where
      by : (w : ℕ) → 0 < w → (more : ℕ) × (w ≡ suc more)
      by zero lt = absurd (omega arith)
      by (suc more) lt = (more, refl)

  pub repeat_runs : (w : ℕ) (a : Statement) → StatementRuns parents ready a → (held : Nodes) (x : Site) (k : List Instr) (fs : List Frame) (s u : State)
      → Tail c (I.Repeat w ∷ loop_code (statement_code a held) (is_some (after a held)) held (held_behind (behind_loop false (after a held) (breaks a held) held)) x k) → IsSite c fs x (length k)
      → KeepsHeld (after a held) held → IsWellFormed a x.values x.nodes held true → AnySized (behind_loop false (after a held) (breaks a held) held) → Mirrors x.values held s u
      → StatementLeads (behind_loop false (after a held) (breaks a held) held) (fails a held) [] c parents fs x (length k)
      (from_label c parents fs (suc (length (loop_code (statement_code a held) (is_some (after a held)) held (held_behind (behind_loop false (after a held) (breaks a held) held)) x k))) u)
      (leaving (behind_loop false (after a held) (breaks a held) held) (broken (turns w (behaviour parents a) s)))
  repeat_runs w a ones held x k fs s u tail site keeps sound sized agrees =
      let whole = behind_loop false (after a held) (breaks a held) held in
      let code = loop_code (statement_code a held) (is_some (after a held)) held (held_behind whole) x k in
      let more = some_turn w code tail in
      let ends = loop_runs parents ready a held x false (is_some (after a held)) k fs (λ h e. ap is_some e) (λ h e. ap is_some e) ones site keeps sound sized (I.Repeat w) w more.0 s u tail refl refl more.1 agrees in
      subst (λ n. StatementLeads whole (fails a held) [] c parents fs x (length k) (from_label c parents fs (suc (length code)) u) (leaving whole (broken (turns n (behaviour parents a) s)))) (sym more.1) ends

  module _ (e : Expression) (w : ℕ) (a : Statement) (ones : StatementRuns parents ready a) (held : Nodes) (x : Site) (k : List Instr) (fs : List Frame) (s : State) (site : IsSite c fs x (length k))
      (keeps : KeepsHeld (after a held) held) (sound : IsWellFormed a x.values x.nodes held true) (sized : AnySized (behind_loop true (after a held) (breaks a held) held)) where
    abbrev whole : Option Nodes
    whole = behind_loop true (after a held) (breaks a held) held

    abbrev body : List Instr
    body = loop_code (statement_code a held) true held (held_behind whole) x k

    abbrev ends_at : Run → Done → Type 0
    ends_at from d = StatementLeads whole (held ∷ fails a held) [] c parents fs x (length k) from d

    abbrev bound_register : ℕ
    bound_register = behind e x.values

    abbrev turn_register : ℕ
    turn_register = register_of e x.values

    more_fails : (from : Run) (o : Ending) (t : State) (es : List Action) → LeadsBy whole (fails a held) [] c parents fs x (length k) from o t es → LeadsBy whole (held ∷ fails a held) [] c parents fs x (length k) from o t es
    more_fails from o t es l = widened c parents whole (fails a held) [] (held ∷ fails a held) [] fs x (length k) from (λ h m. inr m) (λ h m. m) o t es l

    -- from the instruction that opens the loop
    by_turns : (n : ℕ) (u : State) → Tail c (I.RepeatBy turn_register w ∷ body) → turn_count (I.RepeatBy turn_register w) w u.values ≡ n → Mirrors x.values held s u
        → ends_at (from_label c parents fs (suc (length body)) u) (leaving whole (broken (turns n (behaviour parents a) s)))
    by_turns zero u tail is agrees =
        let rest = release_code (minus held (held_behind whole)) k in
        let site_in = inside_site parents ready a held x true true k fs (λ h f. refl) (λ h f. refl) site sized in
        let inner : Site = record x { exit = Some (record { label = length k; held = held_behind whole }) } in
        let stretch = statement_stretch a held inner (I.End ∷ rest) in
        let long = tail_length (tail_of_stretch stretch) in
        let more = end_long parents ready a held x true true k fs (λ h f. refl) (λ h f. refl) in
        let skip = skips parents ready fs body rest stretch (I.RepeatBy turn_register w) w u tail refl refl (further_in c fs (length k) (length body) (omega (arith, long, more)) site.inside) is in
        let keeps_all = keeps_end a held true refl sized in
        let all = leaving whole (plain On s) in
        more_fails (from_label c parents fs (suc (length body)) u) all.outcome all.state all.events
        (on_by parents ready a held x true true k fs (λ h f. refl) (λ h f. refl) true refl keeps_all site (from_label c parents fs (suc (length body)) u) s u []
        (tail_further tail (tail_further (tail_behind (I.RepeatBy turn_register w) body) (tail_further (tail_of_stretch stretch) (tail_behind I.End rest)))) skip agrees)
    by_turns (suc more) u tail is agrees =
        let all = leaving whole (broken (turns (suc more) (behaviour parents a) s)) in
        more_fails (from_label c parents fs (suc (length body)) u) all.outcome all.state all.events
        (loop_runs parents ready a held x true true k fs (λ h f. refl) (λ h f. refl) ones site keeps sound sized (I.RepeatBy turn_register w) w more s u tail refl refl is agrees)

    module _ (readable : IsReadable x.values held e) where
      abbrev tested : List Instr
      tested = I.JumpIfLess bound_register turn_register (target_of (x.pad held)) ∷ I.RepeatBy turn_register w ∷ body

      body_long : length k ≤ length body
      body_long =
          let inner : Site = record x { exit = Some (record { label = length k; held = held_behind whole }) } in
          let rest = release_code (minus held (held_behind whole)) k in
          let long = tail_length (tail_of_stretch (statement_stretch a held inner (I.End ∷ rest))) in
          let more = end_long parents ready a held x true true k fs (λ h f. refl) (λ h f. refl) in
          omega (arith, long, more)

      jump_by : (t : Bool) (u : State) → lt_z (value u bound_register) (value u turn_register) ≡ t → Tail c tested
          → Leads (from_label c parents fs (length tested) u) [] (from_label c parents fs (if t then x.pad held else suc (length body)) u)
      jump_by true u is tail =
          let le = site.pads held in
          let long = body_long in
          goes_to_label parents ready fs (I.JumpIfLess bound_register turn_register (target_of (x.pad held))) (I.RepeatBy turn_register w ∷ body) u u did.Plain (x.pad held) tail
          (further_in c fs (length k) (suc (length body)) (omega (arith, long)) site.inside) refl (omega (arith, le, long))
          (ap (λ b. jump_if b (length c - suc (suc (length body))) (length c - target_of (x.pad held)) u) is)
      jump_by false u is tail =
          let long = body_long in
          goes_to_next parents ready fs (I.JumpIfLess bound_register turn_register (target_of (x.pad held))) (I.RepeatBy turn_register w ∷ body) u u did.Plain tail
          (further_in c fs (length k) (suc (length body)) (omega (arith, long)) site.inside) refl
          (ap (λ b. jump_if b (length c - suc (suc (length body))) (length c - target_of (x.pad held)) u) is)

      fails_here : (from : Run) (u : State) → Leads from [] (from_label c parents fs (x.pad held) u) → Mirrors x.values held s u → ends_at from (plain Fails s)
      fails_here from u leads agrees = (u, held, inl refl, leads, agrees)

      -- with the number and the bound in their registers
      by_number : (n : ℤ) (u : State) → Tail c tested → value u turn_register ≡ n → value u bound_register ≡ pos w → Mirrors x.values held s u
          → ends_at (from_label c parents fs (length tested) u) (counted w n s (λ m. leaving whole (broken (turns m (behaviour parents a) s))))
      by_number (negsuc m) u tail is bound agrees =
          let jump = jump_by false u (ap₂ lt_z bound is) tail in
          let all = leaving whole (broken (turns 0 (behaviour parents a) s)) in
          prefixed c parents whole (held ∷ fails a held) [] fs x (length k) (from_label c parents fs (length tested) u) (from_label c parents fs (suc (length body)) u) [] jump all.outcome all.state all.events
          (by_turns 0 u (tail_further tail (tail_behind (I.JumpIfLess bound_register turn_register (target_of (x.pad held))) (I.RepeatBy turn_register w ∷ body))) (ap (up_to w) is) agrees)
      by_number (pos m) u tail is bound agrees = by (nat_le m w) refl
        where
          small : m ≤ w → up_to w (pos m) ≡ m
          small le = omega arith

          by : (b : Bool) → nat_le m w ≡ b → ends_at (from_label c parents fs (length tested) u) (if b then leaving whole (broken (turns m (behaviour parents a) s)) else plain Fails s)
          by false f =
              let less = leb-false m w f in
              fails_here (from_label c parents fs (length tested) u) u (jump_by true u (ap₂ lt_z bound is ∙ lt-ltb w m less) tail) agrees
          by true f =
              let le = leb-true m w f in
              let jump = jump_by false u (ap₂ lt_z bound is ∙ le-ltb w m le) tail in
              let all = leaving whole (broken (turns m (behaviour parents a) s)) in
              prefixed c parents whole (held ∷ fails a held) [] fs x (length k) (from_label c parents fs (length tested) u) (from_label c parents fs (suc (length body)) u) [] jump all.outcome all.state all.events
              (by_turns m u (tail_further tail (tail_behind (I.JumpIfLess bound_register turn_register (target_of (x.pad held))) (I.RepeatBy turn_register w ∷ body))) (ap (up_to w) is ∙ small le) agrees)

      -- the bound is put into its register
      bounded : (n : ℤ) (u : State) → Tail c (I.Set bound_register (pos w) ∷ tested) → value u turn_register ≡ n → Mirrors x.values held s u
          → ends_at (from_label c parents fs (suc (length tested)) u) (counted w n s (λ m. leaving whole (broken (turns m (behaviour parents a) s))))
      bounded n u tail is agrees =
          let v = with_value u bound_register (pos w) in
          let lt = (in_range parents ready (I.Set bound_register (pos w)) tested tail).0 in
          let g = given bound_register (pos w) bound_register u lt agrees.kept.size in
          let above = behind_above e x.values in
          let before = register_below e x.values held readable in
          let long = body_long in
          let all = counted w n s (λ m. leaving whole (broken (turns m (behaviour parents a) s))) in
          let step = goes_to_next parents ready fs (I.Set bound_register (pos w)) tested u v did.Plain tail (further_in c fs (length k) (length tested) (omega (arith, long)) site.inside) refl refl in
          prefixed c parents whole (held ∷ fails a held) [] fs x (length k) (from_label c parents fs (suc (length tested)) u) (from_label c parents fs (length tested) v) [] step all.outcome all.state all.events
          (by_number n v (tail_further tail (tail_behind (I.Set bound_register (pos w)) tested)) (g.values turn_register before (λ q. absurd (omega (arith, q, before))) ∙ is) g.here
          (agrees_kept agrees (kept_below above (kept_given (omega arith) g))))

      pub counted_runs : (u : State) → Tail c (counted_code e w x.values (x.pad held) body) → Mirrors x.values held s u
          → ends_at (from_label c parents fs (length (counted_code e w x.values (x.pad held) body)) u) (given_number (number parents e s) s (λ n. counted w n s (λ m. leaving whole (broken (turns m (behaviour parents a) s)))))
      counted_runs u tail agrees =
          by (number parents e s)
          (subst (OperandEnds parents ready fs e x.values (x.pad held) (I.Set bound_register (pos w) ∷ tested) (from_label c parents fs (length (counted_code e w x.values (x.pad held) body)) u) u) (number_there parents e agrees readable)
          (operand_runs parents ready fs e x.values (x.pad held) (I.Set bound_register (pos w) ∷ tested) u tail (let le = site.pads held in let long = body_long in omega (arith, le, long))
          (let long = body_long in further_in c fs (length k) (suc (length tested)) (omega (arith, long)) site.inside) (readable_there e agrees readable) agrees.kept.size))
        where
          by : (n : Option ℤ) → OperandEnds parents ready fs e x.values (x.pad held) (I.Set bound_register (pos w) ∷ tested) (from_label c parents fs (length (counted_code e w x.values (x.pad held) body)) u) u n
              → ends_at (from_label c parents fs (length (counted_code e w x.values (x.pad held) body)) u) (given_number n s (λ n. counted w n s (λ m. leaving whole (broken (turns m (behaviour parents a) s)))))
          by None l = fails_here (from_label c parents fs (length (counted_code e w x.values (x.pad held) body)) u) l.0 l.1 (agrees_kept agrees l.2)
          by (Some n) l =
              let all = counted w n s (λ m. leaving whole (broken (turns m (behaviour parents a) s))) in
              prefixed c parents whole (held ∷ fails a held) [] fs x (length k) (from_label c parents fs (length (counted_code e w x.values (x.pad held) body)) u) (from_label c parents fs (suc (length tested)) l.0) [] l.1 all.outcome all.state all.events
              (bounded n l.0 (tail_further tail (operand_tail e x.values (x.pad held) (I.Set bound_register (pos w) ∷ tested))) (l.2).here (agrees_kept agrees (l.2).kept))
