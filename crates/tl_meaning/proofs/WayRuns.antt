-- Two ways of a statement, and where they join.
use Rattle.std.proofs.Common.{◌≡◌, ℕ, zero, suc, ◌≤◌, List, [], ◌∷◌, ◌++◌, length, Bool, true, false, Option, Some, None, is_some, if◌then◌else◌, refl, sym, ap, ◌∙◌, subst, arith, append-nil, inl}
use Rattle.tl_instr.specs.declared.operand.TheConstants.{NODE_REGISTERS}
use Rattle.tl_instr.specs.declared.instr.Instr.{Instr}
use Rattle.tl_instr.specs.declared.instr.Instr.TheVariants as I
use Rattle.tl_tree_locking.specs.declared.action.Action.{Action}
use Rattle.tl_tree_locking.specs.declared.action.Action.TheVariants as did
use Rattle.tl_machine.specs.Runs.{State, Run, Held}
use Rattle.tl_machine.specs.Alone.{node}
use Rattle.tl_machine.specs.Left.{Frame}
use Rattle.tl_lowering.specs.declared.program.Statement.{Statement}
use Rattle.tl_lowering.specs.declared.program.Statement.TheVariants as S
use Rattle.tl_compiler.specs.Labels.{target_of}
use Rattle.tl_lowering.specs.Sets.{Nodes, holds, both, minus, same}
use Rattle.tl_lowering.specs.Outcomes.{after, fails, breaks}
use Rattle.tl_compiler.specs.Statements.{Site, Exit, release_code, way_out, direct, is_skip, joining_code, second_by, statement_code}
use Rattle.tl_meaning.specs.Meaning.{Ending, On, Breaks, Fails, Returns, Done, plain, and_then, free_by, leave_below, leave, leaving, behaviour}
use Rattle.tl_meaning.specs.Leading.{Leads, Runs, from_label, IsInside}
use Rattle.tl_compiler.specs.Tails.{Tail}
use Rattle.tl_meaning.specs.Endings.{Mirrors, IsSite, LeadsBy, StatementLeads}
use Rattle.tl_lowering.specs.Sound.{IsWellFormed}
use Rattle.tl_meaning.proofs.Steps.{stays, and_on, further_in, goes_to_label}
use Rattle.tl_compiler.proofs.TailLemmas.{tail_further, tail_length}
use Rattle.tl_compiler.proofs.Stretches.{tail_of_stretch}
use Rattle.tl_compiler.proofs.SetLemmas.{within_self, both_within, same_is}
use Rattle.tl_compiler.proofs.NumberStretches.{release_stretch}
use Rattle.tl_compiler.proofs.StatementStretches.{statement_stretch, joining_stretch}
use Rattle.tl_meaning.proofs.StatementRuns.{StatementRuns}
use Rattle.tl_meaning.proofs.SimpleRuns.{held_size, holds_there, further_site, released}
use Rattle.tl_compiler.proofs.WayLemmas.{second_short, Keeps}

-- nothing that is held has to be freed
pub leaves_all : (n : ℕ) (kept : Nodes) (s : State) → ((i : ℕ) → is_some (node s i) ≡ true → holds kept i ≡ true) → leave_below n kept s ≡ plain On s
leaves_all zero kept s h = refl
leaves_all (suc n) kept s h = by (holds kept n) refl (node s n) refl (leaves_all n kept s h)
  where
    by : (b : Bool) → holds kept n ≡ b → (o : Option Held) → node s n ≡ o → leave_below n kept s ≡ plain On s → and_then (if b then plain On s else free_by o n s) (leave_below n kept) ≡ plain On s
    by true e o f rest = rest
    by false e None f rest = rest
    by false e (Some g) f rest = let held = h n (ap is_some f) in cc

module _ {c : List Instr} (parents : List ℕ) (ready : Runs c) where
  target_by : (jumps : Bool) (done : ℕ) (k : List Instr) (fs : List Frame) (w : State) → Tail c (if jumps then I.Jump (target_of done) ∷ k else k) → IsInside c fs (length k) → done ≤ length k
      → Leads (from_label c parents fs (length (if jumps then I.Jump (target_of done) ∷ k else k)) w) [] (from_label c parents fs (if jumps then done else length k) w)
  target_by true done k fs w tail inside le = goes_to_label parents ready fs (I.Jump (target_of done)) k w w did.Plain done tail inside refl le refl
  target_by false done k fs w tail inside le = stays (from_label c parents fs (length k) w)

  jump_inside : (jumps : Bool) (done : ℕ) (k : List Instr) (fs : List Frame) → IsInside c fs (length k) → IsInside c fs (length (if jumps then I.Jump (target_of done) ∷ k else k))
  jump_inside true done k fs inside = further_in c fs (length k) (suc (length k)) (omega arith) inside
  jump_inside false done k fs inside = inside

  -- after a way, everything that isn't kept is freed
  pub joined : (A whole : Option Nodes) (kept : Nodes) → Keeps A whole kept → (F B : List Nodes) (x : Site) (jumps : Bool) (done : ℕ) (k : List Instr) (fs : List Frame)
      → Tail c (joining_code A kept jumps done k) → IsInside c fs (length k) → done ≤ length k
      → (from : Run) (o : Ending) (s : State) (events : List Action) → LeadsBy A F B c parents fs x (length (joining_code A kept jumps done k)) from o s events
      → StatementLeads whole F B c parents fs x (if jumps then done else length k) from (leaving whole (record { outcome = o; state = s; events = events }))
  joined A whole kept keeps F B x jumps done k fs tail inside le from Fails s events l = l
  joined A whole kept keeps F B x jumps done k fs tail inside le from Breaks s events l = l
  joined A whole kept keeps F B x jumps done k fs tail inside le from Returns s events l = l
  joined None whole kept keeps F B x jumps done k fs tail inside le from On s events l = let e = l.2 in cc
  joined (Some h) whole kept keeps F B x jumps done k fs tail inside le from On s events l =
      let e = l.2 in
      let same : h ≡ l.1 = cc in
      let agrees : Mirrors x.values h s l.0 = subst (λ g. Mirrors x.values g s l.0) (sym same) l.4 in
      let size = keeps.size h refl (held_size agrees) in
      let code = if jumps then I.Jump (target_of done) ∷ k else k in
      let r = released parents ready fs x.values h kept code s l.0 tail (jump_inside jumps done k fs inside) size agrees in
      let tail_then = tail_further tail (tail_of_stretch (release_stretch NODE_REGISTERS (minus h kept) code)) in
      let leads : Leads from (events ++ (leave kept s).events) (from_label c parents fs (if jumps then done else length k) r.state) =
      and_on l.3 (subst (λ es. Leads (from_label c parents fs (length (release_code (minus h kept) code)) l.0) es (from_label c parents fs (if jumps then done else length k) r.state)) (append-nil (leave kept s).events)
      (and_on r.leads (target_by jumps done k fs r.state tail_then inside le))) in
      let stays_held : both h kept ≡ kept = both_within h kept (held_size agrees ∙ sym size) (keeps.within h refl) in
      let ends : LeadsBy whole F B c parents fs x (if jumps then done else length k) from On (leave kept s).state (events ++ (leave kept s).events) =
      (r.state, kept, keeps.is h refl, leads, subst (λ g. Mirrors x.values g (leave kept s).state r.state) stays_held r.agrees) in
      let by_kept : StatementLeads whole F B c parents fs x (if jumps then done else length k) from (leaving (Some kept) (record { outcome = On; state = s; events = events })) =
      subst (λ o. LeadsBy whole F B c parents fs x (if jumps then done else length k) from o (leave kept s).state (events ++ (leave kept s).events)) (sym r.goes_on) ends in
      subst (λ w. StatementLeads whole F B c parents fs x (if jumps then done else length k) from (leaving w (record { outcome = On; state = s; events = events }))) (sym (keeps.is h refl)) by_kept

  -- a statement without code goes to its label
  pub direct_runs : (b : Statement) (held : Nodes) (x : Site) (fs : List Frame) (s u : State) (label : ℕ) (A : Option Nodes) (on : ℕ) → direct b held x ≡ Some label → Mirrors x.values held s u
      → StatementLeads A (fails b held) (breaks b held) c parents fs x on (from_label c parents fs label u) (behaviour parents b s)
  direct_runs S.Fail held x fs s u label A on e agrees =
      let same : x.pad held ≡ label = cc in
      (u, held, inl refl, subst (λ l. Leads (from_label c parents fs label u) [] (from_label c parents fs l u)) (sym same) (stays (from_label c parents fs label u)), agrees)
  direct_runs S.Break held x fs s u label A on e agrees = by x.exit refl e
    where
      by : (o : Option Exit) → x.exit ≡ o → way_out held o ≡ Some label → StatementLeads A [] (held ∷ []) c parents fs x on (from_label c parents fs label u) (plain Breaks s)
      by None f e = cc
      by (Some exit) f e = at (same exit.held held) refl e
        where
          at : (b : Bool) → same exit.held held ≡ b → (if b then Some exit.label else None) ≡ Some label → StatementLeads A [] (held ∷ []) c parents fs x on (from_label c parents fs label u) (plain Breaks s)
          at false g e = cc
          at true g e =
              let out : exit.label ≡ label = cc in
              let is_held : exit.held ≡ held = same_is exit.held held g in
              let none : leave exit.held s ≡ plain On s = leaves_all NODE_REGISTERS exit.held s (λ i h. ap (λ l. holds l i) is_held ∙ holds_there agrees i ∙ h) in
              let both_held : both held exit.held ≡ held = ap (both held) is_held ∙ both_within held held refl (within_self held) in (
                u,
                held,
                inl refl,
                exit,
                f,
                subst (λ (d : Done). Leads (from_label c parents fs label u) d.events (from_label c parents fs exit.label u)) (sym none)
                    (subst (λ l. Leads (from_label c parents fs label u) [] (from_label c parents fs l u)) (sym out) (stays (from_label c parents fs label u))),
                subst (λ (d : Done). Mirrors x.values (both held exit.held) d.state u) (sym none) (subst (λ h. Mirrors x.values h s u) (sym both_held) agrees),
              )
  direct_runs (S.At' offset p a) held x fs s u label A on e agrees = direct_runs a held x fs s u label A on e agrees
  direct_runs b held x fs s u label A on e agrees = cc

  -- the second way, from its start to where both ways join
  pub second_runs : (b : Statement) → StatementRuns parents ready b → (held : Nodes) (x : Site) (whole : Option Nodes) (kept : Nodes) → Keeps (after b held) whole kept → (k : List Instr) (fs : List Frame) (s u : State)
      → (to : Option ℕ) → direct b held x ≡ to → Tail c (second_by to (is_skip b) (after b held) kept (statement_code b held x) k).code → IsSite c fs x (length k)
      → IsWellFormed b x.values x.nodes held (is_some x.exit) → Mirrors x.values held s u
      → StatementLeads whole (fails b held) (breaks b held) c parents fs x (length k) (from_label c parents fs (second_by to (is_skip b) (after b held) kept (statement_code b held x) k).label u) (leaving whole (behaviour parents b s))
  second_runs b runs held x whole kept keeps k fs s u (Some label) e tail site sound agrees =
      let done = behaviour parents b s in
      let none : Keeps None whole kept = record { is = λ h f. cc; within = λ h f. absurd (let g : ◌≡◌ {A = Option Nodes} None (Some h) = f in cc); size = λ h f. absurd (let g : ◌≡◌ {A = Option Nodes} None (Some h) = f in cc) } in
      joined None whole kept none (fails b held) (breaks b held) x false 0 k fs tail site.inside (omega arith) (from_label c parents fs label u) done.outcome done.state done.events
      (direct_runs b held x fs s u label None (length k) e agrees)
  second_runs b runs held x whole kept keeps k fs s u None e tail site sound agrees =
      let done = behaviour parents b s in
      let code = joining_code (after b held) kept false 0 k in
      let long : length k ≤ length code = tail_length (tail_of_stretch (joining_stretch (after b held) kept false 0 k)) in
      joined (after b held) whole kept keeps (fails b held) (breaks b held) x false 0 k fs (tail_further tail (tail_of_stretch (statement_stretch b held x code))) site.inside (omega arith)
      (from_label c parents fs (length (statement_code b held x code)) u) done.outcome done.state done.events
      (runs held x code fs s u tail (further_site (length k) (length code) long site) sound agrees)

  -- the first way, from its start to where both ways join
  pub first_runs : (a b : Statement) → StatementRuns parents ready a → (held : Nodes) (y : Site) (whole : Option Nodes) (kept : Nodes) → Keeps (after a held) whole kept
      → (to : Option ℕ) (hb : Nodes) (x : Site) (k : List Instr) (fs : List Frame) (s u : State)
      → Tail c (statement_code a held y (joining_code (after a held) kept (second_by to (is_skip b) (after b hb) kept (statement_code b hb x) k).jumps (length k) (second_by to (is_skip b) (after b hb) kept (statement_code b hb x) k).code))
      → length k ≤ length (second_by to (is_skip b) (after b hb) kept (statement_code b hb x) k).code
      → IsSite c fs y (length k) → IsWellFormed a y.values y.nodes held (is_some y.exit) → Mirrors y.values held s u
      → StatementLeads whole (fails a held) (breaks a held) c parents fs y (length k)
      (from_label c parents fs (length (statement_code a held y (joining_code (after a held) kept (second_by to (is_skip b) (after b hb) kept (statement_code b hb x) k).jumps (length k) (second_by to (is_skip b) (after b hb) kept (statement_code b hb x) k).code))) u)
      (leaving whole (behaviour parents a s))
  first_runs a b runs held y whole kept keeps to hb x k fs s u tail longer site sound agrees =
      let second = second_by to (is_skip b) (after b hb) kept (statement_code b hb x) k in
      let done = behaviour parents a s in
      let code = joining_code (after a held) kept second.jumps (length k) second.code in
      let long : length second.code ≤ length code = tail_length (tail_of_stretch (joining_stretch (after a held) kept second.jumps (length k) second.code)) in
      let ends = joined (after a held) whole kept keeps (fails a held) (breaks a held) y second.jumps (length k) second.code fs (tail_further tail (tail_of_stretch (statement_stretch a held y code)))
      (further_in c fs (length k) (length second.code) longer site.inside) longer
      (from_label c parents fs (length (statement_code a held y code)) u) done.outcome done.state done.events
      (runs held y code fs s u tail (further_site (length k) (length code) (omega arith) site) sound agrees) in
      subst (λ on. StatementLeads whole (fails a held) (breaks a held) c parents fs y on (from_label c parents fs (length (statement_code a held y code)) u) (leaving whole done)) (at second.jumps refl) ends
    where
      at : (j : Bool) → (second_by to (is_skip b) (after b hb) kept (statement_code b hb x) k).jumps ≡ j → (if j then length k else length (second_by to (is_skip b) (after b hb) kept (statement_code b hb x) k).code) ≡ length k
      at true e = refl
      at false e = second_short to b hb x kept k e
