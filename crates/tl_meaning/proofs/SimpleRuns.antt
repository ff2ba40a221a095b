-- Statements that free, take, leave and follow one another.
use Rattle.std.proofs.Common.{◌≡◌, ◌≢◌, ℕ, zero, suc, ◌+◌, ◌-◌, ◌<◌, ◌≤◌, List, [], ◌∷◌, ◌++◌, length, get_or, true, false, not, ◌&&◌, Option, Some, None, is_some, refl, sym, ap, ◌∙◌, subst, arith, append-nil, inl}
use Rattle.std.specs.Prelude.{slice_set, IfSome}
use Rattle.std.proofs.lemmas.List.{length-set, get_or-set_other, get_or-replicate}
use Rattle.tl_instr.specs.declared.operand.TheConstants.{NODE_REGISTERS}
use Rattle.tl_instr.specs.declared.instr.Instr.{Instr}
use Rattle.tl_instr.specs.declared.instr.Instr.TheVariants as I
use Rattle.tl_tree.specs.Records.{record_at}
use Rattle.tl_tree_locking.specs.declared.action.Action.{Action}
use Rattle.tl_tree_locking.specs.declared.action.Action.TheVariants as did
use Rattle.tl_machine.specs.Runs.{State, Run, Held, Ended}
use Rattle.tl_machine.specs.Alone.{holding, onward, node, with_node}
use Rattle.tl_machine.specs.Left.{Frame}
use Rattle.tl_machine.proofs.Slots.{held_by}
use Rattle.tl_lowering.specs.declared.program.Statement.{Statement}
use Rattle.tl_lowering.specs.declared.program.Statement.TheVariants as S
use Rattle.tl_compiler.specs.Labels.{target_of}
use Rattle.tl_lowering.specs.Sets.{Nodes, none_held, holds, without_node, both, minus}
use Rattle.tl_lowering.specs.Outcomes.{next, going_on, after, fails, breaks}
use Rattle.tl_compiler.specs.Statements.{Site, Exit, release_code, leave_code, statement_code, held_behind}
use Rattle.tl_meaning.specs.Meaning.{Ending, On, Breaks, Fails, Returns, plain, after_events, and_then, free_by, leave, held_at, behaviour}
use Rattle.tl_meaning.specs.Leading.{Leads, Runs, from_label, IsInside}
use Rattle.tl_compiler.specs.Tails.{Tail}
use Rattle.tl_meaning.specs.Endings.{Mirrors, IsSite, LeadsBy, StatementLeads}
use Rattle.tl_lowering.specs.Sound.{IsWellFormed}
use Rattle.tl_meaning.proofs.Steps.{and_on, further_in, goes_to_next, goes_to_label, returns}
use Rattle.tl_compiler.proofs.TailLemmas.{tail_further, tail_behind, tail_length}
use Rattle.tl_compiler.proofs.Stretches.{tail_of_stretch}
use Rattle.tl_meaning.proofs.SetLemmas.{held_is, held_length, held_set}
use Rattle.tl_compiler.proofs.SetLemmas.{holds_minus, in_left, in_right}
use Rattle.tl_meaning.proofs.ReleaseRuns.{below, leave_sizes, held_then, release_step, kept_free, and_true}
use Rattle.tl_compiler.proofs.NumberStretches.{release_stretch}
use Rattle.tl_compiler.proofs.StatementStretches.{statement_stretch}
use Rattle.tl_meaning.proofs.StatementRuns.{prefixed, widened, StatementRuns}

pub agrees_free : {d : ℕ} {h : Nodes} {s u : State} (n : ℕ) → Mirrors d h s u → Mirrors d (without_node h n) (with_node s n None) (with_node u n None)
agrees_free {d} {h} {s} {u} n a = record {
  kept = kept_free n a.kept;
  values = a.values;
  nodes = length-set s.nodes n None ∙ a.nodes;
  held = held_set s.nodes n None ∙ ap (λ l. slice_set l n false) a.held;
}

pub held_size : {d : ℕ} {h : Nodes} {s u : State} → Mirrors d h s u → length h ≡ NODE_REGISTERS
held_size {d} {h} {s} {u} a = ap length (sym a.held) ∙ held_length s.nodes ∙ a.nodes

pub holds_there : {d : ℕ} {h : Nodes} {s u : State} → Mirrors d h s u → (i : ℕ) → holds h i ≡ is_some (node s i)
holds_there {d} {h} {s} {u} a i = ap (λ l. holds l i) (sym a.held) ∙ held_is s.nodes i

pub further_site : {c : List Instr} {fs : List Frame} {x : Site} (l m : ℕ) → l ≤ m → IsSite c fs x l → IsSite c fs x m
further_site {c} {fs} l m le site = record {
  inside = further_in c fs l m le site.inside;
  pads = λ h. let k = site.pads h in omega arith;
  exits = λ e is. let k = site.exits e is in omega arith;
  sizes = site.sizes;
}

-- a node moves to another register, which held one before
pub held_taken : (s : State) (n m : ℕ) (g : Held) → n ≢ m → holds (held_at s) n ≡ true → held_at (with_node (with_node (with_node s n None) m None) n (Some g)) ≡ without_node (held_at s) m
held_taken s n m g ne e =
    held_set (slice_set (slice_set s.nodes n None) m None) n (Some g)
    ∙ ap (λ l. slice_set l n true) (held_set (slice_set s.nodes n None) m None ∙ ap (λ l. slice_set l m false) (held_set s.nodes n None))
    ∙ back (held_at s) n m ne e
  where
    -- the first register holds a node again
    back : (l : Nodes) (n m : ℕ) → n ≢ m → holds l n ≡ true → slice_set (slice_set (slice_set l n false) m false) n true ≡ slice_set l m false
    back [] n m ne e = cc
    back (y ∷ l) zero zero ne e = absurd (ne refl)
    back (y ∷ l) zero (suc m) ne e = ap (λ b. b ∷ slice_set l m false) (sym e)
    back (y ∷ l) (suc n) zero ne e = ap (λ l. false ∷ l) (twice l n e)
      where
        twice : (l : Nodes) (n : ℕ) → holds l n ≡ true → slice_set (slice_set l n false) n true ≡ l
        twice [] n e = refl
        twice (y ∷ l) zero e = ap (λ b. b ∷ l) (sym e)
        twice (y ∷ l) (suc n) e = ap (λ l. y ∷ l) (twice l n e)
    back (y ∷ l) (suc n) (suc m) ne e = ap (λ l. y ∷ l) (back l n m (λ q. ne (ap suc q)) e)

-- everything that isn't kept is freed
pub record Released (c : List Instr) (parents : List ℕ) (fs : List Frame) (d on : ℕ) (held kept : Nodes) (from : Run) (s : State) : Type 0 where
  pub state : State
  pub leads : Leads from (leave kept s).events (from_label c parents fs on state)
  pub agrees : Mirrors d (both held kept) (leave kept s).state state
  pub goes_on : (leave kept s).outcome ≡ On

module _ {c : List Instr} (parents : List ℕ) (ready : Runs c) where
  pub released : (fs : List Frame) (d : ℕ) (held kept : Nodes) (k : List Instr) (s u : State) → Tail c (release_code (minus held kept) k) → IsInside c fs (length k)
      → length kept ≡ NODE_REGISTERS → Mirrors d held s u
      → Released c parents fs d (length k) held kept (from_label c parents fs (length (release_code (minus held kept) k)) u) s
  released fs d held kept k s u tail inside size agrees =
      let does = below parents ready fs k inside (minus held kept) kept d NODE_REGISTERS s u tail agrees.kept
      (λ i lt. holds_minus held kept i (held_size agrees ∙ sym size) ∙ ap (λ b. b && not (holds kept i)) (holds_there agrees i)) in
      let sizes = leave_sizes NODE_REGISTERS kept s in
      record {
        state = does.state;
        leads = does.leads;
        agrees = record {
          kept = does.kept;
          values = sizes.0 ∙ agrees.values;
          nodes = sizes.1 ∙ agrees.nodes;
          held = held_then kept s agrees.nodes size ∙ ap (λ h. both h kept) agrees.held;
        };
        goes_on = does.goes_on;
      }

  pub free_runs : (n : ℕ) → StatementRuns parents ready (S.Free n)
  free_runs n held x k fs s u tail site sound agrees =
      let h = held_by s.nodes n (subst (λ g. holds g n ≡ true) (sym agrees.held) sound) in
      let ends : StatementLeads (Some (without_node held n)) [] [] c parents fs x (length k) (from_label c parents fs (suc (length k)) u) (free_by (Some h.0) n s) =
      (with_node u n None, without_node held n, refl, release_step parents ready fs n k x.values s u h.0 h.1 tail site.inside agrees.kept, agrees_free n agrees) in
      subst (λ o. StatementLeads (Some (without_node held n)) [] [] c parents fs x (length k) (from_label c parents fs (suc (length k)) u) (free_by o n s)) (sym h.1) ends

  -- a node moves to another register
  pub moves : (fs : List Frame) (n m : ℕ) (k : List Instr) (s u : State) (d : ℕ) (g : Held) → Tail c (I.Move n m ∷ k) → IsInside c fs (length k) → node u m ≡ Some g
      → Leads (from_label c parents fs (suc (length k)) u) [] (from_label c parents fs (length k) (with_node (with_node u m None) n (Some g)))
  moves fs n m k s u d g tail inside is =
      goes_to_next parents ready fs (I.Move n m) k u (with_node (with_node u m None) n (Some g)) did.Plain tail inside refl
      (ap (λ o. holding (length c - suc (length k)) u o (λ h. onward (length c - suc (length k) + 1) (with_node (with_node u m None) n (Some h)))) is)

  pub take_runs : (n m : ℕ) → StatementRuns parents ready (S.Take n m)
  take_runs n m held x k fs s u tail site sound agrees =
      let h = held_by s.nodes n (subst (λ g. holds g n ≡ true) (sym agrees.held) sound.1) in
      let g = held_by s.nodes m (subst (λ g. holds g m ≡ true) (sym agrees.held) sound.2) in
      let from = from_label c parents fs (suc (suc (length k))) u in
      let t = with_node s n None in
      let w = with_node u n None in
      let code = I.Move n m ∷ k in
      let agrees_then = agrees_free n agrees in
      let still : node t m ≡ Some g.0 = get_or-set_other s.nodes n m None None (λ e. sound.0 (sym e)) ∙ g.1 in
      let still_there : node w m ≡ Some g.0 = ap (λ ns. get_or ns m None) agrees_then.kept.nodes ∙ still in
      let t' = with_node (with_node t m None) n (Some g.0) in
      let w' = with_node (with_node w m None) n (Some g.0) in
      let leads : Leads from (did.Free (h.0).node (record_at s.records (h.0).node) ∷ []) (from_label c parents fs (length k) w') =
      and_on (release_step parents ready fs n code x.values s u h.0 h.1 tail (further_in c fs (length k) (suc (length k)) (omega arith) site.inside) agrees.kept)
      (moves fs n m k s w x.values g.0 (tail_further tail (tail_behind (I.Release n) code)) site.inside still_there) in
      let nodes : held_at t' ≡ without_node held m =
      held_taken s n m g.0 sound.0 (subst (λ l. holds l n ≡ true) (sym agrees.held) sound.1) ∙ ap (λ l. without_node l m) agrees.held in
      let ends : StatementLeads (Some (without_node held m)) [] [] c parents fs x (length k) from
      (after_events (did.Free (h.0).node (record_at s.records (h.0).node) ∷ []) (plain On (with_node (with_node t m None) n (Some g.0)))) = (
        w',
        without_node held m,
        refl,
        leads,
        record {
          kept = record {
            values = agrees.kept.values;
            nodes = ap (λ ns. slice_set (slice_set (slice_set ns n None) m None) n (Some g.0)) agrees.kept.nodes;
            records = agrees.kept.records;
            size = agrees.kept.size;
          };
          values = agrees.values;
          nodes = length-set (slice_set (slice_set s.nodes n None) m None) n (Some g.0) ∙ length-set (slice_set s.nodes n None) m None ∙ length-set s.nodes n None ∙ agrees.nodes;
          held = nodes;
        },
      ) in
      let taken : StatementLeads (Some (without_node held m)) [] [] c parents fs x (length k) from
      (and_then (free_by (Some h.0) n s) (λ s. plain On (with_node (with_node s m None) n (node s m)))) =
      subst (λ o. StatementLeads (Some (without_node held m)) [] [] c parents fs x (length k) from
      (after_events (did.Free (h.0).node (record_at s.records (h.0).node) ∷ []) (plain On (with_node (with_node t m None) n o)))) (sym still) ends in
      subst (λ o. StatementLeads (Some (without_node held m)) [] [] c parents fs x (length k) from
      (and_then (free_by o n s) (λ s. plain On (with_node (with_node s m None) n (node s m))))) (sym h.1) taken

  pub return_runs : StatementRuns parents ready S.Return
  return_runs held x k fs s u tail site sound agrees =
      let none : (i : ℕ) → i < NODE_REGISTERS → holds none_held i ≡ false = λ i lt. get_or-replicate NODE_REGISTERS i false false lt in
      let code = I.Return ∷ k in
      let does = below parents ready fs code (further_in c fs (length k) (suc (length k)) (omega arith) site.inside) held none_held x.values NODE_REGISTERS s u tail agrees.kept
      (λ i lt. holds_there agrees i ∙ and_true (is_some (node s i)) ∙ ap (λ b. is_some (node s i) && not b) (sym (none i lt))) in
      let from = from_label c parents fs (length (release_code held code)) u in
      let after_tail = tail_further tail (tail_of_stretch (release_stretch NODE_REGISTERS held code)) in (
        does.state,
        subst (λ es. Leads from es (Ended does.state)) (append-nil (leave none_held s).events) (and_on does.leads (returns parents ready fs k does.state after_tail site.inside)),
        does.kept.records,
      )

  pub break_runs : StatementRuns parents ready S.Break
  break_runs held x k fs s u tail site sound agrees = by x.exit refl tail sound
    where
      by : (o : Option Exit) → x.exit ≡ o → Tail c (leave_code held o k) → is_some o ≡ true
          → StatementLeads None [] (held ∷ []) c parents fs x (length k) (from_label c parents fs (length (leave_code held o k)) u) (plain Breaks s)
      by None e tail some = cc
      by (Some exit) e tail some =
          let code = I.Jump (target_of exit.label) ∷ k in
          let r = released fs x.values held exit.held code s u tail (further_in c fs (length k) (suc (length k)) (omega arith) site.inside) (site.sizes exit e) agrees in
          let from = from_label c parents fs (length (release_code (minus held exit.held) code)) u in
          let after_tail = tail_further tail (tail_of_stretch (release_stretch NODE_REGISTERS (minus held exit.held) code)) in
          let jump = goes_to_label parents ready fs (I.Jump (target_of exit.label)) k r.state r.state did.Plain exit.label after_tail site.inside refl (site.exits exit e) refl in (
            r.state,
            held,
            inl refl,
            exit,
            e,
            subst (λ es. Leads from es (from_label c parents fs exit.label r.state)) (append-nil (leave exit.held s).events) (and_on r.leads jump),
            r.agrees,
          )

  -- one statement after another
  then_runs : (b : Statement) → StatementRuns parents ready b → (A : Option Nodes) (F B : List Nodes) (x : Site) (k : List Instr) (fs : List Frame) → Tail c (statement_code b (held_behind A) x k) → IsSite c fs x (length k)
      → IfSome A (λ h. IsWellFormed b x.values x.nodes h (is_some x.exit))
      → (from : Run) (o : Ending) (s : State) (events : List Action) → LeadsBy A F B c parents fs x (length (statement_code b (held_behind A) x k)) from o s events
      → StatementLeads (next A (after b)) (F ++ going_on A (fails b)) (B ++ going_on A (breaks b)) c parents fs x (length k) from (and_then (record { outcome = o; state = s; events = events }) (behaviour parents b))
  then_runs b runs A F B x k fs tail site sound from Fails s events l = (l.0, l.1, in_left l.1 F (going_on A (fails b)) l.2, l.3, l.4)
  then_runs b runs A F B x k fs tail site sound from Breaks s events l = (l.0, l.1, in_left l.1 B (going_on A (breaks b)) l.2, l.3, l.4, l.5, l.6)
  then_runs b runs A F B x k fs tail site sound from Returns s events l = l
  then_runs b runs None F B x k fs tail site sound from On s events l = let e = l.2 in cc
  then_runs b runs (Some h) F B x k fs tail site sound from On s events l =
      let same : h ≡ l.1 = let e = l.2 in cc in
      let agrees : Mirrors x.values h s l.0 = subst (λ g. Mirrors x.values g s l.0) (sym same) l.4 in
      let done = behaviour parents b s in
      let there = from_label c parents fs (length (statement_code b h x k)) l.0 in
      prefixed c parents (after b h) (F ++ fails b h) (B ++ breaks b h) fs x (length k) from there events l.3 done.outcome done.state done.events
      (widened c parents (after b h) (fails b h) (breaks b h) (F ++ fails b h) (B ++ breaks b h) fs x (length k) there (λ g m. in_right g F (fails b h) m) (λ g m. in_right g B (breaks b h) m) done.outcome done.state done.events
      (runs h x k fs s l.0 tail site sound agrees))

  pub sequence_runs : (a b : Statement) → StatementRuns parents ready a → StatementRuns parents ready b → (held : Nodes) (x : Site) (k : List Instr) (fs : List Frame) (s u : State)
      → Tail c (statement_code a held x (statement_code b (held_behind (after a held)) x k)) → IsSite c fs x (length k)
      → IsWellFormed a x.values x.nodes held (is_some x.exit) → IfSome (after a held) (λ h. IsWellFormed b x.values x.nodes h (is_some x.exit)) → Mirrors x.values held s u
      → StatementLeads (next (after a held) (after b)) (fails a held ++ going_on (after a held) (fails b)) (breaks a held ++ going_on (after a held) (breaks b)) c parents fs x (length k)
      (from_label c parents fs (length (statement_code a held x (statement_code b (held_behind (after a held)) x k))) u) (and_then (behaviour parents a s) (behaviour parents b))
  sequence_runs a b first second held x k fs s u tail site sound_a sound_b agrees =
      let code = statement_code b (held_behind (after a held)) x k in
      let long : length k ≤ length code = tail_length (tail_of_stretch (statement_stretch b (held_behind (after a held)) x k)) in
      let done = behaviour parents a s in
      then_runs b second (after a held) (fails a held) (breaks a held) x k fs (tail_further tail (tail_of_stretch (statement_stretch a held x code))) site sound_b
      (from_label c parents fs (length (statement_code a held x code)) u) done.outcome done.state done.events
      (first held x code fs s u tail (further_site (length k) (length code) long site) sound_a agrees)
