-- The code of statements does what they mean.
use Rattle.std.proofs.Common.{◌≡◌, ◌≢◌, ℕ, suc, ◌+◌, ◌-◌, ◌<◌, List, [], ◌∷◌, ◌++◌, length, map, get_or, Bool, true, false, Option, Some, None, is_some, refl, sym, ap, ap₂, ◌∙◌, subst, arith, append_assoc, ◌⊎◌, inl, inr}
use Rattle.std.specs.Prelude.{slice_set, ℤ, pos}
use Rattle.std.proofs.lemmas.List.{length-set, get_or-set_same, get_or-set_other}
use Rattle.std.proofs.lemmas.Bool.{cases_eq}
use Rattle.tl_instr.specs.declared.operand.TheConstants.{VALUE_REGISTERS}
use Rattle.tl_instr.specs.declared.instr.Instr.{Instr}
use Rattle.tl_instr.specs.declared.instr.Instr.TheVariants as I
use Rattle.tl_tree.specs.Records.{Records, record_at, put_record}
use Rattle.tl_tree.specs.Shape.{kids}
use Rattle.tl_tree_locking.specs.declared.action.Action.{Action}
use Rattle.tl_tree_locking.specs.declared.action.Action.TheVariants as did
use Rattle.tl_machine.specs.Runs.{State, Run, Held, Ended}
use Rattle.tl_machine.specs.Alone.{Step, effect, holding, value, node, with_value}
use Rattle.tl_machine.specs.Left.{Frame}
use Rattle.tl_machine.proofs.Slots.{held_by}
use Rattle.tl_lowering.specs.declared.program.Expression.{Expression}
use Rattle.tl_lowering.specs.declared.program.Expression.TheVariants as E
use Rattle.tl_lowering.specs.declared.program.Statement.{Statement}
use Rattle.tl_lowering.specs.declared.program.Statement.TheVariants as S
use Rattle.tl_compiler.specs.Labels.{target_of}
use Rattle.tl_compiler.specs.Numbers.{register_of, into_code, operand_code}
use Rattle.tl_lowering.specs.Sets.{Nodes, none_held, holds}
use Rattle.tl_lowering.specs.Outcomes.{may_fail, here_if, after, fails, breaks}
use Rattle.tl_compiler.specs.Statements.{Site, statement_code}
use Rattle.tl_meaning.specs.Meaning.{Ending, On, Breaks, Fails, Returns, Done, plain, telling, given, write, leave, of_node, number, held_at, behaviour}
use Rattle.tl_meaning.specs.Leading.{Leads, Runs, from_label, Kept, Given, NumberLeads}
use Rattle.tl_compiler.specs.Tails.{Tail}
use Rattle.tl_lowering.specs.Sound.{IsReadable, IsWellFormed}
use Rattle.tl_meaning.specs.Endings.{Mirrors, IsSite, LeadsBy, StatementLeads}
use Rattle.tl_compiler.specs.Among.{IsIn}
use Rattle.tl_meaning.proofs.Steps.{stays, and_on, further_in, goes_to_next, goes_to_label}
use Rattle.tl_compiler.proofs.TailLemmas.{tail_further}
use Rattle.tl_meaning.proofs.NumberRuns.{Operand, OperandEnds, same_number, kept_on, into_runs, into_range, operand_runs}
use Rattle.tl_compiler.proofs.NumberStretches.{operand_tail}
use Rattle.tl_meaning.proofs.ReleaseRuns.{below}

-- ---- states that agree

pub agrees_kept : {d : ℕ} {h : Nodes} {s u w : State} → Mirrors d h s u → Kept d u w → Mirrors d h s w
agrees_kept a k = record { kept = kept_on (omega arith) a.kept k; values = a.values; nodes = a.nodes; held = a.held }

pub agrees_given : {d e v : ℕ} {n : ℤ} {h : Nodes} {s u w : State} → Mirrors d h s u → v < VALUE_REGISTERS → Given v n d u w → ((i : ℕ) → i < e → i ≢ v → i < d)
    → Mirrors e h (with_value s v n) w
agrees_given {d} {e} {v} {n} {h} {s} {u} {w} a lt g fits = record {
  kept = record {
    values = λ i below. by i below (cases_eq i v);
    nodes = g.nodes ∙ a.kept.nodes;
    records = g.records ∙ a.kept.records;
    size = g.size;
  };
  values = length-set s.values v n ∙ a.values;
  nodes = a.nodes;
  held = a.held;
}
  where
    by : (i : ℕ) → i < e → (i ≡ v) ⊎ (i ≡ v → ⊥) → value w i ≡ value (with_value s v n) i
    by i below (inl same) = ap (value w) same ∙ g.here ∙ sym (get_or-set_same s.values v n (pos 0) (subst (λ k. v < k) (sym a.values) lt)) ∙ ap (value (with_value s v n)) (sym same)
    by i below (inr ne) = g.values i (fits i below ne) ne ∙ a.kept.values i (fits i below ne) ∙ sym (get_or-set_other s.values v i n (pos 0) ne)

pub readable_there : (e : Expression) {d : ℕ} {h : Nodes} {s u : State} → Mirrors d h s u → IsReadable d h e → IsReadable d (held_at u) e
readable_there e {d} {h} {s} {u} a r = subst (λ g. IsReadable d g e) (sym (ap (map is_some) a.kept.nodes ∙ a.held)) r

pub number_there : (parents : List ℕ) (e : Expression) {d : ℕ} {h : Nodes} {s u : State} → Mirrors d h s u → IsReadable d h e → number parents e u ≡ number parents e s
number_there parents e {d} {h} {s} {u} a r = same_number parents e d h s u r a.kept

-- a number without operations doesn't fail
pub may_fail_at : (parents : List ℕ) (e : Expression) (d : ℕ) (s : State) → IsReadable d (held_at s) e → number parents e s ≡ None → may_fail e ≡ true
may_fail_at parents (E.Constant w) d s r e = cc
may_fail_at parents (E.Value x) d s r e = cc
may_fail_at parents (E.Field n z) d s r e = let h = held_by s.nodes n r in let f = h.1 in absurd (by (node s n) f e)
  where
    by : (o : Option Held) → o ≡ Some (held_by s.nodes n r).0 → of_node o (λ (h : Held). get_or (record_at s.records h.node) z (pos 0)) ≡ None → ⊥
    by None f e = cc
    by (Some h) f e = cc
may_fail_at parents (E.Children n) d s r e = let h = held_by s.nodes n r in let f = h.1 in absurd (by (node s n) f e)
  where
    by : (o : Option Held) → o ≡ Some (held_by s.nodes n r).0 → of_node o (λ (h : Held). pos (length (kids parents h.node))) ≡ None → ⊥
    by None f e = cc
    by (Some h) f e = cc
may_fail_at parents (E.Calculated' o p a q b) d s r e = refl

pub here : (may : Bool) (h : Nodes) → may ≡ true → IsIn h (here_if may h)
here true h e = inl refl
here false h e = cc

-- ---- runs

module _ (c : List Instr) (parents : List ℕ) where
  -- events before it
  pub prefixed : (A : Option Nodes) (F B : List Nodes) (fs : List Frame) (x : Site) (on : ℕ) (from to : Run) (first : List Action) → Leads from first to
      → (o : Ending) (s : State) (events : List Action) → LeadsBy A F B c parents fs x on to o s events → LeadsBy A F B c parents fs x on from o s (first ++ events)
  prefixed A F B fs x on from to first leads On s events l = (l.0, l.1, l.2, and_on leads l.3, l.4)
  prefixed A F B fs x on from to first leads Fails s events l = (l.0, l.1, l.2, and_on leads l.3, l.4)
  prefixed A F B fs x on from to first leads Breaks s events l =
      let e = l.3 in (
        l.0,
        l.1,
        l.2,
        e,
        l.4,
        subst (λ es. Leads from es (from_label c parents fs e.label l.0)) (sym (append_assoc first events (leave e.held s).events)) (and_on leads l.5),
        l.6,
      )
  prefixed A F B fs x on from to first leads Returns s events l =
      (l.0, subst (λ es. Leads from es (Ended l.0)) (sym (append_assoc first events (leave none_held s).events)) (and_on leads l.1), l.2)

  -- with larger sets of failures and breaks
  pub widened : (A : Option Nodes) (F B G C : List Nodes) (fs : List Frame) (x : Site) (on : ℕ) (from : Run) → ((h : Nodes) → IsIn h F → IsIn h G) → ((h : Nodes) → IsIn h B → IsIn h C)
      → (o : Ending) (s : State) (events : List Action) → LeadsBy A F B c parents fs x on from o s events → LeadsBy A G C c parents fs x on from o s events
  widened A F B G C fs x on from f b On s events l = l
  widened A F B G C fs x on from f b Fails s events l = (l.0, l.1, f l.1 l.2, l.3, l.4)
  widened A F B G C fs x on from f b Breaks s events l = (l.0, l.1, b l.1 l.2, l.3, l.4, l.5, l.6)
  widened A F B G C fs x on from f b Returns s events l = l

module _ {c : List Instr} (parents : List ℕ) (ready : Runs c) where
  -- the code of the statement, in any context, does what the statement means
  abbrev pub StatementRuns : Statement → Type 0
  StatementRuns S = (held : Nodes) (x : Site) (k : List Instr) (fs : List Frame) (s u : State) → Tail c (statement_code S held x k) → IsSite c fs x (length k)
      → IsWellFormed S x.values x.nodes held (is_some x.exit) → Mirrors x.values held s u
      → StatementLeads (after S held) (fails S held) (breaks S held) c parents fs x (length k) (from_label c parents fs (length (statement_code S held x k)) u) (behaviour parents S s)

  pub skip_runs : StatementRuns S.Skip
  skip_runs held x k fs s u tail site sound agrees = (u, held, refl, stays (from_label c parents fs (length k) u), agrees)

  pub fail_runs : StatementRuns S.Fail
  fail_runs held x k fs s u tail site sound agrees =
      (u, held, inl refl, goes_to_label parents ready fs (I.Jump (target_of (x.pad held))) k u u did.Plain (x.pad held) tail site.inside refl (site.pads held) refl, agrees)

  pub assign_runs : (v : ℕ) (e : Expression) → StatementRuns (S.Assign v e)
  assign_runs v e held x k fs s u tail site sound agrees =
      by (number parents e s) refl
      (subst (NumberLeads c parents fs v x.values (x.pad held) (length k) (from_label c parents fs (length (into_code e v x.values (x.pad held) k)) u) u) (number_there parents e agrees sound.1)
      (into_runs parents ready fs e v x.values (x.pad held) k u tail (site.pads held) site.inside (readable_there e agrees sound.1) agrees.kept.size))
    where
      by : (n : Option ℤ) → number parents e s ≡ n → NumberLeads c parents fs v x.values (x.pad held) (length k) (from_label c parents fs (length (into_code e v x.values (x.pad held) k)) u) u n
          → StatementLeads (Some held) (here_if (may_fail e) held) [] c parents fs x (length k) (from_label c parents fs (length (into_code e v x.values (x.pad held) k)) u) (given n s (λ y. plain On (with_value s v y)))
      by None f l =
          (l.0, held, here (may_fail e) held (may_fail_at parents e x.values s (subst (λ h. IsReadable x.values h e) (sym agrees.held) sound.1) f), l.1, agrees_kept agrees l.2)
      by (Some n) f l =
          (l.0, held, refl, l.1, agrees_given agrees (into_range parents ready e v x.values (x.pad held) k tail) l.2 (λ i lt ne. lt))

  -- a number that is used once
  operand_used : (e : Expression) (held : Nodes) (x : Site) (i : Instr) (k : List Instr) (fs : List Frame) (s u : State) → Tail c (operand_code e x.values (x.pad held) (i ∷ k)) → IsSite c fs x (length k)
      → IsReadable x.values held e → Mirrors x.values held s u
      → (go : ℤ → Done) → ((n : ℤ) (w : State) → Operand e x.values n u w → Mirrors x.values held s w → StatementLeads (Some held) [] [] c parents fs x (length k) (from_label c parents fs (suc (length k)) w) (go n))
      → StatementLeads (Some held) (here_if (may_fail e) held) [] c parents fs x (length k) (from_label c parents fs (length (operand_code e x.values (x.pad held) (i ∷ k))) u) (given (number parents e s) s go)
  operand_used e held x i k fs s u tail site readable agrees go used =
      by (number parents e s) refl
      (subst (OperandEnds parents ready fs e x.values (x.pad held) (i ∷ k) (from_label c parents fs (length (operand_code e x.values (x.pad held) (i ∷ k))) u) u) (number_there parents e agrees readable)
      (operand_runs parents ready fs e x.values (x.pad held) (i ∷ k) u tail (let le = site.pads held in omega (arith, le)) (further_in c fs (length k) (suc (length k)) (omega arith) site.inside) (readable_there e agrees readable) agrees.kept.size))
    where
      by : (n : Option ℤ) → number parents e s ≡ n → OperandEnds parents ready fs e x.values (x.pad held) (i ∷ k) (from_label c parents fs (length (operand_code e x.values (x.pad held) (i ∷ k))) u) u n
          → StatementLeads (Some held) (here_if (may_fail e) held) [] c parents fs x (length k) (from_label c parents fs (length (operand_code e x.values (x.pad held) (i ∷ k))) u) (given n s go)
      by None f l =
          (l.0, held, here (may_fail e) held (may_fail_at parents e x.values s (subst (λ h. IsReadable x.values h e) (sym agrees.held) readable) f), l.1, agrees_kept agrees l.2)
      by (Some n) f l =
          let done = go n in
          prefixed c parents (Some held) (here_if (may_fail e) held) [] fs x (length k) (from_label c parents fs (length (operand_code e x.values (x.pad held) (i ∷ k))) u) (from_label c parents fs (suc (length k)) l.0) [] l.1 done.outcome done.state done.events
          (widened c parents (Some held) [] [] (here_if (may_fail e) held) [] fs x (length k) (from_label c parents fs (suc (length k)) l.0) (λ h m. absurd m) (λ h m. m) done.outcome done.state done.events
          (used n l.0 l.2 (agrees_kept agrees (l.2).kept)))

  pub emit_runs : (e : Expression) → StatementRuns (S.Emit e)
  emit_runs e held x k fs s u tail site sound agrees =
      let i = I.Emit (register_of e x.values) in
      operand_used e held x i k fs s u tail site sound agrees (λ n. telling (did.Emit n) s)
      (λ n w made agrees_then.
      let step : Step = record { act = did.Emit n; to = length c - suc (length k) + 1; state = w } in (
        w,
        held,
        refl,
        goes_to_next parents ready fs i k w w (did.Emit n) (tail_further tail (operand_tail e x.values (x.pad held) (i ∷ k))) site.inside refl
            (ap (λ m. let step : Step = record { act = did.Emit m; to = length c - suc (length k) + 1; state = w } in step) made.here),
        agrees_then,
      ))

  pub write_runs : (n f : ℕ) (e : Expression) → StatementRuns (S.Write n f e)
  write_runs n f e held x k fs s u tail site sound agrees =
      let i = I.Put n f (register_of e x.values) in
      let h = held_by s.nodes n (subst (λ g. holds g n ≡ true) (sym agrees.held) sound.0) in
      let g = h.0 in
      operand_used e held x i k fs s u tail site sound.1 agrees (λ m. write f m (node s n) s)
      (λ m w made agrees_then.
      let t : State = record s { records = put_record s.records g.node (slice_set (record_at s.records g.node) f m) } in
      let v : State = record w { records = put_record s.records g.node (slice_set (record_at s.records g.node) f m) } in
      let found : node w n ≡ Some g = ap (λ ns. get_or ns n None) agrees_then.kept.nodes ∙ h.1 in
      let p = length c - suc (length k) in
      let by : effect parents i p w ≡ record { act = did.Write g.node f m; to = p + 1; state = v } =
      ap (λ o. holding p w o (λ (h : Held). record {
        act = did.Write h.node f (value w (register_of e x.values));
        to = p + 1;
        state = record w { records = put_record w.records h.node (slice_set (record_at w.records h.node) f (value w (register_of e x.values))) };
      })) found
      ∙ ap₂ (λ (rs : Records) (y : ℤ). let step : Step = record { act = did.Write g.node f y; to = p + 1; state = record w { records = put_record rs g.node (slice_set (record_at rs g.node) f y) } } in step) agrees_then.kept.records made.here in
      let ends : StatementLeads (Some held) [] [] c parents fs x (length k) (from_label c parents fs (suc (length k)) w) (write f m (Some g) s) = (
        v,
        held,
        refl,
        goes_to_next parents ready fs i k w v (did.Write g.node f m) (tail_further tail (operand_tail e x.values (x.pad held) (i ∷ k))) site.inside refl by,
        record {
          kept = record { values = agrees_then.kept.values; nodes = agrees_then.kept.nodes; records = refl; size = agrees_then.kept.size };
          values = agrees_then.values;
          nodes = agrees_then.nodes;
          held = agrees_then.held;
        },
      ) in
      subst (λ o. StatementLeads (Some held) [] [] c parents fs x (length k) (from_label c parents fs (suc (length k)) w) (write f m o s)) (sym h.1) ends)
