-- The part of a block that has been read, and what it becomes at the end of the block.
use Rattle.std.proofs.Common.{◌≡◌, List, [], ◌∷◌, ◌++◌, reverse, Bool, Option, Some, None, sym, ap, ap₂, ◌∙◌, subst}
use Rattle.std.specs.Prelude.{IfSome}
use Rattle.std.proofs.lemmas.List.{reverse-append}
use Rattle.tl_lowering.specs.declared.lowering.Draft.{Draft}
use Rattle.tl_lowering.specs.declared.lowering.Opened.{Opened}
use Rattle.tl_lowering.specs.declared.paths.Flow.{Flow}
use Rattle.tl_lowering.specs.declared.paths.Held.{Held}
use Rattle.tl_lowering.specs.declared.program.Statement.{Statement}
use Rattle.tl_lowering.specs.Blocks.{then_of, outcomes_all, AreWellFormed, IsSequence, IsSame, binding_paths, IsBinding, values_with, nodes_with, Standing, at_start, reached, AreWellFormedAt, IsWellFormedAt, IsBindingAt, AreOpen, AreAlike, AreFree, Closes}
use Rattle.tl_lowering.specs.Lowering.{behind_opened, behind_draft, IsDraft}
use Rattle.tl_lowering.specs.Outcomes.{after}
use Rattle.tl_lowering.specs.Paths.{Paths, nodes_of, paths_of, outcomes, on, keeping}
use Rattle.tl_lowering.specs.Scopes.{View, IsLowered, is_in_loop}
use Rattle.tl_lowering.specs.Sets.{Nodes, both_of}
use Rattle.tl_lowering.specs.Sound.{IsWellFormed}
use Rattle.tl_lowering.proofs.BlockLemmas.{alike_is, close_last, closed_paths}
use Rattle.tl_lowering.proofs.PathLemmas.{then_on, then_same, then_assoc, outcomes_append, sound_append}

pub then_at : (q : Paths) (f : Nodes → Paths) (h : Nodes) → q.after ≡ Some h → then_of q f ≡ then_of q (λ k. f h)
then_at q f h e = by q.after q.fails q.breaks e
  where
    by : (o x y : Option Nodes) → o ≡ Some h → then_of (record { after = o; fails = x; breaks = y }) f ≡ then_of (record { after = o; fails = x; breaks = y }) (λ k. f h)
    by None x y e = cc
    by (Some k) x y e = let g : k ≡ h = cc in ap (λ z. record { after = (f z).after; fails = both_of x (f z).fails; breaks = both_of y (f z).breaks }) g

-- ---- nothing is read yet

pub none_read : (scope : View) (held : Held) (draft : Draft) → draft.opened.items ≡ [] → draft.statements.items ≡ [] → IsDraft (at_start scope.values scope.nodes (nodes_of held)) draft scope
unfolding behind_opened behind_draft
none_read scope held draft o s =
    let start : Standing = at_start scope.values scope.nodes (nodes_of held) in
    record {
      opened = subst (λ x. AreOpen (reverse x) start (is_in_loop scope)) (sym o) tt;
      statements = subst (λ x. AreWellFormedAt x (reached (reverse draft.opened.items) start) (is_in_loop scope)) (sym s) (subst (λ x. AreWellFormedAt [] (reached (reverse x) start) (is_in_loop scope)) (sym o) tt);
      values = ap (λ x. (reached (reverse x) start).values) o;
      nodes = ap (λ x. (reached (reverse x) start).nodes) o;
    }

pub none_behind : (scope : View) (held : Held) (draft : Draft) → draft.opened.items ≡ [] → draft.statements.items ≡ []
    → behind_draft (at_start scope.values scope.nodes (nodes_of held)) draft ≡ on (nodes_of held)
unfolding behind_opened behind_draft
none_behind scope held draft o s = ap₂ (λ x y. then_of (reached (reverse x) (at_start scope.values scope.nodes (nodes_of held))).paths (outcomes_all y)) o s

-- ---- a statement more

more_paths : (q : Paths) (ss : List Statement) (a : Statement) (h : Nodes) (p : Paths) → (then_of q (outcomes_all ss)).after ≡ Some h → p ≡ outcomes a h
    → then_of q (outcomes_all (ss ++ a ∷ [])) ≡ then_of (then_of q (outcomes_all ss)) (λ k. p)
more_paths q ss a h p e f =
    then_same q (outcomes_all (ss ++ a ∷ [])) (λ k. then_of (outcomes_all ss k) (outcomes_all (a ∷ []))) (outcomes_append ss (a ∷ []))
    ∙ sym (then_assoc q (outcomes_all ss) (outcomes_all (a ∷ [])))
    ∙ then_at (then_of q (outcomes_all ss)) (outcomes_all (a ∷ [])) h e
    ∙ ap (λ z. then_of (then_of q (outcomes_all ss)) (λ k. z)) (then_on (outcomes a h) ∙ sym f)

nothing_more : (o : Option Nodes) → IfSome o (λ h. Unit {0})
nothing_more None = tt
nothing_more (Some h) = tt

more_sound : (r : Standing) (ss : List Statement) (a : Statement) (h : Nodes) (in_loop : Bool) → AreWellFormedAt ss r in_loop → (then_of r.paths (outcomes_all ss)).after ≡ Some h
    → IsWellFormed a r.values r.nodes h in_loop → AreWellFormedAt (ss ++ a ∷ []) r in_loop
more_sound r ss a h in_loop s e t = by r.paths.after r.paths.fails r.paths.breaks s e
  where
    by : (o x y : Option Nodes) → IfSome o (λ k. AreWellFormed ss r.values r.nodes k in_loop) → (then_of (record { after = o; fails = x; breaks = y }) (outcomes_all ss)).after ≡ Some h
        → IfSome o (λ k. AreWellFormed (ss ++ a ∷ []) r.values r.nodes k in_loop)
    by None x y s e = tt
    by (Some k) x y s e =
        sound_append ss (a ∷ []) r.values r.nodes k in_loop s
        (subst (λ o. IfSome o (λ i. AreWellFormed (a ∷ []) r.values r.nodes i in_loop)) (sym e) (t, nothing_more (after a h)))

module _ (start : Standing) (draft new : Draft) (scope later : View) (held : Held) where
  pub extended_paths : (s a : Statement) (flow : Flow) → (behind_draft start draft).after ≡ Some (nodes_of held) → IsSame a s → IsLowered scope held s flow
      → new.opened.items ≡ draft.opened.items → new.statements.items ≡ draft.statements.items ++ a ∷ []
      → behind_draft start new ≡ then_of (behind_draft start draft) (λ h. paths_of flow)
  unfolding behind_opened behind_draft
  extended_paths s a flow e m l os ss =
      ap₂ (λ x y. then_of (reached (reverse x) start).paths (outcomes_all y)) os ss
      ∙ more_paths (behind_opened start draft).paths draft.statements.items a (nodes_of held) (paths_of flow) e (l.paths ∙ sym (m.paths (nodes_of held)))

  pub extended_draft : (s a : Statement) (flow : Flow) → IsDraft start draft scope → (behind_draft start draft).after ≡ Some (nodes_of held) → IsSame a s → IsLowered scope held s flow → later ≡ scope
      → new.opened.items ≡ draft.opened.items → new.statements.items ≡ draft.statements.items ++ a ∷ [] → IsDraft start new later
  unfolding behind_opened behind_draft
  extended_draft s a flow d e m l same os ss =
      let r : Standing = behind_opened start draft in
      let b : Bool = is_in_loop scope in
      let again : is_in_loop later ≡ b = ap is_in_loop same in
      let sound : IsWellFormed a r.values r.nodes (nodes_of held) b =
      subst (λ n. IsWellFormed a n r.nodes (nodes_of held) b) (sym d.values)
      (subst (λ n. IsWellFormed a scope.values n (nodes_of held) b) (sym d.nodes) (m.sound scope.values scope.nodes (nodes_of held) b l.sound)) in
      record {
        opened = subst (λ x. AreOpen (reverse x) start (is_in_loop later)) (sym os) (subst (AreOpen (reverse draft.opened.items) start) (sym again) d.opened);
        statements =
            subst (λ x. AreWellFormedAt new.statements.items (reached (reverse x) start) (is_in_loop later)) (sym os)
            (subst (λ x. AreWellFormedAt x r (is_in_loop later)) (sym ss) (subst (AreWellFormedAt (draft.statements.items ++ a ∷ []) r) (sym again) (more_sound r draft.statements.items a (nodes_of held) b d.statements e sound)));
        values = ap (λ x. (reached (reverse x) start).values) os ∙ d.values ∙ sym (ap (λ (v : View). v.values) same);
        nodes = ap (λ x. (reached (reverse x) start).nodes) os ∙ d.nodes ∙ sym (ap (λ (v : View). v.nodes) same);
      }

  -- ---- a declaration more

  pub opened_paths : (o : Opened) (flow : Flow) → (behind_draft start draft).after ≡ Some (nodes_of held) → paths_of flow ≡ binding_paths o.binding (nodes_of held)
      → o.earlier.items ≡ draft.statements.items → new.opened.items ≡ draft.opened.items ++ o ∷ [] → new.statements.items ≡ []
      → behind_draft start new ≡ then_of (behind_draft start draft) (λ h. paths_of flow)
  unfolding behind_opened behind_draft
  opened_paths o flow e p ss os none =
      ap₂ (λ x y. then_of (reached x start).paths (outcomes_all y)) (ap reverse os ∙ reverse-append draft.opened.items (o ∷ [])) none
      ∙ then_on (reached (o ∷ reverse draft.opened.items) start).paths
      ∙ ap (λ x. then_of (then_of (behind_opened start draft).paths (outcomes_all x)) (binding_paths o.binding)) ss
      ∙ then_at (behind_draft start draft) (binding_paths o.binding) (nodes_of held) e
      ∙ ap (λ z. then_of (behind_draft start draft) (λ k. z)) (sym p)

  pub opened_draft : (o : Opened) → IsDraft start draft scope → (behind_draft start draft).after ≡ Some (nodes_of held)
      → IsBinding o.binding scope.values scope.nodes (nodes_of held) (is_in_loop scope)
      → o.earlier.items ≡ draft.statements.items → new.opened.items ≡ draft.opened.items ++ o ∷ [] → new.statements.items ≡ []
      → later.values ≡ values_with o.binding scope.values → later.nodes ≡ nodes_with o.binding scope.nodes → later.loops ≡ scope.loops → IsDraft start new later
  unfolding behind_opened behind_draft
  opened_draft o d e b ss os none values nodes loops =
      let r : Standing = behind_opened start draft in
      let l : Bool = is_in_loop scope in
      let again : is_in_loop later ≡ l = ap (λ n. is_in_loop (record later { loops = n })) loops in
      let last : reverse new.opened.items ≡ o ∷ reverse draft.opened.items = ap reverse os ∙ reverse-append draft.opened.items (o ∷ []) in
      let bound : IsBinding o.binding r.values r.nodes (nodes_of held) l =
      subst (λ n. IsBinding o.binding n r.nodes (nodes_of held) l) (sym d.values)
      (subst (λ n. IsBinding o.binding scope.values n (nodes_of held) l) (sym d.nodes) b) in
      let here : IsBindingAt o.binding r (then_of r.paths (outcomes_all o.earlier.items)) l =
      subst (λ x. IsBindingAt o.binding r (then_of r.paths (outcomes_all x)) l) (sym ss) (subst (λ x. IfSome x (λ h. IsBinding o.binding r.values r.nodes h l)) (sym e) bound) in
      let earlier : AreWellFormedAt o.earlier.items r l = subst (λ x. AreWellFormedAt x r l) (sym ss) d.statements in
      record {
        opened = subst (λ x. AreOpen x start (is_in_loop later)) (sym last) (subst (AreOpen (o ∷ reverse draft.opened.items) start) (sym again) (d.opened, earlier, here));
        statements = subst (λ x. AreWellFormedAt x (behind_opened start new) (is_in_loop later)) (sym none) (nothing_more (behind_opened start new).paths.after);
        values = ap (λ x. (reached x start).values) last ∙ ap (values_with o.binding) d.values ∙ sym values;
        nodes = ap (λ x. (reached x start).nodes) last ∙ ap (nodes_with o.binding) d.nodes ∙ sym nodes;
      }

-- ---- the end of a block

-- the statement with the declarations that are closed so far
pub record IsClosed (start : Standing) (outer : Nodes) (in_loop : Bool) (total : Paths) (os : List Opened) (whole : Statement) : Type 0 where
  pub opened : AreOpen (reverse os) start in_loop
  pub sound : IsWellFormedAt whole (reached (reverse os) start) in_loop
  pub paths : AreAlike outer (then_of (reached (reverse os) start).paths (outcomes whole)) total

pub first_closed : (start : Standing) (outer : Nodes) (draft : Draft) (scope : View) (whole : Statement) → IsDraft start draft scope → IsSequence whole draft.statements.items
    → IsClosed start outer (is_in_loop scope) (behind_draft start draft) draft.opened.items whole
unfolding behind_opened behind_draft
first_closed start outer draft scope whole d s = record {
  opened = d.opened;
  sound = by (behind_opened start draft).paths.after d.statements;
  paths = alike_is outer _ _ (then_same (behind_opened start draft).paths (outcomes whole) (outcomes_all draft.statements.items) s.paths);
}
  where
    r : Standing
    r = behind_opened start draft

    by : (o : Option Nodes) → IfSome o (λ h. AreWellFormed draft.statements.items r.values r.nodes h (is_in_loop scope)) → IfSome o (λ h. IsWellFormed whole r.values r.nodes h (is_in_loop scope))
    by None t = tt
    by (Some h) t = s.sound r.values r.nodes h (is_in_loop scope) t

pub next_closed : (start : Standing) (outer : Nodes) (in_loop : Bool) (total : Paths) (old new : List Opened) (last : Opened) (rest whole : Statement) → AreFree start.nodes outer
    → IsClosed start outer in_loop total old rest → old ≡ new ++ last ∷ [] → Closes last rest whole → IsClosed start outer in_loop total new whole
next_closed start outer in_loop total old new last rest whole free c e closes =
    let f : reverse old ≡ last ∷ reverse new = ap reverse e ∙ reverse-append new (last ∷ []) in
    let opened : AreOpen (last ∷ reverse new) start in_loop = subst (λ x. AreOpen x start in_loop) f c.opened in
    let u : Standing = reached (reverse new) start in
    record {
      opened = opened.0;
      sound = closes.sound u in_loop (tt, opened.1, opened.2) (subst (λ x. IsWellFormedAt rest (reached x start) in_loop) f c.sound);
      paths = close_last last (reverse new) start outer in_loop rest whole total closes opened free (subst (λ x. AreAlike outer (then_of (reached x start).paths (outcomes rest)) total) f c.paths);
    }

pub all_closed : (start : Standing) (outer : Nodes) (in_loop : Bool) (total : Paths) (os : List Opened) (whole : Statement) → os ≡ [] → IsClosed start outer in_loop total os whole
    → AreAlike outer (then_of start.paths (outcomes whole)) total × IsWellFormedAt whole start in_loop
all_closed start outer in_loop total os whole e c =
    (subst (λ x. AreAlike outer (then_of (reached (reverse x) start).paths (outcomes whole)) total) e c.paths, subst (λ x. IsWellFormedAt whole (reached (reverse x) start) in_loop) e c.sound)

-- a block that is read to its end
pub block_lowered : (scope : View) (held : Held) (whole : Statement) (flow kept : Flow) (total : Paths)
    → AreAlike (nodes_of held) (outcomes whole (nodes_of held)) total → IsWellFormed whole scope.values scope.nodes (nodes_of held) (is_in_loop scope)
    → paths_of flow ≡ total → paths_of kept ≡ record (paths_of flow) { after = keeping (nodes_of held) (paths_of flow).after } → IsLowered scope held whole kept
block_lowered scope held whole flow kept total a s f k = record {
  sound = s;
  paths = k ∙ ap (λ (p : Paths). record p { after = keeping (nodes_of held) p.after }) f ∙ closed_paths (nodes_of held) whole total a;
}
