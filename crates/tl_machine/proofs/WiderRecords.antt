-- A call does the same on records with zeros after them.
use Rattle.std.proofs.Common.{◌≡◌, ℕ, zero, suc, ◌+◌, ◌<◌, List, [], ◌∷◌, length, get_or, map, replicate, Option, Some, None, Bool, true, false, refl, sym, ap, ◌∙◌, subst, arith, inl, inr}
use Rattle.std.specs.Prelude.{slice_get, slice_set, slice_index, nat_eq, nat_lt, ℤ, pos}
use Rattle.std.proofs.lemmas.Bool.{cases_eq}
use Rattle.std.proofs.lemmas.List.{length-set, map-set, get_or-map, get_or-set_same, get_or-set_other, get_or_append_left, set-append_left}
use Rattle.tl_tree.specs.Records.{Record, Records, record_at, put_record}
use Rattle.tl_tree.specs.Shape.{IsTree, kids}
use Rattle.tl_instr.specs.declared.instr.Instr.{Instr}
use Rattle.tl_instr.specs.declared.instr.Instr.TheVariants.{Set, Copy, Add, Subtract, Multiply, Divide, Jump, JumpIfLess, JumpIfEqual, Repeat, RepeatBy, End, First, Child, Move, Release, Get, Put, Kids, Emit, Return}
use Rattle.std.proofs.lemmas.Option.{slice_get_within, get_or_from_slice_get}
use Rattle.tl_width.specs.Fields.{narrow_field_count}
use Rattle.tl_instr.specs.declared.version.Version.{Version}
use Rattle.tl_instr.specs.declared.version.Version.TheVariants.{One}
use Rattle.tl_instr.specs.Versions.{HasInstr}
use Rattle.tl_instr.specs.Codes.{CodeValue, IsCode}
use Rattle.tl_instr.specs.Instructions.{IsInstr, field_of}
use Rattle.tl_tree_locking.specs.declared.action.Action.{Action}
use Rattle.tl_tree_locking.specs.declared.action.Action.TheVariants as did
use Rattle.tl_tree_locking.specs.Alone.{Outcome}
use Rattle.tl_budget.specs.Loops.{Kind, Opens, Closes, Returns, Acts, kind, Loop, loop_at}
use Rattle.tl_machine.specs.Runs.{Held, State, Run, Then, At, Ended, go_on, turn, turns, actions, last_state, emits_of}
use Rattle.tl_machine.specs.Alone.{Step, effect, value, node, with_value, with_node, holding, checked, jump_if, first, child, lock, numbered, open_kid, act_by, act_at, block, turn_count, start, alone}
use Rattle.tl_machine.specs.Outcomes.{meaning}
use Rattle.tl_machine.specs.Widths.{with_zeros, HasWidth, NamesBelow, TellsWidth, KeepsWidth, action_with_zeros, outcome_with_zeros}
use Rattle.tl_machine.proofs.Slots.{after_set}
use Rattle.tl_machine.proofs.Children.{is_kid}
use Rattle.tl_machine.proofs.LockFreeEnd.{numbered_in, open_kid_in}

module _ (width n : ℕ) (parents : List ℕ) where
  -- there is one record of this width for each node, and each held node is in the tree
  record Wide (nodes : List (Option Held)) (t : Records) : Type 0 where
    pub size : length t ≡ length parents
    pub wide : (x : ℕ) → x < length t → length (record_at t x) ≡ width
    pub are_in : (j : ℕ) (h : Held) → get_or nodes j None ≡ Some h → h.node < length parents

  abbrev wider : State → State
  wider s = record s { records = map (with_zeros n) s.records }

  -- the runs are the same, with zeros after each record
  data Widens : Run → Run → Type 0 where
    both_at : (p : ℕ) (s : State) → Wide s.nodes s.records → Widens (At p s) (At p (wider s))
    both_ended : (s : State) → Wide s.nodes s.records → Widens (Ended s) (Ended (wider s))
    both_go : (a : Action) (x y : Run) → TellsWidth width a → Widens x y → Widens (Then a x) (Then (action_with_zeros n a) y)

  data WidensStep : Step → Step → Type 0 where
    both : (act : Action) (to : ℕ) (s : State) → TellsWidth width act → Wide s.nodes s.records
        → WidensStep (record { act = act; to = to; state = s }) (record { act = action_with_zeros n act; to = to; state = wider s })

  -- ---- one instruction

  at_wider : (t : Records) (x : ℕ) → x < length t → record_at (map (with_zeros n) t) x ≡ with_zeros n (record_at t x)
  at_wider t x lt = get_or-map (with_zeros n) t x [] [] lt

  in_tree : (nodes : List (Option Held)) (t : Records) (j : ℕ) (h : Held) → Wide nodes t → get_or nodes j None ≡ Some h → h.node < length t
  in_tree nodes t j h w at = let a = w.are_in j h at in let b = w.size in omega arith

  -- other registers that hold nodes of the tree
  with_nodes : (nodes new : List (Option Held)) (t : Records) → Wide nodes t → ((j : ℕ) (h : Held) → get_or new j None ≡ Some h → h.node < length parents) → Wide new t
  with_nodes nodes new t w are_in = record { size = w.size; wide = w.wide; are_in = are_in }

  after_one : (nodes : List (Option Held)) (t : Records) (m : ℕ) (h : Held) → Wide nodes t → h.node < length parents → Wide (slice_set nodes m (Some h)) t
  after_one nodes t m h w lt =
      with_nodes nodes (slice_set nodes m (Some h)) t w (λ j g at.
      elim (after_set nodes m (Some h) j g at) [
        | inl f ↦
            let e = f.1 in
            let is : h ≡ g = cc in
            let same : h.node ≡ g.node = ap (λ (y : Held). y.node) is in
            omega arith
        | inr f ↦ w.are_in j g f.1
      ])

  after_none : (nodes : List (Option Held)) (t : Records) (m : ℕ) → Wide nodes t → Wide (slice_set nodes m None) t
  after_none nodes t m w =
      with_nodes nodes (slice_set nodes m None) t w (λ j g at.
      elim (after_set nodes m None j g at) [
        | inl f ↦ let e = f.1 in cc
        | inr f ↦ w.are_in j g f.1
      ])

  after_put : (nodes : List (Option Held)) (t : Records) (x : ℕ) (r : Record) → length r ≡ width → Wide nodes t → Wide nodes (put_record t x r)
  after_put nodes t x r long w = record {
    size = length-set t x r ∙ w.size;
    wide = λ y lt. by y (let e = length-set t x r in omega arith);
    are_in = w.are_in;
  }
    where
      by : (y : ℕ) → y < length t → length (record_at (put_record t x r) y) ≡ width
      by y lt =
          elim (cases_eq y x) [
            | inl e ↦
                let there : x < length t = omega arith in
                ap (λ z. length (record_at (put_record t x r) z)) e ∙ ap length (get_or-set_same t x r [] there) ∙ long
            | inr e ↦ ap length (get_or-set_other t x y r [] e) ∙ w.wide y lt
          ]

  checked_widens : (p v l : ℕ) (s : State) (o : Option ℤ) → Wide s.nodes s.records → WidensStep (checked p v l s o) (checked p v l (wider s) o)
  checked_widens p v l s (Some x) w = both did.Plain (p + 1) (with_value s v x) tt w
  checked_widens p v l s None w = both did.Plain l s tt w

  jump_widens : (b : Bool) (p l : ℕ) (s : State) → Wide s.nodes s.records → WidensStep (jump_if b p l s) (jump_if b p l (wider s))
  jump_widens true p l s w = both did.Plain l s tt w
  jump_widens false p l s w = both did.Plain (p + 1) s tt w

  lock_widens : (p m x : ℕ) (s : State) → x < length parents → Wide s.nodes s.records → WidensStep (lock p m x s) (lock p m x (wider s))
  lock_widens p m x s lt w =
      let inside : x < length s.records = let e = w.size in omega arith in
      subst (λ r. WidensStep (lock p m x s) (record { act = did.Lock x r; to = p + 1; state = with_node (wider s) m (Some (record { node = x; cursor = 0 })) })) (sym (at_wider s.records x inside))
      (both (did.Lock x (record_at s.records x)) (p + 1) (with_node s m (Some (record { node = x; cursor = 0 }))) (w.wide x inside)
      (after_one s.nodes s.records m (record { node = x; cursor = 0 }) w lt))

  first_widens : (p m l count : ℕ) (s : State) (z : ℤ) → count ≡ length parents → Wide s.nodes s.records → WidensStep (first p m l s (numbered count z)) (first p m l (wider s) (numbered count z))
  first_widens p m l count s z same w = by (numbered count z) refl
    where
      by : (o : Option ℕ) → numbered count z ≡ o → WidensStep (first p m l s o) (first p m l (wider s) o)
      by (Some x) e = lock_widens p m x s (let lt = numbered_in count z x e in omega arith) w
      by None e = both did.Plain l s tt w

  -- an action on a held node
  holding_widens : (p m : ℕ) (s : State) (go : Held → Step) (go' : Held → Step) → Wide s.nodes s.records
      → ((h : Held) → get_or s.nodes m None ≡ Some h → WidensStep (go h) (go' h)) → WidensStep (holding p s (node s m) go) (holding p (wider s) (node s m) go')
  holding_widens p m s go go' w with_held = by (node s m) refl
    where
      by : (o : Option Held) → get_or s.nodes m None ≡ o → WidensStep (holding p s o go) (holding p (wider s) o go')
      by (Some h) e = with_held h e
      by None e = both did.Plain (p + 1) s tt w

  module _ (tree : IsTree parents) where
    child_widens : (p k m l : ℕ) (s : State) (h : Held) (z : ℤ) → get_or s.nodes m None ≡ Some h → Wide s.nodes s.records
        → WidensStep (child parents p k m h l s (open_kid h.cursor (length (kids parents h.node)) z)) (child parents p k m h l (wider s) (open_kid h.cursor (length (kids parents h.node)) z))
    child_widens p k m l s h z at w = by (open_kid h.cursor (length (kids parents h.node)) z) refl
      where
        by : (o : Option ℕ) → open_kid h.cursor (length (kids parents h.node)) z ≡ o → WidensStep (child parents p k m h l s o) (child parents p k m h l (wider s) o)
        by (Some i) e =
            let lt = (open_kid_in h.cursor (length (kids parents h.node)) z i e).1 in
            lock_widens p k (slice_index (kids parents h.node) i) (with_node s m (Some (record { node = h.node; cursor = i + 1 }))) (is_kid parents tree h.node i lt).inside
            (after_one s.nodes s.records m (record { node = h.node; cursor = i + 1 }) w (w.are_in m h at))
        by None e = both did.Plain l s tt w

    effect_widens : (i : Instr) (p : ℕ) (s : State) → ((f : ℕ) → field_of i ≡ Some f → f < width) → Wide s.nodes s.records → WidensStep (effect parents i p s) (effect parents i p (wider s))
    effect_widens (Set v x) p s few w = both did.Plain (p + 1) (with_value s v x) tt w
    effect_widens (Copy v u) p s few w = both did.Plain (p + 1) (with_value s v (value s u)) tt w
    effect_widens (Add v x y l) p s few w = checked_widens p v l s _ w
    effect_widens (Subtract v x y l) p s few w = checked_widens p v l s _ w
    effect_widens (Multiply v x y l) p s few w = checked_widens p v l s _ w
    effect_widens (Divide v x y l) p s few w = checked_widens p v l s _ w
    effect_widens (Jump l) p s few w = both did.Plain l s tt w
    effect_widens (JumpIfLess x y l) p s few w = jump_widens _ p l s w
    effect_widens (JumpIfEqual x y l) p s few w = jump_widens _ p l s w
    effect_widens (Repeat c) p s few w = both did.Plain (p + 1) s tt w
    effect_widens (RepeatBy v c) p s few w = both did.Plain (p + 1) s tt w
    effect_widens End p s few w = both did.Plain (p + 1) s tt w
    effect_widens (First m v l) p s few w = first_widens p m l (length parents) s (value s v) refl w
    effect_widens (Child k m v l) p s few w = holding_widens p m s _ _ w (λ h at. child_widens p k m l s h (value s v) at w)
    effect_widens (Move k m) p s few w =
        holding_widens p m s _ _ w (λ h at.
        both did.Plain (p + 1) (with_node (with_node s m None) k (Some h)) tt (after_one (slice_set s.nodes m None) s.records k h (after_none s.nodes s.records m w) (w.are_in m h at)))
    effect_widens (Release m) p s few w =
        holding_widens p m s _ _ w (λ h at.
        let inside = in_tree s.nodes s.records m h w at in
        subst (λ r. WidensStep (record { act = did.Free h.node (record_at s.records h.node); to = p + 1; state = with_node s m None }) (record { act = did.Free h.node r; to = p + 1; state = with_node (wider s) m None })) (sym (at_wider s.records h.node inside))
        (both (did.Free h.node (record_at s.records h.node)) (p + 1) (with_node s m None) (w.wide h.node inside) (after_none s.nodes s.records m w)))
    effect_widens (Get v m f) p s few w =
        holding_widens p m s _ _ w (λ h at.
        let inside = in_tree s.nodes s.records m h w at in
        let x = get_or (record_at s.records h.node) f (pos 0) in
        let long = w.wide h.node inside in
        let lt = few f refl in
        let same : x ≡ get_or (record_at (map (with_zeros n) s.records) h.node) f (pos 0) =
        sym (ap (λ r. get_or r f (pos 0)) (at_wider s.records h.node inside) ∙ get_or_append_left (record_at s.records h.node) (replicate n (pos 0)) (pos 0) f (omega arith)) in
        subst (λ z. WidensStep (record { act = did.Read h.node f x; to = p + 1; state = with_value s v x }) (record { act = did.Read h.node f z; to = p + 1; state = with_value (wider s) v z })) same
        (both (did.Read h.node f x) (p + 1) (with_value s v x) tt w))
    effect_widens (Put m f v) p s few w =
        holding_widens p m s _ _ w (λ h at.
        let inside = in_tree s.nodes s.records m h w at in
        let old = record_at s.records h.node in
        let new = slice_set old f (value s v) in
        let long = w.wide h.node inside in
        let lt = few f refl in
        let same : map (with_zeros n) (put_record s.records h.node new) ≡ put_record (map (with_zeros n) s.records) h.node (slice_set (record_at (map (with_zeros n) s.records) h.node) f (value s v)) =
        map-set (with_zeros n) s.records h.node new
        ∙ ap (put_record (map (with_zeros n) s.records) h.node) (sym (ap (λ r. slice_set r f (value s v)) (at_wider s.records h.node inside) ∙ set-append_left old (replicate n (pos 0)) f (value s v) (omega arith))) in
        subst (λ z. WidensStep (record { act = did.Write h.node f (value s v); to = p + 1; state = record s { records = put_record s.records h.node new } }) (record { act = did.Write h.node f (value s v); to = p + 1; state = record (wider s) { records = z } })) same
        (both (did.Write h.node f (value s v)) (p + 1) (record s { records = put_record s.records h.node new }) tt
        (after_put s.nodes s.records h.node new (length-set old f (value s v) ∙ long) w)))
    effect_widens (Kids v m) p s few w = holding_widens p m s _ _ w (λ h at. both did.Plain (p + 1) (with_value s v (pos (length (kids parents h.node)))) tt w)
    effect_widens (Emit v) p s few w = both (did.Emit (value s v)) (p + 1) s tt w
    effect_widens Return p s few w = both did.Plain (p + 1) s tt w

    -- ---- whole runs

    go_on_widens : (x y : Run) (go : ℕ → State → Run) → ((p : ℕ) (s : State) → Wide s.nodes s.records → Widens (go p s) (go p (wider s))) → Widens x y → Widens (go_on x go) (go_on y go)
    go_on_widens _ _ go each (both_at p s w) = each p s w
    go_on_widens _ _ go each (both_ended s w) = both_ended s w
    go_on_widens _ _ go each (both_go a x y told r) = both_go a (go_on x go) (go_on y go) told (go_on_widens x y go each r)

    turn_widens : (e : ℕ) (more : State → Run) (x y : Run) → ((s : State) → Wide s.nodes s.records → Widens (more s) (more (wider s))) → Widens x y → Widens (turn e more x) (turn e more y)
    turn_widens e more x y each same = go_on_widens x y _ (λ p t w. by (nat_eq p e) p t w) same
      where
        by : (d : Bool) (p : ℕ) (t : State) → Wide t.nodes t.records
            → Widens (elim d [ true ↦ Then did.Plain (more t) | false ↦ At p t ]) (elim d [ true ↦ Then did.Plain (more (wider t)) | false ↦ At p (wider t) ])
        by true p t w = both_go did.Plain _ _ tt (each t w)
        by false p t w = both_at p t w

    turns_widens : (e : ℕ) (body : State → Run) → ((s : State) → Wide s.nodes s.records → Widens (body s) (body (wider s)))
        → (k : ℕ) (s : State) → Wide s.nodes s.records → Widens (turns e body k s) (turns e body k (wider s))
    turns_widens e body each zero s w = both_at (e + 1) s w
    turns_widens e body each (suc k) s w = turn_widens e (turns e body k) (body s) (body (wider s)) (turns_widens e body each k) (each s w)

    module _ (code : List Instr) (few : NamesBelow width code) where
      then_widens : (q : ℕ) (go : ℕ → ℕ → State → Run) → ((p q : ℕ) (s : State) → Wide s.nodes s.records → Widens (go p q s) (go p q (wider s)))
          → (x y : Step) → WidensStep x y → Widens (Then x.act (go x.to q x.state)) (Then y.act (go y.to q y.state))
      then_widens q go each _ _ (both act to s told w) = both_go act (go to q s) (go to q (wider s)) told (each to q s w)

      abbrev BlockWidens : ℕ → Type 0
      BlockWidens k = (p q : ℕ) (s : State) → Wide s.nodes s.records → Widens (block code parents k p q s) (block code parents k p q (wider s))

      act_widens : (k : ℕ) → BlockWidens k → (i : Instr) → ((f : ℕ) → field_of i ≡ Some f → f < width) → (kd : Kind) (l : Option Loop) (p q : ℕ) (s : State) → Wide s.nodes s.records
          → Widens (act_by parents i kd (block code parents k) l p q s) (act_by parents i kd (block code parents k) l p q (wider s))
      act_widens k each i few Returns l p q s w = both_go did.End (Ended s) (Ended (wider s)) tt (both_ended s w)
      act_widens k each i few Acts l p q s w = then_widens q (block code parents k) each (effect parents i p s) (effect parents i p (wider s)) (effect_widens i p s few w)
      act_widens k each i few Closes l p q s w = both_at p s w
      act_widens k each i few (Opens c) None p q s w = both_at p s w
      act_widens k each i few (Opens c) (Some l) p q s w =
          both_go did.Plain _ _ tt
          (go_on_widens _ _ _ (λ r t v. each r q t v)
          (turns_widens l.close (block code parents k (p + 1) l.close) (λ t v. each (p + 1) l.close t v) (turn_count i c s.values) s w))

      step_widens : (k : ℕ) → BlockWidens k → BlockWidens (suc k)
      step_widens k each p q s w = by (nat_lt p q)
        where
          at_widens : (o : Option Instr) → slice_get code p ≡ o → Widens (act_at parents o (block code parents k) (loop_at code p) p q s) (act_at parents o (block code parents k) (loop_at code p) p q (wider s))
          at_widens None e = both_at p s w
          at_widens (Some i) e = act_widens k each i (λ f named. few p i f e named) (kind i) (loop_at code p) p q s w

          by : (b : Bool) → Widens (elim b [ true ↦ act_at parents (slice_get code p) (block code parents k) (loop_at code p) p q s | false ↦ At p s ])
              (elim b [ true ↦ act_at parents (slice_get code p) (block code parents k) (loop_at code p) p q (wider s) | false ↦ At p (wider s) ])
          by true = at_widens (slice_get code p) refl
          by false = both_at p s w

      block_widens : (k : ℕ) → BlockWidens k
      block_widens zero p q s w = both_at p s w
      block_widens (suc k) p q s w = step_widens k (block_widens k) p q s w

  -- ---- the outcomes

  wider_actions : (x y : Run) → Widens x y → actions y ≡ map (action_with_zeros n) (actions x)
  wider_actions _ _ (both_at p s w) = refl
  wider_actions _ _ (both_ended s w) = refl
  wider_actions _ _ (both_go a x y told r) = ap (λ acts. action_with_zeros n a ∷ acts) (wider_actions x y r)

  wider_records : (x y : Run) → Widens x y → (last_state y).records ≡ map (with_zeros n) (last_state x).records
  wider_records _ _ (both_at p s w) = refl
  wider_records _ _ (both_ended s w) = refl
  wider_records _ _ (both_go a x y told r) = wider_records x y r

  told_wide : (x y : Run) → Widens x y → (k : ℕ) (a : Action) → slice_get (actions x) k ≡ Some a → TellsWidth width a
  told_wide _ _ (both_at p s w) k a e = cc
  told_wide _ _ (both_ended s w) k a e = cc
  told_wide _ _ (both_go b x y told r) zero a e = let same : b ≡ a = cc in subst (TellsWidth width) same told
  told_wide _ _ (both_go b x y told r) (suc k) a e = told_wide x y r k a e

  left_wide : (x y : Run) → Widens x y → (k : ℕ) → k < length (last_state x).records → length (record_at (last_state x).records k) ≡ width
  left_wide _ _ (both_at p s w) k lt = w.wide k lt
  left_wide _ _ (both_ended s w) k lt = w.wide k lt
  left_wide _ _ (both_go b x y told r) k lt = left_wide x y r k lt

same_emits : (n : ℕ) (acts : List Action) → emits_of (map (action_with_zeros n) acts) ≡ emits_of acts
same_emits n [] = refl
same_emits n (did.Plain ∷ acts) = same_emits n acts
same_emits n (did.Lock x r ∷ acts) = same_emits n acts
same_emits n (did.Read x f v ∷ acts) = same_emits n acts
same_emits n (did.Write x f v ∷ acts) = same_emits n acts
same_emits n (did.Free x r ∷ acts) = same_emits n acts
same_emits n (did.Emit v ∷ acts) = ap (λ vs. v ∷ vs) (same_emits n acts)
same_emits n (did.End ∷ acts) = same_emits n acts

-- ---- a whole call

module _ (width n : ℕ) (parents : List ℕ) (tree : IsTree parents) (code : List Instr) (few : NamesBelow width code)
    (args : List ℤ) (t : Records) (size : length t ≡ length parents) (wide : HasWidth width t) where
  none_held : (k j : ℕ) → get_or (replicate k (let o : Option Held = None in o)) j None ≡ None
  none_held zero j = refl
  none_held (suc k) zero = refl
  none_held (suc k) (suc j) = none_held k j

  alone_widens : Widens width n parents (alone code parents args t) (alone code parents args (map (with_zeros n) t))
  alone_widens =
      block_widens width n parents tree code few (length code) 0 (length code) (start args t)
      (record { size = size; wide = λ x lt. wide x [] lt; are_in = λ j h at. let none = none_held 8 j in cc })

  pub same_with_zeros : meaning code parents args (map (with_zeros n) t) ≡ outcome_with_zeros n (meaning code parents args t)
  same_with_zeros =
      let x = alone code parents args t in
      let y = alone code parents args (map (with_zeros n) t) in
      let acts = wider_actions width n parents x y alone_widens in
      let outcome = λ (actions : List Action) (tree : Records) (reply : List ℤ). let o : Outcome = record { actions = actions; tree = tree; reply = reply } in o in
      ap (λ acts. outcome acts (last_state y).records (emits_of acts)) acts
      ∙ ap (λ r. outcome (map (action_with_zeros n) (actions x)) r (emits_of (map (action_with_zeros n) (actions x)))) (wider_records width n parents x y alone_widens)
      ∙ ap (outcome (map (action_with_zeros n) (actions x)) (map (with_zeros n) (last_state x).records)) (same_emits n (actions x))

  pub keeps_width : KeepsWidth width (meaning code parents args t)
  keeps_width =
      let x = alone code parents args t in
      let y = alone code parents args (map (with_zeros n) t) in
      record {
        told = λ k a e. told_wide width n parents x y alone_widens k a e;
        left = λ k d lt. left_is_wide k d lt;
      }
    where
      default : (rs : Records) (k : ℕ) (d : Record) → k < length rs → get_or rs k d ≡ record_at rs k
      default [] k d lt = absurd (omega arith)
      default (r ∷ rs) zero d lt = refl
      default (r ∷ rs) (suc k) d lt = default rs k d (omega arith)

      left_is_wide : (k : ℕ) (d : Record) → k < length (last_state (alone code parents args t)).records → length (get_or (last_state (alone code parents args t)).records k d) ≡ width
      left_is_wide k d lt =
          ap length (default (last_state (alone code parents args t)).records k d lt)
          ∙ left_wide width n parents (alone code parents args t) (alone code parents args (map (with_zeros n) t)) alone_widens k lt

-- ---- codes of the first version

-- codes of the first version use only narrow fields
pub names_narrow : (c : CodeValue) → IsCode c → c.version ≡ One → NamesBelow narrow_field_count c.instrs
names_narrow c valid first p i f at named =
    let is : IsInstr c.version (length c.instrs) (get_or c.instrs p i) = valid.instrs p i (slice_get_within c.instrs p i at) in
    let has : HasInstr One i = subst (λ (v : Version). HasInstr v i) first (subst (IsInstr c.version (length c.instrs)) (get_or_from_slice_get c.instrs p i i at) is).of_version in
    by i has named
  where
    by : (i : Instr) → HasInstr One i → field_of i ≡ Some f → f < narrow_field_count
    by (Get v n g) has named = let same : g ≡ f = cc in omega arith
    by (Put n g v) has named = let same : g ≡ f = cc in omega arith
    by i has named = cc
