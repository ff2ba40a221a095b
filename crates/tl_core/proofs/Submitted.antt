-- A segment that is submitted as it was lent.
use Rattle.std.proofs.Common.{◌≡◌, ℕ, inl, inr, List, refl, sym, ap, ◌∙◌, subst, Some}
use Rattle.tl_instr.specs.Codes.{CodeValue}
use Rattle.tl_machine.specs.Turns.{TurnValue, SegmentValue, LentValue, IsTurn, IsSegment, IsFrom, HasRun, ComesByLocal, Stops, end_of, segment_of, with_call}
use Rattle.tl_machine.specs.declared.call.CallState.{CallState}
use Rattle.tl_machine.specs.declared.want.Want.TheVariants as want
use Rattle.tl_machine.specs.declared.want.Stop.{Stop}
use Rattle.tl_machine.proofs.TurnLemmas.{two_wants, comes_turn}
use Rattle.tl_core.specs.declared.fault.CoreFault.{CoreFault}
use Rattle.tl_core.specs.declared.followed.TurnOutcome.{TurnOutcome}
use Rattle.tl_core.specs.Cores.{CoreState, kept_turn}
use Rattle.tl_core.specs.Followed.{Submits, IsLedTo, IsLeadFault, IsFollowFault}
use Rattle.tl_core.proofs.StoredCalls.{same_item}

-- the segment as it was lent
abbrev pub lent_of : SegmentValue → LentValue
lent_of s = record { code = s.from.code; from = s.from.call; to = s.to }

one_stop : (t : TurnValue) (a b : Stop) → Stops t a → Stops t b → a ≡ b
one_stop t a b p q =
    let e : want.Stop a ≡ want.Stop b = two_wants t.code.instrs t.parents t.call (want.Stop a) (want.Stop b) p q in
    cc

module _ (v : CoreState) (c : ℕ) (seg : SegmentValue) (is : IsSegment seg) (kept : kept_turn v c ≡ Some seg.from) where
  -- the submitted segment is this one
  pub same_segment : (lent after_it : LentValue) (o : TurnOutcome) (w : CoreState) → lent ≡ lent_of seg → (s : Submits v c lent after_it o w) → s.segment ≡ seg
  same_segment lent after_it o w same s =
      let from : s.segment.from ≡ seg.from = same_item (sym s.kept ∙ kept) in
      let to : s.segment.to ≡ seg.to = s.to ∙ ap (λ l. l.to) same in
      let end : end_of s.segment ≡ end_of seg = ap (λ t. with_call t s.segment.to) from ∙ ap (with_call seg.from) to in
      let stop : s.segment.stop ≡ seg.stop = one_stop (end_of seg) s.segment.stop seg.stop (subst (λ t. Stops t s.segment.stop) end s.is_segment.stop) is.stop in
      let segment = λ (t : TurnValue) (d : CallState) (p : Stop). let x : SegmentValue = record { from = t; to = d; stop = p } in x in
      ap (λ t. segment t s.segment.to s.segment.stop) from ∙ ap (λ d. segment seg.from d s.segment.stop) to ∙ ap (segment seg.from seg.to) stop

  module _ (lent after_it : LentValue) (o : TurnOutcome) (w : CoreState) (same : lent ≡ lent_of seg) (s : Submits v c lent after_it o w) where
    -- the result
    pub led_as : IsLedTo v c seg (with_call seg.from after_it.to) o w
    led_as = subst (λ x. IsLedTo v c x (with_call x.from after_it.to) o w) (same_segment lent after_it o w same s) s.led

    pub turn_as : IsTurn seg.from.code.instrs seg.from.parents after_it.to
    turn_as = subst (λ x. IsTurn x.from.code.instrs x.from.parents after_it.to) (same_segment lent after_it o w same s) s.turn

    -- the turn after it
    pub turn_behind : (ps : List ℕ) → ps ≡ seg.from.parents → (let t : TurnValue = record { code = after_it.code; parents = ps; call = after_it.to } in t ≡ with_call seg.from after_it.to)
    turn_behind ps shape =
        let turn = λ (k : CodeValue) (qs : List ℕ). let t : TurnValue = record { code = k; parents = qs; call = after_it.to } in t in
        let code : after_it.code ≡ seg.from.code = ap (λ l. l.code) s.same ∙ ap (λ l. l.code) same in
        ap (λ k. turn k ps) code ∙ ap (turn seg.from.code) shape

  -- a refusal because of the start is one of following the segment
  pub lead_fault : (e : CoreFault) → IsLeadFault v c (lent_of seg) e → IsFollowFault v c seg e
  lead_fault e (inl no_call) = inl no_call
  lead_fault e (inr not_from) = absurd (not_from.2 seg.from kept (refl, refl))

-- a call that was lent from the turn, and has executed its local instructions
module _ (lent : LentValue) (run : HasRun lent) (t : TurnValue) (from : IsFrom lent t) (turn : IsTurn t.code.instrs t.parents t.call) where
  comes : ComesByLocal t.code.instrs t.call lent.to
  comes = subst (λ d. ComesByLocal t.code.instrs d lent.to) (sym from.1) (subst (λ k. ComesByLocal k.instrs lent.from lent.to) (sym from.0) run.follows)

  -- on the turn's shape these led to a state of the call
  pub led_to : IsTurn t.code.instrs t.parents lent.to
  led_to = comes_turn t.code.instrs t.parents t.call lent.to turn comes

  -- the same for a shape that is equal to it
  pub led_on : (ps : List ℕ) → t.parents ≡ ps → IsTurn lent.code.instrs ps lent.to
  led_on ps same = subst (λ k. IsTurn k.instrs ps lent.to) from.0 (subst (λ qs. IsTurn t.code.instrs qs lent.to) same led_to)

  pub begun_on : (ps : List ℕ) → t.parents ≡ ps → IsTurn lent.code.instrs ps lent.from
  begun_on ps same = subst (λ d. IsTurn lent.code.instrs ps d) from.1 (subst (λ k. IsTurn k.instrs ps t.call) from.0 (subst (λ qs. IsTurn t.code.instrs qs t.call) same turn))

  abbrev lent_on : List ℕ → TurnValue
  lent_on ps = record { code = lent.code; parents = ps; call = lent.to }

  same_turn : (ps : List ℕ) → t.parents ≡ ps → lent_on ps ≡ with_call t lent.to
  same_turn ps same =
      let turn_of = λ (k : CodeValue) (qs : List ℕ). let u : TurnValue = record { code = k; parents = qs; call = lent.to } in u in
      ap (turn_of lent.code) (sym same) ∙ ap (λ k. turn_of k t.parents) (sym from.0)

  pub stops_there : (ps : List ℕ) (s : Stop) → t.parents ≡ ps → Stops (lent_on ps) s → Stops (with_call t lent.to) s
  stops_there ps s same stops = subst (λ u. Stops u s) (same_turn ps same) stops

  pub stops_here : (ps : List ℕ) (s : Stop) → t.parents ≡ ps → Stops (with_call t lent.to) s → Stops (lent_on ps) s
  stops_here ps s same stops = subst (λ u. Stops u s) (sym (same_turn ps same)) stops

  pub its_segment : (s : Stop) → Stops (with_call t lent.to) s → IsSegment (segment_of t lent.to s)
  its_segment s stops = record { from = turn; to = led_to; follows = comes; stop = stops }
