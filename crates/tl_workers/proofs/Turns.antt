-- Whether each call whose receipt came before a request had ended before the requested call was admitted, from one running number.
use Rattle.std.proofs.Common.{◌≡◌, ◌↔◌, ◌⊎◌, ⊎_elim, inl, inr, ℕ, zero, suc, ◌<◌, ◌≤◌, ◌+◌, ◌*◌, [], ◌∷◌, true, length, refl, sym, ap, ◌∙◌, subst, arith}
use Rattle.std.specs.Prelude.{Option, Some, None, slice_get, max, nat_lt, if◌then◌else◌, Bool, false, List}
use Rattle.std.proofs.lemmas.Bool.{ltb-true, ltb-false, cases_lt}
use Rattle.std.proofs.lemmas.Option.{none-some, same_Some, slice_get_within}
use Rattle.std.proofs.Math.Nat.{eq-or-lt_of_le}
use Rattle.std.specs.Option.{option_map_or}
use Rattle.tl_tree.specs.Records.{Records}
use Rattle.tl_tree_locking.specs.History.{admits, records_now}
use Rattle.tl_procedures.specs.Names.{Named}
use Rattle.tl_table.specs.Ends.{EndsBefore, begun_by_end}
use Rattle.tl_table.specs.Epochs.{EpochValue, seen}
use Rattle.tl_table.specs.Tables.{IsRested, InLine, IsChain}
use Rattle.tl_table.specs.declared.receipt.Receipt.{Receipt}
use Rattle.tl_table.proofs.Ended.{ended-iff, begun_few}
use Rattle.tl_workers.specs.declared.asking.Asking.{Asking}
use Rattle.tl_workers.specs.declared.session.Did.{Did}
use Rattle.tl_workers.specs.declared.session.Did.TheVariants.{Asked, Got}
use Rattle.tl_workers.specs.Matching.{HasEnded, GoInTurn, AreKnown, past_at, mark, end_mark, begun_after}

-- Among the first n entries, `begun` is the highest end mark of the receipts, and each requested call was admitted after
-- the calls of all earlier receipts had ended.
pub record IsInTurnSoFar (es : List EpochValue) (dids : List Did) (n begun : ℕ) : Type 0 where
  pub most : (i : ℕ) (r : Receipt) → i < n → slice_get dids i ≡ Some (Got r) → end_mark es r ≤ begun
  pub one : (begun ≡ 0) ⊎ ((i : ℕ) × (r : Receipt) × (i < n) × (slice_get dids i ≡ Some (Got r)) × (begun ≡ end_mark es r))
  pub in_turn : (i j : ℕ) (r : Receipt) (a : Asking) → i < j → j < n → slice_get dids i ≡ Some (Got r) → slice_get dids j ≡ Some (Asked a) → HasEnded es r a

-- an index below n + 1 is n or below n
earlier : (i n : ℕ) → i < n + 1 → (i ≡ n) ⊎ (i < n)
earlier i n lt = eq-or-lt_of_le (omega (arith, lt))

same_got : (r s : Receipt) (did : Option Did) → did ≡ Some (Got r) → did ≡ Some (Got s) → r ≡ s
same_got r s did a b = let e = sym a ∙ b in cc

got_not_asked : (r : Receipt) (a : Asking) (did : Option Did) → did ≡ Some (Got r) → did ≡ Some (Asked a) → ⊥
got_not_asked r a did p q = let e = sym p ∙ q in cc

same_asked : (a b : Asking) (did : Option Did) → did ≡ Some (Asked a) → did ≡ Some (Asked b) → a ≡ b
same_asked a b did p q = let e = sym p ∙ q in cc

pub begins : (es : List EpochValue) (dids : List Did) → IsInTurnSoFar es dids 0 0
begins es dids = record {
  most = λ i r lt at. absurd (omega (arith, lt));
  one = inl refl;
  in_turn = λ i j r a ij lt at bt. absurd (omega (arith, lt));
}

more_got : (es : List EpochValue) (dids : List Did) (n begun : ℕ) (s : Receipt) → IsInTurnSoFar es dids n begun → slice_get dids n ≡ Some (Got s)
    → IsInTurnSoFar es dids (n + 1) (max begun (end_mark es s))
more_got es dids n begun s h here =
    let b = end_mark es s in
    record {
      most = λ i r lt at. ⊎_elim
          (λ (e : i ≡ n). let q : r ≡ s = same_got r s (slice_get dids i) at (ap (slice_get dids) e ∙ here) in let z : end_mark es r ≡ b = ap (λ x. end_mark es x) q in omega (arith, z))
          (λ (l : i < n). let le = h.most i r l at in omega (arith, le))
          (earlier i n lt);
      one = ⊎_elim
          (λ (l : begun < b). inr (n, s, omega arith, here, omega (arith, l)))
          (λ (l : b ≤ begun). ⊎_elim
          (λ (z : begun ≡ 0). inl (omega (arith, l, z)))
          (λ (w : (i : ℕ) × (r : Receipt) × (i < n) × (slice_get dids i ≡ Some (Got r)) × (begun ≡ end_mark es r)).
          inr (w.0, w.1, omega (arith, w.2), w.3, (let m : max begun b ≡ begun = omega (arith, l) in m ∙ w.4)))
          h.one)
          (cases_lt begun b);
      in_turn = λ i j r a ij lt at bt. ⊎_elim
          (λ (e : j ≡ n). absurd (got_not_asked s a (slice_get dids j) (ap (slice_get dids) e ∙ here) bt))
          (λ (l : j < n). h.in_turn i j r a ij l at bt)
          (earlier j n lt);
    }

-- ---- one number tells which call had ended before another was admitted

pub rested_at : (n : ℕ) (parents : List ℕ) (opening : Records) (procedures : List Named) (es : List EpochValue) → InLine n parents opening procedures es → (i : ℕ) (e : EpochValue)
    → slice_get es i ≡ Some e → IsRested e
rested_at n parents opening procedures [] line i e at = absurd (none-some e at)
rested_at n parents opening procedures (f ∷ es) line zero e at = subst IsRested (same_Some f e at) line.1
rested_at n parents opening procedures (f ∷ es) line (suc i) e at = rested_at (n + 1) parents (records_now (seen f).past (seen f).opening) (seen f).procedures es line.2 i e at

early : (e f b c : ℕ) → e < f → b ≤ 4096 → e * 4097 + b ≤ f * 4097 + c
early e f b c lt few = omega (arith, lt, few)

late : (e f b c : ℕ) → f < e → c < 4096 → e * 4097 + b ≤ f * 4097 + c → ⊥
late e f b c lt few le = omega (arith, lt, few, le)

same_epoch : (e f b c : ℕ) → e ≡ f → e * 4097 + b ≤ f * 4097 + c → b ≤ c
same_epoch e f b c same le = omega (arith, same, le)

same_rise : (e f b c : ℕ) → e ≡ f → b ≤ c → e * 4097 + b ≤ f * 4097 + c
same_rise e f b c same le = omega (arith, same, le)

pub past_is : (es : List EpochValue) (n : ℕ) (e : EpochValue) → slice_get es n ≡ Some e → past_at es n ≡ (seen e).past
past_is es n e at = ap (λ o. option_map_or (λ x. (seen x).past) o []) at

module _ (es : List EpochValue) (dids : List Did) (chain : IsChain es) (known : AreKnown es dids) where
  iff : (i j : ℕ) (r : Receipt) (a : Asking) → slice_get dids i ≡ Some (Got r) → slice_get dids j ≡ Some (Asked a)
      → (end_mark es r ≤ mark a.epoch a.call → HasEnded es r a) × (HasEnded es r a → end_mark es r ≤ mark a.epoch a.call)
  unfolding AreKnown
  iff i j r a at bt =
      let g = known i (Got r) at in
      let k = known j (Asked a) bt in
      let e = g.0 in let f = k.0 in
      let past : past_at es r.epoch ≡ (seen e).past = past_is es r.epoch e g.1 in
      let own = rested_at 0 chain.parents chain.opening [] es chain.line r.epoch e g.1 in
      let other = rested_at 0 chain.parents chain.opening [] es chain.line a.epoch f k.1 in
      let begun = begun_by_end r.call (past_at es r.epoch) in
      let most : begun ≤ 4096 = (let m = begun_few (seen e).past r.call in let q = ap (begun_by_end r.call) past in let c = own.counted in let w = own.few in omega (arith, m, q, c, w)) in
      let call : a.call < 4096 = (let l = k.2 in let w = other.few in omega (arith, l, w)) in
      let inside : r.epoch ≡ a.epoch → a.call < admits (seen e).past = λ same.
      (let one : e ≡ f = same_Some e f (sym g.1 ∙ ap (slice_get es) same ∙ k.1) in let l = k.2 in let c = own.counted in let q = ap (λ x. length (seen x).calls) one in omega (arith, l, c, q)) in
      let both : r.epoch ≡ a.epoch → (begun_by_end r.call (seen e).past ≤ a.call) ↔ EndsBefore (seen e).past r.call a.call = λ same. ended-iff (seen e).past r.call a.call own.sound.legal.in_turn (inside same) g.2.done in
      let here : begun ≡ begun_by_end r.call (seen e).past = ap (begun_by_end r.call) past in (
        (λ le. ⊎_elim
            (λ (l : r.epoch < a.epoch). inl l)
            (λ (l : a.epoch ≤ r.epoch). ⊎_elim
            (λ (q : a.epoch ≡ r.epoch). let few = same_epoch r.epoch a.epoch begun a.call (sym q) le in
            inr (sym q, subst (λ p. EndsBefore p r.call a.call) (sym past) ((both (sym q)).0 (omega (arith, few, here)))))
            (λ (l : a.epoch < r.epoch). absurd (late r.epoch a.epoch begun a.call l call le))
            (eq-or-lt_of_le l))
            (cases_lt r.epoch a.epoch)),
        (λ h. ⊎_elim
            (λ (l : r.epoch < a.epoch). early r.epoch a.epoch begun a.call l most)
            (λ (w : (r.epoch ≡ a.epoch) × EndsBefore (past_at es r.epoch) r.call a.call).
            same_rise r.epoch a.epoch begun a.call w.0 (let le = (both w.0).1 (subst (λ p. EndsBefore p r.call a.call) past w.1) in omega (arith, le, here)))
            h),
      )

  more_asked : (n begun : ℕ) (b : Asking) → IsInTurnSoFar es dids n begun → slice_get dids n ≡ Some (Asked b) → begun ≤ mark b.epoch b.call → IsInTurnSoFar es dids (n + 1) begun
  more_asked n begun b h here le = record {
    most = λ i r lt at. ⊎_elim
        (λ (e : i ≡ n). absurd (got_not_asked r b (slice_get dids i) at (ap (slice_get dids) e ∙ here)))
        (λ (l : i < n). h.most i r l at)
        (earlier i n lt);
    one = ⊎_elim
        (λ (z : begun ≡ 0). inl z)
        (λ (w : (i : ℕ) × (r : Receipt) × (i < n) × (slice_get dids i ≡ Some (Got r)) × (begun ≡ end_mark es r)). inr (w.0, w.1, omega (arith, w.2), w.3, w.4))
        h.one;
    in_turn = λ i j r a ij lt at bt. ⊎_elim
        (λ (e : j ≡ n).
        let q : a ≡ b = same_asked a b (slice_get dids j) bt (ap (slice_get dids) e ∙ here) in
        let m = h.most i r (omega (arith, ij, e)) at in
        (iff i j r a at bt).0 (let c = ap (λ x. mark x.epoch x.call) q in omega (arith, m, le, c)))
        (λ (l : j < n). h.in_turn i j r a ij l at bt)
        (earlier j n lt);
  }

  asked_case : (n begun next : ℕ) (b : Asking) (test : Bool) → nat_lt (mark b.epoch b.call) begun ≡ test → IsInTurnSoFar es dids n begun → slice_get dids n ≡ Some (Asked b)
      → (if test then None else Some begun) ≡ Some next → IsInTurnSoFar es dids (n + 1) next
  asked_case n begun next b true is h here e = absurd (none-some _ e)
  asked_case n begun next b false is h here e = subst (IsInTurnSoFar es dids (n + 1)) (same_Some begun next e) (more_asked n begun b h here (ltb-false _ _ is))

  -- one more entry, after which `next` is the highest end mark
  pub turn_more : (n begun next : ℕ) (did : Did) → IsInTurnSoFar es dids n begun → slice_get dids n ≡ Some did → begun_after es did begun ≡ Some next → IsInTurnSoFar es dids (n + 1) next
  turn_more n begun next (Got s) h here e = subst (IsInTurnSoFar es dids (n + 1)) (same_Some _ next e) (more_got es dids n begun s h here)
  turn_more n begun next (Asked b) h here e = asked_case n begun next b (nat_lt (mark b.epoch b.call) begun) refl h here e

  late_case : (n begun : ℕ) (b : Asking) (test : Bool) → nat_lt (mark b.epoch b.call) begun ≡ test → IsInTurnSoFar es dids n begun → slice_get dids n ≡ Some (Asked b)
      → (if test then None else Some begun) ≡ None → GoInTurn es dids → ⊥
  unfolding GoInTurn
  late_case n begun b true is h here e all =
      let lt : mark b.epoch b.call < begun = ltb-true _ _ is in
      ⊎_elim
      (λ (z : begun ≡ 0). omega (arith, lt, z))
      (λ (w : (i : ℕ) × (r : Receipt) × (i < n) × (slice_get dids i ≡ Some (Got r)) × (begun ≡ end_mark es r)).
      let le = (iff w.0 n w.1 b w.3 here).1 (all w.0 n w.1 b w.2 w.3 here) in omega (arith, le, lt, w.4))
      h.one
  late_case n begun b false is h here e all = none-some _ (sym e)

  -- an entry that requests a call that was admitted too early
  pub turn_fails : (n begun : ℕ) (did : Did) → IsInTurnSoFar es dids n begun → slice_get dids n ≡ Some did → begun_after es did begun ≡ None → GoInTurn es dids → ⊥
  turn_fails n begun (Got s) h here e all = none-some _ (sym e)
  turn_fails n begun (Asked b) h here e all = late_case n begun b (nat_lt (mark b.epoch b.call) begun) refl h here e all

  pub turn_all : (begun : ℕ) → IsInTurnSoFar es dids (length dids) begun → GoInTurn es dids
  unfolding GoInTurn
  turn_all begun h i j r a ij at bt = h.in_turn i j r a ij (slice_get_within dids j (Asked a) bt) at bt
