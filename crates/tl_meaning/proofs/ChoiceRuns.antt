-- Choices and values.
use Rattle.std.proofs.Common.{◌≡◌, ◌≢◌, ℕ, ◌+◌, ◌<◌, ◌≤◌, List, [], ◌++◌, length, map, Bool, true, false, ◌||◌, Option, Some, None, is_some, if◌then◌else◌, refl, sym, ap, ◌∙◌, subst, arith, ◌⊎◌, inl, inr}
use Rattle.std.specs.Prelude.{ℤ}
use Rattle.std.proofs.lemmas.Bool.{or_left, or_right}
use Rattle.std.proofs.Math.Nat.{eq-or-lt_of_le}
use Rattle.tl_instr.specs.declared.operand.TheConstants.{VALUE_REGISTERS}
use Rattle.tl_instr.specs.declared.instr.Instr.{Instr}
use Rattle.tl_tree_locking.specs.declared.action.Action.{Action}
use Rattle.tl_machine.specs.Runs.{State, Run}
use Rattle.tl_machine.specs.Alone.{with_value}
use Rattle.tl_machine.specs.Left.{Frame}
use Rattle.tl_lowering.specs.declared.program.Expression.{Expression}
use Rattle.tl_lowering.specs.declared.program.Condition.{Condition}
use Rattle.tl_lowering.specs.declared.program.Condition.TheVariants as C
use Rattle.tl_lowering.specs.declared.program.Statement.{Statement}
use Rattle.tl_lowering.specs.declared.program.Statement.TheVariants as S
use Rattle.tl_compiler.specs.Numbers.{into_code}
use Rattle.tl_lowering.specs.Sets.{Nodes, both_of, same}
use Rattle.tl_lowering.specs.Outcomes.{may_fail, condition_may_fail, here_if, after, fails, breaks}
use Rattle.tl_compiler.specs.Statements.{Site, Exit, way_out, direct, is_skip, joining_code, Second, second_by, held_behind, statement_code}
use Rattle.tl_meaning.specs.Meaning.{Ending, On, Breaks, Fails, Returns, with_both, opposite, both_true, number, truth, given, leaving, held_at, behaviour}
use Rattle.tl_compiler.specs.Tails.{Tail}
use Rattle.tl_meaning.specs.Leading.{Runs, from_label, IsInside, NumberLeads}
use Rattle.tl_lowering.specs.Sound.{IsReadable, IsTestable, IsWellFormed}
use Rattle.tl_meaning.specs.Endings.{Mirrors, IsSite, LeadsBy, StatementLeads}
use Rattle.tl_compiler.proofs.TailLemmas.{tail_further, tail_length}
use Rattle.tl_meaning.proofs.Steps.{further_in}
use Rattle.tl_compiler.proofs.Stretches.{tail_of_stretch}
use Rattle.tl_compiler.proofs.SetLemmas.{in_left, in_right}
use Rattle.tl_compiler.proofs.SizeLemmas.{sizes}
use Rattle.tl_compiler.proofs.NumberStretches.{into_stretch}
use Rattle.tl_meaning.proofs.NumberRuns.{into_range, into_runs, kept_below}
use Rattle.tl_compiler.proofs.StatementStretches.{statement_stretch, joining_stretch, second_stretch}
use Rattle.tl_meaning.proofs.StatementRuns.{agrees_kept, agrees_given, readable_there, number_there, may_fail_at, here, prefixed, widened, StatementRuns}
use Rattle.tl_meaning.proofs.SimpleRuns.{held_size, further_site}
use Rattle.tl_compiler.proofs.WayLemmas.{Keeps, keeps_first, keeps_second, keeps_itself}
use Rattle.tl_meaning.proofs.WayRuns.{joined, second_runs, first_runs}

pub testable_there : (d : Condition) {t : ℕ} {h : Nodes} {s u : State} → Mirrors t h s u → IsTestable t h d → IsTestable t (held_at u) d
testable_there d {t} {h} {s} {u} a r = subst (λ g. IsTestable t g d) (sym (ap (map is_some) a.kept.nodes ∙ a.held)) r

-- a condition whose numbers have no operations doesn't fail
fails_either : (parents : List ℕ) (f : ℤ → ℤ → Option Bool) (a b : Expression) (d : ℕ) (s : State) → IsReadable d (held_at s) a → IsReadable d (held_at s) b → ((x y : ℤ) → f x y ≡ None → ⊥)
    → with_both f (number parents a s) (number parents b s) ≡ None → may_fail a || may_fail b ≡ true
fails_either parents f a b d s ra rb total e = by (number parents a s) refl (number parents b s) refl e
  where
    by : (m : Option ℤ) → number parents a s ≡ m → (n : Option ℤ) → number parents b s ≡ n → with_both f m n ≡ None → may_fail a || may_fail b ≡ true
    by None i n j e = or_left (may_fail a) (may_fail b) (may_fail_at parents a d s ra i)
    by (Some x) i None j e = or_right (may_fail a) (may_fail b) (may_fail_at parents b d s rb j)
    by (Some x) i (Some y) j e = absurd (total x y e)

pub condition_may_fail_at : (parents : List ℕ) (c : Condition) (d : ℕ) (s : State) → IsTestable d (held_at s) c → truth parents c s ≡ None → condition_may_fail c ≡ true
condition_may_fail_at parents (C.Less a b) d s r e = fails_either parents _ a b d s r.0 r.1 (λ x y e. cc) e
condition_may_fail_at parents (C.Greater a b) d s r e = fails_either parents _ a b d s r.0 r.1 (λ x y e. cc) e
condition_may_fail_at parents (C.Equal a b) d s r e = fails_either parents _ a b d s r.0 r.1 (λ x y e. cc) e
condition_may_fail_at parents (C.Not' p c) d s r e = condition_may_fail_at parents c d s r (by (truth parents c s) e)
  where
    by : (t : Option Bool) → opposite t ≡ None → t ≡ None
    by None e = refl
    by (Some t) e = cc
condition_may_fail_at parents (C.And' p a q b) d s r e =
    by (λ f. condition_may_fail_at parents a d s r.0 f) (λ f. condition_may_fail_at parents b d s r.1 f) (truth parents a s) refl (truth parents b s) refl e
  where
    by : (truth parents a s ≡ None → condition_may_fail a ≡ true) → (truth parents b s ≡ None → condition_may_fail b ≡ true)
        → (x : Option Bool) → truth parents a s ≡ x → (y : Option Bool) → truth parents b s ≡ y → both_true x y ≡ None → condition_may_fail a || condition_may_fail b ≡ true
    by f g None i y j e = or_left (condition_may_fail a) (condition_may_fail b) (f i)
    by f g (Some true) i y j e = or_right (condition_may_fail a) (condition_may_fail b) (g (j ∙ e))
    by f g (Some false) i y j e = cc

-- the label of a statement without code is at most the labels of its site
pub direct_bound : {c : List Instr} {fs : List Frame} (b : Statement) (held : Nodes) (x : Site) (on label : ℕ) → IsSite c fs x on → direct b held x ≡ Some label → label ≤ on
direct_bound S.Fail held x on label site e = let same : x.pad held ≡ label = cc in subst (λ l. l ≤ on) same (site.pads held)
direct_bound S.Break held x on label site e = by x.exit refl e
  where
    by : (o : Option Exit) → x.exit ≡ o → way_out held o ≡ Some label → label ≤ on
    by None f e = cc
    by (Some exit) f e = at (same exit.held held) e
      where
        at : (b : Bool) → (if b then Some exit.label else None) ≡ Some label → label ≤ on
        at false e = cc
        at true e = let out : exit.label ≡ label = cc in subst (λ l. l ≤ on) out (site.exits exit f)
direct_bound (S.At' offset p a) held x on label site e = direct_bound a held x on label site e
direct_bound b held x on label site e = cc

-- bounds for the code and the label of a second way
pub second_bounds : {c : List Instr} {fs : List Frame} (b : Statement) (held : Nodes) (x : Site) (kept : Nodes) (k : List Instr) → IsSite c fs x (length k) → (to : Option ℕ) → direct b held x ≡ to
    → (length k ≤ length (second_by to (is_skip b) (after b held) kept (statement_code b held x) k).code)
    × ((second_by to (is_skip b) (after b held) kept (statement_code b held x) k).label ≤ length (second_by to (is_skip b) (after b held) kept (statement_code b held x) k).code)
second_bounds b held x kept k site (Some label) e = (omega arith, direct_bound b held x (length k) label site e)
second_bounds b held x kept k site None e = (tail_length (tail_of_stretch (second_stretch None (is_skip b) (after b held) kept (statement_code b held x) k (statement_stretch b held x))), omega arith)

pub agrees_fewer : {d e : ℕ} {h : Nodes} {s u : State} → d ≤ e → Mirrors e h s u → Mirrors d h s u
agrees_fewer le a = record { kept = kept_below le a.kept; values = a.values; nodes = a.nodes; held = a.held }

-- the site with n values
abbrev pub with_values : Site → ℕ → Site
with_values x n = record x { values = n }

pub site_of_values : {c : List Instr} {fs : List Frame} {x : Site} {on : ℕ} (n : ℕ) → IsSite c fs x on → IsSite c fs (with_values x n) on
site_of_values n site = record { inside = site.inside; pads = site.pads; exits = site.exits; sizes = site.sizes }

module _ (c : List Instr) (parents : List ℕ) where
  -- after a statement in which more values have registers
  pub fewer_values : (A : Option Nodes) (F B : List Nodes) (fs : List Frame) (x : Site) (n on : ℕ) → x.values ≤ n → (from : Run) (o : Ending) (s : State) (events : List Action)
      → LeadsBy A F B c parents fs (with_values x n) on from o s events → LeadsBy A F B c parents fs x on from o s events
  fewer_values A F B fs x n on le from On s events l = (l.0, l.1, l.2, l.3, agrees_fewer le l.4)
  fewer_values A F B fs x n on le from Fails s events l = (l.0, l.1, l.2, l.3, agrees_fewer le l.4)
  fewer_values A F B fs x n on le from Breaks s events l = (l.0, l.1, l.2, l.3, l.4, l.5, agrees_fewer le l.6)
  fewer_values A F B fs x n on le from Returns s events l = l

module _ {c : List Instr} (parents : List ℕ) (ready : Runs c) where
  -- computing the number of a value
  valued : (v : ℕ) (e : Expression) (held : Nodes) (x : Site) (f : ℕ) (k : List Instr) (fs : List Frame) (s u : State) → Tail c (into_code e v v f k) → f ≤ length k → IsInside c fs (length k)
      → v ≡ x.values → IsReadable x.values held e → Mirrors x.values held s u
      → NumberLeads c parents fs v x.values f (length k) (from_label c parents fs (length (into_code e v v f k)) u) u (number parents e s)
  valued v e held x f k fs s u tail le inside same readable agrees =
      subst (λ t. NumberLeads c parents fs v t f (length k) (from_label c parents fs (length (into_code e v v f k)) u) u (number parents e s)) same
      (subst (NumberLeads c parents fs v v f (length k) (from_label c parents fs (length (into_code e v v f k)) u) u) (number_there parents e agrees readable)
      (into_runs parents ready fs e v v f k u tail le inside (subst (λ t. IsReadable t (held_at u) e) (sym same) (readable_there e agrees readable)) agrees.kept.size))

  one_more : (v d i : ℕ) → v ≡ d → i < v + 1 → i ≢ v → i < d
  one_more v d i same lt ne = by (eq-or-lt_of_le (omega arith))
    where
      by : (i ≡ v) ⊎ (i < v) → i < d
      by (inl e) = absurd (ne e)
      by (inr less) = omega (arith, same)

  -- the code after a value's number
  abbrev pub let_rest : Statement → Nodes → List Instr → List Instr
  let_rest a held k = joining_code (after a held) (held_behind (after a held)) false (length k) k

  abbrev pub let_body : Statement → ℕ → Nodes → Site → List Instr → List Instr
  let_body a v held x k = statement_code a held (with_values x (v + 1)) (let_rest a held k)

  let_long : (a : Statement) (v : ℕ) (held : Nodes) (x : Site) (k : List Instr) → length k ≤ length (let_body a v held x k)
  let_long a v held x k =
      tail_length (tail_further (tail_of_stretch (statement_stretch a held (with_values x (v + 1)) (let_rest a held k))) (tail_of_stretch (joining_stretch (after a held) (held_behind (after a held)) false (length k) k)))

  let_by : (v : ℕ) (e : Expression) (a : Statement) → StatementRuns parents ready a → (held : Nodes) (x : Site) (k : List Instr) (fs : List Frame) (s u : State)
      → Tail c (let_body a v held x k) → IsSite c fs x (length k) → v < VALUE_REGISTERS
      → v ≡ x.values → IsReadable x.values held e → IsWellFormed a (v + 1) x.nodes held (is_some x.exit) → Mirrors x.values held s u
      → (from : Run) (n : Option ℤ) → number parents e s ≡ n → NumberLeads c parents fs v x.values (x.pad held) (length (let_body a v held x k)) from u n
      → StatementLeads (after a held) (here_if (may_fail e) held ++ fails a held) (breaks a held) c parents fs x (length k) from (leaving (after a held) (given n s (λ y. behaviour parents a (with_value s v y))))
  let_by v e a runs held x k fs s u tail site lt same readable sound agrees from None f l =
      (l.0, held, in_left held (here_if (may_fail e) held) (fails a held) (here (may_fail e) held (may_fail_at parents e x.values s (subst (λ h. IsReadable x.values h e) (sym agrees.held) readable) f)), l.1, agrees_kept agrees l.2)
  let_by v e a runs held x k fs s u tail site lt same readable sound agrees from (Some n) f l =
      let y = with_values x (v + 1) in
      let rest = let_rest a held k in
      let t = with_value s v n in
      let there = from_label c parents fs (length (let_body a v held x k)) l.0 in
      let agrees_then : Mirrors (v + 1) held t l.0 = agrees_given agrees lt l.2 (λ i less ne. one_more v x.values i same less ne) in
      let long : length k ≤ length rest = tail_length (tail_of_stretch (joining_stretch (after a held) (held_behind (after a held)) false (length k) k)) in
      let done = behaviour parents a t in
      let all = leaving (after a held) done in
      let inner = runs held y rest fs t l.0 tail (site_of_values (v + 1) (further_site (length k) (length rest) long site)) sound agrees_then in
      let ends = joined parents ready (after a held) (after a held) (held_behind (after a held)) (keeps_itself (after a held) (sizes a held (held_size agrees)).after) (fails a held) (breaks a held) y false (length k) k fs
      (tail_further tail (tail_of_stretch (statement_stretch a held y rest))) site.inside (omega arith) there done.outcome done.state done.events inner in
      let fewer = fewer_values c parents (after a held) (fails a held) (breaks a held) fs x (v + 1) (length k) (omega (arith, same)) there all.outcome all.state all.events ends in
      let wide = widened c parents (after a held) (fails a held) (breaks a held) (here_if (may_fail e) held ++ fails a held) (breaks a held) fs x (length k) there (λ h m. in_right h (here_if (may_fail e) held) (fails a held) m) (λ h m. m) all.outcome all.state all.events fewer in
      prefixed c parents (after a held) (here_if (may_fail e) held ++ fails a held) (breaks a held) fs x (length k) from there [] l.1 all.outcome all.state all.events wide

  -- a value, and the statement in which it is declared
  pub let_runs : (v : ℕ) (e : Expression) (a : Statement) → StatementRuns parents ready a → (held : Nodes) (x : Site) (k : List Instr) (fs : List Frame) (s u : State)
      → Tail c (into_code e v v (x.pad held) (let_body a v held x k)) → IsSite c fs x (length k)
      → v ≡ x.values → IsReadable x.values held e → IsWellFormed a (x.values + 1) x.nodes held (is_some x.exit) → Mirrors x.values held s u
      → StatementLeads (after a held) (here_if (may_fail e) held ++ fails a held) (breaks a held) c parents fs x (length k)
      (from_label c parents fs (length (into_code e v v (x.pad held) (let_body a v held x k))) u)
      (leaving (after a held) (given (number parents e s) s (λ y. behaviour parents a (with_value s v y))))
  let_runs v e a runs held x k fs s u tail site same readable sound agrees =
      let body = let_body a v held x k in
      let long = let_long a v held x k in
      let le = site.pads held in
      let_by v e a runs held x k fs s u (tail_further tail (tail_of_stretch (into_stretch e v v (x.pad held) body))) site (into_range parents ready e v v (x.pad held) body tail) same readable
      (subst (λ d. IsWellFormed a (d + 1) x.nodes held (is_some x.exit)) (sym same) sound) agrees (from_label c parents fs (length (into_code e v v (x.pad held) body)) u) (number parents e s) refl
      (valued v e held x (x.pad held) body fs s u tail (omega (arith, le, long)) (further_in c fs (length k) (length body) long site.inside) same readable agrees)

  -- ---- two ways

  abbrev pub second_at : Statement → Nodes → Site → Nodes → List Instr → Second
  second_at b held x kept k = second_by (direct b held x) (is_skip b) (after b held) kept (statement_code b held x) k

  abbrev pub first_at : Statement → Nodes → Site → Nodes → Second → List Instr → List Instr
  first_at a held y kept second k = statement_code a held y (joining_code (after a held) kept second.jumps (length k) second.code)

  pub first_tail : (a : Statement) (held : Nodes) (y : Site) (kept : Nodes) (second : Second) (k : List Instr) → Tail (first_at a held y kept second k) second.code
  first_tail a held y kept second k =
      let rest = joining_code (after a held) kept second.jumps (length k) second.code in
      tail_further (tail_of_stretch (statement_stretch a held y rest)) (tail_of_stretch (joining_stretch (after a held) kept second.jumps (length k) second.code))

  -- one of two ways, after a choice between them
  pub way_runs : (a b : Statement) → StatementRuns parents ready a → StatementRuns parents ready b → (held hb : Nodes) (y x : Site) (whole : Option Nodes) → (kept : Nodes) → Keeps (after a held) whole kept → Keeps (after b hb) whole kept
      → (k : List Instr) (fs : List Frame) → Tail c (first_at a held y kept (second_at b hb x kept k) k) → IsSite c fs x (length k) → IsSite c fs y (length k)
      → IsWellFormed a y.values y.nodes held (is_some y.exit) → IsWellFormed b x.values x.nodes hb (is_some x.exit)
      → ((s u : State) → Mirrors y.values held s u
      → StatementLeads whole (fails a held) (breaks a held) c parents fs y (length k) (from_label c parents fs (length (first_at a held y kept (second_at b hb x kept k) k)) u) (leaving whole (behaviour parents a s)))
      × ((s u : State) → Mirrors x.values hb s u
      → StatementLeads whole (fails b hb) (breaks b hb) c parents fs x (length k) (from_label c parents fs (second_at b hb x kept k).label u) (leaving whole (behaviour parents b s)))
  way_runs a b ones twos held hb y x whole kept keeps_a keeps_b k fs tail site_x site_y sound_a sound_b =
      let second = second_at b hb x kept k in
      let bounds = second_bounds b hb x kept k site_x (direct b hb x) refl in (
        λ s u agrees. first_runs parents ready a b ones held y whole kept keeps_a (direct b hb x) hb x k fs s u tail bounds.0 site_y sound_a agrees,
        λ s u agrees. second_runs parents ready b twos hb x whole kept keeps_b k fs s u (direct b hb x) refl (tail_further tail (first_tail a held y kept second k)) site_x sound_b agrees,
      )

  else_by : (v : ℕ) (e : Expression) (a o : Statement) → StatementRuns parents ready a → StatementRuns parents ready o → (held : Nodes) (x : Site) (k : List Instr) (fs : List Frame) (s u : State)
      → Tail c (first_at a held (with_values x (v + 1)) (held_behind (both_of (after a held) (after o held))) (second_at o held x (held_behind (both_of (after a held) (after o held))) k) k) → IsSite c fs x (length k) → v < VALUE_REGISTERS
      → v ≡ x.values → IsWellFormed a (v + 1) x.nodes held (is_some x.exit) → IsWellFormed o x.values x.nodes held (is_some x.exit) → Mirrors x.values held s u
      → (from : Run) (n : Option ℤ)
      → NumberLeads c parents fs v x.values (second_at o held x (held_behind (both_of (after a held) (after o held))) k).label
      (length (first_at a held (with_values x (v + 1)) (held_behind (both_of (after a held) (after o held))) (second_at o held x (held_behind (both_of (after a held) (after o held))) k) k)) from u n
      → StatementLeads (both_of (after a held) (after o held)) (fails a held ++ fails o held) (breaks a held ++ breaks o held) c parents fs x (length k) from
      (leaving (both_of (after a held) (after o held)) (elim n [ Some y ↦ behaviour parents a (with_value s v y) | None ↦ behaviour parents o s ]))
  else_by v e a o ones twos held x k fs s u tail site lt same sound_a sound_o agrees from None l =
      let whole = both_of (after a held) (after o held) in
      let kept = held_behind whole in
      let size = held_size agrees in
      let ways = way_runs a o ones twos held held (with_values x (v + 1)) x whole kept (keeps_first (after a held) (after o held) (sizes a held size).after (sizes o held size).after) (keeps_second (after a held) (after o held) (sizes a held size).after (sizes o held size).after)
      k fs tail site (site_of_values (v + 1) site) sound_a sound_o in
      let there = from_label c parents fs (second_at o held x kept k).label l.0 in
      let all = leaving whole (behaviour parents o s) in
      prefixed c parents whole (fails a held ++ fails o held) (breaks a held ++ breaks o held) fs x (length k) from there [] l.1 all.outcome all.state all.events
      (widened c parents whole (fails o held) (breaks o held) (fails a held ++ fails o held) (breaks a held ++ breaks o held) fs x (length k) there (λ h m. in_right h (fails a held) (fails o held) m) (λ h m. in_right h (breaks a held) (breaks o held) m) all.outcome all.state all.events
      (ways.1 s l.0 (agrees_kept agrees l.2)))
  else_by v e a o ones twos held x k fs s u tail site lt same sound_a sound_o agrees from (Some n) l =
      let whole = both_of (after a held) (after o held) in
      let kept = held_behind whole in
      let size = held_size agrees in
      let y = with_values x (v + 1) in
      let t = with_value s v n in
      let ways = way_runs a o ones twos held held y x whole kept (keeps_first (after a held) (after o held) (sizes a held size).after (sizes o held size).after) (keeps_second (after a held) (after o held) (sizes a held size).after (sizes o held size).after)
      k fs tail site (site_of_values (v + 1) site) sound_a sound_o in
      let there = from_label c parents fs (length (first_at a held y kept (second_at o held x kept k) k)) l.0 in
      let agrees_then : Mirrors (v + 1) held t l.0 = agrees_given agrees lt l.2 (λ i less ne. one_more v x.values i same less ne) in
      let all = leaving whole (behaviour parents a t) in
      prefixed c parents whole (fails a held ++ fails o held) (breaks a held ++ breaks o held) fs x (length k) from there [] l.1 all.outcome all.state all.events
      (widened c parents whole (fails a held) (breaks a held) (fails a held ++ fails o held) (breaks a held ++ breaks o held) fs x (length k) there (λ h m. in_left h (fails a held) (fails o held) m) (λ h m. in_left h (breaks a held) (breaks o held) m) all.outcome all.state all.events
      (fewer_values c parents whole (fails a held) (breaks a held) fs x (v + 1) (length k) (omega (arith, same)) there all.outcome all.state all.events (ways.0 t l.0 agrees_then)))

  pub else_runs : (v : ℕ) (e : Expression) (a o : Statement) → StatementRuns parents ready a → StatementRuns parents ready o → (held : Nodes) (x : Site) (k : List Instr) (fs : List Frame) (s u : State)
      → Tail c (into_code e v v (second_at o held x (held_behind (both_of (after a held) (after o held))) k).label (first_at a held (with_values x (v + 1)) (held_behind (both_of (after a held) (after o held))) (second_at o held x (held_behind (both_of (after a held) (after o held))) k) k))
      → IsSite c fs x (length k) → v ≡ x.values → IsReadable x.values held e → IsWellFormed a (x.values + 1) x.nodes held (is_some x.exit) → IsWellFormed o x.values x.nodes held (is_some x.exit) → Mirrors x.values held s u
      → StatementLeads (both_of (after a held) (after o held)) (fails a held ++ fails o held) (breaks a held ++ breaks o held) c parents fs x (length k)
      (from_label c parents fs (length (into_code e v v (second_at o held x (held_behind (both_of (after a held) (after o held))) k).label (first_at a held (with_values x (v + 1)) (held_behind (both_of (after a held) (after o held))) (second_at o held x (held_behind (both_of (after a held) (after o held))) k) k))) u)
      (leaving (both_of (after a held) (after o held)) (elim (number parents e s) [ Some y ↦ behaviour parents a (with_value s v y) | None ↦ behaviour parents o s ]))
  else_runs v e a o ones twos held x k fs s u tail site same readable sound_a sound_o agrees =
      let kept = held_behind (both_of (after a held) (after o held)) in
      let second = second_at o held x kept k in
      let code = first_at a held (with_values x (v + 1)) kept second k in
      let bounds = second_bounds o held x kept k site (direct o held x) refl in
      let long = tail_length (first_tail a held (with_values x (v + 1)) kept second k) in
      let le = bounds.1 in
      let first = bounds.0 in
      else_by v e a o ones twos held x k fs s u (tail_further tail (tail_of_stretch (into_stretch e v v second.label code))) site (into_range parents ready e v v second.label code tail) same
      (subst (λ d. IsWellFormed a (d + 1) x.nodes held (is_some x.exit)) (sym same) sound_a) sound_o agrees (from_label c parents fs (length (into_code e v v second.label code)) u) (number parents e s)
      (valued v e held x second.label code fs s u tail (omega (arith, le, long)) (further_in c fs (length k) (length code) (omega (arith, first, long)) site.inside) same readable agrees)
