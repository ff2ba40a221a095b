-- The targets of statements' jumps are allowed.
use Rattle.std.proofs.Common.{◌≡◌, inl, inr, ℕ, zero, suc, ◌+◌, ◌<◌, ◌≤◌, List, [], ◌∷◌, length, Bool, true, false, not, ◌&&◌, ◌||◌, Option, Some, None, is_some, if◌then◌else◌, refl, ap, ◌∙◌, subst, arith}
use Rattle.std.specs.Prelude.{pos}
use Rattle.std.proofs.lemmas.List.{length-append}
use Rattle.tl_instr.specs.declared.operand.TheConstants.{NODE_REGISTERS}
use Rattle.tl_instr.specs.declared.instr.Instr.{Instr}
use Rattle.tl_instr.specs.declared.instr.Instr.TheVariants as I
use Rattle.tl_instr.specs.Instructions.{target}
use Rattle.tl_budget.specs.Nested.{IsNested}
use Rattle.tl_budget.specs.declared.limits.TheConstants.{MAX_DEPTH}
use Rattle.tl_lowering.specs.declared.program.Expression.{Expression}
use Rattle.tl_lowering.specs.declared.program.Place.{Place}
use Rattle.tl_lowering.specs.declared.program.Place.TheVariants as P
use Rattle.tl_lowering.specs.declared.program.Statement.{Statement}
use Rattle.tl_lowering.specs.declared.program.Statement.TheVariants as S
use Rattle.tl_lowering.specs.Sets.{Nodes, none_held, minus, same, is_among, all_of, holds}
use Rattle.tl_lowering.specs.Outcomes.{locked, handled_by, after, fails}
use Rattle.tl_lowering.specs.Sound.{nodes_behind}
use Rattle.tl_compiler.specs.Aiming.{at_positions}
use Rattle.tl_compiler.specs.Labels.{target_of}
use Rattle.tl_compiler.specs.Numbers.{register_of, behind, into_code, branch_code}
use Rattle.tl_compiler.specs.NodeSets.{all_sets}
use Rattle.tl_compiler.specs.Statements.{Exit, Site, release_below, release_code, way_out, direct, is_skip, joining_code, second_by, Pads, pad_at, one_pad, pads_of, in_order_code, pair_code, place_code, held_behind, leave_code, Way, second_way, ways_code, choice_code, statement_code, procedure_code}
use Rattle.tl_compiler.proofs.Nestings.{Nests, here, one, turn, nests_further, nests_stretch, nests_aimed, nests_nested}
use Rattle.tl_compiler.proofs.Targets.{Leaves, stays, Reaches, Jumps, none, straight, jump, SiteReaches, reaches_further, reaches_out, jumps_further, into_jumps, operand_jumps, operands_jumps, branch_jumps}
use Rattle.tl_lowering.specs.Fit.{loops, AllTurn}
use Rattle.tl_compiler.proofs.Pieces.{left_max, right_max, release_nests, joining_nests, second_nests, pads_nests, leaves_nests, statement_nests}
use Rattle.tl_compiler.proofs.Landings.{AreTargets, are_targets, left}
use Rattle.tl_compiler.proofs.TailLemmas.{tail_length}

-- ---- sites

-- the code begins there
begins : {c k : List Instr} → Nests MAX_DEPTH c k → 0 < length k → Reaches c (length c)
begins {c} {k} n some = record { end = c; long = refl; some = let s = nests_stretch n in let e = ap length s.joined ∙ length-append s.front k in omega (arith, e, some); leaves = stays here }

on_some : {k : List Instr} {l : ℕ} → Reaches k l → 0 < l
on_some r = r.some

begins_on : {c k : List Instr} → Nests MAX_DEPTH c k → Reaches k (length k) → Reaches c (length c)
begins_on n on = begins n on.some

pub site_further : {x : Site} {c k : List Instr} → Nests MAX_DEPTH c k → SiteReaches x k → SiteReaches x c
site_further n s = record { on = begins_on n s.on; pads = λ h. reaches_further n (s.pads h); exits = λ e is. reaches_further n (s.exits e is) }

with_values : {x : Site} {k : List Instr} (n : ℕ) → SiteReaches x k → SiteReaches (record x { values = n }) k
with_values n s = record { on = s.on; pads = s.pads; exits = s.exits }

with_nodes : {x : Site} {k : List Instr} (n : ℕ) → SiteReaches x k → SiteReaches (record x { nodes = n }) k
with_nodes n s = record { on = s.on; pads = s.pads; exits = s.exits }

-- ---- pieces

release_jumps : (n : ℕ) (set : Nodes) (k : List Instr) → Jumps (release_below n set k) k
release_jumps zero set k = none
release_jumps (suc n) set k = by (holds set n) (release_jumps n set k)
  where
    by : (b : Bool) → Jumps (release_below n set k) k → Jumps (if b then I.Release n ∷ release_below n set k else release_below n set k) k
    by true rest = straight refl rest
    by false rest = rest

joining_jumps : (held : Option Nodes) (kept : Nodes) (jumps : Bool) (done : ℕ) (k : List Instr) → (jumps ≡ true → Reaches k done) → Jumps (joining_code held kept jumps done k) k
joining_jumps None kept jumps done k r = none
joining_jumps (Some held) kept false done k r = release_jumps NODE_REGISTERS (minus held kept) k
joining_jumps (Some held) kept true done k r = jumps_further (release_jumps NODE_REGISTERS (minus held kept) (I.Jump (target_of done) ∷ k)) (jump refl (r refl) none)

second_jumps : (to : Option ℕ) (skips : Bool) (held : Option Nodes) (kept : Nodes) (code : List Instr → List Instr) (k : List Instr) → ((k : List Instr) → Nests MAX_DEPTH (code k) k)
    → Reaches k (length k) → ((j : List Instr) → Nests MAX_DEPTH j k → Jumps (code j) j) → Jumps (second_by to skips held kept code k).code k
second_jumps (Some label) skips held kept code k n on j = none
second_jumps None skips held kept code k n on j =
    jumps_further (j (joining_code held kept false 0 k) (joining_nests held kept false 0 k)) (joining_jumps held kept false 0 k (λ e. cc))

-- the start of the second of two ways
second_reaches : (to : Option ℕ) (skips : Bool) (held : Option Nodes) (kept : Nodes) (code : List Instr → List Instr) (k : List Instr) → ((k : List Instr) → Nests MAX_DEPTH (code k) k)
    → Reaches k (length k) → ((label : ℕ) → to ≡ Some label → Reaches k label) → Reaches (second_by to skips held kept code k).code (second_by to skips held kept code k).label
second_reaches (Some label) skips held kept code k n on r = r label refl
second_reaches None skips held kept code k n on r = begins_on (nests_further (n (joining_code held kept false 0 k)) (joining_nests held kept false 0 k)) on

-- a statement without code leads where its site does
direct_reaches : (b : Statement) (held : Nodes) (x : Site) (k : List Instr) → SiteReaches x k → (label : ℕ) → direct b held x ≡ Some label → Reaches k label
direct_reaches S.Fail held x k s label e = let same : x.pad held ≡ label = cc in subst (Reaches k) same (s.pads held)
direct_reaches S.Break held x k s label e = by x.exit refl e
  where
    by : (o : Option Exit) → x.exit ≡ o → way_out held o ≡ Some label → Reaches k label
    by None f e = cc
    by (Some exit) f e = at (same exit.held held) e
      where
        at : (b : Bool) → (if b then Some exit.label else None) ≡ Some label → Reaches k label
        at true g = let same : exit.label ≡ label = cc in subst (Reaches k) same (s.exits exit f)
        at false g = cc
direct_reaches (S.At' offset p a) held x k s label e = direct_reaches a held x k s label e
direct_reaches S.Skip held x k s label e = cc
direct_reaches (S.Sequence' p a q b) held x k s label e = cc
direct_reaches (S.Assign v n) held x k s label e = cc
direct_reaches (S.Write n f v) held x k s label e = cc
direct_reaches (S.Emit n) held x k s label e = cc
direct_reaches (S.Free n) held x k s label e = cc
direct_reaches (S.Descend n v) held x k s label e = cc
direct_reaches (S.Take n m) held x k s label e = cc
direct_reaches S.Return held x k s label e = cc
direct_reaches (S.If' c p a q b) held x k s label e = cc
direct_reaches (S.Let' v n p a) held x k s label e = cc
direct_reaches (S.LetElse' v n p a q o) held x k s label e = cc
direct_reaches (S.Lock' place p a q o) held x k s label e = cc
direct_reaches (S.Try' p a q b) held x k s label e = cc
direct_reaches (S.Repeat' w p a) held x k s label e = cc
direct_reaches (S.RepeatUpTo' n w p a) held x k s label e = cc

-- the pads of a handler
pads_reach : (sets failing : List Nodes) (handled : Nodes) (label : ℕ) (base : Pads) → Reaches base.code (length base.code) → ((h : Nodes) → Reaches base.code (base.pad h)) → (h : Nodes)
    → Reaches (pads_of sets failing handled label base).code ((pads_of sets failing handled label base).pad h)
pads_reach [] failing handled label base on r h = r h
pads_reach (g ∷ others) failing handled label base on r h = by (is_among g failing && not (same g handled)) (pads_reach others failing handled label base on r h) (pads_nests others failing handled label base)
  where
    by : (b : Bool) → Reaches (pads_of others failing handled label base).code ((pads_of others failing handled label base).pad h) → Nests MAX_DEPTH (pads_of others failing handled label base).code base.code
        → Reaches (one_pad b g handled label (pads_of others failing handled label base)).code ((one_pad b g handled label (pads_of others failing handled label base)).pad h)
    by false rest n = rest
    by true rest n = at (same g h)
      where
        more : List Instr
        more = (pads_of others failing handled label base).code

        stands : Nests MAX_DEPTH (release_code (minus g handled) (I.Jump (target_of label) ∷ (pads_of others failing handled label base).code)) (pads_of others failing handled label base).code
        stands = nests_further (release_nests NODE_REGISTERS (minus g handled) (I.Jump (target_of label) ∷ (pads_of others failing handled label base).code)) (one (inl refl) here)

        at : (b : Bool) → Reaches (release_code (minus g handled) (I.Jump (target_of label) ∷ (pads_of others failing handled label base).code))
            (if b then length (release_code (minus g handled) (I.Jump (target_of label) ∷ (pads_of others failing handled label base).code)) else (pads_of others failing handled label base).pad h)
        at true = begins_on stands (begins_on n on)
        at false = reaches_further stands rest

pads_jumps : (sets failing : List Nodes) (handled : Nodes) (label : ℕ) (base : Pads) → Reaches base.code label → Jumps (pads_of sets failing handled label base).code base.code
pads_jumps [] failing handled label base r = none
pads_jumps (g ∷ others) failing handled label base r = by (is_among g failing && not (same g handled)) (pads_jumps others failing handled label base r) (pads_nests others failing handled label base)
  where
    by : (b : Bool) → Jumps (pads_of others failing handled label base).code base.code → Nests MAX_DEPTH (pads_of others failing handled label base).code base.code
        → Jumps (one_pad b g handled label (pads_of others failing handled label base)).code base.code
    by false rest n = rest
    by true rest n =
        let more = (pads_of others failing handled label base).code in
        jumps_further (release_jumps NODE_REGISTERS (minus g handled) (I.Jump (target_of label) ∷ more)) (jump refl (reaches_further n r) rest)

in_order_jumps : (lower x upper y parent done f : ℕ) (k : List Instr) → Reaches k done → Reaches k f → Jumps (in_order_code lower x upper y parent done f k) k
in_order_jumps lower x upper y parent done f k d r =
    let undone : List Instr = I.Release lower ∷ I.Jump (target_of f) ∷ k in
    let stands : Nests MAX_DEPTH undone k = one (inl refl) (one (inl refl) here) in
    let jumped : Nests MAX_DEPTH (I.Jump (target_of done) ∷ undone) k = one (inl refl) stands in
    jump refl (reaches_further (one (inl refl) jumped) r)
    (jump refl (reaches_further (one (inl refl) here) (begins stands (longer d.some d.leaves d.long)))
    (jump refl (reaches_further stands d) (straight refl (jump refl r none))))
  where
    longer : 0 < done → Leaves k d.end → length d.end ≡ done → 0 < length k
    longer some leaves long = let le = tail_length (left leaves) in omega (arith, some, long, le)

place_jumps : (place : Place) (t f : ℕ) (k : List Instr) → Reaches k f → Reaches k (length k) → Jumps (place_code place t f k) k
place_jumps (P.Node n e) t f k r on =
    let i = I.First n (register_of e t) (target_of f) in
    jumps_further (operand_jumps e t f (i ∷ k) (reaches_further (one (inl refl) here) r)) (jump refl r none)
place_jumps (P.Child n p e) t f k r on =
    let i = I.Child n p (register_of e t) (target_of f) in
    jumps_further (operand_jumps e t f (i ∷ k) (reaches_further (one (inl refl) here) r)) (jump refl r none)
place_jumps (P.Pair n m p a b) t f k r on =
    let x = register_of a t in
    let y = register_of b (behind a t) in
    let upward = in_order_code n x m y p (length k) f k in
    let downward = in_order_code m y n x p (length k) f upward in
    let up : Nests MAX_DEPTH upward k = one (inl refl) (one (inl refl) (one (inl refl) (one (inl refl) (one (inl refl) here)))) in
    let down : Nests MAX_DEPTH downward upward = one (inl refl) (one (inl refl) (one (inl refl) (one (inl refl) (one (inl refl) here)))) in
    let both : Nests MAX_DEPTH downward k = nests_further down up in
    let whole : Nests MAX_DEPTH (pair_code n x m y p f k) k = one (inl refl) (one (inl refl) both) in
    jumps_further (operands_jumps a b t f (pair_code n x m y p f k) (reaches_further whole r))
    (jump refl (reaches_further (one (inl refl) down) (begins_on up on))
    (jump refl (reaches_further both r)
    (jumps_further (in_order_jumps m y n x p (length k) f upward (reaches_further up on) (reaches_further up r)) (in_order_jumps n x m y p (length k) f k on r))))

leave_jumps : (held : Nodes) (exit : Option Exit) (k : List Instr) → ((e : Exit) → exit ≡ Some e → Reaches k e.label) → Jumps (leave_code held exit k) k
leave_jumps held None k r = none
leave_jumps held (Some e) k r = jumps_further (release_jumps NODE_REGISTERS (minus held e.held) (I.Jump (target_of e.label) ∷ k)) (jump refl (r e refl) none)

leaves_jumps : (leaves : Bool) (set : Nodes) (k : List Instr) → Jumps (if leaves then release_code set k else k) k
leaves_jumps true set k = release_jumps NODE_REGISTERS set k
leaves_jumps false set k = none

ways_jumps : (opening : ℕ → List Instr → List Instr) (first second : Way) (kept : Nodes) (k : List Instr)
    → ((label : ℕ) (j : List Instr) → Nests MAX_DEPTH j k → Reaches j label → Jumps (opening label j) j)
    → ((j : List Instr) → Nests MAX_DEPTH (first.code j) j) → ((j : List Instr) → Nests MAX_DEPTH (second.code j) j)
    → ((j : List Instr) → Nests MAX_DEPTH j k → Jumps (first.code j) j) → ((j : List Instr) → Nests MAX_DEPTH j k → Jumps (second.code j) j)
    → Reaches k (length k) → ((label : ℕ) → second.to ≡ Some label → Reaches k label)
    → Jumps (ways_code opening first (second_way second kept k) kept k) k
ways_jumps opening first second kept k opens ones twos first_jumps second_jump on to =
    let s = second_way second kept k in
    let behind_first = joining_code first.held kept s.jumps (length k) s.code in
    let stands : Nests MAX_DEPTH s.code k = second_nests second.to second.skips second.held kept second.code k twos in
    let joins : Nests MAX_DEPTH behind_first s.code = joining_nests first.held kept s.jumps (length k) s.code in
    let all : Nests MAX_DEPTH behind_first k = nests_further joins stands in
    let at : Reaches s.code s.label = second_reaches second.to second.skips second.held kept second.code k twos on to in
    jumps_further (opens s.label (first.code behind_first) (nests_further (ones behind_first) all) (reaches_further (nests_further (ones behind_first) joins) at))
    (jumps_further (first_jumps behind_first all)
    (jumps_further (joining_jumps first.held kept s.jumps (length k) s.code (λ e. reaches_further stands on))
    (second_jumps second.to second.skips second.held kept second.code k twos on second_jump)))

choice_jumps : (branch : Bool → ℕ → List Instr → List Instr) (to other : Option ℕ) (first second : Way) (kept : Nodes) (k : List Instr)
    → ((b : Bool) (label : ℕ) (j : List Instr) → Nests MAX_DEPTH j k → Reaches j label → Jumps (branch b label j) j)
    → ((j : List Instr) → Nests MAX_DEPTH (first.code j) j) → ((j : List Instr) → Nests MAX_DEPTH (second.code j) j)
    → ((j : List Instr) → Nests MAX_DEPTH j k → Jumps (first.code j) j) → ((j : List Instr) → Nests MAX_DEPTH j k → Jumps (second.code j) j)
    → Reaches k (length k) → ((label : ℕ) → to ≡ Some label → Reaches k label) → ((label : ℕ) → second.to ≡ Some label → Reaches k label)
    → Jumps (choice_code branch to other first second kept k) k
choice_jumps branch (Some label) None first second kept k opens ones twos firsts seconds on to also =
    jumps_further (opens true label (second.code k) (twos k) (reaches_further (twos k) (to label refl))) (seconds k here)
choice_jumps branch (Some label) (Some l) first second kept k opens ones twos firsts seconds on to also = ways_jumps (branch false) first second kept k (opens false) ones twos firsts seconds on also
choice_jumps branch None other first second kept k opens ones twos firsts seconds on to also = ways_jumps (branch false) first second kept k (opens false) ones twos firsts seconds on also

-- the site inside a loop
inner_site : (x : Site) (kept : Nodes) (k rest : List Instr) → Nests MAX_DEPTH rest k → SiteReaches x k → SiteReaches (record x { exit = Some (record { label = length k; held = kept }) }) (I.End ∷ rest)
inner_site x kept k rest n s =
    let some : 0 < length (I.End ∷ rest) = omega arith in
    let o : Exit = record { label = length k; held = kept } in
    record {
      on = record { end = I.End ∷ rest; long = refl; some = some; leaves = stays here };
      pads = λ h. reaches_out here (reaches_further n (s.pads h));
      exits = λ e is. let same : o ≡ e = cc in subst (λ (q : Exit). Reaches (I.End ∷ rest) q.label) same (reaches_out here (reaches_further n s.on));
    }

loop_jumps : (i : Instr) (body rest k : List Instr) → target i ≡ None → Jumps body (I.End ∷ rest) → Jumps rest k → Jumps (i ∷ body) k
loop_jumps i body rest k e inside behind = straight e (jumps_further inside (straight refl behind))

-- the loop of a counted repetition, from the instruction that opens it
up_to_nests : (a : Statement) (held : Nodes) (inner : Site) (e : Expression) (w t : ℕ) (rest k : List Instr) → loops a < MAX_DEPTH → (0 < w) × AllTurn a
    → Nests MAX_DEPTH (I.RepeatBy (register_of e t) w ∷ statement_code a held inner (I.End ∷ rest)) rest
up_to_nests a held inner e w t rest k le turns = turn refl turns.0 (statement_nests a 3 held inner (I.End ∷ rest) (omega (arith, le)) turns.1) here

pub statement_jumps : (S : Statement) (held : Nodes) (x : Site) (k : List Instr) → loops S ≤ MAX_DEPTH → AllTurn S → SiteReaches x k → Jumps (statement_code S held x k) k
statement_jumps S.Skip held x k le t s = none
statement_jumps (S.Sequence' p a q b) held x k le t s =
    let la = left_max (loops a) (loops b) MAX_DEPTH le in
    let lb = right_max (loops a) (loops b) MAX_DEPTH le in
    let between = held_behind (after a held) in
    jumps_further (statement_jumps a held x (statement_code b between x k) la t.0 (site_further (statement_nests b MAX_DEPTH between x k lb t.1) s)) (statement_jumps b between x k lb t.1 s)
statement_jumps (S.Assign v e) held x k le t s = into_jumps e v x.values (x.pad held) k (s.pads held)
statement_jumps (S.Write n f e) held x k le t s =
    jumps_further (operand_jumps e x.values (x.pad held) (I.Put n f (register_of e x.values) ∷ k) (reaches_further (one (inl refl) here) (s.pads held))) (straight refl none)
statement_jumps (S.Emit e) held x k le t s =
    jumps_further (operand_jumps e x.values (x.pad held) (I.Emit (register_of e x.values) ∷ k) (reaches_further (one (inl refl) here) (s.pads held))) (straight refl none)
statement_jumps (S.Free n) held x k le t s = straight refl none
statement_jumps (S.Descend n e) held x k le t s =
    let tail : Nests MAX_DEPTH (I.Release n ∷ I.Move n x.nodes ∷ k) k = one (inl refl) (one (inl refl) here) in
    jumps_further (operand_jumps e x.values (x.pad held) (I.Child x.nodes n (register_of e x.values) (target_of (x.pad held)) ∷ I.Release n ∷ I.Move n x.nodes ∷ k) (reaches_further (one (inl refl) tail) (s.pads held)))
    (jump refl (reaches_further tail (s.pads held)) (straight refl (straight refl none)))
statement_jumps (S.Take n m) held x k le t s = straight refl (straight refl none)
statement_jumps S.Break held x k le t s = leave_jumps held x.exit k s.exits
statement_jumps S.Return held x k le t s = jumps_further (release_jumps NODE_REGISTERS held (I.Return ∷ k)) (straight refl none)
statement_jumps S.Fail held x k le t s = jump refl (s.pads held) none
statement_jumps (S.If' c p a q b) held x k le t s =
    let la = left_max (loops a) (loops b) MAX_DEPTH le in
    let lb = right_max (loops a) (loops b) MAX_DEPTH le in
    choice_jumps (λ sense label k. branch_code c sense label x.values (x.pad held) k) (direct a held x) (direct b held x)
    (record { to = None; skips = is_skip a; held = after a held; code = statement_code a held x })
    (record { to = direct b held x; skips = is_skip b; held = after b held; code = statement_code b held x })
    (held_behind (after (S.If' c p a q b) held)) k
    (λ sense label j n r. branch_jumps c sense label x.values (x.pad held) j r (reaches_further n (s.pads held)) (begins_on n s.on))
    (λ j. statement_nests a MAX_DEPTH held x j la t.0) (λ j. statement_nests b MAX_DEPTH held x j lb t.1)
    (λ j n. statement_jumps a held x j la t.0 (site_further n s)) (λ j n. statement_jumps b held x j lb t.1 (site_further n s))
    s.on (direct_reaches a held x k s) (direct_reaches b held x k s)
statement_jumps (S.Let' v e p a) held x k le t s =
    let y : Site = record x { values = v + 1 } in
    let rest = joining_code (after a held) (held_behind (after a held)) false (length k) k in
    let joins : Nests MAX_DEPTH rest k = joining_nests (after a held) (held_behind (after a held)) false (length k) k in
    let stands : Nests MAX_DEPTH (statement_code a held y rest) rest = statement_nests a MAX_DEPTH held y rest le t in
    jumps_further (into_jumps e v v (x.pad held) (statement_code a held y rest) (reaches_further (nests_further stands joins) (s.pads held)))
    (jumps_further (statement_jumps a held y rest le t (with_values (v + 1) (site_further joins s)))
    (joining_jumps (after a held) (held_behind (after a held)) false (length k) k (λ e. cc)))
statement_jumps (S.LetElse' v e p a q o) held x k le t s =
    let la = left_max (loops a) (loops o) MAX_DEPTH le in
    let lb = right_max (loops a) (loops o) MAX_DEPTH le in
    ways_jumps (λ label k. into_code e v v label k)
    (record { to = None; skips = false; held = after a held; code = statement_code a held (record x { values = v + 1 }) })
    (record { to = direct o held x; skips = is_skip o; held = after o held; code = statement_code o held x })
    (held_behind (after (S.LetElse' v e p a q o) held)) k
    (λ label j n r. into_jumps e v v label j r)
    (λ j. statement_nests a MAX_DEPTH held (record x { values = v + 1 }) j la t.0) (λ j. statement_nests o MAX_DEPTH held x j lb t.1)
    (λ j n. statement_jumps a held (record x { values = v + 1 }) j la t.0 (with_values (v + 1) (site_further n s))) (λ j n. statement_jumps o held x j lb t.1 (site_further n s))
    s.on (direct_reaches o held x k s)
statement_jumps (S.Lock' place p a q o) held x k le t s =
    let la = left_max (loops a) (loops o) MAX_DEPTH le in
    let lb = right_max (loops a) (loops o) MAX_DEPTH le in
    ways_jumps (λ label k. place_code place x.values label k)
    (record {
      to = None;
      skips = false;
      held = after a (locked place held);
      code = statement_code a (locked place held) (record x { nodes = nodes_behind place });
    })
    (record { to = direct o held x; skips = is_skip o; held = after o held; code = statement_code o held x })
    (held_behind (after (S.Lock' place p a q o) held)) k
    (λ label j n r. place_jumps place x.values label j r (begins_on n s.on))
    (λ j. statement_nests a MAX_DEPTH (locked place held) (record x { nodes = nodes_behind place }) j la t.0) (λ j. statement_nests o MAX_DEPTH held x j lb t.1)
    (λ j n. statement_jumps a (locked place held) (record x { nodes = nodes_behind place }) j la t.0 (with_nodes (nodes_behind place) (site_further n s))) (λ j n. statement_jumps o held x j lb t.1 (site_further n s))
    s.on (direct_reaches o held x k s)
statement_jumps (S.Try' p a q b) held x k le t s =
    let la = left_max (loops a) (loops b) MAX_DEPTH le in
    let lb = right_max (loops a) (loops b) MAX_DEPTH le in
    let kept = held_behind (after (S.Try' p a q b) held) in
    let start = handled_by held (all_of (fails a held)) in
    let way : Way = record { to = direct b start x; skips = is_skip b; held = after b start; code = statement_code b start x } in
    let second = second_way way kept k in
    let base : Pads = record { code = second.code; pad = pad_at start second.label x.pad; are_some = false } in
    let pads = pads_of all_sets (fails a held) start second.label base in
    let jumped = second.jumps || pads.are_some in
    let rest = joining_code (after a held) kept jumped (length k) pads.code in
    let twos : (j : List Instr) → Nests MAX_DEPTH (way.code j) j = λ j. statement_nests b MAX_DEPTH start x j lb t.1 in
    let stands : Nests MAX_DEPTH second.code k = second_nests way.to way.skips way.held kept way.code k twos in
    let padded : Nests MAX_DEPTH pads.code second.code = pads_nests all_sets (fails a held) start second.label base in
    let joins : Nests MAX_DEPTH rest pads.code = joining_nests (after a held) kept jumped (length k) pads.code in
    let at : Reaches second.code second.label = second_reaches way.to way.skips way.held kept way.code k twos s.on (direct_reaches b start x k s) in
    let begun : Reaches second.code (length second.code) = begins_on stands s.on in
    let to_rest : Nests MAX_DEPTH rest k = nests_further joins (nests_further padded stands) in
    let inside : SiteReaches (record x { pad = pads.pad }) rest =
    record {
      on = begins_on to_rest s.on;
      pads = λ h. reaches_further joins (pads_reach all_sets (fails a held) start second.label base begun (λ h. base_pads h at (reaches_further stands (s.pads h))) h);
      exits = λ e is. reaches_further to_rest (s.exits e is);
    } in
    jumps_further (statement_jumps a held (record x { pad = pads.pad }) rest la t.0 inside)
    (jumps_further (joining_jumps (after a held) kept jumped (length k) pads.code (λ e. reaches_further (nests_further padded stands) s.on))
    (jumps_further (pads_jumps all_sets (fails a held) start second.label base at)
    (second_jumps way.to way.skips way.held kept way.code k twos s.on (λ j n. statement_jumps b start x j lb t.1 (site_further n s)))))
  where
    base_pads : {c : List Instr} {label : ℕ} (h : Nodes) → Reaches c label → Reaches c (x.pad h) → Reaches c (pad_at (handled_by held (all_of (fails a held))) label x.pad h)
    base_pads {c} {label} h first other = by (same (handled_by held (all_of (fails a held))) h)
      where
        by : (b : Bool) → Reaches c (if b then label else x.pad h)
        by true = first
        by false = other
statement_jumps (S.Repeat' w p a) held x k le t s =
    let kept = held_behind (after (S.Repeat' w p a) held) in
    let rest = if is_some (after a held) then release_code (minus held kept) k else k in
    let behind_loop : Nests MAX_DEPTH rest k = leaves_nests (is_some (after a held)) (minus held kept) k in
    let inner : Site = record x { exit = Some (record { label = length k; held = kept }) } in
    loop_jumps (I.Repeat w) (statement_code a held inner (I.End ∷ rest)) rest k refl
    (statement_jumps a held inner (I.End ∷ rest) (omega (arith, le)) t.1 (inner_site x kept k rest behind_loop s)) (leaves_jumps (is_some (after a held)) (minus held kept) k)
statement_jumps (S.RepeatUpTo' e w p a) held x k le t s =
    let kept = held_behind (after (S.RepeatUpTo' e w p a) held) in
    let rest = release_code (minus held kept) k in
    let behind_loop : Nests MAX_DEPTH rest k = release_nests NODE_REGISTERS (minus held kept) k in
    let inner : Site = record x { exit = Some (record { label = length k; held = kept }) } in
    let body = statement_code a held inner (I.End ∷ rest) in
    let u = behind e x.values in
    let r = register_of e x.values in
    let f = x.pad held in
    let to_pad : Reaches (I.RepeatBy r w ∷ body) f = reaches_further (up_to_nests a held inner e w x.values rest k le t) (reaches_further behind_loop (s.pads held)) in
    jumps_further (operand_jumps e x.values f (I.Set u (pos w) ∷ I.JumpIfLess u r (target_of f) ∷ I.RepeatBy r w ∷ body) (reaches_further (one (inl refl) (one (inl refl) here)) to_pad))
    (straight refl (jump refl to_pad (loop_jumps (I.RepeatBy r w) body rest k refl
    (statement_jumps a held inner (I.End ∷ rest) (omega (arith, le)) t.1 (inner_site x kept k rest behind_loop s)) (release_jumps NODE_REGISTERS (minus held kept) k))))
statement_jumps (S.At' offset p a) held x k le t s = statement_jumps a held x k le t s

-- ---- procedures

pub record IsOrderly (code : List Instr) : Type 0 where
  pub nested : IsNested code
  pub targets : AreTargets code

-- what the verifier requires of loops and targets
pub procedure_orderly : (arity : ℕ) (body : Statement) → loops body ≤ MAX_DEPTH → AllTurn body → length (procedure_code arity body) ≤ 65535 → IsOrderly (at_positions (procedure_code arity body))
procedure_orderly arity body le turns short =
    let site : Site = record { values = arity; nodes = 0; pad = λ held. 1; exit = None } in
    let last : List Instr = I.Return ∷ [] in
    let c = procedure_code arity body in
    let at_last : Reaches last 1 = record { end = last; long = refl; some = omega arith; leaves = stays here } in
    let is_site : SiteReaches site last = record { on = at_last; pads = λ h. at_last; exits = λ e is. cc } in
    let nests : Nests MAX_DEPTH c [] = nests_further (statement_nests body MAX_DEPTH none_held site last le turns) (one (inr refl) here) in
    let jumps : Jumps c [] = jumps_further (statement_jumps body none_held site last le turns is_site) (straight refl none) in
    record { nested = nests_nested (at_positions c) (nests_aimed (length c) nests); targets = are_targets c short jumps }
