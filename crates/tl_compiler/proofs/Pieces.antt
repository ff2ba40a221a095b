-- The code of statements: its loops match, and the targets of its jumps are allowed.
use Rattle.std.proofs.Common.{◌≡◌, inl, inr, ℕ, zero, suc, ◌+◌, ◌<◌, ◌≤◌, List, [], ◌∷◌, length, max, Bool, true, false, not, ◌&&◌, ◌||◌, Option, Some, None, is_some, if◌then◌else◌, refl, arith}
use Rattle.std.specs.Prelude.{pos}
use Rattle.tl_instr.specs.declared.operand.TheConstants.{NODE_REGISTERS}
use Rattle.tl_instr.specs.declared.instr.Instr.{Instr}
use Rattle.tl_instr.specs.declared.instr.Instr.TheVariants as I
use Rattle.tl_budget.specs.Loops.{Opens, Acts, kind}
use Rattle.tl_lowering.specs.declared.program.Place.{Place}
use Rattle.tl_lowering.specs.declared.program.Place.TheVariants as P
use Rattle.tl_lowering.specs.declared.program.Statement.{Statement}
use Rattle.tl_lowering.specs.declared.program.Statement.TheVariants as S
use Rattle.tl_lowering.specs.Sets.{Nodes, minus, same, is_among, all_of, holds}
use Rattle.tl_lowering.specs.Outcomes.{locked, handled_by, after, fails}
use Rattle.tl_lowering.specs.Fit.{loops, AllTurn}
use Rattle.tl_lowering.specs.Sound.{nodes_behind}
use Rattle.tl_compiler.specs.Labels.{target_of}
use Rattle.tl_compiler.specs.Numbers.{register_of, behind, into_code, branch_code}
use Rattle.tl_compiler.specs.NodeSets.{all_sets}
use Rattle.tl_compiler.specs.Statements.{Exit, Site, release_below, release_code, direct, is_skip, joining_code, second_by, Pads, pad_at, one_pad, pads_of, in_order_code, pair_code, place_code, loop_code, held_behind, leave_code, Way, second_way, ways_code, choice_code, statement_code}
use Rattle.tl_compiler.proofs.Nestings.{Nests, here, one, turn, nests_further}
use Rattle.tl_compiler.proofs.Targets.{into_nests, operand_nests, operands_nests, branch_nests}

pub left_max : (a b d : ℕ) → max a b ≤ d → a ≤ d
left_max a b d le = omega (arith, le)

pub right_max : (a b d : ℕ) → max a b ≤ d → b ≤ d
right_max a b d le = omega (arith, le)

-- ---- loops

acts : {d : ℕ} (i : Instr) (k : List Instr) → kind i ≡ Acts → Nests d (i ∷ k) k
acts i k e = one (inl e) here

pub release_nests : {d : ℕ} (n : ℕ) (set : Nodes) (k : List Instr) → Nests d (release_below n set k) k
release_nests zero set k = here
release_nests {d} (suc n) set k = by (holds set n) (release_nests n set k)
  where
    by : (b : Bool) → Nests d (release_below n set k) k → Nests d (if b then I.Release n ∷ release_below n set k else release_below n set k) k
    by true rest = one (inl refl) rest
    by false rest = rest

pub joining_nests : {d : ℕ} (held : Option Nodes) (kept : Nodes) (jumps : Bool) (done : ℕ) (k : List Instr) → Nests d (joining_code held kept jumps done k) k
joining_nests None kept jumps done k = here
joining_nests (Some held) kept false done k = release_nests NODE_REGISTERS (minus held kept) k
joining_nests (Some held) kept true done k = nests_further (release_nests NODE_REGISTERS (minus held kept) (I.Jump (target_of done) ∷ k)) (acts (I.Jump (target_of done)) k refl)

pub second_nests : {d : ℕ} (to : Option ℕ) (skips : Bool) (held : Option Nodes) (kept : Nodes) (code : List Instr → List Instr) (k : List Instr) → ((k : List Instr) → Nests d (code k) k) → Nests d (second_by to skips held kept code k).code k
second_nests (Some label) skips held kept code k n = here
second_nests None skips held kept code k n = nests_further (n (joining_code held kept false 0 k)) (joining_nests held kept false 0 k)

pub pads_nests : {d : ℕ} (sets failing : List Nodes) (handled : Nodes) (label : ℕ) (pads : Pads) → Nests d (pads_of sets failing handled label pads).code pads.code
pads_nests [] failing handled label pads = here
pads_nests {d} (held ∷ others) failing handled label pads = by (is_among held failing && not (same held handled)) (pads_nests others failing handled label pads)
  where
    by : (b : Bool) → Nests d (pads_of others failing handled label pads).code pads.code → Nests d (one_pad b held handled label (pads_of others failing handled label pads)).code pads.code
    by false rest = rest
    by true rest =
        let more = (pads_of others failing handled label pads).code in
        nests_further (nests_further (release_nests NODE_REGISTERS (minus held handled) (I.Jump (target_of label) ∷ more)) (acts (I.Jump (target_of label)) more refl)) rest

in_order_nests : {d : ℕ} (lower x upper y parent done f : ℕ) (k : List Instr) → Nests d (in_order_code lower x upper y parent done f k) k
in_order_nests lower x upper y parent done f k = one (inl refl) (one (inl refl) (one (inl refl) (one (inl refl) (one (inl refl) here))))

pub place_nests : {d : ℕ} (place : Place) (t f : ℕ) (k : List Instr) → Nests d (place_code place t f k) k
place_nests (P.Node n e) t f k = nests_further (operand_nests e t f (I.First n (register_of e t) (target_of f) ∷ k)) (one (inl refl) here)
place_nests (P.Child n p e) t f k = nests_further (operand_nests e t f (I.Child n p (register_of e t) (target_of f) ∷ k)) (one (inl refl) here)
place_nests (P.Pair n m p a b) t f k =
    let x = register_of a t in
    let y = register_of b (behind a t) in
    let upward = in_order_code n x m y p (length k) f k in
    nests_further (operands_nests a b t f (pair_code n x m y p f k))
    (one (inl refl) (one (inl refl) (nests_further (in_order_nests m y n x p (length k) f upward) (in_order_nests n x m y p (length k) f k))))

leave_nests : {d : ℕ} (held : Nodes) (exit : Option Exit) (k : List Instr) → Nests d (leave_code held exit k) k
leave_nests held None k = here
leave_nests held (Some e) k = nests_further (release_nests NODE_REGISTERS (minus held e.held) (I.Jump (target_of e.label) ∷ k)) (one (inl refl) here)

pub leaves_nests : {d : ℕ} (leaves : Bool) (set : Nodes) (k : List Instr) → Nests d (if leaves then release_code set k else k) k
leaves_nests true set k = release_nests NODE_REGISTERS set k
leaves_nests false set k = here

ways_nests : {d : ℕ} (opening : ℕ → List Instr → List Instr) (first second : Way) (kept : Nodes) (k : List Instr) → ((label : ℕ) (k : List Instr) → Nests d (opening label k) k)
    → ((k : List Instr) → Nests d (first.code k) k) → ((k : List Instr) → Nests d (second.code k) k) → Nests d (ways_code opening first (second_way second kept k) kept k) k
ways_nests opening first second kept k openings ones twos =
    let s = second_way second kept k in
    let behind_first = joining_code first.held kept s.jumps (length k) s.code in
    nests_further (openings s.label (first.code behind_first))
    (nests_further (ones behind_first)
    (nests_further (joining_nests first.held kept s.jumps (length k) s.code) (second_nests second.to second.skips second.held kept second.code k twos)))

choice_nests : {d : ℕ} (branch : Bool → ℕ → List Instr → List Instr) (to other : Option ℕ) (first second : Way) (kept : Nodes) (k : List Instr) → ((b : Bool) (label : ℕ) (k : List Instr) → Nests d (branch b label k) k)
    → ((k : List Instr) → Nests d (first.code k) k) → ((k : List Instr) → Nests d (second.code k) k) → Nests d (choice_code branch to other first second kept k) k
choice_nests branch (Some label) None first second kept k branches ones twos = nests_further (branches true label (second.code k)) (twos k)
choice_nests branch (Some label) (Some l) first second kept k branches ones twos = ways_nests (branch false) first second kept k (branches false) ones twos
choice_nests branch None other first second kept k branches ones twos = ways_nests (branch false) first second kept k (branches false) ones twos

looping : (d w : ℕ) (i : Instr) (body k : List Instr) → suc zero ≤ d → kind i ≡ Opens w → 0 < w → ((e : ℕ) → suc e ≡ d → Nests e body (I.End ∷ k)) → Nests d (i ∷ body) k
looping zero w i body k le e turns inside = absurd (omega arith)
looping (suc d) w i body k le e turns inside = turn e turns (inside d refl) here

pub statement_nests : (S : Statement) (d : ℕ) (held : Nodes) (x : Site) (k : List Instr) → loops S ≤ d → AllTurn S → Nests d (statement_code S held x k) k
statement_nests S.Skip d held x k le t = here
statement_nests (S.Sequence' p a q b) d held x k le t =
    nests_further (statement_nests a d held x (statement_code b (held_behind (after a held)) x k) (left_max (loops a) (loops b) d le) t.0)
    (statement_nests b d (held_behind (after a held)) x k (right_max (loops a) (loops b) d le) t.1)
statement_nests (S.Assign v e) d held x k le t = into_nests e v x.values (x.pad held) k
statement_nests (S.Write n f e) d held x k le t = nests_further (operand_nests e x.values (x.pad held) (I.Put n f (register_of e x.values) ∷ k)) (one (inl refl) here)
statement_nests (S.Emit e) d held x k le t = nests_further (operand_nests e x.values (x.pad held) (I.Emit (register_of e x.values) ∷ k)) (one (inl refl) here)
statement_nests (S.Free n) d held x k le t = one (inl refl) here
statement_nests (S.Descend n e) d held x k le t =
    nests_further (operand_nests e x.values (x.pad held) (I.Child x.nodes n (register_of e x.values) (target_of (x.pad held)) ∷ I.Release n ∷ I.Move n x.nodes ∷ k)) (one (inl refl) (one (inl refl) (one (inl refl) here)))
statement_nests (S.Take n m) d held x k le t = one (inl refl) (one (inl refl) here)
statement_nests S.Break d held x k le t = leave_nests held x.exit k
statement_nests S.Return d held x k le t = nests_further (release_nests NODE_REGISTERS held (I.Return ∷ k)) (one (inr refl) here)
statement_nests S.Fail d held x k le t = one (inl refl) here
statement_nests (S.If' c p a q b) d held x k le t =
    choice_nests (λ sense label k. branch_code c sense label x.values (x.pad held) k) (direct a held x) (direct b held x)
    (record { to = None; skips = is_skip a; held = after a held; code = statement_code a held x })
    (record { to = direct b held x; skips = is_skip b; held = after b held; code = statement_code b held x })
    (held_behind (after (S.If' c p a q b) held)) k
    (λ sense label k. branch_nests c sense label x.values (x.pad held) k) (λ k. statement_nests a d held x k (left_max (loops a) (loops b) d le) t.0) (λ k. statement_nests b d held x k (right_max (loops a) (loops b) d le) t.1)
statement_nests (S.Let' v e p a) d held x k le t =
    let rest = joining_code (after a held) (held_behind (after a held)) false (length k) k in
    nests_further (into_nests e v v (x.pad held) (statement_code a held (record x { values = v + 1 }) rest))
    (nests_further (statement_nests a d held (record x { values = v + 1 }) rest le t) (joining_nests (after a held) (held_behind (after a held)) false (length k) k))
statement_nests (S.LetElse' v e p a q o) d held x k le t =
    ways_nests (λ label k. into_code e v v label k)
    (record { to = None; skips = false; held = after a held; code = statement_code a held (record x { values = v + 1 }) })
    (record { to = direct o held x; skips = is_skip o; held = after o held; code = statement_code o held x })
    (held_behind (after (S.LetElse' v e p a q o) held)) k
    (λ label k. into_nests e v v label k) (λ k. statement_nests a d held (record x { values = v + 1 }) k (left_max (loops a) (loops o) d le) t.0) (λ k. statement_nests o d held x k (right_max (loops a) (loops o) d le) t.1)
statement_nests (S.Lock' place p a q o) d held x k le t =
    ways_nests (λ label k. place_code place x.values label k)
    (record {
      to = None;
      skips = false;
      held = after a (locked place held);
      code = statement_code a (locked place held) (record x { nodes = nodes_behind place });
    })
    (record { to = direct o held x; skips = is_skip o; held = after o held; code = statement_code o held x })
    (held_behind (after (S.Lock' place p a q o) held)) k
    (λ label k. place_nests place x.values label k) (λ k. statement_nests a d (locked place held) (record x { nodes = nodes_behind place }) k (left_max (loops a) (loops o) d le) t.0)
    (λ k. statement_nests o d held x k (right_max (loops a) (loops o) d le) t.1)
statement_nests (S.Try' p a q b) d held x k le t =
    let kept = held_behind (after (S.Try' p a q b) held) in
    let start = handled_by held (all_of (fails a held)) in
    let way : Way = record { to = direct b start x; skips = is_skip b; held = after b start; code = statement_code b start x } in
    let second = second_way way kept k in
    let base : Pads = record { code = second.code; pad = pad_at start second.label x.pad; are_some = false } in
    let pads = pads_of all_sets (fails a held) start second.label base in
    let rest = joining_code (after a held) kept (second.jumps || pads.are_some) (length k) pads.code in
    nests_further (statement_nests a d held (record x { pad = pads.pad }) rest (left_max (loops a) (loops b) d le) t.0)
    (nests_further (joining_nests (after a held) kept (second.jumps || pads.are_some) (length k) pads.code)
    (nests_further (pads_nests all_sets (fails a held) start second.label base) (second_nests way.to way.skips way.held kept way.code k (λ k. statement_nests b d start x k (right_max (loops a) (loops b) d le) t.1))))
statement_nests (S.Repeat' w p a) d held x k le t =
    let kept = held_behind (after (S.Repeat' w p a) held) in
    let rest = if is_some (after a held) then release_code (minus held kept) k else k in
    let inner : Site = record x { exit = Some (record { label = length k; held = kept }) } in
    nests_further (looping d w (I.Repeat w) (loop_code (statement_code a held) (is_some (after a held)) held kept x k) rest (omega (arith, le)) refl t.0 (λ e same. statement_nests a e held inner (I.End ∷ rest) (omega (arith, le, same)) t.1))
    (leaves_nests (is_some (after a held)) (minus held kept) k)
statement_nests (S.RepeatUpTo' e w p a) d held x k le t =
    let kept = held_behind (after (S.RepeatUpTo' e w p a) held) in
    let rest = release_code (minus held kept) k in
    let inner : Site = record x { exit = Some (record { label = length k; held = kept }) } in
    let body = loop_code (statement_code a held) true held kept x k in
    let u = behind e x.values in
    let r = register_of e x.values in
    nests_further (operand_nests e x.values (x.pad held) (I.Set u (pos w) ∷ I.JumpIfLess u r (target_of (x.pad held)) ∷ I.RepeatBy r w ∷ body))
    (one (inl refl) (one (inl refl)
    (nests_further (looping d w (I.RepeatBy r w) body rest (omega (arith, le)) refl t.0 (λ f same. statement_nests a f held inner (I.End ∷ rest) (omega (arith, le, same)) t.1))
    (release_nests NODE_REGISTERS (minus held kept) k))))
statement_nests (S.At' offset p a) d held x k le t = statement_nests a d held x k le t
