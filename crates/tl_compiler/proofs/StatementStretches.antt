-- The code of a statement is put in front of the code after it, and closes each loop that it opens.
use Rattle.std.proofs.Common.{ℕ, ◌+◌, List, [], ◌∷◌, length, Bool, true, false, not, ◌&&◌, ◌||◌, Option, Some, None, is_some, if◌then◌else◌, refl}
use Rattle.std.specs.Prelude.{pos}
use Rattle.tl_instr.specs.declared.operand.TheConstants.{NODE_REGISTERS}
use Rattle.tl_instr.specs.declared.instr.Instr.{Instr}
use Rattle.tl_instr.specs.declared.instr.Instr.TheVariants as I
use Rattle.tl_lowering.specs.declared.program.Expression.{Expression}
use Rattle.tl_lowering.specs.declared.program.Place.{Place}
use Rattle.tl_lowering.specs.declared.program.Place.TheVariants as P
use Rattle.tl_lowering.specs.declared.program.Statement.{Statement}
use Rattle.tl_lowering.specs.declared.program.Statement.TheVariants as S
use Rattle.tl_compiler.specs.Labels.{target_of}
use Rattle.tl_compiler.specs.Numbers.{register_of, behind, into_code, branch_code}
use Rattle.tl_lowering.specs.Sets.{Nodes, minus, same, is_among, all_of}
use Rattle.tl_compiler.specs.NodeSets.{all_sets}
use Rattle.tl_lowering.specs.Outcomes.{locked, handled_by, after, fails}
use Rattle.tl_compiler.specs.Statements.{Exit, Site, release_code, direct, is_skip, joining_code, second_by, Pads, pad_at, one_pad, pads_of, in_order_code, pair_code, place_code, counted_code, loop_code, held_behind, leave_code, Way, second_way, ways_code, choice_code, statement_code}
use Rattle.tl_lowering.specs.Sound.{nodes_behind}
use Rattle.tl_compiler.proofs.Stretches.{Stretch, stretch_whole, stretch_further, stretch_acts, stretch_returns, stretch_loop}
use Rattle.tl_compiler.proofs.NumberStretches.{into_stretch, operand_stretch, operands_stretch, branch_stretch, release_stretch}

pub joining_stretch : (held : Option Nodes) (kept : Nodes) (jumps : Bool) (done : ℕ) (k : List Instr) → Stretch (joining_code held kept jumps done k) k
joining_stretch None kept jumps done k = stretch_whole k
joining_stretch (Some held) kept false done k = release_stretch NODE_REGISTERS (minus held kept) k
joining_stretch (Some held) kept true done k =
    stretch_further (release_stretch NODE_REGISTERS (minus held kept) (I.Jump (target_of done) ∷ k)) (stretch_acts (I.Jump (target_of done)) k refl)

pub second_stretch : (to : Option ℕ) (skips : Bool) (held : Option Nodes) (kept : Nodes) (code : List Instr → List Instr) (k : List Instr) → ((k : List Instr) → Stretch (code k) k) → Stretch (second_by to skips held kept code k).code k
second_stretch (Some label) skips held kept code k stretch = stretch_whole k
second_stretch None skips held kept code k stretch = stretch_further (stretch (joining_code held kept false 0 k)) (joining_stretch held kept false 0 k)

pub pads_stretch : (sets failing : List Nodes) (handled : Nodes) (label : ℕ) (pads : Pads) → Stretch (pads_of sets failing handled label pads).code pads.code
pads_stretch [] failing handled label pads = stretch_whole pads.code
pads_stretch (held ∷ others) failing handled label pads = by (is_among held failing && not (same held handled)) (pads_stretch others failing handled label pads)
  where
    by : (b : Bool) → Stretch (pads_of others failing handled label pads).code pads.code → Stretch (one_pad b held handled label (pads_of others failing handled label pads)).code pads.code
    by false rest = rest
    by true rest =
        let more = (pads_of others failing handled label pads).code in
        stretch_further (stretch_further (release_stretch NODE_REGISTERS (minus held handled) (I.Jump (target_of label) ∷ more)) (stretch_acts (I.Jump (target_of label)) more refl)) rest

pub in_order_stretch : (lower x upper y parent done f : ℕ) (k : List Instr) → Stretch (in_order_code lower x upper y parent done f k) k
in_order_stretch lower x upper y parent done f k =
    let undone = I.Release lower ∷ I.Jump (target_of f) ∷ k in
    stretch_further (stretch_acts (I.Child lower parent x (target_of f)) (I.Child upper parent y (target_of (length undone)) ∷ I.Jump (target_of done) ∷ undone) refl)
    (stretch_further (stretch_acts (I.Child upper parent y (target_of (length undone))) (I.Jump (target_of done) ∷ undone) refl)
    (stretch_further (stretch_acts (I.Jump (target_of done)) undone refl)
    (stretch_further (stretch_acts (I.Release lower) (I.Jump (target_of f) ∷ k) refl) (stretch_acts (I.Jump (target_of f)) k refl))))

pub place_stretch : (place : Place) (t f : ℕ) (k : List Instr) → Stretch (place_code place t f k) k
place_stretch (P.Node n e) t f k = stretch_further (operand_stretch e t f (I.First n (register_of e t) (target_of f) ∷ k)) (stretch_acts (I.First n (register_of e t) (target_of f)) k refl)
place_stretch (P.Child n p e) t f k = stretch_further (operand_stretch e t f (I.Child n p (register_of e t) (target_of f) ∷ k)) (stretch_acts (I.Child n p (register_of e t) (target_of f)) k refl)
place_stretch (P.Pair n m p a b) t f k =
    let x = register_of a t in
    let y = register_of b (behind a t) in
    let upward = in_order_code n x m y p (length k) f k in
    let downward = in_order_code m y n x p (length k) f upward in
    stretch_further (operands_stretch a b t f (pair_code n x m y p f k))
    (stretch_further (stretch_acts (I.JumpIfLess x y (target_of (length upward))) (I.JumpIfEqual x y (target_of f) ∷ downward) refl)
    (stretch_further (stretch_acts (I.JumpIfEqual x y (target_of f)) downward refl)
    (stretch_further (in_order_stretch m y n x p (length k) f upward) (in_order_stretch n x m y p (length k) f k))))

leave_stretch : (held : Nodes) (exit : Option Exit) (k : List Instr) → Stretch (leave_code held exit k) k
leave_stretch held None k = stretch_whole k
leave_stretch held (Some e) k =
    stretch_further (release_stretch NODE_REGISTERS (minus held e.held) (I.Jump (target_of e.label) ∷ k)) (stretch_acts (I.Jump (target_of e.label)) k refl)

pub leaves_stretch : (leaves : Bool) (set : Nodes) (k : List Instr) → Stretch (if leaves then release_code set k else k) k
leaves_stretch true set k = release_stretch NODE_REGISTERS set k
leaves_stretch false set k = stretch_whole k

counted_stretch : (e : Expression) (w t f : ℕ) (body k : List Instr) → Stretch body (I.End ∷ k) → Stretch (counted_code e w t f body) k
counted_stretch e w t f body k stretch =
    let u = behind e t in
    let r = register_of e t in
    let opened = I.RepeatBy r w ∷ body in
    stretch_further (operand_stretch e t f (I.Set u (pos w) ∷ I.JumpIfLess u r (target_of f) ∷ opened))
    (stretch_further (stretch_acts (I.Set u (pos w)) (I.JumpIfLess u r (target_of f) ∷ opened) refl)
    (stretch_further (stretch_acts (I.JumpIfLess u r (target_of f)) opened refl) (stretch_loop (I.RepeatBy r w) w body k refl stretch)))

ways_stretch : (opening : ℕ → List Instr → List Instr) (first second : Way) (kept : Nodes) (k : List Instr) → ((label : ℕ) (k : List Instr) → Stretch (opening label k) k)
    → ((k : List Instr) → Stretch (first.code k) k) → ((k : List Instr) → Stretch (second.code k) k) → Stretch (ways_code opening first (second_way second kept k) kept k) k
ways_stretch opening first second kept k openings ones twos =
    let s = second_way second kept k in
    let behind_first = joining_code first.held kept s.jumps (length k) s.code in
    stretch_further (openings s.label (first.code behind_first))
    (stretch_further (ones behind_first)
    (stretch_further (joining_stretch first.held kept s.jumps (length k) s.code) (second_stretch second.to second.skips second.held kept second.code k twos)))

choice_stretch : (branch : Bool → ℕ → List Instr → List Instr) (to other : Option ℕ) (first second : Way) (kept : Nodes) (k : List Instr) → ((b : Bool) (label : ℕ) (k : List Instr) → Stretch (branch b label k) k)
    → ((k : List Instr) → Stretch (first.code k) k) → ((k : List Instr) → Stretch (second.code k) k) → Stretch (choice_code branch to other first second kept k) k
choice_stretch branch to other first second kept k branches ones twos = by to other
  where
    by : (to other : Option ℕ) → Stretch (choice_code branch to other first second kept k) k
    by (Some label) None = stretch_further (branches true label (second.code k)) (twos k)
    by (Some label) (Some l) = ways_stretch (branch false) first second kept k (branches false) ones twos
    by None other = ways_stretch (branch false) first second kept k (branches false) ones twos

pub statement_stretch : (S : Statement) (held : Nodes) (x : Site) (k : List Instr) → Stretch (statement_code S held x k) k
statement_stretch S.Skip held x k = stretch_whole k
statement_stretch (S.Sequence' p a q b) held x k =
    stretch_further (statement_stretch a held x (statement_code b (held_behind (after a held)) x k)) (statement_stretch b (held_behind (after a held)) x k)
statement_stretch (S.Assign v e) held x k = into_stretch e v x.values (x.pad held) k
statement_stretch (S.Write n f e) held x k =
    stretch_further (operand_stretch e x.values (x.pad held) (I.Put n f (register_of e x.values) ∷ k)) (stretch_acts (I.Put n f (register_of e x.values)) k refl)
statement_stretch (S.Emit e) held x k =
    stretch_further (operand_stretch e x.values (x.pad held) (I.Emit (register_of e x.values) ∷ k)) (stretch_acts (I.Emit (register_of e x.values)) k refl)
statement_stretch (S.Free n) held x k = stretch_acts (I.Release n) k refl
statement_stretch (S.Descend n e) held x k =
    let r = register_of e x.values in
    let f = target_of (x.pad held) in
    stretch_further (operand_stretch e x.values (x.pad held) (I.Child x.nodes n r f ∷ I.Release n ∷ I.Move n x.nodes ∷ k))
    (stretch_further (stretch_acts (I.Child x.nodes n r f) (I.Release n ∷ I.Move n x.nodes ∷ k) refl)
    (stretch_further (stretch_acts (I.Release n) (I.Move n x.nodes ∷ k) refl) (stretch_acts (I.Move n x.nodes) k refl)))
statement_stretch (S.Take n m) held x k = stretch_further (stretch_acts (I.Release n) (I.Move n m ∷ k) refl) (stretch_acts (I.Move n m) k refl)
statement_stretch S.Break held x k = leave_stretch held x.exit k
statement_stretch S.Return held x k = stretch_further (release_stretch NODE_REGISTERS held (I.Return ∷ k)) (stretch_returns k)
statement_stretch S.Fail held x k = stretch_acts (I.Jump (target_of (x.pad held))) k refl
statement_stretch (S.If' c p a q b) held x k =
    choice_stretch (λ sense label k. branch_code c sense label x.values (x.pad held) k) (direct a held x) (direct b held x)
    (record { to = None; skips = is_skip a; held = after a held; code = statement_code a held x })
    (record { to = direct b held x; skips = is_skip b; held = after b held; code = statement_code b held x })
    (held_behind (after (S.If' c p a q b) held)) k
    (λ sense label k. branch_stretch c sense label x.values (x.pad held) k) (statement_stretch a held x) (statement_stretch b held x)
statement_stretch (S.Let' v e p a) held x k =
    let rest = joining_code (after a held) (held_behind (after a held)) false (length k) k in
    stretch_further (into_stretch e v v (x.pad held) (statement_code a held (record x { values = v + 1 }) rest))
    (stretch_further (statement_stretch a held (record x { values = v + 1 }) rest) (joining_stretch (after a held) (held_behind (after a held)) false (length k) k))
statement_stretch (S.LetElse' v e p a q o) held x k =
    ways_stretch (λ label k. into_code e v v label k)
    (record { to = None; skips = false; held = after a held; code = statement_code a held (record x { values = v + 1 }) })
    (record { to = direct o held x; skips = is_skip o; held = after o held; code = statement_code o held x })
    (held_behind (after (S.LetElse' v e p a q o) held)) k
    (λ label k. into_stretch e v v label k) (statement_stretch a held (record x { values = v + 1 })) (statement_stretch o held x)
statement_stretch (S.Lock' place p a q o) held x k =
    ways_stretch (λ label k. place_code place x.values label k)
    (record {
      to = None;
      skips = false;
      held = after a (locked place held);
      code = statement_code a (locked place held) (record x { nodes = nodes_behind place });
    })
    (record { to = direct o held x; skips = is_skip o; held = after o held; code = statement_code o held x })
    (held_behind (after (S.Lock' place p a q o) held)) k
    (λ label k. place_stretch place x.values label k) (statement_stretch a (locked place held) (record x { nodes = nodes_behind place })) (statement_stretch o held x)
statement_stretch (S.Try' p a q b) held x k =
    let kept = held_behind (after (S.Try' p a q b) held) in
    let start = handled_by held (all_of (fails a held)) in
    let way : Way = record { to = direct b start x; skips = is_skip b; held = after b start; code = statement_code b start x } in
    let second = second_way way kept k in
    let base : Pads = record { code = second.code; pad = pad_at start second.label x.pad; are_some = false } in
    let pads = pads_of all_sets (fails a held) start second.label base in
    let rest = joining_code (after a held) kept (second.jumps || pads.are_some) (length k) pads.code in
    stretch_further (statement_stretch a held (record x { pad = pads.pad }) rest)
    (stretch_further (joining_stretch (after a held) kept (second.jumps || pads.are_some) (length k) pads.code)
    (stretch_further (pads_stretch all_sets (fails a held) start second.label base) (second_stretch way.to way.skips way.held kept way.code k (statement_stretch b start x))))
statement_stretch (S.Repeat' w p a) held x k =
    let kept = held_behind (after (S.Repeat' w p a) held) in
    let rest = if is_some (after a held) then release_code (minus held kept) k else k in
    let inner : Site = record x { exit = Some (record { label = length k; held = kept }) } in
    stretch_further (stretch_loop (I.Repeat w) w (loop_code (statement_code a held) (is_some (after a held)) held kept x k) rest refl (statement_stretch a held inner (I.End ∷ rest)))
    (leaves_stretch (is_some (after a held)) (minus held kept) k)
statement_stretch (S.RepeatUpTo' e w p a) held x k =
    let kept = held_behind (after (S.RepeatUpTo' e w p a) held) in
    let rest = release_code (minus held kept) k in
    let inner : Site = record x { exit = Some (record { label = length k; held = kept }) } in
    stretch_further (counted_stretch e w x.values (x.pad held) (loop_code (statement_code a held) true held kept x k) rest (statement_stretch a held inner (I.End ∷ rest)))
    (release_stretch NODE_REGISTERS (minus held kept) k)
statement_stretch (S.At' offset p a) held x k = statement_stretch a held x k
