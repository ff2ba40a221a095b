-- The code of statements. Each function puts code in front of the code k that follows it. A label is the number of
-- instructions from a position to the end.
use Rattle.std.specs.Prelude.{ℕ, zero, suc, ◌+◌, List, [], ◌∷◌, Bool, true, false, not, ◌&&◌, ◌||◌, Option, Some, None, is_some, length, if◌then◌else◌, pos}
use Rattle.tl_instr.specs.declared.operand.TheConstants.{NODE_REGISTERS}
use Rattle.tl_instr.specs.declared.instr.Instr.{Instr}
use Rattle.tl_instr.specs.declared.instr.Instr.TheVariants as I
use Rattle.tl_lowering.specs.declared.program.Expression.{Expression}
use Rattle.tl_lowering.specs.declared.program.Place.{Place}
use Rattle.tl_lowering.specs.declared.program.Place.TheVariants as P
use Rattle.tl_lowering.specs.declared.program.Statement.{Statement}
use Rattle.tl_lowering.specs.declared.program.Statement.TheVariants as S
use Rattle.tl_compiler.specs.Labels.{target_of}
use Rattle.tl_compiler.specs.Numbers.{register_of, behind, into_code, operand_code, operands_code, branch_code}
use Rattle.tl_lowering.specs.Sets.{Nodes, none_held, holds, minus, same, is_among, all_of}
use Rattle.tl_compiler.specs.NodeSets.{all_sets}
use Rattle.tl_lowering.specs.Outcomes.{locked, handled_by, after, fails}
use Rattle.tl_lowering.specs.Sound.{nodes_behind}

-- the label after a loop, and what is held there
pub record Exit : Type 0 where
  pub label : ℕ
  pub held : Nodes

-- the position of a statement: the numbers of registers in use for values and nodes, the label to which a failure leads
-- for each set of nodes held, and the exit of the loop around it, if there is one
pub record Site : Type 0 where
  pub values : ℕ
  pub nodes : ℕ
  pub pad : Nodes → ℕ
  pub exit : Option Exit

-- frees the registers of a set that are below n, the highest first
abbrev pub release_below : ℕ → Nodes → List Instr → List Instr
release_below zero held k = k
release_below (suc n) held k = if holds held n then I.Release n ∷ release_below n held k else release_below n held k

abbrev pub release_code : Nodes → List Instr → List Instr
release_code held k = release_below NODE_REGISTERS held k

-- the label to which a `break` leads, if it needs no code
abbrev pub way_out : Nodes → Option Exit → Option ℕ
way_out held None = None
way_out held (Some exit) = if same exit.held held then Some exit.label else None

-- the label to which a statement leads that needs no code
abbrev pub direct : Statement → Nodes → Site → Option ℕ
direct S.Fail held x = Some (x.pad held)
direct S.Break held x = way_out held x.exit
direct (S.At' offset p a) held x = direct a held x
direct s held x = None

abbrev pub is_skip : Statement → Bool
is_skip S.Skip = true
is_skip (S.At' offset p a) = is_skip a
is_skip s = false

-- follows a way after which control goes on: frees what isn't kept, and then jumps to the end if necessary
abbrev pub joining_code : Option Nodes → Nodes → Bool → ℕ → List Instr → List Instr
joining_code None kept jumps done k = k
joining_code (Some held) kept jumps done k =
    release_code (minus held kept) (if jumps then I.Jump (target_of done) ∷ k else k)

abbrev pub releases : Option Nodes → Nodes → Bool
releases None kept = false
releases (Some held) kept = not (same (minus held kept) none_held)

-- the second of two ways: the code from its start on, its label, and whether the first way must jump over it
pub record Second : Type 0 where
  pub code : List Instr
  pub label : ℕ
  pub jumps : Bool

abbrev pub second_by : Option ℕ → Bool → Option Nodes → Nodes → (List Instr → List Instr) → List Instr → Second
second_by (Some label) skips held kept code k = record { code = k; label = label; jumps = false }
second_by None skips held kept code k =
    let whole = code (joining_code held kept false 0 k) in
    record { code = whole; label = length whole; jumps = not skips || releases held kept }

-- the pads of failures at which more is held than at the handler's start, and the label of each
pub record Pads : Type 0 where
  pub code : List Instr
  pub pad : Nodes → ℕ
  pub are_some : Bool

abbrev pub pad_at : Nodes → ℕ → (Nodes → ℕ) → Nodes → ℕ
pad_at held label pad other = if same held other then label else pad other

abbrev pub one_pad : Bool → Nodes → Nodes → ℕ → Pads → Pads
one_pad false held handled label pads = pads
one_pad true held handled label pads =
    let code = release_code (minus held handled) (I.Jump (target_of label) ∷ pads.code) in
    record { code = code; pad = pad_at held (length code) pads.pad; are_some = true }

abbrev pub pads_of : List Nodes → List Nodes → Nodes → ℕ → Pads → Pads
pads_of [] failing handled label pads = pads
pads_of (held ∷ others) failing handled label pads =
    one_pad (is_among held failing && not (same held handled)) held handled label (pads_of others failing handled label pads)

-- locks two children in rising order; if the upper one can't be locked, the lower one is freed again
abbrev pub in_order_code : ℕ → ℕ → ℕ → ℕ → ℕ → ℕ → ℕ → List Instr → List Instr
in_order_code lower x upper y parent done f k =
    let undone = I.Release lower ∷ I.Jump (target_of f) ∷ k in
    I.Child lower parent x (target_of f) ∷ I.Child upper parent y (target_of (length undone)) ∷ I.Jump (target_of done) ∷ undone

-- locks two children of one node: n by the number in x, and m by the number in y
abbrev pub pair_code : ℕ → ℕ → ℕ → ℕ → ℕ → ℕ → List Instr → List Instr
pair_code n x m y parent f k =
    let upward = in_order_code n x m y parent (length k) f k in
    I.JumpIfLess x y (target_of (length upward)) ∷ I.JumpIfEqual x y (target_of f)
    ∷ in_order_code m y n x parent (length k) f upward

abbrev pub place_code : Place → ℕ → ℕ → List Instr → List Instr
place_code (P.Node n e) t f k = operand_code e t f (I.First n (register_of e t) (target_of f) ∷ k)
place_code (P.Child n p e) t f k = operand_code e t f (I.Child n p (register_of e t) (target_of f) ∷ k)
place_code (P.Pair n m p a b) t f k =
    operands_code a b t f (pair_code n (register_of a t) m (register_of b (behind a t)) p f k)

-- opens a loop with as many turns as a number says, and fails if that is more than w
abbrev pub counted_code : Expression → ℕ → ℕ → ℕ → List Instr → List Instr
counted_code e w t f k =
    operand_code e t f
    (I.Set (behind e t) (pos w) ∷ I.JumpIfLess (behind e t) (register_of e t) (target_of f) ∷ I.RepeatBy (register_of e t) w ∷ k)

-- the body of a loop and what follows it, without the instruction that opens it
abbrev pub loop_code : (Site → List Instr → List Instr) → Bool → Nodes → Nodes → Site → List Instr → List Instr
loop_code body leaves held kept x k =
    body (record x { exit = Some (record { label = length k; held = kept }) })
    (I.End ∷ (if leaves then release_code (minus held kept) k else k))

-- what is held after a statement; nothing if control never goes on
abbrev pub held_behind : Option Nodes → Nodes
held_behind None = none_held
held_behind (Some held) = held

abbrev pub leave_code : Nodes → Option Exit → List Instr → List Instr
leave_code held None k = k
leave_code held (Some exit) k = release_code (minus held exit.held) (I.Jump (target_of exit.label) ∷ k)

-- one of two ways: the label to which it leads if it needs no code, whether it is empty, what is held after it, and its code
pub record Way : Type 0 where
  pub to : Option ℕ
  pub skips : Bool
  pub held : Option Nodes
  pub code : List Instr → List Instr

abbrev pub second_way : Way → Nodes → List Instr → Second
second_way way kept k = second_by way.to way.skips way.held kept way.code k

-- the opening code, which is given the second way's label, then the first way and the second one
abbrev pub ways_code : (ℕ → List Instr → List Instr) → Way → Second → Nodes → List Instr → List Instr
ways_code opening first second kept k =
    opening second.label (first.code (joining_code first.held kept second.jumps (length k) second.code))

-- a choice: if only the first way needs no code, the condition jumps directly to where it leads
abbrev pub choice_code : (Bool → ℕ → List Instr → List Instr) → Option ℕ → Option ℕ → Way → Way → Nodes → List Instr → List Instr
choice_code branch (Some label) None first second kept k = branch true label (second.code k)
choice_code branch (Some label) (Some other) first second kept k = ways_code (branch false) first (second_way second kept k) kept k
choice_code branch None to first second kept k = ways_code (branch false) first (second_way second kept k) kept k

abbrev pub statement_code : Statement → Nodes → Site → List Instr → List Instr
statement_code S.Skip held x k = k
statement_code (S.Sequence' p a q b) held x k = statement_code a held x (statement_code b (held_behind (after a held)) x k)
statement_code (S.Assign v e) held x k = into_code e v x.values (x.pad held) k
statement_code (S.Write n f e) held x k = operand_code e x.values (x.pad held) (I.Put n f (register_of e x.values) ∷ k)
statement_code (S.Emit e) held x k = operand_code e x.values (x.pad held) (I.Emit (register_of e x.values) ∷ k)
statement_code (S.Free n) held x k = I.Release n ∷ k
statement_code (S.Descend n e) held x k =
    operand_code e x.values (x.pad held)
    (I.Child x.nodes n (register_of e x.values) (target_of (x.pad held)) ∷ I.Release n ∷ I.Move n x.nodes ∷ k)
statement_code (S.Take n m) held x k = I.Release n ∷ I.Move n m ∷ k
statement_code S.Break held x k = leave_code held x.exit k
statement_code S.Return held x k = release_code held (I.Return ∷ k)
statement_code S.Fail held x k = I.Jump (target_of (x.pad held)) ∷ k
statement_code (S.If' c p a q b) held x k =
    choice_code (λ sense label k. branch_code c sense label x.values (x.pad held) k) (direct a held x) (direct b held x)
    (record { to = None; skips = is_skip a; held = after a held; code = statement_code a held x })
    (record { to = direct b held x; skips = is_skip b; held = after b held; code = statement_code b held x })
    (held_behind (after (S.If' c p a q b) held)) k
statement_code (S.Let' v e p a) held x k =
    into_code e v v (x.pad held)
    (statement_code a held (record x { values = v + 1 }) (joining_code (after a held) (held_behind (after a held)) false (length k) k))
statement_code (S.LetElse' v e p a q o) held x k =
    let kept = held_behind (after (S.LetElse' v e p a q o) held) in
    ways_code (λ label k. into_code e v v label k)
    (record { to = None; skips = false; held = after a held; code = statement_code a held (record x { values = v + 1 }) })
    (second_way (record { to = direct o held x; skips = is_skip o; held = after o held; code = statement_code o held x }) kept k) kept k
statement_code (S.Lock' place p a q o) held x k =
    let kept = held_behind (after (S.Lock' place p a q o) held) in
    ways_code (λ label k. place_code place x.values label k)
    (record {
      to = None;
      skips = false;
      held = after a (locked place held);
      code = statement_code a (locked place held) (record x { nodes = nodes_behind place });
    })
    (second_way (record { to = direct o held x; skips = is_skip o; held = after o held; code = statement_code o held x }) kept k) kept k
statement_code (S.Try' p a q b) held x k =
    let kept = held_behind (after (S.Try' p a q b) held) in
    let start = handled_by held (all_of (fails a held)) in
    let second = second_way (record { to = direct b start x; skips = is_skip b; held = after b start; code = statement_code b start x }) kept k in
    let pads = pads_of all_sets (fails a held) start second.label
    (record { code = second.code; pad = pad_at start second.label x.pad; are_some = false }) in
    statement_code a held (record x { pad = pads.pad })
    (joining_code (after a held) kept (second.jumps || pads.are_some) (length k) pads.code)
statement_code (S.Repeat' w p a) held x k =
    I.Repeat w ∷ loop_code (statement_code a held) (is_some (after a held)) held (held_behind (after (S.Repeat' w p a) held)) x k
statement_code (S.RepeatUpTo' e w p a) held x k =
    counted_code e w x.values (x.pad held)
    (loop_code (statement_code a held) true held (held_behind (after (S.RepeatUpTo' e w p a) held)) x k)
statement_code (S.At' offset p a) held x k = statement_code a held x k

-- the code of a procedure with `arity` arguments, with labels in place of positions
abbrev pub procedure_code : ℕ → Statement → List Instr
procedure_code arity body =
    statement_code body none_held (record { values = arity; nodes = 0; pad = λ held. 1; exit = None }) (I.Return ∷ [])
