-- The nodes held at the ends of a statement's paths: after it, where it fails, and where it breaks out of a loop.
use Rattle.std.specs.Prelude.{ℕ, ◌+◌, max, List, [], ◌∷◌, ◌++◌, Bool, true, false, ◌||◌, Option, Some, None, is_some, option_map, if◌then◌else◌}
use Rattle.tl_lowering.specs.declared.program.Expression.{Expression}
use Rattle.tl_lowering.specs.declared.program.Expression.TheVariants as E
use Rattle.tl_lowering.specs.declared.program.Condition.{Condition}
use Rattle.tl_lowering.specs.declared.program.Condition.TheVariants as C
use Rattle.tl_lowering.specs.declared.program.Place.{Place}
use Rattle.tl_lowering.specs.declared.program.Place.TheVariants as P
use Rattle.tl_lowering.specs.declared.program.Statement.{Statement}
use Rattle.tl_lowering.specs.declared.program.Statement.TheVariants as S
use Rattle.tl_lowering.specs.Sets.{Nodes, with_node, without_node, both, both_of, all_of}

-- whether computing the number may fail: it may if it contains an operation
abbrev pub may_fail : Expression → Bool
may_fail (E.Calculated' o p a q b) = true
may_fail e = false

abbrev pub condition_may_fail : Condition → Bool
condition_may_fail (C.Less a b) = may_fail a || may_fail b
condition_may_fail (C.Greater a b) = may_fail a || may_fail b
condition_may_fail (C.Equal a b) = may_fail a || may_fail b
condition_may_fail (C.Not' p c) = condition_may_fail c
condition_may_fail (C.And' p c q d) = condition_may_fail c || condition_may_fail d

abbrev pub locked : Place → Nodes → Nodes
locked (P.Node n e) held = with_node held n
locked (P.Child n p e) held = with_node held n
locked (P.Pair n k p a b) held = with_node (with_node held n) k

-- the number of node registers in use after the place is locked
abbrev pub nodes_behind : Place → ℕ
nodes_behind (P.Node n e) = n + 1
nodes_behind (P.Child n p e) = n + 1
nodes_behind (P.Pair n k p a b) = max n k + 1

abbrev pub unlocked : Place → Nodes → Nodes
unlocked (P.Node n e) held = without_node held n
unlocked (P.Child n p e) held = without_node held n
unlocked (P.Pair n k p a b) held = without_node (without_node held n) k

abbrev pub here_if : Bool → Nodes → List Nodes
here_if true held = held ∷ []
here_if false held = []

abbrev pub next : Option Nodes → (Nodes → Option Nodes) → Option Nodes
next None more = None
next (Some held) more = more held

abbrev pub going_on : Option Nodes → (Nodes → List Nodes) → List Nodes
going_on None more = []
going_on (Some held) more = more held

-- what is held when the handler begins, where the body began with `held` and fails with `others`
abbrev pub handled_by : Nodes → Option Nodes → Nodes
handled_by held None = held
handled_by held (Some others) = both others held

-- what is held after a loop; the loop ends after a turn that reaches its end, at a `break`, and before the first turn if `may_end` is true
abbrev pub behind_loop : Bool → Option Nodes → List Nodes → Nodes → Option Nodes
behind_loop may_end turned broken held =
    option_map (λ h. both h held) (both_of (if may_end || is_some turned then Some held else None) (all_of broken))

abbrev mutual
  pub after : Statement → Nodes → Option Nodes
  after S.Skip held = Some held
  after (S.Sequence' p a q b) held = next (after a held) (after b)
  after (S.Assign x e) held = Some held
  after (S.Write n f e) held = Some held
  after (S.Emit e) held = Some held
  after (S.Free n) held = Some (without_node held n)
  after (S.Descend n e) held = Some held
  after (S.Take n k) held = Some (without_node held k)
  after S.Break held = None
  after S.Return held = None
  after S.Fail held = None
  after (S.If' c p a q b) held = both_of (after a held) (after b held)
  after (S.Let' x e p a) held = after a held
  after (S.LetElse' x e p a q o) held = both_of (after a held) (after o held)
  after (S.Lock' place p a q o) held = option_map (unlocked place) (both_of (after a (locked place held)) (after o held))
  after (S.Try' p a q b) held = both_of (after a held) (after b (handled_by held (all_of (fails a held))))
  after (S.Repeat' w p a) held = behind_loop false (after a held) (breaks a held) held
  after (S.RepeatUpTo' e w p a) held = behind_loop true (after a held) (breaks a held) held
  after (S.At' offset p a) held = after a held

  pub fails : Statement → Nodes → List Nodes
  fails S.Skip held = []
  fails (S.Sequence' p a q b) held = fails a held ++ going_on (after a held) (fails b)
  fails (S.Assign x e) held = here_if (may_fail e) held
  fails (S.Write n f e) held = here_if (may_fail e) held
  fails (S.Emit e) held = here_if (may_fail e) held
  fails (S.Free n) held = []
  fails (S.Descend n e) held = held ∷ []
  fails (S.Take n k) held = []
  fails S.Break held = []
  fails S.Return held = []
  fails S.Fail held = held ∷ []
  fails (S.If' c p a q b) held = here_if (condition_may_fail c) held ++ (fails a held ++ fails b held)
  fails (S.Let' x e p a) held = here_if (may_fail e) held ++ fails a held
  fails (S.LetElse' x e p a q o) held = fails a held ++ fails o held
  fails (S.Lock' place p a q o) held = fails a (locked place held) ++ fails o held
  fails (S.Try' p a q b) held = fails b (handled_by held (all_of (fails a held)))
  fails (S.Repeat' w p a) held = fails a held
  fails (S.RepeatUpTo' e w p a) held = held ∷ fails a held
  fails (S.At' offset p a) held = fails a held

  pub breaks : Statement → Nodes → List Nodes
  breaks S.Skip held = []
  breaks (S.Sequence' p a q b) held = breaks a held ++ going_on (after a held) (breaks b)
  breaks (S.Assign x e) held = []
  breaks (S.Write n f e) held = []
  breaks (S.Emit e) held = []
  breaks (S.Free n) held = []
  breaks (S.Descend n e) held = []
  breaks (S.Take n k) held = []
  breaks S.Break held = held ∷ []
  breaks S.Return held = []
  breaks S.Fail held = []
  breaks (S.If' c p a q b) held = breaks a held ++ breaks b held
  breaks (S.Let' x e p a) held = breaks a held
  breaks (S.LetElse' x e p a q o) held = breaks a held ++ breaks o held
  breaks (S.Lock' place p a q o) held = breaks a (locked place held) ++ breaks o held
  breaks (S.Try' p a q b) held = breaks a held ++ breaks b (handled_by held (all_of (fails a held)))
  breaks (S.Repeat' w p a) held = []
  breaks (S.RepeatUpTo' e w p a) held = []
  breaks (S.At' offset p a) held = breaks a held
