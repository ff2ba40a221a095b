-- The warnings of loops over the children of the node whose name has the symbol x: those before a part of the text, and those behind
-- it. b says whether a child of the node may have been locked before.
use Rattle.std.specs.Prelude.{ℕ, nat_eq, List, [], ◌∷◌, ◌++◌, Bool, false, ◌||◌, ◌&&◌, Option, Some, None, if◌then◌else◌}
use Rattle.std.specs.Option.{unwrap_or}
use Rattle.std.specs.declared.vec.Vec.{Vec}
use Rattle.std.specs.declared.alloc.Global.{Global}
use Rattle.tl_syntax.specs.declared.parsed.Name.{Name}
use Rattle.tl_syntax.specs.declared.parsed.Expression.{Expression}
use Rattle.tl_syntax.specs.declared.parsed.Action.{Action}
use Rattle.tl_syntax.specs.declared.parsed.Question.{Question}
use Rattle.tl_syntax.specs.declared.parsed.Otherwise.{Otherwise, out-Otherwise}
use Rattle.tl_syntax.specs.declared.parsed.Statement.{Statement}
use Rattle.tl_syntax.specs.declared.parsed.StatementForm.{StatementForm}
use Rattle.tl_syntax.specs.declared.parsed.StatementForm.TheVariants as T
use Rattle.tl_warnings.specs.declared.warning.Needless.TheVariants as N
use Rattle.tl_warnings.specs.declared.warning.Warning.{Warning}
use Rattle.tl_warnings.specs.Locking.{ActionLocks, question_locks, BlockLocks}
use Rattle.tl_warnings.specs.Passing.{BlockPasses, NextPasses}

-- a loop over the children of `parent`, of which r says whether one may be locked before its turn
abbrev pub walk_warned : ℕ → Name → Bool → ℕ → List Warning → List Warning
walk_warned x parent r offset ws = if r && nat_eq parent.symbol.0 x then ws ++ record { needless = N.Passed; offset = offset } ∷ [] else ws

mutual
  pub data BlockWalks (x : ℕ) : Bool → List Statement → List Warning → List Warning → Type 0 where
    all_statements : {b : Bool} {ss : List Statement} {p : Option Bool} {ws us : List Warning} → AreWalks x b ws ss p us → BlockWalks x b ss ws us

  -- the first statements of a block
  pub data AreWalks (x : ℕ) : Bool → List Warning → List Statement → Option Bool → List Warning → Type 0 where
    no_statements : {b : Bool} {ws : List Warning} → AreWalks x b ws [] (Some b) ws
    more_statements : {b : Bool} {ss : List Statement} (s : Statement) {p q : Option Bool} {ws vs us : List Warning} → AreWalks x b ws ss p vs →
        NextWalks x p s.offset s.form vs us → NextPasses x p s.form q → AreWalks x b ws (ss ++ s ∷ []) q us

  pub data NextWalks (x : ℕ) : Option Bool → ℕ → StatementForm → List Warning → List Warning → Type 0 where
    unreached : {offset : ℕ} {s : StatementForm} {ws : List Warning} → NextWalks x None offset s ws ws
    reached : {b : Bool} {offset : ℕ} {s : StatementForm} {ws us : List Warning} → FormWalks x b offset s ws us → NextWalks x (Some b) offset s ws us

  pub data FormWalks (x : ℕ) : Bool → ℕ → StatementForm → List Warning → List Warning → Type 0 where
    act : {offset : ℕ} {a : Action} {o : Option Otherwise} {b r : Bool} {ws us : List Warning} → ActionLocks x a r → ElseWalks x (b || r) o ws us →
        FormWalks x b offset (T.Act a o) ws us
    try : {why : Option Name} {offset : ℕ} (xs ys : Vec Statement Global) {b r : Bool} {ws vs us : List Warning} → BlockLocks x xs.items r → BlockWalks x b xs.items ws vs →
        BlockWalks x (b || r) ys.items vs us → FormWalks x b offset (T.Try why xs ys) ws us
    if : {offset : ℕ} {question : Question} (xs ys : Vec Statement Global) {b : Bool} {ws vs us : List Warning} →
        BlockWalks x (b || question_locks x question) xs.items ws vs → BlockWalks x b ys.items vs us → FormWalks x b offset (T.If question xs ys) ws us
    repeat : {offset : ℕ} {turns : Expression} {most : Option Expression} (xs : Vec Statement Global) {b r : Bool} {ws us : List Warning} → BlockLocks x xs.items r →
        BlockWalks x (b || r) xs.items ws us → FormWalks x b offset (T.Repeat turns most xs) ws us
    -- a child may have been locked before the loop, or by a turn that goes on
    for_each : {offset : ℕ} {child parent : Name} {index : Option Name} {most : Expression} (xs : Vec Statement Global) {p : Option Bool} {b r : Bool} {ws us : List Warning} →
        BlockPasses x false xs.items p → BlockLocks x xs.items r →
        BlockWalks x (b || (nat_eq parent.symbol.0 x || r)) xs.items (walk_warned x parent (b || unwrap_or p false) offset ws) us →
        FormWalks x b offset (T.ForEach child index parent most xs) ws us
    block_alone : {offset : ℕ} (xs : Vec Statement Global) {b : Bool} {ws us : List Warning} → BlockWalks x b xs.items ws us → FormWalks x b offset (T.Block xs) ws us
    search : {offset : ℕ} {names : Vec Name Global} (xs ys zs : Vec Statement Global) {b r : Bool} {ws vs us ts : List Warning} → BlockLocks x xs.items r → BlockWalks x b xs.items ws vs →
        BlockWalks x (b || r) ys.items vs us → BlockWalks x (b || r) zs.items us ts → FormWalks x b offset (T.Search xs names ys zs) ws ts

  pub data ElseWalks (x : ℕ) : Bool → Option Otherwise → List Warning → List Warning → Type 0 where
    no_else : {b : Bool} {ws : List Warning} → ElseWalks x b None ws ws
    some_else : {o : Otherwise} {b : Bool} {ws us : List Warning} → BlockWalks x b (out-Otherwise o).body.items ws us → ElseWalks x b (Some o) ws us
