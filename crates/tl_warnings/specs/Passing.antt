-- Whether a child of the node whose name has the symbol x may have been locked on a path to a place: b says so of the place before a
-- part of the text, and the last index of the place behind it, where None stands for no path. A turn may begin behind another one,
-- and what handles a failure behind each statement before it.
use Rattle.std.specs.Prelude.{ℕ, nat_eq, List, [], ◌∷◌, ◌++◌, Bool, ◌||◌, ◌&&◌, not, Option, Some, None}
use Rattle.std.specs.declared.vec.Vec.{Vec}
use Rattle.std.specs.declared.alloc.Global.{Global}
use Rattle.tl_syntax.specs.declared.parsed.Name.{Name}
use Rattle.tl_syntax.specs.declared.parsed.Expression.{Expression}
use Rattle.tl_syntax.specs.declared.parsed.Action.{Action}
use Rattle.tl_syntax.specs.declared.parsed.Action.TheVariants as A
use Rattle.tl_syntax.specs.declared.parsed.Question.{Question}
use Rattle.tl_syntax.specs.declared.parsed.Otherwise.{Otherwise, out-Otherwise}
use Rattle.tl_syntax.specs.declared.parsed.Statement.{Statement}
use Rattle.tl_syntax.specs.declared.parsed.StatementForm.{StatementForm}
use Rattle.tl_syntax.specs.declared.parsed.StatementForm.TheVariants as T
use Rattle.tl_warnings.specs.Locking.{ActionLocks, question_locks, BlockLocks}

-- where paths join
abbrev pub or_of : Option Bool → Option Bool → Option Bool
or_of None p = p
or_of (Some b) None = Some b
or_of (Some b) (Some c) = Some (b || c)

-- r says whether the action locks a child of the node; behind a descent the name has another node
abbrev pub behind_action : ℕ → Action → Bool → Bool → Option Bool
behind_action x (A.Descend name e) r b = Some (b && not (nat_eq name.symbol.0 x))
behind_action x (A.Take name from) r b = Some (b && not (nat_eq name.symbol.0 x))
behind_action x (A.Leave leave) r b = None
behind_action x (A.Fail e) r b = None
behind_action x (A.BreakWith es) r b = None
behind_action x a r b = Some (b || r)

mutual
  pub data BlockPasses (x : ℕ) : Bool → List Statement → Option Bool → Type 0 where
    no_statements : {b : Bool} → BlockPasses x b [] (Some b)
    more_statements : {b : Bool} {ss : List Statement} (s : Statement) {p q : Option Bool} → BlockPasses x b ss p → NextPasses x p s.form q → BlockPasses x b (ss ++ s ∷ []) q

  pub data NextPasses (x : ℕ) : Option Bool → StatementForm → Option Bool → Type 0 where
    unreached : {s : StatementForm} → NextPasses x None s None
    reached : {b : Bool} {s : StatementForm} {p : Option Bool} → StatementPasses x b s p → NextPasses x (Some b) s p

  pub data StatementPasses (x : ℕ) : Bool → StatementForm → Option Bool → Type 0 where
    act : {a : Action} {o : Option Otherwise} {b r : Bool} {p : Option Bool} → ActionLocks x a r → ElsePasses x (b || r) o p →
        StatementPasses x b (T.Act a o) (or_of (behind_action x a r b) p)
    try : {why : Option Name} (xs ys : Vec Statement Global) {b r : Bool} {p q : Option Bool} → BlockLocks x xs.items r → BlockPasses x b xs.items p → BlockPasses x (b || r) ys.items q →
        StatementPasses x b (T.Try why xs ys) (or_of p q)
    if : {question : Question} (xs ys : Vec Statement Global) {b : Bool} {p q : Option Bool} → BlockPasses x (b || question_locks x question) xs.items p →
        BlockPasses x b ys.items q → StatementPasses x b (T.If question xs ys) (or_of p q)
    repeat : {turns : Expression} {most : Option Expression} (xs : Vec Statement Global) {b r : Bool} → BlockLocks x xs.items r →
        StatementPasses x b (T.Repeat turns most xs) (Some (b || r))
    for_each : {child parent : Name} {index : Option Name} {most : Expression} (xs : Vec Statement Global) {b r : Bool} → BlockLocks x xs.items r →
        StatementPasses x b (T.ForEach child index parent most xs) (Some (b || (nat_eq parent.symbol.0 x || r)))
    block_alone : (xs : Vec Statement Global) {b : Bool} {p : Option Bool} → BlockPasses x b xs.items p → StatementPasses x b (T.Block xs) p
    -- behind a loop its turns may have locked one
    search : {names : Vec Name Global} (xs ys zs : Vec Statement Global) {b r : Bool} {p q : Option Bool} → BlockLocks x xs.items r → BlockPasses x (b || r) ys.items p →
        BlockPasses x (b || r) zs.items q → StatementPasses x b (T.Search xs names ys zs) (or_of p q)

  -- a failure without an `else` leads nowhere
  pub data ElsePasses (x : ℕ) : Bool → Option Otherwise → Option Bool → Type 0 where
    no_else : {b : Bool} → ElsePasses x b None None
    some_else : {o : Otherwise} {b : Bool} {p : Option Bool} → BlockPasses x b (out-Otherwise o).body.items p → ElsePasses x b (Some o) p
