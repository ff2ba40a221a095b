-- What is read uses only registers that exist, and its loops have positive counts and don't nest too deep.
use Rattle.std.proofs.Common.{◌≡◌, ℕ, suc, ℤ, ◌+◌, ◌/◌, ◌<◌, ◌≤◌, List, [], ◌∷◌, length, Option, None, Some, refl, sym, subst, arith}
use Rattle.std.specs.Prelude.{max, nat_lt, false}
use Rattle.std.specs.List.{All}
use Rattle.std.proofs.lemmas.List.Elements.{All-nil, All-cons, All-head, All-push, All-take, All-drop}
use Rattle.tl_budget.specs.declared.limits.TheConstants.{MAX_DEPTH}
use Rattle.tl_instr.specs.declared.operand.TheConstants.{MAX_ARGS, NODE_REGISTERS, VALUE_REGISTERS}
use Rattle.tl_syntax.specs.declared.parsed.Name.{Name}
use Rattle.tl_syntax.specs.declared.parsed.Comparison.{Comparison}
use Rattle.tl_syntax.specs.declared.parsed.Comparison.TheVariants as K
use Rattle.tl_syntax.specs.declared.parsed.Form.{Form}
use Rattle.tl_syntax.specs.declared.parsed.Expression.{Expression as TextExpression}
use Rattle.tl_syntax.specs.declared.parsed.Action.{Action}
use Rattle.tl_syntax.specs.declared.parsed.Declaration.{Declaration}
use Rattle.tl_syntax.specs.declared.parsed.Parameter.{Parameter}
use Rattle.tl_syntax.specs.declared.parsed.Write.{Write}
use Rattle.tl_syntax.specs.declared.parsed.Place.{Place as TextPlace}
use Rattle.tl_syntax.specs.declared.parsed.Place.TheVariants as T
use Rattle.tl_syntax.specs.declared.parsed.Procedure.{Procedure as TextProcedure}
use Rattle.tl_syntax.specs.declared.parsed.Statement.{Statement as TextStatement}
use Rattle.tl_syntax.specs.declared.parsed.StatementForm.{StatementForm}
use Rattle.tl_lowering.specs.declared.program.Condition.{Condition}
use Rattle.tl_lowering.specs.declared.program.Expression.{Expression}
use Rattle.tl_lowering.specs.declared.program.Place.{Place}
use Rattle.tl_lowering.specs.declared.program.Procedure.{Procedure}
use Rattle.tl_lowering.specs.declared.program.Statement.{Statement}
use Rattle.tl_lowering.specs.declared.program.Statement.TheVariants as S
use Rattle.tl_lowering.specs.Fit.{loops, AllTurn, AllSlots, HasBoth, IsWord, HasConditionRoom, HasRoom}
use Rattle.tl_lowering.specs.declared.readers.Finding.{Finding}
use Rattle.tl_lowering.specs.declared.readers.Readers.{Readers}
use Rattle.tl_lowering.specs.Failing.{IsFailure, bare, coded, IsMarked, not_read, sure, marked, IsRenewed, not_renewed, renewed}
use Rattle.tl_lowering.specs.Registers.{HasTemporaries}
use Rattle.tl_lowering.specs.declared.program.Expression.TheVariants as E
use Rattle.tl_lowering.specs.Names.{Names, names_in, HasNode, in_loop, with_node, with_index, with_value, with_alias, with_variable, with_room, with_variables, with_place}
use Rattle.tl_lowering.specs.Naming.{IsCount, count, IsPlace, node, child, pair, calculated, opposite, together, IsThen, IsComparison, IsCondition, comparison, negation, conjunction, disjunction, then, IsHalved, none, one, more, AreEmits, no_emits, next_emit, AreWritten, all_computed, next_computed, IsWritten, one_write, several_writes, IsAction, assigns, writes, emits, descends, takes, frees, breaks, returns}
use Rattle.tl_lowering.specs.Outcomes.{fails as failures}
use Rattle.tl_lowering.specs.Passing.{nothing_before, EntersOnce}
use Rattle.tl_lowering.specs.Reading.{IsAtOffset, at, IsTried, tried, IsVisiting, visiting, IsBlock, block, AreStatements, no_more, next, let_rest, let_told, let_else, lock_rest, lock_else, IsStatement, IsActed, plain, requires, fails, fails_with, breaks_with, used, AreLeft, none_left, next_left, AreNothing, none_more, one_more, finding_at, was_found, search as searched, IsReason, no_reason, reason, IsRequired, required, names_in_body, names_in_else, IsCaught, unnamed, named, IsGiven, all_given, node_given, variable_given, value_given, act, act_else, try, try_told, if, if_lock, repeat, repeat_up_to, for_each, block_alone, IsBody}
use Rattle.tl_lowering.specs.Scopes.{View, is_in_loop}
use Rattle.tl_lowering.specs.Sets.{none_held}
use Rattle.tl_lowering.specs.Sound.{IsWellFormed, IsInOrder}

-- what is required of a statement where names have these meanings
pub record Fits (names : Names) (s : Statement) : Type 0 where
  pub turns : AllTurn s
  pub slots : AllSlots s names.nodes
  pub depth : loops s + names.loops ≤ MAX_DEPTH
  pub room : HasRoom s names.values

-- ---- statements of statements

two : {p q : _} {names : Names} {a b : Statement} → Fits names a → Fits names b → Fits names (S.Sequence' p a q b)
two x y = record { turns = (x.turns, y.turns); slots = (x.slots, y.slots); depth = omega (arith, x.depth, y.depth); room = (x.room, y.room) }

handled : {names : Names} {a b whole : Statement} → Fits names a → Fits names b → IsTried a b whole → Fits names whole
handled x y tried = record { turns = (x.turns, y.turns); slots = (x.slots, y.slots); depth = omega (arith, x.depth, y.depth); room = (x.room, y.room) }

at_offset : {names : Names} {offset : ℕ} {a b : Statement} → Fits names a → IsAtOffset offset a b → Fits names b
at_offset x at = record { turns = x.turns; slots = x.slots; depth = x.depth; room = x.room }

choice : {p q : _} {names : Names} {c : Condition} {a b : Statement} → HasConditionRoom c names.values → Fits names a → Fits names b → Fits names (S.If' c p a q b)
choice c x y = record { turns = (x.turns, y.turns); slots = (x.slots, y.slots); depth = omega (arith, x.depth, y.depth); room = (c, x.room, y.room) }

halved : {names : Names} {whole : Statement} {xs : List Statement} → names.loops ≤ MAX_DEPTH → IsHalved whole xs → All (Fits names) xs → Fits names whole
halved le none h = record { turns = tt; slots = tt; depth = omega arith; room = tt }
halved {names} le (one {a}) h = All-head (Fits names) a [] h
halved {names} le (more {xs = xs} long s t then) h =
    two (halved le s (All-take (Fits names) (length xs / 2) xs h)) (halved le t (All-drop (Fits names) (length xs / 2) xs h))

-- a loop's count isn't 0
may_turn : {names : Names} {form : Form} {w : ℕ} → IsCount names form w → 0 < w
may_turn (count lt le e) = lt

-- the locked nodes have registers, and what follows uses those above them
locking : {p q : _} {names : Names} {text : TextPlace} {place : Place} {a o : Statement} → IsPlace names text place → Fits (with_place names text) a → Fits names o
    → Fits names (S.Lock' place p a q o)
locking (node new room n has) x y = record { turns = (x.turns, y.turns); slots = (room, x.slots, y.slots); depth = omega (arith, x.depth, y.depth); room = (has, x.room, y.room) }
locking (child new room e n has) x y = record { turns = (x.turns, y.turns); slots = (room, x.slots, y.slots); depth = omega (arith, x.depth, y.depth); room = (has, x.room, y.room) }
locking {names = names} {a = a} (pair new other room e f n has m second) x y =
    let behind : names.nodes + 1 + 1 ≡ max names.nodes (names.nodes + 1) + 1 = omega arith in
    let first : names.nodes < NODE_REGISTERS = omega (arith, room) in
    record { turns = (x.turns, y.turns); slots = ((first, room), subst (AllSlots a) behind x.slots, y.slots); depth = omega (arith, x.depth, y.depth); room = ((has, second), x.room, y.room) }

walk : {names : Names} (name : Name) (index : Option Name) {parent turns : ℕ} {body whole : Statement} → HasNode names → names.values + 3 ≤ VALUE_REGISTERS → 0 < turns →
    Fits (with_node (with_index (in_loop names) index) name) body
    → IsVisiting names.values names.nodes parent turns body whole → Fits names whole
walk name index room has lt x (visiting calculated then) = record {
  turns = (lt, (tt, (x.turns, tt)));
  slots = (tt, (room, x.slots, tt));
  depth = omega (arith, x.depth);
  room = (omega arith, (omega arith, omega arith, (omega arith, (omega arith, x.room, tt))));
}

-- ---- statements without blocks

compared : (k : Comparison) (a b : Expression) (c : Condition) (d : ℕ) → HasBoth a b d → IsComparison k a b c → HasConditionRoom c d
compared K.Less a b c d h e = subst (λ z. HasConditionRoom z d) (sym e) h
compared K.LessOrEqual a b c d h opposite = h
compared K.Greater a b c d h e = subst (λ z. HasConditionRoom z d) (sym e) h
compared K.GreaterOrEqual a b c d h opposite = h
compared K.Equal a b c d h e = subst (λ z. HasConditionRoom z d) (sym e) h
compared K.NotEqual a b c d h opposite = h

tested : {names : Names} {form : Form} {c : Condition} → IsCondition names form c → HasConditionRoom c names.values
tested {names} (comparison {k = k} {c = c} h) = compared k h.left h.right c names.values (h.left_fits, h.right_fits) h.condition_is
tested (negation c opposite) = tested c
tested (conjunction c d together) = (tested c, tested d)
tested (disjunction c d opposite opposite together opposite) = (tested c, tested d)

emitted : {names : Names} {xs : List TextExpression} {parts : List Statement} → names.loops ≤ MAX_DEPTH → AreEmits names xs parts → All (Fits names) parts
emitted {names} le no_emits = All-nil (Fits names)
emitted {names} le (next_emit {emits = so_far} {e = e} a before n has) =
    All-push (Fits names) so_far (S.Emit e) (emitted le before) (record { turns = tt; slots = tt; depth = omega arith; room = has })

-- what is done once all numbers are computed needs no registers of its own
record Settles (names : Names) (s : Statement) : Type 0 where
  turns : AllTurn s
  slots : AllSlots s names.nodes
  depth : loops s + names.loops ≤ MAX_DEPTH
  room : (d : ℕ) → d ≤ VALUE_REGISTERS → HasRoom s d

computed : {names : Names} {t : ℕ} {ws : List Write} {done whole : Statement} → t ≤ VALUE_REGISTERS → AreWritten names t ws done whole → Settles names done → Fits (record names { values = t }) whole
computed {t = t} le all_computed x = record { turns = x.turns; slots = x.slots; depth = x.depth; room = x.room t le }
computed le (next_computed {t = t} u apart lt has then rest) x =
    let more = computed (omega (arith, lt)) rest (record { turns = (x.turns, tt); slots = (x.slots, tt); depth = omega (arith, x.depth); room = λ d few. (x.room d few, omega (arith, few)) }) in
    record { turns = more.turns; slots = more.slots; depth = more.depth; room = (has, more.room) }

first_free : {names : Names} {t : ℕ} {w : Write} {ws : List Write} {done whole : Statement} → AreWritten names t (w ∷ ws) done whole → t ≤ VALUE_REGISTERS
first_free (next_computed u apart lt has then rest) = omega (arith, lt)

written : {names : Names} {w : Write} {ws : List Write} {whole : Statement} → names.loops ≤ MAX_DEPTH → IsWritten names w ws whole → Fits names whole
written le (one_write u has) = record { turns = tt; slots = tt; depth = omega arith; room = has }
written le (several_writes a) =
    let x = computed (first_free a) a (record { turns = tt; slots = tt; depth = omega (arith, le); room = λ d few. tt }) in
    record { turns = x.turns; slots = x.slots; depth = x.depth; room = x.room }

action : {names : Names} {a : Action} {s : Statement} → names.loops ≤ MAX_DEPTH → IsAction names a s → Fits names s
action le (assigns e n c has) = record { turns = tt; slots = tt; depth = omega arith; room = has }
action le (writes w) = written le w
action le (emits e) = halved le e.joined (emitted le e.each)
action le (descends room e n has) = record { turns = tt; slots = room; depth = omega arith; room = has }
action le (takes e f) = record { turns = tt; slots = tt; depth = omega arith; room = tt }
action le (frees e) = record { turns = tt; slots = tt; depth = omega arith; room = tt }
action le (breaks lt) = record { turns = tt; slots = tt; depth = omega arith; room = tt }
action le returns = record { turns = tt; slots = tt; depth = omega arith; room = tt }

-- ---- blocks

beside : (names : Names) (text : TextPlace) → names.loops ≤ MAX_DEPTH → (with_place names text).loops ≤ MAX_DEPTH
beside names (T.Node name offset number) le = le
beside names (T.Child c) le = le
beside names (T.Pair c d) le = le

-- a failure, whose code takes no computing
failing : {names : Names} {c : Option ℕ} {e : Expression} {s : Statement} → names.loops ≤ MAX_DEPTH → IsFailure c e s → HasTemporaries e names.values → Fits names s
failing le bare fits = record { turns = tt; slots = tt; depth = omega arith; room = tt }
failing le (coded then) fits = record { turns = (tt, tt); slots = (tt, tt); depth = omega arith; room = (fits, tt) }

-- a constant takes no computing
short : 0 ≤ VALUE_REGISTERS
short = omega arith

marking : {names : Names} {c : Option ℕ} {a b : Statement} → names.loops ≤ MAX_DEPTH → IsMarked c a b → Fits names a → Fits names b
marking le not_read x = x
marking le (sure e) x = x
marking {names} le (marked e then) x = record { turns = (tt, x.turns); slots = (tt, x.slots); depth = omega (arith, x.depth); room = (short, x.room) }

renewing : {names : Names} {c : Option ℕ} {a b : Statement} → IsRenewed c a b → Fits names a → Fits names b
renewing not_renewed x = x
renewing {names} (renewed then) x = record { turns = (x.turns, tt); slots = (x.slots, tt); depth = omega (arith, x.depth); room = (x.room, short) }

reasoned : {names : Names} {why : Option TextExpression} {e : Expression} → IsReason names why e → HasTemporaries e names.values
reasoned {names} no_reason = short
reasoned (reason c) = c.fits

requiring : {readers : Readers} {names : Names} {form : Form} {why : Option TextExpression} {s : Statement} → names.loops ≤ MAX_DEPTH → IsRequired readers names form why s → Fits names s
requiring le (required c r f) = choice (tested c) (record { turns = tt; slots = tt; depth = omega arith; room = tt }) (failing le f (reasoned r))

-- with one value more in use, whatever its name
heard : (names : Names) {more : Names} {s : Statement} → Fits more s → more.nodes ≡ names.nodes → more.loops ≡ names.loops → more.values ≡ names.values + 1 → Fits (record names { values = names.values + 1 }) s
heard names {s = s} x n l v = record {
  turns = x.turns;
  slots = subst (AllSlots s) n x.slots;
  depth = omega (arith, x.depth, l);
  room = subst (HasRoom s) v x.room;
}

letting : {p : _} {names : Names} {w : ℤ} {s : Statement} → Fits (record names { values = names.values + 1 }) s → Fits names (S.Let' names.values (E.Constant w) p s)
letting {names = names} x = record { turns = x.turns; slots = x.slots; depth = x.depth; room = (short, x.room) }

-- the loop is left
left_by : {names : Names} {x : ℕ} {w : ℤ} {way : Statement} → names.loops ≤ MAX_DEPTH → IsThen (S.Assign x (E.Constant w)) S.Break way → Fits names way
left_by le then = record { turns = (tt, tt); slots = (tt, tt); depth = omega arith; room = (short, tt) }

after_loop : {names : Names} {a b whole : Statement} → Fits names a → Fits names b → IsThen a b whole → Fits names whole
after_loop x y then = two x y

-- whether it was is tested in one register more
found_fits : (f : Finding) (d : ℕ) → d + 1 ≤ VALUE_REGISTERS → HasConditionRoom (was_found f) d
found_fits f d le = (omega (arith, le), omega (arith, le))

-- numbers that a loop is left with
left : {names : Names} {way whole : Statement} {x : ℕ} {es : List TextExpression} → AreLeft names way x es whole → Fits names way → Fits names whole
left none_left y = y
left (next_left a n fits rest then) y =
    let more = left rest y in
    record { turns = (tt, more.turns); slots = (tt, more.slots); depth = omega (arith, more.depth); room = (fits, more.room) }

-- values that are 0 before a statement
zeros : (names : Names) {n : ℕ} {a whole : Statement} → AreNothing names.values n a whole → Fits (with_room names n) a → Fits names whole
zeros names (none_more {a = a}) y = let same : names.values + 0 ≡ names.values = omega arith in record { turns = y.turns; slots = y.slots; depth = y.depth; room = subst (HasRoom a) same y.room }
zeros names (one_more {n = n} {a = a} rest) y =
    let same : names.values + suc n ≡ names.values + n + 1 = omega arith in
    zeros names rest (record { turns = y.turns; slots = y.slots; depth = y.depth; room = (short, subst (HasRoom a) same y.room) })

-- values get names
named_values : (names : Names) (x : ℕ) (ns : List Name) → (with_variables names x ns).loops ≡ names.loops × (with_variables names x ns).values ≡ names.values × (with_variables names x ns).nodes ≡ names.nodes
named_values names x [] = (refl, refl, refl)
named_values names x (n ∷ ns) = named_values (with_variable names n x) (x + 1) ns

mutual
  in_block : {before : List Declaration} {readers : Readers} {names : Names} {xs : List TextStatement} {s : Statement} → names.loops ≤ MAX_DEPTH → IsBlock before readers names xs s → Fits names s
  in_block le (block are j) = halved le j (in_statements le are)

  in_statements : {before : List Declaration} {readers : Readers} {names : Names} {xs : List TextStatement} {parts : List Statement} → names.loops ≤ MAX_DEPTH → AreStatements before readers names xs parts → All (Fits names) parts
  in_statements {before} {readers} {names} le no_more = All-nil (Fits names)
  in_statements {before} {readers} {names} le (next {b = b} {parts = parts} s m a rest reached) = All-cons (Fits names) b parts (at_offset (marking le m (in_statement le s)) a) (in_statements le rest)
  in_statements {before} {readers} {names} le (let_rest {a = a} f new room n has told body o) =
      let x = in_block le body in
      All-cons (Fits names) a [] (at_offset (record { turns = x.turns; slots = x.slots; depth = x.depth; room = (has, x.room) }) o) (All-nil (Fits names))
  in_statements {before} {readers} {names} le (let_told {a = a} f new room n has told other body o) =
      let x = in_block le body in
      let y = failing {names = names} le other short in
      All-cons (Fits names) a [] (at_offset (record { turns = (x.turns, y.turns); slots = (x.slots, y.slots); depth = omega (arith, x.depth, y.depth); room = (has, x.room, y.room) }) o) (All-nil (Fits names))
  in_statements {before} {readers} {names} le (let_else {a = a} f new room n has other leaves body o) =
      let x = in_block le body in
      let y = in_block le other in
      All-cons (Fits names) a [] (at_offset (record { turns = (x.turns, y.turns); slots = (x.slots, y.slots); depth = omega (arith, x.depth, y.depth); room = (has, x.room, y.room) }) o) (All-nil (Fits names))
  in_statements {before} {readers} {names} le (lock_rest {text = text} {a = a} f place other body o) =
      All-cons (Fits names) a [] (at_offset (locking place (in_block (beside names text le) body) (failing {names = names} le other short)) o) (All-nil (Fits names))
  in_statements {before} {readers} {names} le (lock_else {text = text} {a = a} f place other leaves body o) =
      All-cons (Fits names) a [] (at_offset (locking place (in_block (beside names text le) body) (in_block le other)) o) (All-nil (Fits names))

  in_statement : {before : List Declaration} {readers : Readers} {names : Names} {form : StatementForm} {s : Statement} → names.loops ≤ MAX_DEPTH → IsStatement before readers names form s → Fits names s
  in_statement le (act a) = in_acted le a
  in_statement le (act_else a h t) = handled (in_acted le a) (in_block le h) t
  in_statement le (try xs ys a b t) = handled (in_block le a) (in_block le b) t
  in_statement {names = names} le (try_told xs ys new room a b t) = letting {names = names} (handled (heard names (in_block le a) refl refl refl) (heard names (in_block le b) refl refl refl) t)
  in_statement le (if xs ys c a b) = choice (tested c) (in_block le a) (in_block le b)
  in_statement {before} {readers} {names} le (if_lock {text = text} xs ys place a b) = locking place (in_block (beside names text le) a) (in_block le b)
  in_statement le (repeat xs deep c a) = let x = in_block (omega (arith, deep)) a in record { turns = (may_turn c, x.turns); slots = x.slots; depth = omega (arith, x.depth); room = x.room }
  in_statement le (repeat_up_to xs deep n has turn c a) =
      let x = in_block (omega (arith, deep)) a in
      record { turns = (may_turn c, x.turns); slots = x.slots; depth = omega (arith, x.depth); room = (has, turn, x.room) }
  in_statement le (for_each {child = called} {index = index} xs deep new room has e c a r v) = walk called index room has (may_turn c) (renewing r (in_block (omega (arith, deep)) a)) v
  in_statement le (block_alone xs a) = in_block le a
  in_statement {before} {readers} {names} le (searched turns found other ns {a = a} {b = b} deep room x new y z then nothing) =
      let inner = with_room names (length ns.items + 1) in
      let same = named_values inner (names.values + 1) ns.items in
      let first = in_block (subst (λ n. n ≤ MAX_DEPTH) (sym same.0) le) y in
      let here : Fits inner b = record {
        turns = first.turns;
        slots = subst (AllSlots b) same.2 first.slots;
        depth = omega (arith, first.depth, same.0);
        room = subst (HasRoom b) same.1 first.room;
      } in
      zeros names nothing (after_loop (in_block le x) (choice (found_fits (finding_at names (length ns.items)) inner.values room) here (in_block le z)) then)

  in_acted : {before : List Declaration} {readers : Readers} {names : Names} {a : Action} {s : Statement} → names.loops ≤ MAX_DEPTH → IsActed before readers names a s → Fits names s
  in_acted le (plain a) = action le a
  in_acted le (requires r) = requiring le r
  in_acted {names = names} le (fails f) = failing {names = names} le f short
  in_acted le (fails_with c f) = failing le f c.fits
  in_acted le (breaks_with e d n then all) = left all (left_by le then)
  in_acted le (used arguments index part given nests) =
      let x = in_given (omega arith) given in record { turns = x.turns; slots = x.slots; depth = omega (arith, nests); room = x.room }

  in_given : {before : List Declaration} {readers : Readers} {outer names : Names} {ps : List Parameter} {args : List TextExpression} {body : List TextStatement} {s : Statement} → names.loops ≤ MAX_DEPTH →
      IsGiven before readers outer names ps args body s → Fits names s
  in_given le (all_given b) = in_block le b
  in_given {names = names} le (node_given {later = later} {name = name} {a = a} argument g rest) =
      let later_is : later ≡ with_alias names name g.register = g.later_is in
      let x = in_given (subst (λ n. n.loops ≤ MAX_DEPTH) (sym later_is) le) rest in
      let y : Fits (with_alias names name g.register) a = subst (λ n. Fits n a) later_is x in
      record { turns = y.turns; slots = y.slots; depth = y.depth; room = y.room }
  in_given {names = names} le (variable_given {later = later} {name = name} {a = a} argument g rest) =
      let later_is : later ≡ with_variable names name g.register = g.later_is in
      let x = in_given (subst (λ n. n.loops ≤ MAX_DEPTH) (sym later_is) le) rest in
      let y : Fits (with_variable names name g.register) a = subst (λ n. Fits n a) later_is x in
      record { turns = y.turns; slots = y.slots; depth = y.depth; room = y.room }
  in_given {names = names} le (value_given {later = later} {name = name} {a = a} argument g rest) =
      let later_is : later ≡ with_value names name = g.later_is in
      let x = in_given (subst (λ n. n.loops ≤ MAX_DEPTH) (sym later_is) le) rest in
      let y : Fits (with_value names name) a = subst (λ n. Fits n a) later_is x in
      record { turns = y.turns; slots = y.slots; depth = y.depth; room = (g.fits, y.room) }

-- ---- procedures

caught : {names : Names} {why : Option Name} {body handler handled : Statement} → Fits (names_in_body names why) body → Fits (names_in_else names why) handler → IsCaught names body handler why handled → Fits names handled
caught x y (unnamed t) = handled x y t
caught {names} x y (named t) = letting {names = names} (handled (heard names x refl refl refl) (heard names y refl refl refl) t)

within : (names : Names) (why : Option Name) → names.loops ≤ MAX_DEPTH → ((names_in_body names why).loops ≤ MAX_DEPTH) × ((names_in_else names why).loops ≤ MAX_DEPTH)
within names None le = (le, le)
within names (Some why) le = (le, le)

in_body : {before : List Declaration} {names : Names} {text : TextProcedure} {s : Statement} → names.loops ≤ MAX_DEPTH → IsBody before names text s → Fits names s
in_body {names = names} {text = text} le b =
    let both = within names text.why le in
    handled (caught (in_block both.0 b.body_is) (in_block both.1 b.handler_is) b.handled_is) (record { turns = tt; slots = tt; depth = omega arith; room = tt }) b.whole_is

pub in_order : {before : List Declaration} (scope : View) (text : TextProcedure) (p : Procedure) → p.arity ≡ scope.values → scope.values ≤ MAX_ARGS → scope.nodes ≡ 0 → scope.loops ≡ 0
    → IsBody before (names_in scope) text p.body → IsWellFormed p.body scope.values scope.nodes none_held (is_in_loop scope) → failures p.body none_held ≡ [] → EntersOnce p.body nothing_before → IsWord p.name.items → IsInOrder p
in_order scope text p arity few nodes loops body sound handled enters name =
    let outside : scope.loops ≤ MAX_DEPTH = omega arith in
    let f = in_body outside body in
    record {
      sound =
          subst (λ n. IsWellFormed p.body n 0 none_held false) (sym arity)
          (subst (λ n. IsWellFormed p.body scope.values n none_held false) nodes (subst (λ n. IsWellFormed p.body scope.values scope.nodes none_held (nat_lt 0 n)) loops sound));
      handled = handled;
      few = omega arith;
      slots = subst (AllSlots p.body) nodes f.slots;
      turns = f.turns;
      depth = omega (arith, f.depth);
      name = name;
      enters = enters;
      room = subst (HasRoom p.body) (sym arity) f.room;
    }
