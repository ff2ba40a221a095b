-- What is read is numbered: each value has the next register.
use Rattle.std.proofs.Common.{◌≡◌, ℕ, suc, ◌+◌, ◌/◌, List, [], ◌∷◌, length, Option, refl, ap, ◌∙◌, subst, arith}
use Rattle.std.specs.List.{All}
use Rattle.std.proofs.lemmas.List.Elements.{All-nil, All-cons, All-head, All-tail, All-push, All-take, All-drop}
use Rattle.tl_syntax.specs.declared.parsed.Name.{Name}
use Rattle.tl_syntax.specs.declared.parsed.Write.{Write}
use Rattle.tl_syntax.specs.declared.parsed.Action.{Action}
use Rattle.tl_syntax.specs.declared.parsed.Parameter.{Parameter}
use Rattle.tl_syntax.specs.declared.parsed.Declaration.{Declaration}
use Rattle.tl_syntax.specs.declared.parsed.Expression.{Expression as TextExpression}
use Rattle.tl_syntax.specs.declared.parsed.Place.{Place as TextPlace}
use Rattle.tl_syntax.specs.declared.parsed.Place.TheVariants as T
use Rattle.tl_syntax.specs.declared.parsed.Procedure.{Procedure as TextProcedure}
use Rattle.tl_syntax.specs.declared.parsed.Statement.{Statement as TextStatement}
use Rattle.tl_syntax.specs.declared.parsed.StatementForm.{StatementForm}
use Rattle.tl_lowering.specs.declared.program.Procedure.{Procedure}
use Rattle.tl_lowering.specs.declared.program.Statement.{Statement}
use Rattle.tl_lowering.specs.declared.program.Statement.TheVariants as S
use Rattle.tl_syntax.specs.declared.parsed.Form.{Form}
use Rattle.tl_lowering.specs.declared.program.Expression.{Expression}
use Rattle.tl_lowering.specs.declared.readers.Readers.{Readers}
use Rattle.tl_lowering.specs.Failing.{IsFailure, bare, coded, IsMarked, not_read, sure, marked, IsRenewed, not_renewed, renewed}
use Rattle.tl_lowering.specs.Names.{Names, with_values, with_variable, with_variables, with_room, with_place}
use Rattle.tl_lowering.specs.Naming.{calculated, then, IsHalved, none, one, more, AreEmits, no_emits, next_emit, AreWritten, all_computed, next_computed, IsWritten, one_write, several_writes, IsAction, assigns, writes, emits, descends, takes, frees, breaks, returns}
use Rattle.tl_lowering.specs.Reading.{IsAtOffset, at, IsTried, tried, IsVisiting, visiting, IsBlock, block, AreStatements, no_more, next, let_rest, let_told, let_else, lock_rest, lock_else, IsStatement, IsActed, plain, requires, fails, fails_with, breaks_with, used, AreLeft, none_left, next_left, AreNothing, none_more, one_more, search as searched, IsRequired, required, names_in_body, names_in_else, IsCaught, unnamed, named, IsGiven, all_given, node_given, variable_given, value_given, act, act_else, try, try_told, if, if_lock, repeat, repeat_up_to, for_each, block_alone, IsBody, IsProcedure, AreDeclared, none_declared, next_field, next_constant, next_procedure, next_part, IsProgram}
use Rattle.tl_lowering.specs.Sound.{IsInOrder}
use Rattle.tl_compiler.specs.Rooms.{IsNumbered, IsReady}

handled : (d : ℕ) {a b whole : Statement} → IsNumbered a d → IsNumbered b d → IsTried a b whole → IsNumbered whole d
handled d x y tried = (x, y)

placed : (d : ℕ) {offset : ℕ} {a b : Statement} → IsNumbered a d → IsAtOffset offset a b → IsNumbered b d
placed d x at = x

halved : (d : ℕ) {whole : Statement} {xs : List Statement} → IsHalved whole xs → All (λ s. IsNumbered s d) xs → IsNumbered whole d
halved d none h = tt
halved d (one {a}) h = All-head (λ s. IsNumbered s d) a [] h
halved d (more {xs = xs} long s t then) h =
    (halved d s (All-take (λ s. IsNumbered s d) (length xs / 2) xs h), halved d t (All-drop (λ s. IsNumbered s d) (length xs / 2) xs h))

walk : (d : ℕ) {child parent turns : ℕ} {body whole : Statement} → IsNumbered body (d + 1) → IsVisiting d child parent turns body whole → IsNumbered whole d
walk d x (visiting calculated then) = (refl, (tt, (x, tt)))

emitted : {names : Names} {xs : List TextExpression} {parts : List Statement} (d : ℕ) → AreEmits names xs parts → All (λ s. IsNumbered s d) parts
emitted d no_emits = All-nil (λ s. IsNumbered s d)
emitted d (next_emit {emits = so_far} {e = e} a before n has) = All-push (λ s. IsNumbered s d) so_far (S.Emit e) (emitted d before) tt

computed : {names : Names} {t : ℕ} {ws : List Write} {done whole : Statement} → AreWritten names t ws done whole → ((d : ℕ) → IsNumbered done d) → IsNumbered whole t
computed {t = t} all_computed n = n t
computed (next_computed u apart lt has then rest) n = (refl, computed rest (λ d. (n d, tt)))

written : {names : Names} {w : Write} {ws : List Write} {s : Statement} → IsWritten names w ws s → IsNumbered s names.values
written (one_write u has) = tt
written (several_writes a) = computed a (λ d. tt)

action : {names : Names} {a : Action} {s : Statement} → IsAction names a s → IsNumbered s names.values
action (assigns e n c has) = tt
action (writes w) = written w
action {names} (emits e) = halved names.values e.joined (emitted names.values e.each)
action (descends room e n has) = tt
action (takes e f) = tt
action (frees e) = tt
action (breaks lt) = tt
action returns = tt

beside : (names : Names) (text : TextPlace) (a : Statement) → IsNumbered a (with_place names text).values → IsNumbered a names.values
beside names (T.Node name offset number) a n = n
beside names (T.Child c) a n = n
beside names (T.Pair c d) a n = n

-- ---- failures and their marks

failing : (d : ℕ) {c : Option ℕ} {e : Expression} {s : Statement} → IsFailure c e s → IsNumbered s d
failing d bare = tt
failing d (coded then) = (tt, tt)

marking : (d : ℕ) {c : Option ℕ} {a b : Statement} → IsMarked c a b → IsNumbered a d → IsNumbered b d
marking d not_read x = x
marking d (sure e) x = x
marking d (marked e then) x = (tt, x)

renewing : (d : ℕ) {c : Option ℕ} {a b : Statement} → IsRenewed c a b → IsNumbered a d → IsNumbered b d
renewing d not_renewed x = x
renewing d (renewed then) x = (x, tt)

requiring : (d : ℕ) {readers : Readers} {names : Names} {form : Form} {why : Option TextExpression} {s : Statement} → IsRequired readers names form why s → IsNumbered s d
requiring d (required c r f) = (tt, failing d f)

-- ---- loops that are left with numbers

left : (d : ℕ) {names : Names} {way whole : Statement} {x : ℕ} {es : List TextExpression} → AreLeft names way x es whole → IsNumbered way d → IsNumbered whole d
left d none_left y = y
left d (next_left a n fits rest then) y = (tt, left d rest y)

zeros : (d : ℕ) {n : ℕ} {a whole : Statement} → AreNothing d n a whole → IsNumbered a (d + n) → IsNumbered whole d
zeros d (none_more {a = a}) y = let same : d + 0 ≡ d = omega arith in subst (IsNumbered a) same y
zeros d (one_more {n = n} {a = a} rest) y = let same : d + suc n ≡ d + n + 1 = omega arith in zeros d rest (refl, subst (IsNumbered a) same y)

named_values : (names : Names) (x : ℕ) (ns : List Name) → (with_variables names x ns).values ≡ names.values
named_values names x [] = refl
named_values names x (n ∷ ns) = named_values (with_variable names n x) (x + 1) ns

mutual
  in_block : {before : List Declaration} {readers : Readers} {names : Names} {xs : List TextStatement} {s : Statement} → IsBlock before readers names xs s → IsNumbered s names.values
  in_block {before} {readers} {names} (block are j) = halved names.values j (in_statements are)

  in_statements : {before : List Declaration} {readers : Readers} {names : Names} {xs : List TextStatement} {parts : List Statement} → AreStatements before readers names xs parts → All (λ s. IsNumbered s names.values) parts
  in_statements {before} {readers} {names} no_more = All-nil (λ s. IsNumbered s names.values)
  in_statements {before} {readers} {names} (next {parts = parts} s m a rest reached) =
      All-cons (λ s. IsNumbered s names.values) _ parts (placed names.values (marking names.values m (in_statement s)) a) (in_statements rest)
  in_statements {before} {readers} {names} (let_rest {a = a} f new room n has told body o) =
      All-cons (λ s. IsNumbered s names.values) a [] (placed names.values (refl, in_block body) o) (All-nil (λ s. IsNumbered s names.values))
  in_statements {before} {readers} {names} (let_told {a = a} f new room n has told other body o) =
      All-cons (λ s. IsNumbered s names.values) a [] (placed names.values (refl, in_block body, failing names.values other) o) (All-nil (λ s. IsNumbered s names.values))
  in_statements {before} {readers} {names} (let_else {a = a} f new room n has other leaves body o) =
      All-cons (λ s. IsNumbered s names.values) a [] (placed names.values (refl, in_block body, in_block other) o) (All-nil (λ s. IsNumbered s names.values))
  in_statements {before} {readers} {names} (lock_rest {text = text} {body = body} {a = a} f place other b o) =
      All-cons (λ s. IsNumbered s names.values) a [] (placed names.values (beside names text body (in_block b), failing names.values other) o) (All-nil (λ s. IsNumbered s names.values))
  in_statements {before} {readers} {names} (lock_else {text = text} {body = body} {a = a} f place other leaves b o) =
      All-cons (λ s. IsNumbered s names.values) a [] (placed names.values (beside names text body (in_block b), in_block other) o) (All-nil (λ s. IsNumbered s names.values))

  in_statement : {before : List Declaration} {readers : Readers} {names : Names} {form : StatementForm} {s : Statement} → IsStatement before readers names form s → IsNumbered s names.values
  in_statement (act a) = in_acted a
  in_statement {before} {readers} {names} (act_else a h t) = handled names.values (in_acted a) (in_block h) t
  in_statement {before} {readers} {names} (try xs ys a b t) = handled names.values (in_block a) (in_block b) t
  in_statement {names = names} (try_told xs ys new room a b t) = (refl, handled (names.values + 1) (in_block a) (in_block b) t)
  in_statement (if xs ys c a b) = (in_block a, in_block b)
  in_statement {before} {readers} {names} (if_lock {text = text} xs ys {a = a} place x y) = (beside names text a (in_block x), in_block y)
  in_statement (repeat xs deep c a) = in_block a
  in_statement (repeat_up_to xs deep n has turn c a) = in_block a
  in_statement {before} {readers} {names} (for_each xs deep new room has e c a r v) = walk names.values (renewing (names.values + 1) r (in_block a)) v
  in_statement (block_alone xs a) = in_block a
  in_statement {names = names} (searched turns found other ns {b = b} deep room x new y z then nothing) =
      let inside = with_room names (length ns.items + 1) in
      let first = subst (IsNumbered b) (named_values inside (names.values + 1) ns.items) (in_block y) in
      zeros names.values nothing (in_block x, (first, in_block z))

  in_acted : {before : List Declaration} {readers : Readers} {names : Names} {a : Action} {s : Statement} → IsActed before readers names a s → IsNumbered s names.values
  in_acted (plain a) = action a
  in_acted {names = names} (requires r) = requiring names.values r
  in_acted {names = names} (fails f) = failing names.values f
  in_acted {names = names} (fails_with c f) = failing names.values f
  in_acted {names = names} (breaks_with f d n then a) = left names.values a (tt, tt)
  in_acted (used arguments index part given nests) = in_given given

  in_given : {before : List Declaration} {readers : Readers} {outer names : Names} {ps : List Parameter} {args : List TextExpression} {body : List TextStatement} {s : Statement} → IsGiven before readers outer names ps args body s →
      IsNumbered s names.values
  in_given (all_given b) = in_block b
  in_given (node_given {a = a} argument g rest) = subst (λ (n : Names). IsNumbered a n.values) g.later_is (in_given rest)
  in_given (variable_given {a = a} argument g rest) = subst (λ (n : Names). IsNumbered a n.values) g.later_is (in_given rest)
  in_given (value_given {a = a} argument g rest) = (refl, subst (λ (n : Names). IsNumbered a n.values) g.later_is (in_given rest))

caught : {names : Names} {why : Option Name} {body handler handled : Statement} → IsNumbered body (names_in_body names why).values → IsNumbered handler (names_in_else names why).values →
    IsCaught names body handler why handled → IsNumbered handled names.values
caught {names} x y (unnamed t) = handled names.values x y t
caught {names} x y (named t) = (refl, handled (names.values + 1) x y t)

in_body : {before : List Declaration} {names : Names} {text : TextProcedure} {s : Statement} → IsBody before names text s → IsNumbered s names.values
in_body {before} {names} b = handled names.values (caught {names = names} (in_block b.body_is) (in_block b.handler_is) b.handled_is) tt b.whole_is

-- ---- procedures

many_values : (names : Names) (args : List Name) → (with_values names args).values ≡ names.values + length args
many_values names [] = omega arith
many_values names (name ∷ others) = let h = many_values (with_values names (name ∷ [])) others in omega (arith, h)

in_procedure : (spellings : List (List ℕ)) {before : List Declaration} (names : Names) (text : TextProcedure) (p : Procedure) → names.values ≡ 0 → IsProcedure spellings before names text p →
    IsNumbered p.body p.arity
in_procedure spellings names text p z is =
    let args = text.arguments.items in
    let many = many_values names args in
    let arity = is.arity in
    let same : (with_values names args).values ≡ p.arity = omega (arith, many, arity, z) in
    subst (IsNumbered p.body) same (in_body is.body)

in_declared : (spellings : List (List ℕ)) {before : List Declaration} (names : Names) (ds : List Declaration) (ps : List Procedure) → names.values ≡ 0 → AreDeclared spellings before names ds ps
    → All (λ (p : Procedure). IsNumbered p.body p.arity) ps
in_declared spellings names ds ps z none_declared = All-nil (λ (p : Procedure). IsNumbered p.body p.arity)
in_declared spellings names ds ps z (next_field {later = later} {rest = rest} f others) =
    in_declared spellings later rest ps (ap (λ (n : Names). n.values) f.later_is ∙ z) others
in_declared spellings names ds ps z (next_constant {rest = rest} new is others) = in_declared spellings _ rest ps z others
in_declared spellings names ds ps z (next_part {rest = rest} new others) = in_declared spellings _ rest ps z others
in_declared spellings names ds ps z (next_procedure {text = text} {p = p} {rest = rest} {ps = later} new is others) =
    All-cons (λ (p : Procedure). IsNumbered p.body p.arity) p later (in_procedure spellings _ text p z is) (in_declared spellings _ rest later z others)

each_ready : (ps : List Procedure) → All IsInOrder ps → All (λ (p : Procedure). IsNumbered p.body p.arity) ps → All IsReady ps
each_ready [] o n = All-nil IsReady
each_ready (p ∷ ps) o n = All-cons IsReady p ps
    (record { in_order = All-head IsInOrder p ps o; numbered = All-head (λ (p : Procedure). IsNumbered p.body p.arity) p ps n })
    (each_ready ps (All-tail IsInOrder p ps o) (All-tail (λ (p : Procedure). IsNumbered p.body p.arity) p ps n))

pub ready : (text : List ℕ) (ps : List Procedure) → IsProgram text ps → All IsInOrder ps → All IsReady ps
ready text ps program order = each_ready ps order (in_declared program.names _ program.declarations ps refl program.declared)
