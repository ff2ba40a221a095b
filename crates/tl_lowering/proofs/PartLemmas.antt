-- The core forms of the part of a block that was read, and of statements with blocks, are those of the text.
use Rattle.std.proofs.Common.{◌≡◌, ◌∙◌, ℕ, ◌+◌, ◌<◌, ◌≤◌, List, [], ◌∷◌, ◌++◌, length, take, get_or, reverse, Option, None, Some, true, false, pos, refl, sym, ap, subst, append-nil, append_assoc}
use Rattle.std.specs.Prelude.{option_map, Result, Ok, Err, IfOk, IfSome, IfNone}
use Rattle.tl_syntax.specs.declared.fault.SyntaxFault.{SyntaxFault}
use Rattle.std.specs.Borrow.{Bor}
use Rattle.std.specs.declared.vec.Vec.{Vec}
use Rattle.std.specs.declared.alloc.Global.{Global}
use Rattle.std.proofs.lemmas.List.{reverse-append, take_more}
use Rattle.tl_syntax.specs.declared.parsed.Name.{Name}
use Rattle.tl_syntax.specs.declared.parsed.Expression.{Expression as TextExpression}
use Rattle.tl_syntax.specs.declared.parsed.Action.{Action}
use Rattle.tl_syntax.specs.declared.parsed.Action.TheVariants as A
use Rattle.tl_syntax.specs.declared.parsed.Leave.{Leave}
use Rattle.tl_syntax.specs.declared.parsed.Declaration.{Declaration}
use Rattle.tl_syntax.specs.declared.parsed.Otherwise.{Otherwise, out-Otherwise}
use Rattle.tl_syntax.specs.declared.parsed.Question.{Question}
use Rattle.tl_syntax.specs.declared.parsed.Statement.{Statement as TextStatement}
use Rattle.tl_syntax.specs.declared.parsed.StatementForm.{StatementForm}
use Rattle.tl_syntax.specs.declared.parsed.StatementForm.TheVariants as T
use Rattle.tl_instr.specs.declared.operand.TheConstants.{VALUE_REGISTERS}
use Rattle.tl_lowering.specs.declared.lowering.Binding.{Binding}
use Rattle.tl_lowering.specs.declared.lowering.Binding.TheVariants as B
use Rattle.tl_lowering.specs.declared.program.Expression.TheVariants as E
use Rattle.tl_lowering.specs.declared.lowering.Draft.{Draft}
use Rattle.tl_lowering.specs.declared.lowering.Head.{Head}
use Rattle.tl_lowering.specs.declared.paths.Flow.{Flow}
use Rattle.tl_lowering.specs.declared.paths.Held.{Held}
use Rattle.tl_lowering.specs.declared.lowering.Entrance.{Entrance}
use Rattle.tl_lowering.specs.declared.lowering.Opened.{Opened}
use Rattle.tl_lowering.specs.declared.loops.Repetition.{Repetition}
use Rattle.tl_lowering.specs.declared.program.Statement.{Statement}
use Rattle.tl_lowering.specs.declared.loops.Repetition.TheVariants as R
use Rattle.tl_lowering.specs.declared.loops.Visit.{Visit}
use Rattle.tl_lowering.specs.declared.program.Expression.{Expression}
use Rattle.tl_lowering.specs.declared.scope.Meaning.TheVariants as M
use Rattle.tl_lowering.specs.Registers.{behind, HasRegisters}
use Rattle.tl_lowering.specs.declared.lowering.Entrance.TheVariants as N
use Rattle.tl_lowering.specs.declared.readers.Finding.{Finding}
use Rattle.tl_lowering.specs.declared.readers.Readers.{Readers}
use Rattle.tl_lowering.specs.Failing.{unread, reading, searching, is_told, IsMarked, IsRenewed}
use Rattle.tl_lowering.specs.Names.{Names, stands_for, IsNew, HasValue, with_room, with_variables, AreFound, AreFresh, HasNode, HasLoop, in_loop, with_node, with_index, with_unnamed, with_value}
use Rattle.tl_lowering.specs.Naming.{IsNumber, IsCount, IsThen, declares, is_plain}
use Rattle.tl_lowering.specs.Reading.{IsTried, Leaves, IsVisiting, IsAtOffset, IsBlock, block, AreStatements, no_more, next, IsStatement, IsActed, used, act_else, try, try_told, if, if_lock, repeat, repeat_up_to, for_each, AreNothing, finding_at, was_found, search as searched}
use Rattle.tl_lowering.specs.Paths.{known}
use Rattle.tl_lowering.specs.Drafts.{MayFollow, IsOpening, opening_value, opening_nodes, head_failure, IsMissing, IsElse, no_else, missing_else, IsElseOf, Opens, Ends, none_open, last_open, Becomes, IsFinished, IsExtended, IsHandled, IsHeard, IsUsed, Binds, binds_value}
use Rattle.tl_lowering.specs.Choosing.{IsEntered, enters_condition, enters_lock, names_behind, IsChosen, chosen_if, chosen_lock, IsRepeated, repeated_times, repeated_up_to, IsVisited, visited, names_within, IsLoop, IsSearch, IsTurning, turning_times, turning_up_to, turning_children}
use Rattle.tl_lowering.proofs.OpeningLemmas.{opens_rest}

-- ---- a block

-- for any statements that follow, the part that was read becomes what the block becomes
abbrev pub IsPart : List Declaration → Readers → Names → List TextStatement → Draft → Names → Type 0
IsPart before readers names read draft now =
    (rest : List TextStatement) (items all : List Statement) → MayFollow draft.flow rest → AreStatements before readers now rest items → Becomes draft items all → AreStatements before readers names (read ++ rest) all

ends_none : {items all : List Statement} → Ends [] items all → items ≡ all
ends_none none_open = refl

pub none_part : (before : List Declaration) (readers : Readers) (names : Names) (draft : Draft) → draft.opened.items ≡ [] → draft.statements.items ≡ [] → IsPart before readers names [] draft names
none_part before readers names draft o s rest items all may are becomes =
    let here : Ends [] (draft.statements.items ++ items) all = subst (λ z. Ends (reverse z) (draft.statements.items ++ items) all) o becomes in
    subst (AreStatements before readers names rest) (ends_none (subst (λ z. Ends [] (z ++ items) all) s here)) are

pub more_part : {before : List Declaration} {readers : Readers} {names old later : Names} {draft : Draft} (new : Draft) (flow : Flow) (here : Held) (xs : List TextStatement) (i : ℕ) (s : TextStatement) → i < length xs → s ≡ get_or xs i s
    → draft.flow.after ≡ Some here → known new.flow.after ≡ known flow.after → IsPart before readers names (take i xs) draft old
    → ((rest : List TextStatement) (items all : List Statement) → MayFollow flow rest → AreStatements before readers later rest items → Becomes new items all → IsExtended before readers old s rest draft all)
    → IsPart before readers names (take (i + 1) xs) new later
more_part {before} {readers} {names} new flow here xs i s lt f goes same part step rest items all may are becomes =
    let e = step rest items all (λ none. may (same ∙ none)) are becomes in
    let h : take (i + 1) xs ≡ take i xs ++ s ∷ [] = take_more xs i s lt ∙ ap (λ z. take i xs ++ z ∷ []) (sym f) in
    subst (λ z. AreStatements before readers names z all) (sym (ap (λ z. z ++ rest) h ∙ append_assoc (take i xs) (s ∷ []) rest)) (part (s ∷ rest) e.items all (λ none. let w = sym (ap known goes) ∙ none in cc) e.are e.becomes)

pub whole_part : {before : List Declaration} {readers : Readers} {names now : Names} {read : List TextStatement} {draft : Draft} {whole : Statement} → IsPart before readers names read draft now → IsFinished draft whole → IsBlock before readers names read whole
whole_part {before} {readers} {names} {read = read} part f =
    block (subst (λ z. AreStatements before readers names z f.parts) (append-nil read) (part [] [] f.parts (λ none. refl) no_more f.becomes)) f.joined

-- ---- one statement more

pub plain_extended : {before : List Declaration} {readers : Readers} {names later : Names} (s : TextStatement) (draft new : Draft) {a b c : Statement} (flow : Flow) → (Leaves a → known flow.after ≡ None) → later ≡ names → IsStatement before readers names s.form a → IsMarked readers.code a c → IsAtOffset s.offset c b
    → new.opened.items ≡ draft.opened.items → new.statements.items ≡ draft.statements.items ++ b ∷ []
    → (rest : List TextStatement) (items all : List Statement) → MayFollow flow rest → AreStatements before readers later rest items → Becomes new items all → IsExtended before readers names s rest draft all
plain_extended {before = before} {readers = readers} s draft new {b = b} flow ends l st mark at_offset os ss rest items all may are becomes = record {
  items = b ∷ items;
  are = next st mark at_offset (subst (λ n. AreStatements before readers n rest items) l are) (λ leaves. may (ends leaves));
  becomes =
      subst (λ z. Ends (reverse draft.opened.items) z all) (ap (λ z. z ++ items) ss ∙ append_assoc draft.statements.items (b ∷ []) items)
      (subst (λ z. Ends (reverse z) (new.statements.items ++ items) all) os becomes);
}

ends_last : {before : List Declaration} {readers : Readers} {names inner : Names} (s : TextStatement) (draft : Draft) {o : Opened} (rest : List TextStatement) (items all : List Statement) → Opens before readers names s.form o.binding inner
    → o.offset ≡ s.offset → o.earlier.items ≡ draft.statements.items → AreStatements before readers inner rest items → Ends (o ∷ reverse draft.opened.items) items all → IsExtended before readers names s rest draft all
ends_last s draft rest items all op f earlier are (last_open {bound = bound} {at_offset = at_offset} j b there e) = record {
  items = at_offset ∷ [];
  are = opens_rest op (block are j) b (subst (λ n. IsAtOffset n bound at_offset) f there);
  becomes = subst (λ z. Ends (reverse draft.opened.items) (z ++ at_offset ∷ []) all) earlier e;
}

pub opened_extended : {before : List Declaration} {readers : Readers} {names inner : Names} (s : TextStatement) (draft new : Draft) (flow : Flow) (o : Opened) → Opens before readers names s.form o.binding inner → o.offset ≡ s.offset
    → o.earlier.items ≡ draft.statements.items → new.opened.items ≡ draft.opened.items ++ o ∷ [] → new.statements.items ≡ []
    → (rest : List TextStatement) (items all : List Statement) → MayFollow flow rest → AreStatements before readers inner rest items → Becomes new items all → IsExtended before readers names s rest draft all
opened_extended s draft new flow o op f earlier os none rest items all may are becomes =
    let last : reverse new.opened.items ≡ o ∷ reverse draft.opened.items = ap reverse os ∙ reverse-append draft.opened.items (o ∷ []) in
    ends_last s draft rest items all op f earlier are
    (subst (λ z. Ends (o ∷ reverse draft.opened.items) (z ++ items) all) none (subst (λ z. Ends z (new.statements.items ++ items) all) last becomes))

-- ---- statements with blocks

pub block_at : {before : List Declaration} {readers : Readers} {names here : Names} {xs ys : List TextStatement} {whole : Statement} → here ≡ names → xs ≡ ys → IsBlock before readers here xs whole → IsBlock before readers names ys whole
block_at {before} {readers} {names} {here} {xs} {ys} {whole} e f h = subst (λ n. IsBlock before readers n ys whole) e (subst (λ z. IsBlock before readers here z whole) f h)

pub handled_statement : {before : List Declaration} {readers : Readers} {names : Names} {action : Action} {o : Otherwise} {a whole : Statement} {handler : List TextStatement} → IsActed before (unread readers) names action a → handler ≡ (out-Otherwise o).body.items
    → IsHandled before readers names a handler whole → IsStatement before readers names (T.Act action (Some o)) whole
handled_statement {before} {readers} {names} s e h = act_else s (subst (λ z. IsBlock before readers names z h.other) e h.block) h.tried

pub tried_statement : {before : List Declaration} {readers : Readers} {names here : Names} (xs ys : Vec TextStatement Global) {a whole : Statement} {body handler : List TextStatement} → here ≡ names → body ≡ xs.items
    → handler ≡ ys.items → IsBlock before (unread readers) names body a → IsHandled before readers here a handler whole → IsStatement before readers names (T.Try None xs ys) whole
tried_statement xs ys l e f s h = try xs ys (block_at refl e s) (block_at l f h.block) h.tried

told_in : {before : List Declaration} {readers : Readers} {names : Names} {why : Name} (xs ys : Vec TextStatement Global) {a other attempt whole : Statement} → IsNew names why → HasValue names
    → IsBlock before (reading readers names.values) (with_unnamed names) xs.items a → IsBlock before readers (with_value names why) ys.items other → IsTried a other attempt
    → Binds (B.Value names.values (E.Constant (pos 0))) attempt whole → IsStatement before readers names (T.Try (Some why) xs ys) whole
told_in xs ys new room x y t binds_value = try_told xs ys new room x y t

pub told_statement : {before : List Declaration} {readers : Readers} {names here : Names} {why : Name} (xs ys : Vec TextStatement Global) {a whole : Statement} {body handler : List TextStatement} → here ≡ names → body ≡ xs.items
    → handler ≡ ys.items → IsNew names why → HasValue names → IsBlock before (reading readers names.values) (with_unnamed names) body a → IsHeard before readers here why a handler whole
    → IsStatement before readers names (T.Try (Some why) xs ys) whole
told_statement {before} {readers} {names} {here} {why} xs ys {a} {whole} {handler = handler} l e f new room b h =
    let there : IsHeard before readers names why a handler whole = subst (λ n. IsHeard before readers n why a handler whole) l h in
    told_in xs ys new room (block_at refl e b) (block_at refl f there.block) there.tried there.bound

pub heard_of : {before : List Declaration} {readers : Readers} {names here : Names} {why : Name} {x : ℕ} {a attempt whole : Statement} {handler : List TextStatement} → x ≡ names.values → here ≡ with_value names why
    → IsHandled before readers here a handler attempt → Binds (B.Value x (E.Constant (pos 0))) attempt whole → IsHeard before readers names why a handler whole
heard_of {before} {readers} {attempt = attempt} {whole = whole} {handler} same l h b = record {
  other = h.other;
  attempt = attempt;
  block = subst (λ n. IsBlock before readers n handler h.other) l h.block;
  tried = h.tried;
  bound = subst (λ z. Binds (B.Value z (E.Constant (pos 0))) attempt whole) same b;
}

pub chosen_statement : {before : List Declaration} {readers : Readers} {names : Names} {question : Question} {entrance : Entrance} (xs ys : Vec TextStatement Global) {a b whole : Statement} → IsEntered names question entrance
    → IsBlock before readers (names_behind names entrance) xs.items a → IsBlock before readers names ys.items b → IsChosen a b entrance whole → IsStatement before readers names (T.If question xs ys) whole
chosen_statement xs ys (enters_condition c) a b chosen_if = if xs ys c a b
chosen_statement {before} {readers} {names} xs ys {a = first} (enters_lock l) a b (chosen_lock {p = p} {q = q}) =
    if_lock xs ys {p = p} {q = q} l.place_is (subst (λ n. IsBlock before readers n xs.items first) l.names_are a) b

loop_times : {before : List Declaration} {readers : Readers} {names : Names} {count : TextExpression} {w : ℕ} (xs : Vec TextStatement Global) {a whole : Statement} → HasLoop names → IsCount names count.form w
    → IsBlock before readers (in_loop names) xs.items a → IsTurning a (R.Times w) whole → IsStatement before readers names (T.Repeat count None xs) whole
loop_times xs l c b turning_times = repeat xs l c b

loop_up_to : {before : List Declaration} {readers : Readers} {names : Names} {count most : TextExpression} {e : Expression} {w : ℕ} (xs : Vec TextStatement Global) {a whole : Statement} → HasLoop names → IsNumber names count.form e
    → HasRegisters e names.values → behind e names.values + 1 ≤ VALUE_REGISTERS → IsCount names most.form w → IsBlock before readers (in_loop names) xs.items a → IsTurning a (R.UpTo e w) whole → IsStatement before readers names (T.Repeat count (Some most) xs) whole
loop_up_to xs l n has more c b turning_up_to = repeat_up_to xs l n has more c b

loop_children : {before : List Declaration} {readers : Readers} {names : Names} {child parent : Name} {index : Option Name} {most : TextExpression} (xs : Vec TextStatement Global) {v : Visit} {a c whole : Statement} → HasLoop names
    → AreFresh names child index → HasNode names → names.values + 3 ≤ VALUE_REGISTERS → v.name ≡ child → v.index_name ≡ index → v.child ≡ names.nodes
    → v.index ≡ names.values → stands_for names parent ≡ M.Node v.parent → IsCount names most.form v.turns → IsBlock before readers (names_within names (R.Children v)) xs.items a
    → IsRenewed readers.code a c → IsTurning c (R.Children v) whole → IsStatement before readers names (T.ForEach child index parent most xs) whole
loop_children {before} {readers} {names} {child} {parent} {index} {most} xs {v} {a} {c = kept} {whole} l new room has n o c i p t b renewed (turning_children w) =
    let called : IsBlock before readers (with_node (with_index (in_loop names) v.index_name) child) xs.items a = subst (λ z. IsBlock before readers (with_node (with_index (in_loop names) v.index_name) z) xs.items a) n b in
    for_each xs l new room has p t (subst (λ z. IsBlock before readers (with_node (with_index (in_loop names) z) child) xs.items a) o called) renewed
    (subst (λ z. IsVisiting z names.nodes v.parent v.turns kept whole) i (subst (λ z. IsVisiting v.index z v.parent v.turns kept whole) c w))

pub repeated_statement : {before : List Declaration} {readers : Readers} {names : Names} (count : TextExpression) (most : Option TextExpression) {r : Repetition} (xs : Vec TextStatement Global) {whole : Statement}
    → IsRepeated names count.form (option_map (λ (e : TextExpression). e.form) most) r → IsLoop before readers names r xs.items whole → IsStatement before readers names (T.Repeat count most xs) whole
repeated_statement count None xs {whole = whole} (repeated_times {w = w} d c) l =
    loop_times xs d c l.body_is.read_is (subst (λ z. IsTurning z (R.Times w) whole) l.body_is.kept_is l.whole_is)
repeated_statement count (Some most) xs {whole = whole} (repeated_up_to {e = e} {w = w} d n has more c) l =
    loop_up_to xs d n has more c l.body_is.read_is (subst (λ z. IsTurning z (R.UpTo e w) whole) l.body_is.kept_is l.whole_is)

pub visited_statement : {before : List Declaration} {readers : Readers} {names : Names} {child parent : Name} {index : Option Name} {most : TextExpression} (xs : Vec TextStatement Global) {r : Repetition} {whole : Statement}
    → IsVisited names child index parent most.form r → IsLoop before readers names r xs.items whole → IsStatement before readers names (T.ForEach child index parent most xs) whole
visited_statement xs (visited d new room has n o c i p t) l = loop_children xs d new room has n o c i p t l.body_is.read_is l.body_is.kept_is l.whole_is

pub forms_of : (r : Option (Bor TextExpression)) (m : Option TextExpression) → option_map (λ (e : Bor TextExpression). e.now) r ≡ m
    → option_map (λ (e : Bor TextExpression). e.now.form) r ≡ option_map (λ (e : TextExpression). e.form) m
forms_of None m h = ap (option_map (λ (e : TextExpression). e.form)) h
forms_of (Some e) m h = ap (option_map (λ (x : TextExpression). x.form)) h

-- ---- a declaration with its `else`

else_for : {before : List Declaration} {readers : Readers} {names : Names} {form : StatementForm} {head : Head} {other : Option (Statement × Flow)} → IsOpening names form head → IsElseOf before readers names form head other → IsElse before readers names form head other
else_for (opening_value o f g new room n has) e = e _ o f
else_for (opening_nodes o f l) e = e _ o f

pub opens_at : {before : List Declaration} {readers : Readers} {names here inner : Names} {form : StatementForm} {head : Head} {other : Option (Statement × Flow)} {b : Binding} → here ≡ names → IsOpening names form head
    → IsElseOf before readers names form head other → ((f : StatementForm) → IsOpening here f head → IsElse before readers here f head other → Opens before readers here f b inner) → Opens before readers names form b inner
opens_at {before} {readers} {names} {here} {inner} {form} {head} {other} {b} l op el make =
    subst (λ n. Opens before readers n form b inner) l (make form (subst (λ n. IsOpening n form head) (sym l) op) (subst (λ n. IsElse before readers n form head other) (sym l) (else_for op el)))

-- a declaration without an `else`
pub missing_named : (before : List Declaration) (readers : Readers) (names : Names) {form : StatementForm} (head : Head) (action : Action) (r : Result (Option (Statement × Flow)) SyntaxFault) → form ≡ T.Act action None
    → IfOk r (λ o. IfNone o (is_told readers.code (head_failure head) ≡ false)) → IfOk r (λ o. IfSome o (λ l. IsMissing readers head l.0)) → IfOk r (IsElseOf before readers names form head)
missing_named before readers names head action (Err e) f none told = tt
missing_named before readers names head action (Ok None) f none told = λ other o g. no_else f none
missing_named before readers names head action (Ok (Some (a, flow))) f none told = λ other o g. missing_else f told

pub loop_at : {before : List Declaration} {readers : Readers} {names : Names} {r : Repetition} {xs ys : List TextStatement} {whole : Statement} → xs ≡ ys → IsLoop before readers names r xs whole → IsLoop before readers names r ys whole
loop_at {before} {readers} {names} {r} {whole = whole} e = subst (λ z. IsLoop before readers names r z whole) e

-- ---- a loop that may be left with numbers

searched_of : {before : List Declaration} {readers : Readers} {names : Names} (turns found other : Vec TextStatement Global) (ns : Vec Name Global) {a b c choice both whole : Statement} → HasLoop names
    → names.values + (length ns.items + 1) + 1 ≤ VALUE_REGISTERS → IsBlock before (searching readers (finding_at names (length ns.items))) (with_room names (length ns.items + 1)) turns.items a
    → AreFound (with_room names (length ns.items + 1)) (names.values + 1) ns.items → IsBlock before readers (with_variables (with_room names (length ns.items + 1)) (names.values + 1) ns.items) found.items b
    → IsBlock before readers (with_room names (length ns.items + 1)) other.items c → IsChosen b c (N.Condition (was_found (finding_at names (length ns.items)))) choice → IsThen a choice both
    → AreNothing names.values (length ns.items + 1) both whole → IsStatement before readers names (T.Search turns ns found other) whole
searched_of turns found other ns deep room x new y z chosen_if then nothing = searched turns found other ns deep room x new y z then nothing

searched_in : {before : List Declaration} {readers : Readers} {names : Names} (turns found other : Vec TextStatement Global) (ns : Vec Name Global) {whole : Statement}
    → IsSearch before readers names turns.items ns.items found.items other.items whole → IsStatement before readers names (T.Search turns ns found other) whole
searched_in turns found other ns h =
    let s = h.searched_is in searched_of turns found other ns h.deep s.room s.turned_is s.fresh s.first_is s.second_is s.choice_is s.whole_is h.whole_is

pub searched_statement : {before : List Declaration} {readers : Readers} {names : Names} (turns found other : Vec TextStatement Global) (ns : Vec Name Global) {xs ys zs : List TextStatement} {ms : List Name} {whole : Statement} → xs ≡ turns.items
    → ms ≡ ns.items → ys ≡ found.items → zs ≡ other.items → IsSearch before readers names xs ms ys zs whole → IsStatement before readers names (T.Search turns ns found other) whole
searched_statement {before} {readers} {names} turns found other ns {xs} {ys} {zs} {ms} {whole} one called two three h =
    searched_in turns found other ns
    (subst (λ z. IsSearch before readers names z ns.items found.items other.items whole) one
    (subst (λ z. IsSearch before readers names xs z found.items other.items whole) called
    (subst (λ z. IsSearch before readers names xs ms z other.items whole) two
    (subst (λ z. IsSearch before readers names xs ms ys z whole) three h))))

-- ---- a part

pub used_action : {before : List Declaration} {readers : Readers} {names : Names} {name : Name} (arguments : Vec TextExpression Global) {slice : List TextExpression} {a : Statement} → slice ≡ arguments.items
    → IsUsed before readers names name slice a → IsActed before readers names (A.Use name arguments) a
used_action {before} {readers} {names} {name} arguments {a = a} e u =
    let here : IsUsed before readers names name arguments.items a = subst (λ z. IsUsed before readers names name z a) e u in used arguments here.index_is here.part_is here.given here.nests

pub plain_left : (a : Action) → declares a ≡ false → ((name : Name) (arguments : Vec TextExpression Global) → a ≡ A.Use name arguments → ⊥) → ((e : TextExpression) (why : Option TextExpression) → a ≡ A.Require e why → ⊥)
    → ((l : Leave) → a ≡ A.Leave l → ⊥) → ((e : TextExpression) → a ≡ A.Fail e → ⊥) → ((values : Vec TextExpression Global) → a ≡ A.BreakWith values → ⊥) → is_plain a ≡ true
plain_left (A.Use name arguments) d uses required left failed found = absurd (uses name arguments refl)
plain_left (A.Require e why) d uses required left failed found = absurd (required e why refl)
plain_left (A.Leave l) d uses required left failed found = absurd (left l refl)
plain_left (A.Fail e) d uses required left failed found = absurd (failed e refl)
plain_left (A.BreakWith values) d uses required left failed found = absurd (found values refl)
plain_left (A.Let name e) d uses required left failed found = cc
plain_left (A.Lock place) d uses required left failed found = cc
plain_left action d uses required left failed found = refl
