-- Properties that blocks, loops and procedures get from the blocks within them.
use Rattle.std.proofs.Common.{◌≡◌, ℕ, zero, suc, ◌+◌, ◌-◌, List, [], pos, length, take, drop, true, false, Option, Some, None, replicate, refl, sym, ap, ◌∙◌, subst, arith}
use Rattle.std.specs.Prelude.{IfSome, OnOk, Result, Ok, Err, nat_lt, get_or}
use Rattle.std.proofs.lemmas.Bool.{lt-ltb}
use Rattle.tl_syntax.specs.declared.parsed.Declaration.{Declaration}
use Rattle.tl_syntax.specs.declared.parsed.Name.{Name}
use Rattle.tl_syntax.specs.declared.parsed.Procedure.{Procedure as TextProcedure}
use Rattle.tl_syntax.specs.declared.parsed.Statement.{Statement as TextStatement}
use Rattle.tl_instr.specs.declared.operand.TheConstants.{NODE_REGISTERS}
use Rattle.tl_lowering.specs.declared.lowering.Binding.TheVariants as B
use Rattle.tl_lowering.specs.declared.program.Expression.TheVariants as E
use Rattle.tl_lowering.specs.declared.lowering.Draft.{Draft}
use Rattle.tl_lowering.specs.declared.lowering.Entrance.{Entrance}
use Rattle.tl_lowering.specs.declared.loops.Repetition.{Repetition}
use Rattle.tl_lowering.specs.declared.loops.Repetition.TheVariants as R
use Rattle.tl_lowering.specs.declared.paths.Flow.{Flow}
use Rattle.tl_lowering.specs.declared.paths.Held.{Held}
use Rattle.tl_lowering.specs.declared.program.Statement.{Statement}
use Rattle.tl_lowering.specs.declared.program.Statement.TheVariants as S
use Rattle.tl_lowering.specs.Atomic.{IsAtomic}
use Rattle.tl_lowering.specs.Blocks.{then_of, Standing, AreFree}
use Rattle.tl_lowering.specs.Failing.{nothing_read, reading}
use Rattle.tl_lowering.specs.Drafts.{IsHandled, IsHeard, Binds, binds_value}
use Rattle.tl_lowering.specs.Names.{Names, IsNew, HasValue, with_unnamed}
use Rattle.tl_lowering.specs.Reading.{IsTried, tried, IsBlock, IsBody, IsCaught, unnamed, named}
use Rattle.tl_lowering.specs.Lowering.{IsInside, behind_opened, behind_draft, IsDraft, entered, nodes_in}
use Rattle.tl_lowering.specs.Outcomes.{handled_by, after, fails}
use Rattle.tl_lowering.specs.Paths.{Paths, bits, nodes_of, known, paths_of, outcomes, keeping}
use Rattle.tl_lowering.specs.Repeating.{IsRepetition, begun, more_in, IsTurn}
use Rattle.tl_lowering.specs.Scopes.{View, IsInUse, IsAt, IsLowered, Extends, forget, is_in_loop}
use Rattle.tl_lowering.specs.Sets.{Nodes, none_held, holds, both_of, all_of}
use Rattle.tl_lowering.specs.Sound.{IsReadable, IsWellFormed}
use Rattle.tl_lowering.proofs.LoweringLemmas.{extends_self, returned}

-- ---- results

pub on_ok : {T F : Type 0} (r : Result T F) (P : Type 0) → P → OnOk r P
on_ok (Ok x) P p = p
on_ok (Err e) P p = tt

-- ---- a block

-- the paths of a block after one more statement
pub then_flow : (p : Paths) (h : Nodes) (flow next new : Flow) → paths_of flow ≡ p → known flow.after ≡ Some h
    → paths_of new ≡ record { after = known next.after; fails = both_of (known flow.fails) (known next.fails); breaks = both_of (known flow.breaks) (known next.breaks) }
    → paths_of new ≡ then_of p (λ k. paths_of next)
then_flow p h flow next new e a n = n ∙ by (known flow.after) a ∙ ap (λ q. then_of q (λ k. paths_of next)) e
  where
    by : (o : Option Nodes) → o ≡ Some h → record { after = known next.after; fails = both_of (known flow.fails) (known next.fails); breaks = both_of (known flow.breaks) (known next.breaks) }
        ≡ then_of (record { after = o; fails = known flow.fails; breaks = known flow.breaks }) (λ k. paths_of next)
    by None e = cc
    by (Some k) e = refl

pub same_draft : (start : Standing) (draft new : Draft) (scope : View) → new.opened.items ≡ draft.opened.items → new.statements.items ≡ draft.statements.items → IsDraft start draft scope → IsDraft start new scope
unfolding behind_opened behind_draft
same_draft start draft new scope o s d = record {
  opened = rw o d.opened;
  statements = rw (o, s) d.statements;
  values = rw o d.values;
  nodes = rw o d.nodes;
}

pub same_behind : (start : Standing) (draft new : Draft) → new.opened.items ≡ draft.opened.items → new.statements.items ≡ draft.statements.items → behind_draft start new ≡ behind_draft start draft
unfolding behind_opened behind_draft
same_behind start draft new o s = rw (o, s) refl

-- ---- the scope behind a block

-- the names declared since then lose their meanings
pub back : (old begun inner new : View) (k : ℕ) → ((outer : View) → Extends outer old → Extends outer begun) → inner ≡ begun → k ≡ length old.local
    → new.meanings ≡ forget (drop k inner.local) inner.meanings → new.fields ≡ inner.fields → new.procedures ≡ inner.procedures → new.local ≡ take k inner.local → new.values ≡ old.values → new.nodes ≡ old.nodes
    → new.loops ≡ old.loops → new ≡ old
back old begun inner new k extends same is m f r l v n o =
    returned old inner new (subst (Extends old) (sym same) (extends old (extends_self old)))
    (m ∙ ap (λ i. forget (drop i inner.local) inner.meanings) is) f r (l ∙ ap (λ i. take i inner.local) is) v n o

-- the same, and there is one loop less around
pub loop_back : (old begun inner new : View) (k turns : ℕ) → ((outer : View) → Extends outer old → Extends outer begun) → inner ≡ begun → k ≡ length old.local
    → new.meanings ≡ forget (drop k inner.local) inner.meanings → new.fields ≡ inner.fields → new.procedures ≡ inner.procedures → new.local ≡ take k inner.local → new.values ≡ old.values → new.nodes ≡ old.nodes
    → new.loops ≡ inner.loops → begun.loops ≡ old.loops + 1 → turns ≡ new.loops - 1 → record new { loops = turns } ≡ old
loop_back old begun inner new k turns extends same is m f r l v n o more less =
    let around : inner.loops ≡ begun.loops = ap (λ (w : View). w.loops) same in
    back old begun inner (record new { loops = turns }) k extends same is m f r l v n (omega arith)

-- ---- where the same is held

pub at_as : (scope : View) (a b : Held) → nodes_of b ≡ nodes_of a → IsAt scope a → IsAt scope b
at_as scope a b e at = record { names = at.names; nodes = subst (AreFree scope.nodes) (sym e) at.nodes }

pub at_known : (scope : View) (a b : Option Held) → known b ≡ known a → IfSome a (IsAt scope) → IfSome b (IsAt scope)
at_known scope None None e at = tt
at_known scope None (Some y) e at = cc
at_known scope (Some x) None e at = tt
at_known scope (Some x) (Some y) e at = let f : nodes_of y ≡ nodes_of x = cc in at_as scope x y f at

-- ---- the first block of an `if`

pub is_inside : (scope inner : View) (held inside : Held) (entrance : Entrance) (s : Statement) (flow : Flow) → IsLowered inner inside s flow
    → inner.values ≡ scope.values → inner.nodes ≡ nodes_in entrance scope.nodes → inner.loops ≡ scope.loops → nodes_of inside ≡ entered entrance (nodes_of held)
    → IsInside scope held entrance s flow
is_inside scope inner held inside entrance s flow l v n o h =
    let sound : IsWellFormed s inner.values inner.nodes (nodes_of inside) (nat_lt 0 inner.loops) = l.sound in
    record { sound = rw v at (rw n at (rw o at (rw h at sound))); paths = l.paths ∙ ap (outcomes s) h }

-- ---- a loop

pub same_repetition : (scope : View) (a b : Held) (r : Repetition) → nodes_of b ≡ nodes_of a → IsRepetition scope a r → IsRepetition scope b r
same_repetition scope a b (R.Times w) e t = tt
same_repetition scope a b (R.UpTo x w) e t = subst (λ h. IsReadable scope.values h x) (sym e) t
same_repetition scope a b (R.Children v) e t = record { name = t.name; index_name = t.index_name; child = t.child; index = t.index; room = t.room; parent = ap (λ h. holds h v.parent) e ∙ t.parent }

turns_around : (n m : ℕ) → m ≡ n + 1 → nat_lt 0 m ≡ true
turns_around n m e = lt-ltb 0 m (omega arith)

pub is_turn : (scope inner : View) (held start inside : Held) (r : Repetition) (body : Statement) (flow checked : Flow) → IsLowered inner inside body flow
    → inner.values ≡ more_in r scope.values → inner.nodes ≡ more_in r scope.nodes → inner.loops ≡ scope.loops + 1
    → nodes_of inside ≡ begun r (nodes_of start) → nodes_of start ≡ nodes_of held
    → paths_of checked ≡ record (paths_of flow) { after = keeping (nodes_of start) (paths_of flow).after } → IfSome (paths_of checked).after (λ h. h ≡ nodes_of start)
    → IsTurn scope.values scope.nodes (nodes_of held) r body checked
is_turn scope inner held start inside r body flow checked l v n o i e p kept =
    let h : Nodes = nodes_of held in
    let begins : nodes_of inside ≡ begun r h = i ∙ ap (begun r) e in
    let sound : IsWellFormed body inner.values inner.nodes (nodes_of inside) (nat_lt 0 inner.loops) = l.sound in
    let paths : paths_of checked ≡ record (outcomes body (begun r h)) { after = keeping h (after body (begun r h)) } =
    p ∙ ap (λ k. record (paths_of flow) { after = keeping k (paths_of flow).after }) e
    ∙ ap (λ (q : Paths). record q { after = keeping h q.after }) (l.paths ∙ ap (outcomes body) begins) in
    record {
      turn = record {
        sound = subst (λ b. IsWellFormed body (more_in r scope.values) (more_in r scope.nodes) (begun r h) b) (turns_around scope.loops inner.loops o)
            (subst (λ k. IsWellFormed body (more_in r scope.values) (more_in r scope.nodes) k (nat_lt 0 inner.loops)) begins
            (subst (λ k. IsWellFormed body (more_in r scope.values) k (nodes_of inside) (nat_lt 0 inner.loops)) n
            (subst (λ k. IsWellFormed body k inner.nodes (nodes_of inside) (nat_lt 0 inner.loops)) v sound)));
        kept = subst (λ (q : Paths). IfSome q.after (λ k. k ≡ h)) paths (subst (λ k. IfSome (paths_of checked).after (λ x. x ≡ k)) e kept);
      };
      paths = paths;
    }

pub turn_in : {d e m n : ℕ} {held : Nodes} {r : Repetition} {body : Statement} {flow : Flow} → d ≡ e → m ≡ n → IsTurn d m held r body flow → IsTurn e n held r body flow
turn_in {e = e} {m = m} {held = held} {r = r} {body = body} {flow = flow} v n t =
    subst (λ z. IsTurn e z held r body flow) n (subst (λ z. IsTurn z m held r body flow) v t)

-- ---- a procedure

none_is : (k n : ℕ) → get_or (replicate k false) n false ≡ false
none_is zero n = refl
none_is (suc k) zero = refl
none_is (suc k) (suc n) = none_is k n

pub none_bits : bits 0 ≡ none_held
unfolding bits
none_bits = refl

pub at_nothing : (scope : View) (held : Held) → held.nodes ≡ 0 → IsInUse scope → IsAt scope held
at_nothing scope held e names = record { names = names; nodes = λ n le. rw (e, none_bits) (none_is NODE_REGISTERS n) }

-- a body whose failures are all handled
pub body_sound : (scope : View) (held : Held) (s a b : Statement) (flow : Flow) → held.nodes ≡ 0 → IsLowered scope held s flow → a ≡ s → b ≡ S.Skip
    → IsWellFormed a scope.values scope.nodes none_held (is_in_loop scope) × IsWellFormed b scope.values scope.nodes (handled_by none_held (all_of (fails a none_held))) (is_in_loop scope)
body_sound scope held s a b flow e l f g =
    let is : nodes_of held ≡ none_held = ap bits e ∙ none_bits in
    let sound : IsWellFormed s scope.values scope.nodes none_held (is_in_loop scope) = subst (λ k. IsWellFormed s scope.values scope.nodes k (is_in_loop scope)) is l.sound in (
      subst (λ z. IsWellFormed z scope.values scope.nodes none_held (is_in_loop scope)) (sym f) sound,
      subst (λ z. IsWellFormed z scope.values scope.nodes (handled_by none_held (all_of (fails a none_held))) (is_in_loop scope)) (sym g) tt,
    )

pub whole_sound : {scope : View} {held : Held} {s whole : Statement} {flow : Flow} → held.nodes ≡ 0 → IsLowered scope held s flow → IsTried s S.Skip whole → IsWellFormed whole scope.values scope.nodes none_held (is_in_loop scope)
whole_sound {scope} {held} {s} {flow = flow} e l tried = body_sound scope held s s S.Skip flow e l refl refl

pub whole_handled : {s whole : Statement} → IsTried s S.Skip whole → fails whole none_held ≡ []
whole_handled tried = refl

-- ---- the body of a procedure

unnamed_body : {before : List Declaration} {names : Names} (text : TextProcedure) {body handler handled whole : Statement} → text.why ≡ None → IsBlock before nothing_read names text.body.items body
    → IsBlock before nothing_read names text.otherwise.items handler → IsTried body handler handled → IsTried handled S.Skip whole → (text.is_atomic ≡ true → IsAtomic body) → (text.is_atomic ≡ true → IsAtomic handled)
    → IsBody before names text whole
unnamed_body text {body} {handler} {handled} e b h t w atomic other = record {
  body = body;
  handler = handler;
  handled = handled;
  room = rw e tt;
  body_is = rw e b;
  handler_is = rw e h;
  handled_is = rw e (unnamed t);
  whole_is = w;
  atomic = atomic;
  atomic_else = other;
}

caught_of : {names : Names} {why : Name} {body handler attempt whole : Statement} → IsTried body handler attempt → Binds (B.Value names.values (E.Constant (pos 0))) attempt whole → IsCaught names body handler (Some why) whole
caught_of t binds_value = named t

heard_body : {before : List Declaration} {names : Names} {why : Name} (text : TextProcedure) {body handled whole : Statement} → text.why ≡ Some why → IsNew names why → HasValue names
    → IsBlock before (reading nothing_read names.values) (with_unnamed names) text.body.items body → IsHeard before nothing_read names why body text.otherwise.items handled → IsTried handled S.Skip whole
    → (text.is_atomic ≡ true → IsAtomic body) → (text.is_atomic ≡ true → IsAtomic handled) → IsBody before names text whole
heard_body {why = why} text {body} {handled} e new room b h w atomic other = record {
  body = body;
  handler = h.other;
  handled = handled;
  room = rw e (new, room);
  body_is = rw e b;
  handler_is = rw e h.block;
  handled_is = rw e (caught_of {why = why} h.tried h.bound);
  whole_is = w;
  atomic = atomic;
  atomic_else = other;
}

-- one whose `else` doesn't name the code
pub plain_body : {before : List Declaration} {names here : Names} (text : TextProcedure) {body handled whole : Statement} {block handler : List TextStatement} → text.why ≡ None → here ≡ names → block ≡ text.body.items
    → handler ≡ text.otherwise.items → IsBlock before nothing_read names block body → IsHandled before nothing_read here body handler handled → IsTried handled S.Skip whole
    → (text.is_atomic ≡ true → IsAtomic body) → (text.is_atomic ≡ true → IsAtomic handled) → IsBody before names text whole
plain_body {before} {names} {here} text {body} e l f g b h w atomic other =
    unnamed_body text e (subst (λ z. IsBlock before nothing_read names z body) f b)
    (subst (λ n. IsBlock before nothing_read n text.otherwise.items h.other) l (subst (λ z. IsBlock before nothing_read here z h.other) g h.block)) h.tried w atomic other

-- one whose `else` does
pub told_body : {before : List Declaration} {names here : Names} {why : Name} (text : TextProcedure) {body handled whole : Statement} {block handler : List TextStatement} → text.why ≡ Some why → here ≡ names → block ≡ text.body.items
    → handler ≡ text.otherwise.items → IsNew names why → HasValue names → IsBlock before (reading nothing_read names.values) (with_unnamed names) block body
    → IsHeard before nothing_read here why body handler handled → IsTried handled S.Skip whole → (text.is_atomic ≡ true → IsAtomic body) → (text.is_atomic ≡ true → IsAtomic handled) → IsBody before names text whole
told_body {before} {names} {here} {why} text {body} {handled} e l f g new room b h w atomic other =
    heard_body text e new room (subst (λ z. IsBlock before (reading nothing_read names.values) (with_unnamed names) z body) f b)
    (subst (λ n. IsHeard before nothing_read n why body text.otherwise.items handled) l (subst (λ z. IsHeard before nothing_read here why body z handled) g h)) w atomic other
