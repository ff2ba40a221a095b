-- Marks where ways part and meet, and at the pads of a handler: what holds of statements there.
use Rattle.std.proofs.Common.{◌≡◌, ◌⊎◌, inl, inr, ℕ, ◌≤◌, List, [], ◌∷◌, ◌++◌, length, Bool, true, false, not, ◌&&◌, ◌||◌, Option, Some, None, is_some, if◌then◌else◌, refl, sym, ◌∙◌, ap, subst}
use Rattle.std.proofs.lemmas.Bool.{not-false}
use Rattle.tl_instr.specs.declared.operand.TheConstants.{NODE_REGISTERS}
use Rattle.tl_instr.specs.declared.instr.Instr.{Instr}
use Rattle.tl_instr.specs.declared.instr.Instr.TheVariants as I
use Rattle.tl_budget.specs.declared.limits.TheConstants.{MAX_DEPTH}
use Rattle.tl_verify.specs.declared.marks.Marks.{Marks}
use Rattle.tl_lowering.specs.declared.program.Statement.{Statement}
use Rattle.tl_lowering.specs.declared.program.Statement.TheVariants as S
use Rattle.tl_lowering.specs.Sets.{Nodes, both, minus, same, is_among}
use Rattle.tl_lowering.specs.Sound.{IsWellFormed}
use Rattle.tl_lowering.specs.Outcomes.{here_if, after, fails, breaks}
use Rattle.tl_compiler.specs.Labels.{target_of}
use Rattle.tl_compiler.specs.Statements.{Exit, Site, release_code, way_out, direct, is_skip, joining_code, Second, second_by, Pads, pad_at, one_pad, pads_of, held_behind, statement_code}
use Rattle.tl_compiler.specs.Among.{IsIn}
use Rattle.tl_compiler.proofs.SetLemmas.{Within, both_within, same_is, same_itself, among}
use Rattle.tl_compiler.proofs.SizeLemmas.{AnySized, AllSized}
use Rattle.tl_compiler.proofs.WayLemmas.{Keeps as Kept, second_short}
use Rattle.tl_lowering.specs.Fit.{loops, AllTurn, AllSlots}
use Rattle.tl_compiler.proofs.Entrances.{or_of, some_if, entered, EntersOnce}
use Rattle.tl_compiler.proofs.Markings.{marks, Brings, Marked, none, dead, marked_further, marked_long, Promises, Begins, begins_further, stays_there}
use Rattle.tl_compiler.proofs.Marking.{begins_label, jump_marked, free_marked, dead_marked, Joined, Keeps, joining_marked}

-- the properties of a statement that don't depend on the code after it
pub record Facts (a : Statement) (held : Nodes) (e : Bool) (x : Site) : Type 0 where
  pub sized : length held ≡ NODE_REGISTERS
  pub sound : IsWellFormed a x.values x.nodes held (is_some x.exit)
  pub enters : EntersOnce a e
  pub slots : AllSlots a x.nodes
  pub turns : AllTurn a
  pub depth : loops a ≤ MAX_DEPTH
  pub exits : (exit : Exit) → x.exit ≡ Some exit → length exit.held ≡ NODE_REGISTERS

abbrev pub StatementMarked : Statement → Type 0
StatementMarked a = (held : Nodes) (e : Bool) (x : Site) (k : List Instr) (ns : List (Option Marks)) → length ns ≡ length k → Facts a held e x → Promises a held e x ns → Begins (statement_code a held x k) k ns (marks held e)

-- the labels for failures and breaks have fitting marks
pub record Outs (a : Statement) (held : Nodes) (e : Bool) (x : Site) (ns : List (Option Marks)) : Type 0 where
  pub fails : (h : Nodes) (f : Bool) → IsIn h (fails a held) → (entered a e).fails ≡ Some f → Brings ns (x.pad h) (marks h f)
  pub breaks : (h : Nodes) (f : Bool) (exit : Exit) → IsIn h (breaks a held) → (entered a e).breaks ≡ Some f → x.exit ≡ Some exit → Within exit.held h × Brings ns exit.label (marks exit.held f)

pub outs_of : {a : Statement} {held : Nodes} {e : Bool} {x : Site} {ns : List (Option Marks)} → Promises a held e x ns → Outs a held e x ns
outs_of p = record { fails = p.fails; breaks = p.breaks }

pub outs_further : {a : Statement} {held : Nodes} {e : Bool} {x : Site} {ms ns : List (Option Marks)} {c k : List Instr} → Marked c ms k ns → Outs a held e x ns → Outs a held e x ms
outs_further m o = record {
  fails = λ h f i g. stays_there m (o.fails h f i g);
  breaks = λ h f exit i g is. let b = o.breaks h f exit i g is in (b.0, stays_there m b.1);
}

pub promised : {a : Statement} {held : Nodes} {e : Bool} {x : Site} {ns : List (Option Marks)} → ((h : Nodes) (f : Bool) → after a held ≡ Some h → (entered a e).after ≡ Some f → Brings ns (length ns) (marks h f)) → Outs a held e x ns → Promises a held e x ns
promised on o = record { after = on; fails = o.fails; breaks = o.breaks }

-- ---- marks that say less

not_true : (f g : Bool) → (f ≡ true → g ≡ true) → not g ≡ true → not f ≡ true
not_true true g h e = absurd (let k = h refl in let n = ap not k in cc)
not_true false g h e = refl

pub brings_less : {ns : List (Option Marks)} {l : ℕ} {held : Nodes} {g : Bool} (f : Bool) → (f ≡ true → g ≡ true) → Brings ns l (marks held g) → Brings ns l (marks held f)
brings_less {ns} {l} {held} {g} f h b = record { there = b.there; at = b.at; held = b.held; is_open = λ e. not_true f g h (b.is_open e) }

-- o has a value, which is true if f is
pub record OneOf (o : Option Bool) (f : Bool) : Type 0 where
  pub value : Bool
  pub is : o ≡ Some value
  pub more : f ≡ true → value ≡ true

pub or_first : (o p : Option Bool) (f : Bool) → o ≡ Some f → OneOf (or_of o p) f
or_first None p f e = cc
or_first (Some x) None f e = record { value = x; is = refl; more = λ t. let same : x ≡ f = cc in same ∙ t }
or_first (Some x) (Some y) f e = record { value = x || y; is = refl; more = λ t. let same : x ≡ f = cc in ap (λ z. z || y) (same ∙ t) }

pub or_second : (o p : Option Bool) (f : Bool) → p ≡ Some f → OneOf (or_of o p) f
or_second None None f e = cc
or_second None (Some y) f e = record { value = y; is = refl; more = λ t. let same : y ≡ f = cc in same ∙ t }
or_second (Some x) None f e = cc
or_second (Some x) (Some y) f e = record { value = x || y; is = refl; more = λ t. let same : y ≡ f = cc in or_true_right x (same ∙ t) }
  where
    or_true_right : (x : Bool) {y : Bool} → y ≡ true → (x || y) ≡ true
    or_true_right true e = refl
    or_true_right false e = e

pub one_itself : (o : Option Bool) (f : Bool) → o ≡ Some f → OneOf o f
one_itself o f e = record { value = f; is = e; more = λ t. t }

-- the nodes held at a failure of the statement itself are in the list
pub itself_in : (may : Bool) (held : Nodes) (others : List Nodes) → may ≡ true → IsIn held (here_if may held ++ others)
itself_in true held others e = inl refl
itself_in false held others e = cc

pub itself_fails : (may e : Bool) (o : Option Bool) → may ≡ true → OneOf (or_of (some_if may e) o) e
itself_fails true e o t = or_first (Some e) o e refl
itself_fails false e o t = cc

-- ---- where one of two ways goes on

-- the end of a way is one of the whole statement
pub rests : {ns : List (Option Marks)} {one whole : Option Nodes} {p q : Option Bool} {label : ℕ} → Kept one whole (held_behind whole) → AnySized one → ((f : Bool) → p ≡ Some f → OneOf q f)
    → ((h : Nodes) (f : Bool) → whole ≡ Some h → q ≡ Some f → Brings ns label (marks h f)) → (h : Nodes) (f : Bool) → one ≡ Some h → p ≡ Some f → Keeps ns h (held_behind whole) f label
rests {whole = whole} kept sized among_both on h f e g =
    let o = among_both f g in
    let size = sized h e in
    record { size = size; size_kept = kept.size h e size; within = kept.within h e; to = brings_less f o.more (on (held_behind whole) o.value (kept.is h e) o.is) }

pub keeps_label : {ns ms : List (Option Marks)} {h kept : Nodes} {f : Bool} {l m : ℕ} {c k : List Instr} → Marked c ms k ns → l ≡ m → Keeps ns h kept f l → Keeps ms h kept f m
keeps_label {ns} {ms} {h} {kept} {f} m e keep = record { size = keep.size; size_kept = keep.size_kept; within = keep.within; to = stays_there m (subst (λ l. Brings ns l (marks kept f)) e keep.to) }

-- ---- the second of two ways

pub direct_brings : (b : Statement) (held : Nodes) (e : Bool) (x : Site) (ns : List (Option Marks)) → Outs b held e x ns → (label : ℕ) → direct b held x ≡ Some label → Brings ns label (marks held e)
direct_brings S.Fail held e x ns o label is = let same : x.pad held ≡ label = cc in subst (λ l. Brings ns l (marks held e)) same (o.fails held e (inl refl) refl)
direct_brings S.Break held e x ns o label is = by x.exit refl is
  where
    by : (exit : Option Exit) → x.exit ≡ exit → way_out held exit ≡ Some label → Brings ns label (marks held e)
    by None f g = cc
    by (Some exit) f g = at (same exit.held held) refl g
      where
        at : (b : Bool) → same exit.held held ≡ b → (if b then Some exit.label else None) ≡ Some label → Brings ns label (marks held e)
        at false s h = cc
        at true s h =
            let to : exit.label ≡ label = cc in
            let is_held = same_is exit.held held s in
            subst (λ l. Brings ns l (marks held e)) to (subst (λ g. Brings ns exit.label (marks g e)) is_held (o.breaks held e exit (inl refl) refl f).1)
direct_brings (S.At' offset p a) held e x ns o label is = direct_brings a held e x ns (record { fails = o.fails; breaks = o.breaks }) label is
direct_brings S.Skip held e x ns o label is = cc
direct_brings (S.Sequence' p a q b) held e x ns o label is = cc
direct_brings (S.Assign v n) held e x ns o label is = cc
direct_brings (S.Write n f v) held e x ns o label is = cc
direct_brings (S.Emit n) held e x ns o label is = cc
direct_brings (S.Free n) held e x ns o label is = cc
direct_brings (S.Descend n v) held e x ns o label is = cc
direct_brings (S.Take n m) held e x ns o label is = cc
direct_brings S.Return held e x ns o label is = cc
direct_brings (S.If' c p a q b) held e x ns o label is = cc
direct_brings (S.Let' v n p a) held e x ns o label is = cc
direct_brings (S.LetElse' v n p a q b) held e x ns o label is = cc
direct_brings (S.Lock' place p a q b) held e x ns o label is = cc
direct_brings (S.Try' p a q b) held e x ns o label is = cc
direct_brings (S.Repeat' w p a) held e x ns o label is = cc
direct_brings (S.RepeatUpTo' n w p a) held e x ns o label is = cc

-- a statement without code never goes on
pub direct_none : (b : Statement) (held : Nodes) (e : Bool) (x : Site) (label : ℕ) → direct b held x ≡ Some label → (after b held ≡ None) × ((entered b e).after ≡ None)
direct_none S.Fail held e x label is = (refl, refl)
direct_none S.Break held e x label is = (refl, refl)
direct_none (S.At' offset p a) held e x label is = direct_none a held e x label is
direct_none S.Skip held e x label is = cc
direct_none (S.Sequence' p a q b) held e x label is = cc
direct_none (S.Assign v n) held e x label is = cc
direct_none (S.Write n f v) held e x label is = cc
direct_none (S.Emit n) held e x label is = cc
direct_none (S.Free n) held e x label is = cc
direct_none (S.Descend n v) held e x label is = cc
direct_none (S.Take n m) held e x label is = cc
direct_none S.Return held e x label is = cc
direct_none (S.If' c p a q b) held e x label is = cc
direct_none (S.Let' v n p a) held e x label is = cc
direct_none (S.LetElse' v n p a q b) held e x label is = cc
direct_none (S.Lock' place p a q b) held e x label is = cc
direct_none (S.Try' p a q b) held e x label is = cc
direct_none (S.Repeat' w p a) held e x label is = cc
direct_none (S.RepeatUpTo' n w p a) held e x label is = cc

pub record Other (c k : List Instr) (label : ℕ) (ns : List (Option Marks)) (m : Marks) : Type 0 where
  pub list : List (Option Marks)
  pub marked : Marked c list k ns
  pub begins : Brings list label m

abbrev second_of : Statement → Nodes → Site → Nodes → List Instr → Second
second_of b hb x kept k = second_by (direct b hb x) (is_skip b) (after b hb) kept (statement_code b hb x) k

pub second_marked : (b : Statement) → StatementMarked b → (hb : Nodes) (e : Bool) (x : Site) (kept : Nodes) (k : List Instr) (ns : List (Option Marks)) → length ns ≡ length k → Facts b hb e x → Outs b hb e x ns
    → ((h : Nodes) (f : Bool) → after b hb ≡ Some h → (entered b e).after ≡ Some f → Keeps ns h kept f (length k)) → (to : Option ℕ) → direct b hb x ≡ to
    → Other (second_by to (is_skip b) (after b hb) kept (statement_code b hb x) k).code k (second_by to (is_skip b) (after b hb) kept (statement_code b hb x) k).label ns (marks hb e)
second_marked b ih hb e x kept k ns size facts outs keeps (Some label) is = record { list = ns; marked = none; begins = direct_brings b hb e x ns outs label is }
second_marked b ih hb e x kept k ns size facts outs keeps None is =
    let j = joining_marked (after b hb) (entered b e).after kept false 0 k ns size keeps in
    let code = joining_code (after b hb) kept false 0 k in
    let size_j : length j.list ≡ length code = marked_long j.marked size in
    let r = ih hb e x code j.list size_j facts (promised j.begins (outs_further j.marked outs)) in
    record { list = r.marks; marked = marked_further r.marked j.marked; begins = begins_label size_j r }

-- ---- two ways

-- where control goes on after the first way, if it doesn't jump
pub first_label : (j : Bool) (n m : ℕ) → (j ≡ false → m ≡ n) → n ≡ (if j then n else m)
first_label true n m h = refl
first_label false n m h = sym (h refl)

module _ (a b : Statement) (one : StatementMarked a) (two : StatementMarked b) (ha hb : Nodes) (ea eb : Bool) (y x : Site) (kept : Nodes) (k : List Instr) (ns : List (Option Marks)) (size : length ns ≡ length k)
    (facts_a : Facts a ha ea y) (facts_b : Facts b hb eb x) (outs_a : Outs a ha ea y ns) (outs_b : Outs b hb eb x ns)
    (keeps_a : (h : Nodes) (f : Bool) → after a ha ≡ Some h → (entered a ea).after ≡ Some f → Keeps ns h kept f (length k))
    (keeps_b : (h : Nodes) (f : Bool) → after b hb ≡ Some h → (entered b eb).after ≡ Some f → Keeps ns h kept f (length k)) where
  abbrev second : Second
  second = second_by (direct b hb x) (is_skip b) (after b hb) kept (statement_code b hb x) k

  abbrev pub rest : List Instr
  rest = joining_code (after a ha) kept second.jumps (length k) second.code

  pub other : Other second.code k second.label ns (marks hb eb)
  other = second_marked b two hb eb x kept k ns size facts_b outs_b keeps_b (direct b hb x) refl

  size_other : length other.list ≡ length second.code
  size_other = marked_long other.marked size

  pub joined : Joined rest second.code other.list (after a ha) (entered a ea).after
  joined = joining_marked (after a ha) (entered a ea).after kept second.jumps (length k) second.code other.list size_other
      (λ h f e g. keeps_label other.marked (first_label second.jumps (length k) (length second.code) (λ j. second_short (direct b hb x) b hb x kept k j)) (keeps_a h f e g))

  size_joined : length joined.list ≡ length rest
  size_joined = marked_long joined.marked size_other

  first_way : Begins (statement_code a ha y rest) rest joined.list (marks ha ea)
  first_way = one ha ea y rest joined.list size_joined facts_a (promised joined.begins (outs_further joined.marked (outs_further other.marked outs_a)))

  -- both ways, with the code in front of them
  pub ways_marked : (opening : ℕ → List Instr → List Instr) (m : Marks)
      → ((j : List Instr) (ls : List (Option Marks)) → length ls ≡ length j → Marked j ls k ns → Brings ls second.label (marks hb eb) → Brings ls (length j) (marks ha ea) → Begins (opening second.label j) j ls m)
      → Begins (opening second.label (statement_code a ha y rest)) k ns m
  ways_marked opening m opens =
      let all = marked_further joined.marked other.marked in
      let r = first_way in
      let size_r = marked_long r.marked size_joined in
      begins_further (record { marks = r.marks; marked = marked_further r.marked all; begins = r.begins })
      (opens (statement_code a ha y rest) r.marks size_r (marked_further r.marked all) (stays_there (marked_further r.marked joined.marked) other.begins) (begins_label size_joined r))

-- ---- the pads of a handler

in_list : (h : Nodes) (hs : List Nodes) → is_among h hs ≡ true → IsIn h hs
in_list h [] e = cc
in_list h (g ∷ hs) e = by (same h g) refl e (in_list h hs)
  where
    by : (b : Bool) → same h g ≡ b → (b || is_among h hs) ≡ true → (is_among h hs ≡ true → IsIn h hs) → (h ≡ g) ⊎ IsIn h hs
    by true s f more = inl (same_is h g s)
    by false s f more = inr (more f)

both_parts : (a b : Bool) → (a && b) ≡ true → (a ≡ true) × (b ≡ true)
both_parts true true e = (refl, refl)
both_parts true false e = cc
both_parts false b e = cc

pub record Padded (pads base : Pads) (failing : List Nodes) (sets : List Nodes) (start : Nodes) (f : Option Bool) (ls : List (Option Marks)) : Type 0 where
  pub list : List (Option Marks)
  pub marked : Marked pads.code list base.code ls
  pub brings : (h : Nodes) (g : Bool) → IsIn h sets ⊎ (h ≡ start) → IsIn h failing → f ≡ Some g → Brings list (pads.pad h) (marks h g)

module _ (failing : List Nodes) (start : Nodes) (label : ℕ) (base : Pads) (pad : Nodes → ℕ) (is_base : (h : Nodes) → base.pad h ≡ pad_at start label pad h) (ls : List (Option Marks)) (size : length ls ≡ length base.code) (sized : AllSized failing)
    (size_start : length start ≡ NODE_REGISTERS) (within : (h : Nodes) → IsIn h failing → Within start h) (f : Option Bool) (begins : (g : Bool) → f ≡ Some g → Brings ls label (marks start g)) where
  pub pads_marked : (sets : List Nodes) → Padded (pads_of sets failing start label base) base failing sets start f ls
  pads_marked [] = record { list = ls; marked = none; brings = λ h g one m e. at_base h g one e }
    where
      at_base : (h : Nodes) (g : Bool) → IsIn h [] ⊎ (h ≡ start) → f ≡ Some g → Brings ls (base.pad h) (marks h g)
      at_base h g (inl n) e = absurd n
      at_base h g (inr s) e =
          let at : base.pad h ≡ label = is_base h ∙ ap (λ b. if b then label else pad h) (ap (same start) s ∙ same_itself start) in
          subst (λ l. Brings ls l (marks h g)) (sym at) (subst (λ x. Brings ls label (marks x g)) (sym s) (begins g e))
  pads_marked (q ∷ others) = by (is_among q failing && not (same q start)) refl (pads_marked others)
    where
      more : Pads
      more = pads_of others failing start label base

      by : (b : Bool) → (is_among q failing && not (same q start)) ≡ b → Padded (pads_of others failing start label base) base failing others start f ls
          → Padded (one_pad b q start label (pads_of others failing start label base)) base failing (q ∷ others) start f ls
      by false t r = record { list = r.list; marked = r.marked; brings = λ h g one m e. r.brings h g (without h one m) m e }
        where
          without : (h : Nodes) → IsIn h (q ∷ others) ⊎ (h ≡ start) → IsIn h failing → IsIn h others ⊎ (h ≡ start)
          without h (inl (inl e)) m =
              let is : is_among q failing ≡ true = subst (λ x. is_among x failing ≡ true) e (among h failing m) in
              let not_same : not (same q start) ≡ false = ap (λ b. b && not (same q start)) (sym is) ∙ t in
              inr (e ∙ same_is q start (not-false (same q start) not_same))
          without h (inl (inr n)) m = inl n
          without h (inr e) m = inr e
      by true t r = of f refl
        where
          among_failing : IsIn q failing
          among_failing = in_list q failing (both_parts (is_among q failing) (not (same q start)) t).0

          size_r : length r.list ≡ length (pads_of others failing start label base).code
          size_r = marked_long r.marked size

          of : (o : Option Bool) → f ≡ o → Padded (one_pad true q start label (pads_of others failing start label base)) base failing (q ∷ others) start f ls
          of None g =
              let d = dead_marked NODE_REGISTERS (minus q start) (I.Jump (target_of label) ∷ (pads_of others failing start label base).code) (pads_of others failing start label base).code (None ∷ r.list) r.list (dead none) in
              record { list = d.0; marked = marked_further d.1 r.marked; brings = λ h x one m e. absurd (let n : ◌≡◌ {A = Option Bool} None (Some x) = sym g ∙ e in cc) }
          of (Some v) g =
              let j = jump_marked label (pads_of others failing start label base).code r.list (marks start v) (stays_there r.marked (begins v g)) in
              let code : List Instr = I.Jump (target_of label) ∷ (pads_of others failing start label base).code in
              let size_q = sized q among_failing in
              let is_start : both q start ≡ start = both_within q start (size_q ∙ sym size_start) (within q among_failing) in
              let freed = free_marked q start v code j.marks (marked_long j.marked size_r) size_q size_start (subst (λ x. Brings j.marks (length code) (marks x v)) (sym is_start) (begins_label size_r j)) in
              let all = marked_further freed.marked j.marked in
              record {
                list = freed.marks;
                marked = marked_further all r.marked;
                brings = λ h x one m e. at h x (same q h) refl one m e (begins_label (marked_long j.marked size_r) freed) (λ o. stays_there all (r.brings h x o m e));
              }
            where
              at : (h : Nodes) (x : Bool) (b : Bool) → same q h ≡ b → IsIn h (q ∷ others) ⊎ (h ≡ start) → IsIn h failing → f ≡ Some x → {ms : List (Option Marks)} → Brings ms (length (release_code (minus q start) (I.Jump (target_of label) ∷ (pads_of others failing start label base).code))) (marks q v)
                  → (IsIn h others ⊎ (h ≡ start) → Brings ms ((pads_of others failing start label base).pad h) (marks h x))
                  → Brings ms (if b then length (release_code (minus q start) (I.Jump (target_of label) ∷ (pads_of others failing start label base).code)) else (pads_of others failing start label base).pad h) (marks h x)
              at h x true s one m e {ms} here rest =
                  let is_q : q ≡ h = same_is q h s in
                  let also : v ≡ x = let n : Some v ≡ Some x = sym g ∙ e in cc in
                  subst (λ z. Brings ms (length (release_code (minus q start) (I.Jump (target_of label) ∷ (pads_of others failing start label base).code))) (marks h z)) also
                  (subst (λ z. Brings ms (length (release_code (minus q start) (I.Jump (target_of label) ∷ (pads_of others failing start label base).code))) (marks z v)) is_q here)
              at h x false s one m e {ms} here rest = rest (otherwise one)
                where
                  otherwise : IsIn h (q ∷ others) ⊎ (h ≡ start) → IsIn h others ⊎ (h ≡ start)
                  otherwise (inl (inl e)) = absurd (let n = ap (λ z. same z h) e in let i = same_itself h in cc)
                  otherwise (inl (inr n)) = inl n
                  otherwise (inr e) = inr e
