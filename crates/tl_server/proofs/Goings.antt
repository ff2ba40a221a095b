-- How a run over the lines of an input proceeds.
use Rattle.std.proofs.Common.{◌≡◌, ◌<◌, ◌+◌, ℕ, List, [], ◌∷◌, ◌++◌, Bool, true, false, take, ap, sym, ◌∙◌, subst, append_assoc, append-nil, refl, length, length-append, arith, inl, inr}
use Rattle.tl_workers.specs.declared.refusal.Refusal.{Refusal}
use Rattle.std.specs.Prelude.{Some, None, Option, IfSome, Result, Ok, Err, ◌==◌, if◌then◌else◌}
use Rattle.std.proofs.lemmas.Bool.Decides.{nat_tests}
use Rattle.std.proofs.lemmas.List.{take_all, length-take}
use Rattle.tl_workers.specs.declared.session.Did.{Did}
use Rattle.tl_server.specs.declared.reader.TheConstants.{HELD}
use Rattle.tl_server.specs.declared.request.TheConstants.{MAX_LINE}
use Rattle.tl_server.specs.declared.reader.Came.TheVariants.{Whole, Rest, End}
use Rattle.tl_server.specs.declared.fault.LineFault.{LineFault}
use Rattle.tl_server.specs.declared.fault.LineFault.TheVariants as fault
use Rattle.tl_server.specs.Requests.{LineValue, Registers, RegistersText, Replaces, Calls, CallsOnce, Batches, Grows, Seals, Closes, is_barred, IsRequest, IsLineFault}
use Rattle.tl_server.specs.Browsers.{is_of_browser, is_first, AreOfClients}
use Rattle.tl_server.specs.Served.{Ways, SealOutcome, Answered, AnswersRequest, AnswersUnless, AnswersLine, EndsLine, IsAnswer, AnsweredAll}
use Rattle.tl_server.proofs.Browsers.{browser_kept, first_is, clients_more}
use Rattle.tl_server.specs.Lines.{with_lfs, HasNoLf, NoLfs, lines_of, onto_first}
use Rattle.tl_server.specs.Devices.{Adds, AddsPart}
use Rattle.tl_server.specs.Sending.{Sending, Sent, SentIf, Writes}
use Rattle.tl_server.specs.Coming.{ReaderValue, held_of, Comes, Breaks}
use Rattle.tl_server.specs.Runs.{Moment}
use Rattle.tl_server.proofs.Sending.{Adds-nil}

pub if_some : {A : Type 0} (o : Option A) (P : A → Type 0) → ((x : A) → o ≡ Some x → P x) → IfSome o P
if_some (Some x) P f = f x refl
if_some None P f = tt

-- ---- lines

not_lf : (b : ℕ) → (b ≡ 10 → ⊥) → (b == 10) ≡ false
not_lf b h = grind (arith, nat_tests)

-- a line feed ends the first line
lines_of-line : (l : List ℕ) (more : List ℕ) → HasNoLf l → lines_of (l ++ 10 ∷ more) ≡ l ∷ lines_of more
lines_of-line [] more h = refl
lines_of-line (b ∷ l) more h =
    ap (λ (t : Bool). if t then [] ∷ lines_of (l ++ 10 ∷ more) else onto_first b (lines_of (l ++ 10 ∷ more))) (not_lf b h.0) ∙ ap (onto_first b) (lines_of-line l more h.1)

-- remaining bytes without a line feed are a line
lines_of-rest : (l : List ℕ) → HasNoLf l → 0 < length l → lines_of l ≡ l ∷ []
lines_of-rest [] h some = absurd (omega arith)
lines_of-rest (b ∷ []) h some = ap (λ (t : Bool). if t then [] ∷ [] else onto_first b []) (not_lf b h.0)
lines_of-rest (b ∷ c ∷ l) h some =
    ap (λ (t : Bool). if t then [] ∷ lines_of (c ∷ l) else onto_first b (lines_of (c ∷ l))) (not_lf b h.0) ∙ ap (onto_first b) (lines_of-rest (c ∷ l) h.1 (omega arith))

lines_of-whole : (ls : List (List ℕ)) (more : List ℕ) → NoLfs ls → lines_of (with_lfs ls ++ more) ≡ ls ++ lines_of more
lines_of-whole [] more h = refl
lines_of-whole (l ∷ ls) more h =
    ap lines_of (append_assoc l (10 ∷ with_lfs ls) more) ∙ lines_of-line l (with_lfs ls ++ more) h.0 ∙ ap (λ xs. l ∷ xs) (lines_of-whole ls more h.1)

-- one more line
with_lfs-snoc : (ls : List (List ℕ)) (l more : List ℕ) → with_lfs ls ++ (l ++ 10 ∷ more) ≡ with_lfs (ls ++ l ∷ []) ++ more
with_lfs-snoc [] l more = sym (append_assoc l (10 ∷ []) more)
with_lfs-snoc (k ∷ ls) l more =
    append_assoc k (10 ∷ with_lfs ls) (l ++ 10 ∷ more) ∙ ap (λ xs. k ++ 10 ∷ xs) (with_lfs-snoc ls l more) ∙ sym (append_assoc k (10 ∷ with_lfs (ls ++ l ∷ [])) more)

NoLfs-snoc : (ls : List (List ℕ)) (l : List ℕ) → NoLfs ls → HasNoLf l → NoLfs (ls ++ l ∷ [])
NoLfs-snoc [] l h k = (k, tt)
NoLfs-snoc (x ∷ ls) l h k = (h.0, NoLfs-snoc ls l h.1 k)

-- ---- a line of which only the beginning was kept

-- it is the whole line, or the line is too long
kept_whole : (n : ℕ) (l : List ℕ) → length (take n l) < n → take n l ≡ l
kept_whole n l short = take_all n l (omega (arith, length-take n l))

held_request : (l : List ℕ) (r : LineValue) → IsRequest (held_of l) r → IsRequest l r
held_request l r q =
    let short : length (take HELD l) < HELD = omega (arith, q.short) in
    let P : List ℕ → Type 0 = λ xs. IsRequest xs r in
    subst P (kept_whole HELD l short) q

long_line : (n m : ℕ) (l : List ℕ) → m < length (take n l) → m < length l
long_line n m l h = omega (arith, length-take n l)

held_fault : (l : List ℕ) (f : LineFault) → IsLineFault (held_of l) f → IsLineFault l f
held_fault l fault.TooLong h = long_line HELD MAX_LINE l h
held_fault l fault.NotUtf8 h =
    let short : length (take HELD l) < HELD = omega (arith, h.0) in
    let P : List ℕ → Type 0 = λ xs. IsLineFault xs fault.NotUtf8 in
    subst P (kept_whole HELD l short) h
held_fault l fault.NotRequest h =
    let short : length (take HELD l) < HELD = omega (arith, h.0) in
    let P : List ℕ → Type 0 = λ xs. IsLineFault xs fault.NotRequest in
    subst P (kept_whole HELD l short) h
held_fault l fault.Memory h = absurd h

held_answer : (ways : Ways) (may_seal : ℕ → Type 0) (l : List ℕ) (g : List Did) (o : List ℕ) → AnswersLine ways may_seal (held_of l) g o → AnswersLine ways may_seal l g o
held_answer ways may_seal l g o (inl refused) = inl refused
held_answer ways may_seal l g o (inr (inl f)) = inr (inl (f.0, held_fault l f.0 f.1, f.2, f.3))
held_answer ways may_seal l g o (inr (inr r)) = inr (inr (r.0, held_request l r.0 r.1, r.2))

held_end : (first : Bool) (l : List ℕ) (o : List ℕ) → EndsLine first (held_of l) o → EndsLine first l o
held_end first l o (inl c) = inl (held_request l Closes c.0, c.1)
held_end first l o (inr b) = inr (sym (browser_kept first l) ∙ b.0, b.1)

-- the answer to the kept part of a line is the line's answer
pub line_answer : (ways : Ways) (may_seal : ℕ → Type 0) (first : Bool) (l kept : List ℕ) (closes : Bool) (g : List Did) (o : List ℕ) → kept ≡ held_of l → IsAnswer ways may_seal first kept closes g o → IsAnswer ways may_seal first l closes g o
line_answer ways may_seal first l kept false g o is a =
    let P : List ℕ → Type 0 = λ xs. IsAnswer ways may_seal first xs false g o in
    let c = subst P is a in
    (sym (browser_kept first l) ∙ c.0, held_answer ways may_seal l g o c.1)
line_answer ways may_seal first l kept true g o is a =
    let P : List ℕ → Type 0 = λ xs. IsAnswer ways may_seal first xs true g o in
    let c = subst P is a in
    (c.0, held_end first l o c.1)

-- ---- answers

Answered-snoc : (ways : Ways) (may_seal : ℕ → Type 0) (ls : List (List ℕ)) (l : List ℕ) (gained : List Did) (out : List ℕ) (g : List Did) (o : List ℕ) → Answered ways may_seal ls gained out → AnswersLine ways may_seal l g o → Answered ways may_seal (ls ++ l ∷ []) (gained ++ g) (out ++ o)
Answered-snoc ways may_seal [] l gained out g o h a =
    (g, [], o, [], ap (λ xs. xs ++ g) h.0 ∙ sym (append-nil g), ap (λ xs. xs ++ o) h.1 ∙ sym (append-nil o), a, (refl, refl))
Answered-snoc ways may_seal (k ∷ ls) l gained out g o h a = (
  h.0,
  h.1 ++ g,
  h.2,
  h.3 ++ o,
  ap (λ xs. xs ++ g) h.4 ∙ append_assoc h.0 h.1 g,
  ap (λ xs. xs ++ o) h.5 ∙ append_assoc h.2 h.3 o,
  h.6,
  Answered-snoc ways may_seal ls l h.1 h.3 g o h.7 a,
)

-- ---- who serves

-- what is gained in two steps is gained together, and what may be sealed later may be sealed before
pub record Laws {V : Type 0} (Gains : V → V → List Did → Type 0) (May : V → ℕ → Type 0) : Type 0 where
  pub none : (a : V) → Gains a a []
  pub more : (a b c : V) (xs ys : List Did) → Gains a b xs → Gains b c ys → Gains a c (xs ++ ys)
  pub on : (a b : V) (xs : List Did) (n : ℕ) → Gains a b xs → May b n → May a n

may_seal_too : (seals : Bool) (may may' : ℕ → Type 0) (answer : Result ℕ Refusal) → ((n : ℕ) → may n → may' n) → SealOutcome seals may answer → SealOutcome seals may' answer
may_seal_too seals may may' (Ok n) h a = h n a
may_seal_too seals may may' (Err e) h a = a

pub may_line : (ways : Ways) (may may' : ℕ → Type 0) (r : LineValue) (g : List Did) (o : List ℕ) → ((n : ℕ) → may n → may' n) → AnswersRequest ways may r g o → AnswersRequest ways may' r g o
may_line ways may may' (Registers name text) g o h a = a
may_line ways may may' (RegistersText text) g o h a = a
may_line ways may may' (Calls name args) g o h a = a
may_line ways may may' (CallsOnce name args key) g o h a = a
may_line ways may may' (Batches calls workers) g o h a = a
may_line ways may may' (Replaces text) g o h a = a
may_line ways may may' (Grows parents) g o h a = a
may_line ways may may' Seals g o h a = (a.0, (a.1.0, may_seal_too ways.seals may may' a.1.0 h a.1.1, a.1.2))
may_line ways may may' Closes g o h a = a

may_unless : (barred : Bool) (ways : Ways) (may may' : ℕ → Type 0) (r : LineValue) (g : List Did) (o : List ℕ) → ((n : ℕ) → may n → may' n) → AnswersUnless barred ways may r g o → AnswersUnless barred ways may' r g o
may_unless true ways may may' r g o h a = a
may_unless false ways may may' r g o h a = may_line ways may may' r g o h a

may_answers : (ways : Ways) (may may' : ℕ → Type 0) (l : List ℕ) (g : List Did) (o : List ℕ) → ((n : ℕ) → may n → may' n) → AnswersLine ways may l g o → AnswersLine ways may' l g o
may_answers ways may may' l g o h (inl refused) = inl refused
may_answers ways may may' l g o h (inr (inl fault)) = inr (inl fault)
may_answers ways may may' l g o h (inr (inr a)) = inr (inr (a.0, a.1, may_unless (is_barred ways.frozen a.0) ways may may' a.0 g o h a.2))

may_answer : (ways : Ways) (may may' : ℕ → Type 0) (first : Bool) (l : List ℕ) (closes : Bool) (g : List Did) (o : List ℕ) → ((n : ℕ) → may n → may' n) → IsAnswer ways may first l closes g o → IsAnswer ways may' first l closes g o
may_answer ways may may' first l true g o h a = a
may_answer ways may may' first l false g o h a = (a.0, may_answers ways may may' l g o h a.1)

abbrev pub moment : {V : Type 0} → Option (List ℕ) → V → Option (List ℕ) → Moment V
moment input visitor output = record { input = input; visitor = visitor; output = output }

-- the answer to one line
pub record AnswersOne {V : Type 0} (Gains : V → V → List Did → Type 0) (ways : Ways) (May : V → ℕ → Type 0) (old new : V) (s s' : Sending) (first : Bool) (l : List ℕ) (closes : Bool) : Type 0 where
  pub gained : List Did
  pub out : List ℕ
  pub gains : Gains old new gained
  pub writes : Writes s s' out
  pub answer : IsAnswer ways (May old) first l closes gained out

-- if nothing is kept and no write has failed, the sink has received everything
all_sent : (failed : Bool) (base : Option (List ℕ)) (total : List ℕ) (output : Option (List ℕ)) (kept : List ℕ) → failed ≡ false → kept ≡ [] → SentIf failed base total output kept → Adds base total output
all_sent true base total output kept fresh none h = absurd cc
all_sent false base total output kept fresh none h =
    let P : List ℕ → Type 0 = λ xs. Adds base xs output in
    subst P (sym (h.1 ∙ ap (λ xs. h.0 ++ xs) none ∙ append-nil h.0)) h.2

-- if a write has failed, the sink has received a prefix
part_sent : (failed : Bool) (base : Option (List ℕ)) (total : List ℕ) (output : Option (List ℕ)) (kept : List ℕ) → failed ≡ true → SentIf failed base total output kept → AddsPart base total output
part_sent true base total output kept fails h = h
part_sent false base total output kept fails h = absurd cc

-- ---- the run

-- n lines were read completely and answered, and none of them closed the connection. After them come the bytes left in
-- the piece, then those not yet read.
pub record GoesOn {V : Type 0} (Gains : V → V → List Did → Type 0) (ways : Ways) (May : V → ℕ → Type 0) (m : Moment V) (input : Option (List ℕ)) (visitor : V) (s : Sending) (left : List ℕ) (n : ℕ) (bytes : List ℕ) : Type 0 where
  pub ls : List (List ℕ)
  pub unread : List ℕ
  pub gained : List Did
  pub out : List ℕ
  pub input_is : input ≡ Some unread
  pub whole : bytes ≡ with_lfs ls ++ (left ++ unread)
  pub each : NoLfs ls
  pub count : n ≡ length ls
  pub gains : Gains m.visitor visitor gained
  pub sent : Sent m.output out s
  pub clients : AreOfClients ls
  pub answered : Answered ways (May m.visitor) ls gained out

-- nothing has been read
pub begins : {V : Type 0} {Gains : V → V → List Did → Type 0} {ways : Ways} {May : V → ℕ → Type 0} → Laws Gains May → (m : Moment V) (left bytes : List ℕ) (s : Sending) → m.input ≡ Some bytes → left ≡ [] → s.output ≡ m.output → s.kept ≡ [] → s.failed ≡ false → GoesOn Gains ways May m m.input m.visitor s left 0 bytes
begins x m left bytes s is empty output_is none fresh =
    let P : Option (List ℕ) → Type 0 = λ o. Adds m.output [] o in
    let Q : Bool → Type 0 = λ b. SentIf b m.output [] s.output s.kept in
    record {
      ls = [];
      unread = bytes;
      gained = [];
      out = [];
      input_is = is;
      whole = ap (λ ys. ys ++ bytes) (sym empty);
      each = tt;
      count = refl;
      gains = x.none m.visitor;
      sent = subst Q (sym fresh) ([], sym none, subst P (sym output_is) (Adds-nil m.output));
      clients = tt;
      answered = (refl, refl);
    }

-- nothing more was handed over
pub settles : {V : Type 0} {Gains : V → V → List Did → Type 0} {ways : Ways} {May : V → ℕ → Type 0} (m : Moment V) (input : Option (List ℕ)) (visitor : V) (s s' : Sending) (left : List ℕ) (n : ℕ) (bytes : List ℕ) → GoesOn Gains ways May m input visitor s left n bytes → Writes s s' [] → GoesOn Gains ways May m input visitor s' left n bytes
settles m input visitor s s' left n bytes g w =
    let P : List ℕ → Type 0 = λ xs. Sent m.output xs s' in
    record {
      ls = g.ls;
      unread = g.unread;
      gained = g.gained;
      out = g.out;
      input_is = g.input_is;
      whole = g.whole;
      each = g.each;
      count = g.count;
      gains = g.gains;
      sent = subst P (append-nil g.out) (w.sends m.output g.out g.sent);
      clients = g.clients;
      answered = g.answered;
    }

-- a line was read completely and answered
pub goes_on : {V : Type 0} {Gains : V → V → List Did → Type 0} {ways : Ways} {May : V → ℕ → Type 0} → Laws Gains May → (m : Moment V) (input input' : Option (List ℕ)) (old new : V) (s s' : Sending) (left : List ℕ) (r : ReaderValue) (n : ℕ) (bytes : List ℕ) → (g : GoesOn Gains ways May m input old s left n bytes)
    → Comes (left ++ g.unread) Whole r input' → AnswersOne Gains ways May old new s s' (n == 0) r.held false → (more : ℕ) → more ≡ n + 1 → GoesOn Gains ways May m input' new s' r.left more bytes
goes_on {V} {Gains} {ways} {May} x m input input' old new s s' left r n bytes g w one more is =
    let a = may_answer ways (May old) (May m.visitor) (n == 0) w.0 false one.gained one.out (λ k. x.on m.visitor old g.gained k g.gains) (line_answer ways (May old) (n == 0) w.0 r.held false one.gained one.out w.3 one.answer) in
    record {
      ls = g.ls ++ w.0 ∷ [];
      unread = w.1;
      gained = g.gained ++ one.gained;
      out = g.out ++ one.out;
      input_is = w.4;
      whole = g.whole ∙ ap (λ ys. with_lfs g.ls ++ ys) w.5 ∙ with_lfs-snoc g.ls w.0 (r.left ++ w.1);
      each = NoLfs-snoc g.ls w.0 g.each w.2;
      count = omega (arith, g.count, length-append g.ls (w.0 ∷ []), is);
      gains = x.more m.visitor old new g.gained one.gained g.gains one.gains;
      sent = one.writes.sends m.output g.out g.sent;
      clients = clients_more n g.ls w.0 g.count g.clients a.0;
      answered = Answered-snoc ways (May m.visitor) g.ls w.0 g.gained g.out one.gained one.out g.answered a.1;
    }

-- the lines of the input, where this one is next
lines_whole : {V : Type 0} {Gains : V → V → List Did → Type 0} {ways : Ways} {May : V → ℕ → Type 0} (m : Moment V) (input input' : Option (List ℕ)) (old : V) (s : Sending) (left : List ℕ) (r : ReaderValue) (n : ℕ) (bytes : List ℕ) → (g : GoesOn Gains ways May m input old s left n bytes) → (w : Comes (left ++ g.unread) Whole r input')
    → lines_of bytes ≡ g.ls ++ w.0 ∷ lines_of (r.left ++ w.1)
lines_whole m input input' old s left r n bytes g w =
    ap lines_of g.whole ∙ lines_of-whole g.ls (left ++ g.unread) g.each ∙ ap (λ ys. g.ls ++ lines_of ys) w.5 ∙ ap (λ ys. g.ls ++ ys) (lines_of-line w.0 (r.left ++ w.1) w.2)

lines_rest : {V : Type 0} {Gains : V → V → List Did → Type 0} {ways : Ways} {May : V → ℕ → Type 0} (m : Moment V) (input input' : Option (List ℕ)) (old : V) (s : Sending) (left : List ℕ) (r : ReaderValue) (n : ℕ) (bytes : List ℕ) → (g : GoesOn Gains ways May m input old s left n bytes) → Comes (left ++ g.unread) Rest r input'
    → lines_of bytes ≡ g.ls ++ (left ++ g.unread) ∷ []
lines_rest m input input' old s left r n bytes g w =
    ap lines_of g.whole ∙ lines_of-whole g.ls (left ++ g.unread) g.each ∙ ap (λ ys. g.ls ++ ys) (lines_of-rest (left ++ g.unread) w.0 w.1)

-- the last line was answered
finishes : (ways : Ways) (may : ℕ → Type 0) (ls : List (List ℕ)) (l : List ℕ) (after : List (List ℕ)) (lines : List (List ℕ)) (closes : Bool) (n more : ℕ) (gained g : List Did) (out o : List ℕ) → lines ≡ ls ++ l ∷ after → n ≡ length ls → more ≡ n + 1
    → AreOfClients ls → Answered ways may ls gained out → IsAnswer ways may (n == 0) l closes g o → (closes ≡ false → after ≡ []) → AnsweredAll ways may lines more (gained ++ g) (out ++ o)
finishes ways may ls l after lines false n more gained g out o is count counts clients answered a last =
    let all : lines ≡ ls ++ l ∷ [] = is ∙ ap (λ xs. ls ++ l ∷ xs) (last refl) in
    let P : List (List ℕ) → Type 0 = λ xs. AreOfClients xs × Answered ways may xs (gained ++ g) (out ++ o) in
    let both = subst P (sym all) (clients_more n ls l count clients a.0, Answered-snoc ways may ls l gained out g o answered a.1) in
    inl (omega (arith, count, counts, ap length all, length-append ls (l ∷ [])), both.0, both.1)
finishes ways may ls l after lines true n more gained g out o is count counts clients answered a last =
    let P : List Did → Type 0 = λ xs. Answered ways may ls xs out in
    let Q : Bool → Type 0 = λ first. EndsLine first l o in
    inr (record {
      before = ls;
      last = l;
      after = after;
      answers = out;
      ending = o;
      lines_are = is;
      count = counts ∙ ap (λ k. k + 1) count;
      clients = clients;
      answered = subst P (sym (ap (λ xs. gained ++ xs) a.0 ∙ append-nil gained)) answered;
      ends = subst Q (first_is n ls count) a.1;
      out_is = refl;
    })

pub one_of : {V : Type 0} (Gains : V → V → List Did → Type 0) (ways : Ways) (May : V → ℕ → Type 0) (old new : V) (s s' : Sending) (first : Bool) (line held : List ℕ) (closes closes' : Bool)
    → ((gained : List Did) × (out : List ℕ) × Gains old new gained × Writes s s' out × IsAnswer ways (May old) first line closes gained out) → line ≡ held → closes ≡ closes' → AnswersOne Gains ways May old new s s' first held closes'
one_of Gains ways May old new s s' first line held closes closes' a is same =
    let P : List ℕ → Type 0 = λ xs. IsAnswer ways (May old) first xs closes a.0 a.1 in
    let Q : Bool → Type 0 = λ b. IsAnswer ways (May old) first held b a.0 a.1 in
    record { gained = a.0; out = a.1; gains = a.2; writes = a.3; answer = subst Q same (subst P is a.4) }

-- ---- how it ends

-- a write failed before the next line
pub stops_before : {V : Type 0} {Gains : V → V → List Did → Type 0} {ways : Ways} {May : V → ℕ → Type 0} (m : Moment V) (input : Option (List ℕ)) (visitor : V) (s : Sending) (left : List ℕ) (n : ℕ) (bytes : List ℕ) → GoesOn Gains ways May m input visitor s left n bytes → s.failed ≡ true
    → (ls : List (List ℕ)) × (more : List (List ℕ)) × (k : ℕ) × (lines_of bytes ≡ ls ++ more)
    × ((gained : List Did) × (out : List ℕ) × Gains m.visitor visitor gained × AddsPart m.output out s.output × AnsweredAll ways (May m.visitor) ls k gained out)
stops_before m input visitor s left n bytes g fails = (
  g.ls,
  lines_of (left ++ g.unread),
  n,
  ap lines_of g.whole ∙ lines_of-whole g.ls (left ++ g.unread) g.each,
  (g.gained, g.out, g.gains, part_sent s.failed m.output g.out s.output s.kept fails g.sent, inl (g.count, g.clients, g.answered)),
)

-- a read failed
pub breaks_off : {V : Type 0} {Gains : V → V → List Did → Type 0} {ways : Ways} {May : V → ℕ → Type 0} (m : Moment V) (input input' : Option (List ℕ)) (visitor : V) (s : Sending) (left : List ℕ) (n : ℕ) (bytes : List ℕ) → (g : GoesOn Gains ways May m input visitor s left n bytes) → Breaks (left ++ g.unread) input'
    → s.failed ≡ false → s.kept ≡ []
    → (ls : List (List ℕ)) × (rest : List ℕ) × (left' : List ℕ) × (input' ≡ Some left') × (bytes ≡ (with_lfs ls ++ rest) ++ left') × NoLfs ls × AreOfClients ls × HasNoLf rest
    × ((gained : List Did) × (out : List ℕ) × Gains m.visitor visitor gained × Adds m.output out s.output × Answered ways (May m.visitor) ls gained out)
breaks_off m input input' visitor s left n bytes g b fresh none = (
  g.ls,
  b.0,
  b.1,
  b.3,
  g.whole ∙ ap (λ ys. with_lfs g.ls ++ ys) b.4 ∙ sym (append_assoc (with_lfs g.ls) b.0 b.1),
  g.each,
  g.clients,
  b.2,
  (g.gained, g.out, g.gains, all_sent s.failed m.output g.out s.output s.kept fresh none g.sent, g.answered),
)

-- the input has no more lines
pub ends : {V : Type 0} {Gains : V → V → List Did → Type 0} {ways : Ways} {May : V → ℕ → Type 0} (m : Moment V) (input input' : Option (List ℕ)) (visitor : V) (s : Sending) (left : List ℕ) (r : ReaderValue) (n : ℕ) (bytes : List ℕ) → (g : GoesOn Gains ways May m input visitor s left n bytes) → Comes (left ++ g.unread) End r input'
    → s.failed ≡ false → s.kept ≡ []
    → (gained : List Did) × (out : List ℕ) × Gains m.visitor visitor gained × Adds m.output out s.output × AnsweredAll ways (May m.visitor) (lines_of bytes) n gained out
ends {V} {Gains} {ways} {May} m input input' visitor s left r n bytes g w fresh none =
    let lines : lines_of bytes ≡ g.ls = ap lines_of g.whole ∙ lines_of-whole g.ls (left ++ g.unread) g.each ∙ ap (λ ys. g.ls ++ lines_of ys) w ∙ append-nil g.ls in
    let P : List (List ℕ) → Type 0 = λ xs. AreOfClients xs × Answered ways (May m.visitor) xs g.gained g.out in
    let both = subst P (sym lines) (g.clients, g.answered) in
    (g.gained, g.out, g.gains, all_sent s.failed m.output g.out s.output s.kept fresh none g.sent, inl (g.count ∙ ap length (sym lines), both.0, both.1))

-- the last line was answered, and the gathered output was handed over
pub record Finishes {V : Type 0} (Gains : V → V → List Did → Type 0) (ways : Ways) (May : V → ℕ → Type 0) (m : Moment V) (visitor : V) (s : Sending) (more : ℕ) (bytes : List ℕ) : Type 0 where
  pub gained : List Did
  pub out : List ℕ
  pub gains : Gains m.visitor visitor gained
  pub sent : Sent m.output out s
  pub answered : AnsweredAll ways (May m.visitor) (lines_of bytes) more gained out

finished : {V : Type 0} {Gains : V → V → List Did → Type 0} {ways : Ways} {May : V → ℕ → Type 0} → Laws Gains May → (m : Moment V) (input : Option (List ℕ)) (old new : V) (s s' s'' : Sending) (left : List ℕ) (n : ℕ) (bytes held l : List ℕ) (after : List (List ℕ)) (closes : Bool) → (g : GoesOn Gains ways May m input old s left n bytes)
    → lines_of bytes ≡ g.ls ++ l ∷ after → held ≡ held_of l → AnswersOne Gains ways May old new s s' (n == 0) held closes → (closes ≡ false → after ≡ []) → Writes s' s'' [] → (more : ℕ) → more ≡ n + 1 → Finishes Gains ways May m new s'' more bytes
finished {V} {Gains} {ways} {May} x m input old new s s' s'' left n bytes held l after closes g lines is one last w more counts =
    let P : List ℕ → Type 0 = λ xs. Sent m.output xs s'' in
    record {
      gained = g.gained ++ one.gained;
      out = g.out ++ one.out;
      gains = x.more m.visitor old new g.gained one.gained g.gains one.gains;
      sent = subst P (append-nil (g.out ++ one.out)) (w.sends m.output (g.out ++ one.out) (one.writes.sends m.output g.out g.sent));
      answered = finishes ways (May m.visitor) g.ls l after (lines_of bytes) closes n more g.gained one.gained g.out one.out lines g.count counts g.clients g.answered (may_answer ways (May old) (May m.visitor) (n == 0) l closes one.gained one.out (λ k. x.on m.visitor old g.gained k g.gains) (line_answer ways (May old) (n == 0) l held closes one.gained one.out is one.answer)) last;
    }

-- a line closed the connection
pub closes_at : {V : Type 0} {Gains : V → V → List Did → Type 0} {ways : Ways} {May : V → ℕ → Type 0} → Laws Gains May → (m : Moment V) (input input' : Option (List ℕ)) (old new : V) (s s' s'' : Sending) (left : List ℕ) (r : ReaderValue) (n : ℕ) (bytes : List ℕ) → (g : GoesOn Gains ways May m input old s left n bytes)
    → Comes (left ++ g.unread) Whole r input' → AnswersOne Gains ways May old new s s' (n == 0) r.held true → Writes s' s'' [] → (more : ℕ) → more ≡ n + 1 → Finishes Gains ways May m new s'' more bytes
closes_at x m input input' old new s s' s'' left r n bytes g w one flushed more counts =
    let last : true ≡ false → lines_of (r.left ++ w.1) ≡ [] = λ e. absurd cc in
    finished x m input old new s s' s'' left n bytes r.held w.0 (lines_of (r.left ++ w.1)) true g (lines_whole m input input' old s left r n bytes g w) w.3 one last flushed more counts

-- the remaining bytes were the last line
pub rest_last : {V : Type 0} {Gains : V → V → List Did → Type 0} {ways : Ways} {May : V → ℕ → Type 0} → Laws Gains May → (m : Moment V) (input input' : Option (List ℕ)) (old new : V) (s s' s'' : Sending) (left : List ℕ) (r : ReaderValue) (n : ℕ) (bytes : List ℕ) (closes : Bool) → (g : GoesOn Gains ways May m input old s left n bytes)
    → Comes (left ++ g.unread) Rest r input' → AnswersOne Gains ways May old new s s' (n == 0) r.held closes → Writes s' s'' [] → (more : ℕ) → more ≡ n + 1 → Finishes Gains ways May m new s'' more bytes
rest_last x m input input' old new s s' s'' left r n bytes closes g w one flushed more counts =
    finished x m input old new s s' s'' left n bytes r.held (left ++ g.unread) [] closes g (lines_rest m input input' old s left r n bytes g w) w.2 one (λ _. refl) flushed more counts

pub finished_all : {V : Type 0} {Gains : V → V → List Did → Type 0} {ways : Ways} {May : V → ℕ → Type 0} (m : Moment V) (visitor : V) (s : Sending) (more : ℕ) (bytes : List ℕ) → Finishes Gains ways May m visitor s more bytes → s.failed ≡ false → s.kept ≡ []
    → (gained : List Did) × (out : List ℕ) × Gains m.visitor visitor gained × Adds m.output out s.output × AnsweredAll ways (May m.visitor) (lines_of bytes) more gained out
finished_all m visitor s more bytes f fresh none = (f.gained, f.out, f.gains, all_sent s.failed m.output f.out s.output s.kept fresh none f.sent, f.answered)

pub finished_part : {V : Type 0} {Gains : V → V → List Did → Type 0} {ways : Ways} {May : V → ℕ → Type 0} (m : Moment V) (visitor : V) (s : Sending) (more : ℕ) (bytes : List ℕ) → Finishes Gains ways May m visitor s more bytes → s.failed ≡ true
    → (ls : List (List ℕ)) × (rest : List (List ℕ)) × (k : ℕ) × (lines_of bytes ≡ ls ++ rest)
    × ((gained : List Did) × (out : List ℕ) × Gains m.visitor visitor gained × AddsPart m.output out s.output × AnsweredAll ways (May m.visitor) ls k gained out)
finished_part m visitor s more bytes f fails =
    (lines_of bytes, [], more, sym (append-nil (lines_of bytes)), (f.gained, f.out, f.gains, part_sent s.failed m.output f.out s.output s.kept fails f.sent, f.answered))

-- if no more bytes came, the piece had no line feed
pub none_left : (left unread : List ℕ) → left ++ unread ≡ [] → HasNoLf left
none_left [] unread e = tt
none_left (x ∷ left) unread e = absurd cc
