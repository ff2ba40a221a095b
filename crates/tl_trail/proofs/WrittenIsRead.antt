-- The text written for a trail is read as that trail.
use Rattle.std.proofs.Common.{◌≡◌, ℕ, zero, suc, nat_lt, inl, inr, ◌+◌, ◌<◌, ◌≤◌, ◌^◌, ℤ, pos, List, [], ◌∷◌, ◌++◌, codes, length, get_or, map, reverse, position, bytes_eq, Bool, true, false, Option, Some, None, option_and_then, Ok, Err, refl, sym, ap, ◌∙◌, subst, arith, if◌then◌else◌}
use Rattle.std.specs.Prelude.{All, FitsSigned, IfSome}
use Rattle.std.specs.Int.{w64}
use Rattle.std.proofs.lemmas.Bool.{eq-eqb, lt-ltb, le-leb, cases_Bool}
use Rattle.std.proofs.lemmas.List.{append-nil, append_assoc, length-append, length-map, length-reverse, reverse-reverse}
use Rattle.std.proofs.lemmas.Option.{none-some}
use Rattle.std.specs.List.{position_or_len}
use Rattle.serde_json.specs.Data.{Data, string, object, member, no_members, depth}
use Rattle.serde_json.specs.Read.{read}
use Rattle.serde_json.specs.View.{items_of}
use Rattle.serde_json.specs.Written.{has_float}
use Rattle.tl_tree.specs.declared.record.Width.TheVariants.{Wide}
use Rattle.tl_history.specs.declared.history.TheConstants.{MAX_CALLS}
use Rattle.tl_tree.specs.declared.shape.TheConstants.{MAX_NODES}
use Rattle.tl_tree.specs.Records.{Records}
use Rattle.tl_tree.specs.Trees.{TreeValue, IsRecord}
use Rattle.tl_tree.specs.Reading.{each_item, integer_of, tree_from, form_at as tree_form_at}
use Rattle.tl_tree.specs.Writing.{integers_data, records_data, tree_data}
use Rattle.tl_tree.proofs.RoundTrip.{integer_back, integers_back as integers_same, record_back, records_back as records_same}
use Rattle.tl_tree.proofs.Texts.{integers_whole, whole_items, integers_shallow, shallow_items}
use Rattle.tl_asm.specs.Listing.{listing}
use Rattle.tl_tree_locking.specs.declared.event.Event.{Event}
use Rattle.tl_tree_locking.specs.declared.event.Event.TheVariants.{Admit, Lock, Free, Done}
use Rattle.tl_tree_locking.specs.History.{caller}
use Rattle.tl_tree_locking.specs.Nodes.{IsOfNodes}
use Rattle.tl_tree_locking.proofs.Pasts.{All-reverse}
use Rattle.tl_asm.proofs.StatementLists.{same_bytes}
use Rattle.tl_asm.proofs.CanonicalText.{canonical}
use Rattle.tl_procedures.proofs.Naming.{free_number}
use Rattle.tl_trail.specs.declared.fault.TrailFault.TheVariants.{WrongArgs, TooManyCalls}
use Rattle.tl_procedures.specs.Names.{Named, number_of, AreFreeAfter, no_procedure}
use Rattle.tl_trail.specs.Trails.{CallValue, TrailValue, IsCallOf}
use Rattle.tl_json.specs.declared.event.RawEvent.{RawEvent}
use Rattle.tl_json.specs.declared.event.RawEvent.TheVariants.{Admitted, Locked, Freed, Ended}
use Rattle.tl_json.specs.Registering.{TakenUp}
use Rattle.tl_trail.specs.Reading.{CallForm, TrailForm, call_of, form_in, form_of_parts, parts_of, called, and_calls, trail_of_calls, trail_of_events, call_as, each_call, calls_as, event_as, events_as, trail_of_form, form_of_data, IsFound, IsTrailText}
use Rattle.tl_json.specs.Events.{event_of}
use Rattle.tl_json.specs.Procedures.{procedure_of}
use Rattle.tl_json.specs.Replies.{reply_of}
use Rattle.tl_json.specs.Lists.{list_data, natural}
use Rattle.tl_json.specs.Replies.{reply_data}
use Rattle.tl_trail.specs.Writing.{call_data, trail_data, trail_text, FitsText, IsWritable}
use Rattle.tl_trail.specs.ReadsBack.{IsReadBack}
use Rattle.tl_trail.proofs.ReadsBack.{text_read, natural_back, string_back, no_items_back, item_back, array_back, list_back, integers_back}
use Rattle.tl_json.specs.Events.{event_data, HasRecord}
use Rattle.tl_json.specs.Procedures.{procedure_data, AreAccepted}

-- ---- no float, and not deep

reply_whole : (reply : Option (List ℤ)) → has_float (reply_data reply) ≡ false
reply_whole None = refl
reply_whole (Some values) = integers_whole values

call_whole : (procedures : List Named) (k : CallValue) → has_float (call_data procedures k) ≡ false
call_whole procedures k = rw (integers_whole k.args, reply_whole k.reply) refl

pub calls_whole : (procedures : List Named) (calls : List CallValue) → has_float (list_data (map (call_data procedures) calls)) ≡ false
calls_whole procedures calls = whole_items (call_data procedures) (call_whole procedures) calls

pub procedures_whole : (procedures : List Named) → has_float (list_data (map procedure_data procedures)) ≡ false
procedures_whole procedures = whole_items procedure_data (λ p. refl) procedures

reply_shallow : (reply : Option (List ℤ)) → depth (reply_data reply) ≤ 1
reply_shallow None = omega arith
reply_shallow (Some values) = integers_shallow values

call_shallow : (procedures : List Named) (k : CallValue) → depth (call_data procedures k) ≤ 2
call_shallow procedures k = omega (arith, integers_shallow k.args, reply_shallow k.reply)

event_shallow : (e : Event) → depth (event_data e) ≤ 2
event_shallow (Admit c) = omega arith
event_shallow (Lock x c found) = omega (arith, integers_shallow found)
event_shallow (Free x c left) = omega (arith, integers_shallow left)
event_shallow (Done c) = omega arith

procedure_shallow : (p : Named) → depth (procedure_data p) ≤ 2
procedure_shallow p = omega arith

tree_flat : (tree : TreeValue) → depth (tree_data tree) ≤ 3
tree_flat tree = omega (arith, integers_shallow (map pos tree.parents), shallow_items integers_data 1 integers_shallow tree.records)

pub calls_shallow : (procedures : List Named) (calls : List CallValue) → depth (list_data (map (call_data procedures) calls)) ≤ 3
calls_shallow procedures calls = omega (arith, shallow_items (call_data procedures) 2 (call_shallow procedures) calls)

pub procedures_shallow : (procedures : List Named) → depth (list_data (map procedure_data procedures)) ≤ 3
procedures_shallow procedures = omega (arith, shallow_items procedure_data 2 procedure_shallow procedures)

pub trail_flat : (t : TrailValue) → depth (trail_data t) ≤ 4
trail_flat t =
    omega (
      arith,
      calls_shallow t.procedures t.calls,
      shallow_items integers_data 1 integers_shallow t.ends,
      shallow_items event_data 2 event_shallow (reverse t.past),
      procedures_shallow t.procedures,
      tree_flat (record { parents = t.parents; records = t.opening }),
    )

-- ---- the form

abbrev pub call_form : List Named → CallValue → CallForm
call_form procedures k = record { name = (get_or procedures k.procedure no_procedure).name; args = k.args; reply = k.reply }

abbrev pub event_form : Event → RawEvent
event_form (Admit c) = Admitted (pos c)
event_form (Lock x c found) = Locked (pos c) (pos x) found
event_form (Free x c left) = Freed (pos c) (pos x) left
event_form (Done c) = Ended (pos c)

abbrev pub procedure_form : Named → List ℕ × List ℕ
procedure_form p = (p.name, listing p.code)

-- a list whose elements are read
each_read : {A B : Type 0} (f : Data → Option B) (g : A → Data) (h : A → B) (P : A → Type 0) → ((x : A) → P x → f (g x) ≡ Some (h x)) → (xs : List A) → All P xs
    → each_item f (items_of (map g xs)) ≡ Some (map h xs)
each_read f g h P back [] all = refl
each_read f g h P back (x ∷ xs) all =
    let first = back x (all 0 x (omega arith)) in
    let rest = each_read f g h P back xs (λ k d less. all (suc k) d (omega arith)) in
    rw (first, rest) refl

natural_read : (n : ℕ) → n < 2 ^ 32 → integer_of (natural n) ≡ Some (pos n)
natural_read n less = let fits : n < 2 ^ 63 = omega arith in integer_back (pos n) (record { sfits = fits })

reply_read : (reply : Option (List ℤ)) → IfSome reply (λ values. All (FitsSigned w64) values) → IfSome reply (λ values. length values ≤ 32) → reply_of (reply_data reply) ≡ Some reply
reply_read None fit few = refl
reply_read (Some values) fit few = rw (integers_same values fit, le-leb (length values) 32 few) refl

call_read : (procedures : List Named) (k : CallValue) → FitsText k → call_of (call_data procedures k) ≡ Some (call_form procedures k)
call_read procedures k told = rw (integers_same k.args told.args, reply_read k.reply told.reply told.few) refl

-- the event's call and node exist, and its record has the right width
record IsInside (calls nodes : ℕ) (e : Event) : Type 0 where
  pub own : HasRecord e
  pub node : IsOfNodes nodes e
  pub call : caller e < calls

module _ (calls nodes : ℕ) (few : calls ≤ MAX_CALLS) (small : nodes ≤ MAX_NODES) where
  event_read : (e : Event) → IsInside calls nodes e → event_of Wide (event_data e) ≡ Some (event_form e)
  event_read (Admit c) h = rw (natural_read c (omega (arith, h.call))) refl
  event_read (Lock x c found) h = rw (natural_read c (omega (arith, h.call)), natural_read x (omega (arith, h.node)), record_back found h.own) refl
  event_read (Free x c left) h = rw (natural_read c (omega (arith, h.call)), natural_read x (omega (arith, h.node)), record_back left h.own) refl
  event_read (Done c) h = rw (natural_read c (omega (arith, h.call))) refl

  event_again : (e : Event) → IsInside calls nodes e → event_as calls nodes (event_form e) ≡ Some e
  event_again (Admit c) h = rw (lt-ltb c calls h.call) refl
  event_again (Lock x c found) h = rw (lt-ltb c calls h.call, lt-ltb x nodes h.node) refl
  event_again (Free x c left) h = rw (lt-ltb c calls h.call, lt-ltb x nodes h.node) refl
  event_again (Done c) h = rw (lt-ltb c calls h.call) refl

  events_again : (es : List Event) → All (IsInside calls nodes) es → events_as calls nodes (map event_form es) ≡ Some es
  events_again [] h = refl
  events_again (e ∷ es) h =
      let first = event_again e (h 0 e (omega arith)) in
      let rest = events_again es (λ k d less. h (suc k) d (omega arith)) in
      rw (first, rest) refl

-- ---- procedures

taken_again : (before ps : List Named) → AreFreeAfter before ps → AreAccepted ps → TakenUp before (map procedure_form ps) (before ++ ps)
taken_again before [] free accepted = append-nil before
taken_again before (p ∷ ps) free accepted =
    let good = accepted 0 p (omega arith) in (
      p.code,
      record { text = record { written = canonical p.code good.0; accepted = good.1 }; free = free.0 },
      subst (TakenUp (before ++ p ∷ []) (map procedure_form ps)) (append_assoc before (p ∷ []) ps)
          (taken_again (before ++ p ∷ []) ps free.1 (λ k d less. accepted (suc k) d (omega arith))),
    )

module _ (test : Named → Bool) where
  -- no earlier element passes the test
  first_place : (before : List Named) (p : Named) (rest : List Named) → (position_or_len test before < length before → ⊥) → test p ≡ true
      → position_or_len test (before ++ p ∷ rest) ≡ length before
  first_place [] p rest none h = rw h refl
  first_place (q ∷ before) p rest none h = elim (cases_Bool (test q)) [
    | inl passes ↦ absurd (none (rw passes (omega arith)))
    | inr fails ↦ let more = first_place before p rest (λ less. none (rw fails (omega (arith, less)))) h in rw fails (omega (arith, more))
  ]

  none_before : (before : List Named) → position test before ≡ None → position_or_len test before < length before → ⊥
  none_before before none less =
      let below = lt-ltb (position_or_len test before) (length before) less in
      none-some _ (sym none ∙ ap (λ b. if b then Some (position_or_len test before) else None) below)

number_again : (before ps : List Named) → AreFreeAfter before ps → (i : ℕ) → i < length ps
    → number_of (before ++ ps) (get_or ps i no_procedure).name ≡ Some (length before + i)
number_again before [] free i less = absurd (omega arith)
number_again before (p ∷ ps) free zero less =
    let none = none_before (λ q. bytes_eq p.name q.name) before (free_number before p.name free.0).0 in
    let place = first_place (λ q. bytes_eq p.name q.name) before p ps none (same_bytes p.name p.name refl) in
    let long = length-append before (p ∷ ps) in
    let inside : length before < length (before ++ p ∷ ps) = omega arith in
    let at : length before ≡ length before + 0 = omega arith in
    ap (λ n. if nat_lt n (length (before ++ p ∷ ps)) then Some n else None) place
    ∙ ap (λ b. if b then Some (length before) else None) (lt-ltb (length before) (length (before ++ p ∷ ps)) inside)
    ∙ ap Some at
number_again before (p ∷ ps) free (suc i) less =
    let more = number_again (before ++ p ∷ []) ps free.1 i (omega arith) in
    let long = length-append before (p ∷ []) in
    let at : length (before ++ p ∷ []) + i ≡ length before + suc i = omega arith in
    ap (λ all. number_of all (get_or ps i no_procedure).name) (sym (append_assoc before (p ∷ []) ps)) ∙ more ∙ ap Some at

-- ---- calls

module _ (procedures : List Named) (free : AreFreeAfter [] procedures) where
  call_again : (k : CallValue) → IsCallOf procedures k → call_as procedures (call_form procedures k) ≡ Ok k
  call_again k h =
      let number = number_again [] procedures free k.procedure h.known in
      let same : 0 + k.procedure ≡ k.procedure = omega arith in
      ap (called procedures (call_form procedures k)) (number ∙ ap Some same)
      ∙ ap (λ b. if b then Ok k else Err WrongArgs) (eq-eqb (length k.args) (get_or procedures k.procedure no_procedure).code.arity h.arity)

  calls_again : (ks : List CallValue) → All (IsCallOf procedures) ks → each_call procedures (map (call_form procedures) ks) ≡ Ok ks
  calls_again [] h = refl
  calls_again (k ∷ ks) h =
      let first = call_again k (h 0 k (omega arith)) in
      let rest = calls_again ks (λ n d less. h (suc n) d (omega arith)) in
      ap (λ r. and_calls r (each_call procedures (map (call_form procedures) ks))) first ∙ ap (and_calls (Ok k)) rest

-- ---- the whole

tree_form : (limit : ℕ) (o : Option (List ℤ × Records)) (tree : TreeValue) → tree_from limit o ≡ Ok tree → (form : List ℤ × Records) × (o ≡ Some form) × (tree_from limit (Some form) ≡ Ok tree)
tree_form limit None tree h = absurd cc
tree_form limit (Some form) tree h = (form, refl, h)

module _ (t : TrailValue) (w : IsWritable t) where
  abbrev tree_of_trail : TreeValue
  tree_of_trail = record { parents = t.parents; records = t.opening }

  inside : All (IsInside (length t.calls) (length t.parents)) (reverse t.past)
  inside k d less = record {
    own = w.events k d less;
    node = All-reverse (IsOfNodes (length t.parents)) t.past w.trail.nodes k d less;
    call = All-reverse (λ e. caller e < length t.calls) t.past w.trail.callers k d less;
  }

  abbrev form_with : List ℤ × Records → TrailForm
  form_with tree = record {
    tree = tree;
    procedures = map procedure_form t.procedures;
    calls = map (call_form t.procedures) t.calls;
    events = map event_form (reverse t.past);
    ends = t.ends;
  }

  form_read : (tree : List ℤ × Records) → tree_form_at Wide (tree_data tree_of_trail) ≡ Some tree → (text : List ℕ) → read text ≡ Some (trail_data t) → form_in text ≡ Some (form_with tree)
  form_read tree is text h =
      let calls = each_read call_of (call_data t.procedures) (call_form t.procedures) FitsText (call_read t.procedures) t.calls w.calls in
      let ends = records_same t.ends w.ends in
      let events = each_read (event_of Wide) event_data event_form (IsInside (length t.calls) (length t.parents)) (event_read (length t.calls) (length t.parents) w.trail.few w.trail.tree.few) (reverse t.past) inside in
      let procedures = each_read procedure_of procedure_data procedure_form (λ p. Unit {0}) (λ p h. refl) t.procedures (λ k d less. tt) in
      ap (λ d. option_and_then (λ e. option_and_then form_of_parts (parts_of e)) d) h ∙ rw (calls, ends, events, procedures, is) refl

  same_trail : (tree : List ℤ × Records) → trail_of_form tree_of_trail t.procedures (form_with tree) ≡ Ok t
  same_trail tree =
      let many = length-map t.calls (call_form t.procedures) in
      let few : length (map (call_form t.procedures) t.calls) ≤ 4096 = omega (arith, w.trail.few) in
      let calls : calls_as t.procedures (map (call_form t.procedures) t.calls) ≡ Ok t.calls =
      ap (λ b. if b then each_call t.procedures (map (call_form t.procedures) t.calls) else Err TooManyCalls) (le-leb _ 4096 few) ∙ calls_again t.procedures w.free t.calls w.trail.calls in
      let events = events_again (length t.calls) (length t.parents) w.trail.few w.trail.tree.few (reverse t.past) inside in
      let count = length-reverse t.past in
      let short : length (reverse t.past) ≤ 1048576 = omega (arith, w.few) in
      ap (trail_of_calls tree_of_trail t.procedures (form_with tree)) calls
      ∙ ap (trail_of_events tree_of_trail t.procedures (form_with tree) t.calls) events
      ∙ rw (eq-eqb (length t.ends) (length t.parents) w.trail.end_size, le-leb (length (reverse t.past)) 1048576 short)
      (ap (λ past. Ok (record t { past = past })) (reverse-reverse t.past))

  written_form : (limit : ℕ) → length t.parents ≤ limit → (text : List ℕ) → read text ≡ Some (trail_data t) → IsTrailText limit text t
  written_form limit fits text h =
      let found = tree_form limit (tree_form_at Wide (tree_data tree_of_trail)) tree_of_trail (w.tree limit fits) in
      record {
        form = form_with found.0;
        tree = tree_of_trail;
        form_is = form_read found.0 found.1 text h;
        tree_is = found.2;
        taken_up = taken_again [] t.procedures w.free w.accepted;
        same = same_trail found.0;
      }

-- ---- the text is read back

small_back : (n : ℕ) → n < 2 ^ 32 → IsReadBack (natural n)
small_back n less = natural_back n (omega arith)

module _ (calls nodes : ℕ) (few : calls ≤ MAX_CALLS) (small : nodes ≤ MAX_NODES) where
  short_back : (letter : List ℕ) (c : ℕ) → c < calls → IsReadBack (list_data (string letter ∷ natural c ∷ []))
  short_back letter c less = array_back _ (item_back _ _ (string_back letter) (item_back _ _ (small_back c (omega arith)) no_items_back))

  long_back : (letter : List ℕ) (c x : ℕ) (r : List ℤ) → c < calls → x < nodes → IsRecord r → IsReadBack (list_data (string letter ∷ natural c ∷ natural x ∷ integers_data r ∷ []))
  long_back letter c x r called placed own =
      array_back _
      (item_back _ _ (string_back letter) (item_back _ _ (small_back c (omega arith)) (item_back _ _ (small_back x (omega arith)) (item_back _ _ (integers_back r own.fit) no_items_back))))

  event_back : (e : Event) → IsInside calls nodes e → IsReadBack (event_data e)
  event_back (Admit c) h = short_back _ c h.call
  event_back (Lock x c found) h = long_back _ c x found h.call h.node h.own
  event_back (Free x c left) h = long_back _ c x left h.call h.node h.own
  event_back (Done c) h = short_back _ c h.call

records_back : (records : Records) → All IsRecord records → IsReadBack (records_data records)
records_back records each = list_back integers_data IsRecord (λ r own. integers_back r own.fit) records each

five_back : (calls ends events procedures tree : Data) → IsReadBack calls → IsReadBack ends → IsReadBack events → IsReadBack procedures → IsReadBack tree
    → IsReadBack (object (member (codes "calls") calls (member (codes "end") ends (member (codes "events") events (member (codes "procs") procedures (member (codes "tree") tree no_members))))))
five_back calls ends events procedures tree a b c d e =
    record { numbers = (a.numbers, (b.numbers, (c.numbers, (d.numbers, (e.numbers, tt))))); same = rw (a.same, b.same, c.same, d.same, e.same) refl }

pub trail_back : (t : TrailValue) → IsWritable t → IsReadBack (trail_data t)
trail_back t w =
    let events = list_back event_data (IsInside (length t.calls) (length t.parents)) (event_back (length t.calls) (length t.parents) w.trail.few w.trail.tree.few) (reverse t.past) (inside t w) in
    five_back _ _ _ _ _ w.calls_back (records_back t.ends w.ends) events w.procedures_back w.tree_back

text_back : (t : TrailValue) → IsWritable t → read (trail_text t) ≡ Some (trail_data t)
text_back t w = text_read (trail_data t) (trail_back t w) (omega (arith, trail_flat t))

pub written_read : (limit : ℕ) (t : TrailValue) → length t.parents ≤ limit → IsWritable t → IsTrailText limit (trail_text t) t
written_read limit t fits w = written_form t w limit fits (trail_text t) (text_back t w)

-- the trail's data is read as that trail
pub data_read : (limit : ℕ) (t : TrailValue) → length t.parents ≤ limit → IsWritable t → IsFound limit (form_of_data (trail_data t)) t
data_read limit t fits w = subst (λ o. IsFound limit (option_and_then form_of_data o) t) (text_back t w) (written_read limit t fits w)
