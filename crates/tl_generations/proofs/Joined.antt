-- Generations joined to one sequence of calls.
use Rattle.std.proofs.Common.{◌≡◌, ℕ, zero, suc, ◌+◌, ◌-◌, ℤ, List, [], ◌∷◌, ◌++◌, length, map, refl, sym, ap, ◌∙◌, subst, append_assoc, arith}
use Rattle.std.specs.Prelude.{Some, slice_get, replicate, Result, Ok, Err, IfOk, OnOk, OnErr}
use Rattle.std.proofs.lemmas.List.{append-nil, length-append, replicate-append-replicate}
use Rattle.std.proofs.lemmas.Option.{none-some, same_Some}
use Rattle.tl_tree.specs.Records.{Records}
use Rattle.tl_tree.specs.Trees.{TreeValue}
use Rattle.tl_core.specs.Cores.{CoreState}
use Rattle.tl_tree_locking.specs.Alone.{Outcome, SerialOutcome}
use Rattle.tl_tree_locking.specs.History.{records_now}
use Rattle.tl_tree_locking.specs.World.{World, reply_of}
use Rattle.tl_tree_locking.specs.Epochs.{run_each, joined, joined_replies, AgreeEach}
use Rattle.tl_tree_locking.proofs.EpochsJoined.{epochs-serial}
use Rattle.tl_procedures.specs.Names.{Named, with_code, replaced}
use Rattle.tl_serial.proofs.OrderOfCore.{order_agrees}
use Rattle.tl_table.specs.Epochs.{EpochValue, seen}
use Rattle.tl_table.specs.Tables.{epoch_world, records_after, procedures_after, InLine, IsChain}
use Rattle.tl_table.specs.Chains.{epoch_order}
use Rattle.tl_table.proofs.Lines.{line_follows, line_rests, records_left}
use Rattle.tl_generations.specs.Growth.{with_zeros, zero_record}
use Rattle.tl_generations.specs.declared.growth.GrowthFault.{GrowthFault}
use Rattle.tl_generations.specs.Generations.{LegacyValue, GenerationValue, IsGrown, IsSuccession, TakesUp, TakesUpFirst, IsReplaced, grown, with_replaced, legacy_after, left_by, start_of, AreGenerations, legacy_of, epochs_of, added_by, calls_of, replies_of, run_generations, AreSerialFrom, IsSerialFrom}

-- ---- one generation

line_agrees : (n : ℕ) (parents : List ℕ) (opening : Records) (procedures : List Named) (es : List EpochValue) → InLine n parents opening procedures es
    → AgreeEach (map epoch_order es) (map epoch_world es)
line_agrees n parents opening procedures [] line = tt
line_agrees n parents opening procedures (e ∷ es) line =
    (order_agrees (seen e) line.1.sound (epoch_order e) refl, line_agrees (n + 1) parents (records_now (seen e).past (seen e).opening) (seen e).procedures es line.2)

-- a closed table that starts from a legacy follows it
taken_line : (l : LegacyValue) (e : EpochValue) (es : List EpochValue) → IsChain (e ∷ es) → TakesUp l e → InLine 0 l.parents l.records [] (e ∷ es)
taken_line l e es chain takes =
    let same_parents : chain.parents ≡ l.parents = sym chain.line.0.parents ∙ takes.parents in
    let same_records : chain.opening ≡ l.records = sym chain.line.0.opening ∙ takes.opening in
    subst (λ ps. InLine 0 ps l.records [] (e ∷ es)) same_parents (subst (λ rs. InLine 0 chain.parents rs [] (e ∷ es)) same_records chain.line)

one_serial : (l : LegacyValue) (es : List EpochValue) → IsChain es → TakesUpFirst l es
    → ((run_each (calls_of es) l.records).tree ≡ records_after l.records es) × ((run_each (calls_of es) l.records).replies ≡ replies_of es)
one_serial l [] chain takes = absurd takes
one_serial l (e ∷ es) chain takes =
    let all = e ∷ es in
    let line : InLine 0 l.parents l.records [] (e ∷ es) = taken_line l e es chain takes in
    let s = epochs-serial l.parents l.records (map epoch_world all) (map epoch_order all) (line_follows 0 l.parents l.records [] all line)
    (line_rests 0 l.parents l.records [] all line) (line_agrees 0 l.parents l.records [] all line) in
    (s.0 ∙ sym (records_left l.records all), s.1)

-- ---- all generations

replies_join : (es more : List EpochValue) → replies_of (es ++ more) ≡ replies_of es ++ replies_of more
replies_join [] more = refl
replies_join (e ∷ es) more =
    let own = map (reply_of (epoch_world e)) (epoch_order e) in
    ap (λ rs. own ++ rs) (replies_join es more) ∙ sym (append_assoc own (replies_of es) (replies_of more))

pub all_serial : (l : LegacyValue) (gs : List GenerationValue) → AreGenerations l gs → AreSerialFrom l gs
all_serial l [] h = record { tree = refl; replies = refl }
all_serial l (g ∷ gs) h =
    let before = start_of l g in
    let own = one_serial before g.epochs h.0 h.1 in
    let later = all_serial (left_by l g) gs h.2 in
    record {
      tree = ap (λ t. (run_generations gs t).tree) own.0 ∙ later.tree;
      replies =
          (λ i. own.1 i ++ (run_generations gs (own.0 i)).replies)
          ∙ ap (λ rs. replies_of g.epochs ++ rs) later.replies
          ∙ sym (replies_join g.epochs (epochs_of gs));
    }

-- ---- what is left

records_on : (opening : Records) (es more : List EpochValue) → records_after (records_after opening es) more ≡ records_after opening (es ++ more)
records_on opening [] more = refl
records_on opening (e ∷ es) more = records_on (records_now (seen e).past (seen e).opening) es more

procedures_on : (procedures : List Named) (es more : List EpochValue) → procedures_after (procedures_after procedures es) more ≡ procedures_after procedures (es ++ more)
procedures_on procedures [] more = refl
procedures_on procedures (e ∷ es) more = procedures_on (seen e).procedures es more

abbrev pub legacy : List ℕ → Records → List Named → LegacyValue
legacy parents records procedures = record { parents = parents; records = records; procedures = procedures }

-- what is left after at least one epoch doesn't depend on the records before
records_forgotten : (l : LegacyValue) (a b : Records) (es : List EpochValue) → TakesUpFirst l es → records_after a es ≡ records_after b es
records_forgotten l a b [] takes = absurd takes
records_forgotten l a b (e ∷ es) takes = refl

procedures_forgotten : (l : LegacyValue) (a b : List Named) (es : List EpochValue) → TakesUpFirst l es → procedures_after a es ≡ procedures_after b es
procedures_forgotten l a b [] takes = absurd takes
procedures_forgotten l a b (e ∷ es) takes = refl

first_on : (l : LegacyValue) (es more : List EpochValue) → TakesUpFirst l es → TakesUpFirst l (es ++ more)
first_on l [] more takes = absurd takes
first_on l (e ∷ es) more takes = takes

no_zeros : (records : Records) → with_zeros 0 records ≡ records
no_zeros records = append-nil records

pub nothing_grown : (l : LegacyValue) → grown l [] ≡ l
nothing_grown l = (λ i. legacy (append-nil l.parents i) (no_zeros l.records i) l.procedures)

pub grown_twice : (l : LegacyValue) (ps qs : List ℕ) → grown (grown l ps) qs ≡ grown l (ps ++ qs)
grown_twice l ps qs =
    let parents = append_assoc l.parents ps qs in
    let zeros : with_zeros (length qs) (with_zeros (length ps) l.records) ≡ with_zeros (length (ps ++ qs)) l.records =
    append_assoc l.records (replicate (length ps) zero_record) (replicate (length qs) zero_record)
    ∙ ap (λ rs. l.records ++ rs) (replicate-append-replicate (length ps) (length qs) zero_record)
    ∙ ap (λ n. with_zeros n l.records) (sym (length-append ps qs)) in
    (λ i. legacy (parents i) (zeros i) l.procedures)

-- the zeros are among the records that the next epoch opens with
zeros_dropped : (l : LegacyValue) (gs : List GenerationValue) → AreGenerations l gs → records_after (with_zeros (length (added_by gs)) l.records) (epochs_of gs) ≡ records_after l.records (epochs_of gs)
zeros_dropped l [] h = no_zeros l.records
zeros_dropped l (g ∷ gs) h =
    let before = start_of l g in
    records_forgotten before (with_zeros (length (g.added ++ added_by gs)) l.records) l.records (g.epochs ++ epochs_of gs)
    (first_on before g.epochs (epochs_of gs) h.1)

pub all_left : (l : LegacyValue) (gs : List GenerationValue) → AreGenerations l gs → legacy_of l gs ≡ legacy_after (grown l (added_by gs)) (epochs_of gs)
all_left l [] h = sym (nothing_grown l)
all_left l (g ∷ gs) h =
    let more = added_by gs in
    let before = start_of l g in
    let own = left_by l g in
    let all = g.epochs ++ epochs_of gs in
    let last = with_zeros (length (g.added ++ more)) l.records in
    let parents = append_assoc l.parents g.added more in
    let records : records_after (with_zeros (length more) own.records) (epochs_of gs) ≡ records_after last all =
    zeros_dropped own gs h.2
    ∙ records_on before.records g.epochs (epochs_of gs)
    ∙ records_forgotten before before.records last all (first_on before g.epochs (epochs_of gs) h.1) in
    let procedures = procedures_on before.procedures g.epochs (epochs_of gs)
    ∙ procedures_forgotten before before.procedures l.procedures all (first_on before g.epochs (epochs_of gs) h.1) in
    all_left own gs h.2 ∙ (λ i. legacy (parents i) (records i) (procedures i))

-- ---- where nothing was appended

both_nil : (xs ys : List ℕ) → xs ++ ys ≡ [] → (xs ≡ []) × (ys ≡ [])
both_nil [] ys e = (refl, e)
both_nil (x ∷ xs) ys e = absurd cc

run_both : (xs ys : List (Records → Outcome)) (t : Records) → run_each (xs ++ ys) t
    ≡ record { tree = (run_each ys (run_each xs t).tree).tree; replies = (run_each xs t).replies ++ (run_each ys (run_each xs t).tree).replies }
run_both [] ys t = refl
run_both (x ∷ xs) ys t = ap (λ (s : SerialOutcome). record { tree = s.tree; replies = (x t).reply ∷ s.replies }) (run_both xs ys (x t).tree)

calls_join : (es more : List EpochValue) → calls_of (es ++ more) ≡ calls_of es ++ calls_of more
calls_join [] more = refl
calls_join (e ∷ es) more =
    let own = map (epoch_world e).meanings (epoch_order e) in
    ap (λ cs. own ++ cs) (calls_join es more) ∙ sym (append_assoc own (calls_of es) (calls_of more))

runs_joined : (gs : List GenerationValue) (t : Records) → added_by gs ≡ [] → run_generations gs t ≡ run_each (calls_of (epochs_of gs)) t
runs_joined [] t e = refl
runs_joined (g ∷ gs) t e =
    let none = both_nil g.added (added_by gs) e in
    let own = run_each (calls_of g.epochs) t in
    ap (λ (u : Records). record {
      tree = (run_generations gs (run_each (calls_of g.epochs) u).tree).tree;
      replies = (run_each (calls_of g.epochs) u).replies ++ (run_generations gs (run_each (calls_of g.epochs) u).tree).replies;
    })
    (ap (λ ps. with_zeros (length ps) t) none.0 ∙ no_zeros t)
    ∙ ap (λ (s : SerialOutcome). record { tree = s.tree; replies = own.replies ++ s.replies }) (runs_joined gs own.tree none.1)
    ∙ sym (run_both (calls_of g.epochs) (calls_of (epochs_of gs)) t)
    ∙ ap (λ cs. run_each cs t) (sym (calls_join g.epochs (epochs_of gs)))

pub left_joined : (l : LegacyValue) (gs : List GenerationValue) → AreGenerations l gs → added_by gs ≡ [] → legacy_of l gs ≡ legacy_after l (epochs_of gs)
left_joined l [] h e = refl
left_joined l (g ∷ gs) h e =
    let none = both_nil g.added (added_by gs) e in
    let before = start_of l g in
    let records = records_on l.records g.epochs (epochs_of gs) in
    let procedures = procedures_on before.procedures g.epochs (epochs_of gs)
    ∙ procedures_forgotten before before.procedures l.procedures (g.epochs ++ epochs_of gs) (first_on before g.epochs (epochs_of gs) h.1) in
    left_joined (left_by l g) gs h.2 none.1
    ∙ ap (λ m. legacy_after (legacy_after (with_replaced m g.others) g.epochs) (epochs_of gs)) (ap (grown l) none.0 ∙ nothing_grown l)
    ∙ (λ i. legacy l.parents (records i) (procedures i))

pub serial_joined : (l : LegacyValue) (gs : List GenerationValue) → AreGenerations l gs → added_by gs ≡ []
    → IsSerialFrom l.records (epochs_of gs) (map epoch_order (epochs_of gs))
serial_joined l gs h e =
    let s = all_serial l gs h in
    let same = runs_joined gs l.records e in
    record {
      tree = sym (ap (λ r. r.tree) same) ∙ s.tree ∙ ap (λ m. m.records) (left_joined l gs h e);
      replies = sym (ap (λ r. r.replies) same) ∙ s.replies;
    }

-- ---- one more

pub one_more : (l : LegacyValue) (gs : List GenerationValue) (g : GenerationValue) → AreGenerations l gs → IsChain g.epochs → TakesUpFirst (start_of (legacy_of l gs) g) g.epochs
    → AreGenerations l (gs ++ g ∷ [])
one_more l [] g h chain takes = (chain, takes, tt)
one_more l (f ∷ gs) g h chain takes = (h.0, h.1, one_more (left_by l f) gs g h.2 chain takes)

pub one_more_left : (l : LegacyValue) (gs : List GenerationValue) (g : GenerationValue) → legacy_of l (gs ++ g ∷ []) ≡ left_by (legacy_of l gs) g
one_more_left l [] g = refl
one_more_left l (f ∷ gs) g = one_more_left (left_by l f) gs g

-- ---- a succession

pub starts : (first last : LegacyValue) → last ≡ first → IsSuccession first last
starts first last same = record { tables = []; added = []; others = []; generations = tt; left = nothing_grown first ∙ sym same }

pub grows : (first last new : LegacyValue) (integers : List ℤ) (r : Result ℕ GrowthFault) → IsSuccession first last
    → IfOk r (λ n. IsGrown last integers n new) → OnErr r (new ≡ last) → IsSuccession first new
grows first last new integers (Ok n) was h same =
    record {
      tables = was.tables;
      added = was.added ++ h.added;
      others = was.others;
      generations = was.generations;
      left =
          ap (λ (l : LegacyValue). with_replaced l was.others) (sym (grown_twice (legacy_of first was.tables) was.added h.added))
          ∙ ap (λ (l : LegacyValue). grown l h.added) was.left ∙ sym h.same;
    }
grows first last new integers (Err e) was h same = subst (λ (l : LegacyValue). IsSuccession first l) (sym same) was

replaced_on : (ps first more : List Named) → replaced (replaced ps first) more ≡ replaced ps (first ++ more)
replaced_on ps [] more = refl
replaced_on ps (p ∷ first) more = replaced_on (map (with_code p) ps) first more

pub replaces : {A E : Type 0} (first last new : LegacyValue) (others : List Named) (r : Result A E) → IsSuccession first last
    → OnOk r (IsReplaced last others new) → OnErr r (new ≡ last) → IsSuccession first new
replaces first last new others (Ok x) was h same =
    let before = grown (legacy_of first was.tables) was.added in
    record {
      tables = was.tables;
      added = was.added;
      others = was.others ++ others;
      generations = was.generations;
      left =
          (λ i. legacy before.parents before.records (sym (replaced_on before.procedures was.others others) i))
          ∙ ap (λ (l : LegacyValue). with_replaced l others) was.left ∙ sym h.same;
    }
replaces first last new others (Err e) was h same = subst (λ (l : LegacyValue). IsSuccession first l) (sym same) was

-- ---- what the last epoch says of it

pub last_left : (l : LegacyValue) (es : List EpochValue) (k : ℕ) (e : EpochValue) → k ≡ length es - 1 → slice_get es k ≡ Some e
    → legacy l.parents (records_now (seen e).past (seen e).opening) (seen e).procedures ≡ legacy_after l es
last_left l [] k e is at = absurd (none-some e at)
last_left l (f ∷ []) zero e is at = let same = same_Some f e at in ap (λ x. legacy l.parents (records_now (seen x).past (seen x).opening) (seen x).procedures) (sym same)
last_left l (f ∷ []) (suc k) e is at = absurd (omega (arith, is))
last_left l (f ∷ g ∷ es) zero e is at = absurd (omega (arith, is))
last_left l (f ∷ g ∷ es) (suc k) e is at =
    last_left (legacy l.parents (records_now (seen f).past (seen f).opening) (seen f).procedures) (g ∷ es) k e (omega (arith, is)) at

line_shape : (n : ℕ) (parents : List ℕ) (opening : Records) (procedures : List Named) (es : List EpochValue) (k : ℕ) (e : EpochValue) → InLine n parents opening procedures es
    → slice_get es k ≡ Some e → (seen e).parents ≡ parents
line_shape n parents opening procedures [] k e line at = absurd (none-some e at)
line_shape n parents opening procedures (f ∷ es) zero e line at = ap (λ x. (seen x).parents) (sym (same_Some f e at)) ∙ line.0.parents
line_shape n parents opening procedures (f ∷ es) (suc k) e line at =
    line_shape (n + 1) parents (records_now (seen f).past (seen f).opening) (seen f).procedures es k e line.2 at

pub chain_left : (l : LegacyValue) (es : List EpochValue) (e : EpochValue) → IsChain es → TakesUpFirst l es → slice_get es (length es - 1) ≡ Some e
    → legacy (seen e).parents (records_now (seen e).past (seen e).opening) (seen e).procedures ≡ legacy_after l es
chain_left l [] e chain takes at = absurd takes
chain_left l (f ∷ es) e chain takes at =
    let shape = line_shape 0 l.parents l.records [] (f ∷ es) (length (f ∷ es) - 1) e (taken_line l f es chain takes) at in
    ap (λ ps. legacy ps (records_now (seen e).past (seen e).opening) (seen e).procedures) shape
    ∙ last_left l (f ∷ es) (length (f ∷ es) - 1) e refl at

abbrev pub tree_left : CoreState → TreeValue
tree_left it = record { parents = it.seen.parents; records = records_now it.seen.past it.seen.opening }
