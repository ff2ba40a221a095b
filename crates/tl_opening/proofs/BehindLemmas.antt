-- Lemmas on the records that epochs leave.
use Rattle.std.proofs.Common.{◌≡◌, ◌≢◌, ℕ, ◌+◌, ◌<◌, List, [], ◌∷◌, ◌++◌, length, take, reverse, get_or, refl, sym, ap, ◌∙◌, subst}
use Rattle.std.proofs.lemmas.List.{length-set, get_or-set_same, get_or-set_other, take_more, reverse-append}
use Rattle.tl_tree.specs.Records.{Record, Records, record_at, put_record}
use Rattle.tl_tree.specs.Trees.{TreeValue, IsWhole}
use Rattle.tl_tree_locking.specs.declared.event.Event.{Event}
use Rattle.tl_tree_locking.specs.declared.event.Event.TheVariants.{Admit, Lock, Free, Done}
use Rattle.tl_tree_locking.specs.History.{past_of, records_now}
use Rattle.tl_opening.specs.declared.frees.Left.{Left}
use Rattle.tl_opening.specs.Opening.{records_left, records_behind}

pub left-push : (records : Records) (lefts : List Left) (left : Left) → records_left records (lefts ++ left ∷ []) ≡ put_record (records_left records lefts) left.node left.fields
left-push records [] left = refl
left-push records (first ∷ later) left = left-push (put_record records first.node first.fields) later left

pub length-left : (records : Records) (lefts : List Left) → length (records_left records lefts) ≡ length records
length-left records [] = refl
length-left records (left ∷ later) = length-left (put_record records left.node left.fields) later ∙ length-set records left.node left.fields

pub behind-push : (records : Records) (epochs : List (List Left)) (lefts : List Left) → records_behind records (epochs ++ lefts ∷ []) ≡ records_left (records_behind records epochs) lefts
behind-push records [] lefts = refl
behind-push records (first ∷ later) lefts = behind-push (records_left records first) later lefts

pub length-behind : (records : Records) (epochs : List (List Left)) → length (records_behind records epochs) ≡ length records
length-behind records [] = refl
length-behind records (first ∷ later) = length-behind (records_left records first) later ∙ length-left records first

-- what epochs leave of a whole tree is whole
pub behind-whole : (tree : TreeValue) (epochs : List (List Left)) → IsWhole tree → IsWhole (record { parents = tree.parents; records = records_behind tree.records epochs })
behind-whole tree epochs whole = record { shape = whole.shape; count = length-behind tree.records epochs ∙ whole.count }

-- ---- a node's record

-- a node that was left with a record has it
pub record_at-found : (records : Records) (lefts : List Left) (left : Left) (x : ℕ) → left.node ≡ x → x < length records → record_at (records_left records (lefts ++ left ∷ [])) x ≡ left.fields
record_at-found records lefts left x same inside =
    let there : x < length (records_left records lefts) = subst (λ n. x < n) (sym (length-left records lefts)) inside in
    rw left-push (subst (λ y. record_at (put_record (records_left records lefts) y left.fields) x ≡ left.fields) (sym same) (get_or-set_same (records_left records lefts) x left.fields [] there))

-- another node keeps its own
pub record_at-other : (records : Records) (lefts : List Left) (left : Left) (x : ℕ) → left.node ≢ x → record_at (records_left records (lefts ++ left ∷ [])) x ≡ record_at (records_left records lefts) x
record_at-other records lefts left x other =
    rw left-push (get_or-set_other (records_left records lefts) left.node x left.fields [] (λ (w : x ≡ left.node). other (sym w)))

-- ---- loops over what was left

pub left-more : (records : Records) (lefts : List Left) (i : ℕ) (d : Left) → i < length lefts → records_left records (take (i + 1) lefts) ≡ put_record (records_left records (take i lefts)) (get_or lefts i d).node (get_or lefts i d).fields
left-more records lefts i d inside = ap (records_left records) (take_more lefts i d inside) ∙ left-push records (take i lefts) (get_or lefts i d)

past-more : (events : List Event) (i : ℕ) (d : Event) → i < length events → past_of (take (i + 1) events) ≡ get_or events i d ∷ past_of (take i events)
past-more events i d inside = ap reverse (take_more events i d inside) ∙ reverse-append (take i events) (get_or events i d ∷ [])

-- a free more
pub now-free : (events : List Event) (i : ℕ) (d : Event) (lefts : List Left) → i < length events → ((records : Records) → records_left records lefts ≡ records_now (past_of (take i events)) records)
    → (x c : ℕ) (r : Record) → get_or events i d ≡ Free x c r → (records : Records) → records_left records (lefts ++ (record { node = x; fields = r }) ∷ []) ≡ records_now (past_of (take (i + 1) events)) records
now-free events i d lefts inside so_far x c r is records =
    left-push records lefts (record { node = x; fields = r }) ∙ ap (λ t. put_record t x r) (so_far records)
    ∙ sym (ap (λ past. records_now past records) (past-more events i d inside ∙ ap (λ e. e ∷ past_of (take i events)) is))

now-skip : (e : Event) (past : List Event) (records : Records) → ((x c : ℕ) (r : Record) → e ≡ Free x c r → ⊥) → records_now (e ∷ past) records ≡ records_now past records
now-skip (Admit c) past records other = refl
now-skip (Lock x c found) past records other = refl
now-skip (Free x c r) past records other = absurd (other x c r refl)
now-skip (Done c) past records other = refl

-- another event more
pub now-other : (events : List Event) (i : ℕ) (d : Event) → i < length events → ((x c : ℕ) (r : Record) → get_or events i d ≡ Free x c r → ⊥)
    → (records : Records) → records_now (past_of (take (i + 1) events)) records ≡ records_now (past_of (take i events)) records
now-other events i d inside other records =
    ap (λ past. records_now past records) (past-more events i d inside) ∙ now-skip (get_or events i d) (past_of (take i events)) records other

abbrev pub tree_of : List ℕ → Records → TreeValue
tree_of parents records = record { parents = parents; records = records }

-- a tree into which one record more was put
pub put-more : (start tree : TreeValue) (lefts : List Left) (i : ℕ) (d : Left) → i < length lefts → tree ≡ tree_of start.parents (records_left start.records (take i lefts))
    → tree_of tree.parents (put_record tree.records (get_or lefts i d).node (get_or lefts i d).fields) ≡ tree_of start.parents (records_left start.records (take (i + 1) lefts))
put-more start tree lefts i d inside is =
    ap (λ (t : TreeValue). tree_of t.parents (put_record t.records (get_or lefts i d).node (get_or lefts i d).fields)) is ∙ ap (tree_of start.parents) (sym (left-more start.records lefts i d inside))

-- a tree into which was put what one epoch more left
pub behind-more : (start tree : TreeValue) (before : List (List Left)) (lefts : List Left) → tree ≡ tree_of start.parents (records_behind start.records before)
    → tree_of tree.parents (records_left tree.records lefts) ≡ tree_of start.parents (records_behind start.records (before ++ lefts ∷ []))
behind-more start tree before lefts is =
    ap (λ (t : TreeValue). tree_of t.parents (records_left t.records lefts)) is ∙ ap (tree_of start.parents) (sym (behind-push start.records before lefts))
