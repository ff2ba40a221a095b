-- The values of the lines, and the lines one after another.
use Rattle.std.proofs.Common.{◌≡◌, ◌+◌, ◌<◌, ℕ, List, [], ◌∷◌, ◌++◌, length, get_or, take, map, codes, Bool, true, false, ◌==◌, if◌then◌else◌, refl, sym, ap, ap₂, ◌∙◌, inl, inr}
use Rattle.std.specs.Prelude.{Result, Ok, Err}
use Rattle.std.proofs.lemmas.List.{append_assoc, map_push, map_more}
use Rattle.serde_json.specs.Data.{Data, object, member, no_members}
use Rattle.serde_json.specs.View.{view}
use Rattle.serde_json.specs.Written.{has_float, compact_text}
use Rattle.serde_json.specs.declared.value.Value.{Value}
use Rattle.tl_tree.specs.Trees.{TreeValue}
use Rattle.tl_tree.specs.Writing.{tree_text, integers_data}
use Rattle.tl_tree.proofs.Texts.{whole_items, integer_whole, integers_whole}
use Rattle.tl_tree_locking.specs.declared.action.Action.{Action}
use Rattle.tl_tree_locking.specs.declared.action.Action.TheVariants.{Plain, Lock, Read, Write, Free, Emit, End}
use Rattle.tl_core.specs.Cores.{CoreValue}
use Rattle.tl_core.specs.Faults.{numbers_of}
use Rattle.tl_core.specs.declared.stepped.Stepped.{Stepped}
use Rattle.tl_core.specs.declared.stepped.Stepped.TheVariants.{Moved, Blocked, Over}
use Rattle.tl_core.specs.declared.moves.Entry.{Entry}
use Rattle.tl_core.specs.declared.moves.Entry.TheVariants as entry
use Rattle.tl_tree_locking.specs.Order.{placed}
use Rattle.tl_json.specs.Lists.{natural}
use Rattle.tl_table.specs.declared.receipt.Receipt.{Receipt}
use Rattle.tl_workers.specs.Refusals.{numbers_of as refusal_numbers_of}
use Rattle.tl_workers.specs.declared.refusal.Refusal.{Refusal}
use Rattle.tl_commands.specs.Trace.{action_data, stepped_data, entry_data, trace_data, error_data}
use Rattle.tl_json.specs.Lists.{calls_data, order_data, orders_data}
use Rattle.tl_commands.specs.Closing.{orders_form}
use Rattle.tl_commands.specs.Drive.{IsConclusion}
use Rattle.tl_commands.specs.Run.{answer_data, batch_data}
use Rattle.tl_commands.specs.Scripted.{lines_text, two_lines_text}

-- one more value is appended to those that were there
pub views_after : {A : Type 0} (before : List Data) (f : A → Data) (vs : List Value) (v : Value) (xs : List A) (i : ℕ) (d : A) → i < length xs → map view vs ≡ before ++ map f (take i xs) → view v ≡ f (get_or xs i d)
    → map view (vs ++ v ∷ []) ≡ before ++ map f (take (i + 1) xs)
views_after before f vs v xs i d inside so_far is =
    map_push view vs v ∙ ap₂ (λ ds e. ds ++ e ∷ []) so_far is ∙ append_assoc before (map f (take i xs)) (f (get_or xs i d) ∷ []) ∙ ap (λ ds. before ++ ds) (sym (map_more f xs i d inside))

-- ---- no float

natural_whole : (n : ℕ) → has_float (natural n) ≡ false
natural_whole n = refl

action_whole : (c : ℕ) (a : Action) → has_float (action_data c a) ≡ false
action_whole c Plain = refl
action_whole c (Lock x found) = rw (integers_whole found) refl
action_whole c (Read x f v) = rw (integer_whole v) refl
action_whole c (Write x f v) = rw (integer_whole v) refl
action_whole c (Free x left) = rw (integers_whole left) refl
action_whole c (Emit v) = rw (integer_whole v) refl
action_whole c End = refl

stepped_whole : (c : ℕ) (s : Stepped) → has_float (stepped_data c s) ≡ false
stepped_whole c (Moved a) = action_whole c a
stepped_whole c (Blocked x holder) = refl
stepped_whole c Over = refl

entry_whole : (e : Entry) → has_float (entry_data e) ≡ false
entry_whole (entry.Admitted c) = refl
entry_whole (entry.Stepped c s) = stepped_whole c s
entry_whole (entry.Refused f) = whole_items natural natural_whole (numbers_of f)

pub trace_whole : (entries : List Entry) → has_float (trace_data entries) ≡ false
trace_whole entries = rw (whole_items entry_data entry_whole entries) refl

pub order_whole : (order : List ℕ) → has_float (order_data order) ≡ false
order_whole order = rw (whole_items natural natural_whole order) refl

calls_whole : (calls : List ℕ) → has_float (calls_data calls) ≡ false
calls_whole calls = rw (whole_items natural natural_whole calls) refl

pub orders_whole : (orders : List (List ℕ)) → has_float (orders_data orders) ≡ false
orders_whole orders = rw (whole_items calls_data calls_whole orders) refl

pub form_whole : (has_epochs : Bool) (orders : List (List ℕ)) → has_float (orders_form has_epochs orders) ≡ false
form_whole true orders = orders_whole orders
form_whole false [] = orders_whole []
form_whole false (order ∷ orders) = order_whole order

pub conclusion_whole : (v : CoreValue) (d : Data) → IsConclusion v d → has_float d ≡ false
conclusion_whole v d (inl order) = ap has_float order.1 ∙ order_whole (placed v.parents v.past)
conclusion_whole v d (inr unfinished) = ap has_float unfinished.2

error_whole : (numbers : List ℕ) → has_float (error_data numbers) ≡ false
error_whole numbers = rw (whole_items natural natural_whole numbers) refl

-- a call's number, its epoch's number unless it is 0, and its reply
parts_whole : (first : Bool) (c e : ℕ) (reply : Data) → has_float reply ≡ false
    → has_float (object (member (codes "call") (natural c) (if first then member (codes "reply") reply no_members else member (codes "epoch") (natural e) (member (codes "reply") reply no_members)))) ≡ false
parts_whole true c e reply whole = rw whole refl
parts_whole false c e reply whole = rw whole refl

answer_whole : (answer : Result Receipt Refusal) → has_float (answer_data answer) ≡ false
answer_whole (Ok r) = parts_whole (r.epoch == 0) r.call r.epoch (integers_data r.reply.items) (integers_whole r.reply.items)
answer_whole (Err f) = error_whole (refusal_numbers_of f)

pub batch_whole : (answers : List (Result Receipt Refusal)) → has_float (batch_data answers) ≡ false
batch_whole answers = rw (whole_items answer_data answer_whole answers) refl

-- ---- the lines, one after another

pub two_lines_written : (a : Data) (tree : TreeValue) (first second s1 s2 : List ℕ) → first ≡ compact_text a → second ≡ tree_text tree
    → s1 ≡ first ++ 10 ∷ second → s2 ≡ s1 ++ 10 ∷ [] → s2 ≡ two_lines_text a tree
two_lines_written a tree first second s1 s2 first_is second_is e1 e2 = e2 ∙ ap (λ s. s ++ 10 ∷ []) (e1 ∙ ap₂ (λ x y. x ++ 10 ∷ y) first_is second_is)

pub lines_written : (a b : Data) (tree : TreeValue) (first lines out : List ℕ) → first ≡ compact_text a → lines ≡ two_lines_text b tree
    → out ≡ first ++ 10 ∷ lines → out ≡ lines_text a b tree
lines_written a b tree first lines out first_is lines_are same = same ∙ ap₂ (λ x y. x ++ 10 ∷ y) first_is lines_are

-- the lines of equal values that have no float
pub lines_of : (a a' b b' : Data) (tree tree' : TreeValue) (out : List ℕ) → a ≡ a' → b ≡ b' → tree ≡ tree' → has_float a' ≡ false → has_float b' ≡ false
    → (has_float a ≡ false → has_float b ≡ false → out ≡ lines_text a b tree) → out ≡ lines_text a' b' tree'
lines_of a a' b b' tree tree' out a_is b_is tree_is a_whole b_whole told =
    told (ap has_float a_is ∙ a_whole) (ap has_float b_is ∙ b_whole) ∙ rw (a_is, b_is, tree_is) refl

pub two_lines_of : (a a' : Data) (tree tree' : TreeValue) (out : List ℕ) → a ≡ a' → tree ≡ tree' → has_float a' ≡ false
    → (has_float a ≡ false → out ≡ two_lines_text a tree) → out ≡ two_lines_text a' tree'
two_lines_of a a' tree tree' out a_is tree_is whole told = told (ap has_float a_is ∙ whole) ∙ rw (a_is, tree_is) refl
