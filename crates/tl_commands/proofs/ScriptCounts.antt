-- The numbers of calls and batches in a script of the command `run`.
use Rattle.std.proofs.Common.{◌≡◌, ◌≤◌, ℕ, ℤ, nat_le, ◌&&◌, Bool, true, false, List, [], ◌∷◌, length, get_or, map, codes, Option, Some, None, option_map, option_and_then, if◌then◌else◌, refl, sym, ap, ◌∙◌, subst, arith}
use Rattle.std.specs.Prelude.{Vec}
use Rattle.std.specs.Option.{option_or}
use Rattle.std.specs.declared.alloc.Global.{Global}
use Rattle.std.specs.List.{All}
use Rattle.std.proofs.lemmas.Bool.{le-leb, leb-true, and_parts}
use Rattle.std.proofs.lemmas.List.{length-map, get_or-map}
use Rattle.std.proofs.lemmas.List.Elements.{All-cons}
use Rattle.std.proofs.lemmas.Option.{none-some, same_Some, cond_some, option_and_then_some}
use Rattle.serde_json.specs.Data.{Data, Items, no_items, item}
use Rattle.serde_json.specs.Find.{as_array}
use Rattle.tl_tree.specs.Reading.{each_item, both}
use Rattle.tl_procedures.specs.declared.request.Request.{Request}
use Rattle.tl_json.specs.Lists.{each_of}
use Rattle.tl_json.specs.Procedures.{procedure_of}
use Rattle.tl_json.specs.Requests.{request_form, request_of}
use Rattle.tl_commands.specs.declared.script.Script.{Script}
use Rattle.tl_commands.specs.Script.{BatchesValue, script_view, parts_of, script_of, if_few, batch_form, batch_of, script_of_calls, script_of_epochs, script_of_run}

-- ---- so many

module _ {A : Type 0} where
  pub few_are : (xs : List A) → 1 ≤ length xs → length xs ≤ 256 → if_few xs ≡ Some xs
  few_are xs some few = rw (le-leb 1 (length xs) some, le-leb (length xs) 256 few) refl

  pub not_few : (xs : List A) → (1 ≤ length xs → length xs ≤ 256 → ⊥) → if_few xs ≡ None
  not_few xs other = by (nat_le 1 (length xs) && nat_le (length xs) 256) refl
    where
      by : (b : Bool) → (nat_le 1 (length xs) && nat_le (length xs) 256) ≡ b → (if b then Some xs else None) ≡ None
      by false is = refl
      by true is = let h = and_parts (nat_le 1 (length xs)) (nat_le (length xs) 256) is in absurd (other (leb-true 1 (length xs) h.0) (leb-true (length xs) 256 h.1))

  abbrev pub IsFew : List A → Type 0
  IsFew xs = (1 ≤ length xs) × (length xs ≤ 256)

  few_of : (xs ys : List A) → if_few xs ≡ Some ys → IsFew ys
  few_of xs ys is =
      let h = cond_some (nat_le 1 (length xs) && nat_le (length xs) 256) xs ys is in
      let b = and_parts (nat_le 1 (length xs)) (nat_le (length xs) 256) h.0 in
      subst IsFew h.1 (leb-true 1 (length xs) b.0, leb-true (length xs) 256 b.1)

-- ---- a batch

module _ {A B : Type 0} (f : A → B) (xs : List A) where
  pub batch_read : (o : Option (List B)) → Some (map f xs) ≡ o → 1 ≤ length xs → length xs ≤ 256 → Some (map f xs) ≡ option_and_then if_few o
  batch_read o is some few =
      let long = length-map xs f in
      sym (few_are (map f xs) (omega (arith, long, some)) (omega (arith, long, few))) ∙ ap (option_and_then if_few) is

  pub batch_other : (o : Option (List B)) → Some (map f xs) ≡ o → (1 ≤ length xs → length xs ≤ 256 → ⊥) → None ≡ option_and_then if_few o
  batch_other o is other =
      let long = length-map xs f in
      sym (not_few (map f xs) (λ some few. other (omega (arith, long, some)) (omega (arith, long, few)))) ∙ ap (option_and_then if_few) is

pub batch_few : (d : Data) (b : List (List ℕ × List ℤ)) → batch_of d ≡ Some b → IsFew b
batch_few d b is = option_and_then_some if_few (each_of request_of d) b is (λ xs found few. few_of xs b few)

-- ---- batches

one_and_more : {A : Type 0} (P : A → Type 0) (x : A) (o : Option (List A)) (ys : List A) → P x → ((zs : List A) → o ≡ Some zs → All P zs) → option_map (λ zs. x ∷ zs) o ≡ Some ys → All P ys
one_and_more P x None ys h more is = absurd (none-some ys is)
one_and_more P x (Some zs) ys h more is = subst (All P) (same_Some (x ∷ zs) ys is) (All-cons P x zs h (more zs refl))

each_few : (ds : Items) (bs : List (List (List ℕ × List ℤ))) → each_item batch_of ds ≡ Some bs → All IsFew bs
each_few no_items bs is = subst (All IsFew) (same_Some [] bs is) (λ k d less. absurd (omega (arith, less)))
each_few (item d ds) bs is =
    option_and_then_some (λ x. option_map (λ xs. x ∷ xs) (each_item batch_of ds)) (batch_of d) bs is
    (λ b found rest. one_and_more IsFew b (each_item batch_of ds) bs (batch_few d b found) (λ zs e. each_few ds zs e) rest)

list_few : (d : Data) (bs : List (List (List ℕ × List ℤ))) → each_of batch_of d ≡ Some bs → All IsFew bs
list_few d bs is = option_and_then_some (each_item batch_of) (as_array d) bs is (λ ds found each. each_few ds bs each)

-- ---- the script

-- What is true of the batches of a script.
pub record AreFew (s : BatchesValue) : Type 0 where
  pub some : 1 ≤ length s.tasks
  pub few : length s.tasks ≤ 256
  pub each : All IsFew s.tasks

abbrev one_batch : List (List ℕ × List ℕ) × List (List ℕ × List ℤ) → BatchesValue
one_batch x = record { procedures = x.0; tasks = x.1 ∷ [] }

abbrev all_batches : List (List ℕ × List ℕ) × List (List (List ℕ × List ℤ)) → BatchesValue
all_batches x = record { procedures = x.0; tasks = x.1 }

abbrev with_tasks : BatchesValue → List (List (List ℕ × List ℤ)) → BatchesValue
with_tasks s tasks = record { procedures = s.procedures; tasks = tasks }

abbrev pub if_fit : BatchesValue → Option BatchesValue
if_fit s = option_map (with_tasks s) (if_few s.tasks)

both_parts : {A B C P : Type 0} (g : A × B → C) (o : Option A) (p : Option B) (s : C) → option_map g (both o p) ≡ Some s → ((x : A) (y : B) → o ≡ Some x → p ≡ Some y → g (x, y) ≡ s → P) → P
both_parts g None p s is k = absurd (none-some s is)
both_parts g (Some x) None s is k = absurd (none-some s is)
both_parts g (Some x) (Some y) s is k = k x y refl refl (same_Some (g (x, y)) s is)

calls_few : (none : Option Data) (d : Data) (s : BatchesValue) → script_of_calls none d ≡ Some s → AreFew s
calls_few none d s is =
    option_and_then_some (λ parts. option_map one_batch (both (each_of procedure_of parts.0) (batch_of parts.1))) (parts_of none (codes "calls") d) s is
    (λ parts found made. both_parts one_batch (each_of procedure_of parts.0) (batch_of parts.1) s made
    (λ ps b ps_are b_is same. subst AreFew same (record { some = omega arith; few = omega arith; each = All-cons IsFew b [] (batch_few parts.1 b b_is) (λ k e less. absurd (omega (arith, less))) })))

tasks_few : (none : Option Data) (d : Data) (s : BatchesValue) → script_of none (codes "epochs") batch_of d ≡ Some s → All IsFew s.tasks
tasks_few none d s is =
    option_and_then_some (λ parts. option_map all_batches (both (each_of procedure_of parts.0) (each_of batch_of parts.1))) (parts_of none (codes "epochs") d) s is
    (λ parts found made. both_parts all_batches (each_of procedure_of parts.0) (each_of batch_of parts.1) s made
    (λ ps bs ps_are bs_are same. subst (λ (v : BatchesValue). All IsFew v.tasks) same (list_few parts.1 bs bs_are)))

fit_few : (s t : BatchesValue) → All IsFew s.tasks → if_fit s ≡ Some t → AreFew t
fit_few s t each is = by (nat_le 1 (length s.tasks) && nat_le (length s.tasks) 256) refl is
  where
    by : (b : Bool) → (nat_le 1 (length s.tasks) && nat_le (length s.tasks) 256) ≡ b → option_map (with_tasks s) (if b then Some s.tasks else None) ≡ Some t → AreFew t
    by false test made = absurd (none-some t made)
    by true test made =
        let h = and_parts (nat_le 1 (length s.tasks)) (nat_le (length s.tasks) 256) test in
        subst AreFew (same_Some (with_tasks s s.tasks) t made) (record { some = leb-true 1 (length s.tasks) h.0; few = leb-true (length s.tasks) 256 h.1; each = each })

epochs_few : (none : Option Data) (d : Data) (s : BatchesValue) → script_of_epochs none d ≡ Some s → AreFew s
epochs_few none d s is = option_and_then_some if_fit (script_of none (codes "epochs") batch_of d) s is (λ v found made. fit_few v s (tasks_few none d v found) made)

run_few : (none : Option Data) (d : Data) (s : BatchesValue) → script_of_run none d ≡ Some s → AreFew s
run_few none d s is = by (script_of_calls none d) refl is
  where
    by : (o : Option BatchesValue) → script_of_calls none d ≡ o → option_or o (script_of_epochs none d) ≡ Some s → AreFew s
    by (Some v) found same = calls_few none d s (found ∙ same)
    by None found same = epochs_few none d s same

-- the same for a script that was read
pub record AreBatches (script : Script (Vec Request Global)) : Type 0 where
  pub some : 1 ≤ length script.tasks.items
  pub few : length script.tasks.items ≤ 256
  pub each : All (λ b. (1 ≤ length b.items) × (length b.items ≤ 256)) script.tasks.items

pub are_batches : (none : Option Data) (d : Data) (script : Script (Vec Request Global)) → script_of_run none d ≡ Some (script_view batch_form script) → AreBatches script
are_batches none d script is =
    let tasks = script.tasks.items in
    let h = run_few none d (script_view batch_form script) is in
    let long = length-map tasks batch_form in
    record {
      some = omega (arith, long, h.some);
      few = omega (arith, long, h.few);
      each = λ k b less.
          let fit : IsFew (batch_form (get_or tasks k b)) = subst IsFew (get_or-map batch_form tasks k b (batch_form b) less) (h.each k (batch_form b) (omega (arith, long, less))) in
          let size = length-map (get_or tasks k b).items request_form in
          (omega (arith, size, fit.0), omega (arith, size, fit.1));
    }

-- ---- a script of epochs

-- the script has these batches if there are 1 to 256; otherwise it is no script
module _ (script : Script (Vec Request Global)) (o : Option BatchesValue) (is : Some (script_view batch_form script) ≡ o) where
  pub epochs_read : 1 ≤ length script.tasks.items → length script.tasks.items ≤ 256 → Some (script_view batch_form script) ≡ option_and_then if_fit o
  epochs_read some few =
      let long = length-map script.tasks.items batch_form in
      let fit = few_are (map batch_form script.tasks.items) (omega (arith, long, some)) (omega (arith, long, few)) in
      sym (ap (option_map (with_tasks (script_view batch_form script))) fit) ∙ ap (option_and_then if_fit) is

  pub epochs_other : (1 ≤ length script.tasks.items → length script.tasks.items ≤ 256 → ⊥) → None ≡ option_and_then if_fit o
  epochs_other other =
      let long = length-map script.tasks.items batch_form in
      let unfit = not_few (map batch_form script.tasks.items) (λ some few. other (omega (arith, long, some)) (omega (arith, long, few))) in
      sym (ap (option_map (with_tasks (script_view batch_form script))) unfit) ∙ ap (option_and_then if_fit) is
