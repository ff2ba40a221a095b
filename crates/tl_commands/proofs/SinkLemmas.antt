-- What a sink has after pieces were written to it one after another.
use Rattle.std.proofs.Common.{◌≡◌, ◌≢◌, ◌+◌, ◌<◌, ℕ, zero, suc, nat_lt, List, [], ◌∷◌, ◌++◌, length, get_or, take, map, codes, false, Option, Some, None, refl, sym, ap, ◌∙◌, subst, arith, append_assoc, append-nil}
use Rattle.std.proofs.lemmas.Bool.{lt-ltb, ne_eqb}
use Rattle.std.proofs.lemmas.List.Elements.{All-nil, All-cons, All-head, All-tail}
use Rattle.std.specs.List.{join_with_byte}
use Rattle.serde_json.specs.Data.{Data}
use Rattle.serde_json.specs.Written.{comma_if}
use Rattle.serde_json.proofs.OnLiterals.{serde_json_on_literals}
use Rattle.tl_tree.proofs.Texts.{list_written, map-map}
use Rattle.tl_json.proofs.Texts.{joined, joined_more, list_whole}
use Rattle.tl_tree.specs.Records.{Records}
use Rattle.tl_tree_locking.specs.History.{records_now}
use Rattle.tl_procedures.specs.Names.{Named}
use Rattle.tl_table.specs.Epochs.{EpochValue, seen}
use Rattle.tl_table.specs.Tables.{InLine, IsNext, IsChain}
use Rattle.tl_trail.specs.Clean.{Clean}
use Rattle.tl_audit.specs.Chains.{Before, Nothing, AfterTrail, TakesOverFrom, CleanAfter, IsCleanChain}
use Rattle.tl_trail.specs.Chains.{chain_text}
use Rattle.tl_trail.specs.Writing.{trail_data, trail_text}
use Rattle.tl_commands.specs.Sinks.{Adds, AreClean, comma_before, epoch_trail, trails_text}

pub added_then : (old now new : Option (List ℕ)) (xs ys : List ℕ) → Adds old xs now → Adds now ys new → Adds old (xs ++ ys) new
added_then None now new xs ys h k = tt
added_then (Some old) now new xs ys h k =
    let e : new ≡ Some ((old ++ xs) ++ ys) = subst (λ o. Adds o ys new) h k in
    e ∙ ap Some (append_assoc old xs ys)

pub added_nothing : (o : Option (List ℕ)) → Adds o [] o
added_nothing None = tt
added_nothing (Some old) = ap Some (sym (append-nil old))

-- ---- a list of trails

abbrev pub epoch_data : EpochValue → Data
epoch_data e = trail_data (epoch_trail e)

comma_same : (i : ℕ) → comma_before i ≡ comma_if (nat_lt 0 i)
unfolding serde_json_on_literals
comma_same zero = refl
comma_same (suc i) = rw (ne_eqb (suc i) 0 (λ e. absurd (omega (arith, e))), lt-ltb 0 (suc i) (omega arith)) refl

-- the list so far, with its opening bracket
abbrev pub list_begun : List EpochValue → List ℕ
list_begun es = 91 ∷ joined false (map epoch_data es)

pub one_more : (es : List EpochValue) (i : ℕ) (d : EpochValue) → i < length es → (list_begun (take i es) ++ comma_before i) ++ trail_text (epoch_trail (get_or es i d)) ≡ list_begun (take (i + 1) es)
one_more es i d inside =
    ap (λ l. (list_begun (take i es) ++ l) ++ trail_text (epoch_trail (get_or es i d))) (comma_same i) ∙ joined_more epoch_data [] es i d inside

pub list_ended : (es : List EpochValue) → list_begun es ++ codes "]" ≡ chain_text (map epoch_trail es)
list_ended es =
    list_whole [] (map epoch_data es) ∙ list_written epoch_data (λ e. trail_text (epoch_trail e)) (λ e. refl) es
    ∙ ap (λ l. codes "[" ++ join_with_byte 44 l ++ codes "]") (sym (map-map trail_text epoch_trail es))

-- ---- the file

pub file_of_one : (es : List EpochValue) (e : EpochValue) → length es ≡ 1 → get_or es 0 e ≡ e → trails_text es ≡ trail_text (epoch_trail e)
file_of_one [] e one first = absurd (omega (arith, one))
file_of_one (x ∷ []) e one first = ap (λ y. trail_text (epoch_trail y)) first
file_of_one (x ∷ y ∷ es) e one first = absurd (omega (arith, one))

pub file_of_list : (es : List EpochValue) → length es ≢ 1 → trails_text es ≡ chain_text (map epoch_trail es)
file_of_list [] other = refl
file_of_list (x ∷ []) other = absurd (other refl)
file_of_list (x ∷ y ∷ es) other = refl

-- ---- the trails as a chain

abbrev IsCleanEpoch : EpochValue → Type 0
IsCleanEpoch e = Clean (epoch_trail e)

pub clean_of_one : (es : List EpochValue) (e : EpochValue) → length es ≡ 1 → get_or es 0 e ≡ e → IsCleanEpoch e → AreClean es
clean_of_one [] e one first clean = absurd (omega (arith, one))
clean_of_one (x ∷ []) e one first clean = All-cons IsCleanEpoch x [] (subst IsCleanEpoch (sym first) clean) (All-nil IsCleanEpoch)
clean_of_one (x ∷ y ∷ es) e one first clean = absurd (omega (arith, one))

-- the trails of epochs that follow one another are a clean chain, if the first one continues what precedes it
clean_after : (n : ℕ) (parents : List ℕ) (opening : Records) (procedures : List Named) (before : Before) (es : List EpochValue)
    → InLine n parents opening procedures es → ((e : EpochValue) → IsNext n parents opening procedures e → TakesOverFrom before (epoch_trail e))
    → AreClean es → CleanAfter before (map epoch_trail es)
clean_after n parents opening procedures before [] line leads clean = tt
clean_after n parents opening procedures before (e ∷ es) line leads clean = (
  leads e line.0,
  All-head IsCleanEpoch e es clean,
  clean_after (n + 1) parents (records_now (seen e).past (seen e).opening) (seen e).procedures (AfterTrail (epoch_trail e)) es line.2
      (λ f next. record { parents = next.parents ∙ sym line.0.parents; opening = next.opening; procedures = next.procedures })
      (All-tail IsCleanEpoch e es clean),
)

pub clean_chain : (es : List EpochValue) → IsChain es → AreClean es → IsCleanChain (map epoch_trail es)
clean_chain es chain clean = clean_after 0 chain.parents chain.opening [] Nothing es chain.line (λ e next. tt) clean
