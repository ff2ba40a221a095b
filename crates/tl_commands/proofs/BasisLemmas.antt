-- What the epochs of a closed table ran on.
use Rattle.std.proofs.Common.{◌≡◌, ◌+◌, ℕ, List, [], ◌∷◌, ◌++◌, length, ap, ◌∙◌, subst, arith}
use Rattle.std.specs.List.{All}
use Rattle.std.proofs.lemmas.List.{append-nil, length-append, nil_from_length}
use Rattle.std.proofs.lemmas.List.Elements.{All-nil, All-cons, All-head, All-tail}
use Rattle.tl_tree.specs.Records.{Records}
use Rattle.tl_tree_locking.specs.History.{records_now}
use Rattle.tl_procedures.specs.Names.{Named, BeginsWith}
use Rattle.tl_generations.specs.Generations.{LegacyValue, TakesUpFirst}
use Rattle.tl_table.specs.Epochs.{EpochValue, seen}
use Rattle.tl_table.specs.Tables.{InLine, IsChain}
use Rattle.tl_commands.specs.Run.{RunsOn}

-- the epoch has these procedures, or as many
abbrev Has : List Named → EpochValue → Type 0
Has p e = (seen e).procedures ≡ p

abbrev HasAsMany : List Named → EpochValue → Type 0
HasAsMany p e = length (seen e).procedures ≡ length p

-- a list that begins with another one, and is as long, is that one
as_long : (xs ys : List Named) → BeginsWith xs ys → length ys ≡ length xs → ys ≡ xs
as_long xs ys h long =
    let all : length ys ≡ length xs + length h.0 = ap length h.1 ∙ length-append xs h.0 in
    let none : length h.0 ≡ 0 = omega (arith, all, long) in
    h.1 ∙ ap (λ more. xs ++ more) (nil_from_length h.0 none) ∙ append-nil xs

-- where each epoch has as many procedures as there were before the first, each has these
same_line : (p : List Named) (n : ℕ) (parents : List ℕ) (opening : Records) (es : List EpochValue) → InLine n parents opening p es → All (HasAsMany p) es → All (Has p) es
same_line p n parents opening [] line many = All-nil (Has p)
same_line p n parents opening (e ∷ es) line many =
    let here : Has p e = as_long p (seen e).procedures line.0.procedures (All-head (HasAsMany p) e es many) in
    let left = records_now (seen e).past (seen e).opening in
    let rest = subst (λ before. InLine (n + 1) parents left before es) here line.2 in
    All-cons (Has p) e es here (same_line p (n + 1) parents left es rest (All-tail (HasAsMany p) e es many))

pub all_same : (l : LegacyValue) (es : List EpochValue) → IsChain es → TakesUpFirst l es → All (λ e. length (seen e).procedures ≡ length l.procedures) es → RunsOn l es
all_same l [] chain first many = absurd first
all_same l (e ∷ es) chain first many =
    let p = l.procedures in
    let here : Has p e = as_long p (seen e).procedures first.procedures (All-head (HasAsMany p) e es many) in
    let left = records_now (seen e).past (seen e).opening in
    let rest = subst (λ before. InLine 1 chain.parents left before es) here chain.line.2 in
    record { first = first; procedures = All-cons (Has p) e es here (same_line p 1 chain.parents left es rest (All-tail (HasAsMany p) e es many)) }

many_of : (p : List Named) (es : List EpochValue) → All (Has p) es → All (HasAsMany p) es
many_of p [] same = All-nil (HasAsMany p)
many_of p (e ∷ es) same = All-cons (HasAsMany p) e es (ap length (All-head (Has p) e es same)) (many_of p es (All-tail (Has p) e es same))

pub as_many : (l : LegacyValue) (es : List EpochValue) → RunsOn l es → All (λ e. length (seen e).procedures ≡ length l.procedures) es
as_many l es h = many_of l.procedures es h.procedures
