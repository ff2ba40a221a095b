-- Clean trails, each in a file of its own, are clean in files where each goes on from the one before.
use Rattle.std.proofs.Common.{◌≡◌, ℕ, ◌+◌, List, [], ◌∷◌, ◌++◌, length, replicate, Option, Some, sym, ap, ◌∙◌, arith}
use Rattle.std.proofs.lemmas.List.{append-nil, length-append, nil_from_length}
use Rattle.tl_trail.specs.Trails.{TrailValue}
use Rattle.tl_audit.specs.Chains.{TakesOver, TakesOverGrown, CleanAfter, AfterTrail, AreCleanFiles, after_file, last_trail, trails_of, zero_record}
use Rattle.tl_export.specs.Exported.{files_of}
use Rattle.tl_file_export.specs.Filed.{FileList, ending_of, GoesOn, AreInLine, IsLine, AreSplit}
use Rattle.tl_file_export.specs.declared.splitting.Ending.{Ending}

-- no node was appended, and no procedure replaced
not_changed : (t u : TrailValue) → GoesOn (ending_of t) u → TakesOverGrown t u → TakesOver t u
not_changed t u on grown =
    let count : length u.parents ≡ length t.parents = on.nodes in
    let sum : length u.parents ≡ length t.parents + length grown.added = ap length grown.parents ∙ length-append t.parents grown.added in
    let none : grown.added ≡ [] = nil_from_length grown.added (omega (arith, count, sum)) in
    record {
      parents = grown.parents ∙ ap (λ xs. t.parents ++ xs) none ∙ append-nil t.parents;
      opening = grown.opening ∙ ap (λ (xs : List ℕ). t.ends ++ replicate (length xs) zero_record) none ∙ append-nil t.ends;
      procedures = on.procedures;
    }

-- the trails behind one of a file, and those of the files behind it
rest_of_file : (t : TrailValue) (us rest : List TrailValue) (last : Ending) → AreInLine (ending_of t) us last → AreCleanFiles (Some t) (files_of (us ++ rest))
    → CleanAfter (AfterTrail t) us × AreCleanFiles (last_trail (Some t) us) (files_of rest)
rest_of_file t [] rest last line clean = (tt, clean)
rest_of_file t (u ∷ us) rest last line clean =
    let later = rest_of_file u us rest last line.1 clean.1 in
    ((not_changed t u line.0 clean.0.0, clean.0.1, later.0), later.1)

one_file : (before : Option TrailValue) (ts rest : List TrailValue) (last : Ending) → IsLine ts last → AreCleanFiles before (files_of (ts ++ rest))
    → CleanAfter (after_file before) ts × AreCleanFiles (last_trail before ts) (files_of rest)
one_file before [] rest last line clean = absurd line
one_file before (t ∷ us) rest last line clean =
    let later = rest_of_file t us rest last line clean.1 in
    ((clean.0.0, clean.0.1, later.0), later.1)

pub all_files : (last : Option Ending) (c : ℕ) (before : Option TrailValue) (fs : FileList) → AreSplit last c fs → AreCleanFiles before (files_of (trails_of fs)) → AreCleanFiles before fs
all_files last c before [] split clean = tt
all_files last c before (ts ∷ []) split clean = ((one_file before ts [] split.0 split.2.line clean).0, tt)
all_files last c before (ts ∷ us ∷ fs) split clean =
    let first = one_file before ts (trails_of (us ∷ fs)) split.0.last split.0.file.line clean in
    (first.0, all_files last c (last_trail before ts) (us ∷ fs) split.1 first.1)
