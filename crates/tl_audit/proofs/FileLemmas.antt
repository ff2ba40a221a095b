-- Files one after another, between which nodes may have been appended.
use Rattle.std.proofs.Common.{◌≡◌, ℕ, ◌-◌, ◌≤◌, ℤ, List, [], ◌∷◌, ◌++◌, length, map, replicate, Some, None, refl, sym, ap, ◌∙◌, subst, append_assoc, arith}
use Rattle.std.proofs.lemmas.List.{append-nil, length-append, length-replicate}
use Rattle.tl_procedures.proofs.Prefixes.{keeps_shorter}
use Rattle.tl_tree.specs.Records.{Records}
use Rattle.tl_tree_locking.specs.World.{reply_of}
use Rattle.tl_tree_locking.specs.Epochs.{run_each, joined, joined_replies}
use Rattle.tl_trail.specs.Trails.{TrailValue, world_of}
use Rattle.tl_audit.specs.Chains.{TakesOverGrown, AfterFile, after_file, CleanAfter, AreTrails, AreCleanFiles, AreSerialFiles, TellTheReplies, run_files, trails_of, opening_of, ends_of, last_trail, order_of, zero_record}
use Rattle.tl_audit.proofs.ChainLemmas.{chain_serial, by_itself}

-- these records, filled up with zero records to n
abbrev filled : ℕ → Records → Records
filled n records = records ++ replicate (n - length records) zero_record

filled_enough : (n : ℕ) (records : Records) → n - length records ≡ 0 → filled n records ≡ records
filled_enough n records none = ap (λ k. records ++ replicate k zero_record) none ∙ append-nil records

filled_grown : (t u : TrailValue) → TakesOverGrown t u → filled (length u.opening) t.ends ≡ u.opening
filled_grown t u h =
    let size = ap length h.opening ∙ length-append t.ends (replicate (length h.added) zero_record) in
    let zeros = length-replicate (length h.added) zero_record in
    let count : length u.opening - length t.ends ≡ length h.added = omega (arith, size, zeros) in
    ap (λ k. t.ends ++ replicate k zero_record) count ∙ sym h.opening

-- the first of the trails has as many procedures as the trail before it
pub keeps_count : (t u : TrailValue) (us : List TrailValue) → CleanAfter (AfterFile t) (u ∷ us) → length t.procedures ≤ length u.procedures
keeps_count t u us clean = keeps_shorter t.procedures u.procedures clean.0.procedures

-- ---- one file

abbrev replies_of : List TrailValue → List (List ℤ)
replies_of ts = joined_replies (map world_of ts) (map order_of ts)

replies_join : (ts us : List TrailValue) → replies_of (ts ++ us) ≡ replies_of ts ++ replies_of us
replies_join [] us = refl
replies_join (t ∷ ts) us =
    let own = map (reply_of (world_of t)) (order_of t) in
    ap (λ rs. own ++ rs) (replies_join ts us) ∙ sym (append_assoc own (replies_of ts) (replies_of us))

trails_apart : (ts us : List TrailValue) → AreTrails (ts ++ us) → AreTrails ts × AreTrails us
trails_apart [] us h = (tt, h)
trails_apart (t ∷ ts) us h = let rest = trails_apart ts us h.1 in ((h.0, rest.0), rest.1)

told_both : (ts us : List TrailValue) → TellTheReplies ts → TellTheReplies us → TellTheReplies (ts ++ us)
told_both [] us h k = k
told_both (t ∷ ts) us h k = (h.0, told_both ts us h.1 k)

-- the end records of the last trail, where these trails follow t
abbrev ends_after : TrailValue → List TrailValue → Records
ends_after t [] = t.ends
ends_after t (u ∷ us) = ends_of (u ∷ us)

last_end : (t : TrailValue) (us : List TrailValue) → ends_of (t ∷ us) ≡ ends_after t us
last_end t [] = refl
last_end t (u ∷ us) = refl

-- the last of these trails
last_there : (t : TrailValue) (ts : List TrailValue) → (v : TrailValue) × (last_trail (Some t) ts ≡ Some v) × ((us : List TrailValue) → ends_of ((t ∷ ts) ++ us) ≡ ends_after v us)
last_there t [] = (t, refl, last_end t)
last_there t (u ∷ us) = let h = last_there u us in (h.0, h.1, h.2)

-- ---- all files

record IsSerialAfter (records ends : Records) (files : List (List TrailValue)) : Type 0 where
  tree : (run_files files records).tree ≡ ends
  replies : (run_files files records).replies ≡ replies_of (trails_of files)
  told : TellTheReplies (trails_of files)

-- one more file, whose calls are run from its opening tree
file_more : (records : Records) (u : TrailValue) (us : List TrailValue) (files : List (List TrailValue)) (v : TrailValue)
    → CleanAfter (after_file None) (u ∷ us) → AreTrails (u ∷ us) → filled (length u.opening) records ≡ u.opening
    → ends_of (u ∷ us) ≡ v.ends → IsSerialAfter v.ends (ends_after v (trails_of files)) files
    → IsSerialAfter records (ends_after v (trails_of files)) ((u ∷ us) ∷ files)
file_more records u us files v clean trails opening ends later =
    let calls = joined (map world_of (u ∷ us)) (map order_of (u ∷ us)) in
    let own = chain_serial (u ∷ us) clean trails in
    let tree : (run_each calls (filled (length u.opening) records)).tree ≡ v.ends = ap (λ r. (run_each calls r).tree) opening ∙ own.tree ∙ ends in
    let replies : (run_each calls (filled (length u.opening) records)).replies ≡ replies_of (u ∷ us) = ap (λ r. (run_each calls r).replies) opening ∙ own.replies in
    record {
      tree = ap (λ r. (run_files files r).tree) tree ∙ later.tree;
      replies =
          (λ i. replies i ++ (run_files files (tree i)).replies)
          ∙ ap (λ rs. replies_of (u ∷ us) ++ rs) later.replies
          ∙ sym (replies_join (u ∷ us) (trails_of files));
      told = told_both (u ∷ us) (trails_of files) own.told later.told;
    }

-- a file without trails changes nothing
file_none : (records ends : Records) (files : List (List TrailValue)) → IsSerialAfter records ends files → IsSerialAfter records ends ([] ∷ files)
file_none records ends files later =
    let same : filled 0 records ≡ records = filled_enough 0 records (omega arith) in
    record {
      tree = ap (λ r. (run_files files r).tree) same ∙ later.tree;
      replies = ap (λ r. (run_files files r).replies) same ∙ later.replies;
      told = later.told;
    }

files_after : (t : TrailValue) (files : List (List TrailValue)) → AreCleanFiles (Some t) files → AreTrails (trails_of files)
    → IsSerialAfter t.ends (ends_after t (trails_of files)) files
files_after t [] clean trails = record { tree = refl; replies = refl; told = tt }
files_after t ([] ∷ files) clean trails = file_none t.ends (ends_after t (trails_of files)) files (files_after t files clean.1 trails)
files_after t ((u ∷ us) ∷ files) clean trails =
    let apart = trails_apart (u ∷ us) (trails_of files) trails in
    let v = last_there u us in
    let next = files_after v.0 files (subst (λ o. AreCleanFiles o files) v.1 clean.1) apart.1 in
    let ends : ends_of (u ∷ us) ≡ v.0.ends = ap ends_of (sym (append-nil (u ∷ us))) ∙ v.2 [] in
    let own = file_more t.ends u us files v.0 (by_itself (after_file (Some t)) (u ∷ us) clean.0) apart.0 (filled_grown t u clean.0.0) ends next in
    subst (λ e. IsSerialAfter t.ends e ((u ∷ us) ∷ files)) (sym (v.2 (trails_of files))) own

pub files_serial : (files : List (List TrailValue)) → AreCleanFiles None files → AreTrails (trails_of files) → AreSerialFiles files
files_serial [] clean trails = record { tree = refl; replies = refl; told = tt }
files_serial ([] ∷ files) clean trails =
    let rest = files_serial files clean.1 trails in
    let all = file_none (opening_of (trails_of files)) (ends_of (trails_of files)) files (record { tree = rest.tree; replies = rest.replies; told = rest.told }) in
    record { tree = all.tree; replies = all.replies; told = all.told }
files_serial ((u ∷ us) ∷ files) clean trails =
    let apart = trails_apart (u ∷ us) (trails_of files) trails in
    let v = last_there u us in
    let next = files_after v.0 files (subst (λ o. AreCleanFiles o files) v.1 clean.1) apart.1 in
    let ends : ends_of (u ∷ us) ≡ v.0.ends = ap ends_of (sym (append-nil (u ∷ us))) ∙ v.2 [] in
    let opening : filled (length u.opening) u.opening ≡ u.opening = filled_enough (length u.opening) u.opening (omega arith) in
    let own = file_more u.opening u us files v.0 clean.0 apart.0 opening ends next in
    record { tree = own.tree ∙ sym (v.2 (trails_of files)); replies = own.replies; told = own.told }
