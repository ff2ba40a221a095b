-- Trails in files one after another.
use Rattle.std.specs.Prelude.{◌≡◌, ◌≤◌, ◌<◌, ℕ, List, [], ◌∷◌, ◌++◌, length, Option, Some, None}
use Rattle.tl_audit.specs.Chains.{AreCleanFiles, trails_of}
use Rattle.tl_core.specs.Cores.{CoreValue}
use Rattle.tl_core.specs.Reached.{IsReached}
use Rattle.tl_tree.specs.Trees.{TreeValue}
use Rattle.tl_store_history.specs.History.{PastEpoch, HasHistory}
use Rattle.tl_export.specs.Exported.{AreTrailsOf, AreOfHistory}
use Rattle.tl_file_export.specs.declared.splitting.Ending.{Ending}
use Rattle.tl_ledger.specs.Contents.{Contents}
use Rattle.tl_procedures.specs.Names.{BeginsWith}
use Rattle.tl_trail.specs.Trails.{TrailValue}
use Rattle.tl_trail.specs.declared.chain.TheConstants.{MAX_TRAILS}

abbrev pub FileList : Type 0
FileList = List (List TrailValue)

-- whatever files there were, they became this
abbrev pub Became : (FileList → FileList) → (FileList → Type 0) → (FileList → Type 0) → Type 0
Became f old new = (files : FileList) → old files → new (f files)

-- the files, and one more that begins with the trail
abbrev pub begun : TrailValue → FileList → FileList
begun t files = files ++ (t ∷ []) ∷ []

-- the files with the trail behind the last one's; a file of its own if there is none
abbrev pub with_more : TrailValue → FileList → FileList
with_more t [] = (t ∷ []) ∷ []
with_more t (ts ∷ []) = (ts ++ t ∷ []) ∷ []
with_more t (ts ∷ us ∷ files) = ts ∷ with_more t (us ∷ files)

-- whatever files there were, one at least, the last of them got the trail
abbrev pub GotMore : TrailValue → (FileList → Type 0) → (FileList → Type 0) → Type 0
GotMore t old new = (ts : List TrailValue) (files : FileList) → old (ts ∷ files) → new (with_more t (ts ∷ files))

-- what a trail leaves to the next: its number of nodes, and its procedures
abbrev pub ending_of : TrailValue → Ending
ending_of t = record { nodes = length t.parents; procedures = t.procedures }

-- no node was appended, and no procedure replaced
pub record GoesOn (e : Ending) (t : TrailValue) : Type 0 where
  pub nodes : length t.parents ≡ e.nodes
  pub procedures : BeginsWith e.procedures t.procedures

-- each of these trails goes on from the one before, the first from e, and this is what the last one leaves
abbrev pub AreInLine : Ending → List TrailValue → Ending → Type 0
AreInLine e [] last = e ≡ last
AreInLine e (t ∷ ts) last = GoesOn e t × AreInLine (ending_of t) ts last

abbrev pub IsLine : List TrailValue → Ending → Type 0
IsLine [] last = ⊥
IsLine (t ∷ ts) last = AreInLine (ending_of t) ts last

-- A file has 1 to 256 trails, each of which goes on from the one before. The last one leaves this.
pub record IsFile (last : Ending) (ts : List TrailValue) : Type 0 where
  pub few : length ts ≤ MAX_TRAILS
  pub line : IsLine ts last

-- the first of these trails goes on from e
abbrev pub BeginsOn : Ending → List TrailValue → Type 0
BeginsOn e [] = ⊥
BeginsOn e (t ∷ ts) = GoesOn e t

-- The file is followed by that one where it is full, or where nodes were appended or procedures replaced.
pub record IsFollowed (ts us : List TrailValue) : Type 0 where
  pub last : Ending
  pub file : IsFile last ts
  pub reason : length ts < MAX_TRAILS → BeginsOn last us → ⊥

-- each file is followed by the next one, and the last has so many trails and leaves this
abbrev pub AreSplit : Option Ending → ℕ → FileList → Type 0
AreSplit last count [] = count ≡ 0
AreSplit last count (ts ∷ []) = (e : Ending) × (last ≡ Some e) × IsFile e ts × (length ts ≡ count)
AreSplit last count (ts ∷ us ∷ files) = IsFollowed ts us × AreSplit last count (us ∷ files)

-- the files are as few as that allows, whatever the last one has
abbrev pub AreInFiles : FileList → Type 0
AreInFiles files = (last : Option Ending) × (count : ℕ) × AreSplit last count files

-- the trails are those of all these files, of which the last has so many and leaves this
abbrev pub AreKept : (FileList → Type 0) → Option Ending → ℕ → List TrailValue → Type 0
AreKept has last count trails = (files : FileList) × has files × AreSplit last count files × (trails_of files ≡ trails)

-- so many files, of so many trails in all
abbrev pub AreSoMany : ℕ → ℕ → FileList → Type 0
AreSoMany count trails files = (length files ≡ count) × (length (trails_of files) ≡ trails)

-- All trails of a store are in the files, where the store is clean: whatever its tables hold, they are the trails of that, and of its history where it has one. An auditor
-- finds the files clean, and that each continues the one before.
abbrev pub HasExported : (FileList → Type 0) → Type 0 → (Contents → Type 0) → Type 0
HasExported has clean holds = (files : FileList) × has files × AreInFiles files × AreCleanFiles None files × (clean → (c : Contents) → holds c → AreTrailsOf c (trails_of files))
    × (clean → (c : Contents) (t : TreeValue) (es : List PastEpoch) (v : CoreValue) → holds c → HasHistory c t es v → IsReached v → AreOfHistory es v (trails_of files))
