-- A chain of trails, one for each epoch: its first fault, and what an auditor's answer says about it.
use Rattle.std.specs.Prelude.{◌≡◌, ◌⊎◌, ℕ, zero, suc, ◌+◌, ◌-◌, ◌<◌, pos, List, [], ◌∷◌, ◌++◌, length, map, replicate, Option, Some, None, slice_get}
use Rattle.tl_width.specs.Fields.{field_count}
use Rattle.tl_tree.specs.Records.{Record, Records}
use Rattle.tl_tree_locking.specs.Alone.{SerialOutcome}
use Rattle.tl_tree_locking.specs.Epochs.{run_each, joined, joined_replies}
use Rattle.tl_tree_locking.specs.Order.{placed}
use Rattle.tl_tree_locking.specs.World.{reply_of}
use Rattle.tl_procedures.specs.Names.{BeginsWith, KeepsNames, AreOtherNames}
use Rattle.tl_serial_order.specs.Order.{OrderValue}
use Rattle.tl_trail.specs.Trails.{TrailValue, IsTrail, call_at, world_of}
use Rattle.tl_trail.specs.Clean.{Clean}
use Rattle.tl_audit.specs.Findings.{IsFirstFault}
use Rattle.tl_audit.specs.declared.fault.AuditFault.{AuditFault}
use Rattle.tl_audit.specs.declared.chain.ChainFault.{ChainFault}
use Rattle.tl_audit.specs.declared.chain.ChainFault.TheVariants.{Broken, InEpoch, Memory}

-- the second trail opens with the tree that the first one ends with, and its procedures begin with those of the first
pub record TakesOver (t u : TrailValue) : Type 0 where
  pub parents : u.parents ≡ t.parents
  pub opening : u.opening ≡ t.ends
  pub procedures : BeginsWith t.procedures u.procedures

-- the record of a node that was appended to a tree
abbrev pub zero_record : Record
zero_record = replicate field_count (pos 0)

-- The second trail opens with the tree that the first one ends with, possibly with nodes appended whose records are
-- zeros. Its procedures begin with those of the first, possibly with other codes.
pub record TakesOverGrown (t u : TrailValue) : Type 0 where
  pub added : List ℕ
  pub parents : u.parents ≡ t.parents ++ added
  pub opening : u.opening ≡ t.ends ++ replicate (length added) zero_record
  pub procedures : KeepsNames t.procedures u.procedures

-- what precedes a trail: nothing, another file that ends with this trail, or this trail of its own chain
pub data Before : Type 0 where
  Nothing : Before
  AfterFile : TrailValue → Before
  AfterTrail : TrailValue → Before

abbrev pub after_file : Option TrailValue → Before
after_file None = Nothing
after_file (Some t) = AfterFile t

abbrev pub after_trail : Option TrailValue → Before
after_trail None = Nothing
after_trail (Some t) = AfterTrail t

-- the trail continues what precedes it; nodes are appended and procedures replaced only between files
abbrev pub TakesOverFrom : Before → TrailValue → Type 0
TakesOverFrom Nothing u = Unit {0}
TakesOverFrom (AfterFile t) u = TakesOverGrown t u
TakesOverFrom (AfterTrail t) u = TakesOver t u

-- each trail continues what precedes it, and is clean
abbrev pub CleanAfter : Before → List TrailValue → Type 0
CleanAfter before [] = Unit {0}
CleanAfter before (t ∷ ts) = TakesOverFrom before t × Clean t × CleanAfter (AfterTrail t) ts

abbrev pub IsCleanChain : List TrailValue → Type 0
IsCleanChain ts = CleanAfter Nothing ts

-- The first fault of these trails, which are numbered from n on: a trail doesn't continue what precedes it, or otherwise its own first fault.
abbrev pub IsFirstAfter : ℕ → Before → List TrailValue → ChainFault → Type 0
IsFirstAfter n before [] f = ⊥
IsFirstAfter n before (t ∷ ts) f =
    ((f ≡ Broken n) × ¬ TakesOverFrom before t)
    ⊎ (TakesOverFrom before t
    × (((g : AuditFault) × (f ≡ InEpoch n g) × IsFirstFault t g) ⊎ (Clean t × IsFirstAfter (n + 1) (AfterTrail t) ts f)))

abbrev pub IsFirstChainFault : List TrailValue → ChainFault → Type 0
IsFirstChainFault ts f = IsFirstAfter 0 Nothing ts f

-- ---- chains one after another

-- what precedes a trail that follows these, where `before` precedes the first of them
abbrev pub last_after : Before → List TrailValue → Before
last_after before [] = before
last_after before (t ∷ ts) = last_after (AfterTrail t) ts

-- each chain continues the last trail before it, and is clean
abbrev pub AreCleanAfter : Before → List (List TrailValue) → Type 0
AreCleanAfter before [] = Unit {0}
AreCleanAfter before (ts ∷ chains) = CleanAfter before ts × AreCleanAfter (last_after before ts) chains

-- all trails of these chains
abbrev pub trails_of : List (List TrailValue) → List TrailValue
trails_of [] = []
trails_of (ts ∷ chains) = ts ++ trails_of chains

-- the same fault, with n added to the trail's number
abbrev pub numbered_from : ℕ → ChainFault → ChainFault
numbered_from n (Broken m) = Broken (n + m)
numbered_from n (InEpoch m f) = InEpoch (n + m) f
numbered_from n Memory = Memory

-- ---- what follows

-- the order that the trail's events determine
abbrev pub order_of : TrailValue → List ℕ
order_of t = placed t.parents t.past

abbrev pub opening_of : List TrailValue → Records
opening_of [] = []
opening_of (t ∷ ts) = t.opening

-- the end records of the last trail
abbrev pub ends_of : List TrailValue → Records
ends_of [] = []
ends_of (t ∷ []) = t.ends
ends_of (t ∷ u ∷ ts) = ends_of (u ∷ ts)

-- the reply of each call is the one that it gives in its world
abbrev pub TellTheReplies : List TrailValue → Type 0
TellTheReplies [] = Unit {0}
TellTheReplies (t ∷ ts) = ((c : ℕ) → c < length t.calls → (call_at t c).reply ≡ Some (reply_of (world_of t) c)) × TellTheReplies ts

abbrev pub AreTrails : List TrailValue → Type 0
AreTrails [] = Unit {0}
AreTrails (t ∷ ts) = IsTrail t × AreTrails ts

-- run alone in these orders joined, from the first opening tree, all calls leave the last end records and give their replies
pub record AreSerial (ts : List TrailValue) (orders : List (List ℕ)) : Type 0 where
  pub tree : (run_each (joined (map world_of ts) orders) (opening_of ts)).tree ≡ ends_of ts
  pub replies : (run_each (joined (map world_of ts) orders) (opening_of ts)).replies ≡ joined_replies (map world_of ts) orders
  pub told : TellTheReplies ts

-- what precedes the trail with this number
abbrev pub before_at : Before → List TrailValue → ℕ → Before
before_at before ts zero = before
before_at before ts (suc n) = after_trail (slice_get ts n)

-- ---- files one after another

-- the names of those procedures of the trail before that have other codes in the first of these trails; none if there is no trail before
abbrev pub AreReplacedNames : Option TrailValue → List TrailValue → List (List ℕ) → Type 0
AreReplacedNames None ts names = names ≡ []
AreReplacedNames (Some t) [] names = names ≡ []
AreReplacedNames (Some t) (u ∷ us) names = AreOtherNames t.procedures u.procedures names

-- the last of these trails; `before` if there are none
abbrev pub last_trail : Option TrailValue → List TrailValue → Option TrailValue
last_trail before [] = before
last_trail before (t ∷ ts) = last_trail (Some t) ts

-- each file continues the last trail of the file before it, and is clean
abbrev pub AreCleanFiles : Option TrailValue → List (List TrailValue) → Type 0
AreCleanFiles before [] = Unit {0}
AreCleanFiles before (ts ∷ files) = CleanAfter (after_file before) ts × AreCleanFiles (last_trail before ts) files

-- runs the calls of all files alone, in the joined orders of each; before a file, zero records are appended for the new nodes
abbrev pub run_files : List (List TrailValue) → Records → SerialOutcome
run_files [] records = record { tree = records; replies = [] }
run_files (ts ∷ files) records =
    let own = run_each (joined (map world_of ts) (map order_of ts)) (records ++ replicate (length (opening_of ts) - length records) zero_record) in
    let later = run_files files own.tree in
    record { tree = later.tree; replies = own.replies ++ later.replies }

-- from the first opening tree this leaves the last end records, and each call gives its reply
pub record AreSerialFiles (files : List (List TrailValue)) : Type 0 where
  pub tree : (run_files files (opening_of (trails_of files))).tree ≡ ends_of (trails_of files)
  pub replies : (run_files files (opening_of (trails_of files))).replies ≡ joined_replies (map world_of (trails_of files)) (map order_of (trails_of files))
  pub told : TellTheReplies (trails_of files)

-- the fault of the trail with this number, where the trails before it are clean
abbrev pub IsFaultAt : ℕ → Before → TrailValue → ChainFault → Type 0
IsFaultAt n before t f =
    ((f ≡ Broken n) × ¬ TakesOverFrom before t)
    ⊎ (TakesOverFrom before t × ((g : AuditFault) × (f ≡ InEpoch n g) × IsFirstFault t g))

abbrev pub calls_in : OrderValue → List ℕ
calls_in o = o.calls
