-- The records that epochs leave behind, one after another.
use Rattle.std.specs.Prelude.{List, [], ◌∷◌, map}
use Rattle.std.specs.Arc.{arc_value}
use Rattle.std.specs.declared.alloc.Global.{Global}
use Rattle.std.specs.declared.sync.Arc.{Arc}
use Rattle.tl_tree.specs.Records.{Records, put_record}
use Rattle.tl_opening.specs.declared.frees.Left.{Left}

-- the records once each of these nodes was left with its record, the earliest first
abbrev pub records_left : Records → List Left → Records
records_left records [] = records
records_left records (left ∷ later) = records_left (put_record records left.node left.fields) later

-- the records that several epochs leave, the earliest first
abbrev pub records_behind : Records → List (List Left) → Records
records_behind records [] = records
records_behind records (lefts ∷ later) = records_behind (records_left records lefts) later

-- what an epoch left that is shared
abbrev pub epoch_of : Arc (List Left) Global → List Left
epoch_of handle = arc_value handle

abbrev pub epochs_of : List (Arc (List Left) Global) → List (List Left)
epochs_of handles = map epoch_of handles
