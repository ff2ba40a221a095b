-- The trails of a store.
use Rattle.std.specs.Prelude.{◌≡◌, ℕ, ◌+◌, List, [], ◌∷◌, ◌++◌, length, map, slice_get, Some, None}
use Rattle.tl_tree.specs.Records.{Records}
use Rattle.tl_core.specs.Cores.{CoreValue}
use Rattle.tl_trail.specs.Trails.{TrailValue}
use Rattle.tl_audit.specs.Chains.{AreCleanFiles, last_trail, opening_of}
use Rattle.tl_ledger.specs.Contents.{Contents}
use Rattle.tl_rows.specs.Rows.{fields_in}
use Rattle.tl_store_history.specs.History.{PastEpoch, core_at}
use Rattle.tl_export.specs.declared.plan.Plan.{Plan}
use Rattle.tl_export.specs.Plans.{IsPlanOf}
use Rattle.tl_export.specs.Epochs.{nodes_at, records_for, IsTrailOf, IsEndOf}

-- whatever trails were taken before, these are taken behind them
abbrev pub TookMore : (List TrailValue → Type 0) → List TrailValue → (List TrailValue → Type 0) → Type 0
TookMore old trails new = (before : List TrailValue) → old before → new (before ++ trails)

-- each trail in a file of its own
abbrev pub files_of : List TrailValue → List (List TrailValue)
files_of trails = map (λ t. t ∷ []) trails

-- the auditor finds each of them clean, and that it continues the one before; nodes may have been appended in between
abbrev pub AreClean : List TrailValue → Type 0
AreClean trails = AreCleanFiles None (files_of trails)

-- trail n is that of epoch n
abbrev pub EachIsOf : Contents → Plan → List TrailValue → Type 0
EachIsOf c p trails = (n : ℕ) (t : TrailValue) → slice_get trails n ≡ Some t → IsTrailOf c p n t

-- the records at the store's opening, with zeros for the nodes that were appended before the first epoch's calls
abbrev pub first_records : Plan → Records
first_records p = records_for p None (nodes_at 0 p.nodes.items)

-- the trails up to that of epoch n, which is `last`, are clean and begin with the records at the store's opening
pub record IsAlong (p : Plan) (n : ℕ) (trails : List TrailValue) (last : TrailValue) : Type 0 where
  pub clean : AreClean trails
  pub count : length trails ≡ n + 1
  pub last_is : last_trail None trails ≡ Some last
  pub opening : opening_of trails ≡ first_records p

-- The trails of all epochs: those that are sealed, and the one after. The first begins with the records at the store's opening, and the last
-- with those that the store has.
pub record AreTrailsOf (c : Contents) (trails : List TrailValue) : Type 0 where
  pub plan : Plan
  pub is_plan : IsPlanOf c plan
  pub count : length trails ≡ length plan.seals.items + 1
  pub each : EachIsOf c plan trails
  pub opening : opening_of trails ≡ first_records plan
  pub records : (last : TrailValue) → last_trail None trails ≡ Some last → last.opening ≡ map fields_in plan.records.items

-- trail n is that of the n-th of these epochs, and the one behind them that of v at the end of its calls
abbrev pub EachIsEnd : List PastEpoch → CoreValue → List TrailValue → Type 0
EachIsEnd es v trails = (n : ℕ) (t : TrailValue) → slice_get trails n ≡ Some t → IsEndOf (core_at es v n) t

-- the trails of these epochs, and one of v
pub record AreOfHistory (es : List PastEpoch) (v : CoreValue) (trails : List TrailValue) : Type 0 where
  pub many : length trails ≡ length es + 1
  pub each : EachIsEnd es v trails
