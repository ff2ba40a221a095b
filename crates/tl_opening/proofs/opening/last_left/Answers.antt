use Rattle.std.proofs.Common.{◌≡◌, ◌<◌, ◌∷◌, ◌++◌, [], List, length, sym, ap, ◌∙◌, subst, Global}
use Rattle.std.proofs.lemmas.List.{map-append}
use Rattle.std.specs.Slice.Iter.{iter_rest}
use Rattle.std.specs.Iterator.Adapters.{rev_source}
use Rattle.std.specs.declared.sync.Arc.{Arc}
use Rattle.tl_tree.specs.Records.{Records, record_at}
use Rattle.tl_opening.specs.declared.frees.Left.{Left}
use Rattle.tl_opening.specs.Opening.{records_left, records_behind, epoch_of, epochs_of}
use Rattle.tl_opening.proofs.BehindLemmas.{behind-push, length-behind}
use Rattle.tl_opening.proofs.opening.last_left.Goals as goal

-- the record with what one more epoch left, where that epoch comes last
with_last : (records : Records) (all rest : List (Arc (List Left) Global)) (last : Arc (List Left) Global) → all ≡ rest ++ last ∷ [] → (lefts : List Left) → lefts ≡ epoch_of last → (node : _)
    → record_at (records_behind records (epochs_of all)) node ≡ record_at (records_left (records_behind records (epochs_of rest)) lefts) node
with_last records all rest last is lefts lefts_are node =
    ap (λ hs. record_at (records_behind records (epochs_of hs)) node) is
    ∙ ap (λ es. record_at (records_behind records es) node) (map-append epoch_of rest (last ∷ []))
    ∙ ap (λ t. record_at t node) (behind-push records (epochs_of rest) (epoch_of last))
    ∙ ap (λ ls. record_at (records_left (records_behind records (epochs_of rest)) ls) node) (sym lefts_are)

still_inside : (records : Records) (epochs : List (List Left)) (node : _) → node < length records → node < length (records_behind records epochs)
still_inside records epochs node inside = subst (λ n. node < n) (sym (length-behind records epochs)) inside

pub returns-in-Some-record_of : goal.returns-in-Some-record_of
returns-in-Some-record_of c = λ records inside.
    let rest = iter_rest (rev_source c.next.new.self) in
    let now = records_behind records (epochs_of rest) in
    sym (c.loop-frees.invariant records inside)
    ∙ with_last records (iter_rest (rev_source c.loop-frees.frees-iterator)) rest c.in-Some.frees.now c.in-Some.ensures.steps c.deref.result.now c.deref.ensures c.args.node
    ∙ c.in-Some-record_of.ensures now (still_inside records (epochs_of rest) c.args.node inside)

pub loop-frees-preserved : goal.loop-frees-preserved
loop-frees-preserved c = λ records inside.
    let rest = iter_rest (rev_source c.next.new.self) in
    let now = records_behind records (epochs_of rest) in
    sym (c.in_default.ensures now (still_inside records (epochs_of rest) c.args.node inside))
    ∙ sym (with_last records (iter_rest (rev_source c.loop-frees.frees-iterator)) rest c.in-Some.frees.now c.in-Some.ensures.steps c.deref.result.now c.deref.ensures c.args.node)
    ∙ c.loop-frees.invariant records inside
