-- Calls that only move cursors.
use Rattle.std.proofs.Common.{◌≡◌, ◌∙◌, List, ap, refl, subst, sym, Bool, true, false}
use Rattle.sqlite_value.specs.Order.{Row}
use Rattle.sqlite_trees.specs.View.{View, Advances, with_cursor}
use Rattle.tl_ledger.specs.Contents.{OnlyReads, IsAtRest}

pub moved_reads : (old new : View) (left : List Row) → new ≡ with_cursor old 0 left → OnlyReads old new
moved_reads old new left is = record { same = subst (λ (v : View). v ≡ record old { cursors = v.cursors }) (sym is) refl }

pub advanced_reads : (old new : View) (row : Row) (found : Bool) → Advances old new 0 row found → OnlyReads old new
advanced_reads old new row true moves = moved_reads old new moves.0 moves.2
advanced_reads old new row false moves = record { same = subst (λ (v : View). v ≡ record old { cursors = v.cursors }) (sym moves.1) refl }

pub then_reads : (old mid new : View) → OnlyReads old mid → OnlyReads mid new → OnlyReads old new
then_reads old mid new first second = record { same = second.same ∙ ap (λ (v : View). record v { cursors = new.cursors }) first.same }

-- a store that was at rest still is
pub still_rests : (old new : View) → OnlyReads old new → IsAtRest old → IsAtRest new
still_rests old new reads rest = subst IsAtRest (sym reads.same) (record {
  is_open = rest.is_open;
  sound = rest.sound;
  settled = rest.settled;
  tables = rest.tables;
})
