-- A table that goes on, is sealed, closed and opened again.
use Rattle.std.proofs.Common.{◌≡◌, ℕ, ◌+◌, ◌<◌, ◌≤◌, List, [], ◌∷◌, ◌++◌, length, refl, sym, subst, arith}
use Rattle.std.proofs.lemmas.List.{length-append}
use Rattle.tl_tree.specs.Records.{Records}
use Rattle.tl_tree_locking.specs.History.{records_now}
use Rattle.tl_procedures.specs.Names.{Named}
use Rattle.tl_table.specs.declared.epoch.TheConstants.{MAX_EPOCHS}
use Rattle.tl_table.specs.Epochs.{EpochValue, seen, GoesOn, epoch_after}
use Rattle.tl_table.specs.Tables.{TableValue, all_epochs, IsNext, IsRested, InLine, IsChain, records_after, procedures_after}
use Rattle.tl_table.specs.Stored.{IsTable}
use Rattle.tl_table.proofs.Lines.{next_goes_on, after_next, line_more, line_less, records_after-more, procedures_after-more}

pub table_goes_on : (t : TableValue) (capacity : ℕ) (e : EpochValue) → IsTable t capacity → GoesOn t.current e → IsTable (record { sealed = t.sealed; current = e }) capacity
table_goes_on t capacity e h g = record {
  parents = h.parents;
  opening = h.opening;
  line = h.line;
  next = next_goes_on (length t.sealed) h.parents (records_after h.opening t.sealed) (procedures_after [] t.sealed) t.current e h.next g;
  few = h.few;
  room = h.room;
}

whole_line : (t : TableValue) (capacity : ℕ) → (h : IsTable t capacity) → IsRested t.current → InLine 0 h.parents h.opening [] (all_epochs t)
whole_line t capacity h rested = line_more 0 (length t.sealed) h.parents h.opening [] t.sealed t.current h.line (omega arith) h.next rested

pub table_sealed : (t : TableValue) (capacity room : ℕ) → IsTable t capacity → IsRested t.current → length t.sealed + 1 < MAX_EPOCHS → length t.sealed + 2 ≤ room
    → IsTable (record { sealed = t.sealed ++ t.current ∷ []; current = epoch_after t.current }) room
table_sealed t capacity room h rested few fits =
    let long : length (t.sealed ++ t.current ∷ []) ≡ length t.sealed + 1 = length-append t.sealed (t.current ∷ []) in
    let after = after_next (length t.sealed) h.parents (records_after h.opening t.sealed) (procedures_after [] t.sealed) t.current h.next in
    let records = records_after-more h.opening t.sealed t.current in
    let procedures = procedures_after-more [] t.sealed t.current in
    record {
      parents = h.parents;
      opening = h.opening;
      line = whole_line t capacity h rested;
      next = subst (λ n. IsNext n h.parents (records_after h.opening (t.sealed ++ t.current ∷ [])) (procedures_after [] (t.sealed ++ t.current ∷ [])) (epoch_after t.current)) (sym long)
          (subst (λ (rs : Records). IsNext (length t.sealed + 1) h.parents rs (procedures_after [] (t.sealed ++ t.current ∷ [])) (epoch_after t.current)) (sym records)
          (subst (λ (ps : List Named). IsNext (length t.sealed + 1) h.parents (records_now (seen t.current).past (seen t.current).opening) ps (epoch_after t.current)) (sym procedures) after));
      few = omega (arith, long, few);
      room = omega (arith, long, fits);
    }

pub table_chain : (t : TableValue) (capacity : ℕ) → IsTable t capacity → IsRested t.current → IsChain (all_epochs t)
table_chain t capacity h rested =
    let long : length (all_epochs t) ≡ length t.sealed + 1 = length-append t.sealed (t.current ∷ []) in
    let few = h.few in
    record {
      parents = h.parents;
      opening = h.opening;
      line = whole_line t capacity h rested;
      some = omega (arith, long);
      few = omega (arith, long, few);
    }

pub chain_table : (es : List EpochValue) (e : EpochValue) (capacity : ℕ) → IsChain (es ++ e ∷ []) → length es + 1 ≤ capacity → IsTable (record { sealed = es; current = e }) capacity
chain_table es e capacity h room =
    let long : length (es ++ e ∷ []) ≡ length es + 1 = length-append es (e ∷ []) in
    let few = h.few in
    let parts = line_less 0 (length es) h.parents h.opening [] es e h.line (omega arith) in
    record {
      parents = h.parents;
      opening = h.opening;
      line = parts.0;
      next = parts.1;
      few = omega (arith, long, few);
      room = room;
    }

pub table_begins : (e : EpochValue) (capacity : ℕ) → e.number ≡ 0 → 1 ≤ capacity → IsTable (record { sealed = []; current = e }) capacity
table_begins e capacity number room = record {
  parents = (seen e).parents;
  opening = (seen e).opening;
  line = tt;
  next = record { number = number; parents = refl; opening = refl; procedures = ((seen e).procedures, refl) };
  few = (let z : 0 < 256 = omega arith in z);
  room = room;
}
