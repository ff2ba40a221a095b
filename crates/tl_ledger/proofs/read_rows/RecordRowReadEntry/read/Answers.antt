use Rattle.std.proofs.Common.{rules, FitsSigned, ◌≡◌, ℤ, pos, ◌+◌, ◌<◌, ◌∷◌, take, map, length, length-set, get_or, slice_set, w64, to_z, of_z, refl, sym, ap, ◌∙◌, subst, arith}
use Rattle.std.proofs.lemmas.List.{take_more, take_more_set, take_all}
use Rattle.std.proofs.lemmas.Int.{to_z-of_z}
use Rattle.sqlite_value.specs.Order.{column}
use Rattle.tl_ledger.specs.News.{record_columns, fields_columns}
use Rattle.tl_ledger.specs.declared.rows.TheConstants.{FIELDS}
use Rattle.tl_ledger.specs.declared.rows.RecordRow.{RecordRow}
use Rattle.tl_ledger.proofs.FieldLemmas.{field_column, one_field_more}
use Rattle.tl_ledger.proofs.read_rows.RecordRowReadEntry.read.Goals as goal

pub loop-number-preserved : goal.loop-number-preserved
loop-number-preserved c =
    let at = c.loop-number.number in
    let fits : FitsSigned w64 c.integer_at.result = search rules in
    let long = c.loop-number.invariant.0 in (
      length-set c.loop-number.fields at _ ∙ long,
      λ x number whole is.
          let inside : at < length x.fields = omega (arith, whole) in
          let read : c.integer_at.result ≡ get_or x.fields at (pos 0) = c.integer_at.ensures (get_or x.fields at (pos 0)) (ap (λ r. column r (at + 2)) is ∙ field_column number x.fields at inside) in
          one_field_more c.loop-number.fields x.fields at _ (omega (arith, long)) inside (to_z-of_z w64 c.integer_at.result fits ∙ read) (c.loop-number.invariant.1 x number whole is),
    )

pub returns-clause-again : goal.returns-clause-again
returns-clause-again c = λ x number whole is.
    let all : c.loop-number.number ≡ FIELDS = omega (arith, c.loop-number.auto.number-end) in
    let same : c.loop-number.fields ≡ x.fields =
    sym (take_all c.loop-number.number c.loop-number.fields (omega (arith, all, c.loop-number.invariant.0))) ∙ c.loop-number.invariant.1 x number whole is ∙ take_all c.loop-number.number x.fields (omega (arith, all, whole)) in
    c.if_row_of.ensures.again (is ∙ ap (λ n. n ∷ record_columns x) (sym (ap (λ r. column r 0) is)) ∙ ap (λ fields. column c.args.row.now 0 ∷ fields_columns fields) (sym same))
