-- Procedures that are read row by row.
use Rattle.std.proofs.Common.{◌≡◌, ◌∙◌, ℕ, zero, suc, ◌+◌, ◌<◌, List, [], ◌∷◌, ◌++◌, length, map, take, get_or, sym, ap, subst, arith, refl}
use Rattle.std.proofs.lemmas.List.{append-nil, length-append, length-map, map-append, map_more, nil_from_length, take_more}
use Rattle.std.proofs.Math.Seq.{take-length}
use Rattle.tl_procedures.specs.Names.{Named, BeginsWith, no_procedure, put, latest, MayPut, MayPutAll}
use Rattle.tl_procedures.proofs.Replacing.{latest_push}
use Rattle.tl_ledger.specs.declared.rows.ProcedureRow.{ProcedureRow}
use Rattle.tl_rows.specs.Rows.{procedure_form, named_form, AreLatest}

pub latest_none : AreLatest [] []
latest_none = ([], refl, refl)

pub latest_more : (rows : List ProcedureRow) (i : ℕ) (d row : ProcedureRow) (old new : List Named) → i < length rows → row ≡ get_or rows i d
    → AreLatest (take i rows) old → ((p : Named) × (named_form p ≡ procedure_form row) × (new ≡ put old p)) → AreLatest (take (i + 1) rows) new
latest_more rows i d row old new inside at so_far added =
    let p = added.0 in (
      so_far.0 ++ p ∷ [],
      map_more procedure_form rows i d inside
          ∙ (λ k. so_far.1 k ++ (ap procedure_form (sym at) ∙ sym added.1) k ∷ [])
          ∙ sym (map-append named_form so_far.0 (p ∷ [])),
      added.2 ∙ ap (λ ps. put ps p) so_far.2 ∙ sym (latest_push [] so_far.0 p),
    )

-- what is known of each procedure that is put
pub next_latest : (those now new : List Named) (i : ℕ) → now ≡ latest [] (take i those) → i < length those → new ≡ put now (get_or those i no_procedure)
    → new ≡ latest [] (take (i + 1) those)
next_latest those now new i is less one =
    one ∙ ap (λ l. put l (get_or those i no_procedure)) is ∙ sym (latest_push [] (take i those) (get_or those i no_procedure))
    ∙ ap (latest []) (sym (take_more those i no_procedure less))

put_at_place : (before those : List Named) (i : ℕ) → MayPutAll before those → i < length those → MayPut (latest before (take i those)) (get_or those i no_procedure)
put_at_place before [] i may less = absurd (omega arith)
put_at_place before (p ∷ those) zero may less = may.0
put_at_place before (p ∷ those) (suc i) may less = put_at_place (put before p) those i may.1 (omega arith)

pub may_put_next : (those now : List Named) (i : ℕ) → MayPutAll [] those → now ≡ latest [] (take i those) → i < length those → MayPut now (get_or those i no_procedure)
may_put_next those now i may is less = subst (λ l. MayPut l (get_or those i no_procedure)) (sym is) (put_at_place [] those i may less)

pub all_put : (rows : List ProcedureRow) (those now : List Named) (n : ℕ) → map procedure_form rows ≡ map named_form those → n ≡ length rows → now ≡ latest [] (take n those)
    → now ≡ latest [] those
all_put rows those now n is all put' =
    let long : length rows ≡ length those = sym (length-map rows procedure_form) ∙ ap length is ∙ length-map those named_form in
    put' ∙ ap (λ k. latest [] (take k those)) (all ∙ long) ∙ ap (latest []) (take-length those)

-- as many procedures that begin with others are those
pub same_procedures : (xs ys : List Named) → length ys ≡ length xs → BeginsWith xs ys → ys ≡ xs
same_procedures xs ys count begins =
    let long = ap length begins.1 ∙ length-append xs begins.0 in
    let none : begins.0 ≡ [] = nil_from_length begins.0 (omega (arith, long, count)) in
    begins.1 ∙ ap (λ more. xs ++ more) none ∙ append-nil xs
