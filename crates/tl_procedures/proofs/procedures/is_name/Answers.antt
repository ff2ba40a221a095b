use Rattle.std.proofs.Common.{rules, tests, ◌≡◌, nat_lt, nat_le, length, true}
use Rattle.std.specs.List.{list_all}
use Rattle.std.proofs.lemmas.Iterator.{YieldsList-from_slice}
use Rattle.std.proofs.lemmas.Iterator.Search.{all_from_yields_List}
use Rattle.tl_procedures.specs.declared.procedures.TheConstants.{MAX_NAME}
use Rattle.tl_procedures.specs.Names.{is_name_byte}
use Rattle.tl_procedures.proofs.procedures.is_name.Goals as goal

pub returns-then-name-le-MAX_NAME : goal.returns-then-name-le-MAX_NAME
returns-then-name-le-MAX_NAME c =
    let bytes : c.all.result ≡ list_all is_name_byte c.args.name.now = all_from_yields_List is_name_byte _ _ c.all.result c.all.ensures.ran (YieldsList-from_slice c.args.name.now c.iter.ensures.rest) (λ x b q k. search (rules, tests)) in
    let some : nat_lt 0 (length c.args.name.now) ≡ true = search rules in
    let few : nat_le (length c.args.name.now) MAX_NAME ≡ true = search rules in
    rw (some, few) bytes
