use Rattle.std.proofs.Common.{◌++◌, ◌∙◌, ap, sym, codes}
use Rattle.tl_tree.specs.Writing.{list_text}
use Rattle.tl_server.specs.Answers.{named_bounds_text, replace_text}
use Rattle.tl_server.proofs.Sending.{writes_then, writes_same}
use Rattle.tl_server.proofs.answer.ResultVecNamedBoundsReplaceFaultPart.put.Goals as goal

pub returns-in-Ok : goal.returns-in-Ok
returns-in-Ok g c =
    writes_same (writes_then (writes_then c.put.ensures c.put_list.ensures) c.put-in-Ok.ensures)
    (ap (λ items. codes "{\"replaced\":" ++ list_text named_bounds_text items ++ codes "}") c.as_slice.ensures.value ∙ ap replace_text (sym c.in-Ok.is))
