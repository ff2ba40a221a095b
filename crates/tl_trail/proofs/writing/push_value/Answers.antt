use Rattle.std.proofs.Common.{◌++◌, ap, ◌∙◌, string_bytes}
use Rattle.std.proofs.lemmas.Result.{on_ok_weaker}
use Rattle.serde_json.specs.View.{view}
use Rattle.tl_json.proofs.Texts.{pushed}
use Rattle.tl_trail.proofs.ReadsBack.{text_back}
use Rattle.tl_trail.proofs.writing.push_value.Goals as goal

pub returns : goal.returns
returns c =
    let old = string_bytes c.args.text.now in
    let d = view c.args.value.now in
    let written = c.in_ok-written.ensures in
    on_ok_weaker c.push_str.result
    (λ same whole shallow. record { text = same ∙ ap (λ l. old ++ l) (written.text whole); back = text_back _ d written.order whole shallow (written.reads_back shallow) })
    (pushed c.push_str.result _ old c.deref.result.now _ c.push_str.ensures.bytes (ap (λ l. old ++ l) c.deref.ensures))
