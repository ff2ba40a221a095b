use Rattle.std.proofs.Common.{◌≡◌, ◌∙◌, ◌+◌, ◌-◌, arith, sym, subst, ap, take, drop}
use Rattle.tl_server.specs.Lines.{HasNoLf}
use Rattle.tl_server.specs.Coming.{ReaderValue}
use Rattle.std.proofs.lemmas.List.{drop-take}
use Rattle.tl_server.proofs.Held.{no_lf_among}
use Rattle.tl_server.proofs.reader.Reader.has_line.Goals as goal

pub returns : goal.returns
returns c = λ h.
    let r = c.self.inside in
    let here : HasNoLf (drop r.at (take r.end r.piece.items)) = subst HasNoLf (sym (ap (λ (x : ReaderValue). x.left) c.self.view_is)) h in
    let to : r.at + (r.end - r.at) ≡ r.end = omega (arith, c.self.invariant.0) in
    let same : drop r.at (take r.end r.piece.items) ≡ take (r.end - r.at) (drop r.at c.deref.result.now) =
    ap (λ n. drop r.at (take n r.piece.items)) (sym to) ∙ drop-take r.at (r.end - r.at) r.piece.items ∙ ap (λ xs. take (r.end - r.at) (drop r.at xs)) (sym c.deref.ensures.value) in
    let range : HasNoLf (take (r.end - r.at) (drop r.at c.deref.result.now)) = subst HasNoLf same here in
    c.contains.ensures.value ∙ no_lf_among _ range
