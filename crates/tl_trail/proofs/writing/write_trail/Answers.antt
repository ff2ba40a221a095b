use Rattle.std.proofs.Common.{◌++◌, ap, ◌∙◌, sym, subst}
use Rattle.tl_trail.specs.Reading.{IsTrailText}
use Rattle.tl_trail.proofs.WrittenIsRead.{written_read}
use Rattle.tl_trail.specs.Writing.{trail_text}
use Rattle.tl_trail.proofs.writing.write_trail.Goals as goal

pub returns-clause-reads_back : goal.returns-clause-reads_back
returns-clause-reads_back c = λ limit fits.
    let t = c.args.trail.now in
    let text = c.in_ok-push_trail.ensures.text ∙ ap (λ l. l ++ trail_text t) c.new-text.ensures.bytes in
    subst (λ s. IsTrailText limit s t) (sym text) (written_read limit t fits c.in_ok-push_trail.ensures.writable)
