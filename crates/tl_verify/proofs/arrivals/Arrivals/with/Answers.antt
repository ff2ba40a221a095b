use Rattle.std.proofs.Common.{refl, inl, inr, ⊎_elim}
use Rattle.tl_verify.proofs.MarksLemmas.{not_differs, differs, or_false, or_true}
use Rattle.tl_verify.proofs.arrivals.Arrivals.with.Goals as goal

pub returns : goal.returns
returns c =
    let old = c.args.self in
    record {
      held = refl;
      is_open = refl;
      alike = λ e. let both = or_false old.differ c.ne.result e in (both.0, not_differs c.ne.result old.marks.held c.args.marks.held c.ne.ensures both.1);
      differs = λ e. ⊎_elim (λ d. inl d) (λ d. inr (differs c.ne.result old.marks.held c.args.marks.held c.ne.ensures d)) (or_true old.differ c.ne.result e);
    }
