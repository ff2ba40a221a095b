-- Procedures that are added one after another.
use Rattle.std.proofs.Common.{◌≡◌, ℕ, List, ◌∷◌, [], ◌++◌, Some, None, refl, sym, ap, ◌∙◌}
use Rattle.std.proofs.lemmas.List.{append_assoc}
use Rattle.std.specs.Iterator.{Yields}
use Rattle.std.specs.Vec.Iter.{into_iter_items, into_iter_steps}
use Rattle.std.specs.declared.vec.IntoIter.{IntoIter}
use Rattle.tl_instr.specs.Codes.{CodeValue}
use Rattle.tl_procedures.specs.Names.{Named, naming_refusal, AreFreeAfter, IsFirstRefused}
use Rattle.tl_procedures.specs.declared.fault.NamingFault.{NamingFault}
use Rattle.tl_procedures.proofs.Naming.{free_more}

-- what the iterator of a vector has given is a front of its items
pub taken_front : {X A : Type 0} (s : IntoIter X A) (xs : List X) (t : IntoIter X A) → Yields into_iter_steps s xs t → into_iter_items s ≡ xs ++ into_iter_items t
taken_front s [] t y = ap into_iter_items y
taken_front s (x ∷ xs) t y = y.1.0 ∙ ap (λ ys. x ∷ ys) (taken_front y.0 xs t y.2)

pub one_more : (before ps now new : List Named) (p : Named) (name : List ℕ) (code : CodeValue) → AreFreeAfter before ps × (now ≡ before ++ ps) → name ≡ p.name → code ≡ p.code
    → naming_refusal now name ≡ None → new ≡ now ++ record { name = name; code = code } ∷ [] → AreFreeAfter before (ps ++ p ∷ []) × (new ≡ before ++ (ps ++ p ∷ []))
one_more before ps now new p name code all named coded free last =
    let here : naming_refusal (before ++ ps) p.name ≡ None = ap (λ n. naming_refusal (before ++ ps) n) (sym named) ∙ ap (λ l. naming_refusal l name) (sym all.1) ∙ free in
    let same : new ≡ (before ++ ps) ++ p ∷ [] = last ∙ rw (named, coded, all.1) refl in
    (free_more before ps p all.0 here, same ∙ append_assoc before ps (p ∷ []))

pub refused_at : (before ps now more rest : List Named) (p : Named) (name : List ℕ) (f : NamingFault) → AreFreeAfter before ps × (now ≡ before ++ ps) → more ≡ ps ++ p ∷ rest → name ≡ p.name
    → naming_refusal now name ≡ Some f → IsFirstRefused before more f
refused_at before ps now more rest p name f all split named refused = record {
  first = ps;
  one = p;
  rest = rest;
  split = split;
  free = all.0;
  refused = ap (λ n. naming_refusal (before ++ ps) n) (sym named) ∙ ap (λ l. naming_refusal l name) (sym all.1) ∙ refused;
}
