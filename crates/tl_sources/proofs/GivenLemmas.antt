-- Files of procedures, one after another.
use Rattle.std.proofs.Common.{◌≡◌, ◌+◌, ◌<◌, ℕ, List, [], ◌∷◌, ◌++◌, length, get_or, take, drop, refl, sym, ap, ◌∙◌, subst, arith}
use Rattle.std.proofs.lemmas.List.{append-nil, append_assoc, take_more, drop_more, take-append-drop, length-take-le}
use Rattle.tl_procedures.specs.Names.{Named}
use Rattle.tl_sources.specs.declared.fault.RefusedFile.{RefusedFile}
use Rattle.tl_sources.specs.declared.given.Given.{Given}
use Rattle.tl_sources.specs.Given.{Gives, GiveAll, IsGivenFault, IsFirstRefusedFile}

-- one file more
give_last : (files : List Given) (file : Given) (found own : List Named) → GiveAll files found → Gives file own → GiveAll (files ++ file ∷ []) (found ++ own)
give_last [] file found own none one = (own, [], one, refl, ap (λ ps. ps ++ own) none ∙ sym (append-nil own))
give_last (f ∷ fs) file found own h one = (h.0, h.1 ++ own, h.2, give_last fs file h.1 own h.3 one, ap (λ ps. ps ++ own) h.4 ∙ append_assoc h.0 h.1 own)

pub give_more : (files : List Given) (i : ℕ) (d : Given) (found own new : List Named) → i < length files → GiveAll (take i files) found → Gives (get_or files i d) own → new ≡ found ++ own
    → GiveAll (take (i + 1) files) new
give_more files i d found own new inside so_far one same =
    subst (GiveAll (take (i + 1) files)) (sym same)
    (subst (λ fs. GiveAll fs (found ++ own)) (sym (take_more files i d inside)) (give_last (take i files) (get_or files i d) found own so_far one))

pub refused_at : (files : List Given) (i : ℕ) (d : Given) (found : List Named) (e : RefusedFile) → i < length files → GiveAll (take i files) found → IsGivenFault (get_or files i d) e.fault → e.number ≡ i
    → IsFirstRefusedFile files e
refused_at files i d found e inside so_far wrong number = record {
  before = take i files;
  file = get_or files i d;
  behind = drop (i + 1) files;
  split = sym (take-append-drop i files) ∙ ap (λ fs. take i files ++ fs) (drop_more files i d inside);
  number = number ∙ sym (length-take-le i files (omega (arith, inside)));
  procedures = found;
  given = so_far;
  refused = wrong;
}
