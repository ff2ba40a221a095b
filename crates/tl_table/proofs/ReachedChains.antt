-- The epochs of a closed table were reached by admissions, steps and seals.
use Rattle.std.proofs.Common.{◌≡◌, ℕ, ◌+◌, ◌<◌, List, [], ◌∷◌, ◌++◌, map, refl, sym, ap, subst, append_assoc, arith}
use Rattle.std.proofs.lemmas.List.{append-nil}
use Rattle.tl_tree.specs.Records.{Records}
use Rattle.tl_tree_locking.specs.Alone.{Outcome}
use Rattle.tl_tree_locking.specs.Epochs.{ReachedEpochs}
use Rattle.tl_tree_locking.specs.Epochs as E
use Rattle.tl_tree_locking.specs.History.{records_now}
use Rattle.tl_tree_locking.specs.World.{World, Reached, opening_world}
use Rattle.tl_tree_locking.specs.World as W
use Rattle.tl_procedures.specs.Names.{Named}
use Rattle.tl_table.specs.Epochs.{EpochValue, seen}
use Rattle.tl_table.specs.Tables.{epoch_world, InLine, IsChain}
use Rattle.tl_table.specs.Chains.{AreReached}

-- a seal opens a world with these records, whatever its calls are to mean
abbrev Begins : List ℕ → Records → List World → Records → Type 0
Begins parents opening sealed left = (meanings : ℕ → Records → Outcome) → ReachedEpochs parents opening sealed (opening_world parents left meanings)

-- what is reached from there by admissions and steps is reached
goes_on : (parents : List ℕ) (opening : Records) (sealed : List World) (left : Records) → Begins parents opening sealed left → (w : World) → Reached parents left w → ReachedEpochs parents opening sealed w
goes_on parents opening sealed left begins w (W.Opens meanings) = begins meanings
goes_on parents opening sealed left begins w' (W.Admits w alone reached is_alone) = E.Admits sealed w alone (goes_on parents opening sealed left begins w reached) is_alone
goes_on parents opening sealed left begins w' (W.Moves w c next reached may) = E.Moves sealed w c next (goes_on parents opening sealed left begins w reached) may

-- the epochs of a list from one on, after these worlds
record Rest (parents : List ℕ) (opening : Records) (before : List World) (es : List EpochValue) : Type 0 where
  pub sealed : List EpochValue
  pub last : EpochValue
  pub epochs : es ≡ sealed ++ last ∷ []
  pub shape : (seen last).parents ≡ parents
  pub reached : ReachedEpochs parents opening (before ++ map epoch_world sealed) (epoch_world last)

line_reached : (n : ℕ) (parents : List ℕ) (opening left : Records) (procedures : List Named) (before : List World) → Begins parents opening before left → (e : EpochValue) (es : List EpochValue) → InLine n parents left procedures (e ∷ es) → Rest parents opening before (e ∷ es)
line_reached n parents opening left procedures before begins e [] line =
    let own : Reached parents left (epoch_world e) = subst (λ ps. Reached ps left (epoch_world e)) line.0.parents (subst (λ rs. Reached (seen e).parents rs (epoch_world e)) line.0.opening line.1.reached) in
    record {
      sealed = [];
      last = e;
      epochs = refl;
      shape = line.0.parents;
      reached = subst (λ ws. ReachedEpochs parents opening ws (epoch_world e)) (sym (append-nil before)) (goes_on parents opening before left begins (epoch_world e) own);
    }
line_reached n parents opening left procedures before begins e (f ∷ fs) line =
    let w = epoch_world e in
    let own : Reached parents left w = subst (λ ps. Reached ps left w) line.0.parents (subst (λ rs. Reached (seen e).parents rs w) line.0.opening line.1.reached) in
    let there = goes_on parents opening before left begins w own in
    let begins' : Begins parents opening (before ++ w ∷ []) (records_now (seen e).past (seen e).opening) = λ meanings. E.Seals before w meanings there line.1.done in
    let rest = line_reached (n + 1) parents opening (records_now (seen e).past (seen e).opening) (seen e).procedures (before ++ w ∷ []) begins' f fs line.2 in
    record {
      sealed = e ∷ rest.sealed;
      last = rest.last;
      epochs = ap (λ es. e ∷ es) rest.epochs;
      shape = rest.shape;
      reached = subst (λ ws. ReachedEpochs parents opening ws (epoch_world rest.last)) (append_assoc before (w ∷ []) (map epoch_world rest.sealed)) rest.reached;
    }

from_first : (parents : List ℕ) (opening : Records) (e : EpochValue) (es : List EpochValue) → InLine 0 parents opening [] (e ∷ es) → AreReached (e ∷ es)
from_first parents opening e es line =
    let rest = line_reached 0 parents opening opening [] [] (λ meanings. E.Opens meanings) e es line in
    record {
      sealed = rest.sealed;
      last = rest.last;
      epochs = rest.epochs;
      reached = subst (λ ps. ReachedEpochs ps (seen e).opening (map epoch_world rest.sealed) (epoch_world rest.last)) (sym rest.shape)
          (subst (λ rs. ReachedEpochs parents rs (map epoch_world rest.sealed) (epoch_world rest.last)) (sym line.0.opening) rest.reached);
    }

pub chain_reached : (es : List EpochValue) → IsChain es → AreReached es
chain_reached [] chain = let none : 0 < 0 = chain.some in absurd (omega (arith, none))
chain_reached (e ∷ es) chain = from_first chain.parents chain.opening e es chain.line
