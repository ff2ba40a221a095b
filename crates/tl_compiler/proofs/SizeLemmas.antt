-- Each set computed for a statement has an entry for every node register.
use Rattle.std.proofs.Common.{◌≡◌, List, [], ◌∷◌, ◌++◌, length, Bool, true, false, ◌||◌, Option, Some, None, is_some, option_map, if◌then◌else◌, refl, sym, ap, ◌∙◌, ◌⊎◌, inl, inr}
use Rattle.std.proofs.lemmas.List.{length-set}
use Rattle.tl_instr.specs.declared.operand.TheConstants.{NODE_REGISTERS}
use Rattle.tl_lowering.specs.declared.program.Place.{Place}
use Rattle.tl_lowering.specs.declared.program.Place.TheVariants as P
use Rattle.tl_lowering.specs.declared.program.Statement.{Statement}
use Rattle.tl_lowering.specs.declared.program.Statement.TheVariants as S
use Rattle.tl_lowering.specs.Sets.{Nodes, without_node, both, both_of, all_of}
use Rattle.tl_lowering.specs.Outcomes.{may_fail, condition_may_fail, locked, unlocked, here_if, next, going_on, handled_by, behind_loop, after, fails, breaks}
use Rattle.tl_compiler.specs.Among.{IsIn}
use Rattle.tl_compiler.proofs.SetLemmas.{length_both, in_either}

abbrev pub IsSized : Nodes → Type 0
IsSized h = length h ≡ NODE_REGISTERS

abbrev pub AllSized : List Nodes → Type 0
AllSized hs = (h : Nodes) → IsIn h hs → IsSized h

abbrev pub AnySized : Option Nodes → Type 0
AnySized o = (h : Nodes) → o ≡ Some h → IsSized h

some : (h : Nodes) → IsSized h → AnySized (Some h)
some h size g e = let same : h ≡ g = cc in ap length (sym same) ∙ size

none : AnySized None
none h e = cc

no_sets : AllSized []
no_sets h m = absurd m

one_set : (h : Nodes) → IsSized h → AllSized (h ∷ [])
one_set h size g (inl e) = ap length e ∙ size
one_set h size g (inr e) = absurd e

joined : (xs ys : List Nodes) → AllSized xs → AllSized ys → AllSized (xs ++ ys)
joined xs ys a b h m = by (in_either h xs ys m)
  where
    by : IsIn h xs ⊎ IsIn h ys → IsSized h
    by (inl e) = a h e
    by (inr e) = b h e

if_so : (b : Bool) (h : Nodes) → IsSized h → AllSized (here_if b h)
if_so true h size = one_set h size
if_so false h size = no_sets

pub both_sized : (a b : Option Nodes) → AnySized a → AnySized b → AnySized (both_of a b)
both_sized None b x y = y
both_sized (Some h) None x y = x
both_sized (Some h) (Some g) x y = some (both h g) (length_both h g NODE_REGISTERS (x h refl) (y g refl))

all_sized : (hs : List Nodes) → AllSized hs → AnySized (all_of hs)
all_sized [] a = none
all_sized (h ∷ hs) a = both_sized (Some h) (all_of hs) (some h (a h (inl refl))) (all_sized hs (λ g m. a g (inr m)))

pub handled_sized : (held : Nodes) (hs : List Nodes) → IsSized held → AllSized hs → IsSized (handled_by held (all_of hs))
handled_sized held hs size a = by (all_of hs) (all_sized hs a)
  where
    by : (o : Option Nodes) → AnySized o → IsSized (handled_by held o)
    by None x = size
    by (Some g) x = length_both g held NODE_REGISTERS (x g refl) size

pub locked_sized : (place : Place) (held : Nodes) → IsSized held → IsSized (locked place held)
locked_sized (P.Node n e) held size = length-set held n true ∙ size
locked_sized (P.Child n p e) held size = length-set held n true ∙ size
locked_sized (P.Pair n k p a b) held size = length-set _ k true ∙ length-set held n true ∙ size

pub unlocked_sized : (place : Place) (held : Nodes) → IsSized held → IsSized (unlocked place held)
unlocked_sized (P.Node n e) held size = length-set held n false ∙ size
unlocked_sized (P.Child n p e) held size = length-set held n false ∙ size
unlocked_sized (P.Pair n k p a b) held size = length-set _ k false ∙ length-set held n false ∙ size

mapped : (f : Nodes → Nodes) → ((h : Nodes) → IsSized h → IsSized (f h)) → (o : Option Nodes) → AnySized o → AnySized (option_map f o)
mapped f g None x = none
mapped f g (Some h) x = some (f h) (g h (x h refl))

loop_sized : (may_end : Bool) (turned : Option Nodes) (broken : List Nodes) (held : Nodes) → IsSized held → AllSized broken → AnySized (behind_loop may_end turned broken held)
loop_sized may_end turned broken held size a =
    mapped (λ h. both h held) (λ h s. length_both h held NODE_REGISTERS s size) _ (both_sized _ (all_of broken) (ended (may_end || is_some turned)) (all_sized broken a))
  where
    ended : (b : Bool) → AnySized (if b then Some held else None)
    ended true = some held size
    ended false = none

pub record Sizes (on : Option Nodes) (fs bs : List Nodes) : Type 0 where
  pub after : AnySized on
  pub fails : AllSized fs
  pub breaks : AllSized bs

then_sized : (o : Option Nodes) (f : Nodes → Option Nodes) (g k : Nodes → List Nodes) → ((h : Nodes) → o ≡ Some h → Sizes (f h) (g h) (k h)) → Sizes (next o f) (going_on o g) (going_on o k)
then_sized None f g k h = record { after = none; fails = no_sets; breaks = no_sets }
then_sized (Some x) f g k h = h x refl

pub sizes : (a : Statement) (held : Nodes) → IsSized held → Sizes (after a held) (fails a held) (breaks a held)
sizes S.Skip held size = record { after = some held size; fails = no_sets; breaks = no_sets }
sizes (S.Sequence' p a q b) held size =
    let x = sizes a held size in
    let y = then_sized (after a held) (after b) (fails b) (breaks b) (λ h e. sizes b h (x.after h e)) in
    record { after = y.after; fails = joined (fails a held) _ x.fails y.fails; breaks = joined (breaks a held) _ x.breaks y.breaks }
sizes (S.Assign v e) held size = record { after = some held size; fails = if_so (may_fail e) held size; breaks = no_sets }
sizes (S.Write n f e) held size = record { after = some held size; fails = if_so (may_fail e) held size; breaks = no_sets }
sizes (S.Emit e) held size = record { after = some held size; fails = if_so (may_fail e) held size; breaks = no_sets }
sizes (S.Free n) held size = record { after = some (without_node held n) (length-set held n false ∙ size); fails = no_sets; breaks = no_sets }
sizes (S.Descend n e) held size = record { after = some held size; fails = one_set held size; breaks = no_sets }
sizes (S.Take n k) held size = record { after = some (without_node held k) (length-set held k false ∙ size); fails = no_sets; breaks = no_sets }
sizes S.Break held size = record { after = none; fails = no_sets; breaks = one_set held size }
sizes S.Return held size = record { after = none; fails = no_sets; breaks = no_sets }
sizes S.Fail held size = record { after = none; fails = one_set held size; breaks = no_sets }
sizes (S.If' c p a q b) held size =
    let x = sizes a held size in
    let y = sizes b held size in
    record {
      after = both_sized (after a held) (after b held) x.after y.after;
      fails = joined (here_if (condition_may_fail c) held) _ (if_so (condition_may_fail c) held size) (joined (fails a held) (fails b held) x.fails y.fails);
      breaks = joined (breaks a held) (breaks b held) x.breaks y.breaks;
    }
sizes (S.Let' v e p a) held size =
    let x = sizes a held size in
    record { after = x.after; fails = joined (here_if (may_fail e) held) (fails a held) (if_so (may_fail e) held size) x.fails; breaks = x.breaks }
sizes (S.LetElse' v e p a q o) held size =
    let x = sizes a held size in
    let y = sizes o held size in
    record {
      after = both_sized (after a held) (after o held) x.after y.after;
      fails = joined (fails a held) (fails o held) x.fails y.fails;
      breaks = joined (breaks a held) (breaks o held) x.breaks y.breaks;
    }
sizes (S.Lock' place p a q o) held size =
    let x = sizes a (locked place held) (locked_sized place held size) in
    let y = sizes o held size in
    record {
      after = mapped (unlocked place) (unlocked_sized place) (both_of (after a (locked place held)) (after o held)) (both_sized (after a (locked place held)) (after o held) x.after y.after);
      fails = joined (fails a (locked place held)) (fails o held) x.fails y.fails;
      breaks = joined (breaks a (locked place held)) (breaks o held) x.breaks y.breaks;
    }
sizes (S.Try' p a q b) held size =
    let x = sizes a held size in
    let start = handled_by held (all_of (fails a held)) in
    let y = sizes b start (handled_sized held (fails a held) size x.fails) in
    record {
      after = both_sized (after a held) (after b start) x.after y.after;
      fails = y.fails;
      breaks = joined (breaks a held) (breaks b start) x.breaks y.breaks;
    }
sizes (S.Repeat' w p a) held size =
    let x = sizes a held size in
    record { after = loop_sized false (after a held) (breaks a held) held size x.breaks; fails = x.fails; breaks = no_sets }
sizes (S.RepeatUpTo' e w p a) held size =
    let x = sizes a held size in
    record {
      after = loop_sized true (after a held) (breaks a held) held size x.breaks;
      fails = joined (held ∷ []) (fails a held) (one_set held size) x.fails;
      breaks = no_sets;
    }
sizes (S.At' offset p a) held size = sizes a held size
