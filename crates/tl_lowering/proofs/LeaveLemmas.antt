-- Whether control goes on after a statement doesn't depend on the nodes held.
use Rattle.std.proofs.Common.{◌≡◌, List, [], ◌∷◌, ◌++◌, true, false, Option, Some, None, refl, ap, ◌∙◌}
use Rattle.std.specs.Prelude.{option_map}
use Rattle.tl_lowering.specs.declared.program.Statement.{Statement}
use Rattle.tl_lowering.specs.declared.program.Statement.TheVariants as S
use Rattle.tl_lowering.specs.Outcomes.{locked, unlocked, next, going_on, handled_by, behind_loop, after, fails, breaks}
use Rattle.tl_lowering.specs.Reading.{Leaves}
use Rattle.tl_lowering.specs.Sets.{Nodes, both, both_of, all_of}

-- if no path leads to the first position, none leads to the second
abbrev pub Follows : Option Nodes → Option Nodes → Type 0
Follows o q = o ≡ None → q ≡ None

abbrev pub Empties : List Nodes → List Nodes → Type 0
Empties xs ys = xs ≡ [] → ys ≡ []

both_none : (o q : Option Nodes) → both_of o q ≡ None → (o ≡ None) × (q ≡ None)
both_none None q e = (refl, e)
both_none (Some h) None e = cc
both_none (Some h) (Some k) e = cc

either_follows : (o p q r : Option Nodes) → Follows o q → Follows p r → Follows (both_of o p) (both_of q r)
either_follows o p q r f g e = let w = both_none o p e in ap (λ z. both_of z r) (f w.0) ∙ g w.1

next_follows : (b : Statement) (o q : Option Nodes) → Follows o q → ((h k : Nodes) → Follows (after b h) (after b k)) → Follows (next o (after b)) (next q (after b))
next_follows b o None f g e = refl
next_follows b None (Some k) f g e = let w = f refl in cc
next_follows b (Some h) (Some k) f g e = g h k e

map_follows : (f : Nodes → Nodes) (o q : Option Nodes) → Follows o q → Follows (option_map f o) (option_map f q)
map_follows f None None g e = refl
map_follows f None (Some k) g e = let w = g refl in cc
map_follows f (Some h) q g e = cc

append_empties : (xs ys vs ws : List Nodes) → Empties xs vs → Empties ys ws → Empties (xs ++ ys) (vs ++ ws)
append_empties [] ys vs ws f g e = ap (λ z. z ++ ws) (f refl) ∙ g e
append_empties (x ∷ xs) ys vs ws f g e = cc

going_empties : (b : Statement) (o q : Option Nodes) → Follows o q → ((h k : Nodes) → Empties (breaks b h) (breaks b k)) → Empties (going_on o (breaks b)) (going_on q (breaks b))
going_empties b o None f g e = refl
going_empties b None (Some k) f g e = let w = f refl in cc
going_empties b (Some h) (Some k) f g e = g h k e

all_none : (xs : List Nodes) → all_of xs ≡ None → xs ≡ []
all_none [] e = refl
all_none (x ∷ xs) e = let w = both_none (Some x) (all_of xs) e in cc

-- after a loop that ends only by its turns or a `break`
loop_none : (o : Option Nodes) (xs : List Nodes) (h : Nodes) → behind_loop false o xs h ≡ None → (o ≡ None) × (xs ≡ [])
loop_none None [] h e = (refl, refl)
loop_none None (x ∷ xs) h e = let w = all_none (x ∷ xs) (unmapped (all_of (x ∷ xs)) e) in cc
  where
    unmapped : (q : Option Nodes) → option_map (λ g. both g h) q ≡ None → q ≡ None
    unmapped None e = refl
    unmapped (Some k) e = cc
loop_none (Some k) xs h e = absurd (by (all_of xs) e)
  where
    by : (q : Option Nodes) → option_map (λ g. both g h) (both_of (Some h) q) ≡ None → ⊥
    by None e = cc
    by (Some k) e = cc

loop_follows : (o q : Option Nodes) (xs ys : List Nodes) (h k : Nodes) → Follows o q → Empties xs ys → Follows (behind_loop false o xs h) (behind_loop false q ys k)
loop_follows o q xs ys h k f g e =
    let w = loop_none o xs h e in
    ap (λ z. behind_loop false z ys k) (f w.0) ∙ ap (λ z. behind_loop false None z k) (g w.1)

up_to_some : (o : Option Nodes) (xs : List Nodes) (h : Nodes) → behind_loop true o xs h ≡ None → ⊥
up_to_some o xs h e = by (all_of xs) e
  where
    by : (q : Option Nodes) → option_map (λ g. both g h) (both_of (Some h) q) ≡ None → ⊥
    by None e = cc
    by (Some k) e = cc

mutual
  after_follows : (s : Statement) (h k : Nodes) → Follows (after s h) (after s k)
  after_follows S.Skip h k e = cc
  after_follows (S.Sequence' p a q b) h k e = next_follows b (after a h) (after a k) (after_follows a h k) (after_follows b) e
  after_follows (S.Assign x n) h k e = cc
  after_follows (S.Write n f x) h k e = cc
  after_follows (S.Emit n) h k e = cc
  after_follows (S.Free n) h k e = cc
  after_follows (S.Descend n x) h k e = cc
  after_follows (S.Take n m) h k e = cc
  after_follows S.Break h k e = refl
  after_follows S.Return h k e = refl
  after_follows S.Fail h k e = refl
  after_follows (S.If' c p a q b) h k e = either_follows (after a h) (after b h) (after a k) (after b k) (after_follows a h k) (after_follows b h k) e
  after_follows (S.Let' x n p a) h k e = after_follows a h k e
  after_follows (S.LetElse' x n p a q o) h k e = either_follows (after a h) (after o h) (after a k) (after o k) (after_follows a h k) (after_follows o h k) e
  after_follows (S.Lock' place p a q o) h k e =
      map_follows (unlocked place) (both_of (after a (locked place h)) (after o h)) (both_of (after a (locked place k)) (after o k))
      (either_follows (after a (locked place h)) (after o h) (after a (locked place k)) (after o k) (after_follows a (locked place h) (locked place k)) (after_follows o h k)) e
  after_follows (S.Try' p a q b) h k e =
      let i = handled_by h (all_of (fails a h)) in
      let j = handled_by k (all_of (fails a k)) in
      either_follows (after a h) (after b i) (after a k) (after b j) (after_follows a h k) (after_follows b i j) e
  after_follows (S.Repeat' w p a) h k e = loop_follows (after a h) (after a k) (breaks a h) (breaks a k) h k (after_follows a h k) (breaks_empty a h k) e
  after_follows (S.RepeatUpTo' n w p a) h k e = absurd (up_to_some (after a h) (breaks a h) h e)
  after_follows (S.At' offset p a) h k e = after_follows a h k e

  breaks_empty : (s : Statement) (h k : Nodes) → Empties (breaks s h) (breaks s k)
  breaks_empty S.Skip h k e = refl
  breaks_empty (S.Sequence' p a q b) h k e =
      append_empties (breaks a h) (going_on (after a h) (breaks b)) (breaks a k) (going_on (after a k) (breaks b)) (breaks_empty a h k)
      (going_empties b (after a h) (after a k) (after_follows a h k) (breaks_empty b)) e
  breaks_empty (S.Assign x n) h k e = refl
  breaks_empty (S.Write n f x) h k e = refl
  breaks_empty (S.Emit n) h k e = refl
  breaks_empty (S.Free n) h k e = refl
  breaks_empty (S.Descend n x) h k e = refl
  breaks_empty (S.Take n m) h k e = refl
  breaks_empty S.Break h k e = cc
  breaks_empty S.Return h k e = refl
  breaks_empty S.Fail h k e = refl
  breaks_empty (S.If' c p a q b) h k e = append_empties (breaks a h) (breaks b h) (breaks a k) (breaks b k) (breaks_empty a h k) (breaks_empty b h k) e
  breaks_empty (S.Let' x n p a) h k e = breaks_empty a h k e
  breaks_empty (S.LetElse' x n p a q o) h k e = append_empties (breaks a h) (breaks o h) (breaks a k) (breaks o k) (breaks_empty a h k) (breaks_empty o h k) e
  breaks_empty (S.Lock' place p a q o) h k e =
      append_empties (breaks a (locked place h)) (breaks o h) (breaks a (locked place k)) (breaks o k) (breaks_empty a (locked place h) (locked place k)) (breaks_empty o h k) e
  breaks_empty (S.Try' p a q b) h k e =
      let i = handled_by h (all_of (fails a h)) in
      let j = handled_by k (all_of (fails a k)) in
      append_empties (breaks a h) (breaks b i) (breaks a k) (breaks b j) (breaks_empty a h k) (breaks_empty b i j) e
  breaks_empty (S.Repeat' w p a) h k e = refl
  breaks_empty (S.RepeatUpTo' n w p a) h k e = refl
  breaks_empty (S.At' offset p a) h k e = breaks_empty a h k e

-- a statement that leaves its block when these nodes are held always leaves it
pub leaves_here : (s : Statement) (h : Nodes) → after s h ≡ None → Leaves s
leaves_here s h e k = after_follows s h k e
