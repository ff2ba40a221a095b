-- Sums of weights.
use Rattle.std.proofs.Common.{◌≡◌, ◌≢◌, ℕ, suc, ◌+◌, ◌*◌, ◌<◌, ◌≤◌, List, [], ◌∷◌, length, get_or, drop, Bool, Some, refl, sym, ◌∙◌, ap, subst, arith}
use Rattle.std.specs.Prelude.{slice_get, option_map, if◌then◌else◌}
use Rattle.std.proofs.Math.ListN.{set}
use Rattle.std.proofs.Math.Nat.{mul-le-mul, mul_comm}
use Rattle.std.proofs.lemmas.List.{length-set, get_or-set_same, get_or-set_other, at_drop_more, at_drop_all}
use Rattle.std.proofs.lemmas.Option.{slice_get_within, get_or_from_slice_get}
use Rattle.tl_instr.specs.declared.instr.Instr.{Instr}
use Rattle.tl_budget.specs.Loops.{Kind, Opens, Closes, Returns, Acts, kind, kind_at, Loop, around, product, weight, weights_from, weights}
use Rattle.tl_budget.specs.Capped.{capped}
use Rattle.tl_budget.specs.Nested.{IsNested, IsNest, place_at}
use Rattle.tl_budget.specs.declared.nested.Place.{Place}
use Rattle.tl_budget.proofs.LoopLemmas.{nests, stays}

-- the entry for each depth is the product of the counts of the loops down to that depth
abbrev pub Keeps : List ℕ → List Loop → Type 0
Keeps products [] = get_or products 0 0 ≡ 1
Keeps products (l ∷ ls) = (get_or products (suc (length ls)) 0 ≡ product (l ∷ ls)) × Keeps products ls

abbrev pub Small : List Loop → Type 0
Small [] = Unit {0}
Small (l ∷ ls) = (l.count < 65536) × Small ls

pub innermost : (products : List ℕ) (ls : List Loop) → Keeps products ls → get_or products (length ls) 0 ≡ product ls
innermost products [] h = h
innermost products (l ∷ ls) h = h.0

keeps_set : (products : List ℕ) (ls : List Loop) (n v : ℕ) → length ls < n → Keeps products ls → Keeps (set products n v) ls
keeps_set products [] n v lt h = let other : 0 ≢ n = omega arith in get_or-set_other products n 0 v 0 other ∙ h
keeps_set products (l ∷ ls) n v lt h =
    let other : suc (length ls) ≢ n = omega arith in
    (get_or-set_other products n (suc (length ls)) v 0 other ∙ h.0, keeps_set products ls n v (omega arith) h.1)

more_turns : (w m n : ℕ) → w < 65536 → m ≤ n → w * m ≤ 65535 * n
more_turns w m n lt le = mul-le-mul (omega arith) le

pub product_small : (ls : List Loop) → Small ls → length ls ≤ 4 → product ls ≤ 18445618199572250625
product_small [] h le = omega arith
product_small (a ∷ []) h le = let x = more_turns a.count 1 1 h.0 (omega arith) in omega arith
product_small (a ∷ b ∷ []) h le = let x = more_turns a.count _ _ h.0 (more_turns b.count 1 1 h.1.0 (omega arith)) in omega arith
product_small (a ∷ b ∷ c ∷ []) h le = let x = more_turns a.count _ _ h.0 (more_turns b.count _ _ h.1.0 (more_turns c.count 1 1 h.1.1.0 (omega arith))) in omega arith
product_small (a ∷ b ∷ c ∷ d ∷ []) h le = let x = more_turns a.count _ _ h.0 (more_turns b.count _ _ h.1.0 (more_turns c.count _ _ h.1.1.0 (more_turns d.count 1 1 h.1.1.1.0 (omega arith)))) in omega arith
product_small (a ∷ b ∷ c ∷ d ∷ e ∷ ls) h le = absurd (omega arith)

-- The total is the sum of the weights before p, limited to 64 bits.
pub record Summed (code : List Instr) (test : Instr → Bool) (p total : ℕ) : Type 0 where
  pub before : ℕ
  pub sum : before + weights_from test code (drop p code) p ≡ weights test code
  pub is : total ≡ capped before

-- the products are those at p
pub record Around (code : List Instr) (p : ℕ) (products : List ℕ) : Type 0 where
  pub long : length products ≡ 5
  pub keeps : Keeps products (around code p)
  pub small : Small (around code p)

-- At p this many loops are open, and w is the weight of its instruction.
pub record Weighs (code : List Instr) (p depth w : ℕ) : Type 0 where
  pub deep : depth ≡ length (around code p)
  pub weight : w ≡ weight code p
  pub small : w ≤ 18445618199572250625

pub weighs : (code : List Instr) (places : List Place) (p depth : ℕ) (products : List ℕ) → IsNest code places → p < length code → depth ≡ (place_at places p).depth → Around code p products → Weighs code p depth (get_or products depth 0)
weighs code places p depth products nest lt e h =
    let deep : depth ≡ length (around code p) = e ∙ nest.depth p lt in
    let weigh : get_or products depth 0 ≡ weight code p = ap (λ k. get_or products k 0) deep ∙ innermost products (around code p) h.keeps in
    let small = product_small (around code p) h.small (nest.nested.shallow p) in
    record { deep = deep; weight = weigh; small = omega arith }

-- where a loop opens, fewer than four are open
pub room_for_one : (code : List Instr) (p w : ℕ) (i : Instr) (d : ℕ) → IsNested code → slice_get code p ≡ Some i → kind i ≡ Opens w → d ≡ length (around code p) → d < 4
room_for_one code p w i d nested at is de =
    let o = (nests code nested.matched).opens p w i at is in
    let shallow : suc (length (around code p)) ≤ 4 = subst (λ ls. length ls ≤ 4) o.4 (nested.shallow (p + 1)) in
    omega arith

pub at_start : (code : List Instr) (test : Instr → Bool) → Summed code test 0 0
at_start code test = record { before = 0; sum = omega arith; is = omega arith }

pub at_end : (code : List Instr) (test : Instr → Bool) (p total : ℕ) → length code ≤ p → Summed code test p total → total ≡ capped (weights test code)
at_end code test p total le h =
    let none : weights_from test code (drop p code) p ≡ 0 = at_drop_all (λ is. weights_from test code is p) code p le in
    let all : h.before ≡ weights test code = let s = h.sum in omega arith in
    h.is ∙ ap capped all

pub one_more : (code : List Instr) (test : Instr → Bool) (p total : ℕ) (i : Instr) (w new : ℕ) → slice_get code p ≡ Some i → w ≡ weight code p → new ≡ capped (total + (if test i then w else 0)) → Summed code test p total → Summed code test (p + 1) new
one_more code test p total i w new at is e h =
    let lt : p < length code = slice_get_within code p i at in
    let here : get_or code p i ≡ i = get_or_from_slice_get code p i i at in
    let next : weights_from test code (drop p code) p ≡ (if test i then w else 0) + weights_from test code (drop (p + 1) code) (p + 1) =
    at_drop_more (λ is. weights_from test code is p) code p i lt
    ∙ ap (λ j. (if test j then weight code p else 0) + weights_from test code (drop (p + 1) code) (p + 1)) here
    ∙ ap (λ v. (if test i then v else 0) + weights_from test code (drop (p + 1) code) (p + 1)) (sym is) in
    let s = h.sum in
    let t = h.is in
    record { before = h.before + (if test i then w else 0); sum = omega arith; is = omega arith }

-- the product with one more loop
pub turned_small : (code : List Instr) (p w : ℕ) (i : Instr) (products : List ℕ) (d : ℕ) → IsNested code → slice_get code p ≡ Some i → kind i ≡ Opens w → w < 65536 → d ≡ length (around code p) → Around code p products
    → get_or products d 0 * w ≤ 18445618199572250625
turned_small code p w i products d nested at is lt de h =
    let o = (nests code nested.matched).opens p w i at is in
    let l = o.0 in
    let ls = around code p in
    let deep : suc (length ls) ≤ 4 = subst (λ ls. length ls ≤ 4) o.4 (nested.shallow (p + 1)) in
    let weigh : get_or products d 0 ≡ product ls = ap (λ k. get_or products k 0) de ∙ innermost products ls h.keeps in
    let small : l.count < 65536 = let x = o.2 in omega arith in
    let fits = product_small (l ∷ ls) (small, h.small) deep in
    let counted : get_or products d 0 * w ≡ l.count * product ls = ap (λ n. n * w) weigh ∙ mul_comm (product ls) w ∙ ap (λ n. n * product ls) (sym o.2) in
    subst (λ n. n ≤ 18445618199572250625) (sym counted) fits

-- the products after a loop opens
pub opened : (code : List Instr) (p w : ℕ) (i : Instr) (products : List ℕ) (d v : ℕ) → IsNested code → slice_get code p ≡ Some i → kind i ≡ Opens w → w < 65536 → d ≡ length (around code p) → v ≡ get_or products d 0 * w → Around code p products → Around code (p + 1) (set products (d + 1) v)
opened code p w i products d v nested at is lt de ve h =
    let o = (nests code nested.matched).opens p w i at is in
    let l = o.0 in
    let ls = around code p in
    let below : d < 4 = room_for_one code p w i d nested at is de in
    let long : d + 1 < length products = let x = h.long in omega arith in
    let there : suc (length ls) ≡ d + 1 = omega arith in
    let weigh : get_or products d 0 ≡ product ls = ap (λ k. get_or products k 0) de ∙ innermost products ls h.keeps in
    let turn : v ≡ product ls * w = ve ∙ ap (λ n. n * w) weigh in
    let counted : product ls * w ≡ l.count * product ls = mul_comm (product ls) w ∙ ap (λ n. n * product ls) (sym o.2) in
    let top : get_or (set products (d + 1) v) (suc (length ls)) 0 ≡ l.count * product ls =
    ap (λ k. get_or (set products (d + 1) v) k 0) there ∙ get_or-set_same products (d + 1) v 0 long ∙ turn ∙ counted in
    let small : l.count < 65536 = let x = o.2 in omega arith in
    record {
      long = length-set products (d + 1) v ∙ h.long;
      keeps = subst (Keeps (set products (d + 1) v)) (sym o.4) (top, keeps_set products ls (d + 1) v (omega arith) h.keeps);
      small = subst Small (sym o.4) (small, h.small);
    }

-- the products after an instruction that opens no loop
pub passed : (code : List Instr) (p : ℕ) (i : Instr) (products : List ℕ) → IsNested code → slice_get code p ≡ Some i → ((w : ℕ) → kind i ≢ Opens w) → Around code p products → Around code (p + 1) products
passed code p i products nested at other h = by (kind i) refl
  where
    same : around code (p + 1) ≡ around code p → Around code (p + 1) products
    same e = record { long = h.long; keeps = subst (Keeps products) (sym e) h.keeps; small = subst Small (sym e) h.small }

    by : (k : Kind) → kind i ≡ k → Around code (p + 1) products
    by (Opens w) is = absurd (other w is)
    by Closes is =
        let o = (nests code nested.matched).closes p i at is in
        record {
          long = h.long;
          keeps = subst (Keeps products) (sym o.4) (subst (Keeps products) o.2 h.keeps).1;
          small = subst Small (sym o.4) (subst Small o.2 h.small).1;
        }
    by Returns is = let k : kind_at code p ≡ Some Returns = ap (option_map kind) at ∙ ap Some is in same (stays code p (λ w e. cc) (λ e. cc))
    by Acts is = let k : kind_at code p ≡ Some Acts = ap (option_map kind) at ∙ ap Some is in same (stays code p (λ w e. cc) (λ e. cc))
