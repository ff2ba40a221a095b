-- What is held where the ways of a statement join, and ways without code.
use Rattle.std.proofs.Common.{◌≡◌, ℕ, zero, suc, ◌≤◌, List, [], ◌∷◌, length, true, false, not, Option, Some, None, if◌then◌else◌, refl, ap, ◌∙◌, subst, arith, option_map}
use Rattle.std.proofs.lemmas.Bool.{or_parts, not-false}
use Rattle.std.proofs.lemmas.List.{get_or-replicate}
use Rattle.tl_instr.specs.declared.operand.TheConstants.{NODE_REGISTERS}
use Rattle.tl_instr.specs.declared.instr.Instr.{Instr}
use Rattle.tl_instr.specs.declared.instr.Instr.TheVariants as I
use Rattle.tl_lowering.specs.declared.program.Statement.{Statement}
use Rattle.tl_lowering.specs.declared.program.Statement.TheVariants as S
use Rattle.tl_lowering.specs.Sets.{Nodes, none_held, holds, both, minus, same, both_of, without_node, all_of}
use Rattle.tl_lowering.specs.Outcomes.{after, unlocked}
use Rattle.tl_compiler.specs.Statements.{Site, release_below, release_code, is_skip, joining_code, releases, second_by, statement_code, held_behind}
use Rattle.tl_compiler.proofs.SetLemmas.{Within, within_self, same_is, within_left, within_right, without_within}
use Rattle.tl_compiler.proofs.SizeLemmas.{AnySized, both_sized, unlocked_sized}
use Rattle.tl_lowering.specs.declared.program.Place.{Place}
use Rattle.tl_lowering.specs.declared.program.Place.TheVariants as P
use Rattle.tl_compiler.specs.Among.{IsIn}

skips_code : (b : Statement) (held : Nodes) (x : Site) (k : List Instr) → is_skip b ≡ true → statement_code b held x k ≡ k
skips_code S.Skip held x k e = refl
skips_code (S.At' offset p a) held x k e = skips_code a held x k e
skips_code b held x k e = cc

releases_none : (n : ℕ) (k : List Instr) → n ≤ NODE_REGISTERS → release_below n none_held k ≡ k
releases_none zero k le = refl
releases_none (suc n) k le =
    ap (λ b. if b then I.Release n ∷ release_below n none_held k else release_below n none_held k) (get_or-replicate NODE_REGISTERS n false false (omega arith))
    ∙ releases_none n k (omega arith)

joins_nothing : (held : Option Nodes) (kept : Nodes) (k : List Instr) → releases held kept ≡ false → joining_code held kept false 0 k ≡ k
joins_nothing None kept k e = refl
joins_nothing (Some h) kept k e =
    ap (λ g. release_code g k) (same_is (minus h kept) none_held (not-false (same (minus h kept) none_held) e)) ∙ releases_none NODE_REGISTERS k (omega arith)

-- if the first way doesn't jump, the end of the second way is the end of both
pub second_short : (to : Option ℕ) (b : Statement) (hb : Nodes) (x : Site) (kept : Nodes) (k : List Instr)
    → (second_by to (is_skip b) (after b hb) kept (statement_code b hb x) k).jumps ≡ false → length (second_by to (is_skip b) (after b hb) kept (statement_code b hb x) k).code ≡ length k
second_short (Some label) b hb x kept k e = refl
second_short None b hb x kept k e =
    let h = or_parts (not (is_skip b)) (releases (after b hb) kept) e in
    ap length (skips_code b hb x (joining_code (after b hb) kept false 0 k) (not-false (is_skip b) h.0) ∙ joins_nothing (after b hb) kept k h.1)

-- what is kept after a statement with several ways, of which this is one
pub record Keeps (one whole : Option Nodes) (kept : Nodes) : Type 0 where
  pub is : (h : Nodes) → one ≡ Some h → whole ≡ Some kept
  pub within : (h : Nodes) → one ≡ Some h → Within kept h
  pub size : (h : Nodes) → one ≡ Some h → length h ≡ NODE_REGISTERS → length kept ≡ NODE_REGISTERS

-- what is kept after one of two ways
pub keeps_first : (a b : Option Nodes) → AnySized a → AnySized b → Keeps a (both_of a b) (held_behind (both_of a b))
keeps_first None b x y = record { is = λ h e. cc; within = λ h e. absurd (let f : ◌≡◌ {A = Option Nodes} None (Some h) = e in cc); size = λ h e s. absurd (let f : ◌≡◌ {A = Option Nodes} None (Some h) = e in cc) }
keeps_first (Some g) None x y = record {
  is = λ h e. refl;
  within = λ h e. let same : g ≡ h = cc in subst (Within g) same (within_self g);
  size = λ h e s. x g refl;
}
keeps_first (Some g) (Some k) x y = record {
  is = λ h e. refl;
  within = λ h e. let same : g ≡ h = cc in subst (Within (both g k)) same (within_left g k);
  size = λ h e s. both_sized (Some g) (Some k) x y (both g k) refl;
}

pub keeps_second : (a b : Option Nodes) → AnySized a → AnySized b → Keeps b (both_of a b) (held_behind (both_of a b))
keeps_second a None x y = record { is = λ h e. cc; within = λ h e. absurd (let f : ◌≡◌ {A = Option Nodes} None (Some h) = e in cc); size = λ h e s. absurd (let f : ◌≡◌ {A = Option Nodes} None (Some h) = e in cc) }
keeps_second None (Some k) x y = record {
  is = λ h e. refl;
  within = λ h e. let same : k ≡ h = cc in subst (Within k) same (within_self k);
  size = λ h e s. y k refl;
}
keeps_second (Some g) (Some k) x y = record {
  is = λ h e. refl;
  within = λ h e. let same : k ≡ h = cc in subst (Within (both g k)) same (within_right g k);
  size = λ h e s. both_sized (Some g) (Some k) x y (both g k) refl;
}

pub keeps_itself : (a : Option Nodes) → AnySized a → Keeps a a (held_behind a)
keeps_itself None x = record { is = λ h e. cc; within = λ h e. absurd (let f : ◌≡◌ {A = Option Nodes} None (Some h) = e in cc); size = λ h e s. absurd (let f : ◌≡◌ {A = Option Nodes} None (Some h) = e in cc) }
keeps_itself (Some g) x = record {
  is = λ h e. refl;
  within = λ h e. let same : g ≡ h = cc in subst (Within g) same (within_self g);
  size = λ h e s. x g refl;
}

within_unlocked : (place : Place) (h : Nodes) → Within (unlocked place h) h
within_unlocked (P.Node n e) h = without_within h n
within_unlocked (P.Child n p e) h = without_within h n
within_unlocked (P.Pair n k p a b) h = λ i e. without_within h n i (without_within (without_node h n) k i e)

-- after the statement the place is unlocked again
pub keeps_unlocked : (place : Place) (one whole : Option Nodes) → Keeps one whole (held_behind whole) → Keeps one (option_map (unlocked place) whole) (held_behind (option_map (unlocked place) whole))
keeps_unlocked place one None k = record {
  is = λ h e. let f = k.is h e in cc;
  within = λ h e. absurd (let f = k.is h e in let g : ◌≡◌ {A = Option Nodes} None (Some (held_behind None)) = f in cc);
  size = λ h e s. absurd (let f = k.is h e in let g : ◌≡◌ {A = Option Nodes} None (Some (held_behind None)) = f in cc);
}
keeps_unlocked place one (Some w) k = record {
  is = λ h e. refl;
  within = λ h e i b. k.within h e i (within_unlocked place w i b);
  size = λ h e s. unlocked_sized place w (k.size h e s);
}

-- what is held after a loop that may end in two ways
pub record Leaves (held : Nodes) (one whole : Option Nodes) : Type 0 where
  pub is : (h : Nodes) → one ≡ Some h → whole ≡ Some (held_behind whole)
  pub within : (h : Nodes) → one ≡ Some h → Within (held_behind whole) h
  pub within_held : (h : Nodes) → one ≡ Some h → Within (held_behind whole) held

pub leaves_first : (held : Nodes) (p q : Option Nodes) → Leaves held p (option_map (λ h. both h held) (both_of p q))
leaves_first held None q = record { is = λ h e. cc; within = λ h e. absurd (let f : ◌≡◌ {A = Option Nodes} None (Some h) = e in cc); within_held = λ h e. absurd (let f : ◌≡◌ {A = Option Nodes} None (Some h) = e in cc) }
leaves_first held (Some g) None = record {
  is = λ h e. refl;
  within = λ h e. let same : g ≡ h = cc in subst (Within (both g held)) same (within_left g held);
  within_held = λ h e. within_right g held;
}
leaves_first held (Some g) (Some k) = record {
  is = λ h e. refl;
  within = λ h e i b. let same : g ≡ h = cc in subst (λ l. holds l i ≡ true) same (within_left g k i (within_left (both g k) held i b));
  within_held = λ h e. within_right (both g k) held;
}

pub leaves_second : (held : Nodes) (p q : Option Nodes) → Leaves held q (option_map (λ h. both h held) (both_of p q))
leaves_second held p None = record { is = λ h e. cc; within = λ h e. absurd (let f : ◌≡◌ {A = Option Nodes} None (Some h) = e in cc); within_held = λ h e. absurd (let f : ◌≡◌ {A = Option Nodes} None (Some h) = e in cc) }
leaves_second held None (Some k) = record {
  is = λ h e. refl;
  within = λ h e. let same : k ≡ h = cc in subst (Within (both k held)) same (within_left k held);
  within_held = λ h e. within_right k held;
}
leaves_second held (Some g) (Some k) = record {
  is = λ h e. refl;
  within = λ h e i b. let same : k ≡ h = cc in subst (λ l. holds l i ≡ true) same (within_right g k i (within_left (both g k) held i b));
  within_held = λ h e. within_right (both g k) held;
}

pub some_of : (h : Nodes) (hs : List Nodes) → IsIn h hs → (g : Nodes) × (all_of hs ≡ Some g)
some_of h [] m = absurd m
some_of h (y ∷ hs) m = by (all_of hs)
  where
    by : (o : Option Nodes) → (g : Nodes) × (both_of (Some y) o ≡ Some g)
    by None = (y, refl)
    by (Some z) = (both y z, refl)
