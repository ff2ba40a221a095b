-- Which texts begin with a list.
use Rattle.std.proofs.Common.{◌≡◌, ◌+◌, ◌<◌, ◌≤◌, ◌==◌, ◌||◌, ◌&&◌, ℕ, nat_le, zero, suc, List, [], ◌∷◌, ◌++◌, length, get_or, drop, true, false, if◌then◌else◌, Some, IsUtf8, inr, refl, sym, ap, ◌∙◌, subst, arith}
use Rattle.std.proofs.lemmas.Bool.{leb-true, and_parts}
use Rattle.std.proofs.lemmas.List.{drop_more}
use Rattle.std.proofs.lemmas.Option.{cond_some, option_and_then_some}
use Rattle.serde_json.specs.Data.{Data}
use Rattle.serde_json.specs.Read.{read}
use Rattle.tl_json.specs.Lists.{list_of}
use Rattle.tl_trail.specs.Trails.{TrailValue}
use Rattle.tl_trail.specs.Chains.{AreEach, IsChainText, if_chain, chain_of}
use Rattle.tl_trail.proofs.ChainTokenLemmas.{as_many}
use Rattle.tl_audit.specs.Chains.{Before, AfterTrail, last_after}
use Rattle.tl_commands.specs.declared.fault.CliFault.{CliFault}
use Rattle.tl_commands.specs.Audit.{begins_with_list, AuditsTrail, AuditsChain, AuditsText, Audits, IsFirstTextFault, IsFirstTrailAuditFault, IsFirstChainAuditFault, IsFirstAuditFault}

module _ (bs : List ℕ) (i b : ℕ) (inside : i < length bs) (is : get_or bs i b ≡ b) where
  here : begins_with_list (drop i bs) ≡ (if (b == 32) || (b == 9) || (b == 10) || (b == 13) then begins_with_list (drop (i + 1) bs) else b == 91)
  here = ap begins_with_list (drop_more bs i b inside ∙ ap (λ x. x ∷ drop (i + 1) bs) is)

  pub space_passed : ((b == 32) || (b == 9) || (b == 10) || (b == 13)) ≡ true → begins_with_list (drop (i + 1) bs) ≡ begins_with_list (drop i bs)
  space_passed space = sym (here ∙ ap (λ t. if t then begins_with_list (drop (i + 1) bs) else b == 91) space)

  pub other_first : ((b == 32) || (b == 9) || (b == 10) || (b == 13)) ≡ false → (b == 91) ≡ begins_with_list (drop i bs)
  other_first other = sym (here ∙ ap (λ t. if t then begins_with_list (drop (i + 1) bs) else b == 91) other)

pub none_left : (bs : List ℕ) (i : ℕ) → length bs ≤ i → false ≡ begins_with_list (drop i bs)
none_left [] zero le = refl
none_left [] (suc i) le = refl
none_left (b ∷ bs) zero le = absurd (omega (arith, le))
none_left (b ∷ bs) (suc i) le = none_left bs i (omega (arith, le))

-- ---- a chain has 1 to 256 trails

so_many : (limit : ℕ) (ds items : List Data) (ts : List TrailValue) → AreEach limit items ts → if_chain ds ≡ Some items → (0 < length ts) × (length ts ≤ 256)
so_many limit ds items ts each is =
    let h = cond_some (nat_le 1 (length ds) && nat_le (length ds) 256) ds items is in
    let b = and_parts (nat_le 1 (length ds)) (nat_le (length ds) 256) h.0 in
    let some = leb-true 1 (length ds) b.0 in
    let few = leb-true (length ds) 256 b.1 in
    let same = ap length h.1 in
    let many = as_many limit items ts each in
    (omega (arith, some, same, many), omega (arith, few, same, many))

pub chain_count : (limit : ℕ) (text : List ℕ) (ts : List TrailValue) → IsChainText limit text ts → (0 < length ts) × (length ts ≤ 256)
chain_count limit text ts h =
    option_and_then_some chain_of (read text) h.items h.items_are
    (λ d found listed. option_and_then_some if_chain (list_of d) h.items listed (λ ds seen few. so_many limit ds h.items ts h.each few))

-- ---- the last of some trails

pub last_pushed : (before : Before) (ts : List TrailValue) (t : TrailValue) → last_after before (ts ++ t ∷ []) ≡ AfterTrail t
last_pushed before [] t = refl
last_pushed before (u ∷ us) t = last_pushed (AfterTrail u) us t

-- ---- the fault of a file

pub of_chain : (limit : ℕ) (bytes : List ℕ) (e : CliFault) → IsUtf8 bytes → begins_with_list bytes ≡ true → IsFirstChainAuditFault limit bytes e → IsFirstAuditFault limit bytes e
of_chain limit bytes e utf8 list wrong = inr (utf8, subst (λ b. IsFirstTextFault limit b bytes e) (sym list) wrong)

pub of_trail : (limit : ℕ) (bytes : List ℕ) (e : CliFault) → IsUtf8 bytes → begins_with_list bytes ≡ false → IsFirstTrailAuditFault limit bytes e → IsFirstAuditFault limit bytes e
of_trail limit bytes e utf8 other wrong = inr (utf8, subst (λ b. IsFirstTextFault limit b bytes e) (sym other) wrong)

pub prints_chain : (limit : ℕ) (bytes out : List ℕ) → IsUtf8 bytes → begins_with_list bytes ≡ true → AuditsChain limit bytes out → Audits limit bytes out
prints_chain limit bytes out utf8 list done = record { utf8 = utf8; answer = subst (λ b. AuditsText limit b bytes out) (sym list) done }

pub prints_trail : (limit : ℕ) (bytes out : List ℕ) → IsUtf8 bytes → begins_with_list bytes ≡ false → AuditsTrail limit bytes out → Audits limit bytes out
prints_trail limit bytes out utf8 other done = record { utf8 = utf8; answer = subst (λ b. AuditsText limit b bytes out) (sym other) done }
