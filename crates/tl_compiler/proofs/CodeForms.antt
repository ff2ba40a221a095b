-- The result of compiling is a valid code.
use Rattle.std.proofs.Common.{◌≡◌, ℕ, ◌<◌, ◌≤◌, List, length, Option, Some, None, refl, sym, subst, arith}
use Rattle.std.specs.Prelude.{IfSome, get_or}
use Rattle.std.specs.List.{All}
use Rattle.std.proofs.lemmas.List.{length-map}
use Rattle.std.proofs.lemmas.List.Elements.{All-map}
use Rattle.tl_instr.specs.declared.instr.Instr.{Instr}
use Rattle.tl_instr.specs.declared.code.TheConstants.{MAX_COUNT}
use Rattle.tl_instr.specs.declared.operand.TheConstants.{MAX_ARGS}
use Rattle.tl_instr.specs.declared.version.Version.TheVariants.{Two}
use Rattle.tl_instr.specs.Instructions.{target, InRange, GoesWithin}
use Rattle.tl_instr.specs.Codes.{IsCode}
use Rattle.tl_compiler.specs.Aiming.{aimed, at_positions}
use Rattle.tl_compiler.proofs.Landings.{target_aimed, target_none}

goes_within : (n : ℕ) (i : Instr) → GoesWithin n (aimed n i)
goes_within n i = by (target i) refl
  where
    by : (o : Option ℕ) → target i ≡ o → GoesWithin n (aimed n i)
    by None e = subst (λ o. IfSome o (λ t. t ≤ n)) (sym (target_none n i e)) tt
    by (Some l) e = subst (λ o. IfSome o (λ t. t ≤ n)) (sym (target_aimed n i l e)) (omega arith)

all_within : (c : List Instr) → All (GoesWithin (length (at_positions c))) (at_positions c)
all_within c =
    subst (λ n. All (GoesWithin n) (at_positions c)) (sym (length-map c (aimed (length c))))
    (All-map (GoesWithin (length c)) (aimed (length c)) c (λ k d lt. goes_within (length c) (get_or c k d)))

pub is_code : (arity : ℕ) (c : List Instr) → arity ≤ MAX_ARGS → 0 < length c → length c ≤ MAX_COUNT → All InRange (at_positions c) → IsCode (record { version = Two; arity = arity; instrs = at_positions c })
is_code arity c few some short ranges =
    let long = length-map c (aimed (length c)) in
    let within = all_within c in
    record {
      arity = few;
      count = (omega (arith, long), omega (arith, long));
      instrs = λ k d lt. record { in_range = ranges k d lt; goes_within = within k d lt; of_version = tt };
    }
