use Rattle.std.proofs.Common.{◌≡◌, ◌≤◌, Some, sym, ◌∙◌, subst, length, arith}
use Rattle.tl_audit.specs.Findings.{IsFirstFault}
use Rattle.tl_audit.specs.declared.replays.WrongCall.{WrongCall}
use Rattle.tl_audit.proofs.LedCalls.{are_so, least_fault}
use Rattle.tl_audit.proofs.replays.Replays.check.Goals as goal

pub returns-in-None-clause-so : goal.returns-in-None-clause-so
returns-in-None-clause-so c =
    let t = c.args.trail.now in
    are_so t c.args.self.now c.requires.followed c.requires.right c.requires.done (length t.calls) (omega arith) (λ w is. let none = sym c.in-None.is ∙ is in absurd cc)

pub returns-in-Some-clause-fault : goal.returns-in-Some-clause-fault
returns-in-Some-clause-fault c =
    let t = c.args.trail.now in
    let w = c.in-Some.wrong in
    let is_least : (v : WrongCall) → c.args.self.now.least ≡ Some v → w.call ≤ v.call =
    λ v is. let both : Some w ≡ Some v = sym c.in-Some.is ∙ is in let same : w ≡ v = cc in subst (λ u. w.call ≤ u.call) same (omega arith) in
    let other = c.requires.followed.least w c.in-Some.is in
    let inside = other.0 in
    let so = are_so t c.args.self.now c.requires.followed c.requires.right c.requires.done w.call (omega (arith, inside)) is_least in
    subst (IsFirstFault t) (sym c.fault.ensures) (least_fault t w.difference w.call so inside (other.1 c.requires.right))
