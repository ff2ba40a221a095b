use Rattle.std.proofs.Common.{rules, ◌≡◌, ◌≢◌, string_bytes}
use Rattle.std.proofs.lemmas.List.Elements.{All-push}
use Rattle.tl_compiler.specs.declared.compiler.Compiled.{Compiled}
use Rattle.tl_compiler.proofs.compiler.named.Goals as goal

pub loop-compiled-preserved : goal.loop-compiled-preserved
loop-compiled-preserved c =
    let other : string_bytes c.in-Some.compiled.name ≢ c.args.name.now = search rules in
    All-push (λ (x : Compiled). string_bytes x.name ≡ c.args.name.now → ⊥) c.loop-compiled.yielded c.in-Some.compiled c.loop-compiled.invariant other
