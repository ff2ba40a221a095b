use Rattle.std.proofs.Common.{◌≡◌, ◌∙◌, ℕ, ◌+◌, Vec, Global, sym, ap, ap₂, subst, refl, arith, length, get_or, []}
use Rattle.tl_syntax.specs.Tokens.{spellings}
use Rattle.tl_lowering.specs.Names.{Names, names_of, with_procedure, with_values, AreNew}
use Rattle.tl_lowering.specs.declared.paths.TheConstants.Held.{NOTHING}
use Rattle.tl_lowering.specs.Reading.{IsBody}
use Rattle.tl_lowering.specs.Scopes.{view_of}
use Rattle.tl_lowering.proofs.BodyLemmas.{at_nothing}
use Rattle.tl_lowering.proofs.FitLemmas.{in_order}
use Rattle.tl_lowering.proofs.TextLemmas.{spelling_some, spelling_none, count_values}
use Rattle.tl_lowering.proofs.lowering.Lowering.procedure.Goals.{in-Some+in_ok-name-in-Some, in-None}
use Rattle.tl_lowering.proofs.lowering.Lowering.procedure.Goals as goal

pub returns-clause-named : goal.returns-clause-named
returns-clause-named c =
    let name : c.match-get_index.name.items ≡ get_or (spellings c.args.names.now.keys) c.args.procedure.now.name.symbol.0 [] =
    elim c.match-get_index.branch [
      | in-Some+in_ok-name-in-Some w ↦
          ap (λ (v : Vec ℕ Global). v.items) w.name-is ∙ w.in_ok-name-in-Some.ensures.items
          ∙ sym (spelling_some c.args.names.now.keys c.args.procedure.now.name.symbol.0 w.in-Some.name.now (sym w.in-Some.ensures.key))
      | in-None w ↦
          ap (λ (v : Vec ℕ Global). v.items) w.name-is ∙ w.new-name.ensures.items ∙ sym (spelling_none c.args.names.now.keys c.args.procedure.now.name.symbol.0 (sym w.in-None.ensures.key))
    ] in
    let old = with_procedure (names_of c.args.self.now.scope) c.args.procedure.now.name (length c.args.before.now) in
    let arguments = c.args.procedure.now.arguments.items in
    let named : names_of c.declare_arguments.new.self.scope ≡ with_values old arguments =
    c.in_ok-declare_arguments.ensures.named ∙ ap₂ with_values c.in_ok-declare_procedure.ensures.named c.deref.ensures.value in
    let many : c.declare_arguments.new.self.scope.values ≡ c.args.self.now.scope.values + length arguments = ap (λ (n : Names). n.values) named ∙ count_values old arguments in
    record {
      name = name;
      offset = refl;
      arity = omega (arith, many, c.requires.values);
      arguments = subst (AreNew old) c.deref.ensures.value (subst (λ n. AreNew n c.deref.result.now) c.in_ok-declare_procedure.ensures.named c.in_ok-declare_arguments.ensures.fresh);
      body = subst (λ n. IsBody c.args.before.now n c.args.procedure.now c.in_ok-body.body) named c.in_ok-body.ensures.named;
    }

pub body-requires : goal.body-requires
body-requires c = at_nothing (view_of c.declare_arguments.new.self.scope) NOTHING refl c.in_ok-declare_arguments.ensures.names

pub returns-clause-procedure : goal.returns-clause-procedure
returns-clause-procedure c =
    let inner = c.in_ok-declare_arguments.ensures in
    let body = c.in_ok-body.ensures in
    in_order (view_of c.declare_arguments.new.self.scope) c.args.procedure.now _ refl inner.values inner.nodes inner.loops body.named body.sound body.handled body.enters
