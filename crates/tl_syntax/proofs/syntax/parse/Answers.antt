use Rattle.std.proofs.Common.{rules, ◌≡◌, subst}
use Rattle.tl_syntax.specs.Declarations.{IsFile}
use Rattle.tl_syntax.proofs.syntax.parse.Goals as goal

pub returns : goal.returns
returns c =
    let same : c.deref.result.now ≡ c.in_ok-tokens.field-0.tokens.items = search rules in
    record {
      tokens = c.in_ok-tokens.field-0.tokens.items;
      words = c.in_ok-tokens.ensures.names;
      distinct = c.in_ok-tokens.ensures.distinct;
      read = c.in_ok-tokens.ensures.tokens;
      numbered = c.in_ok-tokens.ensures.numbered;
      spelled = subst (λ tokens. IsFile tokens c.in_ok-declarations.declarations.items) same c.in_ok-declarations.ensures;
    }
