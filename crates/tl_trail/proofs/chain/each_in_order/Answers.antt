use Rattle.std.proofs.Common.{◌≡◌, [], ◌∷◌, ◌++◌, Some, None, length, sym, ap, subst, arith}
use Rattle.std.proofs.lemmas.List.{length-append}
use Rattle.json.specs.Json.{after_end_array}
use Rattle.tl_trail.specs.ChainTokens.{BeginsWithTrail}
use Rattle.tl_trail.specs.Chains.{AreEach}
use Rattle.tl_trail.proofs.ChainTokenLemmas.{read_more, trails_end, one_each}
use Rattle.tl_trail.proofs.chain.each_in_order.Goals as goal

pub loop-alloc-preserved : goal.loop-alloc-preserved
loop-alloc-preserved c =
    let l = c.loop-alloc in
    let ds = l.invariant.0 in
    let goes_on : (after_end_array l.reader ≡ None) × (c.take_end_array.new.self ≡ l.reader) = grind arith in
    let t = c.in-Some.trail in
    let r = c.next_in_order.new.reader in
    let got : BeginsWithTrail c.args.limit l.reader t r = rw (← goes_on.1) (rw c.in-Some.is at c.in_ok-trail.ensures.some) in
    let pushed : c.push.new.self.items ≡ l.trails.items ++ t ∷ [] = c.in_ok-push.ensures.items in (
      ds ++ got.found ∷ [],
      read_more c.args.reader.now ds l.reader r got.found l.invariant.1 goes_on.0 got.is_value got.shorter,
      subst (AreEach c.args.limit (ds ++ got.found ∷ [])) (sym pushed) (one_each c.args.limit ds l.trails.items got.found t l.invariant.2 got.is_trail),
      omega (arith, l.invariant.3, got.shorter),
      omega (arith, ap length pushed, length-append l.trails.items (t ∷ []), l.invariant.4),
    )

pub returns-clause-some : goal.returns-clause-some
returns-clause-some c =
    let l = c.loop-alloc in
    let r = c.take_end_array.new.self in
    let end : after_end_array l.reader ≡ Some r = grind arith in
    trails_end c.args.limit c.args.reader.now l.invariant.0 l.reader r l.trails.items l.invariant.1 end l.invariant.2 l.invariant.3
