use Rattle.std.proofs.Common.{◌≡◌, ◌+◌, [], ◌∷◌, ◌++◌, Some, None, length, sym, ap, subst, arith}
use Rattle.std.proofs.lemmas.List.{length-append}
use Rattle.std.proofs.lemmas.Result.{IfOk-weaker}
use Rattle.json.specs.Json.{after_end_array}
use Rattle.serde_json.specs.View.{view}
use Rattle.tl_trail.specs.Chains.{AreEach}
use Rattle.tl_trail.specs.ChainTokens.{IsListed}
use Rattle.tl_tokens.specs.Tokens.{BeginsWith}
use Rattle.tl_trail.specs.Tokens.{trail_depth}
use Rattle.tl_tokens.proofs.TokenLemmas.{value_of}
use Rattle.tl_trail.proofs.ChainTokenLemmas.{read_more, read_ends, trails_end, one_each, left_wrong, left_many, listed_none}
use Rattle.tl_trail.proofs.chain.each_by_value.Goals as goal

pub loop-alloc-preserved-in_ok-push-in-Ok-3 : goal.loop-alloc-preserved-in_ok-push-in-Ok-3
loop-alloc-preserved-in_ok-push-in-Ok-3 c =
    let l = c.loop-alloc in
    let ds = l.invariant.0 in
    let goes_on : (after_end_array l.reader ≡ None) × (c.take_end_array.new.self ≡ l.reader) = grind arith in
    let d = view c.in-Some.one in
    let r = c.value.new.reader in
    let t = c.in-Ok.trail in
    let got : BeginsWith Some trail_depth l.reader d r = rw (← goes_on.1) (rw c.in-Some.is at c.in_ok-one.ensures) in
    let pushed : c.push.new.self.items ≡ l.trails.items ++ t ∷ [] = c.in_ok-push-in-Ok.ensures.items in (
      ds ++ d ∷ [],
      read_more c.args.reader.now ds l.reader r d l.invariant.1 goes_on.0 (value_of trail_depth l.reader r d got) got.shorter,
      subst (AreEach c.args.limit (ds ++ d ∷ [])) (sym pushed) (one_each c.args.limit ds l.trails.items d t l.invariant.2 c.in-Ok.ensures.ok),
      omega (arith, l.invariant.3, got.shorter),
      omega (arith, ap length pushed, length-append l.trails.items (t ∷ []), l.invariant.4),
    )

pub returns-then-len-eq-MAX_TRAILS : goal.returns-then-len-eq-MAX_TRAILS
returns-then-len-eq-MAX_TRAILS c =
    let l = c.loop-alloc in
    let ds = l.invariant.0 in
    let ts = c.args.reader.now in
    let goes_on : (after_end_array l.reader ≡ None) × (c.take_end_array.new.self ≡ l.reader) = grind arith in
    let d = view c.in-Some.one in
    let r = c.value.new.reader in
    let rest = c.faulty.new.reader in
    let got : BeginsWith Some trail_depth l.reader d r = rw (← goes_on.1) (rw c.in-Some.is at c.in_ok-one.ensures) in
    let read = read_more ts ds l.reader r d l.invariant.1 goes_on.0 (value_of trail_depth l.reader r d got) got.shorter in
    let full : length l.trails.items ≡ 256 = grind arith in
    IfOk-weaker c.faulty.result _ (λ listed. IsListed c.args.limit ts listed rest)
    (λ listed left. left_many c.args.limit ts r rest ds d l.trails.items l.invariant.2 read 257 (omega (arith, full)) (omega (arith, full)) listed left)
    c.faulty.ensures

pub returns-in-Err : goal.returns-in-Err
returns-in-Err c =
    let l = c.loop-alloc in
    let ds = l.invariant.0 in
    let ts = c.args.reader.now in
    let goes_on : (after_end_array l.reader ≡ None) × (c.take_end_array.new.self ≡ l.reader) = grind arith in
    let d = view c.in-Some.one in
    let r = c.value.new.reader in
    let rest = c.faulty-in-Err.new.reader in
    let got : BeginsWith Some trail_depth l.reader d r = rw (← goes_on.1) (rw c.in-Some.is at c.in_ok-one.ensures) in
    let read = read_more ts ds l.reader r d l.invariant.1 goes_on.0 (value_of trail_depth l.reader r d got) got.shorter in
    let next : c.saturating_add.result ≡ length l.trails.items + 1 = grind arith in
    IfOk-weaker c.faulty-in-Err.result _ (λ listed. IsListed c.args.limit ts listed rest)
    (λ listed left. left_wrong c.args.limit ts r rest ds d l.trails.items l.invariant.2 read c.in-Err.fault c.saturating_add.result c.in-Err.ensures.fault next listed left)
    c.faulty-in-Err.ensures

pub returns-then-is_empty : goal.returns-then-is_empty
returns-then-is_empty c = λ ne.
    let l = c.loop-alloc in
    let r = c.take_end_array.new.self in
    let end : after_end_array l.reader ≡ Some r = grind arith in
    let none : length l.trails.items ≡ 0 = grind arith in
    listed_none c.args.limit c.args.reader.now r l.invariant.0 l.trails.items l.invariant.2 none (read_ends c.args.reader.now l.invariant.0 l.reader r l.invariant.1 end)

pub returns : goal.returns
returns c =
    let l = c.loop-alloc in
    let r = c.take_end_array.new.self in
    let end : after_end_array l.reader ≡ Some r = grind arith in
    (trails_end c.args.limit c.args.reader.now l.invariant.0 l.reader r l.trails.items l.invariant.1 end l.invariant.2 l.invariant.3, grind arith, grind arith)
