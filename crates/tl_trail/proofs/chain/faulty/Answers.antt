use Rattle.std.proofs.Common.{◌≡◌, Some, None, arith}
use Rattle.json.specs.Json.{after_end_array}
use Rattle.serde_json.specs.View.{view}
use Rattle.tl_tokens.specs.Tokens.{BeginsWith}
use Rattle.tl_trail.specs.Tokens.{trail_depth}
use Rattle.tl_trail.proofs.ChainTokenLemmas.{one_counted, ends_many, ends_few}
use Rattle.tl_trail.proofs.chain.faulty.Goals as goal

pub loop-alloc-preserved-in-Some : goal.loop-alloc-preserved-in-Some
loop-alloc-preserved-in-Some c =
    let l = c.loop-alloc in
    let goes_on : (after_end_array l.reader ≡ None) × (c.take_end_array.new.self ≡ l.reader) = grind arith in
    let d = view c.in-Some._later in
    let r = c.value.new.reader in
    let got : BeginsWith Some trail_depth l.reader d r = rw (← goes_on.1) (rw c.in-Some.is at c.in_ok-_later.ensures) in
    one_counted c.args.reader.now l.invariant.0 l.reader r d c.args.count l.count c.saturating_add-count.result l.invariant.1 goes_on.0 got l.invariant.2 c.saturating_add-count.ensures l.invariant.3

pub loop-alloc-preserved-in-Some-2 : goal.loop-alloc-preserved-in-Some-2
loop-alloc-preserved-in-Some-2 c =
    let l = c.loop-alloc in
    let goes_on : (after_end_array l.reader ≡ None) × (c.take_end_array.new.self ≡ l.reader) = grind arith in
    let d = view c.in-Some._later in
    let r = c.value.new.reader in
    let got : BeginsWith Some trail_depth l.reader d r = rw (← goes_on.1) (rw c.in-Some.is at c.in_ok-_later.ensures) in
    one_counted c.args.reader.now l.invariant.0 l.reader r d c.args.count l.count c.saturating_add-count.result l.invariant.1 goes_on.0 got l.invariant.2 c.saturating_add-count.ensures l.invariant.3

pub loop-alloc-preserved-in-Some-3 : goal.loop-alloc-preserved-in-Some-3
loop-alloc-preserved-in-Some-3 c =
    let l = c.loop-alloc in
    let goes_on : (after_end_array l.reader ≡ None) × (c.take_end_array.new.self ≡ l.reader) = grind arith in
    let d = view c.in-Some._later in
    let r = c.value.new.reader in
    let got : BeginsWith Some trail_depth l.reader d r = rw (← goes_on.1) (rw c.in-Some.is at c.in_ok-_later.ensures) in
    one_counted c.args.reader.now l.invariant.0 l.reader r d c.args.count l.count c.saturating_add-count.result l.invariant.1 goes_on.0 got l.invariant.2 c.saturating_add-count.ensures l.invariant.3

pub loop-alloc-preserved : goal.loop-alloc-preserved
loop-alloc-preserved c =
    let l = c.loop-alloc in
    let goes_on : (after_end_array l.reader ≡ None) × (c.take_end_array.new.self ≡ l.reader) = grind arith in
    let d = view c.in-Some._later in
    let r = c.value.new.reader in
    let got : BeginsWith Some trail_depth l.reader d r = rw (← goes_on.1) (rw c.in-Some.is at c.in_ok-_later.ensures) in
    one_counted c.args.reader.now l.invariant.0 l.reader r d c.args.count l.count c.saturating_add-count.result l.invariant.1 goes_on.0 got l.invariant.2 c.saturating_add-count.ensures l.invariant.3

pub returns-then-count-gt-MAX_TRAILS : goal.returns-then-count-gt-MAX_TRAILS
returns-then-count-gt-MAX_TRAILS c =
    let l = c.loop-alloc in
    let r = c.take_end_array.new.self in
    let end : after_end_array l.reader ≡ Some r = grind arith in
    ends_many c.args.reader.now l.reader r l.invariant.0 c.args.count l.count c.args.fault l.invariant.1 end l.invariant.2 c.if-count-gt-MAX_TRAILS.true

pub returns : goal.returns
returns c =
    let l = c.loop-alloc in
    let r = c.take_end_array.new.self in
    let end : after_end_array l.reader ≡ Some r = grind arith in
    ends_few c.args.reader.now l.reader r l.invariant.0 c.args.count l.count c.args.fault l.invariant.1 end l.invariant.2 c.if-count-gt-MAX_TRAILS.false
