use Rattle.std.proofs.Common.{◌≡◌, ◌++◌, ◌∷◌, [], nat_lt, codes, false, map, take, ap, ◌∙◌, sym, subst, string_bytes}
use Rattle.std.specs.Prelude.{All}
use Rattle.std.proofs.lemmas.List.{take_all}
use Rattle.std.proofs.lemmas.List.Elements.{All-more}
use Rattle.serde_json.specs.Written.{comma_if}
use Rattle.tl_json.proofs.Texts.{joined, joined_more, list_whole}
use Rattle.tl_trail.specs.Chains.{IsChainText, chain_text}
use Rattle.tl_trail.specs.Writing.{trail_data, trail_text, IsWritable}
use Rattle.tl_trail.proofs.ChainWritten.{chain_written, chain_read, comma_put, no_comma}
use Rattle.tl_trail.proofs.chain.write_chain.Goals as goal
use Rattle.tl_trail.proofs.chain.write_chain.Goals.{then-number-gt0+in_ok-push_str-2, else-number-gt0}

pub loop-number-preserved : goal.loop-number-preserved
loop-number-preserved c =
    let ts = c.args.trails.now in
    let i = c.loop-number.number in
    let t = c.index-trails-number.result in
    let begun = 91 ∷ joined false (map trail_data (take i ts)) in
    let before = c.loop-number.invariant.0 in
    let comma : string_bytes c.if-number-gt0.text ≡ begun ++ comma_if (nat_lt 0 i) = elim c.if-number-gt0.branch [
      | then-number-gt0+in_ok-push_str-2 w ↦ comma_put begun _ i w.if-number-gt0.true (ap string_bytes w.text-is ∙ w.in_ok-push_str-2.ensures.bytes ∙ ap (λ l. l ++ codes ",") before)
      | else-number-gt0 w ↦ no_comma begun _ i w.if-number-gt0.false (ap string_bytes w.text-is ∙ before)
    ] in (
      c.in_ok-push_trail.ensures.text ∙ ap (λ l. l ++ trail_text t) comma ∙ ap (λ x. (begun ++ comma_if (nat_lt 0 i)) ++ trail_text x) c.index-trails-number.is
          ∙ joined_more trail_data [] ts i t c.loop-number-test.true,
      All-more IsWritable ts i t c.loop-number-test.true c.loop-number.invariant.1 (subst IsWritable c.index-trails-number.is c.in_ok-push_trail.ensures.writable),
    )

pub returns-clause-text : goal.returns-clause-text
returns-clause-text c =
    let ts = c.args.trails.now in
    let all = take_all c.loop-number.number ts c.loop-number-test.false in
    c.in_ok-push_str-3.ensures.bytes ∙ ap (λ l. l ++ codes "]") (c.loop-number.invariant.0 ∙ ap (λ xs. 91 ∷ joined false (map trail_data xs)) all) ∙ list_whole [] (map trail_data ts) ∙ chain_written ts

pub returns-clause-reads_back : goal.returns-clause-reads_back
returns-clause-reads_back c = λ some few limit fit.
    let ts = c.args.trails.now in
    let all = take_all c.loop-number.number ts c.loop-number-test.false in
    let text : string_bytes c.push_str-2.new.self ≡ chain_text ts =
    c.in_ok-push_str-3.ensures.bytes ∙ ap (λ l. l ++ codes "]") (c.loop-number.invariant.0 ∙ ap (λ xs. 91 ∷ joined false (map trail_data xs)) all) ∙ list_whole [] (map trail_data ts) ∙ chain_written ts in
    subst (λ s. IsChainText limit s ts) (sym text) (chain_read limit ts (subst (All IsWritable) all c.loop-number.invariant.1) fit some few)
