use Rattle.std.proofs.Common.{rules, ◌≡◌, ◌<◌, ◌++◌, length, get_or, List, ℕ, sym, subst}
use Rattle.std.specs.String.{string_bytes}
use Rattle.tl_asm.specs.Texts.{Written}
use Rattle.tl_asm.specs.Listing.{label_line, instr_line, listing}
use Rattle.tl_asm.proofs.CanonicalText.{canonical}
use Rattle.tl_asm.proofs.ListingLines.{one_listed, all_listed}
use Rattle.tl_asm.proofs.listing.disassemble.Goals as goal

pub loop-position-preserved : goal.loop-position-preserved
loop-position-preserved c =
    let instrs = c.args.code.now.instrs in
    let inside : c.loop-position.position < length c.args.code.now.instrs = search rules in
    let here : c.index-instrs-from.result ≡ get_or c.args.code.now.instrs c.loop-position.position c.index-instrs-from.result = search rules in
    let label : string_bytes c.push_str.new.self ≡ string_bytes c.loop-position.text ++ label_line c.args.code.now.instrs c.loop-position.position = search rules in
    let line : string_bytes c.push_str-in-loop-position.new.self ≡ string_bytes c.push_str.new.self ++ instr_line c.index-instrs-from.result = search rules in
    one_listed instrs c.loop-position.position c.index-instrs-from.result (string_bytes c.loop-position.text) (string_bytes c.push_str.new.self) (string_bytes c.push_str-in-loop-position.new.self) (listing c.args.code.now) inside here c.loop-position.invariant label line

pub returns-clause-text : goal.returns-clause-text
returns-clause-text c =
    let last : string_bytes c.push_str-2.new.self ≡ string_bytes c.loop-position.text ++ label_line c.args.code.now.instrs c.count.result = search rules in
    all_listed c.args.code.now.instrs c.loop-position.position c.count.result (string_bytes c.loop-position.text) (string_bytes c.push_str-2.new.self) (listing c.args.code.now) (search rules) (search rules) c.loop-position.invariant last

pub returns-clause-written : goal.returns-clause-written
returns-clause-written c = subst (λ (text : List ℕ). Written text c.args.code.now) (sym (returns-clause-text c)) (canonical c.args.code.now c.instrs-instrs.ensures.valid)
