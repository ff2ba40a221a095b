use Rattle.std.proofs.Common.{rules, ◌≡◌, ◌≢◌, ◌≤◌, ◌++◌, ◌∷◌, [], ◌∙◌, ℕ, Some, None, length, arith, length-append, sym, ap, is_some, true, bytes_eq}
use Rattle.std.proofs.lemmas.List.{map-append}
use Rattle.indexmap.proofs.CallerLemmas.{insert_entry-new}
use Rattle.std.specs.Map.{lookup}
use Rattle.tl_asm.specs.Statements.{Names}
use Rattle.tl_asm.specs.Texts.{position_of}
use Rattle.tl_asm.specs.Sketches.{known, traced}
use Rattle.tl_asm.proofs.StatementLists.{known_at}
use Rattle.tl_asm.proofs.SketchSteps.{misplaced, early_label, twice, label_line, is_some_given, none_given, none_from}
use Rattle.tl_asm.proofs.sketch.Sketch.take_label.Goals as goal

pub returns-then-is_none-clause-fault : goal.returns-then-is_none-clause-fault
returns-then-is_none-clause-fault c = λ ss sk number _.
    let longer = length-append ss (Some (Names c.args.label.now) ∷ []) in
    let none : c.args.self.now.arity ≡ None = none_given c.args.self.now.arity c.is_none.result c.is_none.ensures c.if-is_none.true in
    (omega (arith, number, longer), misplaced ss (Some (Names c.args.label.now)) (early_label _ _ c.args.label.now (sym sk.arity ∙ none)))

pub returns-then-contains_key-clause-fault : goal.returns-then-contains_key-clause-fault
returns-then-contains_key-clause-fault c = λ ss sk number _.
    let s = c.args.self.now in
    let longer = length-append ss (Some (Names c.args.label.now) ∷ []) in
    let some : s.arity ≢ None = is_some_given s.arity c.is_none.result c.is_none.ensures c.if-is_none.false in
    let found : is_some (position_of (known s.labels.entries) c.args.label.now) ≡ true = ap is_some (known_at s.labels.entries c.args.label.now) ∙ sym c.contains_key.ensures ∙ c.if-contains_key.true in
    let wrong = twice ss s.version s.arity (known s.labels.entries) s.instrs.items (traced s.origins.items) sk c.args.label.now some found in
    (omega (arith, number, longer), wrong.0, wrong.1)

pub overflow_cast-len : goal.overflow_cast-len
overflow_cast-len c =
    let few : length c.args.self.now.instrs.items ≤ 1024 = c.requires in
    let len : c.len.result ≡ length c.args.self.now.instrs.items = search rules in
    omega (arith, few, len)

pub returns-clause-grown : goal.returns-clause-grown
returns-clause-grown c = λ ss sk.
    let s = c.args.self.now in
    let label = c.args.label in
    let some : s.arity ≢ None = is_some_given s.arity c.is_none.result c.is_none.ensures c.if-is_none.false in
    let fresh : lookup (λ k. bytes_eq label.now k.now) s.labels.entries ≡ None = none_from _ c.contains_key.result c.contains_key.ensures c.if-contains_key.false in
    let len : c.len.result ≡ length s.instrs.items = search rules in
    let entries : c.insert.new.self.entries ≡ s.labels.entries ++ (label, length s.instrs.items) ∷ [] =
    c.in_ok-insert.ensures.entries ∙ insert_entry-new (λ x y. bytes_eq x.now y.now) s.labels label c.len.result fresh ∙ ap (λ (n : ℕ). s.labels.entries ++ (label, n) ∷ []) len in
    let shown : known c.insert.new.self.entries ≡ known s.labels.entries ++ (label.now, length s.instrs.items) ∷ [] =
    ap known entries ∙ map-append (λ entry. (entry.0.now, entry.1)) s.labels.entries ((label, length s.instrs.items) ∷ []) in
    rw shown (label_line ss s.version s.arity (known s.labels.entries) s.instrs.items (traced s.origins.items) sk label.now some (known_at s.labels.entries label.now ∙ fresh))
