use Rattle.std.proofs.Common.{rules, ◌≡◌, [], ◌∷◌, codes, refl}
use Rattle.tl_syntax.specs.Tokens.{spellings}
use Rattle.tl_syntax.proofs.NameLemmas.{inserted_last, distinct_spellings}
use Rattle.tl_syntax.proofs.lexer.Lexed.new.Goals as goal

pub returns-clause-names : goal.returns-clause-names
returns-clause-names c =
    let none : spellings c.new-names.result.keys ≡ [] = search rules in
    let now1 : c.as_slice.result.now ≡ codes "at" = search rules in
    let with1 : spellings c.insert.new.self.keys ≡ codes "at" ∷ [] =
    inserted_last c.new-names.result.keys c.insert.new.self.keys c.as_slice.result (codes "at") ([]) none now1 refl c.in_ok-insert.ensures.keys in
    let now2 : c.as_slice-2.result.now ≡ codes "each" = search rules in
    let with2 : spellings c.insert-2.new.self.keys ≡ codes "at" ∷ codes "each" ∷ [] =
    inserted_last c.insert.new.self.keys c.insert-2.new.self.keys c.as_slice-2.result (codes "each") (codes "at" ∷ []) with1 now2 refl c.in_ok-insert-2.ensures.keys in
    let now3 : c.as_slice-3.result.now ≡ codes "most" = search rules in
    let with3 : spellings c.insert-3.new.self.keys ≡ codes "at" ∷ codes "each" ∷ codes "most" ∷ [] =
    inserted_last c.insert-2.new.self.keys c.insert-3.new.self.keys c.as_slice-3.result (codes "most") (codes "at" ∷ codes "each" ∷ []) with2 now3 refl c.in_ok-insert-3.ensures.keys in
    let now4 : c.as_slice-4.result.now ≡ codes "of" = search rules in
    let with4 : spellings c.insert-4.new.self.keys ≡ codes "at" ∷ codes "each" ∷ codes "most" ∷ codes "of" ∷ [] =
    inserted_last c.insert-3.new.self.keys c.insert-4.new.self.keys c.as_slice-4.result (codes "of") (codes "at" ∷ codes "each" ∷ codes "most" ∷ []) with3 now4 refl c.in_ok-insert-4.ensures.keys in
    let now5 : c.as_slice-5.result.now ≡ codes "to" = search rules in
    let with5 : spellings c.insert-5.new.self.keys ≡ codes "at" ∷ codes "each" ∷ codes "most" ∷ codes "of" ∷ codes "to" ∷ [] =
    inserted_last c.insert-4.new.self.keys c.insert-5.new.self.keys c.as_slice-5.result (codes "to") (codes "at" ∷ codes "each" ∷ codes "most" ∷ codes "of" ∷ []) with4 now5 refl c.in_ok-insert-5.ensures.keys in
    let now6 : c.as_slice-6.result.now ≡ codes "atomic" = search rules in
    let with6 : spellings c.insert-6.new.self.keys ≡ codes "at" ∷ codes "each" ∷ codes "most" ∷ codes "of" ∷ codes "to" ∷ codes "atomic" ∷ [] =
    inserted_last c.insert-5.new.self.keys c.insert-6.new.self.keys c.as_slice-6.result (codes "atomic") (codes "at" ∷ codes "each" ∷ codes "most" ∷ codes "of" ∷ codes "to" ∷ []) with5 now6 refl c.in_ok-insert-6.ensures.keys in
    let now7 : c.as_slice-7.result.now ≡ codes "while" = search rules in
    let with7 : spellings c.insert-7.new.self.keys ≡ codes "at" ∷ codes "each" ∷ codes "most" ∷ codes "of" ∷ codes "to" ∷ codes "atomic" ∷ codes "while" ∷ [] =
    inserted_last c.insert-6.new.self.keys c.insert-7.new.self.keys c.as_slice-7.result (codes "while") (codes "at" ∷ codes "each" ∷ codes "most" ∷ codes "of" ∷ codes "to" ∷ codes "atomic" ∷ []) with6 now7 refl c.in_ok-insert-7.ensures.keys in
    let now8 : c.as_slice-8.result.now ≡ codes "part" = search rules in
    let with8 : spellings c.insert-8.new.self.keys ≡ codes "at" ∷ codes "each" ∷ codes "most" ∷ codes "of" ∷ codes "to" ∷ codes "atomic" ∷ codes "while" ∷ codes "part" ∷ [] =
    inserted_last c.insert-7.new.self.keys c.insert-8.new.self.keys c.as_slice-8.result (codes "part") (codes "at" ∷ codes "each" ∷ codes "most" ∷ codes "of" ∷ codes "to" ∷ codes "atomic" ∷ codes "while" ∷ []) with7 now8 refl c.in_ok-insert-8.ensures.keys in
    let now9 : c.as_slice-9.result.now ≡ codes "var" = search rules in
    let with9 : spellings c.insert-9.new.self.keys ≡ codes "at" ∷ codes "each" ∷ codes "most" ∷ codes "of" ∷ codes "to" ∷ codes "atomic" ∷ codes "while" ∷ codes "part" ∷ codes "var" ∷ [] =
    inserted_last c.insert-8.new.self.keys c.insert-9.new.self.keys c.as_slice-9.result (codes "var") (codes "at" ∷ codes "each" ∷ codes "most" ∷ codes "of" ∷ codes "to" ∷ codes "atomic" ∷ codes "while" ∷ codes "part" ∷ []) with8 now9 refl c.in_ok-insert-9.ensures.keys in
    let now10 : c.as_slice-10.result.now ≡ codes "with" = search rules in
    let with10 : spellings c.insert-10.new.self.keys ≡ codes "at" ∷ codes "each" ∷ codes "most" ∷ codes "of" ∷ codes "to" ∷ codes "atomic" ∷ codes "while" ∷ codes "part" ∷ codes "var" ∷ codes "with" ∷ [] =
    inserted_last c.insert-9.new.self.keys c.insert-10.new.self.keys c.as_slice-10.result (codes "with") (codes "at" ∷ codes "each" ∷ codes "most" ∷ codes "of" ∷ codes "to" ∷ codes "atomic" ∷ codes "while" ∷ codes "part" ∷ codes "var" ∷ []) with9 now10 refl c.in_ok-insert-10.ensures.keys in
    let now11 : c.as_slice-11.result.now ≡ codes "found" = search rules in
    let with11 : spellings c.insert-11.new.self.keys ≡ codes "at" ∷ codes "each" ∷ codes "most" ∷ codes "of" ∷ codes "to" ∷ codes "atomic" ∷ codes "while" ∷ codes "part" ∷ codes "var" ∷ codes "with" ∷ codes "found" ∷ [] =
    inserted_last c.insert-10.new.self.keys c.insert-11.new.self.keys c.as_slice-11.result (codes "found") (codes "at" ∷ codes "each" ∷ codes "most" ∷ codes "of" ∷ codes "to" ∷ codes "atomic" ∷ codes "while" ∷ codes "part" ∷ codes "var" ∷ codes "with" ∷ []) with10 now11 refl c.in_ok-insert-11.ensures.keys in
    with11

pub returns-clause-distinct : goal.returns-clause-distinct
returns-clause-distinct c = distinct_spellings c.insert-11.new.self.keys c.in_ok-insert-11.ensures.unique
