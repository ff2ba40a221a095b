-- The line numbers that a sketch stores are those of the text's instructions.
use Rattle.std.proofs.Common.{◌≡◌, ◌∙◌, ℕ, List, [], ◌∷◌, map, Option, refl, sym, ap, subst}
use Rattle.tl_asm.specs.declared.sketch.Origin.{Origin}
use Rattle.tl_asm.specs.Statements.{DraftValue, Said}
use Rattle.tl_asm.specs.Texts.{statements, drafts_in, lines_of_instrs}
use Rattle.tl_asm.specs.Words.{Word}
use Rattle.tl_asm.specs.Sketches.{traced}

kept : (origins : List Origin) → map (λ (line : ℕ × Option Word). line.0) (traced origins) ≡ map (λ origin. origin.line) origins
kept [] = refl
kept (origin ∷ origins) = ap (λ lines. origin.line ∷ lines) (kept origins)

drafted : (drafts : List (ℕ × DraftValue))
    → map (λ (line : ℕ × Option Word). line.0) (map (λ d. (d.0, d.1.label)) drafts) ≡ map (λ d. d.0) drafts
drafted [] = refl
drafted (d ∷ drafts) = ap (λ lines. d.0 ∷ lines) (drafted drafts)

pub lines_said : (text : List ℕ) (ss : List (Option Said)) (origins : List Origin)
    → traced origins ≡ map (λ d. (d.0, d.1.label)) (drafts_in 1 ss) → ss ≡ statements text
    → map (λ origin. origin.line) origins ≡ lines_of_instrs text
lines_said text ss origins of_drafts same =
    sym (kept origins) ∙ ap (map (λ (line : ℕ × Option Word). line.0)) of_drafts ∙ drafted (drafts_in 1 ss)
    ∙ ap (λ (of : List (Option Said)). map (λ d. d.0) (drafts_in 1 of)) same
