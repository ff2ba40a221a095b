-- A trail more in files.
use Rattle.std.proofs.Common.{◌≡◌, ◌<◌, ℕ, suc, ◌+◌, List, [], ◌∷◌, ◌++◌, length, Option, Some, refl, sym, ap, ◌∙◌, subst, append_assoc, arith}
use Rattle.std.proofs.lemmas.Option.{same_Some}
use Rattle.std.proofs.lemmas.List.{append-nil, length-append}
use Rattle.tl_trail.specs.Trails.{TrailValue}
use Rattle.tl_trail.specs.declared.chain.TheConstants.{MAX_TRAILS}
use Rattle.tl_audit.specs.Chains.{trails_of}
use Rattle.tl_export.specs.Exported.{TookMore}
use Rattle.tl_file_export.specs.Filed.{FileList, Became, GotMore, begun, with_more, ending_of, GoesOn, AreInLine, IsLine, IsFile, BeginsOn, IsFollowed, AreSplit, AreKept, AreSoMany}
use Rattle.tl_file_export.specs.declared.splitting.Ending.{Ending}

-- ---- what is in them

pub trails_begun : (t : TrailValue) (fs : List (List TrailValue)) → trails_of (begun t fs) ≡ trails_of fs ++ t ∷ []
trails_begun t [] = refl
trails_begun t (ts ∷ fs) = ap (λ xs. ts ++ xs) (trails_begun t fs) ∙ sym (append_assoc ts (trails_of fs) (t ∷ []))

pub trails_more : (t : TrailValue) (fs : List (List TrailValue)) → trails_of (with_more t fs) ≡ trails_of fs ++ t ∷ []
trails_more t [] = refl
trails_more t (ts ∷ []) = append-nil (ts ++ t ∷ []) ∙ ap (λ xs. xs ++ t ∷ []) (sym (append-nil ts))
trails_more t (ts ∷ us ∷ fs) = ap (λ xs. ts ++ xs) (trails_more t (us ∷ fs)) ∙ sym (append_assoc ts (trails_of (us ∷ fs)) (t ∷ []))

-- ---- how they are split

in_line_more : (first last : Ending) (ts : List TrailValue) (t : TrailValue) → AreInLine first ts last → GoesOn last t → AreInLine first (ts ++ t ∷ []) (ending_of t)
in_line_more first last [] t line on = (subst (λ e. GoesOn e t) (sym line) on, refl)
in_line_more first last (u ∷ ts) t line on = (line.0, in_line_more (ending_of u) last ts t line.1 on)

line_more : (last : Ending) (ts : List TrailValue) (t : TrailValue) → IsLine ts last → GoesOn last t → IsLine (ts ++ t ∷ []) (ending_of t)
line_more last [] t line on = absurd line
line_more last (u ∷ ts) t line on = in_line_more (ending_of u) last ts t line on

pub one : (t : TrailValue) → IsFile (ending_of t) (t ∷ [])
one t = record { few = omega arith; line = refl }

some_trails : (last : Ending) (ts : List TrailValue) → IsLine ts last → 0 < length ts
some_trails last [] line = absurd line
some_trails last (t ∷ ts) line = omega arith

-- why the next trail begins a file
abbrev Ends : Option Ending → ℕ → TrailValue → Type 0
Ends last c t = (e : Ending) → 0 < c → c < MAX_TRAILS → last ≡ Some e → GoesOn e t → ⊥

split_begun : (last : Option Ending) (c : ℕ) (t : TrailValue) (fs : List (List TrailValue)) → AreSplit last c fs → Ends last c t → AreSplit (Some (ending_of t)) 1 (begun t fs)
split_begun last c t [] split ends = (ending_of t, refl, one t, refl)
split_begun last c t (ts ∷ []) split ends =
    let some = some_trails split.0 ts split.2.line in
    let followed : IsFollowed ts (t ∷ []) = record {
      last = split.0;
      file = split.2;
      reason = λ room on. ends split.0 (omega (arith, some, split.3)) (omega (arith, room, split.3)) split.1 on;
    } in
    (followed, (ending_of t, refl, one t, refl))
split_begun last c t (ts ∷ us ∷ fs) split ends = (split.0, split_begun last c t (us ∷ fs) split.1 ends)

more_in_last : (c : ℕ) (e : Ending) (t : TrailValue) (ts : List TrailValue) → IsFile e ts → length ts ≡ c → c < MAX_TRAILS → GoesOn e t
    → IsFile (ending_of t) (ts ++ t ∷ []) × (length (ts ++ t ∷ []) ≡ c + 1)
more_in_last c e t ts file count room on =
    let longer : length (ts ++ t ∷ []) ≡ length ts + 1 = length-append ts (t ∷ []) in
    (record { few = omega (arith, longer, count, room); line = line_more e ts t file.line on }, omega (arith, longer, count))

begins_less : (e : Ending) (us : List TrailValue) (t : TrailValue) (last : Ending) → IsLine us last → BeginsOn e (us ++ t ∷ []) → BeginsOn e us
begins_less e [] t last line on = absurd line
begins_less e (u ∷ us) t last line on = on

followed_more : (ts us : List TrailValue) (t : TrailValue) (last : Ending) → IsLine us last → IsFollowed ts us → IsFollowed ts (us ++ t ∷ [])
followed_more ts us t last line followed = record {
  last = followed.last;
  file = followed.file;
  reason = λ room on. followed.reason room (begins_less followed.last us t last line on);
}

same_some : (last : Option Ending) (d e : Ending) → last ≡ Some d → last ≡ Some e → e ≡ d
same_some last d e is was = same_Some e d (sym was ∙ is)

last_more : (last : Option Ending) (c : ℕ) (e : Ending) (t : TrailValue) (ts : List TrailValue) → AreSplit last c (ts ∷ []) → c < MAX_TRAILS → last ≡ Some e → GoesOn e t
    → AreSplit (Some (ending_of t)) (c + 1) ((ts ++ t ∷ []) ∷ [])
last_more last c e t ts split room is on =
    let more = more_in_last c split.0 t ts split.2 split.3 room (subst (λ d. GoesOn d t) (same_some last split.0 e split.1 is) on) in
    (ending_of t, refl, more.0, more.1)

split_more : (last : Option Ending) (c : ℕ) (e : Ending) (t : TrailValue) (fs : List (List TrailValue)) → AreSplit last c fs → 0 < c → c < MAX_TRAILS → last ≡ Some e → GoesOn e t
    → AreSplit (Some (ending_of t)) (c + 1) (with_more t fs)
split_more last c e t [] split some room is on = absurd (omega (arith, split, some))
split_more last c e t (ts ∷ []) split some room is on = last_more last c e t ts split room is on
split_more last c e t (ts ∷ us ∷ []) split some room is on =
    (followed_more ts us t split.1.0 split.1.2.line split.0, last_more last c e t us split.1 room is on)
split_more last c e t (ts ∷ us ∷ vs ∷ fs) split some room is on = (split.0, split_more last c e t (us ∷ vs ∷ fs) split.1 some room is on)

-- ---- a trail more

pub kept_begun : (old new : FileList → Type 0) (last : Option Ending) (c : ℕ) (t : TrailValue) → Became (begun t) old new → Ends last c t
    → TookMore (AreKept old last c) (t ∷ []) (AreKept new (Some (ending_of t)) 1)
kept_begun old new last c t became ends before is =
    (begun t is.0, became is.0 is.1, split_begun last c t is.0 is.2 ends, trails_begun t is.0 ∙ ap (λ xs. xs ++ t ∷ []) is.3)

pub kept_more : (old new : FileList → Type 0) (last : Option Ending) (c : ℕ) (e : Ending) (t : TrailValue) → GotMore t old new → 0 < c → c < MAX_TRAILS → last ≡ Some e → GoesOn e t
    → TookMore (AreKept old last c) (t ∷ []) (AreKept new (Some (ending_of t)) (c + 1))
kept_more old new last c e t got some room same on before is = go is.0 is.1 is.2 is.3
  where
    go : (files : FileList) → old files → AreSplit last c files → trails_of files ≡ before → AreKept new (Some (ending_of t)) (c + 1) (before ++ t ∷ [])
    go [] has split is = absurd (omega (arith, split, some))
    go (ts ∷ files) has split is =
        (with_more t (ts ∷ files), got ts files has, split_more last c e t (ts ∷ files) split some room same on, trails_more t (ts ∷ files) ∙ ap (λ xs. xs ++ t ∷ []) is)

-- ---- how many there are

same_count : (t : TrailValue) (ts : List TrailValue) (files : FileList) → length (with_more t (ts ∷ files)) ≡ length (ts ∷ files)
same_count t ts [] = refl
same_count t ts (us ∷ files) = ap suc (same_count t us files)

one_longer : (t : TrailValue) (ts us : List TrailValue) (k : ℕ) → ts ≡ us ++ t ∷ [] → length us ≡ k → length ts ≡ k + 1
one_longer t ts us k is long = let e = length-append us (t ∷ []) in let l = ap length is in omega (arith, e, l, long)

pub so_many_begun : (count trails : ℕ) (t : TrailValue) → Became (begun t) (AreSoMany count trails) (AreSoMany (count + 1) (trails + 1))
so_many_begun count trails t files are =
    ((let e = length-append files ((t ∷ []) ∷ []) in omega (arith, e, are.0)), one_longer t (trails_of (begun t files)) (trails_of files) trails (trails_begun t files) are.1)

pub so_many_more : (count trails : ℕ) (t : TrailValue) → GotMore t (AreSoMany count trails) (AreSoMany count (trails + 1))
so_many_more count trails t ts files are =
    (same_count t ts files ∙ are.0, one_longer t (trails_of (with_more t (ts ∷ files))) (trails_of (ts ∷ files)) trails (trails_more t (ts ∷ files)) are.1)
