-- Calls that are numbered from a first one on.
use Rattle.std.proofs.Common.{◌≡◌, ℕ, suc, ◌+◌, ◌-◌, ◌^◌, min, ℤ, pos, List, [], ◌∷◌, ◌++◌, length, map, take, get_or, Some, ◌<◌, ap, ◌∙◌, sym, subst, arith}
use Rattle.std.proofs.lemmas.List.{take_more, map-append, length-map, length-take-le}
use Rattle.tl_news.specs.declared.news.NewCall.{NewCall}
use Rattle.tl_news.specs.News.{Asked, asked}
use Rattle.tl_ledger.specs.declared.rows.CallRow.{CallRow}
use Rattle.tl_pending.specs.Claims.{ClaimValue, key_of}
use Rattle.tl_pending.specs.Pendings.{column, more, admitted_in, admitted_at, admitted_from, Appends}
use Rattle.tl_pending.proofs.AppendedLemmas.{one_more}

-- one more call
pub admitted_more : (claims : List ClaimValue) (epoch : ℤ) (first : ℕ) (calls : List Asked) (a : Asked)
    → admitted_from claims epoch first (calls ++ a ∷ []) ≡ admitted_from claims epoch first calls ++ admitted_at claims epoch (first + length calls) a ∷ []
admitted_more claims epoch first [] a =
    let here : first ≡ first + 0 = omega arith in
    ap (λ n. admitted_at claims epoch n a ∷ []) here
admitted_more claims epoch first (b ∷ calls) a =
    let next : first + 1 + length calls ≡ first + suc (length calls) = omega arith in
    ap (λ l. admitted_at claims epoch first b ∷ l)
    (admitted_more claims epoch (first + 1) calls a ∙ ap (λ n. admitted_from claims epoch (first + 1) calls ++ admitted_at claims epoch n a ∷ []) next)

-- the limit of a column is lower than that of a number of rows
pub column_more : (rows count : ℕ) → column (more rows count) ≡ column (rows + count)
column_more rows count =
    let same : min (min (rows + count) (2 ^ 64 - 1)) (2 ^ 63 - 1) ≡ min (rows + count) (2 ^ 63 - 1) = omega arith in
    ap pos same

-- the row of the next request
pub request_more : (claims : List ClaimValue) (epoch : ℤ) (first index number : ℕ) (requests : List NewCall) (r : NewCall) (row : CallRow) (old rows : List CallRow)
    → index < length requests → r ≡ get_or requests index r → number ≡ more first index → admitted_in row ≡ admitted_at claims epoch number (asked r)
    → Appends admitted_in (admitted_from claims epoch first (map asked (take index requests))) old rows
    → Appends admitted_in (admitted_from claims epoch first (map asked (take (index + 1) requests))) old (rows ++ row ∷ [])
request_more claims epoch first index number requests r row old rows inside is counts asks so_far =
    let before = map asked (take index requests) in
    let taken : take (index + 1) requests ≡ take index requests ++ r ∷ [] = take_more requests index r inside ∙ ap (λ x. take index requests ++ x ∷ []) (sym is) in
    let places : length before ≡ index = length-map (take index requests) asked ∙ length-take-le index requests (omega (arith, inside)) in
    let numbers : column number ≡ column (first + length before) = ap column counts ∙ column_more first index ∙ ap (λ n. column (first + n)) (sym places) in
    let here : admitted_in row ≡ admitted_at claims epoch (first + length before) (asked r) =
    asks ∙ ap (λ n. record { epoch = epoch; number = n; asks = ((asked r).name, Some (asked r).args); key = key_of claims (asked r).session }) numbers in
    let next : admitted_from claims epoch first before ++ admitted_at claims epoch (first + length before) (asked r) ∷ [] ≡ admitted_from claims epoch first (map asked (take (index + 1) requests)) =
    sym (admitted_more claims epoch first before (asked r)) ∙ ap (admitted_from claims epoch first) (sym (map-append asked (take index requests) (r ∷ [])) ∙ ap (map asked) (sym taken)) in
    subst (λ forms. Appends admitted_in forms old (rows ++ row ∷ [])) next
    (one_more admitted_in (admitted_from claims epoch first before) row (admitted_at claims epoch (first + length before) (asked r)) old rows here so_far)
