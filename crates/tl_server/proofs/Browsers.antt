-- The lines that a browser sends.
use Rattle.std.proofs.Common.{◌≡◌, ◌≤◌, ◌+◌, ℕ, zero, suc, List, [], ◌∷◌, ◌++◌, Bool, true, false, take, ap, ap₂, sym, ◌∙◌, refl, length, arith}
use Rattle.std.specs.Prelude.{◌==◌, ◌||◌, ◌&&◌, nat_eq, All, codes}
use Rattle.std.specs.Cmp.Lexicographic.{pointwise}
use Rattle.std.specs.List.{starts_with}
use Rattle.std.proofs.lemmas.Bool.Decides.{nat_tests}
use Rattle.std.proofs.lemmas.List.Elements.{All-append, All-cons, All-nil}
use Rattle.tl_server.specs.declared.reader.TheConstants.{HELD}
use Rattle.tl_server.specs.Coming.{held_of}
use Rattle.tl_server.specs.Browsers.{begins_http, names_host, is_of_browser, is_first, AreOfClients}

-- of a list of which the first n items are kept, the first k are there
take_fewer : (k n : ℕ) (l : List ℕ) → k ≤ n → take k (take n l) ≡ take k l
take_fewer zero n l few = refl
take_fewer (suc k) zero l few = absurd (omega (arith, few))
take_fewer (suc k) (suc n) [] few = refl
take_fewer (suc k) (suc n) (x ∷ l) few = ap (λ xs. x ∷ xs) (take_fewer k n l (omega (arith, few)))

-- what is kept of a line begins as the line does
kept_start : (word l : List ℕ) → length word ≤ HELD → starts_with nat_eq (held_of l) word ≡ starts_with nat_eq l word
kept_start word l short = ap (pointwise nat_eq word) (take_fewer (length word) HELD l short)

or_both : {a b c d : Bool} → a ≡ b → c ≡ d → (a || c) ≡ (b || d)
or_both first then = ap₂ (λ a b. a || b) first then

http_kept : (l : List ℕ) → begins_http (held_of l) ≡ begins_http l
http_kept l =
    or_both (or_both (or_both (or_both (or_both (or_both (or_both (or_both (kept_start (codes "GET ") l (omega arith))
    (kept_start (codes "POST ") l (omega arith)))
    (kept_start (codes "PUT ") l (omega arith)))
    (kept_start (codes "HEAD ") l (omega arith)))
    (kept_start (codes "OPTIONS ") l (omega arith)))
    (kept_start (codes "DELETE ") l (omega arith)))
    (kept_start (codes "PATCH ") l (omega arith)))
    (kept_start (codes "CONNECT ") l (omega arith)))
    (kept_start (codes "TRACE ") l (omega arith))

-- so what is kept of a line is a browser's exactly if the line is
pub browser_kept : (first : Bool) (l : List ℕ) → is_of_browser first (held_of l) ≡ is_of_browser first l
browser_kept first l = ap₂ (λ a b. (first && a) || b) (http_kept l) (kept_start (codes "Host:") l (omega arith))

-- the count of the lines before says whether a line is the first
pub first_is : (n : ℕ) (ls : List (List ℕ)) → n ≡ length ls → (n == 0) ≡ is_first ls
first_is n [] is = ap (λ k. k == 0) is
first_is n (l ∷ ls) is = grind (arith, nat_tests, is)

-- one more line of a client
pub clients_more : (n : ℕ) (ls : List (List ℕ)) (l : List ℕ) → n ≡ length ls → AreOfClients ls → is_of_browser (n == 0) l ≡ false → AreOfClients (ls ++ l ∷ [])
clients_more n [] l count clients is = (ap (λ b. is_of_browser b l) (sym (first_is n [] count)) ∙ is, All-nil (λ k. is_of_browser false k ≡ false))
clients_more n (k ∷ ls) l count clients is =
    let P : List ℕ → Type 0 = λ x. is_of_browser false x ≡ false in
    let later : is_of_browser false l ≡ false = ap (λ b. is_of_browser b l) (sym (first_is n (k ∷ ls) count)) ∙ is in
    (clients.0, All-append P ls (l ∷ []) clients.1 (All-cons P l [] later (All-nil P)))
