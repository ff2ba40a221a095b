-- The lines that a browser sends.
use Rattle.std.specs.Prelude.{◌≡◌, ◌&&◌, ◌||◌, ℕ, nat_eq, List, All, [], ◌∷◌, Bool, true, false, codes}
use Rattle.std.specs.List.{starts_with}

-- the line begins as the first one of an HTTP request: with a method and a blank
abbrev pub begins_http : List ℕ → Bool
begins_http line =
    starts_with nat_eq line (codes "GET ") || starts_with nat_eq line (codes "POST ") || starts_with nat_eq line (codes "PUT ") || starts_with nat_eq line (codes "HEAD ")
    || starts_with nat_eq line (codes "OPTIONS ") || starts_with nat_eq line (codes "DELETE ") || starts_with nat_eq line (codes "PATCH ")
    || starts_with nat_eq line (codes "CONNECT ") || starts_with nat_eq line (codes "TRACE ")

-- the line names the host that is asked, as one in the head of an HTTP request does
abbrev pub names_host : List ℕ → Bool
names_host line = starts_with nat_eq line (codes "Host:")

-- a browser sent the line: it is the first of a connection and begins as one of HTTP, or it names the host
abbrev pub is_of_browser : Bool → List ℕ → Bool
is_of_browser first line = (first && begins_http line) || names_host line

-- the line behind these is the first of its connection
abbrev pub is_first : List (List ℕ) → Bool
is_first [] = true
is_first (l ∷ ls) = false

-- no browser sent these lines, which are the first of a connection
abbrev pub AreOfClients : List (List ℕ) → Type 0
AreOfClients [] = Unit {0}
AreOfClients (l ∷ ls) = (is_of_browser true l ≡ false) × All (λ k. is_of_browser false k ≡ false) ls
