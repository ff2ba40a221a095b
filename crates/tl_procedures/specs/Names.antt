-- Named procedures, and which names may be given.
use Rattle.std.specs.Prelude.{◌≡◌, ◌≢◌, ℕ, Bool, List, [], ◌∷◌, ◌++◌, ◌<◌, All, Contains, get_or, map, length, Option, Some, None, if◌then◌else◌, nat_lt, nat_le, position, ◌&&◌, ◌||◌, ◌==◌}
use Rattle.std.specs.Char.{is_ascii_alphanumeric}
use Rattle.std.specs.List.{list_all}
use Rattle.std.specs.Str.{bytes_eq}
use Rattle.tl_procedures.specs.declared.procedures.TheConstants.{MAX_NAME, MAX_PROCEDURES}
use Rattle.tl_instr.specs.declared.version.Version.TheVariants.{One}
use Rattle.tl_instr.specs.Codes.{CodeValue}
use Rattle.tl_procedures.specs.declared.fault.NamingFault.{NamingFault}
use Rattle.tl_procedures.specs.declared.fault.NamingFault.TheVariants.{NameTaken, BadName, TooManyProcedures}

-- a procedure and its name
pub record Named : Type 0 where
  pub name : List ℕ
  pub code : CodeValue

abbrev pub no_procedure : Named
no_procedure = record { name = []; code = record { version = One; arity = 0; instrs = [] } }

-- the second list begins with the first
abbrev pub BeginsWith : List Named → List Named → Type 0
BeginsWith xs ys = (more : List Named) × (ys ≡ xs ++ more)

-- the number of the procedure with this name
abbrev pub number_of : List Named → List ℕ → Option ℕ
number_of procedures name = position (λ p. bytes_eq name p.name) procedures

-- an ASCII letter, a digit, or `_`
abbrev pub is_name_byte : ℕ → Bool
is_name_byte b = is_ascii_alphanumeric b || (b == 95)

-- 1 to 32 such bytes
abbrev pub is_name : List ℕ → Bool
is_name name = nat_lt 0 (length name) && (nat_le (length name) MAX_NAME && list_all is_name_byte name)

abbrev pub taken_by : Option ℕ → ℕ → Option NamingFault
taken_by (Some number) count = Some NameTaken
taken_by None count = if nat_lt count MAX_PROCEDURES then None else Some TooManyProcedures

-- why a new procedure may not have this name; None if it may
abbrev pub naming_refusal : List Named → List ℕ → Option NamingFault
naming_refusal procedures name =
    if is_name name then taken_by (number_of procedures name) (length procedures) else Some BadName

-- each name was allowed when its procedure was added, one after another, to the procedures `before`
abbrev pub AreFreeAfter : List Named → List Named → Type 0
AreFreeAfter before [] = Unit {0}
AreFreeAfter before (p ∷ ps) = (naming_refusal before p.name ≡ None) × AreFreeAfter (before ++ p ∷ []) ps

-- The name of one of `more` is refused after the procedures `before`, and none before it was.
pub record IsFirstRefused (before more : List Named) (f : NamingFault) : Type 0 where
  pub first : List Named
  pub one : Named
  pub rest : List Named
  pub split : more ≡ first ++ one ∷ rest
  pub free : AreFreeAfter before first
  pub refused : naming_refusal (before ++ first) one.name ≡ Some f

-- ---- procedures in the place of others

-- the procedure, with the code of p if it has p's name
abbrev pub with_code : Named → Named → Named
with_code p q = record { name = q.name; code = if bytes_eq q.name p.name then p.code else q.code }

-- the procedures after each of `others`, one after another, has taken the place of the one with its name
abbrev pub replaced : List Named → List Named → List Named
replaced procedures [] = procedures
replaced procedures (p ∷ ps) = replaced (map (with_code p) procedures) ps

-- a procedure is put in the place of the one with its name, or comes last if there is none
abbrev pub put_at : Option ℕ → List Named → Named → List Named
put_at None procedures p = procedures ++ p ∷ []
put_at (Some number) procedures p = map (with_code p) procedures

abbrev pub put : List Named → Named → List Named
put procedures p = put_at (number_of procedures p.name) procedures p

-- these procedures were put one after another
abbrev pub latest : List Named → List Named → List Named
latest before [] = before
latest before (p ∷ ps) = latest (put before p) ps

-- the procedure may be put: there is one of its name, or it may be added
abbrev pub MayPut : List Named → Named → Type 0
MayPut procedures p = number_of procedures p.name ≡ None → naming_refusal procedures p.name ≡ None

-- each may be put once those before it were
abbrev pub MayPutAll : List Named → List Named → Type 0
MayPutAll before [] = Unit {0}
MayPutAll before (p ∷ ps) = MayPut before p × MayPutAll (put before p) ps

-- each of these names is that of a procedure
abbrev pub AreKnown : List Named → List Named → Type 0
AreKnown procedures others = All (λ p. number_of procedures p.name ≢ None) others

abbrev pub name_of : Named → List ℕ
name_of p = p.name

-- the second list begins with procedures of the same names as the first; their codes may be others
abbrev pub KeepsNames : List Named → List Named → Type 0
KeepsNames xs ys = (more : List (List ℕ)) × (map name_of ys ≡ map name_of xs ++ more)

-- procedure n has another code in the second list
abbrev pub IsOther : List Named → List Named → ℕ → Type 0
IsOther xs ys n = (get_or ys n no_procedure).code ≢ (get_or xs n no_procedure).code

-- the name is that of a procedure that has another code in the second list
pub record IsOtherName (xs ys : List Named) (name : List ℕ) : Type 0 where
  pub number : ℕ
  pub inside : number < length xs
  pub same : name ≡ (get_or xs number no_procedure).name
  pub other : IsOther xs ys number

-- These are names of procedures that have other codes in the second list, among them all such of the first n.
pub record OtherNamesBelow (n : ℕ) (xs ys : List Named) (names : List (List ℕ)) : Type 0 where
  pub each : All (IsOtherName xs ys) names
  pub whole : (number : ℕ) → number < n → IsOther xs ys number → Contains names (get_or xs number no_procedure).name

-- all names of procedures that have other codes in the second list
abbrev pub AreOtherNames : List Named → List Named → List (List ℕ) → Type 0
AreOtherNames xs ys names = OtherNamesBelow (length xs) xs ys names
