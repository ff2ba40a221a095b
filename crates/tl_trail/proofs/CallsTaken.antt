-- The calls while they are read one after another.
use Rattle.std.proofs.Common.{◌≡◌, ◌+◌, ◌<◌, ℕ, List, [], ◌∷◌, ◌++◌, length, get_or, drop, map, Result, Ok, Err, refl, ap}
use Rattle.std.proofs.lemmas.List.{append_assoc, drop_more, map_push}
use Rattle.tl_procedures.specs.Names.{Named}
use Rattle.tl_trail.specs.declared.fault.TrailFault.{TrailFault}
use Rattle.tl_trail.specs.declared.raw.RawCall.{RawCall}
use Rattle.tl_trail.specs.declared.trail.TrailCall.{TrailCall}
use Rattle.tl_trail.specs.Trails.{CallValue, call_value}
use Rattle.tl_trail.specs.Reading.{call_as, and_calls, each_call}
use Rattle.tl_trail.specs.Raw.{call_form}

-- the calls read before, followed by the rest
abbrev pub onto_calls : List CallValue → Result (List CallValue) TrailFault → Result (List CallValue) TrailFault
onto_calls done (Ok rest) = Ok (done ++ rest)
onto_calls done (Err e) = Err e

onto_more : (done : List CallValue) (o : Result CallValue TrailFault) (k : CallValue) (rest : Result (List CallValue) TrailFault) → o ≡ Ok k → onto_calls (done ++ k ∷ []) rest ≡ onto_calls done (and_calls o rest)
onto_more done o k (Ok rest) e = rw e (ap Ok (append_assoc done (k ∷ []) rest))
onto_more done o k (Err f) e = rw e refl

pub call_taken : (procedures : List Named) (done : List TrailCall) (k : TrailCall) (vs : List RawCall) (i : ℕ) (d : RawCall) → i < length vs → call_as procedures (call_form (get_or vs i d)) ≡ Ok (call_value k)
    → onto_calls (map call_value (done ++ k ∷ [])) (each_call procedures (map call_form (drop (i + 1) vs))) ≡ onto_calls (map call_value done) (each_call procedures (map call_form (drop i vs)))
call_taken procedures done k vs i d lt e =
    rw (map_push call_value done k, drop_more vs i d lt)
    (onto_more (map call_value done) (call_as procedures (call_form (get_or vs i d))) (call_value k) (each_call procedures (map call_form (drop (i + 1) vs))) e)
