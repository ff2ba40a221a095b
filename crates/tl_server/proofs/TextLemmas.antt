-- Texts of procedures, and keys.
use Rattle.std.proofs.Common.{◌≡◌, ◌<◌, ◌+◌, ◌∙◌, ℕ, List, [], ◌∷◌, ◌++◌, Bool, false, length, take, get_or, refl, sym, ap, subst}
use Rattle.std.proofs.lemmas.List.{take_more}
use Rattle.std.specs.Prelude.{String, string_bytes}
use Rattle.std.specs.declared.alloc.Global.{Global}
use Rattle.tl_verify.specs.Procedure.{AreBounds}
use Rattle.tl_procedures.specs.Names.{Named}
use Rattle.tl_workers.specs.declared.session.Did.{Did}
use Rattle.tl_server.specs.Requests.{line_view}
use Rattle.tl_server.specs.declared.request.KeyedCall.{KeyedCall}
use Rattle.tl_server.specs.declared.request.LineRequest.{LineRequest}
use Rattle.tl_server.specs.declared.request.LineRequest.TheVariants.{Register, RegisterText, Replace, Call, CallOnce, Batch, Grow, Seal, Close}
use Rattle.tl_server.specs.declared.outcome.RequestOutcome.{RequestOutcome}
use Rattle.tl_server.specs.declared.texts.NamedBounds.{NamedBounds}
use Rattle.tl_server.specs.declared.texts.TextFault.{TextFault}
use Rattle.tl_server.specs.declared.texts.TextFault.TheVariants as fault
use Rattle.tl_server.specs.Served.{TextReader, TextReading, NoTexts, Keying, KnowsNoKeys, AreBoundsOf, IsUnreadable, IsTextFault}
use Rattle.tl_server.specs.Outcomes.{CameOf}

-- those of one more procedure
pub bounds_more : (ps : List Named) (bs : List NamedBounds) (p : Named) (b : NamedBounds) → AreBoundsOf ps bs → string_bytes b.name ≡ p.name → AreBounds p.code.instrs b.bounds
    → AreBoundsOf (ps ++ p ∷ []) (bs ++ b ∷ [])
bounds_more [] [] p b all name bounds = (name, bounds, tt)
bounds_more [] (x ∷ bs) p b all name bounds = absurd all
bounds_more (q ∷ ps) [] p b all name bounds = absurd all
bounds_more (q ∷ ps) (x ∷ bs) p b all name bounds = (all.0, all.1, bounds_more ps bs p b all.2 name bounds)

pub bounds_next : (ps : List Named) (i : ℕ) (p : Named) (bs : List NamedBounds) (b : NamedBounds) → i < length ps → p ≡ get_or ps i p → AreBoundsOf (take i ps) bs → string_bytes b.name ≡ p.name
    → AreBounds p.code.instrs b.bounds → AreBoundsOf (take (i + 1) ps) (bs ++ b ∷ [])
bounds_next ps i p bs b inside is all name bounds =
    let next : take (i + 1) ps ≡ take i ps ++ p ∷ [] = take_more ps i p inside ∙ ap (λ q. take i ps ++ q ∷ []) (sym is) in
    subst (λ qs. AreBoundsOf qs (bs ++ b ∷ [])) (sym next) (bounds_more (take i ps) bs p b all name bounds)

-- procedures that can't be read aren't registered
pub unreadable : (reader : TextReader) (text : List ℕ) (e : TextFault) → IsUnreadable reader.lacks text e → IsTextFault reader text e
unreadable reader text (fault.Text numbers) is = is
unreadable reader text (fault.Name f) is = absurd is
unreadable reader text fault.Memory is = tt

-- what an engine does for a request other than the registration of a text and a call with a key doesn't depend on who reads texts and keeps keys
pub reads_too : (seals : Bool) (reads : TextReading) (keys : Keying) (q : LineRequest) (own : List Did) (o : RequestOutcome) → ((text : String Global) → q ≡ RegisterText text → ⊥)
    → ((call : KeyedCall) → q ≡ CallOnce call → ⊥)
    → CameOf (record { seals = seals; grows = false; reads = NoTexts; keys = KnowsNoKeys; frozen = false }) (line_view q) own o → CameOf (record { seals = seals; grows = false; reads = reads; keys = keys; frozen = false }) (line_view q) own o
reads_too seals reads keys (Register p) own o other once came = came
reads_too seals reads keys (RegisterText text) own o other once came = absurd (other text refl)
reads_too seals reads keys (Replace text) own o other once came = came
reads_too seals reads keys (Call q) own o other once came = came
reads_too seals reads keys (CallOnce q) own o other once came = absurd (once q refl)
reads_too seals reads keys (Batch b) own o other once came = came
reads_too seals reads keys (Grow parents) own o other once came = came
reads_too seals reads keys Seal own o other once came = came
reads_too seals reads keys Close own o other once came = came
