-- The parts of a script, and a file that contains one.
use Rattle.std.proofs.Common.{◌≡◌, ◌≢◌, ℕ, List, codes, Option, Some, None, option_map, option_and_then, IsUtf8, refl, sym, ap, ◌∙◌, eq-eqb, ne_eqb}
use Rattle.std.specs.Prelude.{MatchOption}
use Rattle.serde_json.specs.Data.{Data, Members}
use Rattle.serde_json.specs.Events.{members_len}
use Rattle.serde_json.specs.Find.{as_object, get, get_member}
use Rattle.serde_json.specs.Read.{read}
use Rattle.tl_tree.proofs.Parts.{object_is}
use Rattle.tl_commands.specs.declared.script.Script.{Script}
use Rattle.tl_commands.specs.Script.{ScriptValue, both_of, tasks_of, IsScript}

-- ---- its parts

pub both_found : (tasks : List ℕ) (d : Data) (ms : Members) (a b : Data) → as_object d ≡ Some ms → members_len ms ≡ 2 → get (codes "procs") d ≡ Some a → get tasks d ≡ Some b → both_of tasks d ≡ Some (a, b)
both_found tasks d ms a b is two first second =
    let shown = object_is d ms is in
    let first_in : get_member (codes "procs") ms ≡ Some a = rw shown at first in
    let second_in : get_member tasks ms ≡ Some b = rw shown at second in
    rw (shown, eq-eqb (members_len ms) 2 two, first_in, second_in) refl

pub both_other : (tasks : List ℕ) (d : Data) (ms : Members) → as_object d ≡ Some ms → members_len ms ≢ 2 → both_of tasks d ≡ None
both_other tasks d ms is other = rw (object_is d ms is, ne_eqb (members_len ms) 2 other) refl

pub tasks_found : (tasks : List ℕ) (d : Data) (ms : Members) → as_object d ≡ Some ms → members_len ms ≡ 1 → tasks_of tasks d ≡ get tasks d
tasks_found tasks d ms is one = let shown = object_is d ms is in rw (shown, eq-eqb (members_len ms) 1 one) refl

pub tasks_other : (tasks : List ℕ) (d : Data) (ms : Members) → as_object d ≡ Some ms → members_len ms ≢ 1 → tasks_of tasks d ≡ None
tasks_other tasks d ms is other = rw (object_is d ms is, ne_eqb (members_len ms) 1 other) refl

-- ---- a file

pub file_read : {T A : Type 0} (of : Data → Option (ScriptValue A)) (f : Script T → ScriptValue A) (bytes : List ℕ) (d : Data) (found : Option (Script T))
    → IsUtf8 bytes → read bytes ≡ Some d → option_map f found ≡ of d
    → MatchOption found ((s : ScriptValue A) → ¬ IsScript of bytes s) (λ script. IsScript of bytes (f script))
file_read of f bytes d None utf8 is same = λ s script.
    let none : None ≡ Some s = same ∙ ap (option_and_then of) (sym is) ∙ script.same in absurd cc
file_read of f bytes d (Some x) utf8 is same = record { utf8 = utf8; same = ap (option_and_then of) is ∙ sym same }

pub file_other : {A : Type 0} (of : Data → Option (ScriptValue A)) (bytes : List ℕ) → (IsUtf8 bytes → read bytes ≡ None) → (s : ScriptValue A) → ¬ IsScript of bytes s
file_other of bytes other s script =
    let none : None ≡ Some s = ap (option_and_then of) (sym (other script.utf8)) ∙ script.same in absurd cc
