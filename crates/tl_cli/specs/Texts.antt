-- Texts that a server of the program is sent.
use Rattle.std.specs.Prelude.{◌≡◌, ℕ, List, false}
use Rattle.tl_sources.specs.Faults.{numbers_of, is_memory}
use Rattle.tl_sources.specs.Sources.{IsProgramFault}
use Rattle.tl_sources.specs.declared.fault.SourceFault.{SourceFault}

-- these are the numbers of the first fault of a text of the language
abbrev pub AreProgramFaultNumbers : List ℕ → List ℕ → Type 0
AreProgramFaultNumbers text numbers = (e : SourceFault) × (is_memory e ≡ false) × IsProgramFault text e × (numbers ≡ numbers_of e)
