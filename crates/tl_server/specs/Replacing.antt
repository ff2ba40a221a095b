-- The procedures of a text that are to take the place of others.
use Rattle.std.specs.Prelude.{ℕ, List, Result, Ok, Err}
use Rattle.tl_server.specs.declared.texts.ReplaceFault.{ReplaceFault}
use Rattle.tl_server.specs.declared.texts.TextProcedures.{TextProcedures}
use Rattle.tl_server.specs.Served.{TextReader, AreBoundsOf, IsReplaceFault}

-- these are the procedures of the text and their bounds; or why they can't take the place of others
abbrev pub HasRead : TextReader → List ℕ → Result TextProcedures ReplaceFault → Type 0
HasRead reader text (Ok t) = reader.has text t.procedures × AreBoundsOf t.procedures t.bounds.items
HasRead reader text (Err e) = IsReplaceFault reader text e
