use Rattle.std.proofs.Common.{string_bytes, sym, ◌∙◌}
use Rattle.std.specs.Arc.{arc_value}
use Rattle.tl_procedures.proofs.Naming.{number-named}
use Rattle.tl_procedures.proofs.procedures.Procedures.number_of.Goals as goal

pub returns-in-Some : goal.returns-in-Some
returns-in-Some c = rw (← c.self.view_is) (sym c.in-Some.is ∙ c.get_index_of.ensures.index ∙ sym (number-named string_bytes arc_value c.args.name.now c.self.inside.by_name.entries))

pub returns-in-None : goal.returns-in-None
returns-in-None c = rw (← c.self.view_is) (sym c.in-None.is ∙ c.get_index_of.ensures.index ∙ sym (number-named string_bytes arc_value c.args.name.now c.self.inside.by_name.entries))
