-- The records of a tree: each node has one, a list of `field_count` integers.
use Rattle.std.specs.Prelude.{ℕ, ◌-◌, List, [], ◌++◌, length, replicate, get_or, slice_set, ℤ, pos}
use Rattle.tl_width.specs.Fields.{field_count, narrow_field_count}
use Rattle.tl_tree.specs.declared.record.Width.{Width}
use Rattle.tl_tree.specs.declared.record.Width.TheVariants.{Wide, Narrow}

abbrev pub Record : Type 0
Record = List ℤ

abbrev pub Records : Type 0
Records = List Record

abbrev pub record_at : Records → ℕ → Record
record_at records x = get_or records x []

-- the records with the record of x replaced by r
abbrev pub put_record : Records → ℕ → Record → Records
put_record records x r = slice_set records x r

-- how many numbers a record has in a text
abbrev pub width_of : Width → ℕ
width_of Wide = field_count
width_of Narrow = narrow_field_count

-- the record that these numbers denote: the missing fields are 0
abbrev pub widened : List ℤ → Record
widened numbers = numbers ++ replicate (field_count - length numbers) (pos 0)
