-- The letters of events as texts.
use Rattle.std.specs.Prelude.{ℕ, List, ◌∷◌, codes, Option, Some, None, if◌then◌else◌}
use Rattle.std.specs.Str.{bytes_eq}
use Rattle.serde_json.specs.Data.{Data, string}
use Rattle.tl_json.specs.declared.letter.Letter.{Letter}
use Rattle.tl_json.specs.declared.letter.Letter.TheVariants.{Admitted, Plain, Locked, Read, Written, Freed, Emitted, Done, Blocked, Over, Refused}
use Rattle.tl_json.specs.Lists.{list_data}

abbrev pub text_of : Letter → List ℕ
text_of Admitted = codes "a"
text_of Plain = codes "s"
text_of Locked = codes "l"
text_of Read = codes "r"
text_of Written = codes "w"
text_of Freed = codes "f"
text_of Emitted = codes "e"
text_of Done = codes "d"
text_of Blocked = codes "b"
text_of Over = codes "o"
text_of Refused = codes "x"

-- this letter if the text is its text, otherwise `other`
abbrev pub or_else : Letter → List ℕ → Option Letter → Option Letter
or_else letter text other = if bytes_eq text (text_of letter) then Some letter else other

-- the letter with this text
abbrev pub letter_of : List ℕ → Option Letter
letter_of s =
    or_else Admitted s (or_else Plain s (or_else Locked s (or_else Read s (or_else Written s (or_else Freed s (or_else Emitted s
    (or_else Done s (or_else Blocked s (or_else Over s (or_else Refused s None))))))))))

-- a list of a letter and further values
abbrev pub lettered : Letter → List Data → Data
lettered letter rest = list_data (string (text_of letter) ∷ rest)
