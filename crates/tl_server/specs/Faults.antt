-- The faults of a server, as numbers.
use Rattle.std.specs.Prelude.{ℕ, List, [], ◌∷◌}
use Rattle.tl_procedures.specs.Faults.{numbers_of as name_numbers_of}
use Rattle.tl_server.specs.declared.texts.TextFault.{TextFault}
use Rattle.tl_server.specs.declared.texts.TextFault.TheVariants as text
use Rattle.tl_server.specs.declared.texts.ReplaceFault.{ReplaceFault}
use Rattle.tl_server.specs.declared.texts.ReplaceFault.TheVariants as replace
use Rattle.tl_server.specs.declared.fault.KeyFault.{KeyFault}
use Rattle.tl_server.specs.declared.fault.KeyFault.TheVariants.{NoStore}
use Rattle.tl_server.specs.declared.fault.RulingFault.{RulingFault}
use Rattle.tl_server.specs.declared.fault.RulingFault.TheVariants.{Frozen}
use Rattle.tl_server.specs.declared.fault.ServeFault.{ServeFault}
use Rattle.tl_server.specs.declared.fault.ServeFault.TheVariants as serve
use Rattle.tl_server.specs.declared.fault.ListenFault.{ListenFault}
use Rattle.tl_server.specs.declared.fault.ListenFault.TheVariants as listen
use Rattle.tl_server.specs.declared.volume.VolumeRefusal.{VolumeRefusal}
use Rattle.tl_server.specs.declared.volume.VolumeRefusal.TheVariants as volume
use Rattle.tl_server.specs.declared.copying.CopyRefusal.{CopyRefusal}
use Rattle.tl_server.specs.declared.copying.CopyRefusal.TheVariants as copy
use Rattle.tl_server.specs.declared.fault.LineFault.{LineFault}
use Rattle.tl_server.specs.declared.fault.LineFault.TheVariants.{NotRequest, TooLong, NotUtf8, Memory}

-- the number of a line's fault
abbrev pub numbers_of : LineFault → List ℕ
numbers_of NotRequest = 901 ∷ []
numbers_of TooLong = 902 ∷ []
numbers_of NotUtf8 = 903 ∷ []
numbers_of Memory = 990 ∷ []

-- the number of the reason why a call with a key isn't run
abbrev pub key_numbers_of : KeyFault → List ℕ
key_numbers_of NoStore = 1015 ∷ []

-- the number of the reason why a request by which a client rules isn't carried out
abbrev pub ruling_numbers_of : RulingFault → List ℕ
ruling_numbers_of Frozen = 1101 ∷ []

-- the numbers of the reason why the procedures of a text aren't registered
abbrev pub text_numbers_of : TextFault → List ℕ
text_numbers_of (text.Text numbers) = numbers.items
text_numbers_of (text.Name f) = name_numbers_of f
text_numbers_of text.Memory = 990 ∷ []

-- the numbers of the reason why the procedures of a text aren't put in the place of others
abbrev pub replace_numbers_of : ReplaceFault → List ℕ
replace_numbers_of (replace.Text numbers) = numbers.items
replace_numbers_of (replace.Name f) = name_numbers_of f
replace_numbers_of replace.NoProcedure = 601 ∷ []

-- the number of the reason why a server stops
abbrev pub serve_numbers_of : ServeFault → List ℕ
serve_numbers_of serve.ReadFailed = 911 ∷ []
serve_numbers_of serve.WriteFailed = 912 ∷ []
serve_numbers_of serve.Memory = 990 ∷ []

-- the number of the reason why no connection is served
abbrev pub listen_numbers_of : ListenFault → List ℕ
listen_numbers_of listen.NoPort = 33 ∷ []
listen_numbers_of listen.Memory = 990 ∷ []

-- the number of the reason why there is no copy
abbrev pub copy_number : CopyRefusal → ℕ
copy_number copy.NoCopies = 901
copy_number copy.BadName = 1010
copy_number copy.Unwritten = 32
copy_number copy.OtherCounts = 1014
copy_number copy.Broken = 1011
copy_number copy.Memory = 1090

-- why there is no copy, where there is no new volume
abbrev pub uncopied : VolumeRefusal → CopyRefusal
uncopied volume.NoVolumes = copy.NoCopies
uncopied volume.Unwritten = copy.Unwritten
uncopied volume.OtherLeft = copy.OtherCounts
uncopied volume.Broken = copy.Broken
uncopied volume.Memory = copy.Memory

-- the number of the reason why there is no new volume
abbrev pub volume_number : VolumeRefusal → ℕ
volume_number volume.NoVolumes = 901
volume_number volume.Unwritten = 32
volume_number volume.OtherLeft = 1014
volume_number volume.Broken = 1011
volume_number volume.Memory = 1090

-- the program's exit status then
abbrev pub volume_status : VolumeRefusal → ℕ
volume_status volume.NoVolumes = 1
volume_status volume.Unwritten = 3
volume_status volume.OtherLeft = 1
volume_status volume.Broken = 3
volume_status volume.Memory = 4

-- the program's exit status where there is no copy
abbrev pub copy_status : CopyRefusal → ℕ
copy_status copy.NoCopies = 1
copy_status copy.BadName = 1
copy_status copy.Unwritten = 3
copy_status copy.OtherCounts = 1
copy_status copy.Broken = 3
copy_status copy.Memory = 4
