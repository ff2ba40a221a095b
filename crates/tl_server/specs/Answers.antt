-- The texts of answers.
use Rattle.std.specs.Prelude.{ℕ, ℤ, ◌==◌, List, [], ◌++◌, codes, decimal, string_bytes, Result, Ok, Err, Vec, if◌then◌else◌}
use Rattle.std.specs.declared.alloc.Global.{Global}
use Rattle.std.specs.Fmt.{signed_decimal}
use Rattle.tl_tree.specs.Writing.{list_text}
use Rattle.tl_table.specs.declared.receipt.Receipt.{Receipt}
use Rattle.tl_budget.specs.declared.limits.Bounds.{Bounds}
use Rattle.tl_json.specs.declared.fault.RegisterFault.{RegisterFault}
use Rattle.tl_keys.specs.Kept.{KeptValue}
use Rattle.tl_json.specs.Faults.{numbers_of as register_numbers_of}
use Rattle.tl_generations.specs.declared.growth.GrowthFault.{GrowthFault}
use Rattle.tl_generations.specs.Growth.{numbers_of as growth_numbers_of}
use Rattle.tl_workers.specs.declared.refusal.Refusal.{Refusal}
use Rattle.tl_workers.specs.Refusals.{numbers_of}
use Rattle.tl_server.specs.Faults.{text_numbers_of, replace_numbers_of}
use Rattle.tl_server.specs.declared.texts.NamedBounds.{NamedBounds}
use Rattle.tl_server.specs.declared.texts.TextFault.{TextFault}
use Rattle.tl_server.specs.declared.texts.ReplaceFault.{ReplaceFault}

-- the text and a line feed
abbrev pub line_text : List ℕ → List ℕ
line_text text = text ++ codes "\n"

-- a comma before each item of a list except the first
abbrev pub comma_before : ℕ → List ℕ
comma_before index = if index == 0 then [] else codes ","

-- the member with the epoch's number; it is omitted for epoch 0
abbrev pub epoch_text : ℕ → List ℕ
epoch_text epoch = if epoch == 0 then [] else codes ",\"epoch\":" ++ decimal epoch

abbrev pub call_text : Receipt → List ℕ
call_text r =
    codes "{\"call\":" ++ decimal r.call ++ epoch_text r.epoch ++ codes ",\"reply\":" ++ list_text signed_decimal r.reply.items ++ codes "}"

-- a call that had its key before: its number, its reply, and the number of its epoch in the store
abbrev pub head_text : ℤ → List ℕ
head_text call = codes "{\"call\":" ++ signed_decimal call ++ codes ",\"reply\":"

abbrev pub stored_text : ℤ → List ℕ
stored_text epoch = codes ",\"stored\":" ++ signed_decimal epoch ++ codes "}"

abbrev pub kept_text : KeptValue → List ℕ
kept_text k = head_text k.call ++ list_text signed_decimal k.reply ++ stored_text k.epoch

abbrev pub error_text : List ℕ → List ℕ
error_text numbers = codes "{\"error\":" ++ list_text decimal numbers ++ codes "}"

-- the answer to one request of a batch
abbrev pub one_text : Result Receipt Refusal → List ℕ
one_text (Ok r) = call_text r
one_text (Err e) = error_text (numbers_of e)

abbrev pub batch_text : List (Result Receipt Refusal) → List ℕ
batch_text answers = codes "{\"batch\":" ++ list_text one_text answers ++ codes "}"

abbrev pub bounds_text : Bounds → List ℕ
bounds_text b =
    codes "{\"emits\":" ++ decimal b.emits ++ codes ",\"locks\":" ++ decimal b.locks ++ codes ",\"steps\":" ++ decimal b.steps ++ codes "}"

-- the answer to a registration
abbrev pub register_text : Result Bounds RegisterFault → List ℕ
register_text (Ok b) = codes "{\"bounds\":" ++ bounds_text b ++ codes "}"
register_text (Err e) = error_text (register_numbers_of e)

abbrev pub named_bounds_text : NamedBounds → List ℕ
named_bounds_text b = codes "{\"bounds\":" ++ bounds_text b.bounds ++ codes ",\"name\":\"" ++ string_bytes b.name ++ codes "\"}"

-- the answer to the registration of a text's procedures
abbrev pub text_register_text : Result (Vec NamedBounds Global) TextFault → List ℕ
text_register_text (Ok v) = codes "{\"registered\":" ++ list_text named_bounds_text v.items ++ codes "}"
text_register_text (Err e) = error_text (text_numbers_of e)

-- the answer where a text's procedures take the place of others
abbrev pub replace_text : Result (Vec NamedBounds Global) ReplaceFault → List ℕ
replace_text (Ok v) = codes "{\"replaced\":" ++ list_text named_bounds_text v.items ++ codes "}"
replace_text (Err e) = error_text (replace_numbers_of e)

-- the answer to a seal
abbrev pub seal_text : Result ℕ Refusal → List ℕ
seal_text (Ok epoch) = codes "{\"sealed\":" ++ decimal epoch ++ codes "}"
seal_text (Err e) = error_text (numbers_of e)

-- the answer to a growth: the number of the first new node
abbrev pub growth_text : Result ℕ GrowthFault → List ℕ
growth_text (Ok first) = codes "{\"grown\":" ++ decimal first ++ codes "}"
growth_text (Err e) = error_text (growth_numbers_of e)

abbrev pub closed_text : List ℕ
closed_text = codes "{\"closed\":true}"
