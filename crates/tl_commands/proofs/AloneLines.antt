-- The text of the first line.
use Rattle.std.proofs.Common.{◌≡◌, ℕ, ℤ, pos, List, ◌++◌, false, codes, decimal, refl, sym, ap, ap₂, ◌∙◌, append_assoc}
use Rattle.std.specs.Fmt.{signed_decimal}
use Rattle.serde_json.specs.Data.{Data, object, member, no_members}
use Rattle.serde_json.specs.Written.{has_float, compact_text}
use Rattle.serde_json.proofs.OnLiterals.{serde_json_on_literals}
use Rattle.tl_tree.specs.Writing.{integer_data, integers_data, list_text}
use Rattle.tl_tree.specs.Trees.{TreeValue}
use Rattle.tl_instr.specs.Codes.{CodeValue}
use Rattle.tl_machine.specs.Alone.{alone}
use Rattle.tl_machine.specs.Outcomes.{IsAnswer, outcome_of}
use Rattle.tl_tree.proofs.Texts.{integers_whole, record_written}
use Rattle.tl_commands.specs.Alone.{answer_text, run_alone}

-- the value of the first line
abbrev pub answer_data : List ℤ → ℕ → Data
answer_data reply steps = object (member (codes "reply") (integers_data reply) (member (codes "steps") (integer_data (pos steps)) no_members))

pub answer_whole : (reply : List ℤ) (steps : ℕ) → has_float (answer_data reply steps) ≡ false
answer_whole reply steps = rw (integers_whole reply) refl

regroup : (a b c d e : List ℕ) → a ++ (b ++ (c ++ (d ++ e))) ≡ a ++ b ++ c ++ d ++ e
regroup a b c d e = sym (append_assoc (a ++ b ++ c) d e ∙ append_assoc (a ++ b) c (d ++ e) ∙ append_assoc a b (c ++ (d ++ e)))

pub answer_written : (reply : List ℤ) (steps : ℕ) → compact_text (answer_data reply steps) ≡ answer_text reply steps
unfolding serde_json_on_literals
answer_written reply steps =
    ap (λ list. codes "{\"reply\":" ++ (list ++ (codes ",\"steps\":" ++ (decimal steps ++ codes "}")))) (record_written reply)
    ∙ regroup (codes "{\"reply\":") (list_text signed_decimal reply) (codes ",\"steps\":") (decimal steps) (codes "}")

pub ran_from : (t now : TreeValue) (p code : CodeValue) (given args : List ℤ) (reply : List ℤ) (steps : ℕ) → p ≡ code → given ≡ args
    → IsAnswer (outcome_of (alone p.instrs t.parents given t.records)) reply steps
    → now ≡ record t { records = (outcome_of (alone p.instrs t.parents given t.records)).tree }
    → record { reply = reply; steps = steps; tree = now } ≡ run_alone t (outcome_of (alone code.instrs t.parents args t.records))
ran_from t now p code given args reply steps code_is args_are answer now_is =
    rw (answer.reply_is, answer.steps_are, now_is) (ap₂ (λ instrs xs. run_alone t (outcome_of (alone instrs t.parents xs t.records))) (ap (λ x. x.instrs) code_is) args_are)
