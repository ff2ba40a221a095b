-- The output of the command `alone`, and its faults.
use Rattle.std.specs.Prelude.{◌≡◌, ◌≢◌, ◌⊎◌, ℕ, ℤ, List, [], ◌∷◌, ◌++◌, length, codes, decimal, false, Option, Some, None, option_and_then, Ok, Err, IsUtf8}
use Rattle.std.specs.Fmt.{signed_decimal}
use Rattle.serde_json.specs.Read.{read}
use Rattle.tl_tree.specs.Trees.{TreeValue}
use Rattle.tl_tree.specs.Reading.{tree_of_text, integers_of}
use Rattle.tl_tree.specs.Writing.{list_text, tree_text}
use Rattle.tl_tree.specs.declared.fault.TreeFault.{TreeFault}
use Rattle.tl_tree.specs.declared.fault.TreeFault.TheVariants as tree
use Rattle.tl_instr.specs.Codes.{CodeValue}
use Rattle.tl_sources.specs.declared.source.Source.{Source as SourceFile}
use Rattle.tl_sources.specs.Sources.{IsProcedureOf, IsSourceFault}
use Rattle.tl_sources.specs.Faults.{is_memory}
use Rattle.tl_machine.specs.Alone.{alone}
use Rattle.tl_tree_locking.specs.Alone.{Outcome}
use Rattle.tl_machine.specs.Outcomes.{outcome_of}
use Rattle.tl_commands.specs.declared.fault.CliFault.{CliFault}
use Rattle.tl_commands.specs.declared.fault.CliFault.TheVariants.{Unreadable, Unwritable, NoPort, NotUtf8, Asm, Tree, Code, Verify, Source, Sources, Register, Core, Trail, Audit, Chain, Engine, Replaced, NotClosed, NotScript, NotArgs, WrongArgs, Memory}

-- the first line: the reply, and the number of instructions executed
abbrev pub answer_text : List ℤ → ℕ → List ℕ
answer_text reply steps = codes "{\"reply\":" ++ list_text signed_decimal reply ++ codes ",\"steps\":" ++ decimal steps ++ codes "}"

-- a call that ran alone: its reply, the number of instructions executed, and the tree after it
pub record AloneValue : Type 0 where
  pub reply : List ℤ
  pub steps : ℕ
  pub tree : TreeValue

-- this outcome of a call on the tree
abbrev pub run_alone : TreeValue → Outcome → AloneValue
run_alone t o = record { reply = o.reply; steps = length o.actions; tree = record t { records = o.tree } }

-- two lines: the answer, and the tree
abbrev pub printed : AloneValue → List ℕ
printed r = answer_text r.reply r.steps ++ 10 ∷ tree_text r.tree ++ 10 ∷ []

-- the arguments in a text
abbrev pub args_of_text : List ℕ → Option (List ℤ)
args_of_text text = option_and_then integers_of (read text)

-- The tree, the procedure and the arguments that the inputs denote.
pub record AloneInputs (limit : ℕ) (tree_bytes : List ℕ) (source : SourceFile) (name : Option (List ℕ)) (args_text : List ℕ) : Type 0 where
  pub tree : TreeValue
  pub code : CodeValue
  pub args : List ℤ
  pub tree_is : tree_of_text limit tree_bytes ≡ Ok tree
  pub code_is : IsProcedureOf source name code
  pub args_are : args_of_text args_text ≡ Some args

-- This is what the procedure does alone.
pub record IsRunAlone (limit : ℕ) (tree_bytes : List ℕ) (source : SourceFile) (name : Option (List ℕ)) (args_text : List ℕ) (r : AloneValue) : Type 0 where
  pub inputs : AloneInputs limit tree_bytes source name args_text
  pub arity : length inputs.args ≡ inputs.code.arity
  pub same : r ≡ run_alone inputs.tree (outcome_of (alone inputs.code.instrs inputs.tree.parents inputs.args inputs.tree.records))

-- the bytes of a file denote a tree
pub record IsTreeFile (limit : ℕ) (bytes : List ℕ) : Type 0 where
  pub tree : TreeValue
  pub same : tree_of_text limit bytes ≡ Ok tree

-- the fault of a file that should contain a tree
abbrev pub IsTreeFault : ℕ → List ℕ → TreeFault → Type 0
IsTreeFault limit t f = ((IsUtf8 t → ⊥) × (f ≡ tree.NotTree)) ⊎ (tree_of_text limit t ≡ Err f)

-- The fault of the first input that has one: the tree, the procedure, the arguments, or their number.
abbrev pub IsFirstAloneFault : ℕ → List ℕ → SourceFile → Option (List ℕ) → List ℕ → CliFault → Type 0
IsFirstAloneFault limit t source name a (Tree f) = f ≢ tree.Memory → IsTreeFault limit t f
IsFirstAloneFault limit t source name a (Source f) = is_memory f ≡ false → IsTreeFile limit t × IsSourceFault source name f
IsFirstAloneFault limit t source name a NotArgs = IsTreeFile limit t × (code : CodeValue) × IsProcedureOf source name code × (args_of_text a ≡ None)
IsFirstAloneFault limit t source name a WrongArgs = (inputs : AloneInputs limit t source name a) × (length inputs.args ≢ inputs.code.arity)
IsFirstAloneFault limit t source name a Memory = Unit {0}
IsFirstAloneFault limit t source name a Unreadable = ⊥
IsFirstAloneFault limit t source name a Unwritable = ⊥
IsFirstAloneFault limit t source name a NoPort = ⊥
IsFirstAloneFault limit t source name a NotUtf8 = ⊥
IsFirstAloneFault limit t source name a (Asm f) = ⊥
IsFirstAloneFault limit t source name a (Code f) = ⊥
IsFirstAloneFault limit t source name a (Verify f) = ⊥
IsFirstAloneFault limit t source name a (Sources r) = ⊥
IsFirstAloneFault limit t source name a (Register f) = ⊥
IsFirstAloneFault limit t source name a (Core f) = ⊥
IsFirstAloneFault limit t source name a (Trail f) = ⊥
IsFirstAloneFault limit t source name a (Audit f) = ⊥
IsFirstAloneFault limit t source name a (Chain f) = ⊥
IsFirstAloneFault limit t source name a (Engine r) = ⊥
IsFirstAloneFault limit t source name a Replaced = ⊥
IsFirstAloneFault limit t source name a NotClosed = ⊥
IsFirstAloneFault limit t source name a NotScript = ⊥
