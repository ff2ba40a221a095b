-- The code of statements as it is put together.
use Rattle.std.proofs.Common.{◌≡◌, ℕ, List, [], ◌∷◌, length, Bool, false, ◌||◌, None, option_map, Result, Ok, Err, OnOk, sym, ap, ap₂, ◌∙◌, subst}
use Rattle.tl_instr.specs.declared.instr.Instr.{Instr}
use Rattle.tl_instr.specs.declared.instr.Instr.TheVariants.{Return}
use Rattle.tl_lowering.specs.declared.program.Statement.{Statement}
use Rattle.tl_lowering.specs.Sets.{Nodes, none_held, all_of}
use Rattle.tl_lowering.specs.Outcomes.{after, fails, handled_by}
use Rattle.tl_compiler.specs.declared.context.Context.{Context}
use Rattle.tl_compiler.specs.declared.draft.Draft.{Draft}
use Rattle.tl_compiler.specs.declared.statements.Ways.{Ways}
use Rattle.tl_compiler.specs.Contexts.{LeadsTo, Describes, Writes, AreWays, ArePads, exit_of, code_of, way_of, guarded_code}
use Rattle.tl_compiler.specs.NodeSets.{nodes_of, all_sets}
use Rattle.tl_compiler.specs.Statements as Code
use Rattle.tl_compiler.specs.Statements.{Site, held_behind, pad_at, pads_of, second_way, joining_code, statement_code, procedure_code}

pub ok_more : {P Q : Type 0} {T E : Type 0} (r : Result T E) → (P → Q) → OnOk r P → OnOk r Q
ok_more (Ok v) f h = f h
ok_more (Err e) f h = tt

-- the body of a procedure, in front of its return
pub procedure_written : (body : Statement) (arity here : ℕ) (c : Context) (first whole : Draft)
    → Writes (statement_code body (nodes_of c.held)) c first whole
    → c.values ≡ arity → c.nodes ≡ 0 → c.exit ≡ None → nodes_of c.held ≡ none_held → LeadsTo (λ held. here) c.pads.now
    → here ≡ length (code_of first) → code_of first ≡ Return ∷ []
    → code_of whole ≡ procedure_code arity body
procedure_written body arity here c first whole writes values nodes exit held pads place is =
    let one : here ≡ 1 = place ∙ ap length is in
    let start : Site = record { values = arity; nodes = 0; pad = λ held. 1; exit = None } in
    let agrees : Describes start c =
    record { values = sym values; nodes = sym nodes; pads = subst (λ n. LeadsTo (λ held. n) c.pads.now) one pads; exit = sym (ap (option_map exit_of) exit) } in
    writes.written start agrees ∙ ap₂ (λ h k. statement_code body h start k) held is

-- the first way of a statement whose failures the second way handles: its site has the pads
pub guarded_written : {T E : Type 0} (body : Statement) (held handled : Nodes) (ways padded : Ways) (c inside : Context) (is_one : Bool) (old half new : Draft) (r : Result T E)
    → OnOk r (Writes (λ x k. statement_code body held x (joining_code (after body held) (nodes_of padded.kept) padded.jumps padded.done.0 k)) inside half new)
    → inside.values ≡ c.values → inside.nodes ≡ c.nodes → inside.exit ≡ c.exit → padded ≡ record ways { jumps = ways.jumps || is_one }
    → ((pad : Nodes → ℕ) → LeadsTo pad c.pads.now
    → ArePads (pads_of all_sets (fails body held) handled ways.second.0 (record { code = code_of old; pad = pad_at handled ways.second.0 pad; are_some = false })) half inside.pads.now is_one)
    → OnOk r (Writes (guarded_code body held handled ways) c old new)
guarded_written body held handled ways padded c inside is_one old half new r done values nodes exit jumps pads =
    ok_more r (λ writes. record { written = λ x agrees. by writes x agrees (pads x.pad agrees.pads) }) done
  where
    made : Site → Code.Pads
    made x = pads_of all_sets (fails body held) handled ways.second.0 (record { code = code_of old; pad = pad_at handled ways.second.0 x.pad; are_some = false })

    by : Writes (λ x k. statement_code body held x (joining_code (after body held) (nodes_of padded.kept) padded.jumps padded.done.0 k)) inside half new
        → (x : Site) → Describes x c → ArePads (made x) half inside.pads.now is_one → code_of new ≡ guarded_code body held handled ways x (code_of old)
    by writes x agrees are =
        let there : Site = record x { pad = (made x).pad } in
        let same : Describes there inside =
        record { values = agrees.values ∙ sym values; nodes = agrees.nodes ∙ sym nodes; pads = are.leads; exit = agrees.exit ∙ sym (ap (option_map exit_of) exit) } in
        writes.written there same
        ∙ ap (λ (w : Ways). statement_code body held there (joining_code (after body held) (nodes_of w.kept) w.jumps w.done.0 (code_of half))) jumps
        ∙ ap₂ (λ b k. statement_code body held there (joining_code (after body held) (nodes_of ways.kept) (ways.jumps || b) ways.done.0 k)) are.some are.code

abbrev try_code : Statement → Nodes → Site → Nodes → Nodes → ℕ → Bool → ℕ → List Instr → List Instr
try_code a held x start kept label jumps done k =
    let pads = pads_of all_sets (fails a held) start label (record { code = k; pad = pad_at start label x.pad; are_some = false }) in
    statement_code a held (record x { pad = pads.pad }) (joining_code (after a held) kept (jumps || pads.are_some) done pads.code)

abbrev try_by : Statement → Statement → Nodes → Site → Nodes → Nodes → List Instr → List Instr
try_by a b held x start kept k =
    let second = second_way (way_of b start x) kept k in try_code a held x start kept second.label second.jumps (length k) second.code

pub try_written : (s a b : Statement) (held start kept : Nodes) (c d : Context) (ways : Ways) (old half new : Draft)
    → ((x : Site) (k : List Instr) → statement_code s held x k ≡ try_by a b held x (handled_by held (all_of (fails a held))) (held_behind (after s held)) k)
    → start ≡ handled_by held (all_of (fails a held)) → kept ≡ held_behind (after s held)
    → ((x : Site) → Describes x c → Describes x d)
    → ((x : Site) → Describes x d → AreWays ways (second_way (way_of b start x) kept (code_of old)) kept old half)
    → Writes (guarded_code a held start ways) c half new
    → Writes (statement_code s held) c old new
try_written s a b held start kept c d ways old half new is begins keeps same second writes = record { written = λ x agrees. by x agrees (second x (same x agrees)) }
  where
    by : (x : Site) → Describes x c → AreWays ways (second_way (way_of b start x) kept (code_of old)) kept old half → code_of new ≡ statement_code s held x (code_of old)
    by x agrees are =
        writes.written x agrees
        ∙ ap₂ (λ kept label. try_code a held x start kept label ways.jumps ways.done.0 (code_of half)) are.keeps are.label
        ∙ ap₂ (λ jumps done. try_code a held x start kept (second_way (way_of b start x) kept (code_of old)).label jumps done (code_of half)) are.jumps are.done
        ∙ ap (λ k. try_code a held x start kept (second_way (way_of b start x) kept (code_of old)).label (second_way (way_of b start x) kept (code_of old)).jumps (length (code_of old)) k) are.code
        ∙ ap₂ (λ start kept. try_by a b held x start kept (code_of old)) begins keeps
        ∙ sym (is x (code_of old))
