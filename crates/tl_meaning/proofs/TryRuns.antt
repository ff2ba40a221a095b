-- A statement with the handler of its failure.
use Rattle.std.proofs.Common.{◌≡◌, ℕ, ◌≤◌, List, [], ◌∷◌, ◌++◌, length, Bool, true, false, ◌||◌, Option, Some, None, is_some, if◌then◌else◌, refl, sym, ap, ◌∙◌, subst, arith, append_assoc, inl}
use Rattle.std.proofs.lemmas.Bool.{or_parts}
use Rattle.tl_instr.specs.declared.instr.Instr.{Instr}
use Rattle.tl_tree_locking.specs.declared.action.Action.{Action}
use Rattle.tl_machine.specs.Runs.{State, Run}
use Rattle.tl_machine.specs.Left.{Frame}
use Rattle.tl_lowering.specs.declared.program.Statement.{Statement}
use Rattle.tl_lowering.specs.Sets.{Nodes, both_of, same, all_of}
use Rattle.tl_compiler.specs.NodeSets.{all_sets}
use Rattle.tl_lowering.specs.Outcomes.{handled_by, after, fails, breaks}
use Rattle.tl_compiler.specs.Statements.{Site, direct, joining_code, Second, Pads, pad_at, pads_of, held_behind, statement_code}
use Rattle.tl_meaning.specs.Meaning.{Ending, On, Breaks, Fails, Returns, Done, after_events, is_on, and_then, or_else, leave, leaving, behaviour}
use Rattle.tl_compiler.specs.Tails.{Tail}
use Rattle.tl_meaning.specs.Leading.{Runs, from_label}
use Rattle.tl_meaning.specs.Endings.{Mirrors, IsSite, LeadsBy, StatementLeads}
use Rattle.tl_compiler.specs.Among.{IsIn}
use Rattle.tl_lowering.specs.Sound.{IsWellFormed}
use Rattle.tl_meaning.proofs.Steps.{and_on, further_in}
use Rattle.tl_compiler.proofs.TailLemmas.{tail_further, tail_length}
use Rattle.tl_compiler.proofs.Stretches.{tail_of_stretch}
use Rattle.tl_compiler.proofs.SetLemmas.{Within, within_left, in_left, in_right, all_within}
use Rattle.tl_compiler.proofs.SizeLemmas.{handled_sized, sizes}
use Rattle.tl_compiler.proofs.StatementStretches.{statement_stretch, joining_stretch, pads_stretch}
use Rattle.tl_meaning.proofs.StatementRuns.{prefixed, widened, StatementRuns}
use Rattle.tl_meaning.proofs.SimpleRuns.{held_size}
use Rattle.tl_meaning.proofs.WayRuns.{joined, second_runs}
use Rattle.tl_compiler.proofs.WayLemmas.{second_short, keeps_first, keeps_second}
use Rattle.tl_meaning.proofs.ChoiceRuns.{second_bounds, second_at}
use Rattle.tl_compiler.proofs.PadSets.{one_of_all, pads_none}
use Rattle.tl_meaning.proofs.PadRuns.{pads_bound, pad_runs}

-- events before a statement stay before its frees
pub leaving_behind : (whole : Option Nodes) (first : List Action) (d : Done) → leaving whole (after_events first d) ≡ after_events first (leaving whole d)
leaving_behind whole first d = by d.outcome whole
  where
    by : (o : Ending) (whole : Option Nodes) → leaving whole (after_events first (record { outcome = o; state = d.state; events = d.events })) ≡ after_events first (leaving whole (record { outcome = o; state = d.state; events = d.events }))
    by On None = ap (λ es. let r : Done = record { outcome = On; state = d.state; events = es } in r) (append_assoc first d.events [])
    by On (Some kept) = ap (λ es. let r : Done = record { outcome = (leave kept d.state).outcome; state = (leave kept d.state).state; events = es } in r) (append_assoc first d.events (leave kept d.state).events)
    by Breaks whole = refl
    by Fails whole = refl
    by Returns whole = refl

-- what is held at the handler's start is held at each failure
pub start_within : (held h : Nodes) (failing : List Nodes) → IsIn h failing → Within (handled_by held (all_of failing)) h
start_within held h failing m = by (all_of failing) refl
  where
    by : (o : Option Nodes) → all_of failing ≡ o → Within (handled_by held o) h
    by None e = absurd (some failing m e)
      where
        some : (hs : List Nodes) → IsIn h hs → all_of hs ≡ None → ⊥
        some [] m e = m
        some (x ∷ hs) m e = at (all_of hs) e
          where
            at : (o : Option Nodes) → both_of (Some x) o ≡ None → ⊥
            at None e = cc
            at (Some y) e = cc
    by (Some g) e = λ i b. all_within h failing g m e i (within_left g held i b)

module _ {c : List Instr} (parents : List ℕ) (ready : Runs c) (a b : Statement) (ones : StatementRuns parents ready a) (twos : StatementRuns parents ready b) (held : Nodes) (x : Site) (k : List Instr) (fs : List Frame) where
  abbrev start : Nodes
  start = handled_by held (all_of (fails a held))

  abbrev whole : Option Nodes
  whole = both_of (after a held) (after b start)

  abbrev second : Second
  second = second_at parents ready b start x (held_behind whole) k

  abbrev base : Pads
  base = record { code = second.code; pad = pad_at start second.label x.pad; are_some = false }

  abbrev pads : Pads
  pads = pads_of all_sets (fails a held) start second.label base

  abbrev inner : Site
  inner = record x { pad = pads.pad }

  abbrev rest : List Instr
  rest = joining_code (after a held) (held_behind whole) (second.jumps || pads.are_some) (length k) pads.code

  module _ (site : IsSite c fs x (length k)) where
    bounds : (length k ≤ length second.code) × (second.label ≤ length second.code)
    bounds = second_bounds b start x (held_behind whole) k site (direct b start x) refl

    base_bound : (h : Nodes) → base.pad h ≤ length base.code
    base_bound h = by (same start h)
      where
        by : (t : Bool) → (if t then second.label else x.pad h) ≤ length second.code
        by true = bounds.1
        by false = let le = site.pads h in let long = bounds.0 in omega (arith, le, long)

    pads_long : length second.code ≤ length pads.code
    pads_long = tail_length (tail_of_stretch (pads_stretch all_sets (fails a held) start second.label base))

    inner_site : IsSite c fs inner (length rest)
    inner_site =
        let long : length pads.code ≤ length rest = tail_length (tail_of_stretch (joining_stretch (after a held) (held_behind whole) (second.jumps || pads.are_some) (length k) pads.code)) in
        let first = bounds.0 in
        let all = pads_long in
        record {
          inside = further_in c fs (length k) (length rest) (omega (arith, long, first, all)) site.inside;
          pads = λ h. let le = pads_bound all_sets (fails a held) start second.label base base_bound h in omega (arith, le, long);
          exits = λ e is. let le = site.exits e is in omega (arith, le, long, first, all);
          sizes = site.sizes;
        }

    -- if the statement ends without a jump, the end of both ways is directly after it
    same_end : (second.jumps || pads.are_some) ≡ false → length pads.code ≡ length k
    same_end e =
        let h = or_parts second.jumps pads.are_some e in
        ap length (pads_none all_sets (fails a held) start second.label base h.1) ∙ second_short (direct b start x) b start x (held_behind whole) k h.0

    joined_end : (j : Bool) → (second.jumps || pads.are_some) ≡ j → (if j then length k else length pads.code) ≡ length k
    joined_end true e = refl
    joined_end false e = same_end e

    try_by : (s u : State) → Mirrors x.values held s u → Tail c rest → IsWellFormed b x.values x.nodes start (is_some x.exit)
        → (from : Run) (o : Ending) (t : State) (events : List Action) → LeadsBy (after a held) (fails a held) (breaks a held) c parents fs inner (length rest) from o t events
        → StatementLeads whole (fails b start) (breaks a held ++ breaks b start) c parents fs x (length k) from
        (leaving whole (or_else (record { outcome = o; state = t; events = events }) (λ t. and_then (leave start t) (behaviour parents b))))
    try_by s u agrees tail sound from Breaks t events l = (l.0, l.1, in_left l.1 (breaks a held) (breaks b start) l.2, l.3, l.4, l.5, l.6)
    try_by s u agrees tail sound from Returns t events l = l
    try_by s u agrees tail sound from On t events l =
        let size = held_size agrees in
        let known = sizes a held size in
        let known_b = sizes b start (handled_sized held (fails a held) size known.fails) in
        let jumps = second.jumps || pads.are_some in
        let longer : length k ≤ length pads.code = let first = bounds.0 in let all = pads_long in omega (arith, first, all) in
        subst (λ on. StatementLeads whole (fails b start) (breaks a held ++ breaks b start) c parents fs x on from (leaving whole (record { outcome = On; state = t; events = events }))) (joined_end jumps refl)
        (joined parents ready (after a held) whole (held_behind whole) (keeps_first (after a held) (after b start) known.after known_b.after) (fails b start) (breaks a held ++ breaks b start) x jumps (length k) pads.code fs
        tail (further_in c fs (length k) (length pads.code) longer site.inside) longer from On t events l)
    try_by s u agrees tail sound from Fails t events l =
        let size = held_size agrees in
        let known = sizes a held size in
        let start_size = handled_sized held (fails a held) size known.fails in
        let known_b = sizes b start start_size in
        let first = bounds.0 in
        let tail_pads : Tail c pads.code = tail_further tail (tail_of_stretch (joining_stretch (after a held) (held_behind whole) (second.jumps || pads.are_some) (length k) pads.code)) in
        let tail_second : Tail c second.code = tail_further tail_pads (tail_of_stretch (pads_stretch all_sets (fails a held) start second.label base)) in
        let p = pad_runs parents ready fs x.values (fails a held) start start_size second.label base x.pad (λ h. refl) (further_in c fs (length k) (length second.code) first site.inside) bounds.1
        all_sets l.1 t l.0 (inl (one_of_all l.1 (held_size l.4))) l.2 (start_within held l.1 (fails a held) l.2) l.4 tail_pads in
        let freed = leave start t in
        let done = behaviour parents b freed.state in
        let all = leaving whole done in
        let there = from_label c parents fs second.label p.state in
        let q = second_runs parents ready b twos start x whole (held_behind whole) (keeps_second (after a held) (after b start) known.after known_b.after) k fs freed.state p.state (direct b start x) refl tail_second site sound p.agrees in
        let wide = widened c parents whole (fails b start) (breaks b start) (fails b start) (breaks a held ++ breaks b start) fs x (length k) there (λ h m. m) (λ h m. in_right h (breaks a held) (breaks b start) m) all.outcome all.state all.events q in
        let behind = prefixed c parents whole (fails b start) (breaks a held ++ breaks b start) fs x (length k) from there (events ++ freed.events) (and_on l.3 p.leads) all.outcome all.state all.events wide in
        let goes : and_then freed (behaviour parents b) ≡ after_events freed.events done = ap (λ o. if is_on o then after_events freed.events done else freed) p.goes_on in
        let twice : after_events events (after_events freed.events done) ≡ after_events (events ++ freed.events) done =
        ap (λ es. let r : Done = record { outcome = done.outcome; state = done.state; events = es } in r) (sym (append_assoc events freed.events done.events)) in
        let same : after_events (events ++ freed.events) all ≡ leaving whole (after_events events (and_then freed (behaviour parents b))) =
        sym (leaving_behind whole (events ++ freed.events) done) ∙ ap (leaving whole) (sym twice ∙ ap (after_events events) (sym goes)) in
        subst (StatementLeads whole (fails b start) (breaks a held ++ breaks b start) c parents fs x (length k) from) same behind

    pub try_runs : (s u : State) → Mirrors x.values held s u → Tail c (statement_code a held inner rest) → IsWellFormed a x.values x.nodes held (is_some x.exit) → IsWellFormed b x.values x.nodes start (is_some x.exit)
        → StatementLeads whole (fails b start) (breaks a held ++ breaks b start) c parents fs x (length k) (from_label c parents fs (length (statement_code a held inner rest)) u)
        (leaving whole (or_else (behaviour parents a s) (λ t. and_then (leave start t) (behaviour parents b))))
    try_runs s u agrees tail sound_a sound_b =
        let done = behaviour parents a s in
        try_by s u agrees (tail_further tail (tail_of_stretch (statement_stretch a held inner rest))) sound_b (from_label c parents fs (length (statement_code a held inner rest)) u) done.outcome done.state done.events
        (ones held inner rest fs s u tail inner_site sound_a agrees)
