-- A statement that locks a place.
use Rattle.std.proofs.Common.{ℕ, ◌≤◌, List, ◌++◌, length, Option, is_some, option_map, if◌then◌else◌, refl, sym, subst, arith}
use Rattle.tl_instr.specs.declared.instr.Instr.{Instr}
use Rattle.tl_tree_locking.specs.declared.action.Action.{Action}
use Rattle.tl_machine.specs.Runs.{State, Run}
use Rattle.tl_machine.specs.Left.{Frame}
use Rattle.tl_lowering.specs.declared.program.Place.{Place}
use Rattle.tl_lowering.specs.declared.program.Place.TheVariants as P
use Rattle.tl_lowering.specs.declared.program.Statement.{Statement}
use Rattle.tl_lowering.specs.Sets.{Nodes, both_of}
use Rattle.tl_lowering.specs.Outcomes.{locked, unlocked, after, fails, breaks}
use Rattle.tl_compiler.specs.Statements.{Site, Second, direct, place_code, held_behind}
use Rattle.tl_lowering.specs.Sound.{nodes_behind, IsWellFormed, IsLockable}
use Rattle.tl_meaning.specs.Meaning.{Ending, On, Breaks, Fails, Returns, after_events, is_on, lock_place, leaving, behaviour}
use Rattle.tl_compiler.specs.Tails.{Tail}
use Rattle.tl_meaning.specs.Leading.{Runs, from_label, IsInside}
use Rattle.tl_meaning.specs.Endings.{Mirrors, IsSite, LeadsBy, StatementLeads}
use Rattle.tl_compiler.proofs.TailLemmas.{tail_further, tail_length}
use Rattle.tl_meaning.proofs.Steps.{further_in}
use Rattle.tl_compiler.proofs.Stretches.{tail_of_stretch}
use Rattle.tl_compiler.proofs.SetLemmas.{in_left, in_right}
use Rattle.tl_compiler.proofs.SizeLemmas.{IsSized, locked_sized, sizes}
use Rattle.tl_compiler.proofs.StatementStretches.{place_stretch}
use Rattle.tl_meaning.proofs.StatementRuns.{prefixed, widened, StatementRuns}
use Rattle.tl_meaning.proofs.SimpleRuns.{held_size}
use Rattle.tl_compiler.proofs.WayLemmas.{keeps_first, keeps_second, keeps_unlocked}
use Rattle.tl_meaning.proofs.ChoiceRuns.{second_bounds, second_at, first_at, first_tail, way_runs}
use Rattle.tl_meaning.proofs.TryRuns.{leaving_behind}
use Rattle.tl_meaning.proofs.PlaceRuns.{PlaceLeads, node_runs, kid_runs}
use Rattle.tl_meaning.proofs.PairRuns.{pair_runs}

module _ {c : List Instr} (parents : List ℕ) (ready : Runs c) (place : Place) (a o : Statement) (ones : StatementRuns parents ready a) (twos : StatementRuns parents ready o) (held : Nodes) (x : Site) (k : List Instr) (fs : List Frame) where
  abbrev then_held : Nodes
  then_held = locked place held

  abbrev inner : Site
  inner = record x { nodes = nodes_behind place }

  abbrev whole : Option Nodes
  whole = option_map (unlocked place) (both_of (after a then_held) (after o held))

  abbrev second : Second
  second = second_at parents ready o held x (held_behind whole) k

  abbrev code : List Instr
  code = first_at parents ready a then_held inner (held_behind whole) second k

  abbrev failing : List Nodes
  failing = fails a then_held ++ fails o held

  abbrev breaking : List Nodes
  breaking = breaks a then_held ++ breaks o held

  module _ (site : IsSite c fs x (length k)) (sound_a : IsWellFormed a x.values (nodes_behind place) then_held (is_some x.exit)) (sound_o : IsWellFormed o x.values x.nodes held (is_some x.exit)) (size : IsSized held) where
    ways : Tail c code → ((s u : State) → Mirrors x.values then_held s u
        → StatementLeads whole (fails a then_held) (breaks a then_held) c parents fs inner (length k) (from_label c parents fs (length code) u) (leaving whole (behaviour parents a s)))
        × ((s u : State) → Mirrors x.values held s u
        → StatementLeads whole (fails o held) (breaks o held) c parents fs x (length k) (from_label c parents fs second.label u) (leaving whole (behaviour parents o s)))
    ways tail =
        let on_a = (sizes a then_held (locked_sized place held size)).after in
        let on_o = (sizes o held size).after in
        way_runs parents ready a o ones twos then_held held inner x whole (held_behind whole)
        (keeps_unlocked place (after a then_held) (both_of (after a then_held) (after o held)) (keeps_first (after a then_held) (after o held) on_a on_o))
        (keeps_unlocked place (after o held) (both_of (after a then_held) (after o held)) (keeps_second (after a then_held) (after o held) on_a on_o))
        k fs tail site (record { inside = site.inside; pads = site.pads; exits = site.exits; sizes = site.sizes }) sound_a sound_o

    lock_by : Tail c code → (from : Run) (p : Ending) (s : State) (events : List Action) → PlaceLeads parents ready fs x.values held then_held second.label (length code) from p s events
        → StatementLeads whole failing breaking c parents fs x (length k) from (leaving whole (after_events events (if is_on p then behaviour parents a s else behaviour parents o s)))
    lock_by tail from Breaks s events l = absurd l
    lock_by tail from Returns s events l = absurd l
    lock_by tail from On s events l =
        let all = leaving whole (behaviour parents a s) in
        let there = from_label c parents fs (length code) l.0 in
        subst (StatementLeads whole failing breaking c parents fs x (length k) from) (sym (leaving_behind whole events (behaviour parents a s)))
        (prefixed c parents whole failing breaking fs x (length k) from there events l.1 all.outcome all.state all.events
        (widened c parents whole (fails a then_held) (breaks a then_held) failing breaking fs x (length k) there (λ h m. in_left h (fails a then_held) (fails o held) m) (λ h m. in_left h (breaks a then_held) (breaks o held) m) all.outcome all.state all.events
        (same_site all.outcome all.state all.events ((ways tail).0 s l.0 l.2))))
      where
        same_site : (p : Ending) (t : State) (es : List Action) → LeadsBy whole (fails a then_held) (breaks a then_held) c parents fs inner (length k) (from_label c parents fs (length code) l.0) p t es
            → LeadsBy whole (fails a then_held) (breaks a then_held) c parents fs x (length k) (from_label c parents fs (length code) l.0) p t es
        same_site On t es m = m
        same_site Fails t es m = m
        same_site Breaks t es m = m
        same_site Returns t es m = m
    lock_by tail from Fails s events l =
        let all = leaving whole (behaviour parents o s) in
        let there = from_label c parents fs second.label l.0 in
        subst (StatementLeads whole failing breaking c parents fs x (length k) from) (sym (leaving_behind whole events (behaviour parents o s)))
        (prefixed c parents whole failing breaking fs x (length k) from there events l.1 all.outcome all.state all.events
        (widened c parents whole (fails o held) (breaks o held) failing breaking fs x (length k) there (λ h m. in_right h (fails a then_held) (fails o held) m) (λ h m. in_right h (breaks a then_held) (breaks o held) m) all.outcome all.state all.events
        ((ways tail).1 s l.0 l.2)))

    label_bound : second.label ≤ length code
    label_bound =
        let bounds = second_bounds o held x (held_behind whole) k site (direct o held x) refl in
        let le = bounds.1 in
        let long = tail_length (first_tail parents ready a then_held inner (held_behind whole) second k) in
        omega (arith, le, long)

    code_long : length k ≤ length code
    code_long =
        let bounds = second_bounds o held x (held_behind whole) k site (direct o held x) refl in
        let le = bounds.0 in
        let long = tail_length (first_tail parents ready a then_held inner (held_behind whole) second k) in
        omega (arith, le, long)

-- the code of a place goes on if the place is locked, and otherwise to the label
place_runs : {c : List Instr} (parents : List ℕ) (ready : Runs c) (fs : List Frame) (place : Place) (t f : ℕ) (held : Nodes) (rest : List Instr) (s u : State)
    → Tail c (place_code place t f rest) → f ≤ length rest → IsInside c fs (length rest) → IsLockable place t held → Mirrors t held s u
    → PlaceLeads parents ready fs t held (locked place held) f (length rest) (from_label c parents fs (length (place_code place t f rest)) u) (lock_place parents place s).outcome (lock_place parents place s).state (lock_place parents place s).events
place_runs parents ready fs (P.Node n e) t f held rest s u tail bound inside lockable agrees =
    node_runs parents ready fs n e t f held rest s u tail bound inside lockable.1 agrees
place_runs parents ready fs (P.Child n p e) t f held rest s u tail bound inside lockable agrees =
    kid_runs parents ready fs n p e t f held rest s u tail bound inside lockable.1 lockable.2 agrees
place_runs parents ready fs (P.Pair n m p e g) t f held rest s u tail bound inside lockable agrees =
    pair_runs parents ready fs n m p e g f t rest bound inside held lockable.0 lockable.1 lockable.2 lockable.3 lockable.4 lockable.5 s u tail agrees

pub lock_runs : {c : List Instr} (parents : List ℕ) (ready : Runs c) (place : Place) (a o : Statement) (ones : StatementRuns parents ready a) (twos : StatementRuns parents ready o) (held : Nodes) (x : Site) (k : List Instr) (fs : List Frame)
    → IsSite c fs x (length k) → IsLockable place x.values held → IsWellFormed a x.values (nodes_behind place) (locked place held) (is_some x.exit) → IsWellFormed o x.values x.nodes held (is_some x.exit)
    → (s u : State) → Mirrors x.values held s u → Tail c (place_code place x.values (second parents ready place a o ones twos held x k fs).label (code parents ready place a o ones twos held x k fs))
    → StatementLeads (whole parents ready place a o ones twos held x k fs) (failing parents ready place a o ones twos held x k fs) (breaking parents ready place a o ones twos held x k fs) c parents fs x (length k)
    (from_label c parents fs (length (place_code place x.values (second parents ready place a o ones twos held x k fs).label (code parents ready place a o ones twos held x k fs))) u)
    (leaving (whole parents ready place a o ones twos held x k fs) (after_events (lock_place parents place s).events (if is_on (lock_place parents place s).outcome then behaviour parents a (lock_place parents place s).state else behaviour parents o (lock_place parents place s).state)))
lock_runs {c} parents ready place a o ones twos held x k fs site lockable sound_a sound_o s u agrees tail =
    let size = held_size agrees in
    let f = (second parents ready place a o ones twos held x k fs).label in
    let inner_code = code parents ready place a o ones twos held x k fs in
    let done = lock_place parents place s in
    lock_by parents ready place a o ones twos held x k fs site sound_a sound_o size (tail_further tail (tail_of_stretch (place_stretch place x.values f inner_code)))
    (from_label c parents fs (length (place_code place x.values f inner_code)) u) done.outcome done.state done.events
    (place_runs parents ready fs place x.values f held inner_code s u tail (label_bound parents ready place a o ones twos held x k fs site sound_a sound_o size)
    (further_in c fs (length k) (length inner_code) (code_long parents ready place a o ones twos held x k fs site sound_a sound_o size) site.inside) lockable agrees)
