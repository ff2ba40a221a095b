-- Handling a failure: its pad frees what isn't held at the handler's start.
use Rattle.std.proofs.Common.{◌≡◌, ℕ, suc, ◌≤◌, List, [], ◌∷◌, length, Bool, true, false, not, ◌&&◌, if◌then◌else◌, refl, sym, ap, ◌∙◌, subst, arith, append-nil, ◌⊎◌, inl, inr}
use Rattle.std.proofs.lemmas.Bool.{not-false, false≢true}
use Rattle.tl_instr.specs.declared.operand.TheConstants.{NODE_REGISTERS}
use Rattle.tl_instr.specs.declared.instr.Instr.{Instr}
use Rattle.tl_instr.specs.declared.instr.Instr.TheVariants as I
use Rattle.tl_tree_locking.specs.declared.action.Action.TheVariants as did
use Rattle.tl_machine.specs.Runs.{State, Run}
use Rattle.tl_machine.specs.Left.{Frame}
use Rattle.tl_compiler.specs.Labels.{target_of}
use Rattle.tl_lowering.specs.Sets.{Nodes, both, minus, same, is_among}
use Rattle.tl_compiler.specs.Statements.{release_code, Pads, pad_at, one_pad, pads_of}
use Rattle.tl_meaning.specs.Meaning.{On, Done, plain, leave}
use Rattle.tl_meaning.specs.Leading.{Leads, Runs, from_label, IsInside}
use Rattle.tl_compiler.specs.Tails.{Tail}
use Rattle.tl_meaning.specs.Endings.{Mirrors}
use Rattle.tl_compiler.specs.Among.{IsIn}
use Rattle.tl_meaning.proofs.Steps.{stays, and_on, further_in, goes_to_label}
use Rattle.tl_compiler.proofs.TailLemmas.{tail_further, tail_behind, tail_length}
use Rattle.tl_compiler.proofs.Stretches.{tail_of_stretch}
use Rattle.tl_compiler.proofs.SetLemmas.{Within, both_within, same_is, same_itself, among}
use Rattle.tl_compiler.proofs.NumberStretches.{release_stretch}
use Rattle.tl_compiler.proofs.StatementStretches.{pads_stretch}
use Rattle.tl_meaning.proofs.SimpleRuns.{held_size, holds_there, released}
use Rattle.tl_meaning.proofs.WayRuns.{leaves_all}

-- ---- pads

pub pads_bound : (sets failing : List Nodes) (handled : Nodes) (label : ℕ) (base : Pads) → ((h : Nodes) → base.pad h ≤ length base.code) → (h : Nodes) → (pads_of sets failing handled label base).pad h ≤ length (pads_of sets failing handled label base).code
pads_bound [] failing handled label base le h = le h
pads_bound (g ∷ others) failing handled label base le h = by (is_among g failing && not (same g handled)) (pads_bound others failing handled label base le h)
  where
    by : (b : Bool) → (pads_of others failing handled label base).pad h ≤ length (pads_of others failing handled label base).code
        → (one_pad b g handled label (pads_of others failing handled label base)).pad h ≤ length (one_pad b g handled label (pads_of others failing handled label base)).code
    by false rest = rest
    by true rest =
        let more = (pads_of others failing handled label base).code in
        let code = release_code (minus g handled) (I.Jump (target_of label) ∷ more) in
        let long : suc (length more) ≤ length code = tail_length (tail_of_stretch (release_stretch NODE_REGISTERS (minus g handled) (I.Jump (target_of label) ∷ more))) in
        at (same g h) (omega (arith, rest, long))
      where
        at : (b : Bool) → (pads_of others failing handled label base).pad h ≤ length (release_code (minus g handled) (I.Jump (target_of label) ∷ (pads_of others failing handled label base).code))
            → (if b then length (release_code (minus g handled) (I.Jump (target_of label) ∷ (pads_of others failing handled label base).code)) else (pads_of others failing handled label base).pad h)
            ≤ length (release_code (minus g handled) (I.Jump (target_of label) ∷ (pads_of others failing handled label base).code))
        at true le = omega arith
        at false le = le

-- the failure has reached its handler
pub record Handled (c : List Instr) (parents : List ℕ) (fs : List Frame) (d label : ℕ) (start : Nodes) (from : Run) (s : State) : Type 0 where
  pub state : State
  pub leads : Leads from (leave start s).events (from_label c parents fs label state)
  pub agrees : Mirrors d start (leave start s).state state
  pub goes_on : (leave start s).outcome ≡ On

module _ {c : List Instr} (parents : List ℕ) (ready : Runs c) (fs : List Frame) (d : ℕ) (failing : List Nodes) (start : Nodes) (size : length start ≡ NODE_REGISTERS) (label : ℕ) (base : Pads) (pad : Nodes → ℕ)
    (is_base : (h : Nodes) → base.pad h ≡ pad_at start label pad h) (inside : IsInside c fs (length base.code)) (le : label ≤ length base.code) where
  -- the handler begins with everything that is held
  handled_at_once : (s w : State) → Mirrors d start s w → Handled c parents fs d label start (from_label c parents fs label w) s
  handled_at_once s w agrees =
      let none : leave start s ≡ plain On s = leaves_all NODE_REGISTERS start s (λ i h. holds_there agrees i ∙ h) in
      record {
        state = w;
        leads = subst (λ (x : Done). Leads (from_label c parents fs label w) x.events (from_label c parents fs label w)) (sym none) (stays (from_label c parents fs label w));
        agrees = subst (λ (x : Done). Mirrors d start x.state w) (sym none) agrees;
        goes_on = ap (λ (x : Done). x.outcome) none;
      }

  by_base : (h : Nodes) (s w : State) → h ≡ start → Mirrors d h s w → Handled c parents fs d label start (from_label c parents fs (base.pad h) w) s
  by_base h s w e agrees =
      let at : base.pad h ≡ label = is_base h ∙ ap (λ b. if b then label else pad h) (ap (same start) e ∙ same_itself start) in
      subst (λ l. Handled c parents fs d label start (from_label c parents fs l w) s) (sym at)
      (handled_at_once s w (subst (λ g. Mirrors d g s w) e agrees))

  -- the pad frees what isn't held at the handler's start
  by_pad : (g h : Nodes) (more : List Instr) (s w : State) → g ≡ h → Within start h → Mirrors d h s w → Tail c (release_code (minus g start) (I.Jump (target_of label) ∷ more)) → length base.code ≤ length more
      → Handled c parents fs d label start (from_label c parents fs (length (release_code (minus g start) (I.Jump (target_of label) ∷ more))) w) s
  by_pad g h more s w e within agrees tail long =
      let code = I.Jump (target_of label) ∷ more in
      let agrees_g = subst (λ l. Mirrors d l s w) (sym e) agrees in
      let inside_more = further_in c fs (length base.code) (length more) long inside in
      let r = released parents ready fs d g start code s w tail (further_in c fs (length more) (suc (length more)) (omega arith) inside_more) size agrees_g in
      let then_tail = tail_further tail (tail_of_stretch (release_stretch NODE_REGISTERS (minus g start) code)) in
      let jump = goes_to_label parents ready fs (I.Jump (target_of label)) more r.state r.state did.Plain label then_tail inside_more refl (omega (arith, le, long)) refl in
      let both_is : both g start ≡ start = both_within g start (held_size agrees_g ∙ sym size) (subst (Within start) (sym e) within) in
      record {
        state = r.state;
        leads = subst (λ es. Leads (from_label c parents fs (length (release_code (minus g start) code)) w) es (from_label c parents fs label r.state)) (append-nil (leave start s).events) (and_on r.leads jump);
        agrees = subst (λ l. Mirrors d l (leave start s).state r.state) both_is r.agrees;
        goes_on = r.goes_on;
      }

  -- a failure reaches its handler
  pub pad_runs : (sets : List Nodes) (h : Nodes) (s w : State) → IsIn h sets ⊎ (h ≡ start) → IsIn h failing → Within start h → Mirrors d h s w → Tail c (pads_of sets failing start label base).code
      → Handled c parents fs d label start (from_label c parents fs ((pads_of sets failing start label base).pad h) w) s
  pad_runs [] h s w (inl e) m within agrees tail = absurd e
  pad_runs [] h s w (inr e) m within agrees tail = by_base h s w e agrees
  pad_runs (g ∷ others) h s w one m within agrees tail = by (is_among g failing && not (same g start)) refl tail (λ o t. pad_runs others h s w o m within agrees t)
    where
      without : (is_among g failing && not (same g start)) ≡ false → IsIn h (g ∷ others) ⊎ (h ≡ start) → IsIn h others ⊎ (h ≡ start)
      without q (inl (inl e)) =
          let is : is_among g failing ≡ true = subst (λ x. is_among x failing ≡ true) e (among h failing m) in
          let not_same : not (same g start) ≡ false = ap (λ b. b && not (same g start)) (sym is) ∙ q in
          inr (e ∙ same_is g start (not-false (same g start) not_same))
      without q (inl (inr n)) = inl n
      without q (inr e) = inr e

      otherwise : same g h ≡ false → IsIn h (g ∷ others) ⊎ (h ≡ start) → IsIn h others ⊎ (h ≡ start)
      otherwise f (inl (inl e)) = absurd (false≢true (sym f ∙ ap (λ x. same x h) (sym e) ∙ same_itself h))
      otherwise f (inl (inr n)) = inl n
      otherwise f (inr e) = inr e

      by : (b : Bool) → (is_among g failing && not (same g start)) ≡ b → Tail c (one_pad b g start label (pads_of others failing start label base)).code
          → (IsIn h others ⊎ (h ≡ start) → Tail c (pads_of others failing start label base).code → Handled c parents fs d label start (from_label c parents fs ((pads_of others failing start label base).pad h) w) s)
          → Handled c parents fs d label start (from_label c parents fs ((one_pad b g start label (pads_of others failing start label base)).pad h) w) s
      by false q tail rest = rest (without q one) tail
      by true q tail rest = at (same g h) refl
        where
          at : (b : Bool) → same g h ≡ b
              → Handled c parents fs d label start (from_label c parents fs (if b then length (release_code (minus g start) (I.Jump (target_of label) ∷ (pads_of others failing start label base).code)) else (pads_of others failing start label base).pad h) w) s
          at true f = by_pad g h (pads_of others failing start label base).code s w (same_is g h f) within agrees tail (tail_length (tail_of_stretch (pads_stretch others failing start label base)))
          at false f =
              let code = I.Jump (target_of label) ∷ (pads_of others failing start label base).code in
              rest (otherwise f one) (tail_further (tail_further tail (tail_of_stretch (release_stretch NODE_REGISTERS (minus g start) code))) (tail_behind (I.Jump (target_of label)) (pads_of others failing start label base).code))
