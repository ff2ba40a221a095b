-- A register that moves to a child.
use Rattle.std.proofs.Common.{◌≡◌, ◌≢◌, ℕ, zero, suc, ◌+◌, ◌<◌, ◌≤◌, List, [], ◌∷◌, length, get_or, true, false, Option, Some, None, refl, sym, ap, ◌∙◌, subst, arith, inl}
use Rattle.std.specs.Prelude.{slice_set, slice_index, ℤ}
use Rattle.std.proofs.lemmas.List.{length-set, get_or-set_same, get_or-set_other, set-set}
use Rattle.tl_instr.specs.declared.instr.Instr.{Instr}
use Rattle.tl_instr.specs.declared.instr.Instr.TheVariants as I
use Rattle.tl_tree.specs.Shape.{kids}
use Rattle.tl_machine.specs.Runs.{State, Held}
use Rattle.tl_machine.specs.Alone.{open_kid, value, node, with_node}
use Rattle.tl_machine.specs.Left.{Frame}
use Rattle.tl_machine.proofs.Slots.{held_by, empty_by}
use Rattle.tl_lowering.specs.declared.program.Expression.{Expression}
use Rattle.tl_lowering.specs.declared.program.Statement.TheVariants as S
use Rattle.tl_compiler.specs.Labels.{target_of}
use Rattle.tl_compiler.specs.Numbers.{register_of, operand_code}
use Rattle.tl_lowering.specs.Sets.{Nodes, holds, with_node as also}
use Rattle.tl_compiler.specs.Statements.{Site}
use Rattle.tl_meaning.specs.Meaning.{given, number, lock_kid, lock_child_by, go_down, descend_by}
use Rattle.tl_meaning.specs.Leading.{Leads, Runs, from_label}
use Rattle.tl_compiler.specs.Tails.{Tail}
use Rattle.tl_meaning.specs.Endings.{Mirrors, IsSite, StatementLeads}
use Rattle.tl_meaning.proofs.Steps.{and_on, further_in, in_range}
use Rattle.tl_compiler.proofs.TailLemmas.{tail_further, tail_behind}
use Rattle.tl_meaning.proofs.NumberRuns.{OperandEnds, operand_runs}
use Rattle.tl_compiler.proofs.NumberStretches.{operand_tail}
use Rattle.tl_meaning.proofs.SetLemmas.{held_set}
use Rattle.tl_meaning.proofs.ReleaseRuns.{release_step}
use Rattle.tl_meaning.proofs.StatementRuns.{agrees_kept, readable_there, number_there, prefixed, StatementRuns}
use Rattle.tl_meaning.proofs.SimpleRuns.{moves}
use Rattle.tl_meaning.proofs.PlaceRuns.{held_again, KidLeads, child_runs}

-- setting an empty register and clearing it again changes nothing
moment : (l : List (Option Held)) (m : ℕ) (b : Option Held) → get_or l m None ≡ None → slice_set (slice_set l m b) m None ≡ l
moment [] m b e = refl
moment (y ∷ l) zero b e = ap (λ x. x ∷ l) (sym e)
moment (y ∷ l) (suc m) b e = ap (λ l. y ∷ l) (moment l m b e)

went_down : (l : List (Option Held)) (n m : ℕ) (a b : Option Held) → n ≢ m → get_or l m None ≡ None → slice_set (slice_set (slice_set (slice_set (slice_set l n a) m b) n None) m None) n b ≡ slice_set l n b
went_down [] n m a b ne e = refl
went_down (y ∷ l) zero zero a b ne e = absurd (ne refl)
went_down (y ∷ l) zero (suc m) a b ne e = ap (λ l. b ∷ l) (moment l m b e)
went_down (y ∷ l) (suc n) zero a b ne e =
    ap (λ x. x ∷ slice_set (slice_set (slice_set l n a) n None) n b) (sym e)
    ∙ ap (λ l. y ∷ l) (set-set (slice_set l n a) n None b ∙ set-set l n a b)
went_down (y ∷ l) (suc n) (suc m) a b ne e = ap (λ l. y ∷ l) (went_down l n m a b (λ q. ne (ap suc q)) e)

differ : (h : Nodes) (n m : ℕ) → holds h n ≡ true → holds h m ≡ false → n ≢ m
differ h n m a b e = let same : holds h n ≡ holds h m = ap (holds h) e in cc

module _ {c : List Instr} (parents : List ℕ) (ready : Runs c) (n m r f : ℕ) (held : Nodes) (x : Site) (k : List Instr) (fs : List Frame) (site : IsSite c fs x (length k)) (pad : f ≡ x.pad held) (is_held : holds held n ≡ true) (is_free : holds held m ≡ false) where
  abbrev freeing : List Instr
  freeing = I.Release n ∷ I.Move n m ∷ k

  -- with the number in its register
  pub down : (s u : State) (v : ℤ) → Tail c (I.Child m n r (target_of f) ∷ freeing) → Mirrors x.values held s u → value u r ≡ v
      → StatementLeads (Some held) (held ∷ []) [] c parents fs x (length k) (from_label c parents fs (suc (length freeing)) u) (descend_by parents n (node s n) v s)
  down s u v tail agrees is =
      let h = held_by s.nodes n (subst (λ l. holds l n ≡ true) (sym agrees.held) is_held) in
      let le = site.pads held in
      let first = child_runs parents ready fs m n r f x.values held freeing s u v tail (subst (λ p. p ≤ length freeing) (sym pad) (omega (arith, le))) (further_in c fs (length k) (length freeing) (omega arith) site.inside) is_held agrees is in
      let first_h : KidLeads parents ready fs u.values x.values held (also held m) f (length freeing) (from_label c parents fs (suc (length freeing)) u)
      (lock_child_by parents m n (Some h.0) v s).outcome (lock_child_by parents m n (Some h.0) v s).state (lock_child_by parents m n (Some h.0) v s).events =
      subst (λ o. KidLeads parents ready fs u.values x.values held (also held m) f (length freeing) (from_label c parents fs (suc (length freeing)) u)
      (lock_child_by parents m n o v s).outcome (lock_child_by parents m n o v s).state (lock_child_by parents m n o v s).events) h.1 first in
      subst (λ o. StatementLeads (Some held) (held ∷ []) [] c parents fs x (length k) (from_label c parents fs (suc (length freeing)) u) (descend_by parents n o v s)) (sym h.1)
      (by h.0 (open_kid (h.0).cursor (length (kids parents (h.0).node)) v) first_h)
    where
      by : (h : Held) (o : Option ℕ)
          → KidLeads parents ready fs u.values x.values held (also held m) f (length freeing) (from_label c parents fs (suc (length freeing)) u) (lock_kid parents m n h o s).outcome (lock_kid parents m n h o s).state (lock_kid parents m n h o s).events
          → StatementLeads (Some held) (held ∷ []) [] c parents fs x (length k) (from_label c parents fs (suc (length freeing)) u) (go_down n h o parents s)
      by h None l = (l.0, held, inl refl, subst (λ p. Leads (from_label c parents fs (suc (length freeing)) u) [] (from_label c parents fs p l.0)) pad l.1, l.2)
      by h (Some i) l =
          let g : Held = record { node = h.node; cursor = i + 1 } in
          let y = slice_index (kids parents h.node) i in
          let b : Held = record { node = y; cursor = 0 } in
          let t = with_node (with_node s n (Some g)) m (Some b) in
          let w = l.0 in
          let ne = differ held n m is_held is_free in
          let range = in_range parents ready (I.Child m n r (target_of f)) freeing tail in
          let inside_n : n < length s.nodes = subst (λ z. n < z) (sym agrees.nodes) range.1 in
          let inside_m : m < length (slice_set s.nodes n (Some g)) = subst (λ z. m < z) (sym (length-set s.nodes n (Some g) ∙ agrees.nodes)) range.0 in
          let at_n : node t n ≡ Some g = get_or-set_other (slice_set s.nodes n (Some g)) m n (Some b) None ne ∙ get_or-set_same s.nodes n (Some g) None inside_n in
          let code = I.Move n m ∷ k in
          let then_tail = tail_further tail (tail_behind (I.Child m n r (target_of f)) freeing) in
          let freed = release_step parents ready fs n code x.values t w g at_n then_tail (further_in c fs (length k) (suc (length k)) (omega arith) site.inside) (l.2).kept in
          let v = with_node w n None in
          let at_m : node v m ≡ Some b =
          get_or-set_other w.nodes n m None None (λ q. ne (sym q)) ∙ ap (λ ns. get_or ns m None) (l.2).kept.nodes ∙ get_or-set_same (slice_set s.nodes n (Some g)) m (Some b) None inside_m in
          let moved = moves parents ready fs n m k t v x.values b (tail_further then_tail (tail_behind (I.Release n) code)) site.inside at_m in
          let empty : get_or s.nodes m None ≡ None = empty_by s.nodes m (subst (λ l. holds l m ≡ false) (sym agrees.held) is_free) in (
            with_node (with_node v m None) n (Some b),
            held,
            refl,
            and_on l.1 (and_on freed moved),
            record {
              kept = record {
                values = (l.2).kept.values;
                nodes = ap (λ ns. slice_set (slice_set (slice_set ns n None) m None) n (Some b)) (l.2).kept.nodes ∙ went_down s.nodes n m (Some g) (Some b) ne empty;
                records = (l.2).kept.records;
                size = (l.2).kept.size;
              };
              values = agrees.values;
              nodes = length-set s.nodes n (Some b) ∙ agrees.nodes;
              held = held_set s.nodes n (Some b) ∙ ap (λ l. slice_set l n true) agrees.held ∙ held_again held n is_held;
            },
          )

pub descend_runs : {c : List Instr} (parents : List ℕ) (ready : Runs c) (n : ℕ) (e : Expression) → StatementRuns parents ready (S.Descend n e)
descend_runs {c} parents ready n e held x k fs s u tail site sound agrees =
    by (number parents e s)
    (subst (OperandEnds parents ready fs e x.values (x.pad held) (I.Child x.nodes n (register_of e x.values) (target_of (x.pad held)) ∷ I.Release n ∷ I.Move n x.nodes ∷ k) (from_label c parents fs (length (operand_code e x.values (x.pad held) (I.Child x.nodes n (register_of e x.values) (target_of (x.pad held)) ∷ I.Release n ∷ I.Move n x.nodes ∷ k))) u) u) (number_there parents e agrees sound.2)
    (operand_runs parents ready fs e x.values (x.pad held) (I.Child x.nodes n (register_of e x.values) (target_of (x.pad held)) ∷ I.Release n ∷ I.Move n x.nodes ∷ k) u tail (let le = site.pads held in omega (arith, le))
    (further_in c fs (length k) (suc (suc (suc (length k)))) (omega arith) site.inside) (readable_there e agrees sound.2) agrees.kept.size))
  where
    by : (v : Option ℤ) → OperandEnds parents ready fs e x.values (x.pad held) (I.Child x.nodes n (register_of e x.values) (target_of (x.pad held)) ∷ I.Release n ∷ I.Move n x.nodes ∷ k) (from_label c parents fs (length (operand_code e x.values (x.pad held) (I.Child x.nodes n (register_of e x.values) (target_of (x.pad held)) ∷ I.Release n ∷ I.Move n x.nodes ∷ k))) u) u v
        → StatementLeads (Some held) (held ∷ []) [] c parents fs x (length k) (from_label c parents fs (length (operand_code e x.values (x.pad held) (I.Child x.nodes n (register_of e x.values) (target_of (x.pad held)) ∷ I.Release n ∷ I.Move n x.nodes ∷ k))) u)
        (given v s (λ y. descend_by parents n (node s n) y s))
    by None l = (l.0, held, inl refl, l.1, agrees_kept agrees l.2)
    by (Some v) l =
        let code = I.Child x.nodes n (register_of e x.values) (target_of (x.pad held)) ∷ I.Release n ∷ I.Move n x.nodes ∷ k in
        let all = descend_by parents n (node s n) v s in
        prefixed c parents (Some held) (held ∷ []) [] fs x (length k) (from_label c parents fs (length (operand_code e x.values (x.pad held) code)) u) (from_label c parents fs (length code) l.0) [] l.1 all.outcome all.state all.events
        (down parents ready n x.nodes (register_of e x.values) (x.pad held) held x k fs site refl sound.0 sound.1 s l.0 v (tail_further tail (operand_tail e x.values (x.pad held) code)) (agrees_kept agrees (l.2).kept) (l.2).here)
