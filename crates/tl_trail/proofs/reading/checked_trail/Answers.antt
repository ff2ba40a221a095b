use Rattle.std.proofs.Common.{rules, false, ◌≡◌, ◌≢◌, ◌<◌, ℤ, List, [], length, map, sym, ap, ◌∙◌, subst, arith}
use Rattle.std.specs.Prelude.{All}
use Rattle.std.proofs.lemmas.List.{length-map}
use Rattle.std.proofs.lemmas.Result.{err_from_is_err_and}
use Rattle.tl_tree.specs.Records.{Records}
use Rattle.tl_tree_locking.specs.History.{caller}
use Rattle.tl_tree_locking.specs.Nodes.{IsOfNodes}
use Rattle.tl_trail.specs.declared.fault.TrailFault.TheVariants.{Memory}
use Rattle.tl_trail.specs.Trails.{TrailValue, call_value}
use Rattle.tl_json.specs.Faults.{is_memory}
use Rattle.tl_json.specs.Registering.{TakenUp, IsFirstUnfit}
use Rattle.tl_json.specs.Procedures.{procedure_form}
use Rattle.tl_trail.specs.Reading.{calls_as}
use Rattle.tl_trail.specs.Raw.{call_form, form_with, IsTrailOf, IsFaultOf}
use Rattle.tl_trail.proofs.WholeTrail.{procedures_fault, calls_fault, ends_fault, events_fault, trail_stands}
use Rattle.tl_trail.proofs.reading.checked_trail.Goals as goal

pub returns-in_err-procedures-clause-fault : goal.returns-in_err-procedures-clause-fault
returns-in_err-procedures-clause-fault c =
    let raw = c.args.raw in
    let f = c.in_err-procedures.field-0.0 in
    let first : is_memory f ≡ false → IsFirstUnfit [] (map procedure_form raw.procedures.items) f =
    λ own. subst (λ vs. IsFirstUnfit [] (map procedure_form vs) f) c.deref.ensures.value (c.in_err-procedures.ensures.fault own) in
    let p = err_from_is_err_and c.from_residual.result c.from_residual.ensures.1 in
    let wrong : p.0 ≢ Memory → (parts : List ℤ × Records) → IsFaultOf c.args.tree (form_with raw parts) p.0 = procedures_fault c.args.tree raw f p.0 first p.2 in
    rw (p.1) wrong

pub returns-in_err-calls-clause-fault : goal.returns-in_err-calls-clause-fault
returns-in_err-calls-clause-fault c =
    let raw = c.args.raw in
    let procedures = c.in_ok-procedures.procedures in
    let e = c.in_err-calls.field-0.0 in
    let taken = subst (λ vs. TakenUp [] (map procedure_form vs) procedures) c.deref.ensures.value c.in_ok-procedures.ensures.ok in
    let wrong : e ≢ Memory → (parts : List ℤ × Records) → IsFaultOf c.args.tree (form_with raw parts) e =
    λ ne. calls_fault c.args.tree raw procedures taken e (ap (λ vs. calls_as procedures (map call_form vs)) (sym c.deref-2.ensures.value) ∙ c.in_err-calls.ensures.fault ne) in
    let p = err_from_is_err_and c.from_residual-in_err-calls.result c.from_residual-in_err-calls.ensures.1 in
    rw (p.1, p.2) wrong

pub returns-then-len-nodes-clause-fault : goal.returns-then-len-nodes-clause-fault
returns-then-len-nodes-clause-fault c =
    let raw = c.args.raw in
    let procedures = c.in_ok-procedures.procedures in
    let taken = subst (λ vs. TakenUp [] (map procedure_form vs) procedures) c.deref.ensures.value c.in_ok-procedures.ensures.ok in
    let calls_are = ap (λ vs. calls_as procedures (map call_form vs)) (sym c.deref-2.ensures.value) ∙ c.in_ok-calls.ensures.ok in
    let nodes : c.node_count-nodes.result ≡ length c.args.tree.parents = c.node_count-nodes.ensures.count ∙ ap length (c.deref-3.ensures ∙ c.shape.ensures.shape) in
    let size : c.len.result ≡ length raw.ends.items = search rules in
    λ ne. ends_fault c.args.tree raw procedures taken (map call_value c.in_ok-calls.calls.items) calls_are (λ is. c.if-len-nodes.true (size ∙ is ∙ sym nodes))

pub returns-in_err-history-clause-fault : goal.returns-in_err-history-clause-fault
returns-in_err-history-clause-fault c =
    let raw = c.args.raw in
    let procedures = c.in_ok-procedures.procedures in
    let calls = map call_value c.in_ok-calls.calls.items in
    let e = c.in_err-history.field-0.0 in
    let taken = subst (λ vs. TakenUp [] (map procedure_form vs) procedures) c.deref.ensures.value c.in_ok-procedures.ensures.ok in
    let calls_are = ap (λ vs. calls_as procedures (map call_form vs)) (sym c.deref-2.ensures.value) ∙ c.in_ok-calls.ensures.ok in
    let nodes : c.node_count-nodes.result ≡ length c.args.tree.parents = c.node_count-nodes.ensures.count ∙ ap length (c.deref-3.ensures ∙ c.shape.ensures.shape) in
    let size : c.len.result ≡ length raw.ends.items = search rules in
    let many : c.len-2.result ≡ length c.in_ok-calls.calls.items = search rules in
    let wrong : e ≢ Memory → (parts : List ℤ × Records) → IsFaultOf c.args.tree (form_with raw parts) e =
    λ ne. events_fault c.args.tree raw procedures taken calls calls_are (sym size ∙ c.if-len-nodes.false ∙ nodes) c.len-2.result c.node_count-nodes.result c.deref-4.result.now
    (many ∙ sym (length-map c.in_ok-calls.calls.items call_value)) nodes c.deref-4.ensures.value e (c.in_err-history.ensures.fault ne) in
    let p = err_from_is_err_and c.from_residual-in_err-history.result c.from_residual-in_err-history.ensures.1 in
    rw (p.1, p.2) wrong

pub new-requires : goal.new-requires
new-requires c =
    let calls = c.in_ok-calls.calls.items in
    let past = c.in_ok-history.history.past in
    let nodes : c.node_count-nodes.result ≡ length c.args.tree.parents = c.node_count-nodes.ensures.count ∙ ap length (c.deref-3.ensures ∙ c.shape.ensures.shape) in
    let size : c.len.result ≡ length c.args.raw.ends.items = search rules in
    let many : c.len-2.result ≡ length calls = search rules in
    let count = many ∙ sym (length-map calls call_value) in
    let few = c.in_ok-calls.ensures.few in
    let long = length-map calls call_value in
    record {
      tree = c.shape.ensures.whole.shape;
      size = c.shape.ensures.whole.count;
      end_size = sym size ∙ c.if-len-nodes.false ∙ nodes;
      few = omega arith;
      calls = c.in_ok-calls.ensures.calls;
      nodes = subst (λ n. All (IsOfNodes n) past) nodes c.in_ok-history.ensures.nodes;
      callers = subst (λ n. All (λ e. caller e < n) past) count c.in_ok-history.ensures.callers;
    }

pub returns-clause-ok : goal.returns-clause-ok
returns-clause-ok c =
    let raw = c.args.raw in
    let procedures = c.in_ok-procedures.procedures in
    let calls = map call_value c.in_ok-calls.calls.items in
    let taken = subst (λ vs. TakenUp [] (map procedure_form vs) procedures) c.deref.ensures.value c.in_ok-procedures.ensures.ok in
    let calls_are = ap (λ vs. calls_as procedures (map call_form vs)) (sym c.deref-2.ensures.value) ∙ c.in_ok-calls.ensures.ok in
    let nodes : c.node_count-nodes.result ≡ length c.args.tree.parents = c.node_count-nodes.ensures.count ∙ ap length (c.deref-3.ensures ∙ c.shape.ensures.shape) in
    let size : c.len.result ≡ length raw.ends.items = search rules in
    let many : c.len-2.result ≡ length c.in_ok-calls.calls.items = search rules in
    λ parts. subst (λ (t : TrailValue). IsTrailOf c.args.tree (form_with raw parts) t) (sym c.new.ensures)
    (trail_stands c.args.tree raw procedures taken calls calls_are (sym size ∙ c.if-len-nodes.false ∙ nodes) c.len-2.result c.node_count-nodes.result c.deref-4.result.now
    (many ∙ sym (length-map c.in_ok-calls.calls.items call_value)) nodes c.deref-4.ensures.value c.in_ok-history.history.past c.in_ok-history.ensures.ok c.in_ok-history.ensures.few parts)
