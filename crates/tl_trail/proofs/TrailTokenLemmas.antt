-- The members of a trail, one after another.
use Rattle.std.proofs.Common.{◌≡◌, ℕ, suc, ◌-◌, ◌≤◌, List, [], ◌∷◌, map, length, codes, Option, Some, None, option_map, option_and_then, Ok, refl, sym, ap, ◌∙◌, subst, arith}
use Rattle.json.specs.Token.{Token}
use Rattle.json.specs.Json.{read_key, members, value}
use Rattle.json.proofs.Grammar.{read_key-shorter}
use Rattle.serde_json.specs.Data.{Data, object, Members, member, no_members, put}
use Rattle.serde_json.specs.Read.{of_members, converted}
use Rattle.tl_tree.specs.declared.record.Width.{Width}
use Rattle.tl_tree.specs.Trees.{TreeValue}
use Rattle.tl_tree.specs.Reading.{records_of, tree_from, form_at as tree_form_at}
use Rattle.tl_json.specs.Lists.{each_of}
use Rattle.tl_json.specs.Procedures.{procedure_form, procedure_of}
use Rattle.tl_json.specs.Events.{event_of}
use Rattle.tl_trail.specs.declared.raw.RawTrail.{RawTrail}
use Rattle.tl_trail.specs.Raw.{call_form, form_with, IsHalfRead}
use Rattle.tl_trail.specs.Reading.{Parts, call_of, parts_of, form_at, form_of_parts}
use Rattle.tl_trail.specs.Tokens.{member_depth, BeginsWithMember}
use Rattle.tl_trail.specs.TrailTokens.{AreOfTrail, IsFirstWidth}
use Rattle.tl_tokens.proofs.TokenLemmas.{same_some, converted_from, one_member, no_member, stands_for}
use Rattle.tl_trail.proofs.Deeper.{members_deeper}
use Rattle.tl_trail.proofs.EitherWidth.{half_first}
use Rattle.tl_trail.proofs.TreeOfText.{half_read}

-- the result of f for a member's value
pub member_stands : {A : Type 0} (name : List ℕ) (f : Data → Option A) (ts rest : List Token) (d : Data) (a : A) → BeginsWithMember name Some ts d rest → f d ≡ Some a → BeginsWithMember name f ts a rest
member_stands name f ts rest d a h e = record { behind = h.behind; named = h.named; member = stands_for member_depth h.behind rest f d a h.member e }

-- the members of an object that is a text of its own
pub text_members : (ts rest : List Token) (found : Members) → converted (λ ms. of_members ms no_members) (members (value member_depth) (length ts) ts) ≡ Some (found, rest)
    → converted (λ ms. of_members ms no_members) (members (value (suc member_depth)) (length ts) ts) ≡ Some (found, rest)
text_members ts rest found e =
    let all = converted_from (λ ms. of_members ms no_members) (members (value member_depth) (length ts) ts) found rest e in
    ap (converted (λ ms. of_members ms no_members)) (members_deeper member_depth (length ts) ts rest all.0 all.1) ∙ ap (option_map (λ b. (b, rest))) all.2

abbrev Put : {A : Type 0} (name : List ℕ) (f : Data → Option A) (ts : List Token) (a : A) (rest : List Token) → BeginsWithMember name f ts a rest → Members → ℕ → Type 0
Put name f ts a rest m before n =
    (converted (λ ms. of_members ms before) (members (value member_depth) n ts) ≡ converted (λ ms. of_members ms (put name m.member.found before)) (members (value member_depth) (n - 1) rest))
    × (length rest ≤ n - 1)

put_next : {A : Type 0} (name : List ℕ) (f : Data → Option A) (ts : List Token) (a : A) (rest : List Token) (m : BeginsWithMember name f ts a rest) (before : Members) (n : ℕ) → length ts ≤ n → Put name f ts a rest m before n
put_next name f ts a rest m before n enough =
    let less = read_key-shorter ts (Some name) m.behind m.named in
    (one_member (value member_depth) n ts before name m.behind rest m.member.found (omega (arith, enough, less)) m.named m.member.is_value, omega (arith, enough, less, m.member.shorter))

-- the members in their order
abbrev in_order : Data → Data → Data → Data → Data → Members
in_order calls ends events procedures tree =
    member (codes "calls") calls (member (codes "end") ends (member (codes "events") events (member (codes "procs") procedures (member (codes "tree") tree no_members))))

put_in_order : (calls ends events procedures tree : Data)
    → put (codes "tree") tree (put (codes "procs") procedures (put (codes "events") events (put (codes "end") ends (put (codes "calls") calls no_members)))) ≡ in_order calls ends events procedures tree
put_in_order calls ends events procedures tree = refl

parts_in_order : (calls ends events procedures tree : Data)
    → parts_of (object (in_order calls ends events procedures tree)) ≡ Some (record { calls = calls; ends = ends; events = events; procedures = procedures; tree = tree })
parts_in_order calls ends events procedures tree = refl

formed : (width : Width) (parts : Parts) (raw : RawTrail) → each_of call_of parts.calls ≡ Some (map call_form raw.calls.items) → records_of width parts.ends ≡ Some raw.ends.items → each_of (event_of width) parts.events ≡ Some raw.events.items
    → each_of procedure_of parts.procedures ≡ Some (map procedure_form raw.procedures.items) → form_at width parts ≡ option_map (form_with raw) (tree_form_at width parts.tree)
formed width parts raw calls ends events procedures = by (tree_form_at width parts.tree) refl
  where
    by : (o : Option _) → tree_form_at width parts.tree ≡ o → form_at width parts ≡ option_map (form_with raw) o
    by None is = rw (calls, ends, events, procedures, is) refl
    by (Some form) is = rw (calls, ends, events, procedures, is) refl

pub own_events : {A : Type 0} (xs : List A) → map (λ x. x) xs ≡ xs
own_events [] = refl
own_events (x ∷ xs) = ap (λ ys. x ∷ ys) (own_events xs)

module _ (limit : ℕ) (ts t1 t2 t3 t4 t5 rest : List Token) (width : Width) (raw : RawTrail) (tree : TreeValue) (de d : Data) where
  pub trail_of_members : BeginsWithMember (codes "calls") (each_of call_of) ts (map call_form raw.calls.items) t1 → BeginsWithMember (codes "end") Some t1 de t2 → IsFirstWidth de width → records_of width de ≡ Some raw.ends.items
      → BeginsWithMember (codes "events") (each_of (event_of width)) t2 raw.events.items t3 → BeginsWithMember (codes "procs") (each_of procedure_of) t3 (map procedure_form raw.procedures.items) t4
      → BeginsWithMember (codes "tree") Some t4 d t5 → tree_from limit (tree_form_at width d) ≡ Ok tree → read_key t5 ≡ Some (None, rest) → AreOfTrail limit ts tree raw rest
  trail_of_members calls ends first ends_are events procedures last is end =
      let n = length ts in
      let m1 = no_members in
      let a = put_next (codes "calls") (each_of call_of) ts (map call_form raw.calls.items) t1 calls m1 n (omega arith) in
      let m2 = put (codes "calls") calls.member.found m1 in
      let b = put_next (codes "end") Some t1 de t2 ends m2 (n - 1) a.1 in
      let m3 = put (codes "end") ends.member.found m2 in
      let e = put_next (codes "events") (each_of (event_of width)) t2 raw.events.items t3 events m3 (n - 1 - 1) b.1 in
      let m4 = put (codes "events") events.member.found m3 in
      let g = put_next (codes "procs") (each_of procedure_of) t3 (map procedure_form raw.procedures.items) t4 procedures m4 (n - 1 - 1 - 1) e.1 in
      let m5 = put (codes "procs") procedures.member.found m4 in
      let h = put_next (codes "tree") Some t4 d t5 last m5 (n - 1 - 1 - 1 - 1) g.1 in
      let m6 = put (codes "tree") last.member.found m5 in
      let all = in_order calls.member.found ends.member.found events.member.found procedures.member.found last.member.found in
      let parts : Parts = record { calls = calls.member.found; ends = ends.member.found; events = events.member.found; procedures = procedures.member.found; tree = last.member.found } in
      let same = same_some ends.member.found de ends.member.stands in
      let form = formed width parts raw calls.member.stands (ap (records_of width) same ∙ ends_are) events.member.stands procedures.member.stands in
      let tree_is : tree_from limit (tree_form_at width last.member.found) ≡ Ok tree = ap (λ x. tree_from limit (tree_form_at width x)) (same_some last.member.found d last.member.stands) ∙ is in
      record {
        found = all;
        are_members = a.0 ∙ b.0 ∙ e.0 ∙ g.0 ∙ h.0 ∙ no_member (value member_depth) (n - 1 - 1 - 1 - 1 - 1) t5 m6 rest h.1 end ∙ ap (λ ms. Some (ms, rest)) (put_in_order calls.member.found ends.member.found events.member.found procedures.member.found last.member.found);
        half_read = subst (λ o. IsHalfRead limit (option_and_then form_of_parts o) tree raw) (sym (parts_in_order calls.member.found ends.member.found events.member.found procedures.member.found last.member.found))
            (half_first limit width parts tree raw (subst (λ x. IsFirstWidth x width) (sym same) first)
            (subst (λ o. IsHalfRead limit o tree raw) (sym form) (half_read limit (tree_form_at width last.member.found) raw tree tree_is)));
      }
