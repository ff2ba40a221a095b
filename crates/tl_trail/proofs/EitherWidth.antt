-- The form of a text, depending on the width of its records.
use Rattle.std.proofs.Common.{ℕ, ◌≡◌, ◌≢◌, Option, Some, None, refl, sym, ap, subst, inl, inr}
use Rattle.std.specs.Option.{option_or}
use Rattle.tl_tree.specs.declared.record.Width.{Width}
use Rattle.tl_tree.specs.declared.record.Width.TheVariants.{Wide, Narrow}
use Rattle.tl_tree.specs.Trees.{TreeValue}
use Rattle.tl_tree.specs.Reading.{records_of}
use Rattle.tl_json.specs.Lists.{each_of}
use Rattle.tl_trail.specs.declared.fault.TrailFault.{TrailFault}
use Rattle.tl_trail.specs.declared.fault.TrailFault.TheVariants.{NotTrail}
use Rattle.tl_trail.specs.declared.raw.RawTrail.{RawTrail}
use Rattle.tl_trail.specs.Raw.{IsHalfRead, IsUnread}
use Rattle.tl_trail.specs.Reading.{Parts, TrailForm, call_of, form_at, form_of_parts}
use Rattle.tl_trail.specs.TrailTokens.{IsFirstWidth}

second : {A : Type 0} (wide narrow : Option A) → wide ≡ None → option_or wide narrow ≡ narrow
second wide narrow none = ap (λ o. option_or o narrow) none

first : {A : Type 0} (wide narrow : Option A) (x : A) → wide ≡ Some x → option_or wide narrow ≡ Some x
first wide narrow x is = ap (λ o. option_or o narrow) is

module _ (limit : ℕ) (wide narrow : Option TrailForm) where
  pub half_wide : (tree : TreeValue) (raw : RawTrail) → IsHalfRead limit wide tree raw → IsHalfRead limit (option_or wide narrow) tree raw
  half_wide tree raw h = record { parts = h.parts; form_is = first wide narrow _ h.form_is; tree_is = h.tree_is }

  pub half_narrow : (tree : TreeValue) (raw : RawTrail) → wide ≡ None → IsHalfRead limit narrow tree raw → IsHalfRead limit (option_or wide narrow) tree raw
  half_narrow tree raw none h = subst (λ o. IsHalfRead limit o tree raw) (sym (second wide narrow none)) h

  pub unread_wide : (e : TrailFault) → e ≢ NotTrail → IsUnread limit wide e → IsUnread limit (option_or wide narrow) e
  unread_wide e other (inl h) = absurd (other h.0)
  unread_wide e other (inr h) = inr (h.0, h.1, first wide narrow h.0 h.2, h.3, h.4)

  pub unread_narrow : (e : TrailFault) → wide ≡ None → IsUnread limit narrow e → IsUnread limit (option_or wide narrow) e
  unread_narrow e none h = subst (λ o. IsUnread limit o e) (sym (second wide narrow none)) h

pub none_unread : (limit : ℕ) (form : Option TrailForm) → IsUnread limit form NotTrail → form ≡ None
none_unread limit form (inl h) = h.1
none_unread limit form (inr h) = absurd (cc h.3)

-- if the end records can't be read as wide, there is no form with wide records
no_wide : (parts : Parts) → records_of Wide parts.ends ≡ None → form_at Wide parts ≡ None
no_wide parts none = by (each_of call_of parts.calls) refl
  where
    by : (o : Option _) → each_of call_of parts.calls ≡ o → form_at Wide parts ≡ None
    by None is = rw is refl
    by (Some x) is = rw (is, none) refl

pub half_first : (limit : ℕ) (width : Width) (parts : Parts) (tree : TreeValue) (raw : RawTrail) → IsFirstWidth parts.ends width → IsHalfRead limit (form_at width parts) tree raw → IsHalfRead limit (form_of_parts parts) tree raw
half_first limit Wide parts tree raw is h = half_wide limit (form_at Wide parts) (form_at Narrow parts) tree raw h
half_first limit Narrow parts tree raw is h = half_narrow limit (form_at Wide parts) (form_at Narrow parts) tree raw (no_wide parts is) h
