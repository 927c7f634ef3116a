-- The value of a field: the test that its tag names, over what the file's first bytes hold, is that of the definitions. The idea:
-- those bytes are those of the fields read so far. Assumes nothing.
use Prim.Native.Nat.{ℕ, ◌≤◌, min}
use native.Mathlib.Omega.{arith}
use mathlib.Core.Path.{◌≡◌, refl, sym, ◌∙◌, ap, subst}
use mathlib.Core.Bool.{true}
use mathlib.Core.Logic.{◌⊎◌, inl, inr, ⊎_elim}
use mathlib.Core.List.{List, [], ◌∷◌}
use mathlib.Core.Option.{Option, none, some}
use lib.ListN.{length, take, drop}
use borrow.Author.Tests.{eq-eqb}
use Rattle.policy.specs.Policy.{most_rules}
use Rattle.deployment.specs.Checked.{good}
use Rattle.deployment.specs.Bytes.{chunks, joined}
use Rattle.deployment.specs.Values.{rule_width, default_width, numbers_of, numbers_bytes, list_fits}
use Rattle.deployment.specs.Catalogue.{catalogue_of}
use Rattle.deployment.specs.Contents.{rule_read, policy_read, default_read, keep_read, script_read}
use Rattle.deployment.specs.FieldValues.{policy_value, default_value, keep_value, script_value}
use Rattle.deployment.specs.File.{
  Fields,
  Field,
  rules_only,
  listed,
  last_tag,
  field_read,
  with_rule,
  with_policy,
  with_default,
  with_keep,
  with_script,
  with_field,
  rule_tag,
  initial_tag,
  target_tag,
  default_tag,
  keep_tag,
  script_tag,
  head_bytes,
}
use Rattle.deployment.specs.Properties.{
  IfThere,
  up_to_initial,
  PolicyBehind,
  fields_bytes,
  tag_of,
  size_of,
  value_of,
  CanStand,
  RightLength,
  Whole,
}
use Rattle.deployment.proofs.Bytes.{length_part}
use Rattle.deployment.proofs.Tests.{says_list, says_script}
use Rattle.deployment.proofs.Values.{policy_numbers}
use Rattle.deployment.proofs.Fields.{by_tag}
use Rattle.deployment.proofs.Taken.{
  FieldRight,
  field_right,
  whole_read,
  with_tag_lem,
  rule_size,
  list_size,
  default_size,
  script_size,
}
use Rattle.catalogue.specs.Answers.{checking, rule_value}
use Rattle.reader.specs.Answers.{value_at}
use Rattle.reader.specs.Steps.{progress_of, Begun}
use Rattle.reader.specs.declared.file.Progress.{Progress}
use Rattle.values.proofs.Given.{checking_last}
use Rattle.reader.proofs.ValuePlaces.{initial_stands, target_stands, catalogue_first}
use Rattle.reader.proofs.Heads.{same_count}

-- The field that was read: whole, and of the right length.
read_some : (f : Fields) (left : List ℕ) (field : Field) → field_read f left ≡ good field → 1 ≤ length left
unfolding field_read
read_some f [] field e = absurd (let z : ◌≡◌ {A = ℕ} 0 1 = cc in omega arith)
read_some f (x ∷ l) field e = omega arith

module _
    (f : Fields) (left : List ℕ) (tag : ℕ) (value : List ℕ)
    (read : field_read f left ≡ good (record { tag = tag; value = value })) where
  pub read_whole : Whole f left
  read_whole = subst (FieldRight f left) read (field_right f left (read_some f left _ read))

  pub read_field : ◌≡◌ {A = Field} (record { tag = tag; value = value }) (record { tag = tag_of left; value = value_of left })
  read_field = let whole = whole_read f left read_whole in cc

  pub read_long : length value ≡ size_of left
  read_long = ap (λ (field : Field). length field.value) read_field ∙ length_part head_bytes (size_of left) left read_whole.1

  pub read_right : RightLength tag (length value)
  read_right = rw (ap (λ (field : Field). field.tag) read_field, read_long) read_whole.0.1

  pub read_stands : CanStand f tag
  read_stands = rw (ap (λ (field : Field). field.tag) read_field) read_whole.0.0.0.1

-- a list that is absent is empty, and numbers that a catalogue has are read back from their bytes
no_numbers : numbers_of (numbers_bytes []) ≡ []
unfolding numbers_of numbers_bytes joined chunks
no_numbers = refl

policy_back : (f : Fields) (tag : ℕ) (o : Option (List ℕ)) → length f.catalogue ≤ most_rules → IfThere (PolicyBehind f tag) o
    → numbers_of (numbers_bytes (listed o)) ≡ listed o
unfolding listed
policy_back f tag none few h = no_numbers
policy_back f tag (some l) few h = policy_numbers (length f.catalogue) l few h.1.sound

-- The tests of a value, by its tag.
module _
    (file : List ℕ) (progress : Progress) (f : Fields) (b : Begun file progress f) (tag : ℕ) (value : List ℕ)
    (read : field_read f (drop progress.at file) ≡ good (record { tag = tag; value = value })) where
  right : RightLength tag (length value)
  right = read_right f (drop progress.at file) tag value read

  stands : CanStand f tag
  stands = read_stands f (drop progress.at file) tag value read

  same_catalogue : take progress.layout.rules (catalogue_of 3 file) ≡ f.catalogue
  same_catalogue =
      rw (same_count file progress f b, b.is)
      (catalogue_first f (drop (length (fields_bytes f)) file) b.readable.catalogue.recordable)

  pub checked_rule : tag ≡ rule_tag
      → checking (rule_value (take progress.layout.rules (catalogue_of 3 file)) value)
      ≡ checking (with_field f (record { tag = tag; value = value }))
  unfolding rule_value with_field with_rule
  checked_rule e =
      rw (with_tag_lem f value e, same_catalogue, eq-eqb (length value) rule_width (rule_size e right))
      (checking_last (rule_read f.catalogue value) _)

  list_fits_lem : ¬ (tag ≡ rule_tag) → ¬ (tag ≡ script_tag) → ¬ (tag ≡ default_tag) → list_fits (length value) ≡ true
  list_fits_lem n m o = (says_list (length value)).1 (list_size n m o right)

  -- a policy's tag is what is left
  policy_left : ¬ (tag ≡ rule_tag) → ¬ (tag ≡ default_tag) → ¬ (tag ≡ keep_tag) → ¬ (tag ≡ script_tag)
      → (tag ≡ initial_tag) ⊎ (tag ≡ target_tag)
  policy_left r d k s =
      by_tag (λ x. tag ≡ x → (tag ≡ initial_tag) ⊎ (tag ≡ target_tag)) (last_tag f) stands
      (λ e. absurd (r e)) (λ e. inl e) (λ e. inr e) (λ e. absurd (d e)) (λ e. absurd (k e)) (λ e. absurd (s e)) refl

  pub checked_policy : ¬ (tag ≡ rule_tag) → ¬ (tag ≡ default_tag) → ¬ (tag ≡ keep_tag) → ¬ (tag ≡ script_tag)
      → checking (policy_value (min progress.layout.rules 1024) value)
      ≡ checking (with_field f (record { tag = tag; value = value }))
  unfolding policy_value with_field with_policy
  checked_policy r d k s =
      let few : min progress.layout.rules 1024 ≡ length f.catalogue =
      omega (arith, same_count file progress f b, b.readable.catalogue.few) in
      rw (few, list_fits_lem r s d)
      (⊎_elim
      (λ e. rw (with_tag_lem f value {tag = tag} {x = initial_tag} e) (checking_last (policy_read (length f.catalogue) value) _))
      (λ e. rw (with_tag_lem f value {tag = tag} {x = target_tag} e) (checking_last (policy_read (length f.catalogue) value) _))
      (policy_left r d k s))

  pub checked_default : tag ≡ default_tag → checking (default_value (some value)) ≡ checking (with_field f (record { tag = tag; value = value }))
  unfolding default_value with_field with_default
  checked_default e =
      rw (with_tag_lem f value e, eq-eqb (length value) default_width (default_size e right)) (checking_last (default_read value) _)

  same_initial : numbers_of (value_at progress.layout.initial file) ≡ listed f.initial
  unfolding progress_of
  same_initial =
      ap numbers_of
      (rw (b.known, b.is) (initial_stands f (drop (length (fields_bytes f)) file)))
      ∙ policy_back (rules_only f.catalogue) initial_tag f.initial b.readable.catalogue.few b.readable.initial

  same_target : numbers_of (value_at progress.layout.target file) ≡ listed f.target
  unfolding progress_of
  same_target =
      ap numbers_of
      (rw (b.known, b.is) (target_stands f (drop (length (fields_bytes f)) file)))
      ∙ policy_back (up_to_initial f) target_tag f.target b.readable.catalogue.few b.readable.target

  pub checked_keep : (initial target : List ℕ) → initial ≡ value_at progress.layout.initial file
      → target ≡ value_at progress.layout.target file → tag ≡ keep_tag
      → checking (keep_value (numbers_of initial) (numbers_of target) (some value))
      ≡ checking (with_field f (record { tag = tag; value = value }))
  unfolding keep_value with_field with_keep
  checked_keep initial target i t e =
      rw (with_tag_lem f value e, list_fits_lem (omega arith) (omega arith) (omega arith), i, t, same_initial, same_target)
      (sym (checking_last (keep_read (listed f.initial) (listed f.target) value) _)
      ∙ checking_last (keep_read (listed f.initial) (listed f.target) value) _)

  pub checked_script : tag ≡ script_tag → checking (script_value (some value)) ≡ checking (with_field f (record { tag = tag; value = value }))
  unfolding script_value with_field with_script
  checked_script e =
      rw (with_tag_lem f value e, (says_script (length value)).1 (script_size e right))
      (sym (checking_last (script_read value) _) ∙ checking_last (script_read value) _)
