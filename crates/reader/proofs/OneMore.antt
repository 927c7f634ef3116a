-- One field more: its bytes stand behind those so far, its tag is the last, its place joins the others; and a value that passes
-- its tests makes one. Assumes nothing.
use Prim.Native.Nat.{ℕ, ◌+◌}
use native.Mathlib.Omega.{arith}
use mathlib.Core.Path.{◌≡◌, refl, ◌∙◌, ap}
use mathlib.Core.List.{List, [], ◌∷◌, ◌++◌}
use lib.ListN.{length, length-append}
use Rattle.deployment.specs.Checked.{Checked, good, bad, ◌>>=◌}
use Rattle.deployment.specs.Values.{numbers_bytes, rule_bytes, default_bytes, script_bytes}
use Rattle.deployment.specs.Contents.{rule_read, policy_read, default_read, keep_read, script_read}
use Rattle.deployment.specs.File.{
  Fields,
  listed,
  tag_or,
  last_tag,
  with_rule,
  with_policy,
  with_default,
  with_keep,
  with_script,
  with_field,
  field_bytes,
  rule_tag,
  initial_tag,
  target_tag,
  default_tag,
  keep_tag,
  script_tag,
}
use Rattle.deployment.specs.Properties.{fields_bytes, CanStand}
use Rattle.deployment.proofs.Fields.{
  by_tag,
  before_rule,
  before_initial,
  before_target,
  before_default,
  before_keep,
  before_script,
  bytes_with_rule,
  bytes_with_initial,
  bytes_with_target,
  bytes_with_default,
  bytes_with_keep,
  bytes_with_script,
}
use Rattle.deployment.proofs.ReadBack.{length_field}
use Rattle.std.specs.Prelude.{Option as CodeOption, Some}
use Rattle.reader.specs.Answers.{span_from, span_if, span_given, end_of, keep_bytes, action_bytes, command_bytes}
use Rattle.reader.specs.Steps.{layout_so_far, More, a_rule, an_initial, a_target, a_default, a_keep, a_script}
use Rattle.reader.specs.declared.Layout.{Layout}
use Rattle.reader.specs.declared.Span.{Span}
use Rattle.reader.proofs.ValuePlaces.{fields_end}

-- Its bytes, its tag and its place.
pub more_bytes : {f g : Fields} {tag : ℕ} {value : List ℕ} → More f tag value g
    → fields_bytes g ≡ fields_bytes f ++ field_bytes tag value
more_bytes {f} (a_rule rule h) = bytes_with_rule f rule h
more_bytes {f} (an_initial i h) = bytes_with_initial f i h
more_bytes {f} (a_target t h) = bytes_with_target f t h
more_bytes {f} (a_default d h) = bytes_with_default f d h
more_bytes {f} (a_keep k h) = bytes_with_keep f k h
more_bytes {f} (a_script s h) = bytes_with_script f s h

pub more_last : {f g : Fields} {tag : ℕ} {value : List ℕ} → More f tag value g → tag ≡ last_tag g
unfolding last_tag tag_or
more_last {f} (a_rule rule h) = let n = before_rule f h in rw (n.0, n.1, n.2, n.3, n.4)
more_last {f} (an_initial i h) = let n = before_initial f h in rw (n.1, n.2, n.3, n.4)
more_last {f} (a_target t h) = let n = before_target f h in rw (n.1, n.2, n.3)
more_last {f} (a_default d h) = let n = before_default f h in rw (n.1, n.2)
more_last {f} (a_keep k h) = rw (before_keep f h).1
more_last (a_script s h) = refl

pub more_stands : {f g : Fields} {tag : ℕ} {value : List ℕ} → More f tag value g → CanStand f tag
more_stands (a_rule rule h) = h
more_stands (an_initial i h) = h
more_stands (a_target t h) = h
more_stands (a_default d h) = h
more_stands (a_keep k h) = h
more_stands (a_script s h) = h

-- a layout, place by place
abbrev places : ℕ → Span → Span → CodeOption Span → CodeOption Span → CodeOption Span → Layout
places rules initial target default keep script =
    record { rules = rules; initial = initial; target = target; default = default; keep = keep; script = script }

-- the places with that of one more value, by its tag
module _ (l : Layout) (span : Span) where
  pub placed_rule : {f g : Fields} {value : List ℕ} → More f rule_tag value g → l ≡ layout_so_far f
      → places (l.rules + 1) l.initial l.target l.default l.keep l.script
      ≡ layout_so_far g
  unfolding layout_so_far keep_bytes action_bytes command_bytes span_if span_given end_of
  placed_rule {f} (a_rule rule h) known =
      let n = before_rule f h in rw (known, length-append f.catalogue (rule ∷ []), n.0, n.1, n.2, n.3, n.4)

  pub placed_initial : {f g : Fields} {value : List ℕ} → More f initial_tag value g → l ≡ layout_so_far f
      → span ≡ span_from (length (fields_bytes f)) value
      → places l.rules span l.target l.default l.keep l.script
      ≡ layout_so_far g
  unfolding layout_so_far keep_bytes action_bytes command_bytes span_if span_given end_of
  placed_initial {f} (an_initial i h) known w = let n = before_initial f h in rw (known, w, fields_end f, n.0, n.1, n.2, n.3, n.4)

  pub placed_target : {f g : Fields} {value : List ℕ} → More f target_tag value g → l ≡ layout_so_far f
      → span ≡ span_from (length (fields_bytes f)) value
      → places l.rules l.initial span l.default l.keep l.script
      ≡ layout_so_far g
  unfolding layout_so_far keep_bytes action_bytes command_bytes span_if span_given end_of
  placed_target {f} (a_target t h) known w = let n = before_target f h in rw (known, w, fields_end f, n.0, n.1, n.2, n.3)

  pub placed_default : {f g : Fields} {value : List ℕ} → More f default_tag value g → l ≡ layout_so_far f
      → span ≡ span_from (length (fields_bytes f)) value
      → places l.rules l.initial l.target (Some span) l.keep l.script
      ≡ layout_so_far g
  unfolding layout_so_far keep_bytes action_bytes command_bytes span_if span_given end_of
  placed_default {f} (a_default d h) known w = let n = before_default f h in rw (known, w, fields_end f, n.0, n.1, n.2)

  pub placed_keep : {f g : Fields} {value : List ℕ} → More f keep_tag value g → l ≡ layout_so_far f
      → span ≡ span_from (length (fields_bytes f)) value
      → places l.rules l.initial l.target l.default (Some span) l.script
      ≡ layout_so_far g
  unfolding layout_so_far keep_bytes action_bytes command_bytes span_if span_given end_of
  placed_keep {f} (a_keep k h) known w = let n = before_keep f h in rw (known, w, fields_end f, n.0, n.1)

  pub placed_script : {f g : Fields} {value : List ℕ} → More f script_tag value g → l ≡ layout_so_far f
      → span ≡ span_from (length (fields_bytes f)) value
      → places l.rules l.initial l.target l.default l.keep (Some span)
      ≡ layout_so_far g
  unfolding layout_so_far keep_bytes action_bytes command_bytes span_if span_given end_of
  placed_script {f} (a_script s h) known w = let n = before_script f h in rw (known, w, fields_end f, n)

-- Fields with one more, where the tests of its value passed.
grown : {A : Type 0} {f : Fields} {tag : ℕ} (read : Checked A) (with : A → Fields) (written : A → List ℕ) (g : Fields)
    → ((a : A) → More f tag (written a) (with a)) → ◌>>=◌ read (λ a. good (with a)) ≡ good g → (w : List ℕ) × More f tag w g
grown (good a) with written g more e = (written a, let same : with a ≡ g = cc in rw (← same) (more a))
grown (bad why) with written g more e = absurd (let z : ◌≡◌ {A = ℕ} 0 1 = cc in omega arith)

pub more_of : (f : Fields) (tag : ℕ) (value : List ℕ) (g : Fields) → CanStand f tag
    → with_field f (record { tag = tag; value = value }) ≡ good g → (w : List ℕ) × More f tag w g
unfolding with_field with_rule with_policy with_default with_keep with_script
more_of f tag value g stands e =
    let policy = policy_read (length f.catalogue) value in
    let keep = keep_read (listed f.initial) (listed f.target) value in
    by_tag (λ x. CanStand f x → with_field f (record { tag = x; value = value }) ≡ good g → (w : List ℕ) × More f x w g)
    (last_tag f) stands
    (λ h. grown (rule_read f.catalogue value) _ rule_bytes g (λ a. a_rule a h))
    (λ h. grown policy _ numbers_bytes g (λ a. an_initial a h))
    (λ h. grown policy _ numbers_bytes g (λ a. a_target a h))
    (λ h. grown (default_read value) _ default_bytes g (λ a. a_default a h))
    (λ h. grown keep _ numbers_bytes g (λ a. a_keep a h))
    (λ h. grown (script_read value) _ script_bytes g (λ a. a_script a h))
    stands e

-- how far it leads
pub more_long : {f g : Fields} {tag : ℕ} {value : List ℕ} → More f tag value g
    → length (fields_bytes g) ≡ length (fields_bytes f) + (3 + length value)
more_long {f} {g} {tag} {value} more =
    ap length (more_bytes more) ∙ length-append (fields_bytes f) (field_bytes tag value)
    ∙ ap (λ (n : ℕ). length (fields_bytes f) + n) (length_field tag value)
