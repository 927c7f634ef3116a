-- One field against the table of refusals: a field that is read is whole, one that is turned away fails as its row says, and one
-- that fails so is turned away. The idea: test by test, then by the tag. Assumes nothing.
use Prim.Native.Nat.{ℕ, ◌+◌, ◌*◌, ◌≤◌}
use native.Mathlib.Omega.{arith}
use mathlib.Core.Path.{◌≡◌, refl, ◌∙◌, ap, subst}
use mathlib.Core.Bool.{true, not, ◌&&◌}
use mathlib.Core.Logic.{◌⊎◌, inl, inr, ⊎_elim}
use mathlib.Core.List.{List, [], ◌∷◌, ◌++◌, append_assoc}
use mathlib.Core.Option.{Option, some}
use lib.ListN.{length, drop}
use lib.Dec.{eqb, leb}
use borrow.Author.Tests.{leb-true, leb-false, le-leb, lt-leb}
use Rattle.policy.specs.Lists.{mem}
use Rattle.policy.specs.Policy.{most_rules, most_listed}
use Rattle.policy.specs.declared.Action.TheVariants.{Permit}
use Rattle.deployment.specs.Checked.{Checked, good, bad, ◌>>=◌, why_number}
use Rattle.deployment.specs.Bytes.{number}
use Rattle.deployment.specs.Values.{rule_width, default_width, rule_of, numbers_of, numbers_bytes, default_fits}
use Rattle.deployment.specs.Contents.{rule_read, policy_read, default_read, keep_read, script_read}
use Rattle.deployment.specs.File.{
  Fields,
  set_catalogue,
  set_initial,
  set_target,
  set_default,
  set_keep,
  set_script,
  listed,
  tags_after,
  last_tag,
  length_fits,
  Field,
  field_read,
  with_rule,
  with_policy,
  with_default,
  with_keep,
  with_script,
  with_field,
  field_bytes,
  rule_tag,
  initial_tag,
  target_tag,
  default_tag,
  keep_tag,
  script_tag,
  head_bytes,
}
use Rattle.deployment.specs.Properties.{
  AreBytes,
  Listed,
  Readable,
  fields_bytes,
  tag_of,
  size_of,
  value_of,
  CanStand,
  OneTooMany,
  RightList,
  RightScript,
  RightLength,
  Headed,
  Tagged,
  Counted,
  Measured,
  Whole,
  FieldFails,
  cut,
  wrong_tag,
  no_target,
  wrong_length,
  wrong_bounds,
  equal_rule,
  rule_too_many,
  names_outside,
  names_twice,
  keep_astray,
  wrong_coding,
  wrong_default,
}
use Rattle.deployment.specs.declared.Why.{Why}
use Rattle.deployment.specs.declared.Why.TheVariants.{
  Cut,
  Tag,
  Length,
  Bounds,
  Equal,
  TooMany,
  Outside,
  Twice,
  Keep,
  Coding,
  Default,
}
use Rattle.deployment.proofs.Bytes.{are_bytes_part, length_part, part_rest, part_written}
use Rattle.deployment.proofs.Tests.{
  Says,
  says_not,
  not_says,
  denies_not,
  not_denies,
  says_and,
  denies_of_not,
  says_equal,
  says_at_most,
  says_length,
  denies_bounds,
  denies_inside,
  says_differ,
  says_occurs,
  Each,
  Turns,
  tested,
  rule_tested,
  policy_tested_lem,
  default_tested,
  keep_tested,
  script_tested,
}
use Rattle.deployment.proofs.Values.{
  in_known,
  rule_recordable,
  rule_written,
  default_written,
  numbers_count,
  numbers_written,
}
use Rattle.deployment.proofs.Scripts.{script_scripted, script_written, wrong_none}
use Rattle.deployment.proofs.Fields.{
  says_can_stand,
  by_tag,
  catalogue_snoc,
  bytes_with_rule,
  bytes_with_initial,
  bytes_with_target,
  bytes_with_default,
  bytes_with_keep,
  bytes_with_script,
  readable_rule,
  readable_initial,
  readable_target,
  readable_default,
  readable_keep,
  readable_script,
}

-- 7: a rule too many.
pub says_too_many : (f : Fields) (tag : ℕ) → Says (eqb tag rule_tag && leb most_rules (length f.catalogue)) (OneTooMany f tag)
says_too_many f tag = says_and (says_equal tag rule_tag) (says_at_most most_rules (length f.catalogue))

-- The field at the head: what is read of it is whole, and what turns it away is a row of the table.
abbrev pub FieldRight : Fields → List ℕ → Checked Field → Type 0
FieldRight f left = Each (λ field. Whole f left) (λ why. FieldFails f left (why_number why))

pub field_right : (f : Fields) (left : List ℕ) → 1 ≤ length left → FieldRight f left (field_read f left)
unfolding field_read
field_right f left some_left =
    tested (FieldRight f left) (leb head_bytes (length left))
    (λ e. cut (inl (some_left, leb-false head_bytes (length left) e))) λ e.
    let headed : Headed left = leb-true head_bytes (length left) e in
    tested (FieldRight f left) (mem (tag_of left) (tags_after (last_tag f)))
    (λ e. wrong_tag headed (says_not (says_can_stand f (tag_of left)) e)) λ e.
    let tagged : Tagged f left = (headed, (says_can_stand f (tag_of left)).0 e) in
    let denies = denies_of_not (says_too_many f (tag_of left)) in
    tested (FieldRight f left) (not (eqb (tag_of left) rule_tag && leb most_rules (length f.catalogue)))
    (λ e. rule_too_many tagged (denies.0 e)) λ e.
    let counted : Counted f left = (tagged, denies_not denies e) in
    let says = says_length (tag_of left) (size_of left) in
    tested (FieldRight f left) (length_fits (tag_of left) (size_of left)) (λ e. wrong_length counted (says_not says e)) λ e.
    let measured : Measured f left = (counted, says.0 e) in
    tested (FieldRight f left) (leb (head_bytes + size_of left) (length left))
    (λ e. cut (inr (measured, leb-false (head_bytes + size_of left) (length left) e))) λ e.
    (measured, leb-true (head_bytes + size_of left) (length left) e)

-- a value is read by its tag
pub with_tag_lem : (f : Fields) (value : List ℕ) {tag x : ℕ} → tag ≡ x
    → with_field f (record { tag = tag; value = value }) ≡ with_field f (record { tag = x; value = value })
with_tag_lem f value e = ap (λ (t : ℕ). with_field f (record { tag = t; value = value })) e

-- a field that is whole stands at the head of the bytes, and what is left stands behind it
pub field_and_rest : (left : List ℕ) → AreBytes left → head_bytes + size_of left ≤ length left
    → field_bytes (tag_of left) (value_of left) ++ drop (head_bytes + size_of left) left ≡ left
unfolding field_bytes
field_and_rest left b h =
    rw (
      length_part head_bytes (size_of left) left h,
      part_written 0 1 left b (omega arith),
      part_written 1 2 left b (omega arith),
      append_assoc,
      append_assoc,
      part_rest head_bytes (size_of left) left,
      part_rest 1 2 left,
      part_rest 0 1 left,
    )

-- the right length, by the tag
pub rule_size : {tag size : ℕ} → tag ≡ rule_tag → RightLength tag size → size ≡ rule_width
rule_size e =
    ⊎_elim (λ h. h.1) (⊎_elim (λ h. absurd (omega (arith, e, h.0))) (⊎_elim (λ h. absurd (omega (arith, e, h.0))) (λ h. absurd (h.0 e))))

pub script_size : {tag size : ℕ} → tag ≡ script_tag → RightLength tag size → RightScript size
script_size e =
    ⊎_elim (λ h. absurd (omega (arith, e, h.0))) (⊎_elim (λ h. h.1) (⊎_elim (λ h. absurd (omega (arith, e, h.0))) (λ h. absurd (h.1 e))))

pub default_size : {tag size : ℕ} → tag ≡ default_tag → RightLength tag size → size ≡ default_width
default_size e =
    ⊎_elim (λ h. absurd (omega (arith, e, h.0))) (⊎_elim (λ h. absurd (omega (arith, e, h.0))) (⊎_elim (λ h. h.1) (λ h. absurd (h.2 e))))

pub list_size : {tag size : ℕ} → ¬ (tag ≡ rule_tag) → ¬ (tag ≡ script_tag) → ¬ (tag ≡ default_tag) → RightLength tag size → RightList size
list_size r s d =
    ⊎_elim (λ h. absurd (r h.0)) (⊎_elim (λ h. absurd (s h.0)) (⊎_elim (λ h. absurd (d h.0)) (λ h. h.3)))

-- The value of a field that is whole: what is read are fields that can have been read, from the bytes so far and those of the
-- field; what turns it away is a row of the table.
abbrev pub ValueRight : Fields → List ℕ → Checked Fields → Type 0
ValueRight f left =
    Each (λ g. Whole f left × Readable g × (fields_bytes g ++ drop (head_bytes + size_of left) left ≡ fields_bytes f ++ left))
    (λ why. FieldFails f left (why_number why))

module _ (left : List ℕ) (b : AreBytes left) where
  -- the bytes of fields with one more
  one_more : (f g : Fields) (tag : ℕ) (value : List ℕ) → Whole f left → tag_of left ≡ tag → value ≡ value_of left
      → fields_bytes g ≡ fields_bytes f ++ field_bytes tag value
      → fields_bytes g ++ drop (head_bytes + size_of left) left ≡ fields_bytes f ++ left
  one_more f g tag value whole t v e =
      rw (e, v, ← t, append_assoc) (ap (λ (l : List ℕ). fields_bytes f ++ l) (field_and_rest left b whole.1))

  value_bytes : AreBytes (value_of left)
  value_bytes = are_bytes_part head_bytes (size_of left) left b

  -- its tag can stand
  whole_stands : (f : Fields) (tag : ℕ) → Whole f left → tag_of left ≡ tag → CanStand f tag
  whole_stands f tag whole e = subst (CanStand f) e whole.0.0.0.1

  rule_right : (f : Fields) → Readable f → Whole f left → tag_of left ≡ rule_tag → ValueRight f left (with_rule f (value_of left))
  unfolding with_rule
  rule_right f r whole e =
      let c = f.catalogue in
      let value = value_of left in
      let stands = whole_stands f rule_tag whole e in
      let long : length value ≡ rule_width = length_part head_bytes (size_of left) left whole.1 ∙ rule_size e whole.0.1 in
      let free : ¬ (most_rules ≤ length c) = λ h. whole.0.0.1 (e, h) in
      let recordable = rule_recordable value value_bytes long in
      rule_tested (λ read. ValueRight f left (◌>>=◌ read (λ rule. good (set_catalogue f (c ++ (rule ∷ [])))))) c value
      (wrong_bounds whole e) (equal_rule whole e) λ fits new. (
        whole,
        readable_rule f r _ stands (catalogue_snoc c (rule_of value) r.catalogue (omega arith) (recordable fits) new),
        one_more f _ rule_tag _ whole e (rule_written value value_bytes long fits) (bytes_with_rule f (rule_of value) stands),
      )

  -- a list of rule numbers: its count, and its bytes again
  module _ (f : Fields) (whole : Whole f left) (n : ¬ (tag_of left ≡ rule_tag)) (m : ¬ (tag_of left ≡ script_tag))
      (o : ¬ (tag_of left ≡ default_tag)) where
    right_list : RightList (size_of left)
    right_list = list_size n m o whole.0.1

    list_long : length (value_of left) ≡ 2 * right_list.0
    list_long = length_part head_bytes (size_of left) left whole.1 ∙ right_list.1

    list_few : length (numbers_of (value_of left)) ≤ most_listed
    list_few = rw (numbers_count (value_of left) right_list.0 list_long) right_list.2

    list_written : numbers_bytes (numbers_of (value_of left)) ≡ value_of left
    list_written = numbers_written (value_of left) right_list.0 list_long value_bytes

  -- a policy, by the member that it sets
  policy_right : (set : Fields → Option (List ℕ) → Fields) (tag : ℕ) (f : Fields) → Whole f left → tag_of left ≡ tag
      → (tag_of left ≡ initial_tag) ⊎ (tag_of left ≡ target_tag)
      → ((p : List ℕ) → Listed (length f.catalogue) p → Readable (set f (some p)))
      → ((p : List ℕ) → fields_bytes (set f (some p)) ≡ fields_bytes f ++ field_bytes tag (numbers_bytes p))
      → ValueRight f left (with_policy set f (value_of left))
  unfolding with_policy
  policy_right set tag f whole e which readable bytes =
      let value = value_of left in
      let no_rule : ¬ (tag_of left ≡ rule_tag) = λ h. ⊎_elim (λ e. omega arith) (λ e. omega arith) which in
      let no_script : ¬ (tag_of left ≡ script_tag) = λ h. ⊎_elim (λ e. omega arith) (λ e. omega arith) which in
      let no_default : ¬ (tag_of left ≡ default_tag) = λ h. ⊎_elim (λ e. omega arith) (λ e. omega arith) which in
      policy_tested_lem (λ read. ValueRight f left (◌>>=◌ read (λ p. good (set f (some p))))) (length f.catalogue) value
      (names_outside whole which) (names_twice whole which) λ sound. (
        whole,
        readable (numbers_of value) (record { few = list_few f whole no_rule no_script no_default; sound = sound }),
        one_more f _ tag _ whole e (list_written f whole no_rule no_script no_default) (bytes (numbers_of value)),
      )

  default_right : (f : Fields) → Readable f → Whole f left → tag_of left ≡ default_tag → ValueRight f left (with_default f (value_of left))
  unfolding with_default
  default_right f r whole e =
      let value = value_of left in
      let stands = whole_stands f default_tag whole e in
      let long : length value ≡ default_width = length_part head_bytes (size_of left) left whole.1 ∙ default_size e whole.0.1 in
      default_tested (λ read. ValueRight f left (◌>>=◌ read (λ default. good (set_default f (some default))))) value
      (wrong_default whole e) λ one. (
        whole,
        readable_default f r Permit stands refl,
        one_more f _ default_tag _ whole e (default_written value value_bytes long one) (bytes_with_default f Permit stands),
      )

  keep_right : (f : Fields) → Readable f → Whole f left → tag_of left ≡ keep_tag → ValueRight f left (with_keep f (value_of left))
  unfolding with_keep
  keep_right f r whole e =
      let value = value_of left in
      let stands = whole_stands f keep_tag whole e in
      let written = list_written f whole (omega arith) (omega arith) (omega arith) in
      keep_tested (λ read. ValueRight f left (◌>>=◌ read (λ keep. good (set_keep f (some keep))))) (listed f.initial) (listed f.target) value
      (keep_astray whole e) λ initial target. (
        whole,
        readable_keep f r (numbers_of value) stands initial target,
        one_more f _ keep_tag _ whole e written (bytes_with_keep f (numbers_of value) stands),
      )

  script_right : (f : Fields) → Readable f → Whole f left → tag_of left ≡ script_tag → ValueRight f left (with_script f (value_of left))
  unfolding with_script
  script_right f r whole e =
      let value = value_of left in
      let stands = whole_stands f script_tag whole e in
      let long : length value ≡ size_of left = length_part head_bytes (size_of left) left whole.1 in
      let right : RightScript (length value) = rw long (script_size e whole.0.1) in
      script_tested (λ read. ValueRight f left (◌>>=◌ read (λ s. good (set_script f (some s))))) value
      (wrong_coding whole e) λ s read. (
        whole,
        readable_script f r s stands (script_scripted value value_bytes right s read),
        one_more f _ script_tag _ whole e (script_written value value_bytes right s read) (bytes_with_script f s stands),
      )

  pub value_right : (f : Fields) → Readable f → Whole f left
      → ValueRight f left (with_field f (record { tag = tag_of left; value = value_of left }))
  unfolding with_field
  value_right f r whole =
      by_tag (λ tag. tag_of left ≡ tag → ValueRight f left (with_field f (record { tag = tag; value = value_of left })))
      (last_tag f) whole.0.0.0.1
      (rule_right f r whole)
      (λ e.
      let stands = whole_stands f initial_tag whole e in
      policy_right set_initial initial_tag f whole e (inl e) (λ p. readable_initial f r p stands) (λ p. bytes_with_initial f p stands))
      (λ e.
      let stands = whole_stands f target_tag whole e in
      policy_right set_target target_tag f whole e (inr e) (λ p. readable_target f r p stands) (λ p. bytes_with_target f p stands))
      (default_right f r whole)
      (keep_right f r whole)
      (script_right f r whole)
      refl

-- The other way: a field that fails as a row of the table says is turned away with that row's number.
abbrev pub taken : Fields → List ℕ → Checked Fields
taken f left = ◌>>=◌ (field_read f left) (with_field f)

module _ (f : Fields) (left : List ℕ) where
  headed_test : Headed left → leb head_bytes (length left) ≡ true
  headed_test h = le-leb head_bytes (length left) h

  tagged_test : Tagged f left → mem (tag_of left) (tags_after (last_tag f)) ≡ true
  tagged_test h = (says_can_stand f (tag_of left)).1 h.1

  counted_test : Counted f left → not (eqb (tag_of left) rule_tag && leb most_rules (length f.catalogue)) ≡ true
  counted_test h = not_denies (denies_of_not (says_too_many f (tag_of left))) h.1

  measured_test : Measured f left → length_fits (tag_of left) (size_of left) ≡ true
  measured_test h = (says_length (tag_of left) (size_of left)).1 h.1

  pub whole_read : Whole f left → field_read f left ≡ good (record { tag = tag_of left; value = value_of left })
  unfolding field_read
  whole_read h =
      rw (
        headed_test h.0.0.0.0,
        tagged_test h.0.0.0,
        counted_test h.0.0,
        measured_test h.0,
        le-leb (head_bytes + size_of left) (length left) h.1,
      )

  pub whole_taken : Whole f left → taken f left ≡ with_field f (record { tag = tag_of left; value = value_of left })
  whole_taken h = ap (λ (read : Checked Field). ◌>>=◌ read (with_field f)) (whole_read h)

  tag_taken : {tag : ℕ} → Whole f left → tag_of left ≡ tag → taken f left ≡ with_field f (record { tag = tag; value = value_of left })
  tag_taken h e = whole_taken h ∙ with_tag_lem f (value_of left) e

  pub taken_right : Readable f → AreBytes left → 1 ≤ length left → ValueRight f left (taken f left)
  taken_right r b some_left = go (field_read f left) refl (field_right f left some_left)
    where
      go : (read : Checked Field) → field_read f left ≡ read → FieldRight f left read → ValueRight f left (taken f left)
      go (bad why) e fails = rw e fails
      go (good field) e whole = rw (whole_taken whole) (value_right left b f r whole)

  turned : (why : Why) → taken f left ≡ bad why → Turns (why_number why) (taken f left)
  turned why e = rw e refl

  pub fails_taken : {number : ℕ} → 1 ≤ length left → FieldFails f left number → Turns number (taken f left)
  unfolding field_read with_field with_rule rule_read with_policy policy_read with_default default_read default_fits with_keep keep_read with_script script_read
  fails_taken some_left (cut h) =
      turned Cut (⊎_elim (λ h. rw (lt-leb head_bytes (length left) h.1))
      (λ h. rw (
        headed_test h.0.0.0.0,
        tagged_test h.0.0.0,
        counted_test h.0.0,
        measured_test h.0,
        lt-leb (head_bytes + size_of left) (length left) h.1,
      )) h)
  fails_taken some_left (wrong_tag headed out) =
      turned Tag (rw (headed_test headed, not_says (says_can_stand f (tag_of left)) out))
  fails_taken some_left (no_target none_left h) = absurd (omega (arith, ap length none_left))
  fails_taken some_left (wrong_length h wrong) =
      let fails = not_says (says_length (tag_of left) (size_of left)) wrong in
      turned Length (rw (headed_test h.0.0, tagged_test h.0, counted_test h, fails))
  fails_taken some_left (rule_too_many h many) =
      turned TooMany (rw (headed_test h.0, tagged_test h, (denies_of_not (says_too_many f (tag_of left))).1 many))
  fails_taken some_left (wrong_bounds whole e wrong) =
      turned Bounds (tag_taken whole e ∙ rw ((denies_bounds (value_of left)).1 wrong))
  fails_taken some_left (equal_rule whole e right same) =
      let fits = not_denies (denies_bounds (value_of left)) right in
      turned Equal (tag_taken whole e ∙ rw (fits, in_known (rule_of (value_of left)) f.catalogue same))
  fails_taken some_left (names_outside whole either out) =
      let outside = (denies_inside (length f.catalogue) (numbers_of (value_of left))).1 out in
      turned Outside (⊎_elim (λ e. tag_taken whole e ∙ rw outside) (λ e. tag_taken whole e ∙ rw outside) either)
  fails_taken some_left (names_twice whole either in-catalogue same) =
      let inside = not_denies (denies_inside (length f.catalogue) (numbers_of (value_of left))) in-catalogue in
      let twice = not_says (says_differ (numbers_of (value_of left))) same in
      turned Twice (⊎_elim (λ e. tag_taken whole e ∙ rw (inside, twice)) (λ e. tag_taken whole e ∙ rw (inside, twice)) either)
  fails_taken some_left (keep_astray whole e astray) =
      let says = says_occurs (numbers_of (value_of left)) (listed f.initial) (listed f.target) in
      turned Keep (tag_taken whole e ∙ rw (not_says says astray))
  fails_taken some_left (wrong_coding whole e wrong) =
      turned Coding (tag_taken whole e ∙ rw (wrong_none (value_of left) wrong, script_read))
  fails_taken some_left (wrong_default whole e wrong) =
      turned Default (tag_taken whole e ∙ rw (not_says (says_equal (number (value_of left)) 1) wrong))
