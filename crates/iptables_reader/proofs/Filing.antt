-- The file of rules that are kept, put piece by piece: a field is its head and then its value, the fields of the rules stand thirty bytes apart, and the
-- numbers of a policy two. Assumes nothing.
use Prim.Native.Nat.{ℕ, zero, suc, ◌+◌, ◌*◌, ◌/◌, ◌%◌, ◌≤◌, ◌<◌}
use native.Mathlib.Nat.{add-zero}
use native.Mathlib.Numerals.{add-one}
use native.Mathlib.Omega.{arith}
use mathlib.Core.Path.{◌≡◌, refl, sym, ◌∙◌, ap}
use mathlib.Core.Bool.{Bool, true, false, cond}
use mathlib.Core.List.{List, [], ◌∷◌, ◌++◌, map, append_assoc, append-nil}
use lib.ListN.{length, take, get_or, length-map}
use lib.Seq.{sets, take-suc, length-take-le}
use Rattle.policy.specs.Policy.{most_listed}
use Rattle.policy.specs.Rule.{Rule}
use Rattle.policy.specs.declared.Action.TheVariants.{Permit}
use Rattle.deployment.specs.Bytes.{bytes_of, joined}
use Rattle.deployment.specs.Values.{rule_bytes, numbers_bytes, default_bytes, action_number, default_field}
use Rattle.deployment.specs.File.{rule_tag, initial_tag, target_tag, default_tag, field_bytes, if_there, file_of}
use Rattle.deployment.specs.FieldValues.{Stored}
use Rattle.deployment.proofs.Fields.{joined_snoc, map_snoc}
use Rattle.deployment.proofs.ReadBack.{length_field, rules_length}
use Rattle.deployment.proofs.Storing.{sets_sets, stored_more}
use Rattle.deployment.proofs.Values.{length_rule, length_numbers}
use Rattle.iptables.specs.Listing.{numbers_from, contents_of}
use Rattle.iptables.proofs.Contents.{length_numbers_from}
use Rattle.iptables_reader.specs.Kept.{rule_at, rules_fields, action_if}

-- A field: its head, and then its value.
abbrev head_of : ℕ → ℕ → List ℕ
head_of tag size = tag ∷ size / 256 ∷ size % 256 ∷ []

field_width : (tag : ℕ) (value : List ℕ) → tag < 256 → length value < 65536 → field_bytes tag value ≡ head_of tag (length value) ++ value
unfolding field_bytes bytes_of
field_width tag value small few =
    let tagged : tag % 256 ≡ tag = omega arith in
    let high : length value / 256 % 256 ≡ length value / 256 = omega arith in
    rw (tagged, high)

field_put : (place : List ℕ) (at tag : ℕ) (value : List ℕ) → tag < 256 → length value < 65536
    → sets (sets place at (head_of tag (length value))) (at + 3) value ≡ sets place at (field_bytes tag value)
field_put place at tag value small few =
    sets_sets place at (head_of tag (length value)) value ∙ ap (sets place at) (sym (field_width tag value small few))

-- The numbers of a policy.
numbers_from_snoc : (first count : ℕ) → numbers_from first (suc count) ≡ numbers_from first count ++ ((first + count) ∷ [])
unfolding numbers_from
numbers_from_snoc first zero = rw add-zero
numbers_from_snoc first (suc count) =
    let next : suc first + count ≡ first + suc count = omega arith in
    ap (λ (l : List ℕ). first ∷ l) (numbers_from_snoc (suc first) count ∙ rw next)

length_policy : (count : ℕ) → length (numbers_bytes (numbers_from 0 count)) ≡ 2 * count
length_policy count = length_numbers (numbers_from 0 count) ∙ ap (λ (n : ℕ). 2 * n) (length_numbers_from 0 count)

numbers_more : (count : ℕ) → count < 65536
    → numbers_bytes (numbers_from 0 (count + 1)) ≡ numbers_bytes (numbers_from 0 count) ++ (count / 256 ∷ count % 256 ∷ [])
unfolding numbers_bytes bytes_of
numbers_more count few =
    let high : count / 256 % 256 ≡ count / 256 = omega arith in
    let from : 0 + count ≡ count = omega arith in
    rw (add-one, numbers_from_snoc 0 count, from, map_snoc, joined_snoc, high)

-- none of them is put, one more is, and all of them stand behind the head
pub numbers_none : (place : List ℕ) (at : ℕ) → Stored place at (numbers_bytes (numbers_from 0 0)) place (at + 2 * 0)
unfolding numbers_bytes numbers_from joined
numbers_none place at = record { place = refl; end = omega arith }

pub numbers_further : {place now : List ℕ} {at : ℕ} (count : ℕ) → count < 65536
    → Stored place at (numbers_bytes (numbers_from 0 count)) now (at + 2 * count)
    → Stored place at (numbers_bytes (numbers_from 0 (count + 1))) (sets now (at + 2 * count) (count / 256 ∷ count % 256 ∷ [])) (at + 2 * (count + 1))
numbers_further count few so_far =
    rw (numbers_more count few) (stored_more so_far (record { place = refl; end = omega arith }))

pub policy_put : (place : List ℕ) (at tag count k : ℕ) {head now : List ℕ} → tag < 256 → count ≤ most_listed → k ≡ count
    → head ≡ sets place at (head_of tag (2 * count)) → Stored head (at + 3) (numbers_bytes (numbers_from 0 k)) now (at + 3 + 2 * k)
    → now ≡ sets place at (field_bytes tag (numbers_bytes (numbers_from 0 count)))
policy_put place at tag count k small few all headed put =
    put.place
    ∙ rw (all, headed, ← length_policy count)
    (field_put place at tag (numbers_bytes (numbers_from 0 count)) small (omega (arith, length_policy count)))

-- The fields of the rules.
pub length_fields : (rules : List Rule) → length (rules_fields rules) ≡ 30 * length rules
unfolding rules_fields
length_fields rules = rules_length rules

module _ (listing starts : List ℕ) where
  -- those of the rules whose lines start there, so many of them
  abbrev pub rules_at : ℕ → List Rule
  rules_at count = map (rule_at listing) (take count starts)

  abbrev pub fields_at : ℕ → List ℕ
  fields_at count = rules_fields (rules_at count)

  length_rules_at : (count : ℕ) → count ≤ length starts → length (rules_at count) ≡ count
  length_rules_at count fits = length-map (take count starts) (rule_at listing) ∙ length-take-le count starts fits

  fields_more : (count : ℕ) → count < length starts
      → fields_at (count + 1) ≡ fields_at count ++ field_bytes rule_tag (rule_bytes (rule_at listing (get_or starts count 0)))
  unfolding rules_fields
  fields_more count fits = rw (add-one, take-suc starts count 0 fits, map_snoc, map_snoc, joined_snoc)

  pub fields_none : (place : List ℕ) → Stored place 0 (fields_at 0) place (0 * 30)
  unfolding rules_fields joined
  fields_none place = record { place = refl; end = omega arith }

  -- one more: its head, and behind it its record
  pub fields_further : {place now headed next bytes : List ℕ} (count : ℕ) → count < length starts → Stored place 0 (fields_at count) now (count * 30)
      → headed ≡ sets now (count * 30) (head_of rule_tag 27) → bytes ≡ rule_bytes (rule_at listing (get_or starts count 0))
      → next ≡ sets headed (count * 30 + 3) bytes → Stored place 0 (fields_at (count + 1)) next ((count + 1) * 30)
  fields_further {now = now} count fits so_far head record-bytes put =
      let rule = rule_at listing (get_or starts count 0) in
      let long = length_rule rule in
      rw (fields_more count fits)
      (stored_more so_far
      (record {
        place = rw (put, head, record-bytes)
            (ap (λ (size : ℕ). sets (sets now (count * 30) (head_of rule_tag size)) (count * 30 + 3) (rule_bytes rule)) (sym long)
            ∙ field_put now (count * 30) rule_tag (rule_bytes rule) (omega arith) (omega arith));
        end = omega (arith, length_field rule_tag (rule_bytes rule));
      }))

-- The file: the fields of the rules, both policies, and a default where it permits.
abbrev pub policy_field : ℕ → ℕ → List ℕ
policy_field tag count = field_bytes tag (numbers_bytes (numbers_from 0 count))

pub length_policy_field : (tag count : ℕ) → length (policy_field tag count) ≡ 3 + 2 * count
length_policy_field tag count = omega (arith, length_field tag (numbers_bytes (numbers_from 0 count)), length_policy count)

abbrev pub permit_field : List ℕ
permit_field = head_of default_tag 1 ++ (1 ∷ [])

permit_bytes : field_bytes default_tag (default_bytes Permit) ≡ permit_field
unfolding field_bytes bytes_of default_bytes action_number
permit_bytes = refl

pub file_bytes : (rules : List Rule) (permits : Bool)
    → file_of (contents_of rules (action_if permits))
    ≡ rules_fields rules ++ policy_field initial_tag (length rules) ++ policy_field target_tag (length rules) ++ cond permits permit_field []
unfolding file_of contents_of rules_fields if_there action_if default_field
file_bytes rules true = rw permit_bytes (simp (append_assoc, append-nil))
file_bytes rules false = simp (append_assoc, append-nil)

-- both policies stand behind so many rules
abbrev pub ListsPut : List ℕ → List ℕ → ℕ → List ℕ → List ℕ → Type 0
ListsPut listing starts count place after =
    Stored place 0 (fields_at listing starts count ++ policy_field initial_tag count ++ policy_field target_tag count) after
    (30 * count + 2 * (3 + 2 * count))

module _ (listing starts : List ℕ) (count : ℕ) (fits : count ≤ length starts) where
  pub lists_put : {place rules initial target : List ℕ}
      → rules ≡ sets place 0 (fields_at listing starts count) → initial ≡ sets rules (30 * count) (policy_field initial_tag count)
      → target ≡ sets initial (30 * count + (3 + 2 * count)) (policy_field target_tag count) → ListsPut listing starts count place target
  lists_put put-rules put-initial put-target =
      let first : Stored _ 0 (fields_at listing starts count) _ (30 * count) =
      record { place = put-rules; end = omega (arith, length_fields (rules_at listing starts count), length_rules_at listing starts count fits) } in
      let second : Stored _ (30 * count) (policy_field initial_tag count) _ (30 * count + (3 + 2 * count)) =
      record { place = put-initial; end = omega (arith, length_policy_field initial_tag count) } in
      let third : Stored _ (30 * count + (3 + 2 * count)) (policy_field target_tag count) _ (30 * count + 2 * (3 + 2 * count)) =
      record { place = put-target; end = omega (arith, length_policy_field target_tag count) } in
      stored_more (stored_more first second) third

  -- "absence means deny"; and the default behind them
  module _ {place target : List ℕ} (put : ListsPut listing starts count place target) where
    pub denying_put : target ≡ sets place 0 (file_of (contents_of (rules_at listing starts count) (action_if false)))
    denying_put = rw (file_bytes (rules_at listing starts count) false, length_rules_at listing starts count fits, append-nil) put.place

    pub permitting_put : {default : List ℕ} → default ≡ sets target (30 * count + 2 * (3 + 2 * count)) permit_field
        → default ≡ sets place 0 (file_of (contents_of (rules_at listing starts count) (action_if true)))
    permitting_put put-default =
        rw (file_bytes (rules_at listing starts count) true, length_rules_at listing starts count fits)
        (stored_more put (record { place = put-default; end = refl })).place
