-- The tests of the reader against the properties: a test says a property, or denies one; in a run of tests the first that fails
-- decides. The idea: the connectives of tests are those of the properties. Assumes nothing.
use Prim.Native.Nat.{ℕ, ◌*◌, ◌-◌, ◌/◌, ◌%◌, ◌≤◌, ◌<◌}
use native.Mathlib.Omega.{arith}
use mathlib.Core.Path.{◌≡◌, refl}
use mathlib.Core.Bool.{Bool, true, false, not, ◌&&◌, ◌||◌, and_assoc}
use mathlib.Core.Logic.{◌⊎◌, inl, inr, ⊎_elim, ◌↔◌}
use mathlib.Core.List.Memᴰ
use mathlib.Core.List.{
  List,
  [],
  ◌∷◌,
  Memᴰ,
  Sublistᴰ,
}
use mathlib.Core.Option.{some}
use lib.Dec.{eqb, leb, ltb}
use borrow.Author.Tests.{ltb-true, ltb-false, leb-true, leb-false, eqb-true, le-ltb, le-leb, lt-leb, eq-eqb}
use Rattle.policy.specs.Lists.{all, occurs, differ}
use Rattle.policy.specs.Policy.{most_listed}
use Rattle.policy.specs.Rule.{Range, Rule}
use Rattle.policy.specs.Properties.{Distinct}
use Rattle.policy.specs.declared.Action.{Action}
use Rattle.policy.specs.declared.Action.TheVariants.{Permit}
use Rattle.policy.specs.Claims.{Admitted}
use Rattle.policy.proofs.Tests.{by_test, never, and_both, both_and, or_either, or_left, or_right, not_true, false_not, falsely}
use Rattle.policy.proofs.Lists.{all_in}
use Rattle.policy.proofs.Order.{differ_distinct, distinct_differ, occurs_sublist, sublist_occurs}
use Rattle.deployment.specs.Checked.{Checked, good, bad, ◌>>=◌, ◌>>◌, require, why_number}
use Rattle.deployment.specs.Bytes.{number, part}
use Rattle.deployment.specs.Values.{
  Script,
  rule_width,
  default_width,
  default_fits,
  rule_of,
  rule_fits,
  rising,
  range_at,
  known,
  numbers_of,
  script_of,
  list_fits,
  most_script_bytes,
  script_fits,
}
use Rattle.deployment.specs.Contents.{rule_read, policy_read, default_read, keep_read, script_read}
use Rattle.deployment.specs.File.{length_fits, rule_tag, default_tag, script_tag}
use Rattle.deployment.specs.Properties.{
  RightList,
  RightScript,
  RightLength,
  Falling,
  WrongBounds,
  NamesOutside,
  WrongDefault,
  WrongCoding,
}
use Rattle.deployment.specs.declared.Why.{Why}
use Rattle.deployment.specs.declared.Why.TheVariants.{Bounds, Equal, Outside, Twice, Default, Keep, Coding}
use Rattle.deployment.proofs.Values.{by_option, known_in, in_known}
use Rattle.deployment.proofs.Scripts.{none_wrong}

-- A test says a property where it passes exactly when the property holds, and denies one where it fails exactly then.
abbrev pub Says : Bool → Type 0 → Type 0
Says test P = (test ≡ true) ↔ P

abbrev pub Denies : Bool → Type 0 → Type 0
Denies test P = (test ≡ false) ↔ P

pub says_not : {test : Bool} {P : Type 0} → Says test P → test ≡ false → ¬ P
says_not says f p = never (says.1 p) f

pub not_says : {test : Bool} {P : Type 0} → Says test P → ¬ P → test ≡ false
not_says says n = falsely (λ t. n (says.0 t))

pub denies_not : {test : Bool} {P : Type 0} → Denies test P → test ≡ true → ¬ P
denies_not denies t p = never t (denies.1 p)

pub not_denies : {test : Bool} {P : Type 0} → Denies test P → ¬ P → test ≡ true
not_denies {test} denies n = by_test test (λ t. t) (λ f. absurd (n (denies.0 f)))

pub says_and : {a b : Bool} {P Q : Type 0} → Says a P → Says b Q → Says (a && b) (P × Q)
says_and {a} {b} p q = (
  λ e. let both = and_both a b e in (p.0 both.0, q.0 both.1),
  λ h. both_and (p.1 h.0) (q.1 h.1),
)

pub says_or : {a b : Bool} {P Q : Type 0} → Says a P → Says b Q → Says (a || b) (P ⊎ Q)
says_or {a} {b} p q = (
  λ e. ⊎_elim (λ t. inl (p.0 t)) (λ t. inr (q.0 t)) (or_either a b e),
  ⊎_elim (λ h. or_left b (p.1 h)) (λ h. or_right a (q.1 h)),
)

pub denies_and : {a b : Bool} {P Q : Type 0} → Denies a P → Denies b Q → Denies (a && b) (P ⊎ Q)
denies_and {a} {b} p q = (
  λ e. by_test a (λ t. inr (q.0 (rw t at e))) (λ f. inl (p.0 f)),
  ⊎_elim (λ h. rw (p.1 h)) (λ h. by_test a (λ t. rw (t, q.1 h)) (λ f. rw f)),
)

pub denies_of_not : {a : Bool} {P : Type 0} → Says a P → Denies (not a) P
denies_of_not {a} p = (λ e. by_test a (λ t. p.0 t) (λ f. never (false_not f) e), λ h. rw (p.1 h))

pub says_of_not : {a : Bool} {P : Type 0} → Says a P → Says (not a) (¬ P)
says_of_not {a} p = (λ e. says_not p (not_true e), λ h. false_not (not_says p h))

pub says_equal : (a b : ℕ) → Says (eqb a b) (a ≡ b)
says_equal a b = (eqb-true a b, eq-eqb a b)

pub says_at_most : (a b : ℕ) → Says (leb a b) (a ≤ b)
says_at_most a b = (leb-true a b, le-leb a b)

pub denies_at_most : (a b : ℕ) → Denies (leb a b) (b < a)
denies_at_most a b = (leb-false a b, lt-leb a b)

-- 4: the lengths.
pub says_list : (size : ℕ) → Says (list_fits size) (RightList size)
unfolding list_fits
says_list size =
    let says = says_and (says_equal (size % 2) 0) (says_at_most size (2 * most_listed)) in
    (λ e. let h = says.0 e in (size / 2, omega arith, omega arith), λ h. says.1 (omega arith))

pub says_script : (size : ℕ) → Says (script_fits size) (RightScript size)
unfolding script_fits
says_script size =
    let says =
    says_and (says_and (says_at_most 1 size) (says_equal ((size - 1) % 5) 0)) (says_at_most size most_script_bytes) in
    (λ e. let h = says.0 e in ((size - 1) / 5, omega arith, omega arith), λ h. says.1 (omega arith))

pub says_length : (tag size : ℕ) → Says (length_fits tag size) (RightLength tag size)
unfolding length_fits
says_length tag size =
    let rule = says_equal tag rule_tag in
    let script = says_equal tag script_tag in
    let default = says_equal tag default_tag in (
      λ e. by_test (eqb tag rule_tag) (λ t. inl (rule.0 t, (says_equal size rule_width).0 (rw t at e))) λ r.
          by_test (eqb tag script_tag) (λ t. inr (inl (script.0 t, (says_script size).0 (rw (r, t) at e)))) λ s.
          by_test (eqb tag default_tag) (λ t. inr (inr (inl (default.0 t, (says_equal size default_width).0 (rw (r, s, t) at e))))) λ d.
          inr (inr (inr (says_not rule r, says_not script s, says_not default d, (says_list size).0 (rw (r, s, d) at e)))),
      ⊎_elim (λ h. rw h.0 ((says_equal size rule_width).1 h.1))
          (⊎_elim (λ h. rw h.0 ((says_script size).1 h.1))
          (⊎_elim (λ h. rw h.0 ((says_equal size default_width).1 h.1))
          (λ h. rw (not_says rule h.0, not_says script h.1, not_says default h.2) ((says_list size).1 h.3)))),
    )

-- 5: an action above 1, or a low above its high.
denies_falling : (range : Range) → Denies (rising range) (Falling range)
unfolding rising
denies_falling range = denies_at_most range.low range.high

pub denies_bounds : (value : List ℕ) → Denies (rule_fits value) (WrongBounds value)
unfolding rule_fits
denies_bounds value =
    let denies =
    denies_and (denies_at_most (number (part 0 1 value)) 1) (denies_and (denies_falling (range_at 1 1 value))
    (denies_and (denies_falling (range_at 3 4 value)) (denies_and (denies_falling (range_at 11 2 value))
    (denies_and (denies_falling (range_at 15 4 value)) (denies_falling (range_at 23 2 value)))))) in
    (λ e. denies.0 (simp and_assoc at e), λ h. simp and_assoc (denies.1 h))

-- 6: a rule equal to an earlier one.
pub says_known : (rule : Rule) (catalogue : List Rule) → Says (known rule catalogue) (Memᴰ rule catalogue)
says_known rule catalogue = (known_in rule catalogue, in_known rule catalogue)

-- 8: a number outside the catalogue.
pub denies_inside : (size : ℕ) (l : List ℕ) → Denies (all (λ r. ltb r size) l) (NamesOutside size l)
unfolding all
denies_inside size [] = (λ e. never refl e, λ h. absurd (Memᴰ.not-nil h.1))
denies_inside size (x ∷ l) =
    let denies = denies_and (ltb-false x size, le-ltb x size) (denies_inside size l) in (
      λ e. ⊎_elim (λ h. (x, Memᴰ.head refl, h)) (λ h. (h.0, Memᴰ.tail h.1, h.2)) (denies.0 e),
      λ h. denies.1 (⊎_elim (λ e. inl (rw e at h.2)) (λ t. inr (h.0, t, h.2)) (Memᴰ.cases_cons h.1)),
    )

-- 9 and 10: a rule named twice, a keep list that does not occur in order.
pub says_differ : (l : List ℕ) → Says (differ l) (Distinct l)
says_differ l = (differ_distinct l, distinct_differ l)

pub says_occurs : (k l m : List ℕ) → Says (occurs k l && occurs k m) (Sublistᴰ k l × Sublistᴰ k m)
says_occurs k l m = says_and (occurs_sublist k l, sublist_occurs k l) (occurs_sublist k m, sublist_occurs k m)

-- What a run of tests gives, by a property of the value and a property of the case that it is turned away with.
abbrev pub Each : {A : Type 0} → (A → Type 0) → (Why → Type 0) → Checked A → Type 0
Each P Q (good a) = P a
Each P Q (bad why) = Q why

-- turned away with a number
abbrev pub Turns : {A : Type 0} → ℕ → Checked A → Type 0
Turns number = Each (λ a. ⊥) (λ why. why_number why ≡ number)

pub each_then : {A B : Type 0} (P : A → Type 0) (R : B → Type 0) (Q : Why → Type 0) (read : Checked A) (next : A → Checked B)
    → Each P Q read → ((a : A) → P a → Each R Q (next a)) → Each R Q (◌>>=◌ read next)
each_then P R Q (good a) next h others = others a h
each_then P R Q (bad why) next h others = h

-- a test that is made before others: where it fails the case that it names is right, and where it passes the others are
pub tested {ℓ} : {A : Type 0} (Right : Checked A → Type ℓ) (test : Bool) {why : Why} {others : Checked A}
    → (test ≡ false → Right (bad why)) → (test ≡ true → Right others) → Right (◌>>◌ (require test why) others)
tested Right true fails passes = passes refl
tested Right false fails passes = fails refl

-- The runs of tests of each value, by their rows.
pub rule_tested {ℓ} : (Right : Checked Rule → Type ℓ) (c : List Rule) (value : List ℕ)
    → (WrongBounds value → Right (bad Bounds)) → (¬ WrongBounds value → Memᴰ (rule_of value) c → Right (bad Equal))
    → (rule_fits value ≡ true → ¬ Memᴰ (rule_of value) c → Right (good (rule_of value))) → Right (rule_read c value)
unfolding rule_read
rule_tested Right c value bounds equal passes =
    let denies = denies_of_not (says_known (rule_of value) c) in
    tested Right (rule_fits value) (λ e. bounds ((denies_bounds value).0 e)) λ fits.
    tested Right (not (known (rule_of value) c)) (λ e. equal (denies_not (denies_bounds value) fits) (denies.0 e)) λ e.
    passes fits (denies_not denies e)

pub policy_tested_lem {ℓ} : (Right : Checked (List ℕ) → Type ℓ) (size : ℕ) (value : List ℕ)
    → (NamesOutside size (numbers_of value) → Right (bad Outside))
    → (¬ NamesOutside size (numbers_of value) → ¬ Distinct (numbers_of value) → Right (bad Twice))
    → (Admitted size (numbers_of value) → Right (good (numbers_of value))) → Right (policy_read size value)
unfolding policy_read
policy_tested_lem Right size value outside twice passes =
    let denies = denies_inside size (numbers_of value) in
    tested Right (all (λ r. ltb r size) (numbers_of value)) (λ e. outside (denies.0 e)) λ e.
    let inside = denies_not denies e in
    tested Right (differ (numbers_of value)) (λ e. twice inside (says_not (says_differ (numbers_of value)) e)) λ d.
    passes (record {
      inside = λ r h. ltb-true r size (all_in (λ r. ltb r size) (numbers_of value) e r h);
      distinct = differ_distinct (numbers_of value) d;
    })

pub default_tested {ℓ} : (Right : Checked Action → Type ℓ) (value : List ℕ)
    → (WrongDefault value → Right (bad Default)) → (number value ≡ 1 → Right (good Permit)) → Right (default_read value)
unfolding default_read default_fits
default_tested Right value fails passes =
    let says = says_equal (number value) 1 in
    tested Right (eqb (number value) 1) (λ e. fails (says_not says e)) λ e. passes (says.0 e)

pub keep_tested {ℓ} : (Right : Checked (List ℕ) → Type ℓ) (i t value : List ℕ)
    → (¬ (Sublistᴰ (numbers_of value) i × Sublistᴰ (numbers_of value) t) → Right (bad Keep))
    → (Sublistᴰ (numbers_of value) i → Sublistᴰ (numbers_of value) t → Right (good (numbers_of value))) → Right (keep_read i t value)
unfolding keep_read
keep_tested Right i t value fails passes =
    let says = says_occurs (numbers_of value) i t in
    tested Right (occurs (numbers_of value) i && occurs (numbers_of value) t) (λ e. fails (says_not says e)) λ e.
    passes (says.0 e).0 (says.0 e).1

pub script_tested {ℓ} : (Right : Checked Script → Type ℓ) (value : List ℕ)
    → (WrongCoding value → Right (bad Coding)) → ((s : Script) → script_of value ≡ some s → Right (good s))
    → Right (script_read value)
unfolding script_read
script_tested Right value fails passes =
    by_option (script_of value)
    (λ e. rw (e, script_read) (fails (none_wrong value e)))
    (λ s e. rw (e, script_read) (passes s e))
