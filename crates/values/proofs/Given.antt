-- Field values tested one after another: the first that is turned away decides, and what passes is read as its tests leave it:
-- the rules as many as their bytes hold, each policy as the numbers of its value, a default as permit. Assumes nothing.
use Prim.Native.Nat.{ℕ, ◌+◌, ◌*◌, ◌/◌, ◌%◌, ◌≤◌, min}
use native.Mathlib.Nat.{min-eq_left}
use native.Mathlib.Omega.{arith}
use mathlib.Core.Path.{◌≡◌, refl, ◌∙◌}
use mathlib.Core.Bool.{cond}
use mathlib.Core.List.{List, [], ◌∷◌, ◌++◌}
use mathlib.Core.Option.{some}
use borrow.Author.Tests.{leb-true}
use lib.Dec.{eqb, leb}
use lib.ListN.{length, length-append}
use Rattle.policy.specs.Policy.{most_rules}
use Rattle.policy.specs.Rule.{Rule}
use Rattle.policy.specs.declared.Action.{Action}
use Rattle.policy.specs.declared.Action.TheVariants.{Deny, Permit}
use Rattle.deployment.specs.Checked.{Checked, good, bad, ◌>>=◌}
use Rattle.deployment.specs.Bytes.{chunks}
use Rattle.deployment.specs.Values.{rule_width, default_width, numbers_of, list_fits}
use Rattle.deployment.specs.Contents.{rule_read}
use Rattle.deployment.specs.FieldValues.{
  FieldValues,
  lent,
  rules_read,
  catalogue_value,
  policy_value,
  default_value,
  keep_value,
  script_value,
  values_read,
}
use Rattle.deployment.specs.declared.Why.{Why}
use Rattle.deployment.proofs.Bytes.{length_chunks}
use Rattle.deployment.proofs.Tests.{tested, policy_tested_lem, default_tested}
use Rattle.catalogue.specs.Answers.{checking}
use Rattle.std.specs.Prelude.{Result, Ok, Err, Option as CodeOption, Some, None, is_some}
use Rattle.std.specs.Borrow.{Bor}

-- What an answer says of the tests.
bad_good {ℓ} : {A : Type 0} {B : Type ℓ} {why : Why} {a : A} → bad why ≡ good a → B
bad_good e = absurd (cc)

pub passed : {A : Type 0} (read : Checked A) → (Ok tt) ≡ checking read → (a : A) × (read ≡ good a)
unfolding checking
passed (good a) e = (a, refl)
passed (bad why) e = absurd (cc)

pub failed : {A : Type 0} (read : Checked A) (why : Why) → Err why ≡ checking read → read ≡ bad why
unfolding checking
failed (good a) why e = absurd (cc)
failed (bad other) why e = let same : other ≡ why = cc in rw same

-- Rules that pass: as many as their bytes hold, and no more than may be.
pub record Rules (value : List ℕ) : Type 0 where
  pub catalogue : List Rule
  pub read : catalogue_value value ≡ good catalogue
  pub counted : length catalogue ≡ length value / rule_width
  pub few : min (length value / rule_width) 1024 ≡ length value / rule_width

rules_count : (done : List Rule) (pieces : List (List ℕ)) (c : List Rule) → rules_read done pieces ≡ good c
    → length c ≡ length done + length pieces
unfolding rules_read
rules_count done [] c e = let same : done ≡ c = cc in rw (← same) (omega arith)
rules_count done (piece ∷ pieces) c e = go (rule_read done piece) (λ rule. rules_count (done ++ (rule ∷ [])) pieces c) e
  where
    go : (read : Checked Rule)
        → ((rule : Rule) → rules_read (done ++ (rule ∷ [])) pieces ≡ good c → length c ≡ length (done ++ (rule ∷ [])) + length pieces)
        → ◌>>=◌ read (λ rule. rules_read (done ++ (rule ∷ [])) pieces) ≡ good c → length c ≡ length done + length (piece ∷ pieces)
    go (good rule) others f = omega (arith, length-append done (rule ∷ []), others rule f)
    go (bad why) others f = bad_good f

pub rules_passed : (value : List ℕ) → (Ok tt) ≡ checking (catalogue_value value) → Rules value
unfolding catalogue_value
rules_passed value e =
    let found = passed (catalogue_value value) e in
    let Right : Checked (List Rule) → Type 0 =
    λ read. read ≡ good found.0 → (length found.0 ≡ length value / rule_width) × (length value ≤ rule_width * most_rules) in
    let count = length value / rule_width in
    let both =
    tested Right (eqb (length value % rule_width) 0) (λ uneven. bad_good)
    (λ whole.
    tested Right (leb (length value) (rule_width * most_rules)) (λ many. bad_good)
    (λ few read. (
      rules_count [] (chunks rule_width count value) found.0 read ∙ omega (arith, length_chunks rule_width count value),
      leb-true (length value) (rule_width * most_rules) few,
    )))
    found.1 in
    record { catalogue = found.0; read = found.1; counted = both.0; few = min-eq_left (omega (arith, both.1)) }

-- A policy that passes is the numbers of its value.
pub policy_passed : (size : ℕ) (value : List ℕ) → (Ok tt) ≡ checking (policy_value size value) → policy_value size value ≡ good (numbers_of value)
unfolding policy_value
policy_passed size value e =
    let found = passed (policy_value size value) e in
    let Right : Checked (List ℕ) → Type 0 = λ read. read ≡ good found.0 → read ≡ good (numbers_of value) in
    tested Right (list_fits (length value)) (λ odd. bad_good)
    (λ fits. policy_tested_lem Right size value (λ outside. bad_good) (λ inside twice. bad_good) (λ sound passes. refl)) found.1

-- a default that passes is permit where it is there, and deny where it is absent
pub default_passed : (default : CodeOption (Bor (List ℕ))) → Ok tt ≡ checking (default_value (lent default))
    → default_value (lent default) ≡ good (cond (is_some default) Permit Deny)
unfolding lent default_value
default_passed None e = refl
default_passed (Some value) e =
    let found = passed (default_value (some value.now)) e in
    let Right : Checked Action → Type 0 = λ read. read ≡ good found.0 → read ≡ good Permit in
    tested Right (eqb (length value.now) default_width) (λ long. bad_good)
    (λ fits. default_tested Right value.now (λ wrong. bad_good) (λ is passes. refl)) found.1

-- whether tests pass does not hang on what is made of the value
pub checking_last : {A B : Type 0} (read : Checked A) (next : A → B) → checking read ≡ checking (◌>>=◌ read (λ a. good (next a)))
unfolding checking
checking_last (good a) next = refl
checking_last (bad why) next = refl

-- All values: the first that is turned away decides.
pub bad_rules : (v : FieldValues) (why : Why) → Err why ≡ checking (catalogue_value v.rules) → Err why ≡ checking (values_read v)
unfolding values_read checking
bad_rules v why e = rw (failed (catalogue_value v.rules) why e)

module _ (v : FieldValues) (rules : Rules v.rules) where
  -- what `policy_checked` answers to a policy
  abbrev pub Answers : Result Unit Why → List ℕ → Type 0
  Answers answer value = answer ≡ checking (policy_value (min (length v.rules / rule_width) 1024) value)

  over : (answer : Result Unit Why) (value : List ℕ) → Answers answer value
      → answer ≡ checking (policy_value (length rules.catalogue) value)
  over answer value e = rw rules.counted (rw rules.few at e)

  good_policy : (value : List ℕ) → Answers (Ok tt) value → policy_value (length rules.catalogue) value ≡ good (numbers_of value)
  good_policy value e = policy_passed (length rules.catalogue) value (over (Ok tt) value e)

  bad_policy : (value : List ℕ) (why : Why) → Answers (Err why) value → policy_value (length rules.catalogue) value ≡ bad why
  bad_policy value why e = failed (policy_value (length rules.catalogue) value) why (over (Err why) value e)

  pub bad_initial : (why : Why) → Answers (Err why) v.initial → Err why ≡ checking (values_read v)
  unfolding values_read checking
  bad_initial why e = rw (rules.read, bad_policy v.initial why e)

  module _ (initial : Answers (Ok tt) v.initial) where
    pub bad_target : (why : Why) → Answers (Err why) v.target → Err why ≡ checking (values_read v)
    unfolding values_read checking
    bad_target why e = rw (rules.read, good_policy v.initial initial, bad_policy v.target why e)

    module _ (target : Answers (Ok tt) v.target) where
      pub bad_default : (why : Why) → Err why ≡ checking (default_value v.default) → Err why ≡ checking (values_read v)
      unfolding values_read checking
      bad_default why e =
          rw (
            rules.read,
            good_policy v.initial initial,
            good_policy v.target target,
            failed (default_value v.default) why e,
          )

      module _ (default : (Ok tt) ≡ checking (default_value v.default)) where
        pub bad_keep : (why : Why) → Err why ≡ checking (keep_value (numbers_of v.initial) (numbers_of v.target) v.keep)
            → Err why ≡ checking (values_read v)
        unfolding values_read checking
        bad_keep why e =
            rw (
              rules.read,
              good_policy v.initial initial,
              good_policy v.target target,
              (passed (default_value v.default) default).1,
              failed (keep_value (numbers_of v.initial) (numbers_of v.target) v.keep) why e,
            )

        pub by_script : (answer : Result Unit Why) → (Ok tt) ≡ checking (keep_value (numbers_of v.initial) (numbers_of v.target) v.keep)
            → answer ≡ checking (script_value v.script) → answer ≡ checking (values_read v)
        unfolding values_read
        by_script answer keep e =
            rw (
              rules.read,
              good_policy v.initial initial,
              good_policy v.target target,
              (passed (default_value v.default) default).1,
              (passed (keep_value (numbers_of v.initial) (numbers_of v.target) v.keep) keep).1,
            )
            (e ∙ checking_last (script_value v.script) _)
