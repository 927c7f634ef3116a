-- Field values against the table of refusals: what turns them away is a row, and a row is what turns them away. The idea: each value
-- is turned away by its own rows or passes, and they are read one after another; rules likewise, each behind those before it.
-- Assumes nothing.
use Prim.Native.Nat.{ℕ, ◌*◌, ◌/◌, ◌%◌, ◌≤◌}
use native.Mathlib.Omega.{arith}
use mathlib.Core.Path.{◌≡◌, refl, sym, ◌∙◌, ap, subst}
use mathlib.Core.Logic.{◌⊎◌, inl, inr, ⊎_elim}
use mathlib.Core.List.Memᴰ
use mathlib.Core.List.{
  List,
  [],
  ◌∷◌,
  ◌++◌,
  map,
  append_assoc,
  append-nil,
  map-append,
  Memᴰ,
}
use mathlib.Core.Option.{Option, none, some}
use borrow.Author.Tests.{eqb-true, leb-true, leb-false, eq-eqb, le-leb, lt-leb}
use lib.Dec.{eqb, leb}
use lib.ListN.{length, drop}
use Rattle.policy.specs.Policy.{most_rules}
use Rattle.policy.specs.Rule.{Rule}
use Rattle.policy.specs.declared.Action.{Action}
use Rattle.policy.specs.declared.Action.TheVariants.{Deny, Permit}
use Rattle.policy.proofs.Tests.{falsely, never}
use Rattle.deployment.specs.Checked.{Checked, good, bad, ◌>>=◌, why_number, refusal_numbers}
use Rattle.deployment.specs.Bytes.{number, chunks}
use Rattle.deployment.specs.Values.{rule_width, default_width, rule_of, numbers_of, default_fits, list_fits, script_fits}
use Rattle.deployment.specs.Catalogue.{record_count, records_of, catalogue_of}
use Rattle.deployment.specs.Contents.{Contents, rule_read, policy_read, default_read, keep_read, script_read}
use Rattle.deployment.specs.File.{reading_numbers}
use Rattle.deployment.specs.FieldValues.{
  FieldValues,
  rules_read,
  catalogue_value,
  policy_value,
  default_value,
  keep_value,
  script_value,
  values_read,
  at_zero,
  read_values,
}
use Rattle.deployment.specs.Properties.{
  IfThere,
  RightRules,
  WrongBounds,
  NamesOutside,
  RulesPass,
  RuleFails,
  rule_bounds,
  rule_equal,
  RulePlace,
  RulesFail,
  rules_length,
  rules_many,
  rules_one,
  PolicyFails,
  policy_length,
  policy_outside,
  policy_twice,
  DefaultFails,
  default_length,
  value_of_default,
  KeepFails,
  keep_length,
  keep_order,
  ScriptFails,
  script_length,
  script_coding,
  RulesRight,
  PolicyRight,
  DefaultRight,
  KeepRight,
  rule_count,
  ValuesFail,
  at_rules,
  at_initial,
  at_target,
  at_default,
  at_keep,
  at_script,
}
use Rattle.deployment.specs.Claims.{RefusedValues}
use Rattle.deployment.proofs.Numbers.{both_same}
use Rattle.deployment.proofs.Values.{in_known}
use Rattle.deployment.proofs.Scripts.{wrong_none}
use Rattle.deployment.proofs.Tests.{
  not_says,
  denies_not,
  not_denies,
  says_equal,
  says_list,
  says_script,
  says_known,
  denies_bounds,
  denies_inside,
  says_differ,
  says_occurs,
  says_not,
  Each,
  Turns,
  each_then,
  tested,
  rule_tested,
  policy_tested_lem,
  default_tested,
  keep_tested,
  script_tested,
}
use Rattle.deployment.proofs.Fields.{map_snoc, unlike_snoc}
use Rattle.deployment.proofs.ReadBack.{unlike_before}

-- One value behind another: what turns the first away turns both away, and the second counts where the first passes.
abbrev pub Right : {A : Type 0} → (A → Type 0) → (ℕ → Type 0) → Checked A → Type 0
Right P Fails = Each P (λ why. Fails (why_number why))

right_then : {A B : Type 0} (P : A → Type 0) (R : B → Type 0) (Fails Row : ℕ → Type 0) (read : Checked A) (next : A → Checked B)
    → Right P Fails read → ((number : ℕ) → Fails number → Row number) → ((a : A) → P a → Right R Row (next a))
    → Right R Row (◌>>=◌ read next)
right_then P R Fails Row (good a) next h row others = others a h
right_then P R Fails Row (bad why) next h row others = row (why_number why) h

pub each_map : {A : Type 0} (P R : A → Type 0) (Fails Row : ℕ → Type 0) (read : Checked A) → ((a : A) → P a → R a)
    → ((number : ℕ) → Fails number → Row number) → Right P Fails read → Right R Row read
each_map P R Fails Row (good a) passes row h = passes a h
each_map P R Fails Row (bad why) passes row h = row (why_number why) h

turns_then : {A B : Type 0} (number : ℕ) (read : Checked A) (next : A → Checked B) → Turns number read
    → Turns number (◌>>=◌ read next)
turns_then number (good a) next h = absurd h
turns_then number (bad why) next h = h

-- The rules, one by one.
abbrev Turned : List (List ℕ) → ℕ → Type 0
Turned rules number = (earlier : List (List ℕ)) × (rule : List ℕ) × RulePlace rules earlier rule × RuleFails earlier rule number

abbrev Passed : List (List ℕ) → List Rule → Type 0
Passed rules c = RulesPass rules × (c ≡ map rule_of rules)

-- rules that pass, and one more
pass_more : (earlier : List (List ℕ)) (rule : List ℕ) → RulesPass earlier → ¬ WrongBounds rule
    → ¬ Memᴰ (rule_of rule) (map rule_of earlier) → RulesPass (earlier ++ (rule ∷ []))
pass_more earlier rule pass right new =
    record {
      bounds =
          λ other t.
          ⊎_elim (pass.bounds other) (λ t. subst (λ r. ¬ WrongBounds r) (sym (Memᴰ.eq_of_singleton t)) right)
          (Memᴰ.append_cases earlier t);
      unlike = rw (map_snoc rule_of earlier rule) (unlike_snoc (map rule_of earlier) (rule_of rule) pass.unlike new);
    }

rules_right : (earlier rest rules : List (List ℕ)) → rules ≡ earlier ++ rest → RulesPass earlier
    → Right (Passed rules) (Turned rules) (rules_read (map rule_of earlier) rest)
unfolding rules_read
rules_right earlier [] rules is pass = let same = is ∙ append-nil earlier in (rw same pass, rw same refl)
rules_right earlier (rule ∷ rest) rules is pass =
    let One : Rule → Type 0 = λ r. (r ≡ rule_of rule) × RulesPass (earlier ++ (rule ∷ [])) in
    let here : RulePlace rules earlier rule = record { later = rest; is = is; pass = pass } in
    each_then One (Passed rules) (λ why. Turned rules (why_number why)) (rule_read (map rule_of earlier) rule) _
    (rule_tested (Right One (Turned rules)) (map rule_of earlier) rule
    (λ wrong. (earlier, rule, here, rule_bounds wrong)) (λ right equal. (earlier, rule, here, rule_equal right equal))
    (λ fits new. (refl, pass_more earlier rule pass (denies_not (denies_bounds rule) fits) new)))
    λ r one.
    rw (one.0, ← map_snoc rule_of earlier rule)
    (rules_right (earlier ++ (rule ∷ [])) rest rules (is ∙ sym (append_assoc earlier (rule ∷ []) rest)) one.1)

rules_pass : (earlier more rest : List (List ℕ)) → RulesPass (earlier ++ more)
    → rules_read (map rule_of earlier) (more ++ rest) ≡ rules_read (map rule_of (earlier ++ more)) rest
unfolding rules_read rule_read
rules_pass earlier [] rest pass = rw (append-nil earlier)
rules_pass earlier (rule ∷ more) rest pass =
    let fits = not_denies (denies_bounds rule) (pass.bounds rule (Memᴰ.append_right earlier (Memᴰ.head refl))) in
    let unlike = rw (map-append rule_of earlier (rule ∷ more)) at pass.unlike in
    let new = not_says (says_known (rule_of rule) (map rule_of earlier))
    (unlike_before (map rule_of earlier) (rule_of rule) (map rule_of more) unlike) in
    rw (fits, new, ← map_snoc rule_of earlier rule)
    (rw (append_assoc earlier (rule ∷ []) more) at (rules_pass (earlier ++ (rule ∷ [])) more rest (rw (append_assoc earlier (rule ∷ []) more) pass)))

rules_turn : (earlier later : List (List ℕ)) (rule : List ℕ) {number : ℕ} → RuleFails earlier rule number
    → Turns number (rules_read (map rule_of earlier) (rule ∷ later))
unfolding rules_read rule_read
rules_turn earlier later rule (rule_bounds wrong) = rw ((denies_bounds rule).1 wrong) refl
rules_turn earlier later rule (rule_equal right equal) =
    rw (not_denies (denies_bounds rule) right, in_known (rule_of rule) (map rule_of earlier) equal) refl

-- The rules' value.
none_skipped : (pieces : List (List ℕ)) → map (drop 0) pieces ≡ pieces
none_skipped [] = refl
none_skipped (piece ∷ pieces) = ap (λ (l : List (List ℕ)). piece ∷ l) (none_skipped pieces)

none_yet : RulesPass []
none_yet = record { bounds = λ rule h. absurd (Memᴰ.not-nil h); unlike = tt }

module _ (value : List ℕ) where
  pieces : chunks rule_width (length value / rule_width) value ≡ records_of 0 value
  unfolding records_of record_count
  pieces = sym (none_skipped _)

  catalogue_right : Right (λ c. RulesRight value × (c ≡ catalogue_of 0 value)) (RulesFail value) (catalogue_value value)
  unfolding catalogue_value catalogue_of
  catalogue_right =
      let P : List Rule → Type 0 = λ c. RulesRight value × (c ≡ catalogue_of 0 value) in
      let n = length value / rule_width in
      tested (Right P (RulesFail value)) (eqb (length value % rule_width) 0)
      (λ e. rules_length (λ n long. never (eq-eqb (length value % rule_width) 0 (omega arith)) e)) λ e.
      let long : length value ≡ rule_width * n = omega (arith, eqb-true (length value % rule_width) 0 e) in
      tested (Right P (RulesFail value)) (leb (length value) (rule_width * most_rules))
      (λ e. rules_many n long (omega (arith, leb-false (length value) (rule_width * most_rules) e))) λ e.
      let right : RightRules (length value) =
      (n, long, omega (arith, leb-true (length value) (rule_width * most_rules) e)) in
      rw pieces (each_map (Passed (records_of 0 value)) P (Turned (records_of 0 value)) (RulesFail value) (rules_read [] (records_of 0 value))
      (λ c passed. ((right, passed.0), passed.1))
      (λ number turned. rules_one right turned.0 turned.1 number turned.2 turned.3)
      (rules_right [] (records_of 0 value) (records_of 0 value) refl none_yet))

  catalogue_turns : {number : ℕ} → RulesFail value number → Turns number (catalogue_value value)
  unfolding catalogue_value
  catalogue_turns (rules_length wrong) =
      rw (falsely {b = eqb (length value % rule_width) 0} (λ e. wrong (length value / rule_width) (omega (arith, eqb-true (length value % rule_width) 0 e)))) refl
  catalogue_turns (rules_many n long many) =
      rw (eq-eqb (length value % rule_width) 0 (omega arith), lt-leb (length value) (rule_width * most_rules) (omega arith)) refl
  catalogue_turns (rules_one right earlier rule number place fails) =
      rw (
        eq-eqb (length value % rule_width) 0 (omega (arith, right.1)),
        le-leb (length value) (rule_width * most_rules) (omega (arith, right.1, right.2)),
        pieces,
        place.is,
        rules_pass [] earlier (rule ∷ place.later) place.pass,
      ) (rules_turn earlier place.later rule fails)

  catalogue_passes : RulesRight value → catalogue_value value ≡ good (catalogue_of 0 value)
  unfolding catalogue_value catalogue_of rules_read
  catalogue_passes right =
      rw (
        eq-eqb (length value % rule_width) 0 (omega (arith, right.0.1)),
        le-leb (length value) (rule_width * most_rules) (omega (arith, right.0.1, right.0.2)),
        pieces,
      ) (rw append-nil at (rules_pass [] (records_of 0 value) [] right.1))

-- A policy's value, over so many rules.
module _ (size : ℕ) (value : List ℕ) where
  pub policy_right : Right (λ p. PolicyRight size value × (p ≡ numbers_of value)) (PolicyFails size value) (policy_value size value)
  unfolding policy_value
  policy_right =
      let All = Right (λ p. PolicyRight size value × (p ≡ numbers_of value)) (PolicyFails size value) in
      let says = says_list (length value) in
      tested All (list_fits (length value)) (λ e. policy_length (says_not says e)) λ e.
      policy_tested_lem All size value (policy_outside (says.0 e)) (policy_twice (says.0 e)) (λ sound. ((says.0 e, sound), refl))

  policy_turns : {number : ℕ} → PolicyFails size value number → Turns number (policy_value size value)
  unfolding policy_value policy_read
  policy_turns (policy_length wrong) = rw (not_says (says_list (length value)) wrong) refl
  policy_turns (policy_outside right outside) =
      rw ((says_list (length value)).1 right, (denies_inside size (numbers_of value)).1 outside) refl
  policy_turns (policy_twice right inside twice) =
      rw (
        (says_list (length value)).1 right,
        not_denies (denies_inside size (numbers_of value)) inside,
        not_says (says_differ (numbers_of value)) twice,
      ) refl

  policy_passes : PolicyRight size value → policy_value size value ≡ good (numbers_of value)
  unfolding policy_value policy_read
  policy_passes (right, sound) =
      let inside : ¬ NamesOutside size (numbers_of value) = λ out. omega (arith, sound.inside out.0 out.1, out.2) in
      rw (
        (says_list (length value)).1 right,
        not_denies (denies_inside size (numbers_of value)) inside,
        (says_differ (numbers_of value)).1 sound.distinct,
      )

-- The default's, where there is one.
abbrev DefaultTurned : Option (List ℕ) → ℕ → Type 0
DefaultTurned value number = (default : List ℕ) × (value ≡ some default) × DefaultFails default number

default_right : (value : Option (List ℕ)) → Right (λ d. IfThere DefaultRight value) (DefaultTurned value) (default_value value)
unfolding default_value
default_right none = tt
default_right (some value) =
    let All : Checked Action → Type 0 = Right (λ d. DefaultRight value) (DefaultTurned (some value)) in
    let says = says_equal (length value) default_width in
    tested All (eqb (length value) default_width) (λ e. (value, refl, default_length (says_not says e))) λ e.
    default_tested All value (λ wrong. (value, refl, value_of_default (says.0 e) wrong)) (λ is. (says.0 e, is))

default_turns : (default : List ℕ) {number : ℕ} → DefaultFails default number → Turns number (default_value (some default))
unfolding default_value default_read default_fits
default_turns default (default_length wrong) = rw (not_says (says_equal (length default) default_width) wrong) refl
default_turns default (value_of_default right wrong) = rw (right, not_says (says_equal (number default) 1) wrong) refl

default_passes : (value : Option (List ℕ)) → IfThere DefaultRight value → (action : Action) × (default_value value ≡ good action)
unfolding default_value default_read default_fits
default_passes none right = (Deny, refl)
default_passes (some value) (right, is) = (Permit, rw (right, is))

-- The keep list's, where there is one.
module _ (initial target : List ℕ) where
  abbrev KeepTurned : Option (List ℕ) → ℕ → Type 0
  KeepTurned value number = (keep : List ℕ) × (value ≡ some keep) × KeepFails initial target keep number

  abbrev KeepSays : {A : Type 0} → List ℕ → Checked A → Type 0
  KeepSays value = Right (λ k. KeepRight initial target value) (KeepTurned (some value))

  keep_right : (value : Option (List ℕ))
      → Right (λ k. IfThere (KeepRight initial target) value) (KeepTurned value) (keep_value initial target value)
  unfolding keep_value
  keep_right none = tt
  keep_right (some value) =
      let says = says_list (length value) in
      tested (KeepSays value) (list_fits (length value)) (λ e. (value, refl, keep_length (says_not says e))) λ e.
      each_then (λ k. KeepRight initial target value) (λ k. KeepRight initial target value)
      (λ why. KeepTurned (some value) (why_number why)) (keep_read initial target value) _
      (keep_tested (KeepSays value) initial target value (λ astray. (value, refl, keep_order (says.0 e) astray))
      (λ one other. (says.0 e, (one, other))))
      λ k right. right

  keep_turns : (keep : List ℕ) {number : ℕ} → KeepFails initial target keep number → Turns number (keep_value initial target (some keep))
  unfolding keep_value keep_read
  keep_turns keep (keep_length wrong) = rw (not_says (says_list (length keep)) wrong) refl
  keep_turns keep (keep_order right astray) =
      rw ((says_list (length keep)).1 right, not_says (says_occurs (numbers_of keep) initial target) astray) refl

  keep_passes : (value : Option (List ℕ)) → IfThere (KeepRight initial target) value
      → (keep : Option (List ℕ)) × (keep_value initial target value ≡ good keep)
  unfolding keep_value keep_read
  keep_passes none right = (none, refl)
  keep_passes (some value) (right, both) =
      (some (numbers_of value), rw ((says_list (length value)).1 right, (says_occurs (numbers_of value) initial target).1 both))

-- The script's, where there is one.
abbrev ScriptTurned : Option (List ℕ) → ℕ → Type 0
ScriptTurned value number = (script : List ℕ) × (value ≡ some script) × ScriptFails script number

abbrev ScriptSays : {A : Type 0} → List ℕ → Checked A → Type 0
ScriptSays value = Right (λ s. Unit {0}) (ScriptTurned (some value))

script_right : (value : Option (List ℕ)) → Right (λ s. Unit {0}) (ScriptTurned value) (script_value value)
unfolding script_value
script_right none = tt
script_right (some value) =
    let says = says_script (length value) in
    tested (ScriptSays value) (script_fits (length value)) (λ e. (value, refl, script_length (says_not says e))) λ e.
    each_then (λ s. Unit {0}) (λ s. Unit {0}) (λ why. ScriptTurned (some value) (why_number why)) (script_read value) _
    (script_tested (ScriptSays value) value (λ wrong. (value, refl, script_coding (says.0 e) wrong)) (λ s read. tt))
    λ s right. tt

script_turns : (script : List ℕ) {number : ℕ} → ScriptFails script number → Turns number (script_value (some script))
unfolding script_value script_read
script_turns script (script_length wrong) = rw (not_says (says_script (length script)) wrong) refl
script_turns script (script_coding right wrong) =
    rw ((says_script (length script)).1 right, wrong_none script wrong, script_read) refl

-- All of them, one after another.
values_right : (v : FieldValues) → Right (λ c. Unit {0}) (ValuesFail v) (values_read v)
unfolding values_read
values_right v =
    let size = rule_count v in
    let Row = ValuesFail v in
    let i = numbers_of v.initial in
    let t = numbers_of v.target in
    right_then _ (λ c. Unit {0}) (RulesFail v.rules) Row (catalogue_value v.rules) _ (catalogue_right v.rules) (λ n. at_rules)
    λ c (rules, c-is). rw c-is
    (right_then _ (λ c. Unit {0}) (PolicyFails size v.initial) Row (policy_value size v.initial) _ (policy_right size v.initial)
    (λ n. at_initial rules)
    λ p (initial, p-is).
    right_then _ (λ c. Unit {0}) (PolicyFails size v.target) Row (policy_value size v.target) _ (policy_right size v.target)
    (λ n. at_target rules initial)
    λ q (target, q-is). rw (p-is, q-is)
    (right_then _ (λ c. Unit {0}) (DefaultTurned v.default) Row (default_value v.default) _ (default_right v.default)
    (λ n turned. at_default (rules, initial, target) turned.0 turned.1 turned.2)
    λ d default.
    right_then _ (λ c. Unit {0}) (KeepTurned i t v.keep) Row (keep_value i t v.keep) _ (keep_right i t v.keep)
    (λ n turned. at_keep ((rules, initial, target), default) turned.0 turned.1 turned.2)
    λ k keep.
    right_then _ (λ c. Unit {0}) (ScriptTurned v.script) Row (script_value v.script) _ (script_right v.script)
    (λ n turned. at_script ((rules, initial, target), default) keep turned.0 turned.1 turned.2)
    λ s script. tt))

values_turn : (v : FieldValues) (number : ℕ) → ValuesFail v number → Turns number (values_read v)
unfolding values_read
values_turn v number (at_rules fails) = turns_then number (catalogue_value v.rules) _ (catalogue_turns v.rules fails)
values_turn v number (at_initial rules fails) =
    rw (catalogue_passes v.rules rules) (turns_then number (policy_value (rule_count v) v.initial) _ (policy_turns (rule_count v) v.initial fails))
values_turn v number (at_target rules initial fails) =
    rw (catalogue_passes v.rules rules, policy_passes (rule_count v) v.initial initial)
    (turns_then number (policy_value (rule_count v) v.target) _ (policy_turns (rule_count v) v.target fails))
values_turn v number (at_default (rules, initial, target) default is fails) =
    rw (
      catalogue_passes v.rules rules,
      policy_passes (rule_count v) v.initial initial,
      policy_passes (rule_count v) v.target target,
      is,
    ) (turns_then number (default_value (some default)) _ (default_turns default fails))
values_turn v number (at_keep ((rules, initial, target), default) keep is fails) =
    rw (
      catalogue_passes v.rules rules,
      policy_passes (rule_count v) v.initial initial,
      policy_passes (rule_count v) v.target target,
      (default_passes v.default default).1,
      is,
    ) (turns_then number (keep_value (numbers_of v.initial) (numbers_of v.target) (some keep)) _ (keep_turns _ _ keep fails))
values_turn v number (at_script ((rules, initial, target), default) keep script is fails) =
    rw (
      catalogue_passes v.rules rules,
      policy_passes (rule_count v) v.initial initial,
      policy_passes (rule_count v) v.target target,
      (default_passes v.default default).1,
      (keep_passes (numbers_of v.initial) (numbers_of v.target) v.keep keep).1,
      is,
    ) (turns_then number (script_value (some script)) _ (script_turns script fails))

pub refused_values : RefusedValues
unfolding read_values at_zero reading_numbers refusal_numbers
refused_values v number at = (
  λ e. row (values_read v) (values_right v) e,
  λ h. turned (values_read v) (values_turn v number h.0) h.1,
)
  where
    row : (read : Checked Contents) → Right (λ c. Unit {0}) (ValuesFail v) read → reading_numbers (at_zero read) ≡ number ∷ at ∷ []
        → ValuesFail v number × (at ≡ 0)
    row (good c) right e = absurd (omega (arith, ap length e))
    row (bad why) right e = let same = both_same e in (subst (ValuesFail v) same.0 right, sym same.1)

    turned : (read : Checked Contents) → Turns number read → at ≡ 0 → reading_numbers (at_zero read) ≡ number ∷ at ∷ []
    turned (good c) turns start = absurd turns
    turned (bad why) turns start = rw (turns, start)

-- The numbers of the rows are those from 4 to 11, and 50.
rule_numbers : {earlier : List (List ℕ)} {rule : List ℕ} {number : ℕ} → RuleFails earlier rule number → number ≤ 11
rule_numbers (rule_bounds wrong) = omega arith
rule_numbers (rule_equal right equal) = omega arith

rules_numbers : {value : List ℕ} {number : ℕ} → RulesFail value number → number ≤ 11
rules_numbers (rules_length wrong) = omega arith
rules_numbers (rules_many n long many) = omega arith
rules_numbers (rules_one right earlier rule number place fails) = rule_numbers fails

policy_numbers : {size : ℕ} {value : List ℕ} {number : ℕ} → PolicyFails size value number → number ≤ 11
policy_numbers (policy_length wrong) = omega arith
policy_numbers (policy_outside right outside) = omega arith
policy_numbers (policy_twice right inside twice) = omega arith

keep_numbers : {initial target value : List ℕ} {number : ℕ} → KeepFails initial target value number → number ≤ 11
keep_numbers (keep_length wrong) = omega arith
keep_numbers (keep_order right astray) = omega arith

script_numbers : {value : List ℕ} {number : ℕ} → ScriptFails value number → number ≤ 11
script_numbers (script_length wrong) = omega arith
script_numbers (script_coding right wrong) = omega arith

default_numbers : {value : List ℕ} {number : ℕ} → DefaultFails value number → (number ≤ 11) ⊎ (number ≡ 50)
default_numbers (default_length wrong) = inl (omega arith)
default_numbers (value_of_default right wrong) = inr refl

pub values_numbers : {v : FieldValues} {number : ℕ} → ValuesFail v number → (number ≤ 11) ⊎ (number ≡ 50)
values_numbers (at_rules fails) = inl (rules_numbers fails)
values_numbers (at_initial rules fails) = inl (policy_numbers fails)
values_numbers (at_target rules initial fails) = inl (policy_numbers fails)
values_numbers (at_default lists default is fails) = default_numbers fails
values_numbers (at_keep policies keep is fails) = inl (keep_numbers fails)
values_numbers (at_script policies keep script is fails) = inl (script_numbers fails)
