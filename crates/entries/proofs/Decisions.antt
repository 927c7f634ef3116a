-- Decisions, of one flow and of many, over a file and over field values: an accepted file's catalogue and policies are what its parts are
-- read as; rules, a policy's list and its default that pass their tests are what their bytes are read as. Assumes nothing.
use Prim.Native.Nat.{ℕ, ◌*◌, ◌/◌, ◌%◌, ◌≤◌, min}
use native.Mathlib.Omega.{arith}
use mathlib.Core.Path.{◌≡◌, refl, sym, ◌∙◌, ap, ap₂}
use mathlib.Core.Bool.{Bool, true, false, cond}
use mathlib.Core.List.{List, [], ◌∷◌, ◌++◌, map, append_assoc, append-nil}
use lib.ListN.{length, drop}
use lib.Dec.{eqb, leb}
use Rattle.policy.specs.Policy.{Policy, under, most_rules, decide, matching}
use Rattle.policy.specs.Rule.{Rule}
use Rattle.policy.specs.declared.Action.{Action}
use Rattle.policy.specs.declared.Action.TheVariants.{Deny, Permit}
use Rattle.policy.specs.declared.Decision.{Decision}
use Rattle.policy.specs.declared.Flow.{Flow}
use Rattle.deployment.specs.Checked.{Checked, good, bad}
use Rattle.deployment.specs.Bytes.{part, chunks}
use Rattle.deployment.specs.Values.{rule_width, rule_of, numbers_of}
use Rattle.deployment.specs.Catalogue.{record_count, records_of, catalogue_of}
use Rattle.deployment.specs.Contents.{initial_policy, target_policy, rule_read}
use Rattle.deployment.specs.File.{read_file}
use Rattle.deployment.specs.FieldValues.{lent, rules_read, catalogue_value, policy_value, default_value, left_by, left_alone, Writing}
use Rattle.deployment.specs.declared.Why.{Why}
use Rattle.std.specs.Borrow.{Bor}
use Rattle.std.specs.Prelude.{Result, Ok, Err, Option as CodeOption, is_some}
use Rattle.deployment.proofs.Lent.{for_contents, turned_at_zero, for_passed}
use Rattle.deployment.proofs.Tests.{Each, each_then, tested, rule_tested}
use Rattle.catalogue.specs.Answers.{checking}
use Rattle.reader.specs.Answers.{value_at}
use Rattle.reader.specs.declared.Span.{Span}
use Rattle.reader.specs.declared.Layout.{Layout}
use Rattle.values.proofs.Given.{Rules, rules_passed, passed, failed, policy_passed, default_passed, checking_last}
use Rattle.reader.proofs.FileAnswers.{Holds, default_placed}
use Rattle.flows.specs.Flows.{flows_decided}
use Rattle.entries.specs.Answers.{
  decided_contents,
  decided_reading,
  policy_tested,
  deciding_values,
  decided_values,
  decided_at_zero,
  flows_reading,
  flows_at_zero,
}

-- A file that is accepted: its contents stand in it.
module _ {file : List ℕ} {layout : Layout} (read : Holds (read_file file) file layout) where
  pub few_rules : layout.rules ≤ 1024
  few_rules = omega (arith, read.stands.count, read.stands.valid.catalogue.few)

  policy_read_lem : (of-target : Bool) (list : Span) → list ≡ cond of-target layout.target layout.initial
      → under read.contents.default (numbers_of (value_at list file))
      ≡ cond of-target (target_policy read.contents) (initial_policy read.contents)
  policy_read_lem true list e = rw e (ap (under read.contents.default) read.stands.target.numbers)
  policy_read_lem false list e = rw e (ap (under read.contents.default) read.stands.initial.numbers)

  -- the parts at the places of the rules and of the policy that is asked for, and the default of both policies
  module _ (of-target : Bool) {list rules : Span} {rule-part list-part : List ℕ} {has : Bool} {default : Action}
      (which : list ≡ cond of-target layout.target layout.initial) (where-rules : rules ≡ record { start = 0; size = 30 * layout.rules })
      (rule-is : rule-part ≡ value_at rules file) (list-is : list-part ≡ value_at list file) (there : has ≡ is_some layout.default)
      (default-is : default ≡ cond has Permit Deny) where
    catalogue_part : catalogue_of 3 rule-part ≡ read.contents.catalogue
    unfolding value_at part
    catalogue_part = rw (rule-is, where-rules) read.stands.catalogue

    policy_part : under default (numbers_of list-part) ≡ cond of-target (target_policy read.contents) (initial_policy read.contents)
    policy_part = rw (default-is, there, default_placed file layout read.contents read.stands, list-is) (policy_read_lem of-target list which)

    pub decided_file : (flow : Flow) {d : Decision} → d ≡ decide (matching (catalogue_of 3 rule-part) flow) (under default (numbers_of list-part))
        → Ok d ≡ decided_reading of-target flow (read_file file)
    unfolding decided_reading decided_contents
    decided_file flow is =
        for_contents (λ c. Ok (decided_contents of-target flow c)) Err read.is
        (ap Ok (is ∙ ap₂ (λ (c : List Rule) (p : Policy). decide (matching c flow) p) catalogue_part policy_part))

    pub flows_of_file : (flows place : List ℕ) {left : Writing}
        → left ≡ flows_decided (λ flow. decide (matching (catalogue_of 3 rule-part) flow) (under default (numbers_of list-part))) flows place
        → left ≡ flows_reading of-target flows (read_file file) place
    unfolding flows_reading decided_contents
    flows_of_file flows place is =
        for_contents (λ c. flows_decided (λ flow. decided_contents of-target flow c) flows place) (left_alone Err place) read.is
        (is
        ∙ ap₂ (λ (c : List Rule) (p : Policy). flows_decided (λ flow. decide (matching c flow) p) flows place) catalogue_part policy_part)

-- Rules that pass are what their bytes are read as.
abbrev Passing : {A : Type 0} → (A → Type 0) → Checked A → Type 0
Passing P = Each P (λ why. Unit {0})

rules_are : (done : List Rule) (pieces : List (List ℕ)) (all : List Rule) → done ++ map rule_of pieces ≡ all
    → Passing (λ c. c ≡ all) (rules_read done pieces)
unfolding rules_read
rules_are done [] all e = sym (append-nil done) ∙ e
rules_are done (piece ∷ pieces) all e =
    each_then (λ rule. rule ≡ rule_of piece) (λ c. c ≡ all) (λ why. Unit {0}) (rule_read done piece) _
    (rule_tested (Passing (λ rule. rule ≡ rule_of piece)) done piece (λ wrong. tt) (λ fits known. tt) (λ fits new. refl))
    (λ rule is. rules_are (done ++ (rule ∷ [])) pieces all (rw (is, append_assoc) e))

none_skipped : (pieces : List (List ℕ)) → map rule_of pieces ≡ map rule_of (map (drop 0) pieces)
none_skipped [] = refl
none_skipped (piece ∷ pieces) = ap (λ (l : List Rule). rule_of piece ∷ l) (none_skipped pieces)

catalogue_is : (value : List ℕ) → Passing (λ c. c ≡ catalogue_of 0 value) (catalogue_value value)
unfolding catalogue_value catalogue_of records_of record_count
catalogue_is value =
    let P = Passing (λ c. c ≡ catalogue_of 0 value) in
    let pieces = chunks rule_width (length value / rule_width) value in
    tested P (eqb (length value % rule_width) 0) (λ uneven. tt) λ whole.
    tested P (leb (length value) (rule_width * most_rules)) (λ many. tt) λ few.
    rules_are [] pieces (catalogue_of 0 value) (none_skipped pieces)

-- Field values: tested at the rules, then at the policy's list, then at its default.
module _ (rules value : List ℕ) (default : CodeOption (Bor (List ℕ))) where
  abbrev tests : Checked (List Rule × Policy)
  tests = policy_tested rules value (lent default)

  pub tested_at_rules : (why : Why) → Err why ≡ checking (catalogue_value rules) → Err why ≡ checking tests
  unfolding policy_tested checking
  tested_at_rules why e = rw (failed (catalogue_value rules) why e)

  module _ (right : Rules rules) where
    -- what `policy_checked` answers
    abbrev Listed : Result (Unit {0}) Why → Type 0
    Listed answer = answer ≡ checking (policy_value (min (length rules / rule_width) 1024) value)

    over : (answer : Result (Unit {0}) Why) → Listed answer → answer ≡ checking (policy_value (length right.catalogue) value)
    over answer e = rw right.counted (rw right.few at e)

    pub tested_at_policy : (why : Why) → Listed (Err why) → Err why ≡ checking tests
    unfolding policy_tested checking
    tested_at_policy why e = rw (right.read, failed (policy_value (length right.catalogue) value) why (over (Err why) e))

    pub tested_at_default : Listed (Ok tt) → (answer : Result (Unit {0}) Why) → answer ≡ checking (default_value (lent default)) → answer ≡ checking tests
    unfolding policy_tested
    tested_at_default listed answer e =
        rw (right.read, (passed (policy_value (length right.catalogue) value) (over (Ok tt) listed)).1)
        (e ∙ checking_last (default_value (lent default)) _)

  -- where all pass
  abbrev found : List Rule × Policy
  found = (catalogue_of 0 rules, under (cond (is_some default) Permit Deny) (numbers_of value))

  pub tests_passed : Ok tt ≡ checking tests → (tests ≡ good found) × Rules rules
  unfolding policy_tested checking
  tests_passed e = by_rules (catalogue_value rules) refl (catalogue_is rules) e
    where
      by_policy : (c : List Rule) (read : Checked (List ℕ)) → catalogue_value rules ≡ good c → policy_value (length c) value ≡ read
          → c ≡ catalogue_of 0 rules → Ok tt ≡ checking tests → (tests ≡ good found) × Rules rules
      by_policy c (good list) is listed same e =
          let there = rw (is, listed, policy_tested) at e ∙ sym (checking_last (default_value (lent default)) _) in
          let whole = policy_passed (length c) value (rw listed refl) in
          (rw (is, whole, default_passed default there, same), rules_passed rules (rw is refl))
      by_policy c (bad why) is listed same e = absurd (let turned = rw (is, listed, policy_tested) at e in cc)

      by_rules : (read : Checked (List Rule)) → catalogue_value rules ≡ read → Passing (λ c. c ≡ catalogue_of 0 rules) read
          → Ok tt ≡ checking tests → (tests ≡ good found) × Rules rules
      by_rules (good c) is same e = by_policy c (policy_value (length c) value) is refl same e
      by_rules (bad why) is same e = absurd (let turned = rw is at e in cc)

  -- turned away
  module _ (why : Why) (e : Err why ≡ checking tests) where
    none_decides : deciding_values rules value (lent default) ≡ bad why
    unfolding deciding_values
    none_decides = rw (failed tests why e)

    pub turned_values : (flow : Flow)
        → Err (record { why = why; at = 0 }) ≡ decided_at_zero (decided_values rules value (lent default) flow)
    unfolding decided_values decided_at_zero
    turned_values flow = rw none_decides

    pub flows_of_turned_values : (flows place : List ℕ)
        → left_by (Err (record { why = why; at = 0 })) place ≡ flows_at_zero (deciding_values rules value (lent default)) flows place
    unfolding flows_at_zero
    flows_of_turned_values flows place =
        turned_at_zero (λ decides. flows_decided decides flows place) (left_alone Err place) why none_decides

  -- or decided, by the default that the code takes
  module _ {has : Bool} {action : Action} (is-there : has ≡ is_some default) (is-default : action ≡ cond has Permit Deny) (e : Ok tt ≡ checking tests) where
    abbrev deciding : Flow → Decision
    deciding flow = decide (matching (catalogue_of 0 rules) flow) (under action (numbers_of value))

    this_decides : deciding_values rules value (lent default) ≡ good deciding
    unfolding deciding_values
    this_decides = rw ((tests_passed e).0, is-default, is-there)

    pub decided_values_lem : (flow : Flow) {d : Decision} → d ≡ deciding flow
        → Ok d ≡ decided_at_zero (decided_values rules value (lent default) flow)
    unfolding decided_values decided_at_zero
    decided_values_lem flow is = rw this_decides (ap Ok is)

    pub flows_of_values : (flows place : List ℕ) {left : Writing} → left ≡ flows_decided deciding flows place
        → left ≡ flows_at_zero (deciding_values rules value (lent default)) flows place
    unfolding flows_at_zero
    flows_of_values flows place is =
        for_passed (λ decides. flows_decided decides flows place) (left_alone Err place) this_decides is
