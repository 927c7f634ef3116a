-- `action` meets its contract: a record of the catalogue has its action in its first byte; where there is none, nothing is permitted.
-- Assumes nothing.
use Prim.Native.Nat.{ℕ, ◌<◌}
use native.Mathlib.Omega.{arith}
use mathlib.Core.Path.{◌≡◌, sym, ◌∙◌, ap}
use mathlib.Core.List.{List}
use borrow.Author.Tests.{ne_eqb}
use lib.ListN.{length, get_or}
use Rattle.policy.specs.Rule.{says}
use Rattle.deployment.specs.Values.{action_of}
use Rattle.deployment.specs.Catalogue.{record_count, catalogue_of}
use Rattle.deployment.proofs.Records.{record_there, record_inside, record_outside, says_byte, says_outside}
use Rattle.decision.proofs.action.Goals as goal
use Rattle.decision.proofs.action.Goals.{Else-rule-ne-RULE_BYTES}

-- past the test: the record is there, and its first byte says the action
inside : (c : Else-rule-ne-RULE_BYTES) → let a = c.args in a.n < record_count a.skip a.rules.now
inside c =
    let a = c.args in
    record_inside a.skip a.rules.now a.n (sym (ap length c.record_at-rule.ensures) ∙ c.if-rule-ne-RULE_BYTES.false)

by_byte : (c : Else-rule-ne-RULE_BYTES)
    → let a = c.args in
    says (catalogue_of a.skip a.rules.now) a.n ≡ action_of (get_or c.record_at-rule.result.now 0 0)
by_byte c =
    let a = c.args in
    says_byte a.skip a.rules.now a.n (inside c)
    ∙ ap (λ (rule : List ℕ). action_of (get_or rule 0 0)) (sym (c.record_at-rule.ensures ∙ record_there a.skip a.rules.now a.n (inside c)))

pub returns-then-rule-eq1 : goal.returns-then-rule-eq1
unfolding action_of
returns-then-rule-eq1 c = sym (by_byte (goal.at.returns-then-rule-eq1 c).Else-rule-ne-RULE_BYTES ∙ rw c.if-rule-eq1.true)

pub returns-else-rule-eq1 : goal.returns-else-rule-eq1
unfolding action_of
returns-else-rule-eq1 c = sym (by_byte (goal.at.returns-else-rule-eq1 c).Else-rule-ne-RULE_BYTES ∙ rw (ne_eqb _ 1 c.if-rule-eq1.false))

pub returns-then-rule-ne-RULE_BYTES : goal.returns-then-rule-ne-RULE_BYTES
returns-then-rule-ne-RULE_BYTES c =
    let a = c.args in
    sym (says_outside a.skip a.rules.now a.n
    (record_outside a.skip a.rules.now a.n (λ whole. c.if-rule-ne-RULE_BYTES.true (ap length c.record_at-rule.ensures ∙ whole))))

pub bounds-rule-0 : goal.bounds-rule-0
bounds-rule-0 c = omega (arith, c.if-rule-ne-RULE_BYTES.false)
