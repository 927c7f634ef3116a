-- `hit` meets its contract: a record of the catalogue is matched from its own bytes; where there is none, nothing is. Assumes nothing.
use Prim.Native.Nat.{ℕ}
use mathlib.Core.Path.{sym, ◌∙◌, ap}
use mathlib.Core.List.{List}
use lib.ListN.{length}
use Rattle.policy.specs.Rule.{matches}
use Rattle.deployment.specs.Values.{rule_of}
use Rattle.deployment.proofs.Records.{record_there, record_inside, record_outside, hits_record, hits_outside}
use Rattle.decision.proofs.hit.Goals as goal

pub returns : goal.returns
returns c =
    let a = c.args in
    let inside = record_inside a.skip a.rules.now a.n (sym (ap length c.record_at-rule.ensures) ∙ c.if-rule-ne-RULE_BYTES.false) in
    c.record_matches.ensures
    ∙ ap (λ (rule : List ℕ). matches (rule_of rule) a.flow) (c.record_at-rule.ensures ∙ record_there a.skip a.rules.now a.n inside)
    ∙ sym (hits_record a.skip a.rules.now a.flow a.n inside)

pub returns-then-rule-ne-RULE_BYTES : goal.returns-then-rule-ne-RULE_BYTES
returns-then-rule-ne-RULE_BYTES c =
    let a = c.args in
    sym (hits_outside a.skip a.rules.now a.flow a.n
    (record_outside a.skip a.rules.now a.n (λ whole. c.if-rule-ne-RULE_BYTES.true (ap length c.record_at-rule.ensures ∙ whole))))
