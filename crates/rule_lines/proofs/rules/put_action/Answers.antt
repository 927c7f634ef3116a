-- `put_action` meets its contract: the action is the rule's first byte. Assumes nothing.
use native.Mathlib.Omega.{arith}
use borrow.Author.Tests.{ne_eqb}
use Rattle.deployment.specs.Values.{action_of, rule_of}
use Rattle.deployment.proofs.Records.{first_byte}
use Rattle.lines.specs.Text.{text}
use Rattle.rule_lines.specs.Text.{action_text}
use Rattle.rule_lines.proofs.rules.put_action.Goals as goal

pub returns-then-rule-eq-PERMIT : goal.returns-then-rule-eq-PERMIT
unfolding text action_text rule_of action_of
returns-then-rule-eq-PERMIT c = rw (first_byte c.args.rule.now (omega (arith, c.requires)), c.if-rule-eq-PERMIT.true) c.put_word.ensures

pub returns : goal.returns
unfolding text action_text rule_of action_of
returns c = rw (first_byte c.args.rule.now (omega (arith, c.requires)), ne_eqb _ 1 c.if-rule-eq-PERMIT.false) c.put_word-2.ensures
