-- `may_hold` meets its contract: its two tests are those of the definition. Assumes nothing.
use borrow.Author.Tests.{eq-eqb, ne_eqb}
use Rattle.catalogue.specs.RuleMarks.{may_hold}
use Rattle.catalogue.proofs.rule.may_hold.Goals as goal

pub returns-then-cell-tag : goal.returns-then-cell-tag
unfolding may_hold
returns-then-cell-tag c = rw (eq-eqb c.args.cell c.args.tag c.if-cell-tag.true)

pub returns-else-cell-tag : goal.returns-else-cell-tag
unfolding may_hold
returns-else-cell-tag c = rw (ne_eqb c.args.cell c.args.tag c.if-cell-tag.false)
