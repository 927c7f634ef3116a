-- `with_tag` meets its contract: its test is that of the definition. Assumes nothing.
use borrow.Author.Tests.{eq-eqb, ne_eqb}
use Rattle.catalogue.specs.RuleMarks.{with_tag}
use Rattle.catalogue.proofs.rule.with_tag.Goals as goal

pub returns-then-cell-eq0 : goal.returns-then-cell-eq0
unfolding with_tag
returns-then-cell-eq0 c = rw (eq-eqb c.args.cell 0 c.if-cell-eq0.true)

pub returns : goal.returns
unfolding with_tag
returns c = rw (ne_eqb c.args.cell 0 c.if-cell-eq0.false)
