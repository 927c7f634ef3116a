-- `one_too_many` meets its contract. Assumes nothing.
use borrow.Author.Tests.{ne_eqb}
use Rattle.reader.proofs.file.one_too_many.Goals as goal

pub returns-then-tag-eq-RULE_TAG : goal.returns-then-tag-eq-RULE_TAG
returns-then-tag-eq-RULE_TAG c = rw c.if-tag-eq-RULE_TAG.true

pub returns-else-tag-eq-RULE_TAG : goal.returns-else-tag-eq-RULE_TAG
returns-else-tag-eq-RULE_TAG c = rw (ne_eqb c.args.tag 1 c.if-tag-eq-RULE_TAG.false)
