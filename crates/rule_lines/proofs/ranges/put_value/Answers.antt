-- `put_value` meets its contract: four bytes are an address. Assumes nothing.
use borrow.Author.Tests.{ne_eqb}
use Rattle.rule_lines.specs.Text.{value_text}
use Rattle.rule_lines.proofs.ranges.put_value.Goals as goal

pub returns-then-bytes : goal.returns-then-bytes
returns-then-bytes c = rw c.if-bytes.true c.put_address.ensures

pub returns : goal.returns
unfolding value_text
returns c = rw (ne_eqb c.args.bytes 4 c.if-bytes.false) c.put_number.ensures
