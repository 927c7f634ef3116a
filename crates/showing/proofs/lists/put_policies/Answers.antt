-- `put_policies` meets its contract: each policy behind its word, one behind the other. Assumes nothing.
use Rattle.deployment.specs.Values.{numbers_of}
use Rattle.reader.specs.Answers.{value_at}
use Rattle.lines.specs.Text.{text}
use Rattle.rule_lines.proofs.Joined.{puts_joined}
use Rattle.showing.specs.Text.{list_text, policies_text}
use Rattle.showing.proofs.lists.put_policies.Goals as goal

pub returns : goal.returns
unfolding text policies_text
returns c =
    let args = c.args in
    puts_joined (text "initial") (list_text (numbers_of (value_at args.initial args.file.now))) (rw c.value.ensures at c.put_list-next.ensures)
    (rw c.value-2.ensures at c.put_list.ensures)
