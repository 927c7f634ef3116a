-- `put_ends` meets its contract: each end behind its label, and the end of the line, one behind the other. Assumes nothing.
use Rattle.deployment.specs.Values.{rule_of}
use Rattle.lines.specs.Text.{text}
use Rattle.rule_lines.specs.Text.{end_text, ends_text}
use Rattle.rule_lines.proofs.Joined.{puts_joined}
use Rattle.rule_lines.proofs.rules.put_ends.Goals as goal

pub returns : goal.returns
unfolding text ends_text rule_of
returns c =
    let rule = rule_of c.args.rule.now in
    puts_joined (text " source ") (end_text rule.source rule.source_port) c.put_end-next.ensures
    (puts_joined (text " destination ") (end_text rule.destination rule.destination_port) c.put_end-next-2.ensures
    c.put_sign.ensures)
