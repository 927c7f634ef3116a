-- `put_rule` meets its contract: the number, the action, the protocols behind their label and both ends, one behind the other. Assumes nothing.
use Rattle.deployment.specs.Values.{rule_of}
use Rattle.lines.specs.Text.{text}
use Rattle.lines.proofs.Pieces.{puts_more}
use Rattle.rule_lines.specs.Text.{range_text, rule_text}
use Rattle.rule_lines.proofs.Joined.{puts_joined}
use Rattle.rule_lines.proofs.rules.put_rule.Goals as goal

pub returns : goal.returns
unfolding text rule_text rule_of
returns c =
    let rule = rule_of c.args.rule.now in
    puts_more c.put_number-next.ensures
    (puts_more c.put_action-next.ensures
    (puts_joined (text " protocol ") (range_text 1 rule.protocol) c.put_labelled-next.ensures c.put_ends.ensures))
