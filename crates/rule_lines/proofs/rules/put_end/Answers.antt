-- `put_end` meets its contract: the label with the addresses, then the word with the ports. Assumes nothing.
use Prim.Native.Nat.{◌+◌}
use mathlib.Core.List.{◌++◌}
use Rattle.lines.specs.Text.{text}
use Rattle.deployment.specs.Values.{range_at}
use Rattle.rule_lines.specs.Text.{range_text, end_text}
use Rattle.rule_lines.proofs.Joined.{puts_joined}
use Rattle.rule_lines.proofs.rules.put_end.Goals as goal

pub returns : goal.returns
unfolding text end_text
returns c =
    let args = c.args in
    let rule = args.rule.now in
    puts_joined args.label.now (range_text 4 (range_at args.start 4 rule)) {rest = text " port " ++ range_text 2 (range_at (args.start + 8) 2 rule)}
    c.put_labelled-next.ensures c.put_labelled.ensures
