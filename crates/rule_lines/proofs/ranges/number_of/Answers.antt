-- `number_of` meets its contract: the bytes at the place are a part of the rule. Assumes nothing.
use Rattle.std.proofs.Common.{◌≡◌, ap, ◌∙◌}
use Rattle.deployment.specs.Bytes.{number}
use Rattle.deployment.proofs.Records.{part_between}
use Rattle.rule_lines.proofs.ranges.number_of.Goals as goal

pub returns : goal.returns
returns c = c.number_of.ensures ∙ ap number (part_between c.args.start c.args.width c.args.rule.now)
