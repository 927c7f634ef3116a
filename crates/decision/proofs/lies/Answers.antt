-- `lies` meets its contract: both bounds of the range are numbers of its width. Assumes nothing.
use Prim.Native.Nat.{◌+◌}
use mathlib.Core.Path.{◌∙◌, ap}
use Rattle.deployment.specs.Bytes.{number}
use Rattle.deployment.proofs.Records.{part_between}
use Rattle.decision.proofs.Ranges.{lies_below, lies_above}
use Rattle.decision.proofs.lies.Goals as goal

pub returns-then-number_of-n : goal.returns-then-number_of-n
returns-then-number_of-n g c =
    let a = c.args in
    lies_above a.rule.now a.at g.row.WIDTH a.n c.number_of.result (c.number_of.ensures ∙ ap number (part_between a.at g.row.WIDTH a.rule.now))
    c.if-number_of-n.true c.number_of-then-number_of-n.result
    (c.number_of-then-number_of-n.ensures ∙ ap number (part_between (a.at + g.row.WIDTH) g.row.WIDTH a.rule.now))

pub returns-else-number_of-n : goal.returns-else-number_of-n
returns-else-number_of-n g c =
    let a = c.args in
    lies_below a.rule.now a.at g.row.WIDTH a.n c.number_of.result (c.number_of.ensures ∙ ap number (part_between a.at g.row.WIDTH a.rule.now))
    c.if-number_of-n.false
