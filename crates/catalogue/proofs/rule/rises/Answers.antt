-- `rises` meets its contract: it compares the two numbers that the range is read as. Assumes nothing.
use Prim.Native.Nat.{◌+◌}
use mathlib.Core.Path.{◌∙◌, ap, ap₂}
use lib.Dec.{leb}
use Rattle.deployment.specs.Bytes.{number}
use Rattle.deployment.specs.Values.{range_at, rising}
use Rattle.deployment.proofs.Records.{part_between}
use Rattle.catalogue.proofs.rule.rises.Goals as goal

pub returns : goal.returns
unfolding rising range_at
returns g c =
    let rule = c.args.rule.now in
    let at = c.args.at in
    ap₂ leb (c.number_of.ensures ∙ ap number (part_between at g.row.WIDTH rule))
    (c.number_of-2.ensures ∙ ap number (part_between (at + g.row.WIDTH) g.row.WIDTH rule))
