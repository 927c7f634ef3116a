-- `plan_text` meets its contract: what is put is the whole text. Assumes nothing.
use Rattle.listing.specs.Text.{plan_printed}
use Rattle.std.proofs.Common.{rules}
use Rattle.listing.proofs.plan_text.Goals as goal

pub returns : goal.returns
returns c = c.whole_text.ensures (plan_printed c.args.file.now) (λ before after next file called. search rules)
