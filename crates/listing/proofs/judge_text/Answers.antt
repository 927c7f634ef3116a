-- `judge_text` meets its contract: what is put is the whole text. Assumes nothing.
use Rattle.listing.specs.Text.{judge_printed}
use Rattle.std.proofs.Common.{rules}
use Rattle.listing.proofs.judge_text.Goals as goal

pub returns : goal.returns
returns c = c.whole_text.ensures (judge_printed c.args.file.now) (λ before after next file called. search rules)
