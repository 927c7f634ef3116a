-- `show_text` meets its contract: what is put is the whole text. Assumes nothing.
use Rattle.showing.specs.Text.{show_printed}
use Rattle.std.proofs.Common.{rules}
use Rattle.showing.proofs.show_text.Goals as goal

pub returns : goal.returns
returns c = c.whole_text.ensures (show_printed c.args.file.now) (λ before after next file called. search rules)
