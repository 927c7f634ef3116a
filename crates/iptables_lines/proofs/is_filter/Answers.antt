-- `is_filter` meets its contract: the line's bytes are compared with those of `*filter`. Assumes nothing.
use mathlib.Core.Path.{◌∙◌}
use Rattle.iptables_words.proofs.Same.{same_is}
use Rattle.lines.specs.Text.{text}
use Rattle.iptables.specs.Listing.{is_filter}
use Rattle.iptables_lines.proofs.is_filter.Goals as goal

pub returns : goal.returns
unfolding is_filter text
returns c = c.eq.ensures ∙ rw c.as_slice.ensures (same_is c.args.line.now _)
