-- `range_given` meets its contract: what was found of the option says its range. Assumes nothing.
use mathlib.Core.Path.{◌∙◌, ap}
use Rattle.iptables.specs.Options.{range_given}
use Rattle.iptables_words.specs.Told.{range_told}
use Rattle.iptables_rule.proofs.Finding.{range_found_lem}
use Rattle.iptables_rule.proofs.range_given.Goals as goal

pub returns : goal.returns
unfolding range_given
returns c = c.ranged.ensures ∙ ap range_told (range_found_lem c.args.kind c.option.ensures)
