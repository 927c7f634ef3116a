-- `is_number` meets its contract: a number is held, or the word is none. Assumes nothing.
use mathlib.Core.Path.{◌∙◌, ap}
use Rattle.std.specs.Prelude.{is_some}
use Rattle.iptables_lines.proofs.Names.{held_number}
use Rattle.iptables_lines.proofs.is_number.Goals as goal

pub returns : goal.returns
returns c = c.is_some.ensures ∙ ap is_some c.number_of.ensures ∙ held_number c.args.word.now
