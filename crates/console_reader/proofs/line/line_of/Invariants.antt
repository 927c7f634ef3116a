use mathlib.Core.Path.{◌≡◌}
use lib.ListN.{drop}
use Rattle.policy.specs.Command.{codes_of}
use Rattle.console_text.specs.Reading.{any_read}
use Rattle.console_reader.proofs.Codes.{read_from}
use Rattle.console_reader.proofs.line.line_of.Given as goal

abbrev pub invariant-loop-code : goal.invariant-loop-code
invariant-loop-code l = any_read l.maker (codes_of l.kind) (drop l.at l.text) ≡ read_from l.maker l.kind (drop l.at l.text) l.code
