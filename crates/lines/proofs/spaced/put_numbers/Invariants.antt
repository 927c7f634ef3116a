use Rattle.lines.specs.Text.{spaced_all}
use Rattle.lines.proofs.Lines.{Lines, following}
use Rattle.lines.proofs.spaced.put_numbers.Given as goal

abbrev pub invariant-loop-n : goal.invariant-loop-n
invariant-loop-n l = Lines following 0 l.numbers (spaced_all l.numbers) l.initial.place l.at l.place l.next l.n-index
