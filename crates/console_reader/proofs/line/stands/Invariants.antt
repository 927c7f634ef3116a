use Prim.Native.Nat.{◌+◌, ◌≤◌}
use mathlib.Core.Path.{◌≡◌}
use lib.ListN.{length, drop}
use Rattle.console_text.specs.Reading.{starts}
use Rattle.console_reader.proofs.line.stands.Given as goal

abbrev pub invariant-loop-k : goal.invariant-loop-k
invariant-loop-k l = (l.at + length l.word ≤ length l.text) × (starts l.word (drop l.at l.text) ≡ starts (drop l.k l.word) (drop (l.at + l.k) l.text))
