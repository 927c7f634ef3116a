use mathlib.Core.Path.{◌≡◌}
use Rattle.values.proofs.Scripts.{read_from}
use Rattle.values.proofs.all_commands.Given as goal

abbrev pub invariant-loop-k : goal.invariant-loop-k
invariant-loop-k l = read_from 0 l.value ≡ read_from l.k l.value
