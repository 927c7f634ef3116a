use Prim.Native.Nat.{◌-◌}
use mathlib.Core.Path.{◌≡◌}
use Rattle.iptables_reader.proofs.Keeping.{known_from}
use Rattle.iptables_reader.proofs.table.is_kept.Given as goal

abbrev pub invariant-loop-k : goal.invariant-loop-k
invariant-loop-k l = known_from l.listing l.starts l.bytes l.count 0 ≡ known_from l.listing l.starts l.bytes l.count l.k
