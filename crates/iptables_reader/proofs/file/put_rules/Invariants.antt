use Prim.Native.Nat.{◌*◌}
use Rattle.deployment.specs.FieldValues.{Stored}
use Rattle.iptables_reader.proofs.Filing.{fields_at}
use Rattle.iptables_reader.proofs.file.put_rules.Given as goal

abbrev pub invariant-loop-k : goal.invariant-loop-k
invariant-loop-k l = Stored l.initial.place 0 (fields_at l.listing l.starts l.k) l.place (l.k * 30)
