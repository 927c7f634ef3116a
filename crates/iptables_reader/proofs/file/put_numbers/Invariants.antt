use Prim.Native.Nat.{◌+◌, ◌*◌}
use Rattle.deployment.specs.Values.{numbers_bytes}
use Rattle.deployment.specs.FieldValues.{Stored}
use Rattle.iptables.specs.Listing.{numbers_from}
use Rattle.iptables_reader.proofs.file.put_numbers.Given as goal

abbrev pub invariant-loop-k : goal.invariant-loop-k
invariant-loop-k l =
    Stored l.initial.place (l.at + 3) (numbers_bytes (numbers_from 0 l.k)) l.place (l.at + 3 + 2 * l.k)
