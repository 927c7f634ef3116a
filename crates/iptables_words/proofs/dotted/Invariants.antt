use Rattle.iptables_words.proofs.Addresses.{Reading}
use Rattle.iptables_words.proofs.dotted.Given as goal

abbrev pub invariant-loop : goal.invariant-loop
invariant-loop l = Reading l.word l.address l.counter l.start
