-- `ports_rise` meets its contract: each test is the definition's. Assumes nothing.
use mathlib.Core.Path.{refl}
use borrow.Author.Tests.{le-leb, lt-leb}
use Rattle.deployment.specs.Values.{rising}
use Rattle.iptables_rule.proofs.ports_rise.Goals as goal

pub returns-then-from : goal.returns-then-from
unfolding rising
returns-then-from c = rw (le-leb _ _ c.if-from.true) refl

pub returns-else-from : goal.returns-else-from
unfolding rising
returns-else-from c = rw (lt-leb _ _ c.if-from.false) refl
