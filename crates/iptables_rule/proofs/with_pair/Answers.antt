-- `with_pair` meets its contract: branch by branch, as the definition goes. Assumes nothing.
use borrow.Author.Tests.{eq-eqb, ne_eqb}
use mathlib.Core.Path.{refl}
use Rattle.iptables_rule.specs.Found.{with_pair}
use Rattle.iptables_rule.proofs.with_pair.Goals as goal

pub returns-then-is : goal.returns-then-is
unfolding with_pair
returns-then-is c = rw (eq-eqb _ _ c.if-found-eq0.true, c.if-is.true) refl

pub returns-then-found-eq0 : goal.returns-then-found-eq0
unfolding with_pair
returns-then-found-eq0 c = rw (eq-eqb _ _ c.if-found-eq0.true, c.if-is.false) refl

pub returns-then-is-2 : goal.returns-then-is-2
unfolding with_pair
returns-then-is-2 c = rw (ne_eqb _ _ c.if-found-eq0.false, c.if-is-2.true) refl

pub returns : goal.returns
unfolding with_pair
returns c = rw (ne_eqb _ _ c.if-found-eq0.false, c.if-is-2.false) refl
