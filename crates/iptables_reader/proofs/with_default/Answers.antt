-- `with_default` meets its contract: by the action, then by whether it is the first default. Assumes nothing.
use mathlib.Core.Path.{◌≡◌, sym}
use borrow.Author.Tests.{eq-eqb, ne_eqb}
use Rattle.iptables_reader.specs.Gathering.{permitted, with_default}
use Rattle.iptables_reader.proofs.with_default.Goals as goal
use Rattle.iptables_reader.proofs.with_default.Goals.{Joined-action, in-Permit, in-Deny}

-- the action's case
permits : (c : Joined-action) → permitted c.args.action ≡ c.match-action.permits
unfolding permitted
permits c =
    elim c.match-action.branch [ in-Permit w ↦ rw w.in-Permit.is (sym w.permits-is) | in-Deny w ↦ rw w.in-Deny.is (sym w.permits-is) ]

-- the first default, and a later one
pub returns-then-seen-eq0 : goal.returns-then-seen-eq0
unfolding with_default
returns-then-seen-eq0 c = rw (permits (goal.at.returns-then-seen-eq0 c).Joined-action, eq-eqb c.args.seen.defaults 0 c.if-seen-eq0.true)

pub returns-else-seen-eq0 : goal.returns-else-seen-eq0
unfolding with_default
returns-else-seen-eq0 c = rw (permits (goal.at.returns-else-seen-eq0 c).Joined-action, ne_eqb c.args.seen.defaults 0 c.if-seen-eq0.false)
