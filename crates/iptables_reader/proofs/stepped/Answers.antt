-- `stepped` meets its contract: outside the part by whether the line begins it, and inside as `stepped_inside` says. Assumes nothing.
use mathlib.Core.Path.{◌≡◌, ◌∙◌, ap}
use borrow.Author.Tests.{not-true, not-false}
use Rattle.iptables.specs.Listing.{is_filter}
use Rattle.iptables_reader.specs.Kept.{line_at}
use Rattle.iptables_reader.proofs.Stepping.{line_taken, stepped_outside}
use Rattle.iptables_reader.proofs.stepped.Goals as goal
use Rattle.iptables_reader.proofs.stepped.Goals.{After-is_filter}

begins : (c : After-is_filter)
    → let a = c.args in c.is_filter.result ≡ is_filter (line_at a.start a.listing.now)
begins c =
    let a = c.args in
    c.is_filter.ensures ∙ ap is_filter (line_taken a.listing.now a.start a.end c.requires.0)

pub returns-then-not-seen : goal.returns-then-not-seen
returns-then-not-seen c f so_far =
    let a = c.args in
    rw (c.going_on.ensures, begins (goal.at.returns-then-not-seen c).After-is_filter)
    (stepped_outside so_far (line_at a.start a.listing.now) (not-true a.seen.inside c.if-not-seen.true))

-- inside
pub stepped_inside-requires : goal.stepped_inside-requires
stepped_inside-requires c = (c.requires.0, c.requires.1, not-false c.args.seen.inside c.if-not-seen.false, c.requires.2)
