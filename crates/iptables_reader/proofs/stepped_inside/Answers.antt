-- `stepped_inside` meets its contract: what is told of the line says how it is read, and each kind of line changes what is seen as what was found.
-- Assumes nothing.
use mathlib.Core.Path.{◌≡◌}
use mathlib.Core.List.{[]}
use Rattle.std.specs.Prelude.{Ok}
use Rattle.std.proofs.lemmas.Result.{err_from_is_err_and}
use Rattle.iptables.specs.Listing.{first_only, line_read}
use Rattle.iptables_lines.specs.Told.{line_told}
use Rattle.iptables_lines.specs.declared.Line.TheVariants.{Rule}
use Rattle.iptables_reader.specs.Kept.{line_at, rule_at}
use Rattle.iptables_reader.proofs.Stepping.{
  told_of_line,
  told_line,
  told_record,
  told_recordable,
  stepped_open,
  stepped_close,
  stepped_over,
  stepped_turned,
  stepped_default,
  stepped_rule,
}
use Rattle.iptables_reader.proofs.stepped_inside.Goals as goal
use Rattle.iptables_reader.proofs.stepped_inside.Goals.{In-Rule}

-- the line opens the part again, closes it, or is passed over
pub returns-in-Opens : goal.returns-in-Opens
returns-in-Opens c f so_far =
    let a = c.args in
    rw c.going_on.ensures (stepped_open so_far (line_at a.start a.listing.now) c.requires.2
    (told_line a.listing.now a.start a.end c.requires.0 c.in-Opens.is c.in_ok-line_read.ensures))

pub returns-in-Closes : goal.returns-in-Closes
returns-in-Closes c f so_far =
    let a = c.args in
    rw c.going_on-in-Closes.ensures (stepped_close so_far (line_at a.start a.listing.now) c.requires.2
    (told_line a.listing.now a.start a.end c.requires.0 c.in-Closes.is c.in_ok-line_read.ensures))

pub returns-in-Passed : goal.returns-in-Passed
returns-in-Passed c f so_far =
    let a = c.args in
    rw c.going_on-in-Passed.ensures (stepped_over so_far (line_at a.start a.listing.now) c.requires.2
    (told_line a.listing.now a.start a.end c.requires.0 c.in-Passed.is c.in_ok-line_read.ensures))

-- one default more
pub returns-in-Default : goal.returns-in-Default
returns-in-Default c f so_far =
    let a = c.args in
    rw c.with_default.ensures (stepped_default so_far (line_at a.start a.listing.now) c.requires.2 c.in-Default.action
    (told_line a.listing.now a.start a.end c.requires.0 c.in-Default.is c.in_ok-line_read.ensures))

-- one rule more
is_rule : (c : In-Rule) → let a = c.args in Ok (Rule c.in-Rule.bytes) ≡ line_told (line_read (line_at a.start a.listing.now))
is_rule c = let a = c.args in told_line a.listing.now a.start a.end c.requires.0 c.in-Rule.is c.in_ok-line_read.ensures

pub keep-requires : goal.keep-requires
unfolding rule_at
keep-requires c =
    let (f, so_far) = c.requires.3 in
    let is = is_rule (goal.at.keep-requires c).In-Rule in
    let line = line_at c.args.start c.args.listing.now in
    ((first_only [] f.rules, so_far.kept), told_record (line_read line) _ is, told_recordable line _ is)

pub returns-in-Rule : goal.returns-in-Rule
unfolding rule_at
returns-in-Rule c f so_far =
    stepped_rule so_far (line_at c.args.start c.args.listing.now) c.requires.2 (is_rule (goal.at.returns-in-Rule c).In-Rule)
    (c.keep.ensures (first_only [] f.rules) so_far.kept)

-- the line is turned away
pub returns-in_err-line_read : goal.returns-in_err-line_read
returns-in_err-line_read c f so_far =
    let a = c.args in
    let away = err_from_is_err_and c.from_residual.result c.from_residual.ensures.1 in
    rw (away.1, away.2) (stepped_turned so_far (line_at a.start a.listing.now) c.requires.2 _
    (told_of_line a.listing.now a.start a.end c.requires.0 c.in_err-line_read.ensures))
