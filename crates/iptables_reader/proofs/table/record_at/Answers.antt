-- `record_at` meets its contract: the line that starts there goes up to the first line feed; where the listing has ended there is no rule. Assumes nothing.
use native.Mathlib.Omega.{arith}
use mathlib.Core.Path.{sym, ◌∙◌, ap}
use Rattle.deployment.specs.Values.{rule_bytes}
use Rattle.iptables.specs.Words.{line_feed}
use Rattle.iptables.specs.Listing.{line_read}
use Rattle.iptables_words.proofs.Pieces.{piece_ends}
use Rattle.iptables_reader.specs.Kept.{line_at, rule_at}
use Rattle.iptables_reader.proofs.Keeping.{no_rule_there}
use Rattle.iptables_reader.proofs.Stepping.{told_of_line, told_line, told_record, no_rule_told, turned_no_rule}
use Rattle.iptables_reader.proofs.table.record_at.Goals as goal

pub returns-then-listing-start : goal.returns-then-listing-start
returns-then-listing-start c =
    let a = c.args in
    rw (no_rule_there a.listing.now a.start (omega (arith, c.if-listing-start.true))) c.no_record.ensures

pub returns-in-Rule : goal.returns-in-Rule
unfolding rule_at
returns-in-Rule c =
    let a = c.args in
    told_record (line_read (line_at a.start a.listing.now)) _
    (told_line a.listing.now a.start c.cut-end.result c.cut-end.ensures c.in-Rule.is c.in-Ok.ensures)

pub returns-in_default-line : goal.returns-in_default-line
unfolding rule_at
returns-in_default-line c =
    let a = c.args in
    let none = no_rule_told (line_read (line_at a.start a.listing.now)) c.in_default-line.not-Rule
    (told_of_line a.listing.now a.start c.cut-end.result c.cut-end.ensures c.in-Ok.ensures) in
    rw c.no_record-in_default-line.ensures (ap rule_bytes none)

pub returns-in_default : goal.returns-in_default
unfolding rule_at
returns-in_default c =
    let a = c.args in
    let none = turned_no_rule (line_read (line_at a.start a.listing.now)) _
    (told_of_line a.listing.now a.start c.cut-end.result c.cut-end.ensures (sym c.in_default.is ∙ c.line_read.ensures)) in
    rw c.no_record-in_default.ensures (ap rule_bytes none)

pub slice_bounds-line_read-end : goal.slice_bounds-line_read-end
slice_bounds-line_read-end c =
    let a = c.args in
    (piece_ends line_feed a.listing.now a.start c.cut-end.result (omega (arith, c.if-listing-start.false)) c.cut-end.ensures).1
