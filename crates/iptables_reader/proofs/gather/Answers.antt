-- `gather` meets its contract. The loop's invariant: what is seen is what the lines before `start` have, and the listing is read as the lines from there
-- on are, behind that; the line with this number goes from `start` to `end`. The measure is how many bytes are left. Assumes nothing.
use native.Mathlib.Omega.{arith}
use mathlib.Core.Path.{◌≡◌, sym, ◌∙◌}
use lib.ListN.{length}
use Rattle.iptables_reader.proofs.Gathering.{no_line_seen, line_inside, line_turned, line_seen, cut_short, all_seen}
use Rattle.iptables_reader.proofs.gather.Goals as goal
use Rattle.iptables_reader.proofs.gather.Goals.{At-loop-end}

pub loop-end-init : goal.loop-end-init
loop-end-init c =
    let a = c.args in
    no_line_seen a.listing.now a.marks.now a.starts.now c.cut-end.result c.requires.0 c.requires.1 c.cut-end.ensures

-- one line more
pub loop-end-preserved : goal.loop-end-preserved
loop-end-preserved c =
    line_seen c.loop-end.invariant c.loop-end-test.true c.stepped.new.marks c.stepped.new.starts c.in-Ok.next c.in-Ok.ensures
    c.cut-end-in-loop-end.ensures

pub loop-end-smaller : goal.loop-end-smaller
loop-end-smaller c = omega (arith, c.loop-end-test.true, c.loop-end.invariant.ends)

-- 57, 58
pub returns-in-Err : goal.returns-in-Err
returns-in-Err c = line_turned c.loop-end.invariant c.loop-end-test.true c.stepped.new.marks c.stepped.new.starts c.in-Err.why c.in-Err.ensures

-- the listing ends inside the part
pub returns-then-seen : goal.returns-then-seen
returns-then-seen c = cut_short c.loop-end.invariant c.loop-end-test.false c.if-seen.true

-- all lines are read
pub returns : goal.returns
returns c = all_seen c.loop-end.invariant c.loop-end-test.false c.if-seen.false

pub stepped-requires : goal.stepped-requires
stepped-requires c =
    let inv = c.loop-end.invariant in
    (inv.ends, line_inside inv, (inv.found, inv.is))

-- the lists keep their lengths
marks_fit : (c : At-loop-end) → length c.loop-end.marks ≡ length c.args.marks.now
marks_fit c = c.loop-end.invariant.is.kept.marks_fit ∙ sym c.requires.0

starts_fit : (c : At-loop-end) → length c.loop-end.starts ≡ length c.args.starts.now
starts_fit c = c.loop-end.invariant.is.kept.starts_fit ∙ sym c.requires.1

pub shape_of-marks-then-seen : goal.shape_of-marks-then-seen
shape_of-marks-then-seen c = marks_fit (goal.at.shape_of-marks-then-seen c).At-loop-end

pub shape_of-starts-then-seen : goal.shape_of-starts-then-seen
shape_of-starts-then-seen c = starts_fit (goal.at.shape_of-starts-then-seen c).At-loop-end

pub shape_of-marks : goal.shape_of-marks
shape_of-marks c = marks_fit (goal.at.shape_of-marks c).At-loop-end

pub shape_of-starts : goal.shape_of-starts
shape_of-starts c = starts_fit (goal.at.shape_of-starts c).At-loop-end

-- the line's number and its end fit
pub overflow_add-number : goal.overflow_add-number
overflow_add-number c = record { fits = omega (arith, c.loop-end-test.true, c.loop-end.invariant.counted, c.loop-end.invariant.ends) }
