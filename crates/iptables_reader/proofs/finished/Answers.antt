-- `finished` meets its contract: each test of what is seen is the test of what was found. Assumes nothing.
use Rattle.iptables_reader.proofs.Finishing.{finished_read, finished_many, finished_long, finished_good, good_checked}
use Rattle.iptables_reader.proofs.finished.Goals as goal

-- 57
pub returns-then-seen-ne1 : goal.returns-then-seen-ne1
returns-then-seen-ne1 c listing marks starts f so_far = finished_read so_far c.if-seen-ne1.true

-- 7
pub returns-then-seen-gt-MOST_RULES : goal.returns-then-seen-gt-MOST_RULES
returns-then-seen-gt-MOST_RULES c listing marks starts f so_far = finished_many so_far c.if-seen-ne1.false c.if-seen-gt-MOST_RULES.true

-- 4
pub returns-then-seen-gt-MOST_LISTED : goal.returns-then-seen-gt-MOST_LISTED
returns-then-seen-gt-MOST_LISTED c listing marks starts f so_far = finished_long so_far c.if-seen-ne1.false c.if-seen-gt-MOST_RULES.false c.if-seen-gt-MOST_LISTED.true

-- none
pub returns : goal.returns
returns c listing marks starts f so_far = good_checked (finished_good so_far c.if-seen-ne1.false c.if-seen-gt-MOST_RULES.false c.if-seen-gt-MOST_LISTED.false)
