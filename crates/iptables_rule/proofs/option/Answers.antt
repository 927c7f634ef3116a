-- `option` meets its contract. The loop's invariant: the options up to `end` are in front, and what was found is found among them. Assumes nothing.
use Prim.Native.Nat.{ℕ, ◌+◌, ◌≤◌}
use native.Mathlib.Omega.{arith}
use mathlib.Core.List.{List}
use lib.ListN.{length}
use Rattle.deployment.specs.Bytes.{part}
use Rattle.iptables_words.proofs.Same.{same_is}
use Rattle.iptables_rule.proofs.Turns.{name_inside, word_inside}
use Rattle.iptables_rule.proofs.Looking.{not_looked, place_fits, looked_to_end, looked_to_last, looked_further}
use borrow.Author.Rules.{rules}
use Rattle.iptables_rule.proofs.option.Goals as goal
use Rattle.iptables_rule.proofs.option.Goals.{After-cut-middle, After-cut-stop, At-loop-end}

abbrev line : At-loop-end → List ℕ
line c = c.args.line.now

name_ends : (c : After-cut-middle)
    → (c.loop-end.end + 1 ≤ c.cut-middle.result) × (c.cut-middle.result ≤ length (line (goal.at.After-cut-middle c).At-loop-end))
name_ends c = name_inside (line (goal.at.After-cut-middle c).At-loop-end) c.loop-end.end c.cut-middle.result c.loop-end-test.true c.cut-middle.ensures

word_ends : (c : After-cut-stop)
    → (c.cut-middle.result + 1 ≤ c.cut-stop.result) × (c.cut-stop.result ≤ length (line (goal.at.After-cut-stop c).At-loop-end))
word_ends c =
    word_inside (line (goal.at.After-cut-stop c).At-loop-end) c.loop-end.end c.cut-middle.result c.loop-end-test.true c.cut-middle.ensures c.cut-stop.result
    c.if-middle-line.false c.cut-stop.ensures

pub loop-end-init : goal.loop-end-init
loop-end-init c = let args = c.args in not_looked args.line.now args.at args.name.now

pub loop-end-preserved : goal.loop-end-preserved
unfolding part
loop-end-preserved c =
    let args = c.args in
    rw (c.with_pair-found.ensures, c.eq-is.ensures, same_is)
    (looked_further (line (goal.at.loop-end-preserved c).At-loop-end) args.at args.name.now c.loop-end.found c.loop-end.end c.loop-end.invariant c.cut-middle.result
    c.loop-end-test.true c.cut-middle.ensures c.cut-stop.result c.if-middle-line.false c.cut-stop.ensures)

-- one word is left over
pub returns-then-middle-line : goal.returns-then-middle-line
returns-then-middle-line c =
    let args = c.args in
    looked_to_last (line (goal.at.returns-then-middle-line c).At-loop-end) args.at args.name.now c.loop-end.found c.loop-end.end c.loop-end.invariant c.cut-middle.result
    c.loop-end-test.true c.cut-middle.ensures c.if-middle-line.true

-- none is left
pub returns : goal.returns
returns c =
    let args = c.args in
    looked_to_end (line (goal.at.returns c).At-loop-end) args.at args.name.now c.loop-end.found c.loop-end.end c.loop-end.invariant c.loop-end-test.false

pub overflow_add-middle : goal.overflow_add-middle
overflow_add-middle c = let bounds = name_ends (goal.at.overflow_add-middle c).After-cut-middle in omega (arith, c.if-middle-line.false)

pub slice_bounds-eq-end : goal.slice_bounds-eq-end
slice_bounds-eq-end c = let bounds = name_ends (goal.at.slice_bounds-eq-end c).After-cut-middle in search rules

pub overflow_add-middle-in-loop-end : goal.overflow_add-middle-in-loop-end
overflow_add-middle-in-loop-end c =
    let bounds = name_ends (goal.at.overflow_add-middle-in-loop-end c).After-cut-middle in
    omega (arith, c.if-middle-line.false)

-- fewer options stand in front than bytes
pub with_pair-found-requires : goal.with_pair-found-requires
with_pair-found-requires c =
    let args = c.args in
    let few = place_fits (line (goal.at.with_pair-found-requires c).At-loop-end) args.at args.name.now c.loop-end.found c.loop-end.end c.loop-end.invariant in
    omega arith

pub loop-end-smaller : goal.loop-end-smaller
loop-end-smaller c =
    let name = name_ends (goal.at.loop-end-smaller c).After-cut-middle in
    let word = word_ends (goal.at.loop-end-smaller c).After-cut-stop in
    omega arith
