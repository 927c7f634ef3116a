-- `options_known` meets its contract. The loop's invariant: the options from `at` on are known exactly when those from `end` on are.
-- Assumes nothing.
use Prim.Native.Nat.{ℕ, ◌+◌, ◌≤◌}
use native.Mathlib.Omega.{arith}
use mathlib.Core.Path.{refl, sym, ◌∙◌}
use mathlib.Core.List.{List}
use lib.ListN.{length}
use Rattle.deployment.specs.Bytes.{part}
use Rattle.iptables_rule.proofs.Turns.{none_known, name_inside, left_unknown, word_inside, next_known, unknown}
use borrow.Author.Rules.{rules}
use Rattle.iptables_rule.proofs.options_known.Goals as goal
use Rattle.iptables_rule.proofs.options_known.Goals.{After-cut-end, After-cut-middle, At-loop-end, then-middle-line-via-then-middle-line, then-middle-line-via-else-middle-line+then-not-is_option}

abbrev line : At-loop-end → List ℕ
line c = c.args.line.now

name_ends : (c : After-cut-middle)
    → (c.loop-end.end + 1 ≤ c.cut-middle.result) × (c.cut-middle.result ≤ length (line (goal.at.After-cut-middle c).At-loop-end))
name_ends c = name_inside (line (goal.at.After-cut-middle c).At-loop-end) c.loop-end.end c.cut-middle.result c.loop-end-test.true c.cut-middle.ensures

word_ends : (c : After-cut-end)
    → let middle = c.cut-middle.result in
    (middle + 1 ≤ c.cut-end.result) × (c.cut-end.result ≤ length (line (goal.at.After-cut-end c).At-loop-end))
word_ends c =
    word_inside (line (goal.at.After-cut-end c).At-loop-end) c.loop-end.end c.cut-middle.result c.loop-end-test.true c.cut-middle.ensures c.cut-end.result
    c.if-middle-line.false c.cut-end.ensures

pub loop-end-init : goal.loop-end-init
loop-end-init c = refl

pub loop-end-preserved : goal.loop-end-preserved
unfolding part
loop-end-preserved c =
    c.loop-end.invariant
    ∙ next_known (line (goal.at.loop-end-preserved c).At-loop-end) c.loop-end.end c.cut-middle.result c.loop-end-test.true c.cut-middle.ensures c.cut-end.result
    c.if-middle-line.false c.cut-end.ensures (sym c.is_option.ensures ∙ c.if-not-is_option.false)

pub returns-then-middle-line : goal.returns-then-middle-line
unfolding part
returns-then-middle-line c =
    let inside = c.loop-end-test.true in
    sym (c.loop-end.invariant ∙ elim c.then-middle-line.branch [
      | then-middle-line-via-then-middle-line w ↦
          left_unknown (line (goal.at.returns-then-middle-line c).At-loop-end) c.loop-end.end c.cut-middle.result inside c.cut-middle.ensures w.if-middle-line.true
      | then-middle-line-via-else-middle-line+then-not-is_option w ↦
          unknown (line (goal.at.returns-then-middle-line c).At-loop-end) c.loop-end.end c.cut-middle.result inside c.cut-middle.ensures w.if-middle-line.false
          (sym w.is_option.ensures ∙ w.if-not-is_option.true)
    ])

pub returns : goal.returns
returns c = sym (c.loop-end.invariant ∙ none_known (line (goal.at.returns c).At-loop-end) c.loop-end.end c.loop-end-test.false)

pub slice_bounds-is_option-count : goal.slice_bounds-is_option-count
slice_bounds-is_option-count c = (name_ends (goal.at.slice_bounds-is_option-count c).After-cut-middle).0

pub slice_bounds-is_option-start : goal.slice_bounds-is_option-start
slice_bounds-is_option-start c = let bounds = name_ends (goal.at.slice_bounds-is_option-start c).After-cut-middle in search rules

pub slice_bounds-is_option-end : goal.slice_bounds-is_option-end
slice_bounds-is_option-end c = let bounds = name_ends (goal.at.slice_bounds-is_option-end c).After-cut-middle in search rules

pub overflow_add-middle : goal.overflow_add-middle
overflow_add-middle c = let bounds = name_ends (goal.at.overflow_add-middle c).After-cut-middle in omega (arith, c.if-middle-line.false)

pub loop-end-smaller : goal.loop-end-smaller
loop-end-smaller c = let name = name_ends (goal.at.loop-end-smaller c).After-cut-middle in let word = word_ends c in omega arith
