-- `put_rules` meets its contract. The loop's invariant: the lines of the first k rules stand from the start on, and with those that are left they are
-- all lines. Assumes nothing.
use Prim.Native.Nat.{◌+◌, ◌*◌, ◌-◌, ◌≤◌}
use native.Mathlib.Nat.{add-zero}
use native.Mathlib.Omega.{arith}
use mathlib.Core.Path.{refl}
use lib.ListN.{length, take, drop}
use Rattle.deployment.specs.Values.{rule_of}
use Rattle.catalogue.proofs.Rules.{first_count, first_fits}
use Rattle.lines.proofs.Lines.{no_lines, one_line, all_lines}
use Rattle.rule_lines.specs.Text.{rule_text, rules_text}
use Rattle.rule_lines.proofs.RuleLines.{next_rule}
use Rattle.rule_lines.proofs.rules.put_rules.Goals as goal
use Rattle.rule_lines.proofs.rules.put_rules.Goals.{In-loop-k}
use Rattle.rule_lines.proofs.rules.put_rules.Invariants.{rules}

-- in a turn the k-th record is there
fits : (c : In-loop-k) → c.loop-k.k * 30 + 3 + 27 ≤ length c.args.file.now
fits c =
    first_fits 3 c.args.count c.args.file.now c.requires c.loop-k.k c.loop-k-test.true

pub loop-k-init : goal.loop-k-init
loop-k-init c =
    let args = c.args in no_lines rules_text 0 (rules args.file.now args.count) args.place.now args.at

pub overflow_mul-start : goal.overflow_mul-start
overflow_mul-start c = omega (arith, fits c)

pub overflow_add-start : goal.overflow_add-start
overflow_add-start c = omega (arith, fits c)

pub overflow_add-start-in-loop-k : goal.overflow_add-start-in-loop-k
overflow_add-start-in-loop-k c = omega (arith, fits (goal.at.overflow_add-start-in-loop-k c).In-loop-k)

pub slice_bounds-put_rule-end : goal.slice_bounds-put_rule-end
slice_bounds-put_rule-end c = omega (arith, fits (goal.at.slice_bounds-put_rule-end c).In-loop-k)

pub loop-k-preserved : goal.loop-k-preserved
unfolding rules_text
loop-k-preserved c =
    let file = c.args.file.now in
    let count = c.args.count in
    let k = c.loop-k.k in
    let start-at = k * 30 + 3 in
    let rule = rule_of (take (start-at + 27 - start-at) (drop start-at file)) in
    one_line rules_text 0 (rules file count) k c.loop-k.invariant rule (rule_text k rule) (next_rule count file c.requires k c.loop-k-test.true)
    (rw add-zero) c.put_rule-next.ensures

pub returns : goal.returns
unfolding rules_text
returns c =
    all_lines rules_text 0 (rules c.args.file.now c.args.count) c.loop-k.k c.loop-k.invariant
    (omega (arith, first_count 3 c.args.count c.args.file.now c.requires, c.loop-k-test.false)) refl
