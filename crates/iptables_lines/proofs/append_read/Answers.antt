-- `append_read` meets its contract: no word is behind the first, or it is `FORWARD`, or another chain's name or none. Assumes nothing.
use Prim.Native.Nat.{ℕ}
use mathlib.Core.Path.{◌∙◌, ap}
use mathlib.Core.List.{List}
use Rattle.deployment.specs.Bytes.{part}
use Rattle.lines.specs.Text.{text}
use Rattle.iptables_rule.proofs.Turns.{name_inside}
use Rattle.iptables_words.proofs.Same.{tested_as}
use Rattle.iptables_lines.specs.Told.{line_told}
use Rattle.iptables_lines.proofs.Behind.{no_chain, is_forward, is_another}
use borrow.Author.Rules.{rules}
use Rattle.iptables_lines.proofs.append_read.Goals as goal
use Rattle.iptables_lines.proofs.append_read.Goals.{After-cut-end}

abbrev line : After-cut-end → List ℕ
line c = c.args.line.now

abbrev at : After-cut-end → ℕ
at c = c.args.at

abbrev end : After-cut-end → ℕ
end c = c.cut-end.result

pub returns-then-eq : goal.returns-then-eq
unfolding text part
returns-then-eq c =
    c.rule_read.ensures
    ∙ ap line_told
    (is_forward (line (goal.at.returns-then-eq c).After-cut-end) (at (goal.at.returns-then-eq c).After-cut-end) c.if-line-at.false (end (goal.at.returns-then-eq c).After-cut-end) c.cut-end.ensures
    (tested_as _ c.as_slice.ensures c.if-eq.ensures))

pub returns : goal.returns
unfolding text part
returns c =
    c.other_chain.ensures
    ∙ is_another (line (goal.at.returns c).After-cut-end) (at (goal.at.returns c).After-cut-end) c.if-line-at.false (end (goal.at.returns c).After-cut-end) c.cut-end.ensures (tested_as _ c.as_slice.ensures c.if-eq.ensures)

pub returns-then-line-at : goal.returns-then-line-at
returns-then-line-at c =
    let args = c.args in
    no_chain args.line.now args.at c.if-line-at.true

pub slice_bounds-chain-end : goal.slice_bounds-chain-end
slice_bounds-chain-end c =
    let fits = (name_inside (line c) (at c) (end c) c.if-line-at.false c.cut-end.ensures).1 in
    search rules
