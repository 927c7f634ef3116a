-- `line_read` meets its contract: a line that starts with `*`, `COMMIT`, a line that is passed over, or one that is read by its words.
-- Assumes nothing.
use Prim.Native.Nat.{ℕ}
use mathlib.Core.Path.{◌≡◌, sym, ◌∙◌, ap}
use mathlib.Core.Bool.{true, false}
use mathlib.Core.List.{List}
use Rattle.policy.specs.Lists.{same}
use Rattle.lines.specs.Text.{text}
use Rattle.iptables.specs.Words.{starts_with}
use Rattle.iptables_words.proofs.Same.{tested_as}
use Rattle.iptables_lines.specs.Told.{line_told}
use Rattle.iptables_lines.proofs.Lines.{filter_opens, star_closes, commit_closes, empty_passed, comment_passed, words_line}
use Rattle.iptables_lines.proofs.line_read.Goals as goal
use Rattle.iptables_lines.proofs.line_read.Goals.{After-starts_with, Else-eq, Else-starts_with, Then-starts_with, then-line-eq0-via-then-line-eq0, then-line-eq0-via-else-line-eq0+then-starts_with-2}

-- the line is asked for a `*`, and compared with `COMMIT`
abbrev line : After-starts_with → List ℕ
line c = c.args.line.now

star : (c : Then-starts_with) → starts_with 42 (line (goal.at.Then-starts_with c).After-starts_with) ≡ true
star c = sym c.starts_with.ensures ∙ c.if-starts_with.true

not_star : (c : Else-starts_with) → starts_with 42 (line (goal.at.Else-starts_with c).After-starts_with) ≡ false
not_star c = sym c.starts_with.ensures ∙ c.if-starts_with.false

not_commit : (c : Else-eq) → same (line (goal.at.Else-eq c).After-starts_with) (text "COMMIT") ≡ false
unfolding text
not_commit c = tested_as _ c.as_slice.ensures c.if-eq.ensures

pub returns-then-is_filter : goal.returns-then-is_filter
returns-then-is_filter c =
    filter_opens (line (goal.at.returns-then-is_filter c).After-starts_with) (star (goal.at.returns-then-is_filter c).Then-starts_with) (sym c.is_filter.ensures ∙ c.if-is_filter.true)

pub returns-then-starts_with : goal.returns-then-starts_with
returns-then-starts_with c =
    star_closes (line (goal.at.returns-then-starts_with c).After-starts_with) (star (goal.at.returns-then-starts_with c).Then-starts_with) (sym c.is_filter.ensures ∙ c.if-is_filter.false)

pub returns-then-eq : goal.returns-then-eq
unfolding text
returns-then-eq c =
    commit_closes (line (goal.at.returns-then-eq c).After-starts_with) (not_star (goal.at.returns-then-eq c).Else-starts_with) (tested_as _ c.as_slice.ensures c.if-eq.ensures)

pub returns-then-line-eq0 : goal.returns-then-line-eq0
returns-then-line-eq0 c =
    let s = line (goal.at.returns-then-line-eq0 c).After-starts_with in
    elim c.then-line-eq0.branch [
      | then-line-eq0-via-then-line-eq0 w ↦
          empty_passed s (not_star (goal.at.returns-then-line-eq0 c).Else-starts_with) (not_commit (goal.at.returns-then-line-eq0 c).Else-eq) w.if-line-eq0.true
      | then-line-eq0-via-else-line-eq0+then-starts_with-2 w ↦
          comment_passed s (not_star (goal.at.returns-then-line-eq0 c).Else-starts_with) (not_commit (goal.at.returns-then-line-eq0 c).Else-eq) w.if-line-eq0.false (sym w.starts_with-else-line-eq0.ensures ∙ w.if-starts_with-2.true)
    ]

pub returns : goal.returns
returns c =
    c.words_read.ensures
    ∙ ap line_told
    (words_line (line (goal.at.returns c).After-starts_with) (not_star (goal.at.returns c).Else-starts_with) (not_commit (goal.at.returns c).Else-eq) c.if-line-eq0.false
    (sym c.starts_with-else-line-eq0.ensures ∙ c.if-starts_with-2.false))
