-- `default_read` meets its contract: there are no two words behind the first, or they are asked. Assumes nothing.
use Prim.Native.Nat.{ℕ, ◌+◌, ◌-◌, ◌<◌}
use native.Mathlib.Omega.{arith}
use mathlib.Core.Path.{◌≡◌, sym, ◌∙◌}
use mathlib.Core.List.{List}
use lib.ListN.{length, take, drop}
use Rattle.deployment.specs.Bytes.{part}
use Rattle.deployment.proofs.Records.{part_to_end}
use Rattle.iptables.specs.Options.{target_of}
use Rattle.iptables.specs.Listing.{are_counters, forward_read}
use Rattle.iptables_rule.specs.Found.{words_from, target_told}
use Rattle.std.specs.Prelude.{Option as CodeOption}
use Rattle.policy.specs.declared.Action.{Action}
use Rattle.iptables_rule.proofs.Turns.{word_from, name_inside}
use Rattle.iptables_lines.specs.Told.{line_told}
use Rattle.iptables_lines.proofs.Behind.{default_told, no_policy, one_word, more_words, two_words}
use borrow.Author.Rules.{rules}
use Rattle.iptables_lines.proofs.default_read.Goals as goal
use Rattle.iptables_lines.proofs.default_read.Goals.{After-cut-middle, Else-cut-counters, Else-middle-line}

abbrev line : After-cut-middle → List ℕ
line c = c.args.line.now

abbrev at : After-cut-middle → ℕ
at c = c.args.at

abbrev middle : After-cut-middle → ℕ
middle c = c.cut-middle.result

abbrev rest : After-cut-middle → List ℕ
rest c = take (length (line c) - (middle c + 1)) (drop (middle c + 1) (line c))

abbrev policy : After-cut-middle → List ℕ
policy c = word_from (line c) (at c + 1) (middle c)

inside : (c : Else-middle-line) → middle (goal.at.Else-middle-line c).After-cut-middle < length (line (goal.at.Else-middle-line c).After-cut-middle)
inside c =
    omega (arith, (name_inside (line (goal.at.Else-middle-line c).After-cut-middle) (at (goal.at.Else-middle-line c).After-cut-middle) (middle (goal.at.Else-middle-line c).After-cut-middle) c.if-line-at.false c.cut-middle.ensures).1, c.if-middle-line.false)

told : (c : Else-cut-counters) (target : CodeOption Action)
    → target ≡ target_told (target_of (policy (goal.at.Else-cut-counters c).After-cut-middle))
    → default_told target (are_counters (rest (goal.at.Else-cut-counters c).After-cut-middle)) ≡ line_told (forward_read (words_from (at (goal.at.Else-cut-counters c).After-cut-middle) (line (goal.at.Else-cut-counters c).After-cut-middle)))
told c =
    two_words (line (goal.at.Else-cut-counters c).After-cut-middle) (at (goal.at.Else-cut-counters c).After-cut-middle) c.if-line-at.false (middle (goal.at.Else-cut-counters c).After-cut-middle) c.cut-middle.ensures (inside (goal.at.Else-cut-counters c).Else-middle-line) (rest (goal.at.Else-cut-counters c).After-cut-middle)
    (part_to_end (middle (goal.at.Else-cut-counters c).After-cut-middle + 1) (line (goal.at.Else-cut-counters c).After-cut-middle)) _ c.cut.ensures c.if-cut-counters.false

pub returns : goal.returns
unfolding default_told part
returns c =
    let is = told (goal.at.returns c).Else-cut-counters _ (c.in-Some.ensures) in
    rw (sym c.are_counters.ensures ∙ c.if-not-are_counters.false) at is

pub returns-then-not-are_counters : goal.returns-then-not-are_counters
unfolding default_told part
returns-then-not-are_counters c =
    let is = told (goal.at.returns-then-not-are_counters c).Else-cut-counters _ (c.in-Some.ensures) in
    rw (sym c.are_counters.ensures ∙ c.if-not-are_counters.true) at is

pub returns-in_default : goal.returns-in_default
unfolding default_told part
returns-in_default c = told (goal.at.returns-in_default c).Else-cut-counters _ (sym c.in_default.is ∙ c.target_of.ensures)

pub returns-then-cut-counters : goal.returns-then-cut-counters
returns-then-cut-counters c =
    more_words (line (goal.at.returns-then-cut-counters c).After-cut-middle) (at (goal.at.returns-then-cut-counters c).After-cut-middle) c.if-line-at.false (middle (goal.at.returns-then-cut-counters c).After-cut-middle) c.cut-middle.ensures (inside (goal.at.returns-then-cut-counters c).Else-middle-line) (rest (goal.at.returns-then-cut-counters c).After-cut-middle)
    (part_to_end (middle (goal.at.returns-then-cut-counters c).After-cut-middle + 1) (line (goal.at.returns-then-cut-counters c).After-cut-middle)) _ c.cut.ensures c.if-cut-counters.true

pub returns-then-middle-line : goal.returns-then-middle-line
returns-then-middle-line c =
    one_word (line (goal.at.returns-then-middle-line c).After-cut-middle) (at (goal.at.returns-then-middle-line c).After-cut-middle) c.if-line-at.false (middle (goal.at.returns-then-middle-line c).After-cut-middle) c.cut-middle.ensures c.if-middle-line.true

pub returns-then-line-at : goal.returns-then-line-at
returns-then-line-at c = let args = c.args in no_policy args.line.now args.at c.if-line-at.true

pub overflow_add-counters : goal.overflow_add-counters
overflow_add-counters c = let fits = inside c in search rules

pub slice_bounds-counters-count : goal.slice_bounds-counters-count
slice_bounds-counters-count c = let fits = inside c in search rules

pub slice_bounds-counters-start : goal.slice_bounds-counters-start
slice_bounds-counters-start c = let fits = inside c in search rules

pub slice_bounds-target_of-end : goal.slice_bounds-target_of-end
slice_bounds-target_of-end c = let fits = inside (goal.at.slice_bounds-target_of-end c).Else-middle-line in search rules
