-- `words_read` meets its contract: the first word is `:FORWARD`, starts with a colon, is `-A`, or is none of them. Assumes nothing.
use Prim.Native.Nat.{ℕ, ◌≤◌}
use mathlib.Core.Path.{◌≡◌, sym, ◌∙◌, ap}
use mathlib.Core.Bool.{false}
use mathlib.Core.List.{List}
use lib.ListN.{length, take}
use lib.Seq.{length-take-le}
use Rattle.policy.specs.Lists.{same}
use Rattle.deployment.proofs.Records.{part_to_end}
use Rattle.lines.specs.Text.{text}
use Rattle.iptables.specs.Words.{blank, colon, starts_with}
use Rattle.iptables.specs.Listing.{other_chain}
use Rattle.iptables_words.proofs.Pieces.{first_ends}
use Rattle.iptables_words.proofs.Same.{tested_as}
use Rattle.iptables_lines.specs.Told.{line_told}
use Rattle.iptables_lines.proofs.Names.{some_byte}
use Rattle.iptables_lines.proofs.Lines.{default_line, chain_line, append_line, other_line}
use borrow.Author.Rules.{rules}
use Rattle.iptables_lines.proofs.words_read.Goals as goal
use Rattle.iptables_lines.proofs.words_read.Goals.{After-cut-end, Else-eq, Else-starts_with, Then-starts_with}

-- the line, and its first word
abbrev line : After-cut-end → List ℕ
line c = c.args.line.now

abbrev end : After-cut-end → ℕ
end c = c.cut-end.result

abbrev first : After-cut-end → List ℕ
first c = take (end c) (line c)

not_default : (c : Else-eq) → same (first (goal.at.Else-eq c).After-cut-end) (text ":FORWARD") ≡ false
unfolding text
not_default c = tested_as _ c.as_slice.ensures c.if-eq.ensures

not_chain : (c : Else-starts_with) → starts_with colon (first (goal.at.Else-starts_with c).After-cut-end) ≡ false
not_chain c = sym c.starts_with.ensures ∙ c.if-starts_with.false

pub returns-then-eq : goal.returns-then-eq
unfolding text
returns-then-eq c =
    c.default_read.ensures
    ∙ default_line (line (goal.at.returns-then-eq c).After-cut-end) (end (goal.at.returns-then-eq c).After-cut-end) c.cut-end.ensures (tested_as _ c.as_slice.ensures c.if-eq.ensures)

pub returns-then-starts_with : goal.returns-then-starts_with
returns-then-starts_with c =
    c.other_chain.ensures
    ∙ ap (λ (name : List ℕ). line_told (other_chain name)) (part_to_end 1 (first (goal.at.returns-then-starts_with c).After-cut-end))
    ∙ chain_line (line (goal.at.returns-then-starts_with c).After-cut-end) (end (goal.at.returns-then-starts_with c).After-cut-end) c.cut-end.ensures (not_default (goal.at.returns-then-starts_with c).Else-eq) (sym c.starts_with.ensures ∙ c.if-starts_with.true)

pub returns-then-eq-2 : goal.returns-then-eq-2
unfolding text
returns-then-eq-2 c =
    c.append_read.ensures
    ∙ ap line_told
    (append_line (line (goal.at.returns-then-eq-2 c).After-cut-end) (end (goal.at.returns-then-eq-2 c).After-cut-end) c.cut-end.ensures (not_default (goal.at.returns-then-eq-2 c).Else-eq) (not_chain (goal.at.returns-then-eq-2 c).Else-starts_with)
    (tested_as _ c.as_slice-2.ensures c.if-eq-2.ensures))

pub returns : goal.returns
unfolding text
returns c =
    other_line (line (goal.at.returns c).After-cut-end) (end (goal.at.returns c).After-cut-end) c.cut-end.ensures (not_default (goal.at.returns c).Else-eq) (not_chain (goal.at.returns c).Else-starts_with)
    (tested_as _ c.as_slice-2.ensures c.if-eq-2.ensures)

-- the first word has as many bytes as are asked for, and one where a colon stands
pub slice_bounds-first-end : goal.slice_bounds-first-end
slice_bounds-first-end c = sym (length-take-le (end c) (line c) (first_ends blank (line c) (end c) c.cut-end.ensures))

has_byte : (c : Then-starts_with) → 1 ≤ length (first (goal.at.Then-starts_with c).After-cut-end)
has_byte c =
    some_byte colon (first (goal.at.Then-starts_with c).After-cut-end) (sym c.starts_with.ensures ∙ c.if-starts_with.true)

pub slice_bounds-other_chain-count : goal.slice_bounds-other_chain-count
slice_bounds-other_chain-count c = has_byte c

pub slice_bounds-other_chain-start : goal.slice_bounds-other_chain-start
slice_bounds-other_chain-start c = let fits = has_byte c in search rules
