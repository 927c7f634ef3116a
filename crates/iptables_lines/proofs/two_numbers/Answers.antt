-- `two_numbers` meets its contract: there is no colon, there are several, or what stands before and behind the only one is asked. Assumes nothing.
use Prim.Native.Nat.{ℕ, ◌+◌, ◌-◌, ◌<◌}
use native.Mathlib.Omega.{arith}
use mathlib.Core.Path.{◌≡◌, refl, sym, ◌∙◌}
use mathlib.Core.Bool.{◌&&◌}
use mathlib.Core.List.{List}
use lib.ListN.{length, take, drop}
use lib.Seq.{length-take-le}
use Rattle.deployment.proofs.Records.{part_to_end}
use Rattle.iptables.specs.Words.{colon, parted}
use Rattle.iptables.specs.Listing.{is_number, two_numbers}
use Rattle.iptables_words.proofs.Pieces.{first_ends}
use Rattle.iptables_lines.proofs.Names.{no_colon, more_colons, one_colon}
use borrow.Author.Rules.{rules}
use Rattle.iptables_lines.proofs.two_numbers.Goals as goal
use Rattle.iptables_lines.proofs.two_numbers.Goals.{After-cut-end, Else-cut-bytes, Else-end-counters}

-- the bytes, where the first colon stands, and what is behind it
abbrev bytes : After-cut-end → List ℕ
bytes c = c.args.counters.now

abbrev end : After-cut-end → ℕ
end c = c.cut-end.result

abbrev rest : After-cut-end → List ℕ
rest c = take (length (bytes c) - (end c + 1)) (drop (end c + 1) (bytes c))

inside : (c : Else-end-counters) → end (goal.at.Else-end-counters c).After-cut-end < length (bytes (goal.at.Else-end-counters c).After-cut-end)
inside c =
    omega (arith, first_ends colon (bytes (goal.at.Else-end-counters c).After-cut-end) (end (goal.at.Else-end-counters c).After-cut-end) c.cut-end.ensures, c.if-end-counters.false)

two_pieces : (c : Else-cut-bytes)
    → two_numbers (parted colon (bytes (goal.at.Else-cut-bytes c).After-cut-end)) ≡ (is_number (take (end (goal.at.Else-cut-bytes c).After-cut-end) (bytes (goal.at.Else-cut-bytes c).After-cut-end)) && is_number (rest (goal.at.Else-cut-bytes c).After-cut-end))
two_pieces c =
    one_colon (bytes (goal.at.Else-cut-bytes c).After-cut-end) (end (goal.at.Else-cut-bytes c).After-cut-end) c.cut-end.ensures (inside (goal.at.Else-cut-bytes c).Else-end-counters) _ (part_to_end (end (goal.at.Else-cut-bytes c).After-cut-end + 1) (bytes (goal.at.Else-cut-bytes c).After-cut-end)) _ c.cut.ensures
    c.if-cut-bytes.false

pub returns-then-is_number : goal.returns-then-is_number
returns-then-is_number c =
    c.is_number-then-is_number.ensures ∙ sym (two_pieces (goal.at.returns-then-is_number c).Else-cut-bytes ∙ rw (sym c.is_number.ensures ∙ c.if-is_number.true) refl)

pub returns-else-is_number : goal.returns-else-is_number
returns-else-is_number c =
    c.if-is_number.false ∙ sym (two_pieces (goal.at.returns-else-is_number c).Else-cut-bytes ∙ rw (sym c.is_number.ensures ∙ c.if-is_number.false) refl)

pub returns-then-cut-bytes : goal.returns-then-cut-bytes
returns-then-cut-bytes c =
    sym (more_colons (bytes (goal.at.returns-then-cut-bytes c).After-cut-end) (end (goal.at.returns-then-cut-bytes c).After-cut-end) c.cut-end.ensures (inside (goal.at.returns-then-cut-bytes c).Else-end-counters) _ (part_to_end (end (goal.at.returns-then-cut-bytes c).After-cut-end + 1) (bytes (goal.at.returns-then-cut-bytes c).After-cut-end)) _
    c.cut.ensures c.if-cut-bytes.true)

pub returns-then-end-counters : goal.returns-then-end-counters
returns-then-end-counters c =
    sym (no_colon (bytes (goal.at.returns-then-end-counters c).After-cut-end) (end (goal.at.returns-then-end-counters c).After-cut-end) c.cut-end.ensures c.if-end-counters.true)

-- the first piece has as many bytes as are asked for
pub slice_bounds-is_number-end : goal.slice_bounds-is_number-end
slice_bounds-is_number-end c =
    sym (length-take-le (end (goal.at.slice_bounds-is_number-end c).After-cut-end) (bytes (goal.at.slice_bounds-is_number-end c).After-cut-end) (first_ends colon (bytes (goal.at.slice_bounds-is_number-end c).After-cut-end) (end (goal.at.slice_bounds-is_number-end c).After-cut-end) c.cut-end.ensures))

pub overflow_add-bytes : goal.overflow_add-bytes
overflow_add-bytes c = let fits = inside c in search rules

pub slice_bounds-bytes-count : goal.slice_bounds-bytes-count
slice_bounds-bytes-count c = let fits = inside c in search rules

pub slice_bounds-bytes-start : goal.slice_bounds-bytes-start
slice_bounds-bytes-start c = let fits = inside c in search rules
