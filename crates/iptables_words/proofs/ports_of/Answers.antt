-- `ports_of` meets its contract: the first piece is no port, it stands alone, several pieces are behind it, or one, which is a port or not.
-- Assumes nothing.
use Prim.Native.Nat.{◌+◌, ◌<◌}
use native.Mathlib.Omega.{arith}
use mathlib.Core.Path.{sym, ◌∙◌}
use lib.ListN.{length}
use lib.Seq.{length-take-le}
use Rattle.deployment.proofs.Records.{part_to_end}
use Rattle.iptables.specs.Words.{colon}
use Rattle.iptables_words.proofs.Pieces.{first_ends}
use Rattle.iptables_words.proofs.Ports.{no_port, one_port, many_ports, no_second, two_ports}
use borrow.Author.Rules.{rules}
use Rattle.iptables_words.proofs.ports_of.Goals as goal
use Rattle.iptables_words.proofs.ports_of.Goals.{Else-end-word}

-- a colon is behind the first piece
inside : (c : Else-end-word) → c.cut-end.result < length c.args.word.now
inside c = omega (arith, first_ends colon c.args.word.now c.cut-end.result c.cut-end.ensures, c.if-end-word.false)

pub returns-in_err-low : goal.returns-in_err-low
returns-in_err-low c = c.from_residual.ensures ∙ no_port c.args.word.now c.cut-end.result c.cut-end.ensures c.in_err-low.ensures

pub returns-then-end-word : goal.returns-then-end-word
returns-then-end-word c =
    rw c.single.ensures (one_port c.args.word.now c.cut-end.result c.cut-end.ensures _ c.in_ok-low.ensures c.if-end-word.true)

pub returns-then-cut-rest : goal.returns-then-cut-rest
returns-then-cut-rest c =
    let word = c.args.word.now in
    let end = c.cut-end.result in
    many_ports word end c.cut-end.ensures _ c.in_ok-low.ensures (inside (goal.at.returns-then-cut-rest c).Else-end-word) _
    (part_to_end (end + 1) word) _ c.cut.ensures c.if-cut-rest.true

pub returns-in_err-high : goal.returns-in_err-high
returns-in_err-high c =
    let word = c.args.word.now in
    let end = c.cut-end.result in
    c.from_residual-in_err-high.ensures
    ∙ no_second word end c.cut-end.ensures _ c.in_ok-low.ensures (inside (goal.at.returns-in_err-high c).Else-end-word) _
    (part_to_end (end + 1) word) _ c.cut.ensures c.if-cut-rest.false c.in_err-high.ensures

pub returns : goal.returns
returns c =
    let word = c.args.word.now in
    let end = c.cut-end.result in
    two_ports word end c.cut-end.ensures _ c.in_ok-low.ensures (inside (goal.at.returns c).Else-end-word) _
    (part_to_end (end + 1) word) _ c.cut.ensures c.if-cut-rest.false _ c.in_ok-high.ensures

-- the first piece has as many bytes as are asked for
pub slice_bounds-number_in-end : goal.slice_bounds-number_in-end
slice_bounds-number_in-end c =
    let args = c.args in
    sym (length-take-le c.cut-end.result args.word.now (first_ends colon args.word.now c.cut-end.result c.cut-end.ensures))

pub overflow_add-rest : goal.overflow_add-rest
overflow_add-rest c = let fits = inside c in search rules

pub slice_bounds-rest-count : goal.slice_bounds-rest-count
slice_bounds-rest-count c = let fits = inside c in search rules

pub slice_bounds-rest-start : goal.slice_bounds-rest-start
slice_bounds-rest-start c = let fits = inside c in search rules
