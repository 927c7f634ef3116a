-- `put_bounds` meets its contract: the tests tell which of the three forms it is. Assumes nothing.
use Prim.Native.Nat.{ℕ}
use mathlib.Core.Path.{◌≡◌}
use mathlib.Core.Logic.{◌⊎◌, inl, inr}
use Rattle.lines.specs.Text.{text}
use Rattle.lines.proofs.Pieces.{puts_more}
use Rattle.rule_lines.proofs.RangeForms.{range_any, range_one, range_both}
use Rattle.rule_lines.proofs.ranges.put_bounds.Goals as goal

-- the range lacks a number, by either test
lacks : (low high highest : ℕ) → (low ≡ 0 × ¬ (high ≡ highest)) ⊎ (¬ (low ≡ 0)) → ¬ ((low ≡ 0) × (high ≡ highest))
lacks low high highest (inl first) both = first.1 both.1
lacks low high highest (inr second) both = second both.0

pub returns-then-high-width : goal.returns-then-high-width
unfolding text
returns-then-high-width c =
    let a = c.args in
    rw (range_any a.width.bytes a.width.highest a.low a.high c.requires c.if-low-eq0.true c.if-high-width.true) c.put_word.ensures

pub returns-then-low-high : goal.returns-then-low-high
returns-then-low-high c =
    let a = c.args in
    rw (range_one a.width.bytes a.width.highest a.low a.high c.requires (lacks a.low a.high a.width.highest c.else-low-eq0.either) c.if-low-high.true)
    c.put_value-next.ensures

pub returns : goal.returns
unfolding text
returns c =
    let a = c.args in
    rw (range_both a.width.bytes a.width.highest a.low a.high c.requires (lacks a.low a.high a.width.highest c.else-low-eq0.either) c.if-low-high.false)
    (puts_more c.put_value-next.ensures (puts_more c.put_sign-next.ensures c.put_value.ensures))
