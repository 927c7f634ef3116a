-- `ranges_given` meets its contract: range by range, the first that isn't read ends it, and all together are the ranges. Assumes nothing.
use mathlib.Core.Path.{refl, ◌∙◌}
use Rattle.lines.specs.Text.{text}
use Rattle.iptables_rule.specs.Found.{ranges_read, ranges_told}
use Rattle.iptables_rule.proofs.Finding.{range_is, range_not}
use Rattle.iptables_rule.proofs.ranges_given.Goals as goal

pub returns : goal.returns
unfolding ranges_read ranges_told text
returns c =
    rw (
      range_is _ _ c.in_ok-protocol.ensures,
      range_is _ _ c.in_ok-source.ensures,
      range_is _ _ c.in_ok-source_port.ensures,
      range_is _ _ c.in_ok-destination.ensures,
      range_is _ _ c.in_ok-destination_port.ensures,
    ) refl

pub returns-in_err-protocol : goal.returns-in_err-protocol
unfolding ranges_read ranges_told text
returns-in_err-protocol c = let (why, is) = range_not _ c.in_err-protocol.ensures in c.from_residual.ensures ∙ rw (is) refl

pub returns-in_err-source : goal.returns-in_err-source
unfolding ranges_read ranges_told text
returns-in_err-source c = let (why, is) = range_not _ c.in_err-source.ensures in c.from_residual-in_err-source.ensures ∙ rw (range_is _ _ c.in_ok-protocol.ensures, is) refl

pub returns-in_err-source_port : goal.returns-in_err-source_port
unfolding ranges_read ranges_told text
returns-in_err-source_port c = let (why, is) = range_not _ c.in_err-source_port.ensures in c.from_residual-in_err-source_port.ensures ∙ rw (range_is _ _ c.in_ok-protocol.ensures, range_is _ _ c.in_ok-source.ensures, is) refl

pub returns-in_err-destination : goal.returns-in_err-destination
unfolding ranges_read ranges_told text
returns-in_err-destination c = let (why, is) = range_not _ c.in_err-destination.ensures in c.from_residual-in_err-destination.ensures ∙ rw (range_is _ _ c.in_ok-protocol.ensures, range_is _ _ c.in_ok-source.ensures, range_is _ _ c.in_ok-source_port.ensures, is) refl

pub returns-in_err-destination_port : goal.returns-in_err-destination_port
unfolding ranges_read ranges_told text
returns-in_err-destination_port c = let (why, is) = range_not _ c.in_err-destination_port.ensures in c.from_residual-in_err-destination_port.ensures ∙ rw (range_is _ _ c.in_ok-protocol.ensures, range_is _ _ c.in_ok-source.ensures, range_is _ _ c.in_ok-source_port.ensures, range_is _ _ c.in_ok-destination.ensures, is) refl
