-- `port_fits` meets its contract: the option isn't given, or it stands behind `-p` and that has one of the two words. Assumes nothing.
use mathlib.Core.Path.{◌≡◌, refl, sym, ◌∙◌}
use mathlib.Core.Bool.{◌&&◌, ◌||◌}
use Rattle.lines.specs.Text.{text}
use Rattle.iptables.specs.Options.{protocol_is, is_behind, port_fits}
use Rattle.iptables_rule.specs.Found.{given_from}
use Rattle.iptables_rule.proofs.Finding.{not_given, given_first}
use Rattle.iptables_rule.proofs.Joining.{or_first, or_second, and_first, and_second}
use Rattle.iptables_rule.proofs.port_fits.Goals as goal
use Rattle.iptables_rule.proofs.port_fits.Goals.{Else-option-eq0}

fits : (c : Else-option-eq0) → let args = c.args in let given = given_from args.at args.line.now in
    port_fits args.name.now given
    ≡ (is_behind args.name.now given && (protocol_is (text "tcp") given || protocol_is (text "udp") given))
unfolding port_fits
fits c = rw ((given_first c.option.ensures c.if-option-eq0.false).1, port_fits) refl

pub returns-then-option-eq0 : goal.returns-then-option-eq0
unfolding port_fits
returns-then-option-eq0 c = rw (not_given c.option.ensures c.if-option-eq0.true, port_fits) refl

pub returns-then-protocol_is : goal.returns-then-protocol_is
unfolding text
returns-then-protocol_is c =
    and_second c.is_behind.ensures c.if-is_behind.true (or_first c.protocol_is.ensures _ c.if-protocol_is.true refl)
    ∙ sym (fits (goal.at.returns-then-protocol_is c).Else-option-eq0)

pub returns-else-protocol_is : goal.returns-else-protocol_is
unfolding text
returns-else-protocol_is c =
    and_second c.is_behind.ensures c.if-is_behind.true
    (or_second c.protocol_is.ensures c.if-protocol_is.false c.protocol_is-else-protocol_is.ensures)
    ∙ sym (fits (goal.at.returns-else-protocol_is c).Else-option-eq0)

pub returns-else-is_behind : goal.returns-else-is_behind
returns-else-is_behind c =
    and_first c.is_behind.ensures _ c.if-is_behind.false refl ∙ sym (fits (goal.at.returns-else-is_behind c).Else-option-eq0)
