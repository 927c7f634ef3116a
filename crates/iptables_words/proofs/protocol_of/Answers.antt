-- `protocol_of` meets its contract: the word is one of the three names, a number from 1 to 255, or neither. Assumes nothing.
use mathlib.Core.Path.{◌≡◌, ◌∙◌}
use mathlib.Core.Bool.{false}
use Rattle.policy.specs.Lists.{same}
use Rattle.lines.specs.Text.{text}
use Rattle.iptables_words.proofs.Same.{tested_as}
use Rattle.iptables_words.proofs.Protocols.{is_tcp, is_udp, is_icmp, numbered, no_protocol}
use Rattle.iptables_words.proofs.protocol_of.Goals as goal
use Rattle.iptables_words.proofs.protocol_of.Goals.{Else-eq, Else-eq-2, Else-eq-3}

-- the names that the word isn't
not_tcp : (c : Else-eq) → same c.args.word.now (text "tcp") ≡ false
unfolding text
not_tcp c = tested_as _ c.as_slice.ensures c.if-eq.ensures

not_udp : (c : Else-eq-2) → same c.args.word.now (text "udp") ≡ false
unfolding text
not_udp c = tested_as _ c.as_slice-2.ensures c.if-eq-2.ensures

not_icmp : (c : Else-eq-3) → same c.args.word.now (text "icmp") ≡ false
unfolding text
not_icmp c = tested_as _ c.as_slice-3.ensures c.if-eq-3.ensures

pub returns-then-eq : goal.returns-then-eq
unfolding text
returns-then-eq c = rw c.single.ensures (is_tcp _ (tested_as _ c.as_slice.ensures c.if-eq.ensures))

pub returns-then-eq-2 : goal.returns-then-eq-2
unfolding text
returns-then-eq-2 c =
    let at = goal.at.returns-then-eq-2 c in
    rw c.single-then-eq-2.ensures (is_udp _ (not_tcp at.Else-eq) (tested_as _ c.as_slice-2.ensures c.if-eq-2.ensures))

pub returns-then-eq-3 : goal.returns-then-eq-3
unfolding text
returns-then-eq-3 c =
    let at = goal.at.returns-then-eq-3 c in
    rw c.single-then-eq-3.ensures
    (is_icmp _ (not_tcp at.Else-eq) (not_udp at.Else-eq-2) (tested_as _ c.as_slice-3.ensures c.if-eq-3.ensures))

pub returns-in_err-n : goal.returns-in_err-n
returns-in_err-n c =
    let at = goal.at.returns-in_err-n c in
    c.from_residual.ensures
    ∙ no_protocol _ (not_tcp at.Else-eq) (not_udp at.Else-eq-2) (not_icmp at.Else-eq-3) c.in_err-n.ensures

pub returns : goal.returns
returns c =
    let at = goal.at.returns c in
    rw c.single-2.ensures (numbered _ (not_tcp at.Else-eq) (not_udp at.Else-eq-2) (not_icmp at.Else-eq-3) _ c.in_ok-n.ensures)
