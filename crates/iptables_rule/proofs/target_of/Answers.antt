-- `target_of` meets its contract: the word is one of the two targets, or none of them. Assumes nothing.
use mathlib.Core.Path.{◌≡◌, refl}
use mathlib.Core.Bool.{false}
use Rattle.policy.specs.Lists.{same}
use Rattle.lines.specs.Text.{text}
use Rattle.iptables.specs.Options.{target_of}
use Rattle.iptables_words.proofs.Same.{tested_as}
use Rattle.iptables_rule.specs.Found.{target_told}
use Rattle.iptables_rule.proofs.target_of.Goals as goal
use Rattle.iptables_rule.proofs.target_of.Goals.{Else-eq}

not_accept : (c : Else-eq) → same c.args.word.now (text "ACCEPT") ≡ false
unfolding text
not_accept c = tested_as _ c.as_slice.ensures c.if-eq.ensures

pub returns-then-eq : goal.returns-then-eq
unfolding target_told target_of text
returns-then-eq c = rw (tested_as c.args.word.now c.as_slice.ensures c.if-eq.ensures) refl

pub returns-then-eq-2 : goal.returns-then-eq-2
unfolding target_told target_of text
returns-then-eq-2 c =
    rw (not_accept (goal.at.returns-then-eq-2 c).Else-eq, tested_as c.args.word.now c.as_slice-2.ensures c.if-eq-2.ensures) refl

pub returns : goal.returns
unfolding target_told target_of text
returns c = rw (not_accept (goal.at.returns c).Else-eq, tested_as c.args.word.now c.as_slice-2.ensures c.if-eq-2.ensures) refl
