-- `target_given` meets its contract: `-j` is not given once, or its one word says the target. Assumes nothing.
use native.Mathlib.Omega.{arith}
use mathlib.Core.Path.{refl}
use Rattle.lines.specs.Text.{text}
use Rattle.iptables.specs.Options.{target_given}
use Rattle.iptables_rule.specs.Found.{target_told}
use Rattle.iptables_rule.proofs.Finding.{given_once, no_target}
use Rattle.iptables_rule.proofs.target_given.Goals as goal

pub returns-then-found-ne1 : goal.returns-then-found-ne1
unfolding target_told text
returns-then-found-ne1 c = rw (no_target c.option-found.ensures c.if-found-ne1.true) refl

pub returns : goal.returns
unfolding target_given text
returns c =
    let once = c.if-found-ne1.false in
    rw (given_once c.option-found.ensures (λ e. omega arith) (λ e. omega arith), ← c.word_of.ensures)
    c.target_of.ensures
