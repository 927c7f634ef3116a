-- `ranged` meets its contract: how often the option is given decides, as in the definition. Assumes nothing.
use native.Mathlib.Omega.{arith}
use mathlib.Core.Path.{refl}
use borrow.Author.Tests.{eq-eqb, ne_eqb}
use Rattle.iptables_words.specs.Told.{range_told}
use Rattle.iptables_rule.specs.Found.{range_found}
use Rattle.iptables_rule.proofs.ranged.Goals as goal

pub returns-in-0 : goal.returns-in-0
unfolding range_found range_told
returns-in-0 c = rw (eq-eqb _ _ c.in-0.is, c.full.ensures) refl

pub returns-in-2 : goal.returns-in-2
unfolding range_found range_told
returns-in-2 c = rw c.in-2.is refl

pub returns-in_default : goal.returns-in_default
unfolding range_found
returns-in_default c =
    let times = c.args.found.times in
    rw (ne_eqb times 0 (λ e. omega arith), ne_eqb times 2 (λ e. omega arith), ← c.word_of.ensures) c.meant.ensures
