-- `module_fits` meets its contract: `-m` isn't given, it is given twice, or its one word is tested as the definition does. Assumes nothing.
use Prim.Native.Nat.{ℕ}
use Rattle.std.proofs.Common.{arith}
use Rattle.std.proofs.lemmas.Grind.{common_steps}
use mathlib.Core.Path.{◌≡◌, refl}
use mathlib.Core.Bool.{◌&&◌, ◌||◌}
use mathlib.Core.List.{List}
use Rattle.policy.specs.Lists.{same}
use Rattle.lines.specs.Text.{text}
use Rattle.iptables.specs.Options.{Given, protocol_is, is_behind, module_fits}
use Rattle.iptables_words.proofs.Same.{same_is}
use Rattle.iptables_rule.specs.Found.{given_from}
use Rattle.iptables_rule.proofs.Finding.{not_given, given_once, given_twice}
use Rattle.iptables_rule.proofs.module_fits.Goals as goal
use Rattle.iptables_rule.proofs.module_fits.Goals.{After-option-found, After-word_of-word}

abbrev given : After-option-found → List Given
given c = let args = c.args in given_from args.at args.line.now

abbrev word : After-word_of-word → List ℕ
word c = c.word_of-word.result.now

fits : (c : After-word_of-word) → let g = given (goal.at.After-word_of-word c).After-option-found in
    module_fits g ≡ (is_behind (text "-m") g && protocol_is (word c) g && (same (word c) (text "tcp") || same (word c) (text "udp")))
unfolding module_fits text
fits c =
    rw (given_once c.option-found.ensures c.if-found-eq0.false c.if-found-eq2.false, module_fits, ← c.word_of-word.ensures) refl

pub returns-then-found-eq0 : goal.returns-then-found-eq0
unfolding module_fits text
returns-then-found-eq0 c = rw (not_given c.option-found.ensures c.if-found-eq0.true, module_fits) refl

pub returns-then-found-eq2 : goal.returns-then-found-eq2
unfolding module_fits text
returns-then-found-eq2 c = rw ((given_twice c.option-found.ensures c.if-found-eq2.true).is, module_fits) refl

-- then the word: it is `tcp`, or tested against `udp`
pub returns-then-eq : goal.returns-then-eq
unfolding text
returns-then-eq c = rw (fits (goal.at.returns-then-eq c).After-word_of-word) (grind (arith, common_steps, same_is))

pub returns-else-eq : goal.returns-else-eq
unfolding text
returns-else-eq c = rw (fits (goal.at.returns-else-eq c).After-word_of-word) (grind (arith, common_steps, same_is))

pub returns-else-protocol_is : goal.returns-else-protocol_is
unfolding text
returns-else-protocol_is c = rw (fits (goal.at.returns-else-protocol_is c).After-word_of-word) (grind (arith, common_steps, same_is))
