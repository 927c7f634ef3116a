-- `rule_fits` meets its contract: its tests are those of the definition, one after another. Assumes nothing.
use native.Mathlib.Omega.{arith}
use Rattle.std.proofs.lemmas.Grind.{common_steps}
use Rattle.std.proofs.lemmas.Bool.Decides.{nat_tests}
use Rattle.deployment.specs.Values.{rule_fits}
use Rattle.deployment.proofs.Records.{first_byte}
use Rattle.catalogue.proofs.rule.rule_fits.Goals as goal

pub returns-then-rises-4 : goal.returns-then-rises-4
unfolding rule_fits
returns-then-rises-4 c = rw (first_byte c.args.rule.now (omega arith)) (grind (arith, nat_tests, common_steps))

pub returns-else-rises-4 : goal.returns-else-rises-4
unfolding rule_fits
returns-else-rises-4 c = rw (first_byte c.args.rule.now (omega arith)) (grind (arith, nat_tests, common_steps))
