-- `rule_checked` meets its contract: it is the test of a rule of which nothing is said. Assumes nothing.
use native.Mathlib.Omega.{arith}
use mathlib.Core.Path.{◌∙◌}
use Rattle.deployment.specs.Catalogue.{catalogue_of}
use Rattle.catalogue.proofs.Catalogue.{nothing_missed}
use Rattle.catalogue.proofs.rule_checked.Goals as goal

pub returns : goal.returns
returns c =
    let a = c.args in
    c.rule_tested.ensures ∙ nothing_missed a.count 0 (catalogue_of a.skip a.rules.now) a.rule.now (λ below. absurd (omega arith))
