-- `rule_tested` meets its contract: its tests are those of the definition, one after another; the rules that it compares with are
-- the first `count`, or all where there are fewer. Assumes nothing.
use native.Mathlib.Omega.{arith}
use mathlib.Core.Path.{◌≡◌, sym, ◌∙◌, ap}
use mathlib.Core.Bool.{◌&&◌}
use lib.Dec.{leb}
use lib.ListN.{take}
use borrow.Author.Tests.{eq-eqb, ne_eqb}
use Rattle.deployment.specs.Values.{rule_of, known}
use Rattle.deployment.specs.Catalogue.{catalogue_of}
use Rattle.deployment.specs.Contents.{rule_read}
use Rattle.catalogue.specs.Answers.{checking, rule_value, compared_with}
use Rattle.catalogue.proofs.Rules.{first_records}
use Rattle.catalogue.proofs.Catalogue.{compared_known}
use Rattle.catalogue.proofs.rule.rule_tested.Goals as goal
use Rattle.catalogue.proofs.rule.rule_tested.Goals.{After-known_if}

pub rule_fits-requires : goal.rule_fits-requires
rule_fits-requires c = c.if-rule-ne-RULE_BYTES.false

pub known_if-requires : goal.known_if-requires
known_if-requires c = (c.if-rule-ne-RULE_BYTES.false, omega (arith, c.records-top.ensures))

-- whether it is among the rules that it is compared with
known_is : (c : After-known_if)
    → let a = c.args in
    c.known_if.result ≡ known (rule_of a.rule.now) (compared_with a.count a.differing (catalogue_of a.skip a.rules.now))
known_is c =
    let a = c.args in
    let first : take c.records-top.result (catalogue_of a.skip a.rules.now) ≡ take a.count (catalogue_of a.skip a.rules.now) =
    ap (λ n. take n (catalogue_of a.skip a.rules.now)) c.records-top.ensures ∙ first_records a.skip a.count a.rules.now in
    c.known_if.ensures
    ∙ ap (λ l. leb a.differing a.count && known (rule_of a.rule.now) l) first
    ∙ compared_known a.count a.differing (catalogue_of a.skip a.rules.now) (rule_of a.rule.now)

pub returns-then-rule-ne-RULE_BYTES : goal.returns-then-rule-ne-RULE_BYTES
unfolding checking rule_value
returns-then-rule-ne-RULE_BYTES c = rw (ne_eqb _ 27 c.if-rule-ne-RULE_BYTES.true)

pub returns-then-not-rule_fits : goal.returns-then-not-rule_fits
unfolding checking rule_value rule_read
returns-then-not-rule_fits c = rw (eq-eqb _ 27 c.if-rule-ne-RULE_BYTES.false, sym c.rule_fits.ensures ∙ c.if-not-rule_fits.true)

pub returns-then-known_if : goal.returns-then-known_if
unfolding checking rule_value rule_read
returns-then-known_if c =
    rw (
      eq-eqb _ 27 c.if-rule-ne-RULE_BYTES.false,
      sym c.rule_fits.ensures ∙ c.if-not-rule_fits.false,
      sym (known_is (goal.at.returns-then-known_if c).After-known_if) ∙ c.if-known_if.true,
    )

pub returns : goal.returns
unfolding checking rule_value rule_read
returns c =
    rw (
      eq-eqb _ 27 c.if-rule-ne-RULE_BYTES.false,
      sym c.rule_fits.ensures ∙ c.if-not-rule_fits.false,
      sym (known_is (goal.at.returns c).After-known_if) ∙ c.if-known_if.false,
    )
