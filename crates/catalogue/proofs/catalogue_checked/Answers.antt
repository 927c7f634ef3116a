-- `catalogue_checked` meets its contract: the rules from the k-th on, read after the first k, say what the whole value says.
-- Assumes nothing.
use Prim.Native.Nat.{◌*◌, ◌%◌}
use native.Mathlib.Nat.{add-zero}
use native.Mathlib.Omega.{arith}
use mathlib.Core.Path.{◌≡◌, sym, ◌∙◌}
use lib.ListN.{length, take}
use borrow.Author.Tests.{eq-eqb, ne_eqb, le-leb, lt-leb}
use Rattle.std.proofs.lemmas.Result.{err_from_is_err_and}
use Rattle.deployment.specs.Bytes.{part}
use Rattle.deployment.specs.Catalogue.{record_count, catalogue_of}
use Rattle.deployment.specs.FieldValues.{catalogue_value}
use Rattle.deployment.proofs.Records.{record_at, record_there}
use Rattle.catalogue.specs.Answers.{checking, rule_value}
use Rattle.catalogue.specs.RuleMarks.{Apart}
use Rattle.catalogue.proofs.Catalogue.{nothing_missed, read_further, read_stops, read_all}
use Rattle.catalogue.proofs.catalogue_checked.Goals as goal
use Rattle.catalogue.proofs.catalogue_checked.Goals.{After-rule_tested}

-- in a turn the k-th piece is there, and it is tested as the definition says
tested : (c : After-rule_tested)
    → let rules = c.args.rules.now in
    c.rule_tested.result ≡ checking (rule_value (take c.loop-k.k (catalogue_of 0 rules)) (part (c.loop-k.k * 27) 27 rules))
unfolding Apart record_count
tested c =
    let rules = c.args.rules.now in
    let k = c.loop-k.k in
    let is = c.record_at.ensures ∙ record_there 0 rules k c.loop-k-test.true in
    rw (add-zero (k * 27)) at
    (rw is at c.rule_tested.ensures
    ∙ nothing_missed k c.apart-differing.result (catalogue_of 0 rules) (record_at 0 k rules) (c.apart-differing.ensures k))

pub returns-then-rules-ne0 : goal.returns-then-rules-ne0
unfolding checking catalogue_value
returns-then-rules-ne0 c = rw (ne_eqb (length c.args.rules.now % 27) 0 c.if-rules-ne0.true)

pub returns-then-rules : goal.returns-then-rules
unfolding checking catalogue_value
returns-then-rules c =
    rw (
      eq-eqb (length c.args.rules.now % 27) 0 c.if-rules-ne0.false,
      lt-leb (length c.args.rules.now) 27648 c.if-rules.true,
    )

pub loop-k-init : goal.loop-k-init
unfolding catalogue_value
loop-k-init c =
    rw (
      eq-eqb (length c.args.rules.now % 27) 0 c.if-rules-ne0.false,
      le-leb (length c.args.rules.now) 27648 c.if-rules.false,
    )

pub returns-in_err-rule_tested : goal.returns-in_err-rule_tested
returns-in_err-rule_tested c =
    let rules = c.args.rules.now in
    let p = err_from_is_err_and c.from_residual.result c.from_residual.ensures.1 in
    rw (p.1, p.2)
    (sym (c.loop-k.invariant
    ∙ read_stops c.loop-k.k rules (omega arith) _
    (sym (tested (goal.at.returns-in_err-rule_tested c).After-rule_tested) ∙ c.in_err-rule_tested.was)))

pub loop-k-preserved : goal.loop-k-preserved
loop-k-preserved c =
    let rules = c.args.rules.now in
    c.loop-k.invariant
    ∙ read_further c.loop-k.k rules (omega arith)
    (sym (tested (goal.at.loop-k-preserved c).After-rule_tested) ∙ c.in_ok-rule_tested.was)

pub returns : goal.returns
returns c =
    let rules = c.args.rules.now in
    sym (c.loop-k.invariant ∙ read_all c.loop-k.k rules c.loop-k-test.false)
