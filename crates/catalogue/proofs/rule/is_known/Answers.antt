-- `is_known` meets its contract: the rules from the k-th on say what the first `count` of them say. Assumes nothing.
use Prim.Native.Nat.{◌+◌, ◌*◌, ◌≤◌, ◌<◌}
use native.Mathlib.Omega.{arith}
use mathlib.Core.Path.{◌≡◌, refl, sym, ◌∙◌, ap}
use mathlib.Core.List.{[]}
use lib.ListN.{length, drop, get_or}
use Rattle.deployment.specs.Values.{rule_of, same_rule}
use Rattle.deployment.specs.Catalogue.{record_count}
use Rattle.deployment.proofs.Records.{record_at, record_there, record_whole}
use Rattle.catalogue.proofs.Rules.{known_here, known_later, known_nowhere, records_fit, first_count, first_at}
use Rattle.catalogue.proofs.rule.is_known.Goals as goal
use Rattle.catalogue.proofs.rule.is_known.Goals.{After-record_at, After-same_rule, In-loop-k}
use Rattle.catalogue.proofs.rule.is_known.Invariants.{among}

-- in a turn the k-th record is there, and it is the k-th of the rules
there : (c : In-loop-k)
    → let a = c.args in a.count * (a.skip + 27) ≤ length a.rules.now
there c =
    records_fit c.args.skip c.args.count c.args.rules.now c.requires.1

cut : (c : After-record_at)
    → let a = c.args in
    (c.record_at.result.now ≡ record_at a.skip c.loop-k.k a.rules.now) × (length c.record_at.result.now ≡ 27)
cut c =
    let a = c.args in
    let here : c.loop-k.k < record_count a.skip a.rules.now = omega (arith, c.loop-k-test.true, c.requires.1) in
    let is = c.record_at.ensures ∙ record_there a.skip a.rules.now c.loop-k.k here in
    (is, ap length is ∙ record_whole a.skip a.rules.now c.loop-k.k here)

inside : (c : In-loop-k)
    → let a = c.args in c.loop-k.k < length (among a.skip a.count a.rules.now)
inside c =
    let a = c.args in omega (arith, first_count a.skip a.count a.rules.now (there c))

met : (c : After-same_rule)
    → let a = c.args in
    c.same_rule.result
    ≡ same_rule (get_or (among a.skip a.count a.rules.now) c.loop-k.k (rule_of (drop a.skip []))) (rule_of a.rule.now)
met c =
    let a = c.args in
    rw (
      first_at a.skip a.count a.rules.now (there (goal.at.After-same_rule c).In-loop-k) c.loop-k.k c.loop-k-test.true,
      ← (cut (goal.at.After-same_rule c).After-record_at).0,
    )
    c.same_rule.ensures

pub loop-k-init : goal.loop-k-init
loop-k-init c = refl

pub same_rule-requires : goal.same_rule-requires
same_rule-requires c = ((cut c).1, c.requires.0)

pub returns-then-same_rule : goal.returns-then-same_rule
returns-then-same_rule c =
    let a = c.args in
    sym (c.loop-k.invariant
    ∙ known_here (rule_of a.rule.now) (among a.skip a.count a.rules.now) c.loop-k.k
    (rule_of (drop a.skip [])) (inside (goal.at.returns-then-same_rule c).In-loop-k) (sym (met (goal.at.returns-then-same_rule c).After-same_rule) ∙ c.if-same_rule.true))

pub loop-k-preserved : goal.loop-k-preserved
loop-k-preserved c =
    let a = c.args in
    c.loop-k.invariant
    ∙ known_later (rule_of a.rule.now) (among a.skip a.count a.rules.now) c.loop-k.k
    (rule_of (drop a.skip [])) (inside (goal.at.loop-k-preserved c).In-loop-k) (sym (met (goal.at.loop-k-preserved c).After-same_rule) ∙ c.if-same_rule.false)

pub returns : goal.returns
returns c =
    let a = c.args in
    let all = records_fit a.skip a.count a.rules.now c.requires.1 in
    sym (c.loop-k.invariant
    ∙ known_nowhere (rule_of a.rule.now) (among a.skip a.count a.rules.now) c.loop-k.k
    (omega (arith, first_count a.skip a.count a.rules.now all)))
