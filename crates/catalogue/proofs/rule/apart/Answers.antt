-- `apart` meets its contract. The loop's invariant: the first k rules differ from all before them, and the table has their marks. Assumes
-- nothing.
use Prim.Native.Nat.{ℕ, suc, ◌+◌, ◌*◌, ◌/◌, ◌%◌, ◌≤◌, ◌<◌}
use native.Mathlib.Omega.{arith}
use mathlib.Core.Path.{◌≡◌, sym, ◌∙◌, ap, subst}
use mathlib.Core.Bool.{false}
use lib.ListN.{length, take, get_or, set}
use borrow.Author.Rules.{rules}
use Rattle.deployment.specs.Values.{rule_of, known}
use Rattle.deployment.specs.Catalogue.{record_count, catalogue_of}
use Rattle.deployment.specs.Properties.{AreBytes}
use Rattle.deployment.proofs.Bytes.{elements_are_bytes}
use Rattle.deployment.proofs.Records.{record_at, record_there, record_whole}
use Rattle.catalogue.specs.RuleMarks.{mark, may_hold, with_tag}
use Rattle.catalogue.proofs.Rules.{records_fit, first_fits}
use Rattle.catalogue.proofs.Marking.{
  mark_at,
  holds_mark,
  Marked,
  unmarked,
  unless_suspect,
  marked_none,
  marked_more,
  apart_none,
  apart_more,
}
use Rattle.catalogue.proofs.rule.apart.Goals as goal
use Rattle.catalogue.proofs.rule.apart.Goals.{After-known_if, After-mark_of-mark, After-record_at-rule, In-loop-k}

-- in a turn the k-th record is there
there : (c : In-loop-k)
    → let a = c.args in c.loop-k.k < record_count a.skip a.rules.now
there c = omega (arith, c.records-top.ensures, c.loop-k-test.true)

fits : (c : In-loop-k)
    → let a = c.args in suc c.loop-k.k * (a.skip + 27) ≤ length a.rules.now
fits c =
    let a = c.args in
    records_fit a.skip (suc c.loop-k.k) a.rules.now (omega (arith, there c))

inside : (c : In-loop-k)
    → let a = c.args in
    c.loop-k.k * (a.skip + 27) + a.skip + 27 ≤ length a.rules.now
inside c =
    let a = c.args in
    first_fits a.skip (suc c.loop-k.k) a.rules.now (fits c) c.loop-k.k (omega arith)

rule_is : (c : After-record_at-rule)
    → let a = c.args in
    c.record_at-rule.result.now ≡ record_at a.skip c.loop-k.k a.rules.now
rule_is c =
    let a = c.args in
    c.record_at-rule.ensures ∙ record_there a.skip a.rules.now c.loop-k.k (there (goal.at.After-record_at-rule c).In-loop-k)

long : (c : After-record_at-rule) → length c.record_at-rule.result.now ≡ 27
long c =
    let a = c.args in
    ap length (rule_is c) ∙ record_whole a.skip a.rules.now c.loop-k.k (there (goal.at.After-record_at-rule c).In-loop-k)

marked : (c : After-mark_of-mark)
    → let a = c.args in
    c.mark_of-mark.result ≡ mark_at a.skip c.loop-k.k a.rules.now
marked c = c.mark_of-mark.ensures.0 ∙ ap mark (rule_is (goal.at.After-mark_of-mark c).After-record_at-rule)

-- the k-th rule differs from all before it, where it wasn't found among them
differs : (c : After-known_if) → c.known_if.result ≡ false
    → let a = c.args in
    known (rule_of (record_at a.skip c.loop-k.k a.rules.now)) (take c.loop-k.k (catalogue_of a.skip a.rules.now)) ≡ false
differs c not_found =
    let a = c.args in
    let rules = a.rules.now in
    let cells = c.loop-k.cells in
    let m = c.mark_of-mark.result in
    let are : AreBytes rules = elements_are_bytes rules (λ i. omega (arith, c.type_inv.rules i)) in
    let suspected : c.may_hold.result ≡ holds_mark cells m =
    c.may_hold.ensures ∙ ap (λ tag. may_hold (get_or cells (m / 256) 0) tag) c.tag_of-tag.ensures in
    unless_suspect c.may_hold.result _
    (rw (← rule_is (goal.at.After-known_if c).After-record_at-rule) (sym c.known_if.ensures ∙ not_found))
    (λ new.
    unmarked a.skip rules are c.loop-k.k (fits (goal.at.After-known_if c).In-loop-k) cells c.loop-k.invariant.1
    (ap (holds_mark cells) (sym (marked (goal.at.After-known_if c).After-mark_of-mark)) ∙ sym suspected ∙ new))

pub loop-k-init : goal.loop-k-init
loop-k-init c =
    let a = c.args in
    (apart_none a.skip a.rules.now, marked_none a.skip a.rules.now _ (search rules))

pub other_field-requires : goal.other_field-requires
other_field-requires c = inside c

pub returns-then-other_field : goal.returns-then-other_field
returns-then-other_field c = c.loop-k.invariant.0

pub bounds-cells-place : goal.bounds-cells-place
bounds-cells-place c = omega (arith, c.mark_of-mark.ensures.1)

pub known_if-requires : goal.known_if-requires
known_if-requires c = (long (goal.at.known_if-requires c).After-record_at-rule, omega (arith, there (goal.at.known_if-requires c).In-loop-k))

pub returns-then-known_if : goal.returns-then-known_if
returns-then-known_if c = c.loop-k.invariant.0

pub bounds-cells-place-in-loop-k : goal.bounds-cells-place-in-loop-k
bounds-cells-place-in-loop-k c = omega (arith, c.mark_of-mark.ensures.1)

pub loop-k-preserved : goal.loop-k-preserved
loop-k-preserved c =
    let a = c.args in
    let k = c.loop-k.k in
    let cells = c.loop-k.cells in
    let m = c.mark_of-mark.result in
    let kept : c.with_tag.result ≡ with_tag (get_or cells (m / 256) 0) (m % 254 + 1) =
    c.with_tag.ensures ∙ ap (with_tag (get_or cells (m / 256) 0)) c.tag_of-tag.ensures in (
      apart_more a.skip k a.rules.now c.loop-k.invariant.0 (differs (goal.at.loop-k-preserved c).After-known_if c.if-known_if.false),
      subst (λ (cell : ℕ). Marked a.skip (k + 1) a.rules.now (set cells (m / 256) cell)) (sym kept)
          (marked_more a.skip k a.rules.now cells m (marked (goal.at.loop-k-preserved c).After-mark_of-mark) c.mark_of-mark.ensures.1 c.loop-k.invariant.1),
    )

pub returns : goal.returns
returns c =
    let all : c.loop-k.k ≡ c.records-top.result = omega arith in
    rw all at c.loop-k.invariant.0
