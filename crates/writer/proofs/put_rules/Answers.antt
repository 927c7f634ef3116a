-- `writer::put_rules` meets its contract. The loop's invariant: what is stored from the start on, and the fields of the rules that are
-- left behind it, are the fields of all rules. Assumes nothing.
use Prim.Native.Nat.{◌/◌}
use native.Mathlib.Omega.{arith}
use mathlib.Core.Path.{◌≡◌, refl, sym, ◌∙◌, ap}
use mathlib.Core.List.{[], ◌++◌, append_assoc, append-nil}
use lib.ListN.{length, length-append}
use Rattle.deployment.specs.File.{rule_tag, field_bytes}
use Rattle.deployment.proofs.Storing.{stored_more}
use Rattle.writer.specs.Answers.{rules_bytes}
use Rattle.writer.proofs.Pieces.{rules_next, no_rules, length_all_rules}
use Rattle.writer.proofs.put_rules.Goals as goal
use Rattle.writer.proofs.put_rules.Goals.{In-Some}

pub loop-rule-init : goal.loop-rule-init
loop-rule-init c =
    rw (c.into_iter-rule-iterator.ensures.into_iter_gives, c.chunks_exact-rule-items.ensures.size, c.chunks_exact-rule-items.ensures.rest)
    (refl, ([], record { place = refl; end = omega arith }, refl))

-- a turn: the first rule that is left, its field, and what is left behind it
next_rule : (c : In-Some) → length c.in-Some.rule.now ≡ 27
next_rule c = c.in-Some.ensures.steps.1.1 ∙ c.loop-rule.invariant.0

next_field : (c : In-Some)
    → let rest = c.loop-rule.rule-iterator.rest.now in
    let others = c.next.new.self.rest.now in
    rules_bytes (length rest / 27) rest ≡ field_bytes rule_tag c.in-Some.rule.now ++ rules_bytes (length others / 27) others
next_field c = rw c.in-Some.ensures.steps.1.0 (rules_next c.in-Some.rule.now c.next.new.self.rest.now (next_rule c))

pub put_field-at-requires : goal.put_field-at-requires
put_field-at-requires c =
    let turn = (goal.at.put_field-at-requires c).In-Some in
    let rest = c.loop-rule.rule-iterator.rest.now in
    let (sized, (done, stored, all)) = c.loop-rule.invariant in
    let long = next_rule turn in (
      omega (
        arith,
        stored.end,
        ap length all,
        length-append done (rules_bytes (length rest / 27) rest),
        length_all_rules rest,
        length_all_rules c.args.rules.now,
        ap length c.in-Some.ensures.steps.1.0,
        length-append c.in-Some.rule.now c.next.new.self.rest.now,
        c.loop-rule.auto.place,
      ),
      omega arith,
    )

pub loop-rule-preserved : goal.loop-rule-preserved
loop-rule-preserved c =
    let turn = (goal.at.loop-rule-preserved c).In-Some in
    let (sized, (done, stored, all)) = c.loop-rule.invariant in (
      c.in-Some.ensures.steps.0 ∙ sized,
      (
        done ++ field_bytes rule_tag c.in-Some.rule.now,
        stored_more stored c.put_field-at.ensures,
        rw append_assoc (rw (next_field turn) at all),
      ),
    )

pub returns : goal.returns
returns c =
    let rest = c.loop-rule.rule-iterator.rest.now in
    let (sized, (done, stored, all)) = c.loop-rule.invariant in
    let none_left = no_rules rest (omega (arith, c.in-None.ensures.steps.1.0, sized)) in
    rw (sym all, none_left, append-nil) stored
