-- `rule_of` meets its contract: where a part of the rule isn't read the line is 57, and where all are read the ports decide. Assumes nothing.
use mathlib.Core.Path.{◌≡◌, refl, sym, ◌∙◌}
use mathlib.Core.Bool.{true}
use Rattle.policy.proofs.Tests.{never, and_both, both_and}
use Rattle.lines.specs.Text.{text}
use Rattle.iptables.specs.Options.{even}
use Rattle.iptables_rule.specs.Found.{words_from, given_from, rule_of, rule_read_told}
use Rattle.iptables_rule.proofs.Finding.{target_is, target_not}
use Rattle.iptables_rule.proofs.Turns.{known}
use Rattle.iptables_rule.proofs.Ruling.{stand, Parts, unread, low_above, read, all_parts, no_parts}
use Rattle.iptables_rule.proofs.rule_of.Goals as goal
use Rattle.iptables_rule.proofs.rule_of.Goals.{Else-not-options_stand, In-Some-ranges_given, then-not-options_known-via-then-not-options_known, then-not-options_known-via-else-not-options_known+then-not-options_stand}

are_known : (c : Else-not-options_stand) → let args = c.args in
    (even (words_from args.at args.line.now) ≡ true) × (known (given_from args.at args.line.now) ≡ true)
are_known c = and_both _ _ (sym c.options_known.ensures ∙ c.if-not-options_known.false)

all_stand : (c : Else-not-options_stand) → let args = c.args in stand (given_from args.at args.line.now) ≡ true
unfolding text
all_stand c = sym c.options_stand.ensures ∙ c.if-not-options_stand.false

parts : (c : In-Some-ranges_given) → let args = c.args in
    Parts (given_from args.at args.line.now) (rule_of c.in-Some.action c.in-Some-ranges_given.ranges)
unfolding text
parts c =
    let at = (goal.at.In-Some-ranges_given c).Else-not-options_stand in
    all_parts (target_is _ _ c.in-Some.ensures) c.in-Some-ranges_given.ensures (are_known at).1 (all_stand at)

-- 57: an option that isn't known, or doesn't stand where it may
pub returns-then-not-options_known : goal.returns-then-not-options_known
unfolding text given_from rule_read_told
returns-then-not-options_known c =
    rw (unread (words_from c.args.at c.args.line.now) λ r whole parts.
    elim c.then-not-options_known.branch [
      | then-not-options_known-via-then-not-options_known w ↦
          never (both_and whole parts.all_known) (sym c.options_known.ensures ∙ w.if-not-options_known.true)
      | then-not-options_known-via-else-not-options_known+then-not-options_stand w ↦
          never parts.all_stand (sym w.options_stand.ensures ∙ w.if-not-options_stand.true)
    ]) refl

-- 57: not one target
pub returns-in_default : goal.returns-in_default
unfolding text given_from rule_read_told
returns-in_default c =
    rw (unread (words_from c.args.at c.args.line.now) λ r whole parts.
    target_not _ (sym c.in_default.is ∙ c.target_given.ensures) r.action parts.target) refl

-- 57: a range that isn't read
pub returns-in_default-ranges_given : goal.returns-in_default-ranges_given
unfolding given_from rule_read_told
returns-in_default-ranges_given c =
    rw (unread (words_from c.args.at c.args.line.now) λ r whole parts.
    no_parts _ (sym c.in_default-ranges_given.is ∙ c.ranges_given.ensures) r parts) refl

-- 58, or the rule
pub returns-then-not-ports_rise : goal.returns-then-not-ports_rise
unfolding given_from rule_read_told
returns-then-not-ports_rise c =
    let at = goal.at.returns-then-not-ports_rise c in
    rw (low_above (words_from c.args.at c.args.line.now) _ (are_known at.Else-not-options_stand).0 (parts at.In-Some-ranges_given)
    (sym c.ports_rise.ensures ∙ c.if-not-ports_rise.true)) refl

pub returns : goal.returns
unfolding given_from rule_read_told
returns c =
    let at = goal.at.returns c in
    rw (
      read (words_from c.args.at c.args.line.now) _ (are_known at.Else-not-options_stand).0 (parts at.In-Some-ranges_given)
          (sym c.ports_rise.ensures ∙ c.if-not-ports_rise.false),
      c.record_of.ensures,
    ) refl
