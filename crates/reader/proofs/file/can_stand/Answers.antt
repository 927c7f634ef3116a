-- `can_stand` meets its contract: by the last tag, the tags that can stand after it. Assumes nothing.
use native.Mathlib.Omega.{arith}
use mathlib.Core.Path.{◌≡◌, ◌∙◌}
use mathlib.Core.List.{[], ◌∷◌}
use borrow.Author.Tests.{ne_eqb}
use Rattle.policy.specs.Lists.{mem}
use Rattle.deployment.specs.File.{tags_after}
use Rattle.reader.proofs.Heads.{first_tag, later_tag, second_tag, only_tag}
use Rattle.reader.proofs.file.can_stand.Goals as goal
use Rattle.reader.proofs.file.can_stand.Goals.{then-tag-eq-DEFAULT_TAG, else-tag-eq-DEFAULT_TAG}

pub returns-then-tag-eq-RULE_TAG : goal.returns-then-tag-eq-RULE_TAG
unfolding tags_after
returns-then-tag-eq-RULE_TAG c = rw c.in-1.is (first_tag c.args.tag 1 (2 ∷ []) c.if-tag-eq-RULE_TAG.true)

pub returns-else-tag-eq-RULE_TAG : goal.returns-else-tag-eq-RULE_TAG
unfolding tags_after
returns-else-tag-eq-RULE_TAG c = rw c.in-1.is (second_tag c.args.tag 1 2 c.if-tag-eq-RULE_TAG.false)

pub returns-in-2 : goal.returns-in-2
unfolding tags_after
returns-in-2 c = rw c.in-2.is (only_tag c.args.tag 3)

pub returns-then-tag-eq-KEEP_TAG : goal.returns-then-tag-eq-KEEP_TAG
unfolding tags_after
returns-then-tag-eq-KEEP_TAG c =
    let tag = c.args.tag in
    rw c.in-3.is
    (elim c.if-tag-eq-DEFAULT_TAG.branch [
      | then-tag-eq-DEFAULT_TAG w ↦ w.t-6-is ∙ first_tag tag 6 (4 ∷ 5 ∷ []) w.if-tag-eq-DEFAULT_TAG.true
      | else-tag-eq-DEFAULT_TAG w ↦
          let isnt = w.if-tag-eq-DEFAULT_TAG.false in
          let four : tag ≡ 4 = omega (arith, isnt) in
          w.t-6-is ∙ first_tag tag 4 (5 ∷ []) four ∙ later_tag tag 6 (4 ∷ 5 ∷ []) isnt
    ])

pub returns-else-tag-eq-KEEP_TAG : goal.returns-else-tag-eq-KEEP_TAG
unfolding tags_after
returns-else-tag-eq-KEEP_TAG c =
    let tag = c.args.tag in
    let isnt = c.if-tag-eq-KEEP_TAG.false in
    rw c.in-3.is (second_tag tag 4 5 isnt.1 ∙ later_tag tag 6 (4 ∷ 5 ∷ []) isnt.0)

pub returns-then-tag-eq-KEEP_TAG-2 : goal.returns-then-tag-eq-KEEP_TAG-2
unfolding tags_after
returns-then-tag-eq-KEEP_TAG-2 c = rw c.in-6.is (first_tag c.args.tag 4 (5 ∷ []) c.if-tag-eq-KEEP_TAG-2.true)

pub returns-else-tag-eq-KEEP_TAG-2 : goal.returns-else-tag-eq-KEEP_TAG-2
unfolding tags_after
returns-else-tag-eq-KEEP_TAG-2 c = rw c.in-6.is (second_tag c.args.tag 4 5 c.if-tag-eq-KEEP_TAG-2.false)

pub returns-in-4 : goal.returns-in-4
unfolding tags_after
returns-in-4 c = rw c.in-4.is (only_tag c.args.tag 5)

pub returns-in_default : goal.returns-in_default
unfolding tags_after mem
returns-in_default c =
    let last = c.args.last in
    rw (
      ne_eqb last 1 (λ e. omega arith),
      ne_eqb last 2 (λ e. omega arith),
      ne_eqb last 3 (λ e. omega arith),
      ne_eqb last 6 (λ e. omega arith),
      ne_eqb last 4 (λ e. omega arith),
    )
