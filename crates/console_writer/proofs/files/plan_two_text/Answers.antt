-- `plan_two_text` meets its contract: the planner turns away as the file is, or leaves its script in the field, and that script's text is written.
-- Assumes nothing.
use Prim.Native.Nat.{ℕ}
use native.Mathlib.Omega.{arith}
use mathlib.Core.List.{List}
use lib.ListN.{replicate, length-replicate}
use Rattle.deployment.proofs.Bytes.{elements_are_bytes}
use Rattle.plans.specs.Plans.{made_two}
use Rattle.listing.proofs.PlanTexts.{two_prints}
use Rattle.console_writer.proofs.Plans.{Found, found, found_answered, plan_text_lem}
use borrow.Author.Rules.{rules}
use Rattle.console_writer.proofs.files.plan_two_text.Goals as goal
use Rattle.console_writer.proofs.files.plan_two_text.Goals.{After-plan_two-answer}

abbrev file : After-plan_two-answer → List ℕ
file c = c.args.file.now

-- what the planner answers, and leaves in the field
two_is : (c : After-plan_two-answer) → Found made_two (file c) c.plan_two-answer.result c.plan_two-answer.new.place
two_is c =
    found made_two (file c) two_prints (elements_are_bytes (file c) (λ i. omega (arith, c.type_inv.file i)))
    (replicate 5124 0) (length-replicate {A = ℕ} 5124 0) (search rules) c.plan_two-answer.ensures

pub returns : goal.returns
returns c =
    let args = c.args in
    plan_text_lem made_two (file (goal.at.returns c).After-plan_two-answer) args.maker args.place.now (two_is (goal.at.returns c).After-plan_two-answer) c.write_planned.ensures

pub write_planned-requires : goal.write_planned-requires
write_planned-requires c =
    found_answered made_two (file (goal.at.write_planned-requires c).After-plan_two-answer) (two_is (goal.at.write_planned-requires c).After-plan_two-answer)
