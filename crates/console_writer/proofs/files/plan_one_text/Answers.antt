-- `plan_one_text` meets its contract: the planner turns away as the file is, or leaves its script in the field, and that script's text is written.
-- Assumes nothing.
use Prim.Native.Nat.{ℕ}
use native.Mathlib.Omega.{arith}
use mathlib.Core.List.{List}
use lib.ListN.{replicate, length-replicate}
use Rattle.deployment.proofs.Bytes.{elements_are_bytes}
use Rattle.plans.specs.Plans.{made_one}
use Rattle.listing.proofs.PlanTexts.{one_prints}
use Rattle.console_writer.proofs.Plans.{Found, found, found_answered, plan_text_lem}
use borrow.Author.Rules.{rules}
use Rattle.console_writer.proofs.files.plan_one_text.Goals as goal
use Rattle.console_writer.proofs.files.plan_one_text.Goals.{After-plan_one-answer}

abbrev file : After-plan_one-answer → List ℕ
file c = c.args.file.now

-- what the planner answers, and leaves in the field
one_is : (c : After-plan_one-answer) → Found made_one (file c) c.plan_one-answer.result c.plan_one-answer.new.place
one_is c =
    found made_one (file c) one_prints (elements_are_bytes (file c) (λ i. omega (arith, c.type_inv.file i)))
    (replicate 5124 0) (length-replicate {A = ℕ} 5124 0) (search rules) c.plan_one-answer.ensures

pub returns : goal.returns
returns c =
    let args = c.args in
    plan_text_lem made_one (file (goal.at.returns c).After-plan_one-answer) args.maker args.place.now (one_is (goal.at.returns c).After-plan_one-answer) c.write_planned.ensures

pub write_planned-requires : goal.write_planned-requires
write_planned-requires c =
    found_answered made_one (file (goal.at.write_planned-requires c).After-plan_one-answer) (one_is (goal.at.write_planned-requires c).After-plan_one-answer)
