-- `put_both` meets its contract: what each planner leaves in the field reads as its plan, and each block stands behind the one
-- before. Assumes nothing.
use Prim.Native.Nat.{ℕ}
use native.Mathlib.Omega.{arith}
use lib.ListN.{replicate, length-replicate}
use Rattle.deployment.specs.Contents.{Contents}
use Rattle.deployment.specs.Properties.{Valid}
use Rattle.deployment.proofs.Bytes.{elements_are_bytes}
use Rattle.deployment.proofs.Reader.{written_again}
use Rattle.plans.specs.Plans.{made_one, made_two}
use Rattle.listing.specs.Printing.{Reads}
use Rattle.listing.proofs.PlanTexts.{planned_reads, one_prints, two_prints, all_printed}
use borrow.Author.Rules.{rules}
use Rattle.listing.proofs.put_both.Goals as goal
use Rattle.listing.proofs.put_both.Goals.{After-plan_one-one, After-plan_two-two}

-- the file's contents, and what each planner leaves
abbrev contents : After-plan_one-one → Contents
contents c = c.requires.0

valid : (c : After-plan_one-one) → Valid (contents c)
valid c =
    (written_again c.args.file.now (contents c) (elements_are_bytes c.args.file.now (λ i. omega (arith, c.type_inv.file i)))
    c.requires.1
    ).0

one_is : (c : After-plan_one-one) → Reads c.plan_one-one.result c.plan_one-one.new.place (made_one (contents c))
one_is c =
    planned_reads (one_prints (contents c) (valid c)) (replicate 5124 0) (length-replicate {A = ℕ} 5124 0) c.plan_one-one.result c.plan_one-one.new.place
    (search rules) (rw c.requires.1 at c.plan_one-one.ensures)

two_is : (c : After-plan_two-two) → Reads c.plan_two-two.result c.plan_two-two.new.place (made_two (contents (goal.at.After-plan_two-two c).After-plan_one-one))
two_is c =
    planned_reads (two_prints (contents (goal.at.After-plan_two-two c).After-plan_one-one) (valid (goal.at.After-plan_two-two c).After-plan_one-one)) c.plan_one-one.new.place (search rules) c.plan_two-two.result c.plan_two-two.new.place
    (search rules) (rw c.requires.1 at c.plan_two-two.ensures)

pub returns : goal.returns
returns c =
    all_printed (contents (goal.at.returns c).After-plan_one-one) (valid (goal.at.returns c).After-plan_one-one) c.args.initial c.args.target c.requires.2 c.requires.3
    (c.put_plan-next.ensures _ (one_is (goal.at.returns c).After-plan_one-one)) (c.put_plan.ensures _ (two_is (goal.at.returns c).After-plan_two-two))
    c.args.file.now c.requires.1

pub put_plan-next-requires : goal.put_plan-next-requires
put_plan-next-requires c = (_, one_is (goal.at.put_plan-next-requires c).After-plan_one-one)

pub put_plan-requires : goal.put_plan-requires
put_plan-requires c = (_, two_is (goal.at.put_plan-requires c).After-plan_two-two)
