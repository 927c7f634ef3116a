-- `files::plan_two` meets its contract: a file that is turned away leaves the place as it was; else the values of its lists are planned.
-- Assumes nothing.
use native.Mathlib.Omega.{arith}
use Rattle.std.proofs.lemmas.Result.{err_from_is_err_and}
use Rattle.deployment.specs.File.{read_file}
use Rattle.deployment.specs.FieldValues.{lent}
use Rattle.deployment.proofs.Bytes.{elements_are_bytes}
use Rattle.deployment.proofs.Lent.{turned_away}
use Rattle.reader.proofs.ShownReadings.{file_refused}
use Rattle.reader.proofs.FileAnswers.{file_holds}
use Rattle.entries.specs.Answers.{planned}
use Rattle.entries.proofs.Given.{Given, planners_ask, two_planned, file_given}
use Rattle.entries.proofs.files.plan_two.Goals as goal
use Rattle.entries.proofs.files.plan_two.Goals.{After-value_given}

given : (c : After-value_given)
    → Given (read_file c.args.file.now) c.in_ok-layout.layout.rules c.value.result.now c.value-2.result.now (lent c.value_given.result)
given c =
    file_given (file_holds _ _ (elements_are_bytes _ (λ i. omega (arith, c.type_inv.file i))) c.in_ok-layout.ensures)
    c.value.ensures c.value-2.ensures c.value_given.ensures

pub returns-in_err-layout : goal.returns-in_err-layout
unfolding planned
returns-in_err-layout c =
    let p = err_from_is_err_and c.from_residual.result c.from_residual.ensures.1 in
    rw (p.1, p.2) (turned_away _ _ _ (file_refused _ _ c.in_err-layout.ensures))

pub plan_two-requires : goal.plan_two-requires
plan_two-requires c = planners_ask (given (goal.at.plan_two-requires c).After-value_given)

pub returns : goal.returns
returns c = two_planned (given (goal.at.returns c).After-value_given) c.args.place.now c.plan_two.ensures
