-- `files::plan_one` meets its contract: a file that is turned away leaves the place as it was; else the values of its lists are planned.
-- Assumes nothing.
use native.Mathlib.Omega.{arith}
use mathlib.Core.Path.{refl}
use Rattle.std.proofs.lemmas.Result.{err_from_is_err_and}
use Rattle.deployment.specs.File.{read_file}
use Rattle.deployment.proofs.Bytes.{elements_are_bytes}
use Rattle.deployment.proofs.Lent.{turned_away}
use Rattle.reader.specs.Answers.{value_given}
use Rattle.reader.proofs.ShownReadings.{file_refused}
use Rattle.reader.proofs.FileAnswers.{file_holds}
use Rattle.entries.specs.Answers.{planned}
use Rattle.entries.proofs.Given.{Given, planners_ask, one_planned, file_given}
use Rattle.entries.proofs.files.plan_one.Goals as goal
use Rattle.entries.proofs.files.plan_one.Goals.{After-value-2}

given : (c : After-value-2)
    → Given (read_file c.args.file.now) c.in_ok-layout.layout.rules c.value.result.now c.value-2.result.now
    (value_given c.in_ok-layout.layout.keep c.args.file.now)
given c =
    file_given (file_holds _ _ (elements_are_bytes _ (λ i. omega (arith, c.type_inv.file i))) c.in_ok-layout.ensures)
    c.value.ensures c.value-2.ensures refl

pub returns-in_err-layout : goal.returns-in_err-layout
unfolding planned
returns-in_err-layout c =
    let p = err_from_is_err_and c.from_residual.result c.from_residual.ensures.1 in
    rw (p.1, p.2) (turned_away _ _ _ (file_refused _ _ c.in_err-layout.ensures))

pub plan_one-requires : goal.plan_one-requires
plan_one-requires c = let a = planners_ask (given (goal.at.plan_one-requires c).After-value-2) in (a.0.first, a.1, a.2)

pub returns : goal.returns
returns c = one_planned (given (goal.at.returns c).After-value-2) c.args.place.now c.plan_one.ensures
