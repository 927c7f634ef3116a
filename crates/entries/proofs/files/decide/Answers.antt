-- `files::decide` meets its contract: the parts at the places of an accepted file are read as its catalogue and its policy, and the decision
-- over them is that of the contents. Assumes nothing.
use native.Mathlib.Omega.{arith}
use Rattle.deployment.specs.File.{read_file}
use Rattle.deployment.proofs.Bytes.{elements_are_bytes}
use Rattle.deployment.proofs.Lent.{turned_away}
use Rattle.reader.proofs.ShownReadings.{file_refused}
use Rattle.reader.proofs.FileAnswers.{Holds, file_holds}
use Rattle.entries.specs.Answers.{decided_reading}
use Rattle.entries.proofs.Decisions.{few_rules, decided_file}
use Rattle.entries.proofs.files.decide.Goals as goal
use Rattle.entries.proofs.files.decide.Goals.{In-Ok}

-- what stands in the file
stands : (c : In-Ok) → Holds (read_file c.args.file.now) c.args.file.now c.in-Ok.layout
stands c = file_holds _ _ (elements_are_bytes _ (λ i. omega (arith, c.type_inv.file i))) c.in-Ok.ensures

pub returns-in-Err : goal.returns-in-Err
unfolding decided_reading
returns-in-Err c = turned_away _ _ _ (file_refused _ _ c.in-Err.ensures)

pub rules_of-requires : goal.rules_of-requires
rules_of-requires c = few_rules (stands (goal.at.rules_of-requires c).In-Ok)

pub returns-in-Ok : goal.returns-in-Ok
returns-in-Ok c =
    let a = c.args in
    decided_file (stands (goal.at.returns-in-Ok c).In-Ok) a.of_target c.asked.ensures c.rules_of.ensures c.value.ensures
    c.value-in-Ok.ensures c.is_some.ensures c.default_of.ensures a.flow c.decided.ensures
