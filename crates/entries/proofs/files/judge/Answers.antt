-- `files::judge` meets its contract: the parts at the places of an accepted file hold its contents, and the verdict on them is the answer. Assumes
-- nothing.
use native.Mathlib.Omega.{arith}
use Rattle.std.proofs.lemmas.Result.{err_from_is_err_and}
use Rattle.deployment.specs.File.{read_to_judge}
use Rattle.deployment.proofs.Bytes.{elements_are_bytes}
use Rattle.deployment.proofs.Lent.{turned_away}
use Rattle.reader.specs.Answers.{value_given}
use Rattle.reader.proofs.ShownReadings.{shown_refused}
use Rattle.entries.specs.Answers.{judged_reading}
use Rattle.entries.proofs.Given.{ToJudge, judge_asks, said, file_to_judge}
use Rattle.entries.proofs.files.judge.Goals as goal
use Rattle.entries.proofs.files.judge.Goals.{After-value_or_empty}

to_judge : (c : After-value_or_empty)
    → ToJudge (read_to_judge c.args.file.now) c.in_ok-layout.layout.rules c.value.result.now c.value-2.result.now
    (value_given c.in_ok-layout.layout.keep c.args.file.now) c.value_or_empty.result.now
to_judge c =
    file_to_judge _ _ (elements_are_bytes _ (λ i. omega (arith, c.type_inv.file i))) c.in_ok-layout.ensures c.value.ensures c.value-2.ensures
    c.value_or_empty.ensures

pub returns-in_err-layout : goal.returns-in_err-layout
unfolding judged_reading
returns-in_err-layout c =
    let p = err_from_is_err_and c.from_residual.result c.from_residual.ensures.1 in
    rw (p.1, p.2) (turned_away _ _ _ (shown_refused _ _ c.in_err-layout.ensures))

pub verdict_of-requires : goal.verdict_of-requires
verdict_of-requires c = judge_asks (to_judge (goal.at.verdict_of-requires c).After-value_or_empty)

pub returns : goal.returns
returns c = said (to_judge (goal.at.returns c).After-value_or_empty) c.verdict_of.ensures
