-- `lists::pageoriole_judge` meets its contract: what the entry answers, told; a script is given, so none is asked for. Assumes nothing.
use mathlib.Core.Path.{refl, ◌∙◌, ap}
use Rattle.values.specs.Answers.{given, values_given}
use Rattle.told.specs.Answers.{judged_told}
use Rattle.told.proofs.Telling.{tells_of}
use Rattle.entries.specs.Answers.{judged_reading}
use Rattle.entries.proofs.JudgeClaims.{script_given}
use Rattle.pageoriole.proofs.lists.pageoriole_judge.Goals as goal

pub returns : goal.returns
unfolding given values_given
returns c =
    let answer = rw c.values-values.ensures at c.judge.ensures in
    tells_of judged_told (answer ∙ ap judged_reading (script_given _ c.args.script.now refl)) c.tell_judged.ensures
