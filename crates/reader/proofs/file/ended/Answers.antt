-- `ended` meets its contract: a target has been read exactly when the last tag is not below its own. Assumes nothing.
use mathlib.Core.Path.{ap}
use Rattle.reader.specs.declared.file.Progress.{Progress}
use Rattle.reader.specs.Steps.{progress_of}
use Rattle.reader.proofs.Reading.{ended_early, ended_late}
use Rattle.reader.proofs.file.ended.Goals as goal

pub returns-then-progress-lt-TARGET_TAG : goal.returns-then-progress-lt-TARGET_TAG
unfolding progress_of
returns-then-progress-lt-TARGET_TAG c =
    let p = c.args.progress in
    λ f r known. ended_early f (rw (ap (λ (p : Progress). p.last) known) at c.if-progress-lt-TARGET_TAG.true) p.at

pub returns : goal.returns
unfolding progress_of
returns c =
    let p = c.args.progress in
    λ f r known.
    rw (ap (λ (p : Progress). p.layout) known)
    (ended_late f r (rw (ap (λ (p : Progress). p.last) known) at c.if-progress-lt-TARGET_TAG.false) p.at)
