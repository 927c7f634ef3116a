-- `put_judged` meets its contract: the refusal's line, or the verdict's. Assumes nothing.
use native.Mathlib.Omega.{arith}
use mathlib.Core.Path.{sym, ◌∙◌}
use Rattle.lines.proofs.Pieces.{whole_wider}
use Rattle.listing.proofs.JudgeTexts.{printed_refusal, printed_verdict}
use Rattle.listing.proofs.put_judged.Goals as goal

pub returns-in-Err : goal.returns-in-Err
returns-in-Err c =
    let file = c.args.file.now in
    rw (printed_refusal file c.in-Err.refusal (sym c.in-Err.is ∙ c.judge.ensures)) (whole_wider c.put_refused.ensures (omega arith))

pub returns-in-Ok : goal.returns-in-Ok
returns-in-Ok c =
    let file = c.args.file.now in
    rw (printed_verdict file c.in-Ok.v (sym c.in-Ok.is ∙ c.judge.ensures)) (whole_wider c.put_verdict.ensures (omega arith))
