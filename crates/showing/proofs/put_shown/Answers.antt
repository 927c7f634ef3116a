-- `put_shown` meets its contract: a refusal's line, or the text of what the file holds. Assumes nothing.
use native.Mathlib.Omega.{arith}
use mathlib.Core.Path.{sym, ◌∙◌}
use Rattle.reader.proofs.ShownReadings.{file_refused}
use Rattle.lines.proofs.Pieces.{whole_wider}
use Rattle.showing.proofs.ShownTexts.{printed_refusal}
use Rattle.showing.proofs.put_shown.Goals as goal

pub returns-in-Err : goal.returns-in-Err
returns-in-Err c =
    let file = c.args.file.now in
    let refusal = c.in-Err.refusal in
    rw (printed_refusal file refusal (file_refused file refusal (sym c.in-Err.is ∙ c.read.ensures)))
    (whole_wider c.put_refused.ensures (omega arith))
