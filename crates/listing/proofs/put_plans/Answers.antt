-- `put_plans` meets its contract: a refusal's line, or both plans of the lists at their places. Assumes nothing.
use native.Mathlib.Omega.{arith}
use mathlib.Core.Path.{sym, ◌∙◌, ap}
use lib.ListN.{length}
use Rattle.deployment.specs.File.{read_file}
use Rattle.deployment.specs.Values.{numbers_of}
use Rattle.deployment.proofs.Bytes.{elements_are_bytes}
use Rattle.reader.proofs.FileAnswers.{Holds, file_holds}
use Rattle.reader.proofs.ShownReadings.{file_refused}
use Rattle.lines.proofs.Pieces.{whole_wider}
use Rattle.listing.proofs.PlanTexts.{printed_refusal}
use Rattle.listing.proofs.put_plans.Goals as goal
use Rattle.listing.proofs.put_plans.Goals.{After-listed-target}

-- the contents that were read stand at these places
held : (c : After-listed-target) → Holds (read_file c.args.file.now) c.args.file.now c.in-Ok.layout
held c =
    let file = c.args.file.now in
    file_holds file c.in-Ok.layout (elements_are_bytes file (λ i. omega (arith, c.type_inv.file i))) (sym c.in-Ok.is ∙ c.read.ensures)

pub put_both-requires : goal.put_both-requires
put_both-requires c =
    let is = held (goal.at.put_both-requires c).After-listed-target in (
      is.contents,
      is.is,
      c.listed-initial.ensures ∙ ap length (ap numbers_of c.value.ensures ∙ is.stands.initial.numbers),
      c.listed-target.ensures ∙ ap length (ap numbers_of c.value-in-Ok.ensures ∙ is.stands.target.numbers),
    )

pub returns-in-Err : goal.returns-in-Err
returns-in-Err c =
    let file = c.args.file.now in
    rw (printed_refusal file c.in-Err.refusal (file_refused file c.in-Err.refusal (sym c.in-Err.is ∙ c.read.ensures)))
    (whole_wider c.put_refused.ensures (omega arith))
