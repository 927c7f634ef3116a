-- `keep_checked` meets its contract: its tests are those of the definition, one after another. Assumes nothing.
use mathlib.Core.Path.{sym, ◌∙◌}
use Rattle.deployment.specs.Contents.{keep_read}
use Rattle.deployment.specs.FieldValues.{keep_value}
use Rattle.catalogue.specs.Answers.{checking}
use Rattle.values.proofs.keep_checked.Goals as goal
use Rattle.values.proofs.keep_checked.Goals.{else-occurs_in-via-then-occurs_in+else-occurs_in-2, else-occurs_in-via-else-occurs_in}

pub returns-then-not-list_fits : goal.returns-then-not-list_fits
unfolding checking keep_value
returns-then-not-list_fits c = rw (sym c.list_fits.ensures ∙ c.if-not-list_fits.true)

pub returns-then-occurs_in-2 : goal.returns-then-occurs_in-2
unfolding checking keep_value keep_read
returns-then-occurs_in-2 c =
    rw (
      sym c.list_fits.ensures ∙ c.if-not-list_fits.false,
      sym c.occurs_in.ensures ∙ c.if-occurs_in.true,
      sym c.occurs_in-then-occurs_in.ensures ∙ c.if-occurs_in-2.true,
    )

pub returns-else-occurs_in : goal.returns-else-occurs_in
unfolding checking keep_value keep_read
returns-else-occurs_in c =
    let listed = sym c.list_fits.ensures ∙ c.if-not-list_fits.false in
    let first = c.occurs_in.ensures in
    elim c.else-occurs_in.branch [
      | else-occurs_in-via-then-occurs_in+else-occurs_in-2 w ↦
          rw (listed, sym first ∙ w.if-occurs_in.true, sym w.occurs_in-then-occurs_in.ensures ∙ w.if-occurs_in-2.false)
      | else-occurs_in-via-else-occurs_in w ↦ rw (listed, sym first ∙ w.if-occurs_in.false)
    ]
