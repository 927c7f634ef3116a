-- `write_planned` meets its contract: a plan that was made has its script in the field, and a refusal is handed on. Assumes nothing.
use mathlib.Core.Path.{◌≡◌, ◌∙◌, ap}
use borrow.Author.Rules.{rules}
use Rattle.deployment.specs.FieldValues.{left_by, unwritten}
use Rattle.deployment.specs.declared.Refusal.{Refusal}
use Rattle.std.specs.Prelude.{Ok, Err}
use Rattle.listing.proofs.PlanTexts.{not_turned, value_reads}
use Rattle.console_writer.proofs.Plans.{done_or_turned, one_refusal, field_text}
use Rattle.console_writer.proofs.files.write_planned.Goals as goal

pub returns-in_err-plan : goal.returns-in_err-plan
unfolding unwritten
returns-in_err-plan c =
    let turned : c.args.answer ≡ Err c.in_err-plan.field-0.0 = c.in_err-plan.was in
    let handed : c.from_residual.result ≡ Err c.in_err-plan.field-0.0 = search rules in
    rw handed
    record {
      refused = λ refusal is. ap (λ (r : Refusal). left_by (Err r) c.args.place.now) (one_refusal turned is);
      written = λ planned reads right. absurd (not_turned reads turned);
    }

pub returns : goal.returns
returns c =
    let plan = c.in_ok-plan.plan in
    let is : c.args.answer ≡ Ok plan = c.in_ok-plan.was in
    record {
      refused = λ refusal turned. absurd (done_or_turned is turned);
      written =
          λ planned reads right.
          c.write_text.ensures (planned.script, value_reads reads plan is, right) ∙ field_text c.args.maker c.args.place.now reads plan is;
    }
