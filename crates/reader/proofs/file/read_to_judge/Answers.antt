-- `read_to_judge` meets its contract: what `read` answers, refused where the layout has no script. Assumes nothing.
use mathlib.Core.Path.{◌≡◌, ◌∙◌}
use Rattle.std.proofs.Common.{rules, Err}
use Rattle.reader.proofs.ToJudge.{refused_too, no_script, has_script}
use Rattle.reader.proofs.file.read_to_judge.Goals as goal

pub returns-in_err-layout : goal.returns-in_err-layout
returns-in_err-layout c =
    let away : c.from_residual.result ≡ Err c.in_err-layout.field-0.0 = search rules in
    away ∙ refused_too c.args.file.now _ c.in_err-layout.ensures

pub returns-then-is_none : goal.returns-then-is_none
returns-then-is_none c = no_script c.args.file.now c.in_ok-layout.layout c.in_ok-layout.ensures c.if-is_none.ensures

pub returns : goal.returns
returns c = has_script c.args.file.now c.in_ok-layout.layout c.in_ok-layout.ensures c.if-is_none.ensures
