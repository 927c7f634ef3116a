-- `put_script` meets its contract. The loop's invariant: the lines of the first k commands stand from the start on, and with those that are
-- left they are the whole text. Assumes nothing.
use native.Mathlib.Omega.{arith}
use mathlib.Core.Path.{refl, sym, ◌∙◌}
use Rattle.console.specs.Makers.{said}
use Rattle.deployment.specs.Values.{script_of}
use Rattle.replay.specs.Answers.{commands_of}
use Rattle.replay.proofs.Scripts.{script_count, never_wrong}
use Rattle.lines.proofs.Lines.{next_command, no_lines, one_line, all_lines}
use Rattle.console_text.specs.Text.{line_of, lines_of, script_text}
use Rattle.console_writer.proofs.put_script.Goals as goal
use Rattle.console_writer.proofs.put_script.Invariants.{from}

pub loop-k-init : goal.loop-k-init
loop-k-init c =
    let a = c.args in
    λ readable. no_lines (from a.maker) 0 (commands_of (script_of a.script.now)) a.place.now 0

pub loop-k-preserved : goal.loop-k-preserved
unfolding script_text lines_of
loop-k-preserved c =
    let a = c.args in
    let script = a.script.now in
    let k = c.loop-k.k in
    let command = c.in-Some.c in
    λ readable.
    one_line (from a.maker) 0 (commands_of (script_of script)) k (c.loop-k.invariant readable) command (line_of a.maker (said a.maker command))
    (next_command script readable k command (omega arith) (sym c.in-Some.is ∙ c.command_at.ensures)) refl c.put_line-next.ensures

pub returns : goal.returns
unfolding script_text lines_of
returns c =
    let a = c.args in
    let script = a.script.now in
    λ readable.
    all_lines (from a.maker) 0 (commands_of (script_of script)) c.loop-k.k (c.loop-k.invariant readable) (omega (arith, script_count script readable)) refl

-- no command of a script that is read is wrong
pub returns-in_default : goal.returns-in_default
returns-in_default c =
    λ readable. absurd (never_wrong c.args.script.now readable c.loop-k.k (omega arith) (sym c.in_default.is ∙ c.command_at.ensures))
