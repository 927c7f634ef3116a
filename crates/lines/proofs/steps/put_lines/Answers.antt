-- `put_lines` meets its contract. The loop's invariant: the lines of the first k commands stand from the start on, and with those that are
-- left they are all lines. Assumes nothing.
use Rattle.std.proofs.Common.{◌≡◌, suc, ◌+◌, ◌<◌, ◌∷◌, drop, sym, refl, ◌∙◌, arith}
use Rattle.deployment.specs.Values.{script_of}
use Rattle.deployment.specs.Commands.{command_count}
use Rattle.replay.specs.Answers.{commands_of, Readable}
use Rattle.replay.proofs.Scripts.{script_count, never_wrong}
use Rattle.lines.specs.Text.{line_text, lines_text}
use Rattle.lines.proofs.Lines.{next_command, no_lines, one_line, all_lines}
use Rattle.lines.proofs.steps.put_lines.Goals as goal
use Rattle.lines.proofs.steps.put_lines.Goals.{In-Some, In-loop-k}

-- the loop's test, in the words of the definition
inside : (c : In-loop-k) → c.loop-k.k < command_count c.args.script.now
inside c = omega (arith, c.loop-k-test.true, c.commands-k-end.ensures)

-- the k-th command, and those behind it
next_is : (c : In-Some) →
    let value = c.args.script.now in
    let script = commands_of (script_of value) in
    Readable value → drop c.loop-k.k script ≡ c.in-Some.c ∷ drop (suc c.loop-k.k) script
next_is c readable =
    next_command c.args.script.now readable c.loop-k.k c.in-Some.c (inside (goal.at.In-Some c).In-loop-k)
    (sym c.in-Some.is ∙ c.command_at.ensures)

pub loop-k-init : goal.loop-k-init
loop-k-init c =
    let args = c.args in
    λ readable. no_lines lines_text 1 (commands_of (script_of args.script.now)) args.place.now args.at

pub returns-in_default : goal.returns-in_default
returns-in_default c =
    λ readable. absurd (never_wrong c.args.script.now readable c.loop-k.k (inside (goal.at.returns-in_default c).In-loop-k)
    (sym c.in_default.is ∙ c.command_at.ensures))

pub loop-k-preserved : goal.loop-k-preserved
unfolding lines_text
loop-k-preserved c =
    let k = c.loop-k.k in
    λ readable.
    one_line lines_text 1 (commands_of (script_of c.args.script.now)) k (c.loop-k.invariant readable) c.in-Some.c
    (line_text (k + 1) c.in-Some.c) (next_is (goal.at.loop-k-preserved c).In-Some readable) refl c.put_line-next.ensures

pub returns : goal.returns
unfolding lines_text
returns c =
    λ readable.
    all_lines lines_text 1 (commands_of (script_of c.args.script.now)) c.loop-k.k (c.loop-k.invariant readable)
    (omega (arith, script_count c.args.script.now readable, c.loop-k-test.false, c.commands-k-end.ensures)) refl
