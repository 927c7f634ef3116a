-- `next_at` meets its contract: the numbers of a line are tested as they are held, and within the bounds they are the line's own, so that both fit
-- into two bytes. Assumes nothing.
use Prim.Native.Nat.{◌≤◌}
use native.Mathlib.Omega.{arith}
use mathlib.Core.Path.{◌≡◌}
use mathlib.Core.Logic.{inl, inr}
use lib.ListN.{drop}
use borrow.Author.Rules.{rules}
use Rattle.std.specs.Prelude.{Err}
use Rattle.deployment.specs.declared.Why.TheVariants.{NoCommand}
use Rattle.console_text.specs.Reading.{most_number, most_second}
use Rattle.console_reader.proofs.OneLine.{none_why, no_line, LineAt, line_at, line_beyond, heard_fits, line_read_lem, line_wrong}
use Rattle.console_reader.proofs.next_at.Goals as goal
use Rattle.console_reader.proofs.next_at.Goals.{In_ok-line, Else-most_second-line, then-line-gt-MOST_NUMBER-via-then-line-gt-MOST_NUMBER, then-line-gt-MOST_NUMBER-via-else-line-gt-MOST_NUMBER+then-most_second-line}

there : (c : In_ok-line) → LineAt c.args.maker c.args.kind c.args.text.now (drop c.args.at c.args.text.now) c.in_ok-line.line
there c =
    let args = c.args in
    line_at args.maker args.kind args.text.now (drop args.at args.text.now) c.in_ok-line.line (rw c.in_ok-line.ensures.ok_part at c.line_of.ensures)

within_one : (c : Else-most_second-line) → c.in_ok-line.line.one ≤ most_number
within_one c = c.if-line-gt-MOST_NUMBER.false

within_two : (c : Else-most_second-line) → c.in_ok-line.line.two ≤ most_second c.args.maker c.in_ok-line.line.code
within_two c = omega (arith, c.most_second.ensures, c.if-most_second-line.false)

-- a command of the type
pub returns : goal.returns
returns c =
    line_read_lem (there (goal.at.returns c).In_ok-line) (within_one (goal.at.returns c).Else-most_second-line) (within_two (goal.at.returns c).Else-most_second-line)
    c.in_ok-command.command (rw (← c.in_ok-command.ensures.ok_part, ← c.second_of-second.ensures) c.decode.ensures)

-- 55: no line of the type, or no command
pub returns-in_err-line : goal.returns-in_err-line
returns-in_err-line c =
    let args = c.args in
    let handed : c.from_residual.result ≡ Err c.in_err-line.field-0.0 = search rules in
    rw (handed, none_why c.line_of.result _ NoCommand c.in_err-line.ensures.value)
    (no_line args.maker args.kind args.text.now (drop args.at args.text.now) (rw c.in_err-line.ensures.ok_part at c.line_of.ensures))

pub returns-in_err-command : goal.returns-in_err-command
returns-in_err-command c =
    let handed : c.from_residual-in_err-command.result ≡ Err c.in_err-command.field-0.0 = search rules in
    rw (handed, none_why c.decode.result _ NoCommand c.in_err-command.ensures.value)
    (line_wrong (there (goal.at.returns-in_err-command c).In_ok-line) (within_one (goal.at.returns-in_err-command c).Else-most_second-line)
    (within_two (goal.at.returns-in_err-command c).Else-most_second-line) (rw (← c.in_err-command.ensures.ok_part, ← c.second_of-second.ensures) c.decode.ensures))

-- 56
pub returns-then-line-gt-MOST_NUMBER : goal.returns-then-line-gt-MOST_NUMBER
returns-then-line-gt-MOST_NUMBER c =
    line_beyond (there (goal.at.returns-then-line-gt-MOST_NUMBER c).In_ok-line)
    (elim c.then-line-gt-MOST_NUMBER.branch [
      | then-line-gt-MOST_NUMBER-via-then-line-gt-MOST_NUMBER w ↦ inl w.if-line-gt-MOST_NUMBER.true
      | then-line-gt-MOST_NUMBER-via-else-line-gt-MOST_NUMBER+then-most_second-line w ↦ inr (omega (arith, w.most_second.ensures, w.if-most_second-line.true))
    ])

-- what is heard of the second number fits
pub overflow_cast-second : goal.overflow_cast-second
overflow_cast-second c =
    record {
      fits = omega (
        arith,
        c.second_of-second.ensures,
        heard_fits (there (goal.at.overflow_cast-second c).In_ok-line) (within_one (goal.at.overflow_cast-second c).Else-most_second-line) (within_two (goal.at.overflow_cast-second c).Else-most_second-line),
      );
    }
