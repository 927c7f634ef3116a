-- `line_of` meets its contract. The loop's invariant: the line is what the codes from `code` on are read as. Assumes nothing.
use native.Mathlib.Omega.{arith}
use mathlib.Core.Path.{◌≡◌, sym, ◌∙◌}
use lib.ListN.{drop}
use Rattle.console_reader.proofs.Codes.{all_codes, no_code_left, other_type, no_line, line_met}
use Rattle.console_reader.proofs.line.line_of.Goals as goal
use Rattle.console_reader.proofs.line.line_of.Goals.{then-allows+in_default, else-allows}

pub loop-code-init : goal.loop-code-init
loop-code-init c = let args = c.args in all_codes args.maker args.kind (drop args.at args.text.now)

pub loop-code-preserved : goal.loop-code-preserved
loop-code-preserved c =
    let args = c.args in
    let rest = drop args.at args.text.now in
    let code = c.loop-code.code in
    let allows = c.allows.ensures in
    c.loop-code.invariant
    ∙ elim c.if-allows.branch [
      | then-allows+in_default w ↦ no_line args.maker args.kind rest code args.text.now (sym allows ∙ w.if-allows.true) (rw w.in_default.is at w.line_at.ensures)
      | else-allows w ↦ other_type args.maker args.kind rest code (sym allows ∙ w.if-allows.false)
    ]

pub returns-in-Some : goal.returns-in-Some
returns-in-Some c =
    let args = c.args in
    rw c.loop-code.invariant
    (line_met args.maker args.kind (drop args.at args.text.now) c.loop-code.code args.text.now (sym c.allows.ensures ∙ c.if-allows.true) c.in-Some.line
    (rw c.in-Some.is at c.line_at.ensures))

pub returns : goal.returns
returns c =
    let args = c.args in
    let last : c.loop-code.code ≡ 6 = omega arith in
    rw (c.loop-code.invariant, last) (no_code_left args.maker args.kind (drop args.at args.text.now) args.text.now)
