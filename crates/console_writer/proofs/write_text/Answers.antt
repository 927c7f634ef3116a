-- `write_text` meets its contract: what is put is the whole text. Assumes nothing.
use native.Mathlib.Omega.{arith}
use borrow.Author.Rules.{rules}
use Rattle.deployment.specs.Values.{script_of}
use Rattle.replay.specs.Answers.{commands_of, Readable}
use Rattle.lines.specs.Printing.{Puts}
use Rattle.lines.proofs.Pieces.{puts_whole}
use Rattle.console_text.specs.Text.{script_text}
use Rattle.console_text.specs.Answers.{text_left}
use Rattle.console_writer.proofs.Values.{fit_readable, fit_short}
use Rattle.console_writer.proofs.write_text.Goals as goal

pub returns : goal.returns
unfolding text_left
returns c =
    let a = c.args in
    let script = a.script.now in
    let text = script_text a.maker (commands_of (script_of script)) in
    λ fit. c.whole_text.ensures text
    (λ before after next file called.
    let put : Readable script → Puts before.now 0 text after.now next = search rules in
    puts_whole (put (fit_readable script fit)) (fit_short a.maker script fit) (omega arith))
