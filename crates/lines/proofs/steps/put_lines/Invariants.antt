use Rattle.deployment.specs.Values.{script_of}
use Rattle.replay.specs.Answers.{commands_of, Readable}
use Rattle.lines.specs.Text.{lines_text}
use Rattle.lines.proofs.Lines.{Lines}
use Rattle.lines.proofs.steps.put_lines.Given as goal

abbrev pub invariant-loop-k : goal.invariant-loop-k
invariant-loop-k l =
    Readable l.script
    → Lines lines_text 1 (commands_of (script_of l.script)) (lines_text 1 (commands_of (script_of l.script))) l.initial.place l.at l.place l.next l.k
