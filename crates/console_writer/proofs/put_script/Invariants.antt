use Prim.Native.Nat.{ℕ}
use mathlib.Core.List.{List}
use Rattle.policy.specs.declared.Command.{Command}
use Rattle.console.specs.declared.Maker.{Maker}
use Rattle.deployment.specs.Values.{script_of}
use Rattle.replay.specs.Answers.{commands_of, Readable}
use Rattle.lines.proofs.Lines.{Lines}
use Rattle.console_text.specs.Text.{script_text}
use Rattle.console_writer.proofs.put_script.Given as goal

-- the text of commands, wherever they stand: no line has a number
abbrev pub from : Maker → ℕ → List Command → List ℕ
from m k commands = script_text m commands

abbrev pub invariant-loop-k : goal.invariant-loop-k
invariant-loop-k l =
    Readable l.script → Lines (from l.maker) 0 (commands_of (script_of l.script)) (script_text l.maker (commands_of (script_of l.script))) l.initial.place 0 l.place l.next l.k
