-- Phrases: what is put by one is what its words say. Assumes nothing.
use Rattle.std.proofs.Common.{◌≡◌, ◌++◌}
use Rattle.policy.specs.declared.Command.{Command}
use Rattle.console.specs.Makers.{worded}
use Rattle.console.specs.declared.Maker.{Maker}
use Rattle.console.specs.declared.Worded.{Worded}
use Rattle.deployment.specs.FieldValues.{lent}
use Rattle.lines.specs.Text.{decimal, words_of, second_text, command_text}
use Rattle.lines.specs.Printing.{Holds, words_in}
use Rattle.lines.specs.declared.phrases.Phrase.{Phrase}

-- a phrase that holds the words of a command's code: its name, the first number and the second one are the command's text
pub by_phrase : (m : Maker) (k : Command) (w : Worded) (p : Phrase) → w ≡ worded k → Holds p (words_of m w.code)
    → p.name.now ++ (decimal w.one ++ second_text (lent p.between) w.two) ≡ command_text m k
unfolding command_text words_in worded
by_phrase m k w p is holds = rw (is, ← (rw is at holds))
