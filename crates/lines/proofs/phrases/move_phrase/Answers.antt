-- `move_phrase` meets its contract: each maker's words are those of the table. Assumes nothing.
use Rattle.std.proofs.Common.{refl}
use Rattle.deployment.specs.FieldValues.{lent}
use Rattle.lines.specs.Text.{text, move_words}
use Rattle.lines.specs.Printing.{words_in}
use Rattle.lines.proofs.phrases.move_phrase.Goals as goal

pub returns-in-A : goal.returns-in-A
unfolding move_words text words_in lent
returns-in-A c = rw c.in-A.is refl

pub returns-in-B : goal.returns-in-B
unfolding move_words text words_in lent
returns-in-B c = rw c.in-B.is refl
