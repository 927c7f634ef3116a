-- `put_command` meets its contract: the name, the first number and what the phrase says of the second, one behind the other. Assumes nothing.
use Rattle.console.specs.Makers.{said}
use Rattle.lines.proofs.Pieces.{puts_more}
use Rattle.lines.proofs.Wording.{by_phrase}
use Rattle.lines.proofs.phrases.put_command.Goals as goal

pub returns : goal.returns
returns c =
    let args = c.args in
    rw (← by_phrase args.maker (said args.maker args.c) c.in_words-worded.result c.phrase_of-phrase.result c.in_words-worded.ensures
    c.phrase_of-phrase.ensures)
    (puts_more c.put_word-next.ensures (puts_more c.put_number-next.ensures c.put_second.ensures))
