-- `put_commands` meets its contract: the type is the first byte, the count that of the bytes, the lines those of the commands. Assumes nothing.
use Rattle.lines.specs.Text.{text, named}
use Rattle.lines.proofs.Pieces.{puts_more}
use Rattle.rule_lines.proofs.Joined.{puts_joined}
use Rattle.showing.proofs.Scripts.{script_shown}
use Rattle.showing.proofs.lists.put_commands.Goals as goal

pub returns : goal.returns
unfolding text named
returns c =
    rw (← script_shown c.args.script.now c.requires, ← c.type_of.ensures, ← c.commands.ensures)
    (puts_more c.put_named-next.ensures
    (puts_joined (named " commands" c.commands.result) (text "\n") c.put_head-next.ensures (c.put_lines.ensures c.requires)))
