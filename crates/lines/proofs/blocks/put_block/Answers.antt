-- `put_block` meets its contract: the head counts the commands of the script, and their lines follow. Assumes nothing.
use Rattle.lines.proofs.Pieces.{puts_more}
use Rattle.lines.specs.Text.{block_text}
use Rattle.replay.proofs.Scripts.{script_count}
use Rattle.lines.proofs.blocks.put_block.Goals as goal

pub returns : goal.returns
unfolding block_text
returns c =
    let script = c.args.script.now in
    λ readable.
    rw (script_count script readable, ← c.commands.ensures)
    (puts_more c.put_head-next.ensures (c.put_lines.ensures readable))
