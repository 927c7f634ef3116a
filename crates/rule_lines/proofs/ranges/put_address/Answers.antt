-- `put_address` meets its contract: the bytes of the definition, each but the last with its dot, one behind the other. Assumes nothing.
use Prim.Native.Nat.{◌/◌, ◌%◌}
use Rattle.deployment.specs.Bytes.{bytes_of}
use Rattle.lines.specs.Text.{text, decimal}
use Rattle.rule_lines.specs.Text.{dots, value_text}
use Rattle.rule_lines.proofs.Joined.{puts_joined}
use Rattle.rule_lines.proofs.ranges.put_address.Goals as goal

pub returns : goal.returns
unfolding bytes_of text dots value_text
returns c =
    let n = c.args.n in
    puts_joined (decimal (n / 256 / 256 / 256 % 256)) (text ".") c.put_dotted-next.ensures
    (puts_joined (decimal (n / 256 / 256 % 256)) (text ".") c.put_dotted-next-2.ensures
    (puts_joined (decimal (n / 256 % 256)) (text ".") c.put_dotted-next-3.ensures c.put_number.ensures))
