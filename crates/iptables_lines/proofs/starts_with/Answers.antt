-- `starts_with` meets its contract: there is a first byte and it is this one, or there is none. Assumes nothing.
use mathlib.Core.Path.{sym}
use Rattle.iptables_lines.proofs.Names.{first_byte, no_byte}
use Rattle.iptables_lines.proofs.starts_with.Goals as goal

pub returns-then-bytes-ne0 : goal.returns-then-bytes-ne0
returns-then-bytes-ne0 c = let args = c.args in first_byte args.first args.bytes.now c.if-bytes-ne0.true

pub returns-else-bytes-ne0 : goal.returns-else-bytes-ne0
returns-else-bytes-ne0 c = let args = c.args in rw c.if-bytes-ne0.false (sym (no_byte args.first args.bytes.now c.if-bytes-ne0.false))
