-- `five` meets its contract: each byte is the remainder that the definition takes. Assumes nothing.
use Prim.Native.Nat.{◌%◌}
use native.Mathlib.Omega.{arith}
use mathlib.Core.Path.{◌≡◌}
use Rattle.deployment.specs.Bytes.{bytes_of}
use Rattle.deployment.specs.Values.{coded_bytes}
use Rattle.commands.proofs.five.Goals as goal

pub returns : goal.returns
unfolding coded_bytes bytes_of
returns c =
    let code : c.args.code % 256 ≡ c.args.code = omega arith in
    rw (code, c.to_be_bytes-ones.ensures, c.to_be_bytes-twos.ensures)
