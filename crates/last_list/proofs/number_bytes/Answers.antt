-- `number_bytes` meets its contract: each byte is the remainder that the definition takes. Assumes nothing.
use Prim.Native.Nat.{◌/◌, ◌%◌}
use mathlib.Core.Path.{◌≡◌}
use native.Mathlib.Omega.{arith}
use Rattle.deployment.specs.Bytes.{bytes_of}
use Rattle.last_list.proofs.number_bytes.Goals as goal

pub returns : goal.returns
unfolding bytes_of
returns c =
    let high : c.args.n / 256 % 256 ≡ c.args.n / 256 = omega arith in
    rw high
