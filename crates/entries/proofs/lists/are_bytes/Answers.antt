-- `are_bytes` meets its contract: elements of a slice of bytes are bytes. Assumes nothing.
use native.Mathlib.Omega.{arith}
use Rattle.deployment.proofs.Bytes.{elements_are_bytes}
use Rattle.entries.proofs.lists.are_bytes.Goals as goal

pub returns : goal.returns
returns c = elements_are_bytes _ (λ i. omega (arith, c.type_inv.value i))
