-- `close` meets its contract: the four bytes stored are those of the head, and the plan counts them with the records. Assumes nothing.
use Prim.Native.Nat.{◌+◌, ◌*◌, ◌%◌}
use mathlib.Core.Path.{◌≡◌}
use native.Mathlib.Omega.{arith}
use Rattle.deployment.specs.Bytes.{bytes_of}
use Rattle.plans.specs.Sending.{script_head}
use Rattle.plans.specs.Plans.{plan_for}
use Rattle.plans.proofs.field.close.Goals as goal

pub returns : goal.returns
unfolding script_head bytes_of plan_for
returns c =
    let args = c.args in
    let bytes : 3 + (1 + 5 * args.n) ≡ 4 + 5 * args.n = omega arith in
    let kind : args.kind % 256 ≡ args.kind = omega arith in
    (λ i. record { kept = args.kept; commands = args.n; bytes = bytes i }, rw kind c.store.ensures)
