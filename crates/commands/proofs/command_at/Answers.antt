-- `command_at` meets its contract: the k-th command is read from the five bytes from 1 + 5k on. Assumes nothing.
use Prim.Native.Nat.{◌+◌, ◌*◌, ◌<◌, ◌≤◌}
use mathlib.Core.Path.{sym, ap}
use native.Mathlib.Omega.{arith}
use lib.ListN.{length}
use Rattle.deployment.specs.Commands.{command_count, decoded}
use Rattle.deployment.proofs.Records.{command_at_lem, command_past}
use Rattle.commands.proofs.command_at.Goals as goal
use Rattle.commands.proofs.command_at.Goals.{Else-commands-k}

-- the k-th command is there, and its five bytes
inside : (c : Else-commands-k) → let a = c.args in a.k < command_count a.script.now
inside c = omega (arith, c.if-commands-k.false, c.commands.ensures)

five_bytes : (c : Else-commands-k) → let a = c.args in 1 + 5 * a.k + 5 ≤ length a.script.now
unfolding command_count
five_bytes c = omega (arith, inside c)

pub returns : goal.returns
returns c =
    let a = c.args in
    rw (command_at_lem a.script.now a.k (inside (goal.at.returns c).Else-commands-k), ← c.two_at.ensures, ← c.two_at-2.ensures) c.decode.ensures

pub returns-then-commands-k : goal.returns-then-commands-k
unfolding decoded
returns-then-commands-k c = let a = c.args in sym (ap decoded (command_past a.script.now a.k (omega arith)))

pub overflow_mul-at : goal.overflow_mul-at
overflow_mul-at c = omega (arith, five_bytes c)

pub overflow_add-at : goal.overflow_add-at
overflow_add-at c = omega (arith, five_bytes c)

pub bounds-script-0 : goal.bounds-script-0
bounds-script-0 c = omega (arith, five_bytes (goal.at.bounds-script-0 c).Else-commands-k)

pub bounds-script-at : goal.bounds-script-at
bounds-script-at c = omega (arith, five_bytes (goal.at.bounds-script-at c).Else-commands-k)

pub overflow_add-at-2 : goal.overflow_add-at-2
overflow_add-at-2 c = omega (arith, five_bytes (goal.at.overflow_add-at-2 c).Else-commands-k)

pub overflow_add-at-3 : goal.overflow_add-at-3
overflow_add-at-3 c = omega (arith, five_bytes (goal.at.overflow_add-at-3 c).Else-commands-k)
