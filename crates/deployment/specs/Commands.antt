-- The commands of a script value, one by one. Assumes nothing.
use Rattle.std.specs.Prelude.{Option as CodeOption, Some, None, ℕ, ◌+◌, ◌*◌, ◌-◌, ◌/◌, cond, List, length, ltb}
use Rattle.std.proofs.Math.Option.{Option, none, some}
use Rattle.policy.specs.declared.Command.{Command}
use Rattle.deployment.specs.Bytes.{number, part}
use Rattle.deployment.specs.Values.{command_from, coded_of}

-- "then five bytes a command"
unfoldable pub command_count : List ℕ → ℕ
command_count value = (length value - 1) / 5

-- the k-th command, counted from 0: nothing where the bytes are no command of the script's type, and past the end
unfoldable pub command_at : List ℕ → ℕ → Option Command
command_at value k =
    cond (ltb k (command_count value)) (command_from (number (part 0 1 value)) (coded_of (part (1 + 5 * k) 5 value))) none

unfoldable pub decoded : Option Command → CodeOption Command
decoded none = None
decoded (some c) = Some c
