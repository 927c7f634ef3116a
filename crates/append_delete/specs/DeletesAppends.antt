-- The two halves of the script for append and delete, over marks. Assumes nothing.
use Rattle.std.specs.Prelude.{ℕ, Bool, false, not, List, map, reverse, get_or, drop}
use Rattle.policy.specs.Lists.{pick}
use Rattle.policy.specs.declared.Command.{Command}
use Rattle.policy.specs.declared.Command.TheVariants.{App, DelRule}

-- the rules that are not marked, deleted last to first
unfoldable pub deletes : List Bool → List ℕ → List Command
deletes marks l = map DelRule (reverse (pick (λ r. not (get_or marks r false)) l))

-- what follows the first rules of a list, appended in order
unfoldable pub appends : ℕ → List ℕ → List Command
appends kept l = map App (drop kept l)
