-- Marks: an array in which rules are marked by their numbers. Assumes nothing.
use Rattle.std.specs.Prelude.{ℕ, ◌<◌, ◌≡◌, Bool, false, List, get_or}
use Rattle.policy.specs.Lists.{mem}
use Rattle.policy.specs.Policy.{most_rules}

-- the rules of a list are marked, and no others
abbrev pub Marked : List Bool → List ℕ → Type 0
Marked marks l = (r : ℕ) → r < most_rules → get_or marks r false ≡ mem r l
