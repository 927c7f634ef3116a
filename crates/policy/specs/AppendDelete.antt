-- 01, "Script for append and delete". Assumes nothing.
use Rattle.std.specs.Prelude.{ℕ, true, false, List, [], ◌∷◌, ◌++◌, map, reverse, length, drop, eqb}
use Rattle.policy.specs.Lists.{missing}
use Rattle.policy.specs.declared.Command.{Command}
use Rattle.policy.specs.declared.Command.TheVariants.{App, DelRule}

-- "Kept: the longest run from the front of the target whose rules occur in the same order in the initial policy."
unfoldable pub kept_run : List ℕ → List ℕ → List ℕ
kept_run [] target = []
kept_run (x ∷ initial) [] = []
kept_run (x ∷ initial) (r ∷ target) = elim (eqb x r) [ true ↦ r ∷ kept_run initial target | false ↦ kept_run initial (r ∷ target) ]

-- "delete the initial rules that are not kept, last to first; then append the rest of the target in order"
unfoldable pub plan_one : List ℕ → List ℕ → List Command
plan_one initial target =
    map DelRule (reverse (missing initial (kept_run initial target)))
    ++ map App (drop (length (kept_run initial target)) target)
