-- Where a rule stands in a list: its place, counted from 1, and 0 where it is absent. Assumes nothing.
use Rattle.std.specs.Prelude.{ℕ, zero, suc, cond, List, [], ◌∷◌, eqb}

-- one place further, where there is one
unfoldable pub further : ℕ → ℕ
further zero = zero
further (suc place) = suc (suc place)

-- the place of rule r, counted from 1, or 0
unfoldable pub place_in : ℕ → List ℕ → ℕ
place_in r [] = 0
place_in r (x ∷ l) = cond (eqb x r) 1 (further (place_in r l))
