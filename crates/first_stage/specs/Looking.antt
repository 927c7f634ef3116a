-- Looking through rules for the first one that passes a test. Assumes nothing.
use Rattle.std.specs.Prelude.{ℕ, suc, Bool, cond, List, [], ◌∷◌}

-- how many rules come before the first one that passes a test: all of them if none does
unfoldable pub until : (ℕ → Bool) → List ℕ → ℕ
until test [] = 0
until test (x ∷ l) = cond (test x) 0 (suc (until test l))
