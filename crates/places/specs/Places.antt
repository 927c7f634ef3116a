-- The side array: for each rule number below 1,024 the place at which the rule stands, 0 if it is absent. Assumes nothing.
use Rattle.std.specs.Prelude.{ℕ, suc, ◌<◌, ◌≡◌, List, [], ◌∷◌, length, get_or, set}
use Rattle.policy.specs.Policy.{most_rules}
use Rattle.running.specs.Place.{place_in}

-- the array with the rules of a list numbered from the given place on; a number past the array's end is passed over
unfoldable pub renumbered : ℕ → List ℕ → List ℕ → List ℕ
renumbered place [] places = places
renumbered place (r ∷ l) places = renumbered (suc place) l (set places r place)

-- the array is right for a list: a slot for each rule number, and in it the rule's place
abbrev pub Says : List ℕ → List ℕ → Type 0
Says places l = (length places ≡ most_rules) × ((r : ℕ) → r < most_rules → get_or places r 0 ≡ place_in r l)
