-- How the ordering rule looks at a policy: by the longest front part whose rules all stand among the first of the running list, which the list's
-- side array says. Assumes nothing.
use Rattle.std.specs.Prelude.{ℕ, zero, suc, ◌<◌, Bool, false, cond, List, [], ◌∷◌, get_or, eqb}
use Rattle.policy.specs.Command.{within}
use Rattle.policy.specs.Policy.{most_rules}
use Rattle.policy.specs.Properties.{In, Distinct}
use Rattle.places.specs.Places.{Says}

-- whether rule x stands among the first k rules of the list that the array speaks of
unfoldable pub stands : List ℕ → ℕ → ℕ → Bool
stands places k x = within (get_or places x 0) k

-- the length of the longest front part whose rules all pass the test
unfoldable pub front : (ℕ → Bool) → List ℕ → ℕ
front test [] = 0
front test (x ∷ l) = cond (test x) (suc (front test l)) 0

-- whether there is a rule at index i, counted from 0, and it passes the test
unfoldable pub passes_at : (ℕ → Bool) → ℕ → List ℕ → Bool
passes_at test i [] = false
passes_at test zero (x ∷ l) = test x
passes_at test (suc i) (x ∷ l) = passes_at test i l

-- whether the rule at index i is r
abbrev pub is_at : ℕ → ℕ → List ℕ → Bool
is_at r i l = passes_at (λ x. eqb x r) i l

-- a running list whose rules differ, with the array that is right for it
pub record Listed (places l : List ℕ) : Type 0 where
  pub says : Says places l
  pub distinct : Distinct l

-- a policy whose rules have slots in the array
abbrev pub Known : List ℕ → Type 0
Known policy = (r : ℕ) → In r policy → r < most_rules

-- what the tests of a running list go by
pub record Judging (initial target places l : List ℕ) : Type 0 where
  pub listed : Listed places l
  pub first : Known initial
  pub last : Known target
