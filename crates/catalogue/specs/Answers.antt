-- Answers to values: whether they are turned away and why, by number; a rule as a field value. Assumes nothing.
use Rattle.std.specs.Prelude.{Result, Ok, Err, ℕ, ◌≡◌, cond, List, [], ◌∷◌, length, take, eqb, ltb}
use Rattle.policy.specs.Rule.{Rule}
use Rattle.deployment.specs.Checked.{Checked, good, bad, ◌>>◌, require, why_number}
use Rattle.deployment.specs.Values.{rule_width}
use Rattle.deployment.specs.Contents.{rule_read}
use Rattle.deployment.specs.declared.Why.TheVariants.{Length}
use Rattle.deployment.specs.declared.Why.{Why}

-- whether tests pass, and why not
unfoldable pub checking : {A : Type 0} → Checked A → Result Unit Why
checking (good a) = Ok tt
checking (bad why) = Err why

-- the number of why not, "all at position 0"
unfoldable pub checking_numbers : Result Unit Why → List ℕ
checking_numbers (Ok _) = []
checking_numbers (Err why) = why_number why ∷ 0 ∷ []

-- No two answers share their numbers.
abbrev pub CheckingNumbersDiffer : Type 0
CheckingNumbersDiffer = (c d : Result Unit Why) → checking_numbers c ≡ checking_numbers d → c ≡ d

-- a rule as a field value: 4, then 5, 6
unfoldable pub rule_value : List Rule → List ℕ → Checked Rule
rule_value catalogue value = do
  require (eqb (length value) rule_width) Length
  rule_read catalogue value

-- the earlier rules that rule number `count` is compared with, where the first `differing` are said to differ from all before them
unfoldable pub compared_with : ℕ → ℕ → List Rule → List Rule
compared_with count differing catalogue = cond (ltb count differing) [] (take count catalogue)
