-- How a list names rules, by the table's numbers: 8 outside the catalogue, 9 twice. The cases are the running list's own, the numbers those of
-- `why_number`; so they meet here, beside the test of a policy. proofs/Naming.antt has the proofs. Assumes nothing.
use Rattle.std.specs.Prelude.{ℕ, ◌≡◌, ◌↔◌, List, [], ◌∷◌}
use Rattle.policy.specs.Properties.{Distinct}
use Rattle.policy.specs.Claims.{Admitted}
use Rattle.running.specs.Naming.{named}
use Rattle.running.specs.declared.Naming.{Naming}
use Rattle.running.specs.declared.Naming.TheVariants as naming
use Rattle.deployment.specs.Checked.{why_number}
use Rattle.deployment.specs.Properties.{NamesOutside}
use Rattle.deployment.specs.declared.Why.TheVariants.{Outside, Twice}

-- the number of each case; a list that names each rule once has none
unfoldable pub naming_numbers : Naming → List ℕ
naming_numbers naming.Outside = why_number Outside ∷ []
naming_numbers naming.Twice = why_number Twice ∷ []
naming_numbers naming.Once = []

-- No two cases share their number.
abbrev pub NamingNumbersDiffer : Type 0
NamingNumbersDiffer = (n m : Naming) → naming_numbers n ≡ naming_numbers m → n ≡ m

-- 8 exactly for "a number outside the catalogue", 9 exactly for "a rule twice" where 8 isn't due, neither exactly for a policy
pub record NamesByNumber (size : ℕ) (l : List ℕ) (n : Naming) : Type 0 where
  pub outside : (naming_numbers n ≡ 8 ∷ []) ↔ NamesOutside size l
  pub twice : (naming_numbers n ≡ 9 ∷ []) ↔ (¬ NamesOutside size l × ¬ Distinct l)
  pub once : (naming_numbers n ≡ []) ↔ Admitted size l

abbrev pub NamedByNumber : Type 0
NamedByNumber = (size : ℕ) (l : List ℕ) → NamesByNumber size l (named size l)
