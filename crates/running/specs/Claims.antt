-- What a customer buys of the running list: each edit is refused by number exactly as the table says, and else makes what document 01 says of its
-- command. proofs/Claims.antt has, for each claim, a proof of the same name in small letters with hyphens. Assumes nothing.
use Rattle.std.specs.Prelude.{Option as CodeOption, ℕ, ◌<◌, ◌≡◌, ◌↔◌, List, [], ◌∷◌, length}
use Rattle.policy.specs.Policy.{most_rules}
use Rattle.policy.specs.Command.{step}
use Rattle.policy.specs.Properties.{Fails, Makes}
use Rattle.policy.specs.declared.Command.{Command}
use Rattle.policy.specs.declared.Command.TheVariants.{App, DelRule, Ins, DelPlace, Mov}
use Rattle.running.specs.Running.{refusing_numbers, Shown, given, appended, rule_deleted, inserted, place_deleted, relocated}
use Rattle.running.specs.Place.{place_in}
use Rattle.policy.specs.declared.Fault.{Fault}

-- No two refusals share their number.
abbrev pub RefusingNumbersDiffer : Type 0
RefusingNumbersDiffer = (r s : CodeOption Fault) → refusing_numbers r ≡ refusing_numbers s → r ≡ s

-- What a command gives to a list: a number exactly when it fails with it, and then the list as it was; else the list that it makes.
pub record ByNumber (size : ℕ) (l : List ℕ) (c : Command) (s : Shown) : Type 0 where
  pub fails : (number : ℕ) → (refusing_numbers s.refusal ≡ number ∷ []) ↔ Fails size l c number
  pub keeps : (number : ℕ) → refusing_numbers s.refusal ≡ number ∷ [] → s.list ≡ l
  pub makes : (m : List ℕ) → ((refusing_numbers s.refusal ≡ []) × (s.list ≡ m)) ↔ Makes size l c m

-- Of the step of document 01, whatever the command ..
abbrev pub GivenByNumber : Type 0
GivenByNumber = (size : ℕ) (l : List ℕ) (c : Command) → ByNumber size l c (given l (step size l c))

-- .. and so of each edit: by place ..
abbrev pub PlaceDeletedByNumber : Type 0
PlaceDeletedByNumber = (size : ℕ) (l : List ℕ) (i : ℕ) → ByNumber size l (DelPlace i) (place_deleted l i)

abbrev pub RelocatedByNumber : Type 0
RelocatedByNumber = (size : ℕ) (l : List ℕ) (i j : ℕ) → ByNumber size l (Mov i j) (relocated l i j)

-- .. and by a rule's number, where the place that is told is the rule's and a slot is free for another rule.
abbrev pub RuleDeletedByNumber : Type 0
RuleDeletedByNumber = (size : ℕ) (l : List ℕ) (r : ℕ) → ByNumber size l (DelRule r) (rule_deleted size l r (place_in r l))

abbrev pub AppendedByNumber : Type 0
AppendedByNumber = (size : ℕ) (l : List ℕ) (r : ℕ) → length l < most_rules → ByNumber size l (App r) (appended size l r (place_in r l))

abbrev pub InsertedByNumber : Type 0
InsertedByNumber =
    (size : ℕ) (l : List ℕ) (i r : ℕ) → length l < most_rules → ByNumber size l (Ins i r) (inserted size l i r (place_in r l))
