-- 01, "Turned away": the tests of each value, and what a file or field values contain. Files and lists share them. Assumes nothing.
use Rattle.std.specs.Prelude.{ℕ, true, false, not, ◌&&◌, List, [], ◌∷◌, ◌++◌, length, ltb}
use Rattle.std.proofs.Math.Option.{Option, none, some}
use Rattle.policy.specs.Lists.{all, occurs, differ}
use Rattle.policy.specs.Policy.{Policy, under}
use Rattle.policy.specs.Rule.{Rule}
use Rattle.policy.specs.declared.Action.{Action}
use Rattle.policy.specs.declared.Action.TheVariants.{Permit}
use Rattle.deployment.specs.Checked.{Checked, good, bad, ◌>>=◌, ◌>>◌, require}
use Rattle.deployment.specs.Values.{Script, rule_of, rule_fits, known, numbers_of, default_fits, script_of}
use Rattle.deployment.specs.declared.Why.{Why}
use Rattle.deployment.specs.declared.Why.TheVariants.{Bounds, Equal, Outside, Twice, Default, Keep, Coding}

-- what an accepted file contains
pub record Contents : Type 0 where
  pub catalogue : List Rule
  pub initial : List ℕ
  pub target : List ℕ
  pub default : Action
  pub keep : Option (List ℕ)
  pub script : Option Script

-- 02, L1: "A policy is from now on a list together with its default", which "belongs to both policies"
abbrev pub initial_policy : Contents → Policy
initial_policy c = under c.default c.initial

abbrev pub target_policy : Contents → Policy
target_policy c = under c.default c.target

-- "then 5, 6": a rule, after the catalogue of the earlier ones
unfoldable pub rule_read : List Rule → List ℕ → Checked Rule
rule_read catalogue value = do
  require (rule_fits value) Bounds
  require (not (known (rule_of value) catalogue)) Equal
  good (rule_of value)

-- "or 8, 9": a policy over a catalogue of the given count
unfoldable pub policy_read : ℕ → List ℕ → Checked (List ℕ)
policy_read size value = do
  require (all (λ r. ltb r size) (numbers_of value)) Outside
  require (differ (numbers_of value)) Twice
  good (numbers_of value)

-- 02, L1: "50 for a value other than 1, where 5 stands": a default
unfoldable pub default_read : List ℕ → Checked Action
default_read value = do
  require (default_fits value) Default
  good Permit

-- "or 10": a keep list, which must "occur in order in both policies"
unfoldable pub keep_read : List ℕ → List ℕ → List ℕ → Checked (List ℕ)
keep_read initial target value = do
  require (occurs (numbers_of value) initial && occurs (numbers_of value) target) Keep
  good (numbers_of value)

-- "or 11": a script
unfoldable pub script_read : List ℕ → Checked Script
script_read value = elim (script_of value) [ none ↦ bad Coding | some script ↦ good script ]
