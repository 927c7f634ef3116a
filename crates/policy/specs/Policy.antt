-- 01, "Flows, rules, lists": what a policy decides. The match of rules and one flow and the actions of rules are given from outside, so
-- that nothing here depends on ranges, ports or bytes. Assumes nothing.
use Rattle.std.specs.Prelude.{ℕ, suc, Bool, true, false, cond, List, [], ◌∷◌}
use Rattle.policy.specs.declared.Action.{Action}
use Rattle.policy.specs.declared.Action.TheVariants.{Deny, Permit}
use Rattle.policy.specs.declared.Decision.{Decision}
use Rattle.policy.specs.declared.Flow.{Flow}
use Rattle.policy.specs.Rule.{Rule, hits, says}

-- how one flow meets the rules: which of them match it, and what each says
pub record Matching : Type 0 where
  pub hit : ℕ → Bool
  pub action : ℕ → Action

-- 02, L1: "A policy is from now on a list together with its default, everywhere."
pub record Policy : Type 0 where
  pub list : List ℕ
  pub default : Action

-- the policy of a list under a default
abbrev pub under : Action → List ℕ → Policy
under default list = record { list = list; default = default }

-- "A flow is decided by the first rule that matches": the rest of a list, whose first rule stands at the given place, under a default
unfoldable pub decide_from : Matching → Action → ℕ → List ℕ → Decision
decide_from m default place [] = record { action = default; place = 0 }
decide_from m default place (r ∷ l) = cond (m.hit r) (record { action = m.action r; place = place }) (decide_from m default (suc place) l)

-- "The answer is the action and the place of that rule, places counted from 1, or place 0 for the default."
unfoldable pub decide : Matching → Policy → Decision
decide m p = decide_from m p.default 1 p.list

-- "Two lists decide a flow alike when the actions are equal; places are not compared."
unfoldable pub decided : Matching → Policy → Action
decided m p = (decide m p).action

-- whether two actions are equal
unfoldable pub same_action : Action → Action → Bool
same_action Deny Deny = true
same_action Deny Permit = false
same_action Permit Deny = false
same_action Permit Permit = true

-- the matching of document 01, for a catalogue and a flow
unfoldable pub matching : List Rule → Flow → Matching
matching catalogue flow = record { hit = hits catalogue flow; action = says catalogue }

-- "at most 1,024 rules in the catalogue, 512 in a policy, 2,048 commands in a script"
abbrev pub most_rules : ℕ
most_rules = 1024

abbrev pub most_listed : ℕ
most_listed = 512

abbrev pub most_commands : ℕ
most_commands = 2048
