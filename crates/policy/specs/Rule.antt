-- 01, "Flows, rules, lists": rules, the match of a rule and a flow, the catalogue.
-- The theory never opens this file: it takes the match as a parameter (Policy.antt). Assumes nothing.
use Rattle.std.specs.Prelude.{ℕ, zero, suc, Bool, true, false, ◌&&◌, List, [], ◌∷◌, leb}
use Rattle.policy.specs.declared.Action.{Action}
use Rattle.policy.specs.declared.Action.TheVariants.{Deny, Permit}
use Rattle.policy.specs.declared.Flow.{Flow}

-- "an inclusive range"
pub record Range : Type 0 where
  pub low : ℕ
  pub high : ℕ

-- "A rule is an action (permit or deny) and an inclusive range for each of the five."
pub record Rule : Type 0 where
  pub action : Action
  pub protocol : Range
  pub source : Range
  pub source_port : Range
  pub destination : Range
  pub destination_port : Range

-- "each number lies in its range"
unfoldable pub lies : ℕ → Range → Bool
lies n range = leb range.low n && leb n range.high

-- "action (0 deny, 1 permit)"
unfoldable pub action_number : Action → ℕ
action_number Deny = 0
action_number Permit = 1

-- "It matches a flow when each number lies in its range. Ports are compared for every protocol."
unfoldable pub matches : Rule → Flow → Bool
matches rule flow =
    lies flow.protocol rule.protocol
    && lies flow.source rule.source
    && lies flow.source_port rule.source_port
    && lies flow.destination rule.destination
    && lies flow.destination_port rule.destination_port

-- "Rules are numbered from 0 as they appear." A number outside the catalogue names no rule: nothing matches it, and it permits nothing.
unfoldable pub hits : List Rule → Flow → ℕ → Bool
hits [] flow n = false
hits (rule ∷ catalogue) flow zero = matches rule flow
hits (rule ∷ catalogue) flow (suc n) = hits catalogue flow n

unfoldable pub says : List Rule → ℕ → Action
says [] n = Deny
says (rule ∷ catalogue) zero = rule.action
says (rule ∷ catalogue) (suc n) = says catalogue n
