-- Many flows decided at once, and every byte of the lent place. Assumes nothing.
use Rattle.std.specs.Prelude.{Err, ℕ, ◌%◌, cond, List, map, length, eqb}
use Rattle.policy.specs.declared.Decision.{Decision}
use Rattle.policy.specs.declared.Flow.{Flow}
use Rattle.deployment.specs.FieldValues.{Writing, left_alone, writing}
use Rattle.deployment.specs.Flows.{flow_width, flows_of, decisions_bytes}
use Rattle.deployment.specs.declared.Why.TheVariants.{Length}

-- 4 at position 0 for flows not of 13 bytes each; the decision of each, in their order; "and last 13"
unfoldable pub flows_decided : (Flow → Decision) → List ℕ → List ℕ → Writing
flows_decided decides flows place =
    cond (eqb (length flows % flow_width) 0)
    (writing (decisions_bytes (map decides (flows_of flows))) place)
    (left_alone Err place (record { why = Length; at = 0 }))
