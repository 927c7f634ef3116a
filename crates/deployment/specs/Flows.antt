-- Flows and decisions as bytes, for callers that ask about many flows at once: thirteen bytes a flow, three a decision. Assumes nothing.
use Rattle.std.specs.Prelude.{ℕ, ◌/◌, List, ◌++◌, map, length}
use Rattle.policy.specs.declared.Decision.{Decision}
use Rattle.policy.specs.declared.Flow.{Flow}
use Rattle.deployment.specs.Bytes.{number, bytes_of, part, chunks, joined}
use Rattle.deployment.specs.Values.{action_of, action_number}

-- a flow's five numbers have 1, 4, 2, 4 and 2 bytes
abbrev pub flow_width : ℕ
flow_width = 13

-- an action has one byte, a place two
abbrev pub decision_width : ℕ
decision_width = 3

-- "A flow is five numbers: protocol (0 to 255), source address (32 bits), source port (16), destination address (32), destination port (16)"
unfoldable pub flow_of : List ℕ → Flow
flow_of value =
    record {
      protocol = number (part 0 1 value);
      source = number (part 1 4 value);
      source_port = number (part 5 2 value);
      destination = number (part 7 4 value);
      destination_port = number (part 11 2 value);
    }

unfoldable pub flow_bytes : Flow → List ℕ
flow_bytes f =
    bytes_of 1 f.protocol
    ++ (bytes_of 4 f.source ++ (bytes_of 2 f.source_port ++ (bytes_of 4 f.destination ++ bytes_of 2 f.destination_port)))

-- flows one after another
unfoldable pub flows_of : List ℕ → List Flow
flows_of value = map flow_of (chunks flow_width (length value / flow_width) value)

-- "The answer is the action and the place of that rule": "0 deny, 1 permit"
unfoldable pub decision_bytes : Decision → List ℕ
decision_bytes d = bytes_of 1 (action_number d.action) ++ bytes_of 2 d.place

unfoldable pub decision_of : List ℕ → Decision
decision_of value = record { action = action_of (number (part 0 1 value)); place = number (part 1 2 value) }

-- decisions one after another
unfoldable pub decisions_bytes : List Decision → List ℕ
decisions_bytes decisions = joined (map decision_bytes decisions)
