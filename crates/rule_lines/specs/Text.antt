-- The text of rules: ranges as words, a rule as a line, the catalogue as lines, byte by byte. Assumes nothing.
use Rattle.std.specs.Prelude.{ℕ, suc, ◌+◌, ◌^◌, cond, ◌&&◌, List, [], ◌∷◌, ◌++◌, length, eqb}
use Rattle.policy.specs.Rule.{Range, Rule}
use Rattle.policy.specs.declared.Action.{Action}
use Rattle.policy.specs.declared.Action.TheVariants.{Deny, Permit}
use Rattle.deployment.specs.Bytes.{bytes_of}
use Rattle.lines.specs.Text.{text, decimal, named}

-- bytes in decimal, with dots between: `10.0.0.255`
unfoldable pub dots : List ℕ → List ℕ
dots [] = []
dots (b ∷ []) = decimal b
dots (b ∷ c ∷ bytes) = decimal b ++ (text "." ++ dots (c ∷ bytes))

-- how many bytes each number of a rule has
abbrev pub protocol_bytes : ℕ
protocol_bytes = 1

abbrev pub port_bytes : ℕ
port_bytes = 2

abbrev pub address_bytes : ℕ
address_bytes = 4

-- a number of so many bytes: an address as its bytes with dots between, any other in decimal: `192.168.1.1`, `443`
unfoldable pub value_text : ℕ → ℕ → List ℕ
value_text width n = cond (eqb width address_bytes) (dots (bytes_of address_bytes n)) (decimal n)

-- a range of numbers of so many bytes: `any` where it has all of them, a single one as itself, others as `low-high`
unfoldable pub range_text : ℕ → Range → List ℕ
range_text width range =
    cond (eqb range.low 0 && eqb (range.high + 1) (256 ^ width)) (text "any")
    (cond (eqb range.low range.high) (value_text width range.low)
    (value_text width range.low ++ (text "-" ++ value_text width range.high)))

-- ` permit` or ` deny`
unfoldable pub action_text : Action → List ℕ
action_text Permit = text " permit"
action_text Deny = text " deny"

-- an end of a flow: its addresses and its ports: `10.0.0.0-10.0.0.255 port any`
unfoldable pub end_text : Range → Range → List ℕ
end_text address port = range_text address_bytes address ++ (text " port " ++ range_text port_bytes port)

-- both ends of a rule, and the end of its line
unfoldable pub ends_text : Rule → List ℕ
ends_text rule =
    text " source "
    ++ (end_text rule.source rule.source_port
    ++ (text " destination "
    ++ (end_text rule.destination rule.destination_port
    ++ text "\n")))

-- a rule's line, always of twelve words: `0 permit protocol 6 source 10.0.0.0-10.0.0.255 port any destination 192.168.1.1 port 443`
unfoldable pub rule_text : ℕ → Rule → List ℕ
rule_text n rule =
    decimal n
    ++ (action_text rule.action
    ++ (text " protocol "
    ++ (range_text protocol_bytes rule.protocol
    ++ ends_text rule)))

-- a line for each rule; the first argument is the number of the first
unfoldable pub rules_text : ℕ → List Rule → List ℕ
rules_text n [] = []
rules_text n (rule ∷ rules) = rule_text n rule ++ rules_text (suc n) rules

-- the catalogue: `rules 5`, then a line for each rule
unfoldable pub catalogue_text : List Rule → List ℕ
catalogue_text catalogue = named "rules" (length catalogue) ++ (text "\n" ++ rules_text 0 catalogue)
