-- Worked examples of the text of rules: rules with every form that a range can take. Assumes nothing.
use Rattle.std.specs.Prelude.{ℕ, ◌≡◌}
use Rattle.policy.specs.Rule.{Range, Rule}
use Rattle.policy.specs.declared.Action.TheVariants.{Deny, Permit}
use Rattle.lines.specs.Text.{text}
use Rattle.rule_lines.specs.Text.{range_text, rule_text}

unfoldable pub range : ℕ → ℕ → Range
range low high = record { low = low; high = high }

-- a range, a single number and a full range of each width
unfoldable pub web : Rule
web =
    record {
      action = Permit;
      protocol = range 6 6;
      source = range 167772160 167772415;
      source_port = range 0 65535;
      destination = range 3232235777 3232235777;
      destination_port = range 443 443;
    }

unfoldable pub high_ports : Rule
high_ports =
    record {
      action = Deny;
      protocol = range 6 17;
      source = range 0 4294967295;
      source_port = range 1024 65535;
      destination = range 0 4294967294;
      destination_port = range 0 0;
    }

-- "permit, protocol 0 to 255, ..": all full but the action
unfoldable pub rest : Rule
rest =
    record {
      action = Deny;
      protocol = range 0 255;
      source = range 0 4294967295;
      source_port = range 0 65535;
      destination = range 0 4294967295;
      destination_port = range 0 65535;
    }

-- the line of the first, as number 7
abbrev pub RuleShown : Type 0
RuleShown =
    rule_text 7 web ≡ text "7 permit protocol 6 source 10.0.0.0-10.0.0.255 port any destination 192.168.1.1 port 443\n"

-- ranges that lack only their lowest or their highest number: these aren't `any`; and single numbers
abbrev pub RangesShown : Type 0
RangesShown =
    (range_text 1 (range 1 255) ≡ text "1-255")
    × (range_text 1 (range 0 254) ≡ text "0-254")
    × (range_text 2 (range 0 255) ≡ text "0-255")
    × (range_text 4 (range 0 65535) ≡ text "0.0.0.0-0.0.255.255")
    × (range_text 4 (range 16909060 16909060) ≡ text "1.2.3.4")
