-- What the functions on lines tell of what is read: what the line is, a rule by its record, or why it is turned away. Assumes nothing.
use Rattle.std.specs.Prelude.{Result, Ok, Err}
use Rattle.policy.specs.Rule.{Rule}
use Rattle.deployment.specs.Checked.{Checked, good, bad}
use Rattle.deployment.specs.Values.{rule_bytes}
use Rattle.deployment.specs.declared.Why.{Why}
use Rattle.iptables.specs.Listing as listing
use Rattle.iptables_rule.specs.Found.{no_rule}
use Rattle.iptables_lines.specs.declared.Line.{Line}
use Rattle.iptables_lines.specs.declared.Line.TheVariants as line

unfoldable pub line_is : listing.Line → Line
line_is listing.opens = line.Opens
line_is listing.closes = line.Closes
line_is (listing.default action) = line.Default action
line_is (listing.rule r) = line.Rule (rule_bytes r)
line_is listing.passed = line.Passed

unfoldable pub line_told : Checked listing.Line → Result Line Why
line_told (good l) = Ok (line_is l)
line_told (bad why) = Err why

-- the rule of a line, or no rule
unfoldable pub rule_of : listing.Line → Rule
rule_of listing.opens = no_rule
rule_of listing.closes = no_rule
rule_of (listing.default action) = no_rule
rule_of (listing.rule r) = r
rule_of listing.passed = no_rule

unfoldable pub rule_told : Checked listing.Line → Rule
rule_told (good l) = rule_of l
rule_told (bad why) = no_rule
