-- The different rules of a listing, each kept by its mark and by where its line starts; and their file. Assumes nothing.
use Rattle.std.specs.Prelude.{ℕ, suc, ◌+◌, ◌*◌, ◌≤◌, ◌<◌, ◌≡◌, Bool, true, false, cond, ◌||◌, length, take, drop}
use mathlib.Core.List.{List, [], ◌∷◌, map, Memᴰ}
use Rattle.policy.specs.Lists.{same}
use Rattle.policy.specs.Policy.{most_rules}
use Rattle.policy.specs.Rule.{Rule}
use Rattle.policy.specs.declared.Action.{Action}
use Rattle.policy.specs.declared.Action.TheVariants.{Deny, Permit}
use Rattle.deployment.specs.Bytes.{joined}
use Rattle.deployment.specs.Values.{rule_bytes}
use Rattle.deployment.specs.File.{field_bytes, rule_tag}
use Rattle.deployment.specs.Properties.{Recordable}
use Rattle.catalogue.specs.RuleMarks.{mark}
use Rattle.iptables.specs.Words.{line_feed, cut_at}
use Rattle.iptables.specs.Listing.{line_read, kept_with}
use Rattle.iptables_lines.specs.Told.{rule_told}

-- the line that starts at a position, and its rule
unfoldable pub line_at : ℕ → List ℕ → List ℕ
line_at start listing = take (cut_at line_feed (drop start listing)) (drop start listing)

unfoldable pub rule_at : List ℕ → ℕ → Rule
rule_at listing start = rule_told (line_read (line_at start listing))

-- the records and the marks of rules whose lines start there
unfoldable pub records_at : List ℕ → List ℕ → List (List ℕ)
records_at listing starts = map (λ start. rule_bytes (rule_at listing start)) starts

unfoldable pub marks_at : List ℕ → List ℕ → List ℕ
marks_at listing starts = map (λ start. mark (rule_bytes (rule_at listing start))) starts

-- whether a record is one of these
unfoldable pub known_record : List ℕ → List (List ℕ) → Bool
known_record record-bytes [] = false
known_record record-bytes (other ∷ records) = same other record-bytes || known_record record-bytes records

-- so many rules are kept, counted to 1,025: their marks and where their lines start
pub record Kept (listing marks starts : List ℕ) (count : ℕ) (rules : List Rule) : Type 0 where
  pub marks_fit : length marks ≡ most_rules
  pub starts_fit : length starts ≡ most_rules
  pub counted : count ≤ suc most_rules
  pub over : most_rules < count → most_rules < length rules
  pub exact : count ≤ most_rules → count ≡ length rules
  pub places : count ≤ most_rules → map (rule_at listing) (take count starts) ≡ rules
  pub marked : count ≤ most_rules → take count marks ≡ marks_at listing (take count starts)
  pub sound : (r : Rule) → Memᴰ r rules → Recordable r

-- the rule whose line starts at a position, put to those that are kept
abbrev pub Keeps : List ℕ → ℕ → List ℕ → List ℕ → ℕ → List ℕ → List ℕ → ℕ → Type 0
Keeps listing start marks starts count marks-after starts-after count-after =
    (rules : List Rule) → Kept listing marks starts count rules
    → Kept listing marks-after starts-after count-after (kept_with rules (rule_at listing start))

-- a field for each rule
unfoldable pub rules_fields : List Rule → List ℕ
rules_fields rules = joined (map (λ r. field_bytes rule_tag (rule_bytes r)) rules)

-- "ACCEPT: tag 06"
unfoldable pub action_if : Bool → Action
action_if permits = cond permits Permit Deny

-- the bytes of the file of so many rules
unfoldable pub bytes_needed : ℕ → Bool → ℕ
bytes_needed count permits = 30 * count + 2 * (3 + 2 * count) + cond permits 4 0
