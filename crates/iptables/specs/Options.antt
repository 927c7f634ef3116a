-- 02, L3: "A rule line": a list of options, each with its word and its meaning, and the rule that they make. Assumes nothing.
use Rattle.std.specs.Prelude.{ℕ, zero, suc, Bool, true, false, cond, ◌&&◌, ◌||◌, List, [], ◌∷◌, ltb}
use Rattle.policy.specs.Lists.{all, same}
use Rattle.policy.specs.Rule.{Range, Rule}
use Rattle.policy.specs.declared.Action.{Action}
use Rattle.policy.specs.declared.Action.TheVariants.{Deny, Permit}
use Rattle.deployment.specs.Checked.{Checked, good, bad, ◌>>=◌, ◌>>◌, require}
use Rattle.deployment.specs.Values.{rising}
use Rattle.deployment.specs.declared.Why.TheVariants.{NotRead, LowAbove}
use Rattle.lines.specs.Text.{text}
use Rattle.iptables.specs.Words.{meant, full}
use Rattle.iptables.specs.declared.Kind.{Kind}
use Rattle.iptables.specs.declared.Kind.TheVariants.{Protocol, Address, Port}

-- an option, and its word
pub record Given : Type 0 where
  pub option : List ℕ
  pub word : List ℕ

-- words two by two; "an option without its word" is one left over
unfoldable pub pairs : List (List ℕ) → List Given
pairs [] = []
pairs (option ∷ []) = []
pairs (option ∷ word ∷ words) = record { option = option; word = word } ∷ pairs words

unfoldable pub even : List (List ℕ) → Bool
even [] = true
even (option ∷ []) = false
even (option ∷ word ∷ words) = even words

-- the options that are read: "Anything else .. 57"
unfoldable pub is_option : List ℕ → Bool
is_option option =
    same option (text "-s")
    || same option (text "-d")
    || same option (text "-p")
    || same option (text "--sport")
    || same option (text "--dport")
    || same option (text "-m")
    || same option (text "-j")

-- the words that an option is given
unfoldable pub words_at : List ℕ → List Given → List (List ℕ)
words_at option [] = []
words_at option (g ∷ given) = cond (same g.option option) (g.word ∷ words_at option given) (words_at option given)

-- how many options stand in front of an option's first place; all of them where it isn't given
unfoldable pub place_of : List ℕ → List Given → ℕ
place_of option [] = 0
place_of option (g ∷ given) = cond (same g.option option) 0 (suc (place_of option given))

-- "an option twice": 57. What isn't given is the full range
unfoldable pub at_most_once : {A : Type 0} → (List ℕ → Checked A) → A → List (List ℕ) → Checked A
at_most_once meaning full [] = good full
at_most_once meaning full (word ∷ []) = meaning word
at_most_once meaning full (word ∷ other ∷ words) = bad NotRead

unfoldable pub range_given : Kind → List ℕ → List Given → Checked Range
range_given kind option given = at_most_once (meant kind) (full kind) (words_at option given)

-- "Exactly one `-j ACCEPT` or `-j DROP`"
unfoldable pub target_of : List ℕ → Checked Action
target_of word =
    cond (same word (text "ACCEPT")) (good Permit)
    (cond (same word (text "DROP")) (good Deny)
    (bad NotRead))

unfoldable pub target_given : List (List ℕ) → Checked Action
target_given [] = bad NotRead
target_given (word ∷ []) = target_of word
target_given (word ∷ other ∷ words) = bad NotRead

-- whether an option stands behind `-p` with this word
unfoldable pub protocol_is : List ℕ → List Given → Bool
protocol_is word given = elim (words_at (text "-p") given) [ [] ↦ false | first ∷ words ↦ same first word ]

unfoldable pub is_behind : List ℕ → List Given → Bool
is_behind option given = ltb (place_of (text "-p") given) (place_of option given)

-- "`--sport`, `--dport`: .. only after `-p tcp` or `-p udp` in the line"
unfoldable pub port_fits : List ℕ → List Given → Bool
port_fits option given =
    elim (words_at option given) [
      | [] ↦ true
      | word ∷ words ↦ is_behind option given && (protocol_is (text "tcp") given || protocol_is (text "udp") given)
    ]

-- "`-m tcp`, `-m udp`: skipped after the same `-p`"
unfoldable pub module_fits : List Given → Bool
module_fits given =
    elim (words_at (text "-m") given) [
      | [] ↦ true
      | word ∷ words ↦ elim words [
        | [] ↦ is_behind (text "-m") given && protocol_is word given && (same word (text "tcp") || same word (text "udp"))
        | other ∷ more ↦ false
      ]
    ]

-- the rule of options that are read: 57
unfoldable pub rule_given : List Given → Checked Rule
rule_given given = do
  require (all (λ g. is_option g.option) given) NotRead
  action ← target_given (words_at (text "-j") given)
  protocol ← range_given Protocol (text "-p") given
  source ← range_given Address (text "-s") given
  source_port ← range_given Port (text "--sport") given
  destination ← range_given Address (text "-d") given
  destination_port ← range_given Port (text "--dport") given
  require (port_fits (text "--sport") given && port_fits (text "--dport") given && module_fits given) NotRead
  good (record {
    action = action;
    protocol = protocol;
    source = source;
    source_port = source_port;
    destination = destination;
    destination_port = destination_port;
  })

-- "58 for a low above its high, tested after 57 of the whole line": the words behind `-A FORWARD`
unfoldable pub rule_read : List (List ℕ) → Checked Rule
rule_read words = do
  require (even words) NotRead
  rule ← rule_given (pairs words)
  require (rising rule.source_port && rising rule.destination_port) LowAbove
  good rule
