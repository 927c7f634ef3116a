-- What the functions on a rule line tell, beside the definitions of `iptables`: an option among others, a range, a target, a rule as a record.
-- Assumes nothing.
use Rattle.std.specs.Prelude.{Option as CodeOption, Some, None, Result, Ok, Err, ℕ, ◌+◌, ◌-◌, ◌≤◌, min, ◌≡◌, Bool, cond, List, ◌∷◌, length, drop, eqb}
use Rattle.policy.specs.Rule.{Range, Rule}
use Rattle.policy.specs.declared.Action.{Action}
use Rattle.policy.specs.declared.Action.TheVariants.{Deny}
use Rattle.deployment.specs.Bytes.{part}
use Rattle.deployment.specs.Checked.{Checked, good, bad, ◌>>=◌}
use Rattle.deployment.specs.Values.{rule_bytes}
use Rattle.deployment.specs.declared.Why.{Why}
use Rattle.deployment.specs.declared.Why.TheVariants.{NotRead}
use Rattle.lines.specs.Text.{text}
use Rattle.iptables.specs.Words.{blank, pieces_behind, single, meant, full}
use Rattle.iptables.specs.Options.{Given, pairs, words_at, place_of, range_given}
use Rattle.iptables.specs.declared.Kind.{Kind}
use Rattle.iptables.specs.declared.Kind.TheVariants.{Protocol, Address, Port}
use Rattle.iptables_words.specs.Told.{bounds_of}
use Rattle.iptables_words.specs.declared.Bounds.{Bounds}
use Rattle.iptables_rule.specs.declared.Found.{Found}
use Rattle.iptables_rule.specs.declared.Ranges.{Ranges}

-- the words behind a position of a line, where a blank stands or the line ends; and the options that they are
unfoldable pub words_from : ℕ → List ℕ → List (List ℕ)
words_from at line = pieces_behind blank (drop at line)

unfoldable pub given_from : ℕ → List ℕ → List Given
given_from at line = pairs (words_from at line)

-- one option more, which is the one looked for or another: its first place and word are kept, and it is counted to 2
unfoldable pub with_pair : Found → Bool → ℕ → ℕ → Found
with_pair found is start end =
    cond (eqb found.times 0)
    (cond is
    (record { times = 1; place = found.place; start = start; end = end })
    (record { times = 0; place = found.place + 1; start = 0; end = 0 }))
    (cond is (record { times = 2; place = found.place; start = found.start; end = found.end }) found)

-- the word that was found
abbrev pub word_of : Found → List ℕ → List ℕ
word_of found line = part found.start (found.end - found.start) line

-- an option, by its words and by how many others stand before it: how often it is given, up to 2, how many those are, and its first word
pub record Looked (line : List ℕ) (words : List (List ℕ)) (before : ℕ) (found : Found) : Type 0 where
  pub times : found.times ≡ min 2 (length words)
  pub place : found.place ≡ before
  pub rises : found.start ≤ found.end
  pub inside : found.end ≤ length line
  pub word : (first : List ℕ) (others : List (List ℕ)) → words ≡ first ∷ others → word_of found line ≡ first

-- an option among those that are given
abbrev pub OptionFound : List ℕ → List ℕ → List Given → Found → Type 0
OptionFound line name given found = Looked line (words_at name given) (place_of name given) found

-- what an option's range is, from how often it is given and its word
unfoldable pub range_found : Kind → Found → List ℕ → Checked Range
range_found kind found line =
    cond (eqb found.times 0) (good (full kind))
    (cond (eqb found.times 2) (bad NotRead)
    (meant kind (word_of found line)))

abbrev pub range_of : Bounds → Range
range_of bounds = record { low = bounds.low; high = bounds.high }

-- the ranges of all options, if each is read
unfoldable pub ranges_read : List Given → Checked Ranges
ranges_read given = do
  protocol ← range_given Protocol (text "-p") given
  source ← range_given Address (text "-s") given
  source_port ← range_given Port (text "--sport") given
  destination ← range_given Address (text "-d") given
  destination_port ← range_given Port (text "--dport") given
  good (record {
    protocol = bounds_of protocol;
    source = bounds_of source;
    source_port = bounds_of source_port;
    destination = bounds_of destination;
    destination_port = bounds_of destination_port;
  })

unfoldable pub ranges_told : Checked Ranges → CodeOption Ranges
ranges_told (good ranges) = Some ranges
ranges_told (bad why) = None

-- the rule of an action and ranges
abbrev pub rule_of : Action → Ranges → Rule
rule_of action ranges =
    record {
      action = action;
      protocol = range_of ranges.protocol;
      source = range_of ranges.source;
      source_port = range_of ranges.source_port;
      destination = range_of ranges.destination;
      destination_port = range_of ranges.destination_port;
    }

-- a target that is read, or not
unfoldable pub target_told : Checked Action → CodeOption Action
target_told (good action) = Some action
target_told (bad why) = None

-- no rule; its record stands where none is read
unfoldable pub no_rule : Rule
no_rule =
    record {
      action = Deny;
      protocol = single 0;
      source = single 0;
      source_port = single 0;
      destination = single 0;
      destination_port = single 0;
    }

-- a rule that is read, as its record, or why not
unfoldable pub rule_read_told : Checked Rule → Result (List ℕ) Why
rule_read_told (good rule) = Ok (rule_bytes rule)
rule_read_told (bad why) = Err why
