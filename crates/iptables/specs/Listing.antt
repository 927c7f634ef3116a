-- 02, L3: "Read, in the `*filter` part of an `iptables-save` listing, the `:FORWARD` line for the default and the `-A FORWARD` lines". Assumes nothing.
use Rattle.std.specs.Prelude.{ℕ, zero, suc, ◌-◌, Bool, true, false, cond, ◌&&◌, ◌||◌, List, [], ◌∷◌, ◌++◌, length, drop, leb}
use Rattle.std.proofs.Math.Option.{none, some}
use Rattle.policy.specs.Lists.{same}
use Rattle.policy.specs.Policy.{most_rules, most_listed}
use Rattle.policy.specs.Rule.{Rule}
use Rattle.policy.specs.declared.Action.{Action}
use Rattle.deployment.specs.Checked.{Checked, good, bad, ◌>>=◌, ◌>>◌, require}
use Rattle.deployment.specs.Bytes.{part}
use Rattle.deployment.specs.Values.{known}
use Rattle.deployment.specs.Contents.{Contents}
use Rattle.deployment.specs.File.{Reading, refused}
use Rattle.deployment.specs.FieldValues.{at_zero}
use Rattle.deployment.specs.declared.Why.TheVariants.{NotRead, TooMany, Length}
use Rattle.lines.specs.Text.{text}
use Rattle.numerals.specs.Numerals.{number_of}
use Rattle.iptables.specs.Words.{line_feed, blank, colon, parted, starts_with, is_name}
use Rattle.iptables.specs.Options.{target_of, rule_read}

-- the lines: each piece that a line feed ends; the last piece is none
unfoldable pub but_last : List (List ℕ) → List (List ℕ)
but_last [] = []
but_last (piece ∷ []) = []
but_last (piece ∷ next ∷ pieces) = piece ∷ but_last (next ∷ pieces)

unfoldable pub lines_of : List ℕ → List (List ℕ)
lines_of listing = but_last (parted line_feed listing)

-- what a line of the `*filter` part is
pub data Line : Type 0 where
  opens : Line
  closes : Line
  default : Action → Line
  rule : Rule → Line
  passed : Line

-- "`[n:n]`": how often and how many bytes were counted; numbers of any size
unfoldable pub is_number : List ℕ → Bool
is_number word = elim (number_of word) [ none ↦ false | some n ↦ true ]

unfoldable pub two_numbers : List (List ℕ) → Bool
two_numbers [] = false
two_numbers (packets ∷ []) = false
two_numbers (packets ∷ bytes ∷ []) = is_number packets && is_number bytes
two_numbers (packets ∷ bytes ∷ other ∷ pieces) = false

unfoldable pub are_counters : List ℕ → Bool
are_counters word =
    leb 2 (length word)
    && starts_with 91 word
    && same (drop (length word - 1) word) (text "]")
    && two_numbers (parted colon (part 1 (length word - 2) word))

-- "`:FORWARD ACCEPT|DROP [n:n]`": the words behind the first
unfoldable pub forward_read : List (List ℕ) → Checked Line
forward_read [] = bad NotRead
forward_read (policy ∷ []) = bad NotRead
forward_read (policy ∷ counters ∷ []) = do
  action ← target_of policy
  require (are_counters counters) NotRead
  good (default action)
forward_read (policy ∷ counters ∷ other ∷ words) = bad NotRead

-- "passed over are lines of other chains (`:NAME ..`, `-A NAME ..`)"
unfoldable pub other_chain : List ℕ → Checked Line
other_chain name = do
  require (is_name name) NotRead
  good passed

-- "`-A FORWARD ..`": the words behind `-A`
unfoldable pub append_read : List (List ℕ) → Checked Line
append_read [] = bad NotRead
append_read (chain ∷ words) =
    cond (same chain (text "FORWARD"))
    (do
      r ← rule_read words
      good (rule r))
    (other_chain chain)

-- a line by its words: "any other line there gets 57"
unfoldable pub words_read : List (List ℕ) → Checked Line
words_read [] = bad NotRead
words_read (first ∷ words) =
    cond (same first (text ":FORWARD")) (forward_read words)
    (cond (starts_with colon first) (other_chain (drop 1 first))
    (cond (same first (text "-A")) (append_read words)
    (bad NotRead)))

-- "from a line `*filter` to `COMMIT` or the next line that starts with `*`"; passed over are "comments (`#`) and empty lines"
unfoldable pub is_filter : List ℕ → Bool
is_filter line = same line (text "*filter")

unfoldable pub is_empty : List ℕ → Bool
is_empty [] = true
is_empty (b ∷ s) = false

unfoldable pub line_read : List ℕ → Checked Line
line_read line =
    cond (starts_with 42 line) (good (cond (is_filter line) opens closes))
    (cond (same line (text "COMMIT")) (good closes)
    (cond (is_empty line || starts_with 35 line) (good passed)
    (words_read (parted blank line))))

-- what the lines so far have: whether the next one stands in the `*filter` part, the rules of its rule lines, one listed twice standing here
-- twice, and the defaults of its `:FORWARD` lines
pub record Found : Type 0 where
  pub inside : Bool
  pub rules : List Rule
  pub defaults : List Action

unfoldable pub nothing_found : Found
nothing_found = record { inside = false; rules = []; defaults = [] }

abbrev pub goes_inside : Bool → Found → Found
goes_inside inside f = record { inside = inside; rules = f.rules; defaults = f.defaults }

unfoldable pub with_line : Found → Line → Found
with_line f opens = goes_inside true f
with_line f closes = goes_inside false f
with_line f (default action) = record { inside = f.inside; rules = f.rules; defaults = f.defaults ++ (action ∷ []) }
with_line f (rule r) = record { inside = f.inside; rules = f.rules ++ (r ∷ []); defaults = f.defaults }
with_line f passed = f

-- "Outside the `*filter` part everything is passed over."
unfoldable pub stepped : Found → List ℕ → Checked Found
stepped f line =
    elim f.inside [
      | true ↦ do
        read ← line_read line
        good (with_line f read)
      | false ↦ good (goes_inside (is_filter line) f)
    ]

-- "A rule listed twice goes in at its first place only, as later ones never decide."
unfoldable pub kept_with : List Rule → Rule → List Rule
kept_with kept r = cond (known r kept) kept (kept ++ (r ∷ []))

unfoldable pub first_only : List Rule → List Rule → List Rule
first_only kept [] = kept
first_only kept (r ∷ rules) = first_only (kept_with kept r) rules

-- "57 at 0 unless just one `:FORWARD` line stands"
unfoldable pub just_one : List Action → Checked Action
just_one [] = bad NotRead
just_one (action ∷ []) = good action
just_one (action ∷ other ∷ actions) = bad NotRead

-- "rule k is number k": the numbers below a count, from the given one on
unfoldable pub numbers_from : ℕ → ℕ → List ℕ
numbers_from first zero = []
numbers_from first (suc count) = first ∷ numbers_from (suc first) count

-- "a file with this list as both policies"
unfoldable pub contents_of : List Rule → Action → Contents
contents_of rules action =
    record {
      catalogue = rules;
      initial = numbers_from 0 (length rules);
      target = numbers_from 0 (length rules);
      default = action;
      keep = none;
      script = none;
    }

-- "57 at 0 ..; then 7, 4 at 0"
unfoldable pub gathered : Found → Checked Contents
gathered f = do
  action ← just_one f.defaults
  require (leb (length (first_only [] f.rules)) most_rules) TooMany
  require (leb (length (first_only [] f.rules)) most_listed) Length
  good (contents_of (first_only [] f.rules) action)

-- "Refusals: by line, with its number": the number of the next line, what was found before it, and the lines from there on. A part that the
-- listing's end cuts off is turned away at the line that is missing.
unfoldable pub read_from : ℕ → Found → List (List ℕ) → Reading
read_from number f [] = cond f.inside (refused (record { why = NotRead; at = number })) (at_zero (gathered f))
read_from number f (line ∷ lines) =
    elim (stepped f line) [
      | bad why ↦ refused (record { why = why; at = number })
      | good g ↦ read_from (suc number) g lines
    ]

-- "Lines are counted from 1 in the whole listing."
unfoldable pub listing_read : List ℕ → Reading
listing_read listing = read_from 1 nothing_found (lines_of listing)
