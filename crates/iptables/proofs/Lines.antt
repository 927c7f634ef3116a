-- A line of the `*filter` part is read exactly as what it is; it is turned away with 58 exactly where it says a rule with a low above its high, and
-- else with 57; a rule that is read fits into a record. The idea: one walk through the tests shows what is read and why it isn't; back it goes by the
-- kinds of lines. Assumes nothing.
use Prim.Native.Nat.{ℕ, ◌≤◌}
use native.Mathlib.Omega.{arith}
use mathlib.Core.Path.{◌≡◌, refl, sym, ◌∙◌, ap}
use mathlib.Core.Bool.{true, false, cond, ◌||◌}
use mathlib.Core.Logic.{inl, inr, ⊎_elim, ◌≢◌}
use mathlib.Core.List.{List, [], ◌∷◌, ◌++◌, Memᴰ, append-nil, tail-eq_of_cons-eq}
use borrow.Author.Tests.{eqb-true}
use lib.Dec.{eqb}
use lib.ListN.{drop}
use Rattle.policy.specs.Lists.{same, mem}
use Rattle.policy.specs.Rule.{Range, Rule}
use Rattle.policy.specs.declared.Action.{Action}
use Rattle.policy.proofs.Tests.{by_test, never}
use Rattle.policy.proofs.Lists.{same_eq, not_mem}
use Rattle.deployment.specs.Checked.{Checked, good, bad, why_number}
use Rattle.deployment.specs.Properties.{Falling, Sized, Recordable}
use Rattle.deployment.specs.declared.Why.{Why}
use Rattle.deployment.specs.declared.Why.TheVariants.{LowAbove}
use Rattle.deployment.proofs.Tests.{says_not, not_says, Each, each_then, tested}
use Rattle.lines.specs.Text.{text}
use Rattle.iptables.specs.Words.{blank, colon, parted, starts_with, meant, full, is_name}
use Rattle.iptables.specs.Options.{Given, target_of, rule_read}
use Rattle.iptables.specs.Listing.{
  Line,
  opens,
  closes,
  default,
  rule,
  passed,
  are_counters,
  forward_read,
  other_chain,
  append_read,
  words_read,
  is_filter,
  is_empty,
  line_read,
}
use Rattle.iptables.specs.Properties.{
  joined_by,
  Pieces,
  RangeIs,
  IsTarget,
  RuleSaid,
  SaysRule,
  Crosses,
  Name,
  Ended,
  Is,
  filter_line,
  other_table,
  commit_line,
  empty_line,
  comment_line,
  default_line,
  chain_line,
  append_line,
  rule_line_lem,
  LowIsAbove,
}
use Rattle.iptables.specs.Claims.{LineIs, LineLowAbove, LineNotRead}
use Rattle.iptables.specs.declared.Kind.{Kind}
use Rattle.iptables.specs.declared.Kind.TheVariants.{Protocol, Address, Port}
use Rattle.iptables.proofs.Parting.{plain_ends, plain_last, parted_once}
use Rattle.iptables.proofs.Wording.{says_same, word_read_lem, high_fits, protocol_rises, address_rises}
use Rattle.iptables.proofs.Options.{target_is, target_read}
use Rattle.iptables.proofs.Naming.{says_name, name_plain, plain_append, counters_text, counters_are, are_counters_lem, counters_plain}
use Rattle.iptables.proofs.RuleLine.{
  Turns,
  Passing,
  option_words,
  front_parted,
  reads_turns,
  rule_line_reads,
  rule_line_parted,
  rule_line_read,
  rule_line_crosses,
}

starts_with_lem : (first : ℕ) (s : List ℕ) → starts_with first s ≡ true → s ≡ first ∷ drop 1 s
unfolding starts_with
starts_with_lem first [] e = never e refl
starts_with_lem first (b ∷ s) e = ap (λ (c : ℕ). c ∷ s) (eqb-true b first e)

-- the first word of a line, and what is behind it
first_behind : (first : List ℕ) (words : List (List ℕ)) → (behind : List ℕ) × (joined_by blank (first ∷ words) ≡ first ++ behind) × Ended behind
unfolding joined_by
first_behind first [] = ([], sym (append-nil first), inl refl)
first_behind first (next ∷ words) = (blank ∷ joined_by blank (next ∷ words), refl, inr (joined_by blank (next ∷ words), refl))

-- What is read of a line, and why it isn't read.
module _ (line : List ℕ) where
  abbrev Right : Checked Line → Type 0
  Right = Each (Is line) (Turns line)

  chain_reads : (name : List ℕ) → (Name name → Is line passed) → Right (other_chain name)
  unfolding other_chain
  chain_reads name is = tested Right (is_name name) (λ f. inl refl) (λ t. is ((says_name name).0 t))

  default_reads : (words : List (List ℕ)) → Pieces blank line (text ":FORWARD" ∷ words) → Right (forward_read words)
  unfolding forward_read joined_by text
  default_reads [] pieces = inl refl
  default_reads (policy ∷ []) pieces = inl refl
  default_reads (policy ∷ counters ∷ []) pieces =
      each_then (IsTarget policy) (Is line) (Turns line) (target_of policy) _
      (reads_turns (IsTarget policy) line (target_of policy) (target_is policy)) λ action is.
      tested Right (are_counters counters) (λ f. inl refl) λ t.
      let numbers = counters_are counters t in
      default_line policy action numbers.0 numbers.1 is
      (pieces.is ∙ ap (λ (l : List ℕ). text ":FORWARD " ++ (policy ++ (text " " ++ l))) numbers.2)
  default_reads (policy ∷ counters ∷ other ∷ words) pieces = inl refl

  append_reads : (words : List (List ℕ)) → Pieces blank line (text "-A" ∷ words) → Right (append_read words)
  unfolding append_read joined_by text
  append_reads [] pieces = inl refl
  append_reads (chain ∷ words) pieces =
      by_test (same chain (text "FORWARD"))
      (λ t. rw t (each_then (Passing line) (Is line) (Turns line) (rule_read words) _
      (rule_line_reads line words (rw (same_eq chain (text "FORWARD") t) at pieces)) λ r passing.
      rule_line_lem r passing.0 passing.1))
      (λ f. rw f (chain_reads chain λ name.
      let behind = first_behind chain words in
      append_line chain behind.0 name (says_not (says_same chain (text "FORWARD")) f) behind.2
      (pieces.is ∙ ap (λ (l : List ℕ). text "-A " ++ l) behind.1)))

  words_reads : (words : List (List ℕ)) → Pieces blank line words → Right (words_read words)
  unfolding words_read text
  words_reads [] pieces = absurd (pieces.some refl)
  words_reads (first ∷ words) pieces =
      by_test (same first (text ":FORWARD"))
      (λ t. rw t (default_reads words (rw (same_eq first (text ":FORWARD") t) at pieces))) λ other.
      by_test (starts_with colon first)
      (λ t. rw (other, t) (chain_reads (drop 1 first) λ name.
      let first_is = starts_with_lem colon first t in
      let behind = first_behind first words in
      chain_line (drop 1 first) behind.0 name
      (λ e. says_not (says_same first (text ":FORWARD")) other (first_is ∙ ap (λ (l : List ℕ). colon ∷ l) e)) behind.2
      (pieces.is ∙ behind.1 ∙ ap (λ (l : List ℕ). l ++ behind.0) first_is))) λ no-colon.
      by_test (same first (text "-A"))
      (λ t. rw (other, no-colon, t) (append_reads words (rw (same_eq first (text "-A") t) at pieces))) λ f.
      rw (other, no-colon, f) (inl refl)

  star_reads : starts_with 42 line ≡ true → Right (good (cond (is_filter line) opens closes))
  unfolding is_filter text
  star_reads star =
      by_test (same line (text "*filter"))
      (λ t. rw t (filter_line (same_eq line (text "*filter") t)))
      (λ f. rw f (other_table (drop 1 line) (starts_with_lem 42 line star) (says_not (says_same line (text "*filter")) f)))

  over_reads : (s : List ℕ) → line ≡ s → (is_empty s || starts_with 35 s) ≡ true → Is line passed
  unfolding is_empty text
  over_reads [] is e = empty_line is
  over_reads (b ∷ s) is e = comment_line s (is ∙ starts_with_lem 35 (b ∷ s) e)

  line_reads : Right (line_read line)
  unfolding line_read
  line_reads =
      by_test (starts_with 42 line) (λ star. rw star (star_reads star)) λ no-star.
      by_test (same line (text "COMMIT")) (λ t. rw (no-star, t) (commit_line (same_eq line (text "COMMIT") t))) λ other.
      by_test (is_empty line || starts_with 35 line) (λ t. rw (no-star, other, t) (over_reads line refl t)) λ f.
      rw (no-star, other, f) (words_reads (parted blank line) ((parted_once blank line (parted blank line)).0 refl))

-- And back. A line that starts with none of `*`, `C` and `#` is read by its words.
worded : (b : ℕ) (s : List ℕ) → eqb b 42 ≡ false → eqb b 67 ≡ false → eqb b 35 ≡ false → line_read (b ∷ s) ≡ words_read (parted blank (b ∷ s))
unfolding line_read starts_with same text is_empty
worded b s no-star no-commit no-comment = rw (no-star, no-commit, no-comment) refl

target_plain : (word : List ℕ) (action : Action) → IsTarget word action → ¬ Memᴰ blank word
unfolding text mem
target_plain word action (inl (is, permits)) = rw is (not_mem blank (text "ACCEPT") refl)
target_plain word action (inr (is, denies)) = rw is (not_mem blank (text "DROP") refl)

default_parted : (word : List ℕ) (action : Action) (packets bytes : ℕ) → IsTarget word action
    → parted blank (text ":FORWARD " ++ (word ++ (text " " ++ counters_text packets bytes)))
    ≡ text ":FORWARD" ∷ word ∷ counters_text packets bytes ∷ []
unfolding text mem
default_parted word action packets bytes is =
    let counters = counters_text packets bytes in
    plain_ends blank (text ":FORWARD") (word ++ (text " " ++ counters)) (not_mem blank (text ":FORWARD") refl)
    ∙ ap (λ (l : List (List ℕ)). text ":FORWARD" ∷ l) (plain_ends blank word counters (target_plain word action is)
    ∙ ap (λ (l : List (List ℕ)). word ∷ l) (plain_last blank counters (counters_plain packets bytes)))

default_line_read : (word : List ℕ) (action : Action) (packets bytes : ℕ) → IsTarget word action
    → line_read (text ":FORWARD " ++ (word ++ (text " " ++ counters_text packets bytes))) ≡ good (default action)
unfolding text words_read same forward_read
default_line_read word action packets bytes is =
    worded 58 _ refl refl refl
    ∙ rw (default_parted word action packets bytes is, target_read word action is, are_counters_lem packets bytes) refl

chain_passed : (name : List ℕ) → Name name → other_chain name ≡ good passed
unfolding other_chain
chain_passed name is = rw ((says_name name).1 is) refl

chain_line_read : (name behind : List ℕ) → Name name → name ≢ text "FORWARD" → Ended behind → line_read (text ":" ++ (name ++ behind)) ≡ good passed
unfolding text words_read starts_with mem
chain_line_read name behind is other ended =
    let colon_plain : ¬ Memᴰ blank (colon ∷ name) = plain_append blank (text ":") name (not_mem blank (text ":") refl) (name_plain name is) in
    let not_forward = not_says (says_same (colon ∷ name) (text ":FORWARD")) (λ e. other (tail-eq_of_cons-eq e)) in
    worded 58 (name ++ behind) refl refl refl
    ∙ rw (front_parted (colon ∷ name) behind colon_plain ended, not_forward) (chain_passed name is)

append_line_read : (name behind : List ℕ) → Name name → name ≢ text "FORWARD" → Ended behind → line_read (text "-A " ++ (name ++ behind)) ≡ good passed
unfolding text words_read starts_with same mem append_read
append_line_read name behind is other ended =
    worded 45 _ refl refl refl
    ∙ rw (
      plain_ends blank (text "-A") (name ++ behind) (not_mem blank (text "-A") refl),
      front_parted name behind (name_plain name is) ended,
      not_says (says_same name (text "FORWARD")) other,
    ) (chain_passed name is)

rule_words : (line : List ℕ) (r : Rule) (says : SaysRule line r) → line_read line ≡ append_read (text "FORWARD" ∷ option_words says.given)
unfolding text words_read starts_with same
rule_words line r says =
    let by_its_words : line_read line ≡ words_read (parted blank line) = rw says.is (worded 45 _ refl refl refl) in
    by_its_words ∙ rw (rule_line_parted line r says) refl

module _ (line : List ℕ) where
  line_read_lem : (l : Line) → Is line l → line_read line ≡ good l
  unfolding line_read is_filter is_empty starts_with same text append_read
  line_read_lem l (filter_line is) = rw is refl
  line_read_lem l (other_table name is other) =
      let star : starts_with 42 line ≡ true = rw is refl in
      rw (star, not_says (says_same line (text "*filter")) other) refl
  line_read_lem l (commit_line is) = rw is refl
  line_read_lem l (empty_line is) = rw is refl
  line_read_lem l (comment_line comment is) = rw is refl
  line_read_lem l (default_line word action packets bytes target is) = rw is (default_line_read word action packets bytes target)
  line_read_lem l (chain_line name behind named other ended is) = rw is (chain_line_read name behind named other ended)
  line_read_lem l (append_line name behind named other ended is) = rw is (append_line_read name behind named other ended)
  line_read_lem l (rule_line_lem r says passes) =
      rule_words line r says ∙ rw (rule_line_read says.given r says.said passes) refl

  line_crosses : LowIsAbove line → line_read line ≡ bad LowAbove
  unfolding append_read same text
  line_crosses (r, says, crosses) =
      rule_words line r says ∙ rw (rule_line_crosses says.given r says.said crosses) refl

turned : (line : List ℕ) (why : Why) → line_read line ≡ bad why → Turns line why
turned line why e = rw e at (line_reads line)

pub line_is_lem : LineIs
line_is_lem line l = (λ e. rw e at (line_reads line), line_read_lem line l)

pub line_low_above : LineLowAbove
line_low_above line = (λ e. ⊎_elim (λ h. absurd (omega (arith, ap why_number h))) (λ h. h.1) (turned line LowAbove e), line_crosses line)

pub line_not_read : LineNotRead
line_not_read line why e = ⊎_elim (λ h. inl h) (λ h. inr h.0) (turned line why e)

-- The rule of a line fits into a record: each range rises and has its width, whether it is given or not.
full_rises : (kind : Kind) → (full kind).low ≤ (full kind).high
unfolding full
full_rises Protocol = omega arith
full_rises Address = omega arith
full_rises Port = omega arith

module _ (kind : Kind) (option : List ℕ) (given : List Given) (range : Range) where
  range_fits : RangeIs kind option given range → range.high ≤ (full kind).high
  range_fits (inl (none, is)) = rw is (omega arith)
  range_fits (inr (word, place, once, means)) = high_fits kind word range ((word_read_lem kind word range).1 means)

  range_rises : ((word : List ℕ) → meant kind word ≡ good range → range.low ≤ range.high) → RangeIs kind option given range
      → range.low ≤ range.high
  range_rises rises (inl (none, is)) = rw is (full_rises kind)
  range_rises rises (inr (word, place, once, means)) = rises word ((word_read_lem kind word range).1 means)

module _ (r : Rule) (given : List Given) (said : RuleSaid given r) (passes : ¬ Crosses r) where
  protocol_sized : Sized 1 r.protocol
  unfolding full
  protocol_sized =
      record {
        rises = range_rises Protocol (text "-p") given r.protocol (λ word. protocol_rises word r.protocol) said.protocol;
        fits = omega (arith, range_fits Protocol (text "-p") given r.protocol said.protocol);
      }

  address_sized : (option : List ℕ) (range : Range) → RangeIs Address option given range → Sized 4 range
  unfolding full
  address_sized option range is =
      record {
        rises = range_rises Address option given range (λ word. address_rises word range) is;
        fits = omega (arith, range_fits Address option given range is);
      }

  port_sized : (option : List ℕ) (range : Range) → RangeIs Port option given range → ¬ Falling range → Sized 2 range
  unfolding full
  port_sized option range is rises = record { rises = omega arith; fits = omega (arith, range_fits Port option given range is) }

  said_recordable : Recordable r
  said_recordable =
      record {
        protocol = protocol_sized;
        source = address_sized (text "-s") r.source said.source;
        source_port = port_sized (text "--sport") r.source_port said.source_port (λ falls. passes (inl falls));
        destination = address_sized (text "-d") r.destination said.destination;
        destination_port = port_sized (text "--dport") r.destination_port said.destination_port (λ falls. passes (inr falls));
      }

is_recordable : (line : List ℕ) {r : Rule} → Is line (rule r) → Recordable r
is_recordable line (rule_line_lem r says passes) = said_recordable r says.given says.said passes

pub rule_recordable : (line : List ℕ) (r : Rule) → line_read line ≡ good (rule r) → Recordable r
rule_recordable line r e = is_recordable line ((line_is_lem line (rule r)).0 e)
