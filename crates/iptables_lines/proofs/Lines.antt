-- A line by its first word, and a line of the part by its first byte: each test of the code is one of the definition, in its order. Assumes nothing.
use Prim.Native.Nat.{ℕ, ◌+◌}
use native.Mathlib.Omega.{arith}
use mathlib.Core.Path.{◌≡◌, refl}
use mathlib.Core.Bool.{true, false}
use mathlib.Core.Logic.{◌≢◌}
use mathlib.Core.List.{List, [], ◌∷◌}
use lib.ListN.{length, take, drop}
use Rattle.policy.specs.Lists.{same}
use Rattle.policy.specs.Rule.{Rule}
use Rattle.deployment.specs.Checked.{Checked, good, bad, ◌>>=◌}
use Rattle.deployment.specs.Values.{rule_bytes}
use Rattle.deployment.specs.declared.Why.TheVariants.{NotRead}
use Rattle.std.specs.Prelude.{Ok, Err}
use Rattle.deployment.specs.declared.Why.{Why}
use Rattle.lines.specs.Text.{text}
use Rattle.iptables.specs.Words.{blank, colon, parted, cut_at, starts_with}
use Rattle.iptables.specs.Options.{rule_read}
use Rattle.iptables.specs.Listing.{forward_read, other_chain, append_read, words_read, is_filter, is_empty, line_read}
use Rattle.iptables.specs.Listing as listing
use Rattle.iptables_words.proofs.Pieces.{first_piece}
use Rattle.iptables_rule.specs.Found.{words_from}
use Rattle.iptables_rule.specs.Found as found
use Rattle.iptables_lines.specs.Told.{line_is, line_told}
use Rattle.iptables_lines.specs.declared.Line.TheVariants as line

-- The rule of a rule line, or why it has none.
abbrev as_line : Checked Rule → Checked listing.Line
as_line read = do
  r ← read
  good (listing.rule r)

rule_is : (read : Checked Rule) (bytes : List ℕ) → Ok bytes ≡ found.rule_read_told read → Ok (line.Rule bytes) ≡ line_told (as_line read)
unfolding found.rule_read_told line_told line_is
rule_is (good r) bytes told = let same : bytes ≡ rule_bytes r = cc in rw same refl
rule_is (bad why) bytes told = absurd (cc)

rule_not : (read : Checked Rule) (why : Why) → Err why ≡ found.rule_read_told read → Err why ≡ line_told (as_line read)
unfolding found.rule_read_told line_told
rule_not (good r) why told = absurd (cc)
rule_not (bad other) why told = let same : why ≡ other = cc in rw same refl

module _ (words : List (List ℕ)) where
  pub rule_line : (bytes : List ℕ) → Ok bytes ≡ found.rule_read_told (rule_read words)
      → Ok (line.Rule bytes) ≡ line_told (append_read (text "FORWARD" ∷ words))
  unfolding append_read same text
  rule_line bytes told = rule_is (rule_read words) bytes told

  pub no_rule_line : (why : Why) → Err why ≡ found.rule_read_told (rule_read words)
      → Err why ≡ line_told (append_read (text "FORWARD" ∷ words))
  unfolding append_read same text
  no_rule_line why told = rule_not (rule_read words) why told

-- A line by its first word.
module _ (s : List ℕ) (end : ℕ) (cut : end ≡ 0 + cut_at blank (drop 0 s)) where
  abbrev first : List ℕ
  first = take end s

  by_words : parted blank s ≡ first ∷ words_from end s
  unfolding words_from
  by_words = first_piece blank s end cut

  pub default_line : same first (text ":FORWARD") ≡ true
      → line_told (forward_read (words_from end s)) ≡ line_told (words_read (parted blank s))
  unfolding words_read
  default_line t = rw (by_words, t) refl

  module _ (no_default_lem : same first (text ":FORWARD") ≡ false) where
    pub chain_line : starts_with colon first ≡ true → line_told (other_chain (drop 1 first)) ≡ line_told (words_read (parted blank s))
    unfolding words_read
    chain_line t = rw (by_words, no_default_lem, t) refl

    module _ (no-chain : starts_with colon first ≡ false) where
      pub append_line : same first (text "-A") ≡ true → append_read (words_from end s) ≡ words_read (parted blank s)
      unfolding words_read
      append_line t = rw (by_words, no_default_lem, no-chain, t) refl

      pub other_line : same first (text "-A") ≡ false → Err NotRead ≡ line_told (words_read (parted blank s))
      unfolding words_read line_told
      other_line f = rw (by_words, no_default_lem, no-chain, f) refl

-- A line of the part.
empty_is : (s : List ℕ) → length s ≡ 0 → is_empty s ≡ true
unfolding is_empty
empty_is [] none = refl
empty_is (b ∷ s) none = absurd (omega (arith, none))

empty_not : (s : List ℕ) → length s ≢ 0 → is_empty s ≡ false
unfolding is_empty
empty_not [] some = absurd (some refl)
empty_not (b ∷ s) some = refl

module _ (s : List ℕ) where
  pub filter_opens : starts_with 42 s ≡ true → is_filter s ≡ true → Ok line.Opens ≡ line_told (line_read s)
  unfolding line_read line_told line_is
  filter_opens star filter = rw (star, filter) refl

  pub star_closes : starts_with 42 s ≡ true → is_filter s ≡ false → Ok line.Closes ≡ line_told (line_read s)
  unfolding line_read line_told line_is
  star_closes star other = rw (star, other) refl

  module _ (no-star : starts_with 42 s ≡ false) where
    pub commit_closes : same s (text "COMMIT") ≡ true → Ok line.Closes ≡ line_told (line_read s)
    unfolding line_read line_told line_is
    commit_closes t = rw (no-star, t) refl

    module _ (no-commit : same s (text "COMMIT") ≡ false) where
      pub empty_passed : length s ≡ 0 → Ok line.Passed ≡ line_told (line_read s)
      unfolding line_read line_told line_is
      empty_passed none = rw (no-star, no-commit, empty_is s none) refl

      module _ (some : length s ≢ 0) where
        pub comment_passed : starts_with 35 s ≡ true → Ok line.Passed ≡ line_told (line_read s)
        unfolding line_read line_told line_is
        comment_passed t = rw (no-star, no-commit, empty_not s some, t) refl

        pub words_line : starts_with 35 s ≡ false → words_read (parted blank s) ≡ line_read s
        unfolding line_read
        words_line f = rw (no-star, no-commit, empty_not s some, f) refl
