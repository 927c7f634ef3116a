-- The words behind a position, two by two: none at the end of the line, one left over, or an option, its word and those behind them. The idea: the
-- first word ends at the first blank, and what is behind that blank is parted again. Assumes nothing.
use Prim.Native.Nat.{ℕ, ◌+◌, ◌-◌, ◌≤◌, ◌<◌}
use native.Mathlib.Omega.{arith}
use mathlib.Core.Path.{◌≡◌, refl, ◌∙◌}
use mathlib.Core.Bool.{Bool, true, false, ◌&&◌, and-false}
use mathlib.Core.Logic.{◌≢◌}
use mathlib.Core.List.{List, [], ◌∷◌}
use lib.ListN.{length, drop}
use lib.Seq.{drop-drop}
use Rattle.policy.specs.Lists.{all}
use Rattle.deployment.specs.Bytes.{part}
use Rattle.iptables.specs.Words.{blank, cut_at}
use Rattle.iptables.specs.Options.{Given, pairs, even, is_option}
use Rattle.iptables.proofs.Parting.{parted_cut}
use Rattle.iptables_words.proofs.Pieces.{none_behind, some_behind, piece_ends}
use Rattle.iptables_rule.specs.Found.{words_from, given_from}

-- One word, up to where it ends.
abbrev pub Ends : List ℕ → ℕ → ℕ → Type 0
Ends line start end = end ≡ start + cut_at blank (drop start line)

abbrev pub word_from : List ℕ → ℕ → ℕ → List ℕ
word_from line start end = part start (end - start) line

-- an option behind a position, and its word behind that
abbrev pub pair_at : List ℕ → ℕ → ℕ → ℕ → Given
pair_at line at middle stop = record { option = word_from line (at + 1) middle; word = word_from line (middle + 1) stop }

pub no_words : (line : List ℕ) (at : ℕ) → length line ≤ at → words_from at line ≡ []
unfolding words_from
no_words line at ends = none_behind blank line at ends

pub next_word : (line : List ℕ) (at end : ℕ) → at < length line → Ends line (at + 1) end
    → words_from at line ≡ word_from line (at + 1) end ∷ words_from end line
unfolding words_from part
next_word line at end inside ends =
    let size : cut_at blank (drop (at + 1) line) ≡ end - (at + 1) = omega arith in
    let whole : at + 1 + (end - (at + 1)) ≡ end = omega arith in
    some_behind blank line at inside ∙ parted_cut blank (drop (at + 1) line)
    ∙ rw (size, drop-drop (end - (at + 1)) (at + 1) line, whole) refl

-- whether each option is one that is read; and behind a position, whether each has its word as well
abbrev pub known : List Given → Bool
known given = all (λ g. is_option g.option) given

abbrev pub known_from : List ℕ → ℕ → Bool
known_from line at = even (words_from at line) && known (given_from at line)

-- The line ends here.
module _ (line : List ℕ) (at : ℕ) (ends : length line ≤ at) where
  pub none_given : given_from at line ≡ []
  unfolding given_from pairs
  none_given = rw (no_words line at ends) refl

  pub none_known : known_from line at ≡ true
  unfolding given_from pairs even all
  none_known = rw (no_words line at ends) refl

-- A word stands here.
module _ (line : List ℕ) (at middle : ℕ) (inside : at < length line) (name-ends : Ends line (at + 1) middle) where
  pub name_inside : (at + 1 ≤ middle) × (middle ≤ length line)
  name_inside = piece_ends blank line (at + 1) middle (omega arith) name-ends

  -- an option without its word
  module _ (last : middle ≡ length line) where
    left_over : words_from at line ≡ word_from line (at + 1) middle ∷ []
    left_over = next_word line at middle inside name-ends ∙ rw (no_words line middle (omega arith)) refl

    pub left_given : given_from at line ≡ []
    unfolding given_from pairs
    left_given = rw left_over refl

    pub left_unknown : known_from line at ≡ false
    unfolding even
    left_unknown = rw left_over refl

  -- an option and its word
  module _ (stop : ℕ) (more : middle ≢ length line) (word-ends : Ends line (middle + 1) stop) where
    pub word_inside : (middle + 1 ≤ stop) × (stop ≤ length line)
    word_inside = piece_ends blank line (middle + 1) stop (omega (arith, name_inside, more)) word-ends

    two_words : words_from at line ≡ word_from line (at + 1) middle ∷ word_from line (middle + 1) stop ∷ words_from stop line
    two_words =
        next_word line at middle inside name-ends
        ∙ rw (next_word line middle stop (omega (arith, name_inside, more)) word-ends) refl

    pub next_given : given_from at line ≡ pair_at line at middle stop ∷ given_from stop line
    unfolding given_from pairs
    next_given = rw two_words refl

    pub next_known : is_option (word_from line (at + 1) middle) ≡ true → known_from line at ≡ known_from line stop
    unfolding given_from pairs even all
    next_known is = rw (two_words, is) refl

  -- an option that isn't read
  pub unknown : middle ≢ length line → is_option (word_from line (at + 1) middle) ≡ false → known_from line at ≡ false
  unfolding given_from pairs even all
  unknown more not =
      let stop = middle + 1 + cut_at blank (drop (middle + 1) line) in
      rw (two_words stop more refl, not) (and-false (even (words_from stop line)))
