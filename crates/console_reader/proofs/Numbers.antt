-- The numbers of a line: a number as `numerals` finds it is the one that is read of console text, and the second one stands behind its word.
-- Assumes nothing.
use Prim.Native.Nat.{ℕ, ◌+◌, ◌≤◌}
use mathlib.Core.Path.{◌≡◌, refl, sym, ap}
use mathlib.Core.Bool.{true, false}
use mathlib.Core.Option.{none, some, some-injective}
use mathlib.Core.List.{List}
use lib.ListN.{length, drop}
use lib.Seq.{drop-drop}
use Rattle.std.specs.Prelude.{Option as CodeOption, Some, None}
use Rattle.deployment.specs.Checked.{Checked, good, bad}
use Rattle.deployment.specs.declared.Why.{Why}
use Rattle.deployment.specs.declared.Why.TheVariants.{NoCommand}
use Rattle.deployment.proofs.Values.{by_option, none_some}
use Rattle.numerals.specs.Numerals.{numeral_read}
use Rattle.numerals.specs.Found.{held, NumberFound}
use Rattle.numerals.specs.declared.Number.{Number}
use Rattle.console_text.specs.Reading.{starts, word_read, number_read, second_read}
use Rattle.console_reader.specs.Found.{if_good}

-- What is read, where something is and where nothing is.
pub good_there : {A : Type 0} {a : A} (read : Checked A) → if_good read ≡ some a → read ≡ good a
good_there {a} (good b) e = ap good (some-injective b a e)
good_there (bad why) e = none_some e

pub bad_there : {A : Type 0} (read : Checked A) → if_good read ≡ none → (why : Why) × (read ≡ bad why)
bad_there (good a) e = none_some (sym e)
bad_there (bad why) e = (why, refl)

pub number_there : (s : List ℕ) → if_good (number_read s) ≡ numeral_read s
unfolding number_read
number_there s = by_option (numeral_read s) (λ e. rw (e, number_read) refl) (λ got e. rw (e, number_read) refl)

module _ (s : List ℕ) (at : ℕ) where
  -- the second number of a command that has one alone
  pub one_number : at ≤ length s → NumberFound s (if_good (second_read none (drop at s))) (Some (record { value = 0; end = at }))
  unfolding second_read held
  one_number inside = (at, refl, record { inside = inside; is = refl })

  -- a word, and what is left behind it
  module _ (word : List ℕ) where
    pub word_behind : starts word (drop at s) ≡ true → word_read word (drop at s) ≡ good (drop (at + length word) s)
    unfolding word_read
    word_behind stands = rw stands (ap good (drop-drop (length word) at s))

    pub no_word : starts word (drop at s) ≡ false → word_read word (drop at s) ≡ bad NoCommand
    unfolding word_read
    no_word other = rw other refl

    -- the second number behind its word
    pub not_between : starts word (drop at s) ≡ false → NumberFound s (if_good (second_read (some word) (drop at s))) None
    unfolding second_read
    not_between other = rw (no_word other) refl

    pub behind_between : (answer : CodeOption Number) → starts word (drop at s) ≡ true → NumberFound s (numeral_read (drop (at + length word) s)) answer
        → NumberFound s (if_good (second_read (some word) (drop at s))) answer
    unfolding second_read
    behind_between answer stands found = rw (word_behind stands, number_there (drop (at + length word) s)) found
