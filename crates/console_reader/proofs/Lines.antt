-- A line from a position on: its name, its numbers and the line feed, one behind the other; what isn't there makes it no command. Assumes nothing.
use Prim.Native.Nat.{ℕ, ◌+◌}
use mathlib.Core.Path.{◌≡◌, refl, ◌∙◌}
use mathlib.Core.Bool.{true, false}
use mathlib.Core.List.{List, [], ◌∷◌}
use lib.ListN.{length, drop}
use Rattle.std.specs.Prelude.{Some, None}
use Rattle.console.specs.declared.Maker.{Maker}
use Rattle.deployment.specs.Checked.{good}
use Rattle.deployment.specs.FieldValues.{lent}
use Rattle.lines.specs.Text.{text, words_of}
use Rattle.lines.specs.Printing.{Holds, words_in}
use Rattle.lines.specs.declared.phrases.Phrase.{Phrase}
use Rattle.numerals.specs.Numerals.{numeral_read}
use Rattle.numerals.specs.Found.{NumberFound}
use Rattle.numerals.proofs.Numbers.{Stands, found_not}
use Rattle.console_text.specs.Reading.{starts, number_read, second_read, line_read}
use Rattle.console_reader.specs.Found.{if_good, LineFound}
use Rattle.console_reader.proofs.Standing.{fits}
use Rattle.console_reader.proofs.Numbers.{good_there, bad_there, number_there, word_behind, no_word}

module _ (s : List ℕ) (at : ℕ) (m : Maker) (code : ℕ) (p : Phrase) (holds : Holds p (words_of m code)) where
  abbrev name : List ℕ
  name = p.name.now

  abbrev behind_name : List ℕ
  behind_name = drop (at + length name) s

  pub not_named : starts name (drop at s) ≡ false → LineFound s (line_read m code (drop at s)) None
  unfolding line_read words_in
  not_named other = rw (← holds, no_word s at name other) refl

  module _ (named : starts name (drop at s) ≡ true) where
    pub no_first : NumberFound s (numeral_read behind_name) None → LineFound s (line_read m code (drop at s)) None
    unfolding line_read words_in
    no_first found =
        let (why, is) = bad_there (number_read behind_name) (number_there behind_name ∙ found_not s (numeral_read behind_name) found) in
        rw (← holds, word_behind s at name named, is) refl

    module _ (one behind : ℕ) (first : Stands s (numeral_read behind_name) one behind) where
      first_is : number_read behind_name ≡ good (record { value = first.number; rest = drop behind s })
      first_is = good_there (number_read behind_name) (number_there behind_name ∙ first.is)

      pub no_second : NumberFound s (if_good (second_read (lent p.between) (drop behind s))) None → LineFound s (line_read m code (drop at s)) None
      unfolding line_read words_in
      no_second found =
          let second = second_read (lent p.between) (drop behind s) in
          let (why, is) = bad_there second (found_not s (if_good second) found) in
          rw (← holds, word_behind s at name named, first_is, is) refl

      module _ (two end : ℕ) (second : Stands s (if_good (second_read (lent p.between) (drop behind s))) two end) where
        second_is : second_read (lent p.between) (drop behind s) ≡ good (record { value = second.number; rest = drop end s })
        second_is = good_there (second_read (lent p.between) (drop behind s)) second.is

        pub not_ended : starts (10 ∷ []) (drop end s) ≡ false → LineFound s (line_read m code (drop at s)) None
        unfolding line_read words_in text
        not_ended other = rw (← holds, word_behind s at name named, first_is, second_is, no_word s end (10 ∷ []) other) refl

        pub line_found : starts (10 ∷ []) (drop end s) ≡ true
            → LineFound s (line_read m code (drop at s)) (Some (record { code = code; one = one; two = two; end = end + 1 }))
        unfolding line_read words_in text
        line_found ends =
            rw (← holds, word_behind s at name named, first_is, second_is, word_behind s end (10 ∷ []) ends) (
              end + 1,
              rw (first.is_held, second.is_held) refl,
              record { inside = fits (10 ∷ []) s end second.inside ends; is = refl },
            )
