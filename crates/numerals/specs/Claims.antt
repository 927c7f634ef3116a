-- What is claimed of numbers in decimal digits. Assumes nothing.
use Rattle.std.specs.Prelude.{ℕ, ◌≡◌, ◌↔◌, List}
use Rattle.std.proofs.Math.Option.{some}
use Rattle.lines.specs.Text.{decimal}
use Rattle.numerals.specs.Numerals.{number_of}

-- A word is a number exactly when it is that number's decimal digits, so a number has one word, with no leading zero.
abbrev pub NumberIsDecimal : Type 0
NumberIsDecimal = (word : List ℕ) (n : ℕ) → (number_of word ≡ some n) ↔ (word ≡ decimal n)
