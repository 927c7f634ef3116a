-- Numbers in decimal digits, of any size: at the front of a text, and as a whole word. 02, L2: "numbers have no leading zeros". Assumes nothing.
use Rattle.std.specs.Prelude.{ℕ, ◌+◌, ◌*◌, ◌-◌, Bool, true, false, cond, ◌&&◌, List, [], ◌∷◌, eqb, leb}
use Rattle.std.proofs.Math.Option.{Option, none, some}

-- what is read at the front of a text, and what is left of it
pub record Got (T : Type 0) : Type 0 where
  pub value : T
  pub rest : List ℕ

-- a decimal digit, from `0` to `9`
unfoldable pub is_digit : ℕ → Bool
is_digit b = leb 48 b && leb b 57

-- the digits that follow, behind those of a number
unfoldable pub goes_on : ℕ → List ℕ → Got ℕ
goes_on n [] = record { value = n; rest = [] }
goes_on n (b ∷ s) = elim (is_digit b) [ true ↦ goes_on (10 * n + (b - 48)) s | false ↦ record { value = n; rest = b ∷ s } ]

-- the number at the front of a text, if a digit stands there; "numbers have no leading zeros": behind a first `0` no digit belongs to the number
unfoldable pub numeral_read : List ℕ → Option (Got ℕ)
numeral_read [] = none
numeral_read (b ∷ s) = cond (is_digit b) (some (cond (eqb b 48) (record { value = 0; rest = s }) (goes_on (b - 48) s))) none

-- the number that a whole word is, if it is one: nothing is left behind it
unfoldable pub number_of : List ℕ → Option ℕ
number_of word = elim (numeral_read word) [ none ↦ none | some got ↦ elim got.rest [ [] ↦ some got.value | b ∷ s ↦ none ] ]
