-- A number from a position on, by its first byte; what it is where one is found; and a whole word. Assumes nothing.
use Prim.Native.Nat.{ℕ, suc, ◌+◌, ◌-◌, ◌≤◌, ◌<◌}
use native.Mathlib.Numerals.{add-one}
use native.Mathlib.Omega.{arith}
use mathlib.Core.Path.{◌≡◌, refl, sym, ◌∙◌, ap}
use mathlib.Core.Bool.{true, false}
use mathlib.Core.Option.{Option, none, some}
use mathlib.Core.List.{List, ◌∷◌}
use borrow.Author.Tests.{ne_eqb}
use lib.ListN.{length, drop, get_or, drop_of_length-le}
use lib.Seq.{drop-cons}
use Rattle.numerals.specs.Numerals.{Got, is_digit, numeral_read, number_of}
use Rattle.numerals.specs.Found.{held, NumberFound, whole_held}
use Rattle.numerals.specs.declared.Number.{Number}
use Rattle.std.specs.Prelude.{Some, None}
use Rattle.numerals.proofs.Numerals.{no_numeral, nothing_left, something_left}
use Rattle.numerals.proofs.Counting.{Counted}

-- A number that is found: what it is, and where the text goes on.
pub record Stands (s : List ℕ) (read : Option (Got ℕ)) (n end : ℕ) : Type 0 where
  pub number : ℕ
  pub is_held : n ≡ held number
  pub inside : end ≤ length s
  pub is : read ≡ some (record { value = number; rest = drop end s })

pub found_is : (s : List ℕ) (read : Option (Got ℕ)) (number : Number) → NumberFound s read (Some number) → Stands s read number.value number.end
found_is s (some got) number (to, is, left) =
    let same : number.end ≡ to = cc in
    record {
      number = got.value;
      is_held = let e : number.value ≡ held got.value = cc in e;
      inside = rw same left.inside;
      is = λ i. some (record { value = got.value; rest = (sym left.is ∙ ap (λ (k : ℕ). drop k s) (sym same)) i });
    }
found_is s none number is = absurd (cc)

pub found_not : (s : List ℕ) (read : Option (Got ℕ)) → NumberFound s read None → read ≡ none
found_not s (some got) (to, is, left) = absurd (cc)
found_not s none is = refl

module _ (s : List ℕ) (at : ℕ) where
  pub text_ends : length s ≤ at → NumberFound s (numeral_read (drop at s)) None
  unfolding numeral_read
  text_ends ends = rw (drop_of_length-le s {i = at} ends) refl

  -- by the first byte
  module _ (inside : at < length s) where
    first_byte : drop at s ≡ get_or s at 0 ∷ drop (at + 1) s
    first_byte = rw add-one (drop-cons s at 0 inside)

    pub no_digit : is_digit (get_or s at 0) ≡ false → NumberFound s (numeral_read (drop at s)) None
    unfolding numeral_read
    no_digit other = rw (first_byte, other) refl

    pub a_zero : get_or s at 0 ≡ 48 → NumberFound s (numeral_read (drop at s)) (Some (record { value = 0; end = at + 1 }))
    unfolding numeral_read is_digit held
    a_zero zero = rw (first_byte, zero) (at + 1, refl, record { inside = omega arith; is = refl })

    pub digits_behind : (found : Number) → is_digit (get_or s at 0) ≡ true → (get_or s at 0 ≡ 48 → ⊥) → Counted (get_or s at 0 - 48) (at + 1) s found.value found.end
        → NumberFound s (numeral_read (drop at s)) (Some found)
    unfolding numeral_read
    digits_behind found digit above counted =
        rw (first_byte, digit, ne_eqb (get_or s at 0) 48 above)
        (found.end, ap (λ (n : ℕ). Some (record { value = n; end = found.end })) counted.0, counted.1)

-- A whole word: what stands first in it is no number, bytes are left behind the number, or none.
module _ (word : List ℕ) where
  pub not_first : NumberFound word (numeral_read (drop 0 word)) None → None ≡ whole_held (number_of word)
  unfolding whole_held
  not_first found = rw (no_numeral word (found_not word (numeral_read word) found)) refl

  module _ (n end : ℕ) (stands : Stands word (numeral_read (drop 0 word)) n end) where
    pub bytes_left : end < length word → None ≡ whole_held (number_of word)
    unfolding whole_held
    bytes_left inside = rw (something_left word _ (get_or word end 0) (drop (suc end) word) stands.is (drop-cons word end 0 inside)) refl

    pub whole_word : length word ≤ end → Some n ≡ whole_held (number_of word)
    unfolding whole_held
    whole_word ends = rw (nothing_left word _ stands.is (drop_of_length-le word ends)) (ap (λ (k : ℕ). Some k) stands.is_held)
