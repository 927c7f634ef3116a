-- First bytes, chains' names, numbers and `[n:n]`, as the code tests them: from the front, byte by byte. Assumes nothing.
use Prim.Native.Nat.{ℕ, suc, ◌+◌, ◌-◌, ◌≤◌, ◌<◌}
use native.Mathlib.Omega.{arith}
use mathlib.Core.Path.{◌≡◌, refl, sym, ◌∙◌, ap}
use mathlib.Core.Bool.{Bool, true, false, not, ◌&&◌}
use mathlib.Core.Logic.{◌≢◌}
use mathlib.Core.List.{List, [], ◌∷◌}
use borrow.Author.Tests.{le-leb, lt-leb}
use lib.Dec.{eqb, ltb}
use lib.ListN.{length, take, drop, get_or, drop_of_length-le}
use lib.Seq.{drop-cons}
use Rattle.policy.specs.Lists.{all, same}
use Rattle.policy.proofs.Tests.{never}
use Rattle.deployment.specs.Bytes.{part}
use Rattle.deployment.proofs.Values.{by_option}
use Rattle.lines.specs.Text.{text}
use Rattle.numerals.specs.Numerals.{number_of}
use Rattle.numerals.specs.Found.{whole_held}
use Rattle.std.specs.Prelude.{is_some}
use Rattle.std.specs.List.{list_all}
use Rattle.iptables.specs.Words.{colon, parted, cut_at, starts_with, in_name, is_name}
use Rattle.iptables.specs.Listing.{is_number, two_numbers, are_counters}
use Rattle.iptables_words.proofs.Pieces.{none_behind, first_piece, one_behind, several_behind}

-- A first byte.
pub first_byte : (first : ℕ) (s : List ℕ) → length s ≢ 0 → eqb (get_or s 0 0) first ≡ starts_with first s
unfolding starts_with
first_byte first [] some = absurd (some refl)
first_byte first (b ∷ s) some = refl

pub no_byte : (first : ℕ) (s : List ℕ) → length s ≡ 0 → starts_with first s ≡ false
unfolding starts_with
no_byte first [] none = refl
no_byte first (b ∷ s) none = absurd (omega (arith, none))

pub some_byte : (first : ℕ) (s : List ℕ) → starts_with first s ≡ true → 1 ≤ length s
unfolding starts_with
some_byte first [] e = never e refl
some_byte first (b ∷ s) e = omega arith

-- A name has a byte, and all its bytes are such of names.
pub no_name : (name : List ℕ) → length name ≡ 0 → is_name name ≡ false
unfolding is_name
no_name [] none = refl
no_name (b ∷ name) none = absurd (omega (arith, none))

-- the code's test of bytes
abbrev pub plain : List ℕ → Bool
plain name = list_all (λ b. ltb 32 b && not (eqb b 34)) name

all_plain : (name : List ℕ) → plain name ≡ all in_name name
unfolding all in_name
all_plain [] = refl
all_plain (b ∷ name) = rw (all_plain name) refl

pub name_plain : (name : List ℕ) → length name ≢ 0 → plain name ≡ is_name name
unfolding is_name
name_plain [] some = absurd (some refl)
name_plain (b ∷ name) some = all_plain (b ∷ name)

-- A number of any size: one is held, whatever is held of it.
pub held_number : (word : List ℕ) → is_some (whole_held (number_of word)) ≡ is_number word
unfolding whole_held is_number
held_number word = by_option (number_of word) (λ none. rw (none, is_number) refl) (λ n some. rw (some, is_number) refl)

-- Two numbers: the word is cut at its first colon, and what is behind has no other.
module _ (s : List ℕ) (end : ℕ) (cut : end ≡ 0 + cut_at colon (drop 0 s)) where
  pub no_colon : end ≡ length s → two_numbers (parted colon s) ≡ false
  unfolding two_numbers
  no_colon ends = rw (first_piece colon s end cut, none_behind colon s end (omega arith)) refl

  module _ (inside : end < length s) (rest : List ℕ) (behind : rest ≡ drop (end + 1) s) (to : ℕ)
      (next : to ≡ 0 + cut_at colon (drop 0 rest)) where
    pub more_colons : to ≢ length rest → two_numbers (parted colon s) ≡ false
    unfolding two_numbers
    more_colons on = rw (first_piece colon s end cut, (several_behind colon s end inside rest behind to next on).is) refl

    pub one_colon : to ≡ length rest → two_numbers (parted colon s) ≡ (is_number (take end s) && is_number rest)
    unfolding two_numbers
    one_colon ends = rw (first_piece colon s end cut, one_behind colon s end inside rest behind to next ends) refl

-- Counters: the brackets, and what is between them.
abbrev last : List ℕ → ℕ
last word = get_or word (length word - 1) 0

module _ (word : List ℕ) where
  pub too_short : length word < 2 → are_counters word ≡ false
  unfolding are_counters
  too_short short = rw (lt-leb 2 (length word) short) refl

  module _ (long : 2 ≤ length word) where
    opens : eqb (get_or word 0 0) 91 ≡ starts_with 91 word
    opens = first_byte 91 word (λ e. omega (arith, e))

    closes : drop (length word - 1) word ≡ last word ∷ []
    closes =
        drop-cons word (length word - 1) 0 (omega arith)
        ∙ ap (λ (s : List ℕ). last word ∷ s) (drop_of_length-le word {i = suc (length word - 1)} (omega arith))

    pub not_opened : eqb (get_or word 0 0) 91 ≡ false → are_counters word ≡ false
    unfolding are_counters
    not_opened other = rw (le-leb 2 (length word) long, sym opens ∙ other) refl

    module _ (opened : eqb (get_or word 0 0) 91 ≡ true) where
      pub not_closed : eqb (last word) 93 ≡ false → are_counters word ≡ false
      unfolding are_counters same text
      not_closed other = rw (le-leb 2 (length word) long, sym opens ∙ opened, closes, other) refl

      pub in_brackets : eqb (last word) 93 ≡ true → are_counters word ≡ two_numbers (parted colon (part 1 (length word - 1 - 1) word))
      unfolding are_counters same text
      in_brackets closed =
          let inner : length word - 2 ≡ length word - 1 - 1 = omega arith in
          rw (le-leb 2 (length word) long, sym opens ∙ opened, closes, closed, inner) refl
