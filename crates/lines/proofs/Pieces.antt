-- Texts in pieces: what is put piece by piece is what both pieces joined put; and a text that isn't too long is stored from the start of the
-- place on. Assumes nothing.
use Rattle.std.proofs.Common.{◌≡◌, ℕ, ◌^◌, ◌<◌, ◌≤◌, List, [], ◌∷◌, ◌++◌, length, refl, append-nil, arith, length-append}
use Rattle.deployment.proofs.Storing.{stored_more}
use Rattle.lines.specs.Text.{spaced, spaced_all}
use Rattle.lines.specs.Printing.{Puts, Whole}

-- nothing put
pub puts_none : {place : List ℕ} {at : ℕ} → Puts place at [] place at
puts_none = record { stored = λ fits. record { place = refl; end = omega arith } }

pub puts_more : {old middle place : List ℕ} {at next end : ℕ} {piece rest : List ℕ} → Puts old at piece middle next → Puts middle next rest place end
    → Puts old at (piece ++ rest) place end
puts_more {piece = piece} {rest} first second =
    record {
      stored =
          λ fits.
          let one = first.stored (omega (arith, length-append piece rest)) in
          stored_more one (second.stored (omega (arith, one.end, length-append piece rest)));
    }

pub puts_whole : {most : ℕ} {old bytes place : List ℕ} {end : ℕ} → Puts old 0 bytes place end → length bytes ≤ most → most < 2 ^ 64
    → Whole most old bytes place end
puts_whole put short small = record { put = put.stored (omega arith); ends = short }

pub whole_wider : {most more : ℕ} {old bytes place : List ℕ} {end : ℕ} → Whole most old bytes place end → most ≤ more → Whole more old bytes place end
whole_wider whole less = record { put = whole.put; ends = omega (arith, whole.ends) }

-- two pieces that are told as one, and what follows
pub puts_told : {old first second place : List ℕ} {at next end last : ℕ} {name numbers told rest : List ℕ} → name ++ numbers ≡ told
    → Puts old at name first next → Puts first next numbers second end → Puts second end rest place last → Puts old at (told ++ rest) place last
puts_told is one two three = rw (← is) (puts_more (puts_more one two) three)

-- Numbers one behind the other: two of them, or one.
pub spaced_one : (name : List ℕ) (n : ℕ) → name ++ spaced_all (n ∷ []) ≡ name ++ spaced n
unfolding spaced_all
spaced_one name n = rw append-nil

pub spaced_two : (name : List ℕ) (n m : ℕ) → name ++ spaced_all (n ∷ m ∷ []) ≡ name ++ (spaced n ++ spaced m)
unfolding spaced_all
spaced_two name n m = rw append-nil
