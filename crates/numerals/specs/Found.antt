-- What code finds of a number in a text: what is held of it and the position behind it, or that none is there. Assumes nothing.
use Rattle.std.specs.Prelude.{Option as CodeOption, Some, None, ℕ, ◌≤◌, min, ◌≡◌, List, length, drop}
use Rattle.std.proofs.Math.Option.{Option, none, some}
use Rattle.numerals.specs.Numerals.{Got}
use Rattle.numerals.specs.declared.Number.{Number}

-- a number is held up to the first that is above every bound: 65,537 stands for itself and all above it
abbrev pub most_held : ℕ
most_held = 65537

unfoldable pub held : ℕ → ℕ
held n = min n most_held

-- what is left from a position on, inside the text
pub record Left (s : List ℕ) (end : ℕ) (rest : List ℕ) : Type 0 where
  pub inside : end ≤ length s
  pub is : drop end s ≡ rest

-- a number that is read, or not
abbrev pub NumberFound : List ℕ → Option (Got ℕ) → CodeOption Number → Type 0
NumberFound s (some got) answer = (end : ℕ) × (answer ≡ Some (record { value = held got.value; end = end })) × Left s end got.rest
NumberFound s none answer = answer ≡ None

-- what is held of the number that a whole word is, or that it is none
unfoldable pub whole_held : Option ℕ → CodeOption ℕ
whole_held (some n) = Some (held n)
whole_held none = None
