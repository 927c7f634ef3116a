-- What the printers need to know: where a text ends, and how long it can be. Assumes nothing.
use Rattle.std.specs.Prelude.{◌≡◌, ℕ, ◌+◌, ◌*◌, ◌^◌, ◌<◌, ◌≤◌, ◌⊎◌, List, length}
use Rattle.std.specs.Borrow.{MutBor}
use Rattle.deployment.specs.FieldValues.{Stored, lent}
use Rattle.deployment.specs.Properties.{AreBytes}
use Rattle.lines.specs.Text.{Words, spaced_all}
use Rattle.lines.specs.declared.phrases.Phrase.{Phrase}

-- a file whose positions have 64 bits, as every lent one
abbrev pub IsFile : List ℕ → Type 0
IsFile file = AreBytes file × (length file < 2 ^ 64)

-- bytes put from a position on, and the position behind them, wherever 64 bits hold it
pub record Puts (before : List ℕ) (at : ℕ) (bytes after : List ℕ) (next : ℕ) : Type 0 where
  pub stored : at + length bytes < 2 ^ 64 → Stored before at bytes after next

-- the words that a phrase holds
unfoldable pub words_in : Phrase → Words
words_in p = record { name = p.name.now; between = lent p.between }

-- a phrase that holds these words
abbrev pub Holds : Phrase → Words → Type 0
Holds p words = words_in p ≡ words

-- numbers put one behind the other, each of at most twenty digits behind a blank
abbrev pub most_number : ℕ
most_number = 21

pub record PutsAll (before : List ℕ) (at : ℕ) (numbers after : List ℕ) (next : ℕ) : Type 0 where
  pub put : Puts before at (spaced_all numbers) after next
  pub short : length (spaced_all numbers) ≤ most_number * length numbers

-- a whole text, from the start of a place on, of at most so many bytes
pub record Whole (most : ℕ) (before bytes after : List ℕ) (next : ℕ) : Type 0 where
  pub put : Stored before 0 bytes after next
  pub ends : length bytes ≤ most

-- a call that puts this whole text, into any place
abbrev pub PutsAlways : (MutBor (List ℕ) → ℕ → MutBor (List ℕ) → Type 0) → ℕ → List ℕ → Type 0
PutsAlways call most text =
    (before after : MutBor (List ℕ)) (next : ℕ) → IsFile before.now → call before next after → Whole most before.now text after.now next

-- no line of an outcome is longer: `verdict` and three numbers
abbrev pub most_line : ℕ
most_line = 71

-- the bytes that a text of at most so many needs; 0 will do where there is room for every such text
abbrev pub Needed : ℕ → List ℕ → ℕ → ℕ → Type 0
Needed most text room n = (n ≡ length text) ⊎ ((n ≡ 0) × (most ≤ room))
