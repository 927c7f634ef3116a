-- 02, L2: "and read it back". "The reader is told type and maker. Words and numbers are parted by one blank, numbers have no leading zeros, each
-- line ends in a line feed." What isn't so is no command: 55. Assumes nothing.
use Rattle.std.specs.Prelude.{ℕ, zero, suc, Bool, true, false, cond, ◌&&◌, List, [], ◌∷◌, length, drop, eqb, leb}
use Rattle.std.proofs.Math.Option.{Option, none, some}
use Rattle.policy.specs.Policy.{most_commands}
use Rattle.policy.specs.Command.{Coded, codes_of, is_type}
use Rattle.policy.specs.declared.Command.{Command}
use Rattle.console.specs.Makers.{second_heard}
use Rattle.console.specs.declared.Maker.{Maker}
use Rattle.console.specs.declared.Maker.TheVariants.{A, B}
use Rattle.deployment.specs.Checked.{Checked, good, bad, ◌>>=◌, ◌>>◌, require, refusal_numbers}
use Rattle.deployment.specs.Values.{command_from}
use Rattle.deployment.specs.declared.Refusal.{Refusal}
use Rattle.deployment.specs.declared.Why.TheVariants.{Length, Coding, NoCommand, Beyond}
use Rattle.lines.specs.Text.{text, words_of}
use Rattle.numerals.specs.Numerals.{Got, numeral_read}

-- whether a text starts with a word
unfoldable pub starts : List ℕ → List ℕ → Bool
starts [] s = true
starts (w ∷ word) [] = false
starts (w ∷ word) (b ∷ s) = eqb w b && starts word s

-- a fixed word: what is left behind it
unfoldable pub word_read : List ℕ → List ℕ → Checked (List ℕ)
word_read word s = do
  require (starts word s) NoCommand
  good (drop (length word) s)

-- "numbers have no leading zeros": a number as `numerals` reads it, or no command
unfoldable pub number_read : List ℕ → Checked (Got ℕ)
number_read s = elim (numeral_read s) [ none ↦ bad NoCommand | some got ↦ good got ]

-- the second number, behind its word, if there is one; "a number that a command doesn't use is 0"
unfoldable pub second_read : Option (List ℕ) → List ℕ → Checked (Got ℕ)
second_read none s = good (record { value = 0; rest = s })
second_read (some word) s = do
  behind ← word_read word s
  number_read behind

-- the line of a command of this code, by its words
unfoldable pub line_read : Maker → ℕ → List ℕ → Checked (Got Coded)
line_read m code s = do
  behind ← word_read (words_of m code).name s
  one ← number_read behind
  two ← second_read (words_of m code).between one.rest
  rest ← word_read (text "\n") two.rest
  good (record { value = record { code = code; one = one.value; two = two.value }; rest = rest })

-- the line of a command of one of these codes: "55 .. for a line that isn't a command of that type"
unfoldable pub any_read : Maker → List ℕ → List ℕ → Checked (Got Coded)
any_read m [] s = bad NoCommand
any_read m (code ∷ codes) s = elim (line_read m code s) [ good line ↦ good line | bad why ↦ any_read m codes s ]

-- "then 56 for a number above 65,535 (b above 65,536)"
abbrev pub most_number : ℕ
most_number = 65535

unfoldable pub most_second : Maker → ℕ → ℕ
most_second A code = most_number
most_second B code = cond (eqb code 5) (suc most_number) most_number

unfoldable pub in_bounds : Maker → Coded → Bool
in_bounds m k = leb k.one most_number && leb k.two (most_second m k.code)

-- the numbers of a move as document 01 counts them
unfoldable pub heard_coded : Maker → Coded → Coded
heard_coded m k = record { code = k.code; one = k.one; two = cond (eqb k.code 5) (second_heard m k.one k.two) k.two }

unfoldable pub decoded_read : ℕ → Coded → Checked Command
decoded_read type k = elim (command_from type k) [ none ↦ bad NoCommand | some c ↦ good c ]

-- one line: 55, then 56
unfoldable pub command_read : Maker → ℕ → List ℕ → Checked (Got Command)
command_read m type s = do
  line ← any_read m (codes_of type) s
  require (in_bounds m line.value) Beyond
  c ← decoded_read type (heard_coded m line.value)
  good (record { value = c; rest = line.rest })

-- what a text is read as: a script's commands, or a refusal
pub data Understood : Type 0 where
  understood : List Command → Understood
  turned : Refusal → Understood

-- a command, and what the text behind it is read as
unfoldable pub behind_it : Command → Understood → Understood
behind_it c (understood commands) = understood (c ∷ commands)
behind_it c (turned refusal) = turned refusal

-- "Refusals: by line, 55 with its number .., then 56 .., then 4 at a 2,049th command": so many commands may still come, and the line's number
unfoldable pub read_from : Maker → ℕ → ℕ → ℕ → List ℕ → Understood
read_from m type zero line [] = understood []
read_from m type zero line (b ∷ s) =
    elim (command_read m type (b ∷ s)) [
      | bad why ↦ turned (record { why = why; at = line })
      | good got ↦ turned (record { why = Length; at = line })
    ]
read_from m type (suc left) line [] = understood []
read_from m type (suc left) line (b ∷ s) =
    elim (command_read m type (b ∷ s)) [
      | bad why ↦ turned (record { why = why; at = line })
      | good got ↦ behind_it got.value (read_from m type left (suc line) got.rest)
    ]

-- lines are counted from 1; there is no script of another type: 11, at 0
unfoldable pub text_read : Maker → ℕ → List ℕ → Understood
text_read m type s = cond (is_type type) (read_from m type most_commands 1 s) (turned (record { why = Coding; at = 0 }))

-- the numbers of a refusal; none where the text is a script
unfoldable pub text_numbers : Understood → List ℕ
text_numbers (understood commands) = []
text_numbers (turned refusal) = refusal_numbers refusal
