-- Console text without computing: a line is a command exactly when it is the line of one. Claims.antt is stated with these. Assumes nothing.
use Rattle.std.specs.Prelude.{ℕ, suc, ◌≤◌, ◌≡◌, ◌⊎◌, ◌≢◌, length}
use mathlib.Core.List.{List, [], ◌++◌, Memᴰ}
use Rattle.policy.specs.Policy.{most_commands}
use Rattle.policy.specs.Command.{coded}
use Rattle.policy.specs.Properties.{Allows}
use Rattle.policy.specs.declared.Command.{Command}
use Rattle.console.specs.declared.Maker.{Maker}
use Rattle.console_text.specs.Text.{line_of, lines_of}
use Rattle.console_text.specs.Reading.{most_number, most_second}

-- the text goes on with the line of this command, of the type and in the words of the maker; its numbers may be of any size
pub record GoesOnWith (m : Maker) (type : ℕ) (k : Command) (s : List ℕ) : Type 0 where
  pub typed : Allows type k
  pub rest : List ℕ
  pub is : s ≡ line_of m k ++ rest

-- no "number above 65,535 (b above 65,536)"
pub record Bounded (m : Maker) (k : Command) : Type 0 where
  pub one : (coded k).one ≤ most_number
  pub two : (coded k).two ≤ most_second m (coded k).code

-- words that are read: commands of the type, their numbers in bounds, at most 2,048 of them
pub record Readable (m : Maker) (type : ℕ) (words : List Command) : Type 0 where
  pub typed : (k : Command) → Memᴰ k words → Allows type k
  pub bounded : (k : Command) → Memᴰ k words → Bounded m k
  pub few : length words ≤ most_commands

-- what is wrong with a line, by the refusal's number, behind so many lines: 55 for "a line that isn't a command of that type", 56 for "a number above
-- 65,535", 4 for "a 2,049th command"
abbrev pub NoLine : Maker → ℕ → List ℕ → Type 0
NoLine m type s = (s ≢ []) × ((k : Command) → ¬ GoesOnWith m type k s)

abbrev pub LineBeyond : Maker → ℕ → List ℕ → Type 0
LineBeyond m type s = (k : Command) × GoesOnWith m type k s × ¬ Bounded m k

abbrev pub LineTooMany : Maker → ℕ → ℕ → List ℕ → Type 0
LineTooMany m type lines s = (k : Command) × GoesOnWith m type k s × Bounded m k × (lines ≡ most_commands)

abbrev pub Wrong : Maker → ℕ → ℕ → ℕ → List ℕ → Type 0
Wrong m type lines number s =
    ((number ≡ 55) × NoLine m type s) ⊎ (((number ≡ 56) × LineBeyond m type s) ⊎ ((number ≡ 4) × LineTooMany m type lines s))

-- "a later line is looked at only when the earlier ones pass": the lines before this one are read, and this one is wrong
pub record StopsAt (m : Maker) (type : ℕ) (s : List ℕ) (number line : ℕ) : Type 0 where
  pub words : List Command
  pub rest : List ℕ
  pub is : s ≡ lines_of m words ++ rest
  pub read : Readable m type words
  pub counted : line ≡ suc (length words)
  pub wrong : Wrong m type (length words) number rest
