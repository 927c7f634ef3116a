-- What a customer buys of console text, for both makers at once. Each claim is a statement; proofs/Claims.antt has, for each, a proof of the same
-- name in small letters with hyphens. Assumes nothing.
use Rattle.std.specs.Prelude.{ℕ, ◌≤◌, ◌≡◌, ◌↔◌, length}
use mathlib.Core.List.{List, [], ◌∷◌, map, Memᴰ}
use Rattle.policy.specs.Replay.{lists}
use Rattle.policy.specs.Properties.{Distinct, Allows, ScriptType}
use Rattle.policy.specs.declared.Command.{Command}
use Rattle.console.specs.Makers.{heard, again}
use Rattle.console.specs.Console.{console_lists}
use Rattle.console.specs.declared.Maker.{Maker}
use Rattle.console.specs.declared.Maker.TheVariants.{A, B}
use Rattle.deployment.specs.Values.{Script}
use Rattle.deployment.specs.Properties.{Scripted}
use Rattle.console_text.specs.Text.{lines_of, script_text}
use Rattle.console_text.specs.Reading.{understood, text_read, text_numbers}
use Rattle.console_text.specs.Properties.{Readable, StopsAt}

-- "Commands written and read come back unchanged, proved once over both makers": for every script that a file can hold.
abbrev pub WrittenAndRead : Type 0
WrittenAndRead =
    (m : Maker) (script : Script) → Scripted script
    → text_read m script.type (script_text m script.commands) ≡ understood script.commands

-- A text is read exactly when it is made of lines of commands of that type, in the words of that maker; and it is read as what the words are.
pub record Reads (m : Maker) (type : ℕ) (s : List ℕ) (commands : List Command) : Type 0 where
  pub words : List Command
  pub is : s ≡ lines_of m words
  pub readable : Readable m type words
  pub read : commands ≡ map (heard m) words

abbrev pub TextAccepted : Type 0
TextAccepted = (m : Maker) (type : ℕ) (s : List ℕ) (commands : List Command) → ScriptType type
    → (text_read m type s ≡ understood commands) ↔ Reads m type s commands

-- Each refusal exactly when its condition holds, the earlier line and in a line the earlier test winning ..
abbrev pub TextRefused : Type 0
TextRefused = (m : Maker) (type : ℕ) (s : List ℕ) (number line : ℕ) → ScriptType type
    → (text_numbers (text_read m type s) ≡ number ∷ line ∷ []) ↔ StopsAt m type s number line

-- .. and 11 at 0 for a type that there isn't.
abbrev pub TypeRefused : Type 0
TypeRefused = (m : Maker) (type : ℕ) (s : List ℕ) → ¬ ScriptType type → text_numbers (text_read m type s) ≡ 11 ∷ 0 ∷ []

-- No text has two readings: its words are one list.
abbrev pub OneReading : Type 0
OneReading = (m : Maker) (type : ℕ) (words others : List Command) → ((k : Command) → Memᴰ k words → Allows type k)
    → ((k : Command) → Memᴰ k others → Allows type k) → lines_of m words ≡ lines_of m others → words ≡ others

-- "that is the one case in which text read and written again may differ": written again, each line is the one that it was, but `move i before i + 1`
-- is `move i before i`; so the text is the same exactly when it has no such line.
abbrev pub ReadAndWritten : Type 0
ReadAndWritten = (m : Maker) (type : ℕ) (words commands : List Command) → text_read m type (lines_of m words) ≡ understood commands
    → Readable m type words → script_text m commands ≡ lines_of m (map (again m) words)

abbrev pub SameTextAgain : Type 0
SameTextAgain = (m : Maker) (type : ℕ) (words commands : List Command) → text_read m type (lines_of m words) ≡ understood commands
    → Readable m type words
    → (script_text m commands ≡ lines_of m words) ↔ ((k : Command) → Memᴰ k words → again m k ≡ k)

-- The lists that the maker's console runs through by the text are those of the script that the text is read as.
abbrev pub RunsAlike : Type 0
RunsAlike = (m : Maker) (type size : ℕ) (l : List ℕ) (words commands : List Command) → text_read m type (lines_of m words) ≡ understood commands
    → Readable m type words → Distinct l → console_lists m size l words ≡ lists size l commands

-- "the longest text of 2,048 commands is known": no script that a file can hold has a longer one, and one has it
abbrev pub most_console : Maker → ℕ
most_console A = 32768
most_console B = 49152

abbrev pub LongestText : Type 0
LongestText = (m : Maker)
    → ((script : Script) → Scripted script → length (script_text m script.commands) ≤ most_console m)
    × ((script : Script) × Scripted script × (length (script_text m script.commands) ≡ most_console m))
