-- 01, "Examples on each side": the lines that the programs print, byte by byte. Assumes nothing.
use Rattle.std.specs.Prelude.{ℕ, zero, suc, ◌+◌, ◌/◌, ◌%◌, true, false, cond, ◌||◌, List, [], ◌∷◌, ◌++◌, length, ◌==◌, nat_lt}
use Prim.Native.String.{String}
use Prim.Native.Char.{Char, code}
use Rattle.std.proofs.Math.Option.{Option, none, some}
use Rattle.policy.specs.Command.{coded}
use Rattle.policy.specs.Judge.{verdict_numbers}
use Rattle.policy.specs.declared.Command.{Command}
use Rattle.policy.specs.declared.Verdict.{Verdict}
use Rattle.console.specs.declared.Maker.{Maker}
use Rattle.console.specs.declared.Maker.TheVariants.{A, B}
use Rattle.deployment.specs.Checked.{why_number}
use Rattle.deployment.specs.declared.Refusal.{Refusal}

-- the bytes of a fixed word
unfoldable pub text : String → List ℕ
text String.[] = []
text (String.◌∷◌ c s) = code c ∷ text s

-- a number in decimal digits, most significant first, with no leading zero; the first argument only bounds how many there can be
unfoldable pub digits : ℕ → ℕ → List ℕ
digits zero n = []
digits (suc most) n =
    elim (nat_lt n 10) [ true ↦ (48 + n) ∷ [] | false ↦ digits most (n / 10) ++ ((48 + n % 10) ∷ []) ]

unfoldable pub decimal : ℕ → List ℕ
decimal n = digits (suc n) n

-- a blank and a number
unfoldable pub spaced : ℕ → List ℕ
spaced n = text " " ++ decimal n

-- a word, a blank and a number
unfoldable pub named : String → ℕ → List ℕ
named word n = text word ++ spaced n

-- The fixed words of a command: its name, and what stands between its numbers if it has two. "Words and numbers are parted by one blank" (02, L2).
pub record Words : Type 0 where
  pub name : List ℕ
  pub between : Option (List ℕ)

-- "B differs in one: `move i before b`" (02, L2)
unfoldable pub move_words : Maker → Words
move_words A = record { name = text "mov "; between = some (text " ") }
move_words B = record { name = text "move "; between = some (text " before ") }

-- the words of each code, a row for each name; what is printed and what is read of console text go by this table
unfoldable pub words_of : Maker → ℕ → Words
words_of m code =
    cond (code == 1) (record { name = text "app "; between = none })
    (cond (code == 2 || code == 4) (record { name = text "del "; between = none })
    (cond (code == 3) (record { name = text "ins "; between = some (text " ") })
    (move_words m)))

-- the second number behind its word, if there is one
unfoldable pub second_text : Option (List ℕ) → ℕ → List ℕ
second_text none n = []
second_text (some word) n = word ++ decimal n

-- "the command's name and its numbers", of a command in the words of a maker
unfoldable pub command_text : Maker → Command → List ℕ
command_text m k =
    let words = words_of m (coded k).code in
    words.name ++ (decimal (coded k).one ++ second_text words.between (coded k).two)

-- "A line gives the step, the command's name and its numbers", in the words of document 01, which are maker A's
unfoldable pub line_text : ℕ → Command → List ℕ
line_text step c = decimal step ++ (text " " ++ (command_text A c ++ text "\n"))

-- a line for each command; the first argument is the step of the first
unfoldable pub lines_text : ℕ → List Command → List ℕ
lines_text step [] = []
lines_text step (c ∷ script) = line_text step c ++ lines_text (suc step) script

-- "The head gives the type, both lengths, rules kept, commands."
unfoldable pub head_text : ℕ → ℕ → ℕ → ℕ → ℕ → List ℕ
head_text type initial target kept commands =
    named "type" type
    ++ (named " initial" initial
    ++ (named " target" target
    ++ (named " kept" kept
    ++ (named " commands" commands
    ++ text "\n"))))

-- a plan: its head, and its lines
unfoldable pub block_text : ℕ → ℕ → ℕ → ℕ → List Command → List ℕ
block_text type initial target kept script = head_text type initial target kept (length script) ++ lines_text 1 script

-- "A bad file gives one line, as `refused 3 at 0`."
unfoldable pub refused_text : Refusal → List ℕ
refused_text r = named "refused" (why_number r.why) ++ (named " at" r.at ++ text "\n")

-- the number of a verdict and its values
unfoldable pub spaced_all : List ℕ → List ℕ
spaced_all [] = []
spaced_all (n ∷ numbers) = spaced n ++ spaced_all numbers

-- "one line, as `verdict 30 1 2`, `verdict 22 5` or `verdict 32`"
unfoldable pub verdict_text : Verdict → List ℕ
verdict_text v = text "verdict" ++ (spaced_all (verdict_numbers v) ++ text "\n")
