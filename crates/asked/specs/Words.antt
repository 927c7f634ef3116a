-- 02, L2: what a word of the call asks for. Assumes nothing.
use Rattle.std.specs.Prelude.{ℕ, cond, List, Option, Some, None}
use Rattle.policy.specs.Lists.{same}
use Rattle.console.specs.declared.Maker.{Maker}
use Rattle.console.specs.declared.Maker.TheVariants.{A, B}
use Rattle.lines.specs.Text.{text}
use Rattle.asked.specs.declared.What.{What}
use Rattle.asked.specs.declared.What.TheVariants as what

-- "MAKER is A or B"
unfoldable pub maker_asked : List ℕ → Option Maker
maker_asked word = cond (same word (text "A")) (Some A) (cond (same word (text "B")) (Some B) None)

-- "WHAT is 1 or 2 for the plan of that type, or `own` for the file's script"; TYPE is 1 or 2
unfoldable pub what_asked : List ℕ → Option What
what_asked word =
    cond (same word (text "1")) (Some what.One)
    (cond (same word (text "2")) (Some what.Two)
    (cond (same word (text "own")) (Some what.Own)
    None))
