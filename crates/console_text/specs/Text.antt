-- 02, L2: "Write a script as text, one command a line, for maker A (as in document 01) and maker B". Assumes nothing.
use Rattle.std.specs.Prelude.{ℕ, List, [], ◌∷◌, ◌++◌, map}
use Rattle.policy.specs.declared.Command.{Command}
use Rattle.console.specs.Makers.{said}
use Rattle.console.specs.declared.Maker.{Maker}
use Rattle.lines.specs.Text.{text, command_text}

-- "each line ends in a line feed"; the command is in the words of the maker
unfoldable pub line_of : Maker → Command → List ℕ
line_of m k = command_text m k ++ text "\n"

-- "one command a line"
unfoldable pub lines_of : Maker → List Command → List ℕ
lines_of m [] = []
lines_of m (k ∷ words) = line_of m k ++ lines_of m words

-- a script as text: each command in the words of the maker
unfoldable pub script_text : Maker → List Command → List ℕ
script_text m commands = lines_of m (map (said m) commands)
