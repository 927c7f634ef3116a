-- The text that `showlist` prints: what a deployment file contains, byte by byte. Lines of a script, numbers and refusals are those of
-- `planlist`, and the lines of rules are those of `rule_lines`. Assumes nothing.
use Rattle.std.specs.Prelude.{ℕ, List, [], ◌∷◌, ◌++◌, length}
use Rattle.std.proofs.Math.Option.{Option, none, some}
use Rattle.policy.specs.declared.Action.{Action}
use Rattle.policy.specs.declared.Action.TheVariants.{Deny, Permit}
use Rattle.deployment.specs.Values.{Script, numbers_of, script_of}
use Rattle.deployment.specs.Contents.{Contents}
use Rattle.deployment.specs.File.{accepted, refused, read_file}
use Rattle.lines.specs.Text.{text, decimal, spaced, spaced_all, named, lines_text, refused_text}
use Rattle.rule_lines.specs.Text.{catalogue_text}

-- rule numbers on one line, as `1 0 4 3`; no line where there are none
unfoldable pub numbers_text : List ℕ → List ℕ
numbers_text [] = []
numbers_text (n ∷ numbers) = decimal n ++ (spaced_all numbers ++ text "\n")

-- how many numbers a list has, as ` 4`, and under it the numbers
unfoldable pub list_text : List ℕ → List ℕ
list_text numbers = spaced (length numbers) ++ (text "\n" ++ numbers_text numbers)

-- both policies, as `initial 4` and its numbers, `target 4` and its numbers
unfoldable pub policies_text : List ℕ → List ℕ → List ℕ
policies_text initial target = text "initial" ++ (list_text initial ++ (text "target" ++ list_text target))

-- their default, as `default deny`
unfoldable pub default_text : Action → List ℕ
default_text Deny = text "default deny\n"
default_text Permit = text "default permit\n"

-- the keep list, as `keep 2` and its numbers, or `keep absent`
unfoldable pub keep_text : Option (List ℕ) → List ℕ
keep_text none = text "keep absent\n"
keep_text (some keep) = text "keep" ++ list_text keep

-- the numbers of a keep list that may be absent, and the script of a value that may be
unfoldable pub numbers_given : Option (List ℕ) → Option (List ℕ)
numbers_given none = none
numbers_given (some value) = some (numbers_of value)

unfoldable pub script_given : Option (List ℕ) → Option Script
script_given none = none
script_given (some value) = script_of value

-- the script, as `script type 2 commands 3` and a line for each command, or `script absent`
unfoldable pub script_text : Option Script → List ℕ
script_text none = text "script absent\n"
script_text (some script) =
    named "script type" script.type
    ++ (named " commands" (length script.commands)
    ++ (text "\n"
    ++ lines_text 1 script.commands))

-- all of it, in the order of the file
unfoldable pub show_text : Contents → List ℕ
show_text c =
    catalogue_text c.catalogue
    ++ (policies_text c.initial c.target
    ++ (default_text c.default
    ++ (keep_text c.keep
    ++ script_text c.script)))

-- what the program prints for the bytes of its standard input
unfoldable pub show_printed : List ℕ → List ℕ
show_printed file = elim (read_file file) [ accepted c ↦ show_text c | refused r ↦ refused_text r ]
