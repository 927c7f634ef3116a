-- A script field under way: its head, and the records that stand behind it. Assumes nothing.
use Rattle.std.specs.Prelude.{ℕ, ◌+◌, ◌*◌, ◌≤◌, ◌≡◌, List, ◌++◌, map, length}
use Rattle.std.proofs.lemmas.List.Edits.{sets}
use Rattle.policy.specs.Command.{coded}
use Rattle.policy.specs.declared.Command.{Command}
use Rattle.deployment.specs.Bytes.{bytes_of, joined}
use Rattle.deployment.specs.Values.{coded_bytes}
use Rattle.deployment.specs.File.{script_tag}

-- the bytes before the records: tag, length and type of a script of so many commands
unfoldable pub script_head : ℕ → ℕ → List ℕ
script_head type count = bytes_of 1 script_tag ++ (bytes_of 2 (1 + 5 * count) ++ bytes_of 1 type)

-- "five bytes a command", one command after another
unfoldable pub records : List Command → List ℕ
records commands = joined (map (λ c. coded_bytes (coded c)) commands)

-- no plan has more commands than 512 rules deleted and 512 put in; its field has a head, a type byte and five bytes a command
abbrev pub most_planned : ℕ
most_planned = 1024

abbrev pub field_width : ℕ
field_width = 5124

-- a place for the longest field once these commands have been put, the first of them as number n; all other bytes are the old ones
pub record Sent (old : List ℕ) (n : ℕ) (commands : List Command) (field : List ℕ) : Type 0 where
  pub long : length field ≡ field_width
  pub few : n + length commands ≤ most_planned
  pub put : field ≡ sets old (4 + 5 * n) (records commands)
