-- The file of field values, field by field, and how many bytes it has. Assumes nothing.
use Rattle.std.specs.Prelude.{ℕ, ◌+◌, ◌*◌, ◌/◌, List, [], ◌++◌, map, length}
use Rattle.std.proofs.Math.Option.{Option, none, some}
use Rattle.deployment.specs.Bytes.{chunks, joined}
use Rattle.deployment.specs.Values.{rule_width}
use Rattle.deployment.specs.FieldValues.{FieldValues}
use Rattle.deployment.specs.File.{rule_tag, initial_tag, target_tag, default_tag, keep_tag, script_tag, head_bytes, field_bytes}

-- the fields of the first rules of a field value, as many as are asked for
unfoldable pub rules_bytes : ℕ → List ℕ → List ℕ
rules_bytes count rules = joined (map (field_bytes rule_tag) (chunks rule_width count rules))

-- a field that may be absent, and how many bytes it has
unfoldable pub field_if : ℕ → Option (List ℕ) → List ℕ
field_if tag none = []
field_if tag (some value) = field_bytes tag value

unfoldable pub bytes_if : Option (List ℕ) → ℕ
bytes_if none = 0
bytes_if (some value) = head_bytes + length value

-- a field for each rule and for both policies, and how many bytes these have for values of these lengths
unfoldable pub lists_bytes : List ℕ → List ℕ → List ℕ → List ℕ
lists_bytes rules initial target =
    rules_bytes (length rules / rule_width) rules ++ field_bytes initial_tag initial ++ field_bytes target_tag target

abbrev pub lists_needed : ℕ → ℕ → ℕ → ℕ
lists_needed rules initial target =
    rules / rule_width * (head_bytes + rule_width) + (head_bytes + initial) + (head_bytes + target)

-- and for a default, a keep list and a script, where they are there
unfoldable pub given_bytes : FieldValues → List ℕ
given_bytes v =
    lists_bytes v.rules v.initial v.target
    ++ field_if default_tag v.default
    ++ field_if keep_tag v.keep
    ++ field_if script_tag v.script

-- 13: the "bytes needed" for values of these lengths
abbrev pub needed : FieldValues → ℕ
needed v =
    lists_needed (length v.rules) (length v.initial) (length v.target) + bytes_if v.default + bytes_if v.keep + bytes_if v.script
