-- The catalogue as bytes: records of 27 bytes, each behind as many bytes as are to be skipped: 3 in a file, where a field's head stands
-- there, and none in a field value. Assumes nothing.
use Rattle.std.specs.Prelude.{ℕ, ◌+◌, ◌/◌, List, map, length, drop}
use Rattle.policy.specs.Rule.{Rule}
use Rattle.deployment.specs.Bytes.{chunks}
use Rattle.deployment.specs.Values.{rule_width, rule_of}

-- how many whole records there are
unfoldable pub record_count : ℕ → List ℕ → ℕ
record_count skip bytes = length bytes / (skip + rule_width)

unfoldable pub records_of : ℕ → List ℕ → List (List ℕ)
records_of skip bytes = map (drop skip) (chunks (skip + rule_width) (record_count skip bytes) bytes)

-- the rules of these records, numbered from 0
unfoldable pub catalogue_of : ℕ → List ℕ → List Rule
catalogue_of skip bytes = map rule_of (records_of skip bytes)
