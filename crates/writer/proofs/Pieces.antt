-- The pieces that the writer puts: a field, its head first, and a field for each rule. Assumes nothing.
use Prim.Native.Nat.{ℕ, zero, suc, ◌+◌, ◌*◌, ◌/◌, ◌%◌, ◌≤◌, ◌<◌}
use native.Mathlib.Numerals.{add-one}
use native.Mathlib.Omega.{arith}
use mathlib.Core.Path.{◌≡◌, refl}
use mathlib.Core.Option.{Option, none, some}
use mathlib.Core.List.{List, [], ◌++◌}
use lib.ListN.{length, take, drop, set, length-append, length-drop}
use lib.Seq.{sets, length-take-le, take_at, drop_at}
use Rattle.deployment.specs.Bytes.{bytes_of, chunks, joined}
use Rattle.deployment.specs.File.{rule_tag, field_bytes}
use Rattle.deployment.proofs.ReadBack.{length_field}
use Rattle.writer.specs.Answers.{rules_bytes, field_if, bytes_if}

-- A field: its head, and then its value.
pub field_put : (place : List ℕ) (at tag : ℕ) (value : List ℕ) → tag < 256 → length value < 65536
    → sets (set (set (set place at tag) (at + 1) (length value / 256)) (at + 2) (length value % 256)) (at + 3) value
    ≡ sets place at (field_bytes tag value)
unfolding field_bytes bytes_of
field_put place at tag value small few =
    let tagged : tag % 256 ≡ tag = omega arith in
    let high : length value / 256 % 256 ≡ length value / 256 = omega arith in
    let two : at + 2 ≡ suc (suc at) = omega arith in
    let three : at + 3 ≡ suc (suc (suc at)) = omega arith in
    rw (tagged, high, add-one, two, three)

pub length_if : (tag : ℕ) (value : Option (List ℕ)) → length (field_if tag value) ≡ bytes_if value
unfolding field_if bytes_if
length_if tag none = refl
length_if tag (some value) = length_field tag value

-- Fields of rules: that of the first, and those of the rest.
pub rules_next : (rule rest : List ℕ) → length rule ≡ 27
    → rules_bytes (length (rule ++ rest) / 27) (rule ++ rest) ≡ field_bytes rule_tag rule ++ rules_bytes (length rest / 27) rest
unfolding rules_bytes chunks joined
rules_next rule rest long =
    let one_more : length (rule ++ rest) / 27 ≡ suc (length rest / 27) = omega (arith, length-append rule rest) in
    rw (one_more, take_at rule rest 27 long, drop_at rule rest 27 long)

pub no_rules : (rest : List ℕ) → length rest < 27 → rules_bytes (length rest / 27) rest ≡ []
unfolding rules_bytes chunks joined
no_rules rest few = let none_left : length rest / 27 ≡ 0 = omega arith in rw none_left

pub length_rules : (count : ℕ) (rules : List ℕ) → count ≤ length rules / 27 → length (rules_bytes count rules) ≡ count * 30
unfolding rules_bytes chunks joined
length_rules zero rules h = omega arith
length_rules (suc count) rules h =
    omega (
      arith,
      length-append (field_bytes rule_tag (take 27 rules)) (rules_bytes count (drop 27 rules)),
      length_field rule_tag (take 27 rules),
      length-take-le 27 rules (omega arith),
      length_rules count (drop 27 rules) (omega (arith, length-drop 27 rules)),
    )

pub length_all_rules : (rules : List ℕ) → length (rules_bytes (length rules / 27) rules) ≡ length rules / 27 * 30
length_all_rules rules = length_rules (length rules / 27) rules (omega arith)
