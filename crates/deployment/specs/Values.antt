-- 01, "The deployment file": the values of fields: rules, lists of rule numbers, defaults, scripts; each read from bytes and written as bytes.
-- Assumes nothing.
use Rattle.std.specs.Prelude.{ℕ, ◌+◌, ◌*◌, ◌-◌, ◌/◌, ◌%◌, Bool, true, false, cond, ◌&&◌, ◌||◌, List, [], ◌∷◌, ◌++◌, map, length, drop, eqb, leb}
use Rattle.std.proofs.Math.Option.{Option, none, some}
use Rattle.policy.specs.Policy.{same_action, most_listed, most_commands}
use Rattle.policy.specs.Rule.{Range, Rule}
unfoldable pub use Rattle.policy.specs.Rule.{action_number}
use Rattle.policy.specs.Lists.{mem}
use Rattle.policy.specs.Command.{Coded, coded, codes_of, is_type}
use Rattle.policy.specs.declared.Action.{Action}
use Rattle.policy.specs.declared.Action.TheVariants.{Deny, Permit}
use Rattle.policy.specs.declared.Command.{Command}
use Rattle.policy.specs.declared.Command.TheVariants.{App, DelRule, Ins, DelPlace, Mov}
use Rattle.deployment.specs.Bytes.{number, bytes_of, part, chunks, joined}

-- "a rule, 27 bytes"
abbrev pub rule_width : ℕ
rule_width = 27

-- "action (0 deny, 1 permit)"
unfoldable pub action_of : ℕ → Action
action_of n = cond (eqb n 1) Permit Deny

-- "low, high", each of the given width, from the given byte on
unfoldable pub range_at : ℕ → ℕ → List ℕ → Range
range_at start width value = record { low = number (part start width value); high = number (part (start + width) width value) }

unfoldable pub range_bytes : ℕ → Range → List ℕ
range_bytes width range = bytes_of width range.low ++ bytes_of width range.high

-- "action ..; protocol low, high; source low, high; source port low, high; destination low, high; destination port low, high"
unfoldable pub rule_of : List ℕ → Rule
rule_of value =
    record {
      action = action_of (number (part 0 1 value));
      protocol = range_at 1 1 value;
      source = range_at 3 4 value;
      source_port = range_at 11 2 value;
      destination = range_at 15 4 value;
      destination_port = range_at 23 2 value;
    }

unfoldable pub rule_bytes : Rule → List ℕ
rule_bytes rule =
    bytes_of 1 (action_number rule.action)
    ++ (range_bytes 1 rule.protocol
    ++ (range_bytes 4 rule.source
    ++ (range_bytes 2 rule.source_port
    ++ (range_bytes 4 rule.destination
    ++ range_bytes 2 rule.destination_port))))

-- 5: "action above 1, or a low above its high"
unfoldable pub rising : Range → Bool
rising range = leb range.low range.high

unfoldable pub rule_fits : List ℕ → Bool
rule_fits value =
    leb (number (part 0 1 value)) 1
    && rising (range_at 1 1 value)
    && rising (range_at 3 4 value)
    && rising (range_at 11 2 value)
    && rising (range_at 15 4 value)
    && rising (range_at 23 2 value)

-- 6: "equal in all fields and action", and "equal to an earlier one"
unfoldable pub same_range : Range → Range → Bool
same_range a b = eqb a.low b.low && eqb a.high b.high

unfoldable pub same_rule : Rule → Rule → Bool
same_rule a b =
    same_action a.action b.action
    && same_range a.protocol b.protocol
    && same_range a.source b.source
    && same_range a.source_port b.source_port
    && same_range a.destination b.destination
    && same_range a.destination_port b.destination_port

unfoldable pub known : Rule → List Rule → Bool
known rule [] = false
known rule (earlier ∷ catalogue) = same_rule earlier rule || known rule catalogue

-- 02, L1: a default, "length 1"
abbrev pub default_width : ℕ
default_width = 1

-- 50: "a value other than 1"
unfoldable pub default_fits : List ℕ → Bool
default_fits value = eqb (number value) 1

-- "value 1 means permit"
unfoldable pub default_bytes : Action → List ℕ
default_bytes action = bytes_of default_width (action_number action)

-- "absence means deny": the default that a field, there or not, gives, and the field of a default
unfoldable pub default_of : Option Action → Action
default_of none = Deny
default_of (some action) = action

unfoldable pub default_field : Action → Option Action
default_field Deny = none
default_field Permit = some Permit

-- "two-byte rule numbers"
unfoldable pub numbers_of : List ℕ → List ℕ
numbers_of value = map number (chunks 2 (length value / 2) value)

unfoldable pub numbers_bytes : List ℕ → List ℕ
numbers_bytes numbers = joined (map (bytes_of 2) numbers)

-- "type byte 1 or 2, then five bytes a command"
pub record Script : Type 0 where
  pub type : ℕ
  pub commands : List Command

-- a command from its code and its two numbers: nothing where the code is another, or where a number that isn't used isn't 0
unfoldable pub command_of : Coded → Option Command
command_of c =
    cond (eqb c.code 1 && eqb c.two 0) (some (App c.one))
    (cond (eqb c.code 2 && eqb c.two 0) (some (DelRule c.one))
    (cond (eqb c.code 3) (some (Ins c.one c.two))
    (cond (eqb c.code 4 && eqb c.two 0) (some (DelPlace c.one))
    (cond (eqb c.code 5) (some (Mov c.one c.two))
    none))))

-- and one of a script of the given type: 11 also where the type doesn't allow the code
unfoldable pub command_from : ℕ → Coded → Option Command
command_from type c = cond (mem c.code (codes_of type)) (command_of c) none

unfoldable pub coded_of : List ℕ → Coded
coded_of bytes = record { code = number (part 0 1 bytes); one = number (part 1 2 bytes); two = number (part 3 2 bytes) }

unfoldable pub coded_bytes : Coded → List ℕ
coded_bytes c = bytes_of 1 c.code ++ (bytes_of 2 c.one ++ bytes_of 2 c.two)

-- all of them, or nothing where one is wrong
unfoldable pub every_command : ℕ → List (List ℕ) → Option (List Command)
every_command type [] = some []
every_command type (bytes ∷ others) =
    elim (command_from type (coded_of bytes)) [
      | none ↦ none
      | some c ↦ elim (every_command type others) [ none ↦ none | some commands ↦ some (c ∷ commands) ]
    ]

-- "then five bytes a command"
unfoldable pub command_chunks : List ℕ → List (List ℕ)
command_chunks value = chunks 5 ((length value - 1) / 5) (drop 1 value)

unfoldable pub script_of : List ℕ → Option Script
script_of value =
    let type = number (part 0 1 value) in
    cond (is_type type)
    (elim (every_command type (command_chunks value)) [
      | none ↦ none
      | some commands ↦ some (record { type = type; commands = commands })
    ])
    none

unfoldable pub script_bytes : Script → List ℕ
script_bytes script = bytes_of 1 script.type ++ joined (map (λ c. coded_bytes (coded c)) script.commands)

-- 4: "length wrong: rule not 27; list odd or over 1,024 bytes; script not 1 + 5n with n up to 2,048"
unfoldable pub list_fits : ℕ → Bool
list_fits size = eqb (size % 2) 0 && leb size (2 * most_listed)

abbrev pub most_script_bytes : ℕ
most_script_bytes = 1 + 5 * most_commands

unfoldable pub script_fits : ℕ → Bool
script_fits size = leb 1 size && eqb ((size - 1) % 5) 0 && leb size most_script_bytes
