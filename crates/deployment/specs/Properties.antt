-- What files contain, as properties: by equations, bounds, membership and order, and not by the tests of the definitions.
-- Claims.antt is stated with these. Assumes nothing.
use Rattle.std.specs.Prelude.{ℕ, zero, suc, ◌+◌, ◌*◌, ◌^◌, ◌≤◌, ◌<◌, ◌≡◌, ◌⊎◌, length}
use mathlib.Core.List.{List, [], ◌∷◌, ◌++◌, map, Memᴰ, Sublistᴰ}
use Rattle.std.proofs.Math.Option.{Option, none, some}
use Rattle.policy.specs.Policy.{most_rules, most_listed, most_commands}
use Rattle.policy.specs.Rule.{Range, Rule}
use Rattle.policy.specs.Command.{coded}
use Rattle.policy.specs.Properties.{Distinct, Allows, ScriptType}
use Rattle.policy.specs.Claims.{Admitted, Keepable}
use Rattle.policy.specs.declared.Action.{Action}
use Rattle.policy.specs.declared.Action.TheVariants.{Permit}
use Rattle.policy.specs.declared.Command.{Command}
use Rattle.policy.specs.declared.Flow.{Flow}
use Rattle.deployment.specs.Bytes.{number, part, joined}
use Rattle.deployment.specs.Values.{
  Script,
  rule_width,
  default_width,
  rule_of,
  rule_bytes,
  range_at,
  numbers_of,
  numbers_bytes,
  default_bytes,
  coded_of,
  command_chunks,
  script_bytes,
}
use Rattle.deployment.specs.Contents.{Contents}
use Rattle.deployment.specs.Catalogue.{records_of, catalogue_of}
use Rattle.deployment.specs.File.{
  Fields,
  rules_only,
  set_initial,
  set_target,
  set_default,
  set_keep,
  listed,
  tags_after,
  last_tag,
  field_bytes,
  if_there,
  rule_tag,
  initial_tag,
  target_tag,
  default_tag,
  keep_tag,
  script_tag,
  head_bytes,
}
use Rattle.deployment.specs.FieldValues.{FieldValues}

-- a file is bytes
abbrev pub AreBytes : List ℕ → Type 0
AreBytes bytes = (b : ℕ) → Memᴰ b bytes → b < 256

-- a range of numbers of the given width in bytes, its low not above its high
pub record Sized (width : ℕ) (range : Range) : Type 0 where
  pub rises : range.low ≤ range.high
  pub fits : range.high < 256 ^ width

-- a rule that a record can hold
pub record Recordable (rule : Rule) : Type 0 where
  pub protocol : Sized 1 rule.protocol
  pub source : Sized 4 rule.source
  pub source_port : Sized 2 rule.source_port
  pub destination : Sized 4 rule.destination
  pub destination_port : Sized 2 rule.destination_port

-- "protocol (0 to 255), source address (32 bits), source port (16), destination address (32), destination port (16)"
pub record Numbered (flow : Flow) : Type 0 where
  pub protocol : flow.protocol < 256 ^ 1
  pub source : flow.source < 256 ^ 4
  pub source_port : flow.source_port < 256 ^ 2
  pub destination : flow.destination < 256 ^ 4
  pub destination_port : flow.destination_port < 256 ^ 2

-- "at most 1,024 rules in the catalogue", none equal to an earlier one
abbrev pub Unlike : List Rule → Type 0
Unlike [] = Unit {0}
Unlike (rule ∷ catalogue) = ¬ Memᴰ rule catalogue × Unlike catalogue

pub record Catalogue (catalogue : List Rule) : Type 0 where
  pub few : length catalogue ≤ most_rules
  pub recordable : (rule : Rule) → Memᴰ rule catalogue → Recordable rule
  pub unlike : Unlike catalogue

-- "512 in a policy": a policy that a file can hold, over a catalogue of the given count
pub record Listed (size : ℕ) (policy : List ℕ) : Type 0 where
  pub few : length policy ≤ most_listed
  pub sound : Admitted size policy

-- a script that a file can hold: there are scripts of its type, the type allows its commands, their numbers have two bytes
pub record Scripted (script : Script) : Type 0 where
  pub type : ScriptType script.type
  pub few : length script.commands ≤ most_commands
  pub typed : (c : Command) → Memᴰ c script.commands → Allows script.type c
  pub one : (c : Command) → Memᴰ c script.commands → (coded c).one < 65536
  pub two : (c : Command) → Memᴰ c script.commands → (coded c).two < 65536

-- a property of what may be absent
abbrev pub IfThere : {A : Type 0} → (A → Type 0) → Option A → Type 0
IfThere P none = Unit {0}
IfThere P (some a) = P a

-- contents that a file can hold: the catalogue, both policies, the keep list in both, the script
pub record Valid (c : Contents) : Type 0 where
  pub catalogue : Catalogue c.catalogue
  pub initial : Listed (length c.catalogue) c.initial
  pub target : Listed (length c.catalogue) c.target
  pub keep : Keepable c.initial c.target c.keep
  pub script : IfThere Scripted c.script

-- something is there
abbrev pub There : {A : Type 0} → Option A → Type 0
There none = ⊥
There (some a) = Unit {0}

-- 2: the tags that can stand next are those after the last one
abbrev pub CanStand : Fields → ℕ → Type 0
CanStand f tag = Memᴰ tag (tags_after (last_tag f))

-- the fields up to one of them
abbrev pub up_to_initial : Fields → Fields
up_to_initial f = set_initial (rules_only f.catalogue) f.initial

abbrev pub up_to_target : Fields → Fields
up_to_target f = set_target (up_to_initial f) f.target

abbrev pub up_to_default : Fields → Fields
up_to_default f = set_default (up_to_target f) f.default

abbrev pub up_to_keep : Fields → Fields
up_to_keep f = set_keep (up_to_default f) f.keep

-- values that can stand behind these fields: their tag can stand there, and they are right for the catalogue and the policies there
abbrev pub PolicyBehind : Fields → ℕ → List ℕ → Type 0
PolicyBehind f tag policy = CanStand f tag × Listed (length f.catalogue) policy

-- "value 1 means permit, absence means deny": a default that is there is permit
abbrev pub DefaultBehind : Fields → Action → Type 0
DefaultBehind f default = CanStand f default_tag × (default ≡ Permit)

abbrev pub KeepBehind : Fields → List ℕ → Type 0
KeepBehind f keep = CanStand f keep_tag × Sublistᴰ keep (listed f.initial) × Sublistᴰ keep (listed f.target)

abbrev pub ScriptBehind : Fields → Script → Type 0
ScriptBehind f script = CanStand f script_tag × Scripted script

-- fields that can have been read: each can stand behind those before it
pub record Readable (f : Fields) : Type 0 where
  pub catalogue : Catalogue f.catalogue
  pub initial : IfThere (PolicyBehind (rules_only f.catalogue) initial_tag) f.initial
  pub target : IfThere (PolicyBehind (up_to_initial f) target_tag) f.target
  pub default : IfThere (DefaultBehind (up_to_target f)) f.default
  pub keep : IfThere (KeepBehind (up_to_default f)) f.keep
  pub script : IfThere (ScriptBehind (up_to_keep f)) f.script

-- and the bytes that they were read from
unfoldable pub fields_bytes : Fields → List ℕ
fields_bytes f =
    joined (map (λ rule. field_bytes rule_tag (rule_bytes rule)) f.catalogue)
    ++ (if_there initial_tag numbers_bytes f.initial
    ++ (if_there target_tag numbers_bytes f.target
    ++ (if_there default_tag default_bytes f.default
    ++ (if_there keep_tag numbers_bytes f.keep
    ++ if_there script_tag script_bytes f.script))))

-- The field at the head of the bytes that are left.
abbrev pub tag_of : List ℕ → ℕ
tag_of left = number (part 0 1 left)

abbrev pub size_of : List ℕ → ℕ
size_of left = number (part 1 2 left)

abbrev pub value_of : List ℕ → List ℕ
value_of left = part head_bytes (size_of left) left

-- 7: "a 1,025th rule"
abbrev pub OneTooMany : Fields → ℕ → Type 0
OneTooMany f tag = (tag ≡ rule_tag) × (most_rules ≤ length f.catalogue)

-- 4: "rule not 27; list odd or over 1,024 bytes; script not 1 + 5n with n up to 2,048"; a default not 1 (02, L1)
abbrev pub RightList : ℕ → Type 0
RightList size = (n : ℕ) × (size ≡ 2 * n) × (n ≤ most_listed)

abbrev pub RightScript : ℕ → Type 0
RightScript size = (n : ℕ) × (size ≡ 1 + 5 * n) × (n ≤ most_commands)

abbrev pub RightLength : ℕ → ℕ → Type 0
RightLength tag size =
    ((tag ≡ rule_tag) × (size ≡ rule_width))
    ⊎ (((tag ≡ script_tag) × RightScript size)
    ⊎ (((tag ≡ default_tag) × (size ≡ default_width))
    ⊎ (¬ (tag ≡ rule_tag) × ¬ (tag ≡ script_tag) × ¬ (tag ≡ default_tag) × RightList size)))

-- 5: "action above 1, or a low above its high"
abbrev pub Falling : Range → Type 0
Falling range = range.high < range.low

abbrev pub WrongBounds : List ℕ → Type 0
WrongBounds value =
    (1 < number (part 0 1 value))
    ⊎ (Falling (range_at 1 1 value)
    ⊎ (Falling (range_at 3 4 value)
    ⊎ (Falling (range_at 11 2 value)
    ⊎ (Falling (range_at 15 4 value)
    ⊎ Falling (range_at 23 2 value)))))

-- 8: "a policy names a number outside the catalogue"
abbrev pub NamesOutside : ℕ → List ℕ → Type 0
NamesOutside size policy = (r : ℕ) × Memᴰ r policy × (size ≤ r)

-- 50: "a value other than 1"
abbrev pub WrongDefault : List ℕ → Type 0
WrongDefault value = ¬ (number value ≡ 1)

-- 10: "keep list doesn't occur in order in both policies"
abbrev pub InOrder : List ℕ → List ℕ → List ℕ → Type 0
InOrder initial target keep = Sublistᴰ keep initial × Sublistᴰ keep target

-- 11: "script type, code or unused number wrong": there are no scripts of the type, or some five bytes are no command that it allows
abbrev pub NoCommand : ℕ → List ℕ → Type 0
NoCommand type bytes = (c : Command) → Allows type c → ¬ (coded c ≡ coded_of bytes)

abbrev pub WrongCoding : List ℕ → Type 0
WrongCoding value =
    ¬ ScriptType (number (part 0 1 value))
    ⊎ ((bytes : List ℕ) × Memᴰ bytes (command_chunks value) × NoCommand (number (part 0 1 value)) bytes)

-- "In one field: 1 for the head, 2, 7, 4, 1 for the value, then ..": what has passed
abbrev pub Headed : List ℕ → Type 0
Headed left = head_bytes ≤ length left

abbrev pub Tagged : Fields → List ℕ → Type 0
Tagged f left = Headed left × CanStand f (tag_of left)

abbrev pub Counted : Fields → List ℕ → Type 0
Counted f left = Tagged f left × ¬ OneTooMany f (tag_of left)

abbrev pub Measured : Fields → List ℕ → Type 0
Measured f left = Counted f left × RightLength (tag_of left) (size_of left)

abbrev pub Whole : Fields → List ℕ → Type 0
Whole f left = Measured f left × (head_bytes + size_of left ≤ length left)

-- "Turned away": when the field at the head of the bytes that are left is turned away with which number; each row supposes that the
-- earlier tests of the field pass
pub data FieldFails (f : Fields) (left : List ℕ) : ℕ → Type 0 where
  cut : ((1 ≤ length left) × (length left < head_bytes)) ⊎ (Measured f left × (length left < head_bytes + size_of left)) → FieldFails f left 1
  wrong_tag : Headed left → ¬ CanStand f (tag_of left) → FieldFails f left 2
  no_target : left ≡ [] → ¬ There f.target → FieldFails f left 3
  wrong_length : Counted f left → ¬ RightLength (tag_of left) (size_of left) → FieldFails f left 4
  wrong_bounds : Whole f left → tag_of left ≡ rule_tag → WrongBounds (value_of left) → FieldFails f left 5
  equal_rule : Whole f left → tag_of left ≡ rule_tag → ¬ WrongBounds (value_of left) → Memᴰ (rule_of (value_of left)) f.catalogue
      → FieldFails f left 6
  rule_too_many : Tagged f left → OneTooMany f (tag_of left) → FieldFails f left 7
  names_outside : Whole f left → (tag_of left ≡ initial_tag) ⊎ (tag_of left ≡ target_tag)
      → NamesOutside (length f.catalogue) (numbers_of (value_of left)) → FieldFails f left 8
  names_twice : Whole f left → (tag_of left ≡ initial_tag) ⊎ (tag_of left ≡ target_tag)
      → ¬ NamesOutside (length f.catalogue) (numbers_of (value_of left)) → ¬ Distinct (numbers_of (value_of left)) → FieldFails f left 9
  keep_astray : Whole f left → tag_of left ≡ keep_tag → ¬ InOrder (listed f.initial) (listed f.target) (numbers_of (value_of left))
      → FieldFails f left 10
  wrong_coding : Whole f left → tag_of left ≡ script_tag → WrongCoding (value_of left) → FieldFails f left 11
  wrong_default : Whole f left → tag_of left ≡ default_tag → WrongDefault (value_of left) → FieldFails f left 50

-- "Fields are tested left to right", the position being the field's first byte
pub record TurnedAway (file : List ℕ) (number at : ℕ) : Type 0 where
  pub fields : Fields
  pub left : List ℕ
  pub is : file ≡ fields_bytes fields ++ left
  pub readable : Readable fields
  pub counted : at ≡ length (fields_bytes fields)
  pub fails : FieldFails fields left number

-- Field values, in document 01's order. 4 and 7: "rules not of 27 bytes each", "a 1,025th rule"
abbrev pub RightRules : ℕ → Type 0
RightRules size = (n : ℕ) × (size ≡ rule_width * n) × (n ≤ most_rules)

-- rules that pass, as bytes: none has wrong bounds, none equals an earlier one
pub record RulesPass (rules : List (List ℕ)) : Type 0 where
  pub bounds : (rule : List ℕ) → Memᴰ rule rules → ¬ WrongBounds rule
  pub unlike : Unlike (map rule_of rules)

-- "5 and 6 rule by rule": a rule behind those that pass
pub data RuleFails (earlier : List (List ℕ)) (rule : List ℕ) : ℕ → Type 0 where
  rule_bounds : WrongBounds rule → RuleFails earlier rule 5
  rule_equal : ¬ WrongBounds rule → Memᴰ (rule_of rule) (map rule_of earlier) → RuleFails earlier rule 6

-- a rule among some, behind others that pass
pub record RulePlace (rules earlier : List (List ℕ)) (rule : List ℕ) : Type 0 where
  pub later : List (List ℕ)
  pub is : rules ≡ earlier ++ (rule ∷ later)
  pub pass : RulesPass earlier

-- "4 for rules not of 27 bytes each, 7, then 5 and 6 rule by rule"
pub data RulesFail (value : List ℕ) : ℕ → Type 0 where
  rules_length : ((n : ℕ) → ¬ (length value ≡ rule_width * n)) → RulesFail value 4
  rules_many : (n : ℕ) → length value ≡ rule_width * n → most_rules < n → RulesFail value 7
  rules_one : RightRules (length value) → (earlier : List (List ℕ)) (rule : List ℕ) (number : ℕ)
      → RulePlace (records_of 0 value) earlier rule → RuleFails earlier rule number → RulesFail value number

-- "4, 8, 9 for the initial policy and again for the target": a policy value over so many rules
pub data PolicyFails (size : ℕ) (value : List ℕ) : ℕ → Type 0 where
  policy_length : ¬ RightList (length value) → PolicyFails size value 4
  policy_outside : RightList (length value) → NamesOutside size (numbers_of value) → PolicyFails size value 8
  policy_twice : RightList (length value) → ¬ NamesOutside size (numbers_of value) → ¬ Distinct (numbers_of value)
      → PolicyFails size value 9

-- 02, L1: "4 for another length, then 50"
pub data DefaultFails (value : List ℕ) : ℕ → Type 0 where
  default_length : ¬ (length value ≡ default_width) → DefaultFails value 4
  value_of_default : length value ≡ default_width → WrongDefault value → DefaultFails value 50

-- "4, 10 for the keep list"
pub data KeepFails (initial target value : List ℕ) : ℕ → Type 0 where
  keep_length : ¬ RightList (length value) → KeepFails initial target value 4
  keep_order : RightList (length value) → ¬ InOrder initial target (numbers_of value) → KeepFails initial target value 10

-- "4, 11 for the script"
pub data ScriptFails (value : List ℕ) : ℕ → Type 0 where
  script_length : ¬ RightScript (length value) → ScriptFails value 4
  script_coding : RightScript (length value) → WrongCoding value → ScriptFails value 11

-- each value where it passes
abbrev pub RulesRight : List ℕ → Type 0
RulesRight value = RightRules (length value) × RulesPass (records_of 0 value)

abbrev pub PolicyRight : ℕ → List ℕ → Type 0
PolicyRight size value = RightList (length value) × Admitted size (numbers_of value)

abbrev pub DefaultRight : List ℕ → Type 0
DefaultRight value = (length value ≡ default_width) × (number value ≡ 1)

abbrev pub KeepRight : List ℕ → List ℕ → List ℕ → Type 0
KeepRight initial target value = RightList (length value) × InOrder initial target (numbers_of value)

-- "Entries that take lists": when field values are turned away with which number; each row supposes that the values before it pass
abbrev pub rule_count : FieldValues → ℕ
rule_count v = length (catalogue_of 0 v.rules)

abbrev pub ListsRight : FieldValues → Type 0
ListsRight v = RulesRight v.rules × PolicyRight (rule_count v) v.initial × PolicyRight (rule_count v) v.target

abbrev pub PoliciesRight : FieldValues → Type 0
PoliciesRight v = ListsRight v × IfThere DefaultRight v.default

pub data ValuesFail (v : FieldValues) (number : ℕ) : Type 0 where
  at_rules : RulesFail v.rules number → ValuesFail v number
  at_initial : RulesRight v.rules → PolicyFails (rule_count v) v.initial number → ValuesFail v number
  at_target : RulesRight v.rules → PolicyRight (rule_count v) v.initial → PolicyFails (rule_count v) v.target number
      → ValuesFail v number
  at_default : ListsRight v → (default : List ℕ) → v.default ≡ some default → DefaultFails default number → ValuesFail v number
  at_keep : PoliciesRight v → (keep : List ℕ) → v.keep ≡ some keep → KeepFails (numbers_of v.initial) (numbers_of v.target) keep number
      → ValuesFail v number
  at_script : PoliciesRight v → IfThere (KeepRight (numbers_of v.initial) (numbers_of v.target)) v.keep
      → (script : List ℕ) → v.script ≡ some script → ScriptFails script number → ValuesFail v number
