-- 01, "The deployment file": the reader, from bytes to contents or to a refusal, and the writer. Assumes nothing.
use Rattle.std.specs.Prelude.{ℕ, zero, suc, ◌+◌, Bool, true, false, cond, not, ◌&&◌, ◌||◌, List, [], ◌∷◌, ◌++◌, map, length, eqb, leb, ltb}
use Rattle.std.proofs.Math.Option.{Option, none, some}
use Rattle.policy.specs.Lists.{mem}
use Rattle.policy.specs.Policy.{most_rules}
use Rattle.policy.specs.Rule.{Rule}
use Rattle.policy.specs.declared.Action.{Action}
use Rattle.deployment.specs.Checked.{Checked, good, bad, ◌>>=◌, ◌>>◌, require, refusal_numbers}
use Rattle.deployment.specs.Bytes.{number, bytes_of, part, joined}
use Rattle.deployment.specs.Values.{
  Script,
  rule_width,
  default_width,
  rule_bytes,
  numbers_bytes,
  default_bytes,
  script_bytes,
  default_of,
  default_field,
  list_fits,
  script_fits,
}
use Rattle.deployment.specs.Contents.{Contents, rule_read, policy_read, default_read, keep_read, script_read}
use Rattle.deployment.specs.declared.Why.{Why}
use Rattle.deployment.specs.declared.Why.TheVariants.{Cut, Tag, NoTarget, Length, TooMany, NoScript}
use Rattle.deployment.specs.declared.Refusal.{Refusal}

-- the fields read so far
pub record Fields : Type 0 where
  pub catalogue : List Rule
  pub initial : Option (List ℕ)
  pub target : Option (List ℕ)
  pub default : Option Action
  pub keep : Option (List ℕ)
  pub script : Option Script

-- rules and nothing else
abbrev pub rules_only : List Rule → Fields
rules_only catalogue =
    record { catalogue = catalogue; initial = none; target = none; default = none; keep = none; script = none }

unfoldable pub nothing : Fields
nothing = rules_only []

-- one member set, the others kept
abbrev pub set_catalogue : Fields → List Rule → Fields
set_catalogue f catalogue =
    record {
      catalogue = catalogue;
      initial = f.initial;
      target = f.target;
      default = f.default;
      keep = f.keep;
      script = f.script;
    }

abbrev pub set_initial : Fields → Option (List ℕ) → Fields
set_initial f initial =
    record {
      catalogue = f.catalogue;
      initial = initial;
      target = f.target;
      default = f.default;
      keep = f.keep;
      script = f.script;
    }

abbrev pub set_target : Fields → Option (List ℕ) → Fields
set_target f target =
    record {
      catalogue = f.catalogue;
      initial = f.initial;
      target = target;
      default = f.default;
      keep = f.keep;
      script = f.script;
    }

abbrev pub set_default : Fields → Option Action → Fields
set_default f default =
    record {
      catalogue = f.catalogue;
      initial = f.initial;
      target = f.target;
      default = default;
      keep = f.keep;
      script = f.script;
    }

abbrev pub set_keep : Fields → Option (List ℕ) → Fields
set_keep f keep =
    record {
      catalogue = f.catalogue;
      initial = f.initial;
      target = f.target;
      default = f.default;
      keep = keep;
      script = f.script;
    }

abbrev pub set_script : Fields → Option Script → Fields
set_script f script =
    record {
      catalogue = f.catalogue;
      initial = f.initial;
      target = f.target;
      default = f.default;
      keep = f.keep;
      script = script;
    }

-- the numbers of a list that is there
unfoldable pub listed : Option (List ℕ) → List ℕ
listed none = []
listed (some l) = l

-- the table of tags: 01 a rule, 02 initial policy, 03 target policy, 04 keep list, 05 script; 02, L1: "a field with tag 06"
abbrev pub rule_tag : ℕ
rule_tag = 1

abbrev pub initial_tag : ℕ
initial_tag = 2

abbrev pub target_tag : ℕ
target_tag = 3

abbrev pub default_tag : ℕ
default_tag = 6

abbrev pub keep_tag : ℕ
keep_tag = 4

abbrev pub script_tag : ℕ
script_tag = 5

-- "Tags stand in rising order", rules any number of times, each policy once, keep list and script at most once; a default at most once,
-- "between tags 03 and 04" (02, L1): the tags that can stand after the last one. The only place that says so.
unfoldable pub tags_after : ℕ → List ℕ
tags_after last =
    cond (eqb last rule_tag) (rule_tag ∷ initial_tag ∷ [])
    (cond (eqb last initial_tag) (target_tag ∷ [])
    (cond (eqb last target_tag) (default_tag ∷ keep_tag ∷ script_tag ∷ [])
    (cond (eqb last default_tag) (keep_tag ∷ script_tag ∷ [])
    (cond (eqb last keep_tag) (script_tag ∷ [])
    []))))

-- the last tag that is there, that of a rule at the start
unfoldable pub tag_or : {A : Type 0} → ℕ → Option A → ℕ → ℕ
tag_or tag none last = last
tag_or tag (some a) last = tag

unfoldable pub last_tag : Fields → ℕ
last_tag f =
    tag_or script_tag f.script
    (tag_or keep_tag f.keep
    (tag_or default_tag f.default
    (tag_or target_tag f.target
    (tag_or initial_tag f.initial
    rule_tag))))

-- 4, by the tag
unfoldable pub length_fits : ℕ → ℕ → Bool
length_fits tag size =
    cond (eqb tag rule_tag) (eqb size rule_width)
    (cond (eqb tag script_tag) (script_fits size)
    (cond (eqb tag default_tag) (eqb size default_width)
    (list_fits size)))

-- "a one-byte tag, a two-byte length, the value"
abbrev pub head_bytes : ℕ
head_bytes = 3

pub record Field : Type 0 where
  pub tag : ℕ
  pub value : List ℕ

-- the field at the head of the bytes that are left. "In one field: 1 for the head, 2, 7, 4, 1 for the value"
unfoldable pub field_read : Fields → List ℕ → Checked Field
field_read f left =
    let tag = number (part 0 1 left) in
    let size = number (part 1 2 left) in
    do
      require (leb head_bytes (length left)) Cut
      require (mem tag (tags_after (last_tag f))) Tag
      require (not (eqb tag rule_tag && leb most_rules (length f.catalogue))) TooMany
      require (length_fits tag size) Length
      require (leb (head_bytes + size) (length left)) Cut
      good (record { tag = tag; value = part head_bytes size left })

-- the value, by its tag: "then 5, 6; or 8, 9; or 10; or 11", or 50
unfoldable pub with_rule : Fields → List ℕ → Checked Fields
with_rule f value = do
  rule ← rule_read f.catalogue value
  good (set_catalogue f (f.catalogue ++ (rule ∷ [])))

unfoldable pub with_policy : (Fields → Option (List ℕ) → Fields) → Fields → List ℕ → Checked Fields
with_policy set f value = do
  policy ← policy_read (length f.catalogue) value
  good (set f (some policy))

unfoldable pub with_default : Fields → List ℕ → Checked Fields
with_default f value = do
  default ← default_read value
  good (set_default f (some default))

unfoldable pub with_keep : Fields → List ℕ → Checked Fields
with_keep f value = do
  keep ← keep_read (listed f.initial) (listed f.target) value
  good (set_keep f (some keep))

unfoldable pub with_script : Fields → List ℕ → Checked Fields
with_script f value = do
  script ← script_read value
  good (set_script f (some script))

unfoldable pub with_field : Fields → Field → Checked Fields
with_field f field =
    elim (eqb field.tag rule_tag) [
      | true ↦ with_rule f field.value
      | false ↦ elim (eqb field.tag initial_tag) [
        | true ↦ with_policy set_initial f field.value
        | false ↦ elim (eqb field.tag target_tag) [
          | true ↦ with_policy set_target f field.value
          | false ↦ elim (eqb field.tag default_tag) [
            | true ↦ with_default f field.value
            | false ↦ elim (eqb field.tag keep_tag) [ true ↦ with_keep f field.value | false ↦ with_script f field.value ]
          ]
        ]
      ]
    ]

-- what is read of a file: its contents, or the refusal
pub data Reading : Type 0 where
  accepted : Contents → Reading
  refused : Refusal → Reading

-- the numbers of its refusal; none where it is accepted
unfoldable pub reading_numbers : Reading → List ℕ
reading_numbers (accepted contents) = []
reading_numbers (refused refusal) = refusal_numbers refusal

-- 3: "the file ends before a target policy", at the file's length
unfoldable pub at_end : Fields → ℕ → Reading
at_end f at =
    elim f.target [
      | none ↦ refused (record { why = NoTarget; at = at })
      | some target ↦ accepted (record {
        catalogue = f.catalogue;
        initial = listed f.initial;
        target = target;
        default = default_of f.default;
        keep = f.keep;
        script = f.script;
      })
    ]

-- "Fields are tested left to right." The first number is how many bytes of the field just read are still to be passed over, the second
-- the position; a field's refusal stands at its first byte.
unfoldable pub read_from : ℕ → Fields → ℕ → List ℕ → Reading
read_from pass f at [] = at_end f at
read_from (suc pass) f at (b ∷ left) = read_from pass f (suc at) left
read_from zero f at (b ∷ left) =
    elim (field_read f (b ∷ left)) [
      | bad why ↦ refused (record { why = why; at = at })
      | good field ↦ elim (with_field f field) [
        | bad why ↦ refused (record { why = why; at = at })
        | good g ↦ read_from (2 + length field.value) g (suc at) left
      ]
    ]

unfoldable pub read_file : List ℕ → Reading
read_file file = read_from 0 nothing 0 file

-- 12: "judge called, no script in the file", at the file's length
unfoldable pub needs_script : ℕ → Reading → Reading
needs_script size (refused refusal) = refused refusal
needs_script size (accepted contents) =
    elim contents.script [ some script ↦ accepted contents | none ↦ refused (record { why = NoScript; at = size }) ]

unfoldable pub read_to_judge : List ℕ → Reading
read_to_judge file = needs_script (length file) (read_file file)

-- "Fields one after another: a one-byte tag, a two-byte length, the value."
unfoldable pub field_bytes : ℕ → List ℕ → List ℕ
field_bytes tag value = bytes_of 1 tag ++ (bytes_of 2 (length value) ++ value)

-- a field that may be absent
unfoldable pub if_there : {A : Type 0} → ℕ → (A → List ℕ) → Option A → List ℕ
if_there tag written none = []
if_there tag written (some a) = field_bytes tag (written a)

-- "The writer works from the contents"
unfoldable pub file_of : Contents → List ℕ
file_of c =
    joined (map (λ rule. field_bytes rule_tag (rule_bytes rule)) c.catalogue)
    ++ (field_bytes initial_tag (numbers_bytes c.initial)
    ++ (field_bytes target_tag (numbers_bytes c.target)
    ++ (if_there default_tag default_bytes (default_field c.default)
    ++ (if_there keep_tag numbers_bytes c.keep
    ++ if_there script_tag script_bytes c.script))))
