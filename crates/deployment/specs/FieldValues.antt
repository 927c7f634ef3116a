-- 01, "Turned away": entries that take lists take field values; what callers lend, and what is written there. Assumes nothing.
use Rattle.std.specs.Prelude.{ℕ, ◌+◌, ◌*◌, ◌/◌, ◌%◌, ◌<◌, ◌≡◌, Result, Ok, Err, Option as CodeOption, Some, None, Bool, true, false, cond, List, [], ◌∷◌, ◌++◌, length, drop, eqb, leb}
use Rattle.std.specs.Borrow.{Bor}
use Rattle.std.proofs.Math.Option.{Option, none, some}
use Rattle.std.proofs.lemmas.List.Edits.{sets}
use Rattle.policy.specs.Policy.{most_rules}
use Rattle.policy.specs.Rule.{Rule}
use Rattle.policy.specs.declared.Action.{Action}
use Rattle.policy.specs.declared.Action.TheVariants.{Deny}
use Rattle.deployment.specs.Checked.{Checked, good, bad, ◌>>=◌, ◌>>◌, require, refusal_numbers}
use Rattle.deployment.specs.Bytes.{chunks}
use Rattle.deployment.specs.Values.{Script, rule_width, default_width, list_fits, script_fits}
use Rattle.deployment.specs.Contents.{Contents, rule_read, policy_read, default_read, keep_read, script_read}
use Rattle.deployment.specs.File.{Reading, accepted, refused}
use Rattle.deployment.specs.declared.Why.{Why}
use Rattle.deployment.specs.declared.Why.TheVariants.{Length, TooMany, Room}
use Rattle.deployment.specs.declared.Refusal.{Refusal}

-- "Entries that take lists take field values, and are told whether a keep list is absent or empty"; and whether a default is (02, L1)
pub record FieldValues : Type 0 where
  pub rules : List ℕ
  pub initial : List ℕ
  pub target : List ℕ
  pub default : Option (List ℕ)
  pub keep : Option (List ℕ)
  pub script : Option (List ℕ)

-- a field value that may be absent, as code lends it
unfoldable pub lent : CodeOption (Bor (List ℕ)) → Option (List ℕ)
lent None = none
lent (Some value) = some value.now

-- "5 and 6 rule by rule"
unfoldable pub rules_read : List Rule → List (List ℕ) → Checked (List Rule)
rules_read catalogue [] = good catalogue
rules_read catalogue (value ∷ others) = do
  rule ← rule_read catalogue value
  rules_read (catalogue ++ (rule ∷ [])) others

-- "4 for rules not of 27 bytes each, 7, then 5 and 6"
unfoldable pub catalogue_value : List ℕ → Checked (List Rule)
catalogue_value value = do
  require (eqb (length value % rule_width) 0) Length
  require (leb (length value) (rule_width * most_rules)) TooMany
  rules_read [] (chunks rule_width (length value / rule_width) value)

-- "then 4, 8, 9 for the initial policy and again for the target"
unfoldable pub policy_value : ℕ → List ℕ → Checked (List ℕ)
policy_value size value = do
  require (list_fits (length value)) Length
  policy_read size value

-- 02, L1: "4 for another length, then 50 for a value other than 1 ..; among lists, after the target's"; "absence means deny"
unfoldable pub default_value : Option (List ℕ) → Checked Action
default_value none = good Deny
default_value (some value) = do
  require (eqb (length value) default_width) Length
  default_read value

-- "then 4, 10 for the keep list"
unfoldable pub keep_value : List ℕ → List ℕ → Option (List ℕ) → Checked (Option (List ℕ))
keep_value initial target none = good none
keep_value initial target (some value) = do
  require (list_fits (length value)) Length
  keep ← keep_read initial target value
  good (some keep)

-- "4, 11 for the script"
unfoldable pub script_value : Option (List ℕ) → Checked (Option Script)
script_value none = good none
script_value (some value) = do
  require (script_fits (length value)) Length
  script ← script_read value
  good (some script)

unfoldable pub values_read : FieldValues → Checked Contents
values_read v = do
  catalogue ← catalogue_value v.rules
  initial ← policy_value (length catalogue) v.initial
  target ← policy_value (length catalogue) v.target
  default ← default_value v.default
  keep ← keep_value initial target v.keep
  script ← script_value v.script
  good (record { catalogue = catalogue; initial = initial; target = target; default = default; keep = keep; script = script })

-- what an entry answers to what is read of a file or of field values: for the contents, or the refusal
abbrev pub answered : {A : Type 0} → (Contents → A) → (Refusal → A) → Reading → A
answered for turned (accepted contents) = for contents
answered for turned (refused refusal) = turned refusal

-- what an entry answers to values that are tested, "all at position 0"
abbrev pub answered_at_zero : {A B : Type 0} → (A → B) → (Refusal → B) → Checked A → B
answered_at_zero for turned (good a) = for a
answered_at_zero for turned (bad why) = turned (record { why = why; at = 0 })

unfoldable pub at_zero : Checked Contents → Reading
at_zero read = answered_at_zero accepted refused read

unfoldable pub read_values : FieldValues → Reading
read_values v = at_zero (values_read v)

-- an answer, and every byte of the lent place then
pub record Left (A : Type 0) : Type 0 where
  pub answer : A
  pub place : List ℕ

abbrev pub left_by : {A : Type 0} → A → List ℕ → Left A
left_by answer place = record { answer = answer; place = place }

-- "When turned away, every lent place keeps its bytes"
abbrev pub left_alone : {A : Type 0} → (Refusal → A) → List ℕ → Refusal → Left A
left_alone turned place refusal = left_by (turned refusal) place

-- "on success the output fills the first bytes and the rest keep theirs"
unfoldable pub filled : List ℕ → List ℕ → List ℕ
filled place output = output ++ drop (length output) place

-- "and last 13": "lent room smaller than what is to be written", at the bytes needed
abbrev pub sent : {A : Type 0} → (Refusal → A) → A → List ℕ → List ℕ → Left A
sent turned done output place =
    cond (leb (length output) (length place))
    (left_by done (filled place output))
    (left_alone turned place (record { why = Room; at = length output }))

-- bytes stored from a position on, and the position behind them
pub record Stored (before : List ℕ) (at : ℕ) (bytes after : List ℕ) (next : ℕ) : Type 0 where
  pub place : after ≡ sets before at bytes
  pub end : next ≡ at + length bytes

-- what an entry that writes and answers no more than how many bytes leaves
abbrev pub Writing : Type 0
Writing = Left (Result ℕ Refusal)

unfoldable pub unwritten : Refusal → List ℕ → Writing
unwritten refusal place = left_alone Err place refusal

unfoldable pub writing : List ℕ → List ℕ → Writing
writing output place = sent Err (Ok (length output)) output place

-- the numbers of a refusal to write; none where bytes were written
unfoldable pub written_numbers : Result ℕ Refusal → List ℕ
written_numbers (Ok count) = []
written_numbers (Err refusal) = refusal_numbers refusal

-- 13 is for room alone: contents are accepted, and the place is smaller than what is to be written for them
abbrev pub TooSmall : (Contents → List ℕ) → Reading → List ℕ → ℕ → Type 0
TooSmall output reading place at =
    (c : Contents) × (reading ≡ accepted c) × (length place < length (output c)) × (at ≡ length (output c))
