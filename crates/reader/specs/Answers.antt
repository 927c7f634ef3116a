-- The reader's answers: where the values of an accepted file stand, or why it is turned away. Assumes nothing.
use Rattle.std.specs.Prelude.{Result, Ok, Err, Option as CodeOption, Some, None, ℕ, zero, suc, ◌+◌, ◌*◌, List, [], ◌++◌, length}
use Rattle.std.proofs.Math.Option.{Option, none, some}
use Rattle.deployment.specs.Checked.{refusal_numbers}
use Rattle.deployment.specs.Bytes.{part}
use Rattle.policy.specs.declared.Action.{Action}
use Rattle.deployment.specs.Values.{Script, rule_width, numbers_bytes, default_bytes, default_field, script_bytes}
use Rattle.deployment.specs.Contents.{Contents}
use Rattle.deployment.specs.FieldValues.{FieldValues}
use Rattle.deployment.specs.File.{Reading, accepted, refused, read_file, head_bytes}
use Rattle.reader.specs.declared.Span.{Span}
use Rattle.reader.specs.declared.Layout.{Layout}
use Rattle.deployment.specs.declared.Refusal.{Refusal}

-- "the part of the file that is its value"
unfoldable pub value_at : Span → List ℕ → List ℕ
value_at span file = part span.start span.size file

-- the value of a field that follows the given end, behind the field's head
unfoldable pub span_from : ℕ → List ℕ → Span
span_from end value = record { start = end + head_bytes; size = length value }

-- nowhere: a value that hasn't been read
unfoldable pub absent : Span
absent = record { start = 0; size = 0 }

unfoldable pub span_if : ℕ → Option (List ℕ) → Span
span_if end none = absent
span_if end (some value) = span_from end value

-- the place of a value that may be absent, and the value there
unfoldable pub span_given : ℕ → Option (List ℕ) → CodeOption Span
span_given end none = None
span_given end (some value) = Some (span_from end value)

unfoldable pub value_given : CodeOption Span → List ℕ → Option (List ℕ)
value_given None file = none
value_given (Some span) file = some (value_at span file)

unfoldable pub value_or_empty : CodeOption Span → List ℕ → List ℕ
value_or_empty None file = []
value_or_empty (Some span) file = value_at span file

unfoldable pub end_of : ℕ → Option (List ℕ) → ℕ
end_of end none = end
end_of end (some value) = end + (head_bytes + length value)

unfoldable pub keep_bytes : Option (List ℕ) → Option (List ℕ)
keep_bytes none = none
keep_bytes (some keep) = some (numbers_bytes keep)

unfoldable pub action_bytes : Option Action → Option (List ℕ)
action_bytes none = none
action_bytes (some action) = some (default_bytes action)

unfoldable pub command_bytes : Option Script → Option (List ℕ)
command_bytes none = none
command_bytes (some script) = some (script_bytes script)

-- Where the values stand: the rules from the start on, thirty bytes a field, then one field after another.
unfoldable pub layout_of : Contents → Layout
layout_of c =
    let rules_end = length c.catalogue * (head_bytes + rule_width) in
    let initial_end = end_of rules_end (some (numbers_bytes c.initial)) in
    let target_end = end_of initial_end (some (numbers_bytes c.target)) in
    let default_end = end_of target_end (action_bytes (default_field c.default)) in
    let keep_end = end_of default_end (keep_bytes c.keep) in
    record {
      rules = length c.catalogue;
      initial = span_from rules_end (numbers_bytes c.initial);
      target = span_from initial_end (numbers_bytes c.target);
      default = span_given target_end (action_bytes (default_field c.default));
      keep = span_given default_end (keep_bytes c.keep);
      script = span_given keep_end (command_bytes c.script);
    }

-- the value of the k-th rule's field, rules counted from 0
unfoldable pub rule_span : ℕ → Span
rule_span k = record { start = (head_bytes + rule_width) * k + head_bytes; size = rule_width }

-- what a caller gathers of a file to write it again: the values of the first rules put one after another, and the parts at the other places
unfoldable pub rules_gathered : ℕ → List ℕ → List ℕ
rules_gathered zero file = []
rules_gathered (suc k) file = rules_gathered k file ++ value_at (rule_span k) file

unfoldable pub values_gathered : Layout → List ℕ → FieldValues
values_gathered layout file =
    record {
      rules = rules_gathered layout.rules file;
      initial = value_at layout.initial file;
      target = value_at layout.target file;
      default = value_given layout.default file;
      keep = value_given layout.keep file;
      script = value_given layout.script file;
    }

-- a reading as the reader shows it: contents by the places of their values
unfoldable pub shown : Reading → Result Layout Refusal
shown (accepted c) = Ok (layout_of c)
shown (refused refusal) = Err refusal

-- the whole answer to a file
unfoldable pub file_read : List ℕ → Result Layout Refusal
file_read file = shown (read_file file)

-- the numbers of its refusal; none where it is accepted
unfoldable pub file_numbers : Result Layout Refusal → List ℕ
file_numbers (Ok layout) = []
file_numbers (Err refusal) = refusal_numbers refusal
