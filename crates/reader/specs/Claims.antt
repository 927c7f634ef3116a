-- What the reader's answers say: where the values of an accepted file stand, which files are accepted, and that each number is
-- answered exactly when its row of the table holds. proofs/FileAnswers.antt proves each, of the definitions and of the entries
-- themselves. Assumes nothing.
use Rattle.std.specs.Prelude.{Result, Ok, Err, Option as CodeOption, Some, None, ℕ, ◌+◌, ◌*◌, ◌≡◌, ◌⊎◌, ◌↔◌, List, [], ◌∷◌, ◌++◌, length, take}
use Rattle.std.proofs.Math.Option.{Option, none, some}
use Rattle.policy.specs.Rule.{Rule}
use Rattle.deployment.specs.Checked.{refusal_numbers}
use Rattle.deployment.specs.Values.{
  Script,
  rule_width,
  default_width,
  rule_bytes,
  numbers_of,
  numbers_bytes,
  default_bytes,
  default_field,
  script_of,
  script_bytes,
}
use Rattle.policy.specs.declared.Action.{Action}
use Rattle.deployment.specs.Catalogue.{catalogue_of}
use Rattle.deployment.specs.Contents.{Contents}
use Rattle.deployment.specs.File.{accepted, read_file, read_to_judge, file_of, head_bytes}
use Rattle.deployment.specs.Properties.{AreBytes, Valid, TurnedAway}
use Rattle.deployment.specs.Claims.{values_of}
use Rattle.deployment.specs.declared.Refusal.{Refusal}
use Rattle.reader.specs.Answers.{value_at, layout_of, rule_span, values_gathered, shown, file_read, file_numbers}
use Rattle.reader.specs.declared.Span.{Span}
use Rattle.reader.specs.declared.Layout.{Layout}

-- the part at a place is a list, in bytes and in numbers
pub record ListStands (file : List ℕ) (span : Span) (l : List ℕ) : Type 0 where
  pub bytes : value_at span file ≡ numbers_bytes l
  pub numbers : numbers_of (value_at span file) ≡ l
  pub size : span.size ≡ 2 * length l

-- the part at a place is a default
pub record DefaultStands (file : List ℕ) (span : Span) (action : Action) : Type 0 where
  pub bytes : value_at span file ≡ default_bytes action
  pub size : span.size ≡ default_width

-- the part at a place is a script
pub record ScriptStands (file : List ℕ) (span : Span) (s : Script) : Type 0 where
  pub bytes : value_at span file ≡ script_bytes s
  pub script : script_of (value_at span file) ≡ some s
  pub size : span.size ≡ 1 + 5 * length s.commands

-- a value stands at its place, or it is absent and has none
abbrev pub StandsIf : {A : Type 0} → (Span → A → Type 0) → CodeOption Span → Option A → Type 0
StandsIf StandsAt None none = Unit {0}
StandsIf StandsAt None (some a) = ⊥
StandsIf StandsAt (Some span) none = ⊥
StandsIf StandsAt (Some span) (some a) = StandsAt span a

-- contents stand in a file at these places; the rules in its first bytes, each behind the head of its field
pub record Stands (file : List ℕ) (layout : Layout) (c : Contents) : Type 0 where
  pub valid : Valid c
  pub written : file_of c ≡ file
  pub placed : layout_of c ≡ layout
  pub count : layout.rules ≡ length c.catalogue
  pub catalogue : catalogue_of head_bytes (take ((head_bytes + rule_width) * layout.rules) file) ≡ c.catalogue
  pub rule : (before : List Rule) (rule : Rule) (behind : List Rule) → c.catalogue ≡ before ++ (rule ∷ behind)
      → value_at (rule_span (length before)) file ≡ rule_bytes rule
  pub among : take layout.rules (catalogue_of head_bytes file) ≡ c.catalogue
  pub initial : ListStands file layout.initial c.initial
  pub target : ListStands file layout.target c.target
  pub default : StandsIf (DefaultStands file) layout.default (default_field c.default)
  pub keep : StandsIf (ListStands file) layout.keep c.keep
  pub script : StandsIf (ScriptStands file) layout.script c.script

-- "those of an accepted file, written, give that file", and where they stand in it
abbrev pub AcceptedFile : Type 0
AcceptedFile =
    (file : List ℕ) (layout : Layout) → AreBytes file → file_read file ≡ Ok layout
    → (c : Contents) × Stands file layout c

-- "what it writes reads back as the same contents"
abbrev pub WrittenFile : Type 0
WrittenFile = (c : Contents) → Valid c → file_read (file_of c) ≡ Ok (layout_of c)

-- The parts of an accepted file, gathered, are the field values of its contents.
abbrev pub GatheredFile : Type 0
GatheredFile =
    (file : List ℕ) (layout : Layout) → AreBytes file → file_read file ≡ Ok layout
    → (c : Contents) × (read_file file ≡ accepted c) × (values_gathered layout file ≡ values_of c)

-- The numbers of an answer tell its refusal.
abbrev pub FileNumbersSay : Type 0
FileNumbersSay = (answer : Result Layout Refusal) (refusal : Refusal) → (file_numbers answer ≡ refusal_numbers refusal) ↔ (answer ≡ Err refusal)

-- a file is turned away exactly as a row of the table says
abbrev pub RefusedFile : Type 0
RefusedFile =
    (file : List ℕ) (number at : ℕ) → AreBytes file
    → (file_numbers (file_read file) ≡ number ∷ at ∷ []) ↔ TurnedAway file number at

-- and where the judge is called, with 12 too: an accepted file without a script, at the file's length
abbrev pub Scriptless : List ℕ → ℕ → Type 0
Scriptless file at = (c : Contents) × (read_file file ≡ accepted c) × (c.script ≡ none) × (at ≡ length file)

abbrev pub RefusedToJudge : Type 0
RefusedToJudge =
    (file : List ℕ) (number at : ℕ) → AreBytes file
    → (file_numbers (shown (read_to_judge file)) ≡ number ∷ at ∷ []) ↔ (TurnedAway file number at ⊎ ((number ≡ 12) × Scriptless file at))
