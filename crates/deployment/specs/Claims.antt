-- What a customer buys of the file: demand 1's refusals and demand 2's round trip, about the definitions. Each claim is a statement;
-- proofs/ has, for each, a proof of the same name in small letters with hyphens. Assumes nothing.
use Rattle.std.specs.Prelude.{Result, Err, ℕ, ◌≤◌, ◌<◌, ◌≡◌, ◌↔◌, ◌⊎◌, length, take}
use mathlib.Core.List.{List, [], ◌∷◌, map, Memᴰ}
use Rattle.std.proofs.Math.Option.{Option, none, some}
use Rattle.policy.specs.Properties.{StandsAt}
use Rattle.policy.specs.declared.Decision.{Decision}
use Rattle.policy.specs.declared.Flow.{Flow}
use Rattle.deployment.specs.Checked.{why_number, refusal_numbers}
use Rattle.deployment.specs.Bytes.{joined}
use Rattle.deployment.specs.Values.{Script, rule_bytes, numbers_bytes, default_bytes, default_field, script_bytes}
use Rattle.deployment.specs.Contents.{Contents}
use Rattle.deployment.specs.File.{tags_after, Reading, accepted, refused, reading_numbers, read_file, read_to_judge, file_of}
use Rattle.deployment.specs.FieldValues.{FieldValues, read_values, written_numbers}
use Rattle.deployment.specs.Flows.{flow_of, flow_bytes, decision_of, decision_bytes}
use Rattle.deployment.specs.Properties.{AreBytes, Numbered, IfThere, Valid, TurnedAway, ValuesFail}
use Rattle.deployment.specs.declared.Why.{Why}
use Rattle.deployment.specs.declared.Refusal.{Refusal}

-- "a definition states this paper's number and values for each of its cases": the numbers tell the cases apart
abbrev pub WhyNumbersDiffer : Type 0
WhyNumbersDiffer = (v w : Why) → why_number v ≡ why_number w → v ≡ w

abbrev pub RefusalNumbersDiffer : Type 0
RefusalNumbersDiffer = (r s : Refusal) → refusal_numbers r ≡ refusal_numbers s → r ≡ s

-- and an answer has those of a refusal exactly when it is that refusal: what is read, and what is written
abbrev pub ReadingNumbersSay : Type 0
ReadingNumbersSay = (reading : Reading) (refusal : Refusal) → (reading_numbers reading ≡ refusal_numbers refusal) ↔ (reading ≡ refused refusal)

abbrev pub WrittenNumbersSay : Type 0
WrittenNumbersSay = (answer : Result ℕ Refusal) (refusal : Refusal) → (written_numbers answer ≡ refusal_numbers refusal) ↔ (answer ≡ Err refusal)

-- the order of the tags: those of document 01 "in rising order", and 06 "between tags 03 and 04" (02, L1)
abbrev pub order : List ℕ
order = 1 ∷ 2 ∷ 3 ∷ 6 ∷ 4 ∷ 5 ∷ []

-- "Times": the table of the tags that can stand next, by order alone. A tag can stand after the last one exactly when both are tags, it comes
-- later in the order, or both are those of rules, and neither policy is passed over.
pub record Rises (last tag : ℕ) : Type 0 where
  pub from : ℕ
  pub to : ℕ
  pub stood : StandsAt order from last
  pub stands : StandsAt order to tag
  pub rises : (from < to) ⊎ ((from ≡ 1) × (to ≡ 1))
  pub initial : (to ≤ 2) ⊎ (2 ≤ from)
  pub target : (to ≤ 3) ⊎ (3 ≤ from)

abbrev pub TagsRise : Type 0
TagsRise = (last tag : ℕ) → Memᴰ tag (tags_after last) ↔ Rises last tag

-- "those of an accepted file, written, give that file": and what is accepted is valid
abbrev pub WrittenAgain : Type 0
WrittenAgain = (file : List ℕ) (c : Contents) → AreBytes file → read_file file ≡ accepted c → Valid c × (file_of c ≡ file)

-- "what it writes reads back as the same contents"
abbrev pub ReadBack : Type 0
ReadBack = (c : Contents) → Valid c → AreBytes (file_of c) × (read_file (file_of c) ≡ accepted c)

-- Refusals 1 to 11 and 50: each number exactly at the position and under the condition of the table, the earlier test winning.
abbrev pub Refused : Type 0
Refused =
    (file : List ℕ) (number at : ℕ) → AreBytes file
    → (reading_numbers (read_file file) ≡ number ∷ at ∷ []) ↔ TurnedAway file number at

-- Refusal 12: the judge is called, and an accepted file has no script; at the file's length.
abbrev pub RefusedWithoutScript : Type 0
RefusedWithoutScript =
    (file : List ℕ) (at : ℕ)
    → (reading_numbers (read_to_judge file) ≡ 12 ∷ at ∷ [])
    ↔ ((c : Contents) × (read_file file ≡ accepted c) × (c.script ≡ none) × (at ≡ length file))

-- Field values: each number exactly under its condition, "all at position 0", the earlier test winning.
abbrev pub RefusedValues : Type 0
RefusedValues = (v : FieldValues) (number at : ℕ) → (reading_numbers (read_values v) ≡ number ∷ at ∷ []) ↔ (ValuesFail v number × (at ≡ 0))

-- Field values that are accepted are those of valid contents, and the contents of a file are accepted as field values too.
unfoldable pub values_of : Contents → FieldValues
values_of c =
    record {
      rules = joined (map rule_bytes c.catalogue);
      initial = numbers_bytes c.initial;
      target = numbers_bytes c.target;
      default = elim (default_field c.default) [ none ↦ none | some default ↦ some (default_bytes default) ];
      keep = elim c.keep [ none ↦ none | some keep ↦ some (numbers_bytes keep) ];
      script = elim c.script [ none ↦ none | some script ↦ some (script_bytes script) ];
    }

-- field values are bytes
pub record AreValues (v : FieldValues) : Type 0 where
  pub rules : AreBytes v.rules
  pub initial : AreBytes v.initial
  pub target : AreBytes v.target
  pub default : IfThere AreBytes v.default
  pub keep : IfThere AreBytes v.keep
  pub script : IfThere AreBytes v.script

abbrev pub ValuesWrittenAgain : Type 0
ValuesWrittenAgain = (v : FieldValues) (c : Contents) → AreValues v → read_values v ≡ accepted c → Valid c × (values_of c ≡ v)

abbrev pub ValuesReadBack : Type 0
ValuesReadBack = (c : Contents) → Valid c → read_values (values_of c) ≡ accepted c

-- Numbers. An accepted file never exceeds 44,049 bytes.
abbrev pub AcceptedFileFits : Type 0
AcceptedFileFits = (file : List ℕ) (c : Contents) → AreBytes file → read_file file ≡ accepted c → length file ≤ 44049

-- The first 65,536 bytes decide: a longer file is read as they are, and turned away with the same number at the same position.
abbrev pub deciding : ℕ
deciding = 65536

abbrev pub LongFile : Type 0
LongFile = (file : List ℕ) → AreBytes file → read_file file ≡ read_file (take deciding file)

abbrev pub LongFileToJudge : Type 0
LongFileToJudge = (file : List ℕ) → AreBytes file → read_to_judge file ≡ read_to_judge (take deciding file)

-- A flow reads back from its thirteen bytes.
abbrev pub FlowReadsBack : Type 0
FlowReadsBack = (flow : Flow) → Numbered flow → flow_of (flow_bytes flow) ≡ flow

-- A decision reads back from its three bytes: a place has two, more than a policy can need.
abbrev pub DecisionReadsBack : Type 0
DecisionReadsBack = (d : Decision) → d.place < 65536 → decision_of (decision_bytes d) ≡ d
