-- What a customer buys of the entries of console text, about the definitions of their answers: which number is answered when, and what the lent
-- place holds then. Each claim is a statement; proofs/AnswerClaims.antt has, for each, a proof of the same name in small letters with hyphens.
-- Assumes nothing.
use Rattle.std.specs.Prelude.{Result, ℕ, ◌<◌, ◌≡◌, ◌↔◌, List, [], ◌∷◌, length}
use Rattle.std.proofs.Math.Option.{Option, some}
use Rattle.policy.specs.declared.Command.{Command}
use Rattle.console.specs.declared.Maker.{Maker}
use Rattle.deployment.specs.Checked.{why_number, good, bad}
use Rattle.deployment.specs.Values.{Script, script_bytes}
use Rattle.deployment.specs.Contents.{Contents}
use Rattle.deployment.specs.File.{Reading, reading_numbers, read_file, read_to_judge, field_bytes, script_tag}
use Rattle.deployment.specs.FieldValues.{script_value, writing, written_numbers, TooSmall}
use Rattle.deployment.specs.Properties.{Scripted}
use Rattle.deployment.specs.declared.Why.{Why}
use Rattle.deployment.specs.declared.Refusal.{Refusal}
use Rattle.replay.specs.Answers.{commands_of}
use Rattle.console_text.specs.Text.{script_text}
use Rattle.console_text.specs.Reading.{understood, text_read, text_numbers}
use Rattle.console_text.specs.Answers.{text_of_value, text_of_reading, script_of_text}

-- Text of what a file contains, its own script or a plan: "When turned away, every lent place keeps its bytes" ..
abbrev pub TextKeepsPlace : Type 0
TextKeepsPlace =
    (m : Maker) (script : Contents → List Command) (reading : Reading) (place : List ℕ) (number at : ℕ)
    → written_numbers (text_of_reading m script reading place).answer ≡ number ∷ at ∷ [] → (text_of_reading m script reading place).place ≡ place

-- .. "13 last, at the bytes needed": exactly when the file is read and the place is smaller than the text ..
abbrev pub TextForRoom : Type 0
TextForRoom =
    (m : Maker) (script : Contents → List Command) (reading : Reading) (place : List ℕ) (at : ℕ) → ¬ (reading_numbers reading ≡ 13 ∷ at ∷ [])
    → (written_numbers (text_of_reading m script reading place).answer ≡ 13 ∷ at ∷ []) ↔ TooSmall (λ c. script_text m (script c)) reading place at

-- .. and every other number is the file's, however large the place is.
abbrev pub TextForReading : Type 0
TextForReading =
    (m : Maker) (script : Contents → List Command) (reading : Reading) (place : List ℕ) (number at : ℕ) → ¬ (number ≡ 13)
    → (written_numbers (text_of_reading m script reading place).answer ≡ number ∷ at ∷ []) ↔ (reading_numbers reading ≡ number ∷ at ∷ [])

-- Text of a script value: "(4, 11 at 0)" exactly as the value is turned away, and the place keeps its bytes.
abbrev pub ValueTextRefused : Type 0
ValueTextRefused =
    (m : Maker) (value place : List ℕ) (why : Why) → script_value (some value) ≡ bad why
    → (written_numbers (text_of_value m value place).answer ≡ why_number why ∷ 0 ∷ []) × ((text_of_value m value place).place ≡ place)

-- 13 exactly when the value is read and the place is smaller than the text, at the bytes needed.
abbrev pub ValueTextForRoom : Type 0
ValueTextForRoom =
    (m : Maker) (value place : List ℕ) (at : ℕ)
    → (written_numbers (text_of_value m value place).answer ≡ 13 ∷ at ∷ [])
    ↔ ((script : Option Script) × (script_value (some value) ≡ good script) × (length place < length (script_text m (commands_of script)))
    × (at ≡ length (script_text m (commands_of script))))

-- Text read: turned away, the place keeps its bytes ..
abbrev pub ScriptKeepsPlace : Type 0
ScriptKeepsPlace =
    (m : Maker) (type : ℕ) (s place : List ℕ) (number at : ℕ) → written_numbers (script_of_text m type s place).answer ≡ number ∷ at ∷ []
    → (script_of_text m type s place).place ≡ place

-- .. 13 exactly when the text is read and the place is smaller than the script field ..
abbrev pub ScriptForRoom : Type 0
ScriptForRoom =
    (m : Maker) (type : ℕ) (s place : List ℕ) (at : ℕ)
    → (written_numbers (script_of_text m type s place).answer ≡ 13 ∷ at ∷ [])
    ↔ ((commands : List Command) × (text_read m type s ≡ understood commands)
    × (length place < length (field_bytes script_tag (script_bytes (record { type = type; commands = commands }))))
    × (at ≡ length (field_bytes script_tag (script_bytes (record { type = type; commands = commands })))))

-- .. and every other number is the text's (`TextRefused`, `TypeRefused`), however large the place is.
abbrev pub ScriptForText : Type 0
ScriptForText =
    (m : Maker) (type : ℕ) (s place : List ℕ) (number at : ℕ) → ¬ (number ≡ 13)
    → (written_numbers (script_of_text m type s place).answer ≡ number ∷ at ∷ []) ↔ (text_numbers (text_read m type s) ≡ number ∷ at ∷ [])

-- "Commands written and read come back unchanged": from the text of a script that a file can hold, its script field comes back.
abbrev pub FieldComesBack : Type 0
FieldComesBack =
    (m : Maker) (script : Script) (place : List ℕ) → Scripted script
    → script_of_text m script.type (script_text m script.commands) place ≡ writing (field_bytes script_tag (script_bytes script)) place

-- All of this of an entry that writes the text of what is read: it keeps the place when it turns away, 13 stands for room alone, each other number for
-- what is read
pub record TextRefuses (m : Maker) (script : Contents → List Command) (reading : Reading) (answer : Result ℕ Refusal) (before after : List ℕ) : Type 0 where
  pub keeps : (number at : ℕ) → written_numbers answer ≡ number ∷ at ∷ [] → after ≡ before
  pub room : (at : ℕ) → (written_numbers answer ≡ 13 ∷ at ∷ []) ↔ TooSmall (λ c. script_text m (script c)) reading before at
  pub row : (number at : ℕ) → ¬ (number ≡ 13) → (written_numbers answer ≡ number ∷ at ∷ []) ↔ (reading_numbers reading ≡ number ∷ at ∷ [])

-- and of the entry that reads text
pub record ScriptRefuses (m : Maker) (type : ℕ) (s : List ℕ) (answer : Result ℕ Refusal) (before after : List ℕ) : Type 0 where
  pub keeps : (number at : ℕ) → written_numbers answer ≡ number ∷ at ∷ [] → after ≡ before
  pub row : (number at : ℕ) → ¬ (number ≡ 13) → (written_numbers answer ≡ number ∷ at ∷ []) ↔ (text_numbers (text_read m type s) ≡ number ∷ at ∷ [])
