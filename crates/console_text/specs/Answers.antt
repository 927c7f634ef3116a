-- The whole answer of each entry of console text, with every byte of the lent place. Assumes nothing.
use Rattle.std.specs.Prelude.{Err, ℕ, List}
use Rattle.std.proofs.Math.Option.{some}
use Rattle.policy.specs.declared.Command.{Command}
use Rattle.console.specs.declared.Maker.{Maker}
use Rattle.deployment.specs.Values.{script_bytes}
use Rattle.deployment.specs.Contents.{Contents}
use Rattle.deployment.specs.File.{Reading, field_bytes, script_tag, read_file, read_to_judge}
use Rattle.deployment.specs.FieldValues.{answered, answered_at_zero, script_value, left_alone, Writing, writing, unwritten}
use Rattle.replay.specs.Answers.{commands_of}
use Rattle.plans.specs.Plans.{Made}
use Rattle.console_text.specs.Text.{script_text}
use Rattle.console_text.specs.Reading.{Understood, understood, turned, text_read}

-- the text of a script; "13 last"
unfoldable pub text_left : Maker → List Command → List ℕ → Writing
text_left m commands place = writing (script_text m commands) place

-- of a script value: "(4, 11 at 0)"
unfoldable pub text_of_value : Maker → List ℕ → List ℕ → Writing
text_of_value m value place = answered_at_zero (λ script. text_left m (commands_of script) place) (left_alone Err place) (script_value (some value))

-- of the script of a file, and of a plan for a file's policies
unfoldable pub text_of_reading : Maker → (Contents → List Command) → Reading → List ℕ → Writing
text_of_reading m script reading place = answered (λ c. text_left m (script c) place) (left_alone Err place) reading

unfoldable pub text_of_file : Maker → List ℕ → List ℕ → Writing
text_of_file m file place = text_of_reading m (λ c. commands_of c.script) (read_to_judge file) place

unfoldable pub text_of_plan : Maker → (Contents → Made) → List ℕ → List ℕ → Writing
text_of_plan m planner file place = text_of_reading m (λ c. (planner c).script.commands) (read_file file) place

-- "the entry writes a script field into a lent place"
unfoldable pub script_left : ℕ → Understood → List ℕ → Writing
script_left type (understood commands) place = writing (field_bytes script_tag (script_bytes (record { type = type; commands = commands }))) place
script_left type (turned refusal) place = unwritten refusal place

unfoldable pub script_of_text : Maker → ℕ → List ℕ → List ℕ → Writing
script_of_text m type s place = script_left type (text_read m type s) place
