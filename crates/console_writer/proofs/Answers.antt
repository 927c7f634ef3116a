-- The entries that write console text, by their contracts as the checker reads them: any two answers that one allows are equal, with every byte of
-- the place; a place is kept where one turns away, and each number is answered exactly when its row holds. Assumes nothing.
use Prim.Native.Nat.{ℕ, ◌<◌}
use mathlib.Core.Path.{◌≡◌, ◌∙◌, ap}
use mathlib.Core.Logic.{◌↔◌}
use mathlib.Core.List.{[], ◌∷◌}
use mathlib.Core.Option.{Option, some}
use lib.ListN.{length}
use Rattle.deployment.specs.Checked.{why_number, good, bad}
use Rattle.deployment.specs.Values.{Script}
use Rattle.deployment.specs.File.{read_file, read_to_judge}
use Rattle.deployment.specs.FieldValues.{Writing, script_value, written_numbers}
use Rattle.deployment.specs.declared.Why.{Why}
use Rattle.std.specs.Prelude.{Result}
use Rattle.deployment.specs.declared.Refusal.{Refusal}
use Rattle.deployment.proofs.Reader.{never_room, never_room_to_judge}
use Rattle.replay.specs.Answers.{commands_of}
use Rattle.plans.specs.Plans.{made_one, made_two}
use Rattle.lines.proofs.HandedOver.{same_answers}
use Rattle.console_text.specs.Text.{script_text}
use Rattle.console_text.specs.Answers.{text_of_file, text_of_plan}
use Rattle.console_text.specs.AnswerClaims.{TextRefuses}
use Rattle.console_text.proofs.AnswerClaims.{value_text_refused, value_text_for_room, text_refuses}
use Rattle.console_writer.proofs.script_text.Reads as script-text
use Rattle.console_writer.proofs.files.script_text.Reads as file-text
use Rattle.console_writer.proofs.files.plan_one_text.Reads as plan-one-text
use Rattle.console_writer.proofs.files.plan_two_text.Reads as plan-two-text

pub one_script_text : (κ : _) (a : _) (r s : Result ℕ Refusal) (e f : _) → script-text.Post κ a r e → script-text.Post κ a s f
    → (r ≡ s) × (e.1.1.0.now ≡ f.1.1.0.now)
one_script_text κ a r s e f p q = same_answers p q

pub one_file_text : (κ : _) (a : _) (r s : Result ℕ Refusal) (e f : _) → file-text.Post κ a r e → file-text.Post κ a s f
    → (r ≡ s) × (e.1.1.0.now ≡ f.1.1.0.now)
one_file_text κ a r s e f p q = same_answers p q

pub one_plan_one_text : (κ : _) (a : _) (r s : Result ℕ Refusal) (e f : _) → plan-one-text.Post κ a r e → plan-one-text.Post κ a s f
    → (r ≡ s) × (e.1.1.0.now ≡ f.1.1.0.now)
one_plan_one_text κ a r s e f p q = same_answers p q

pub one_plan_two_text : (κ : _) (a : _) (r s : Result ℕ Refusal) (e f : _) → plan-two-text.Post κ a r e → plan-two-text.Post κ a s f
    → (r ≡ s) × (e.1.1.0.now ≡ f.1.1.0.now)
one_plan_two_text κ a r s e f p q = same_answers p q

-- Refusals: of a script value, and of what a file contains.
pub script_text_refuses : (κ : _) (a : _) (r : Result ℕ Refusal) (e : _) → script-text.Post κ a r e → (why : Why) → script_value (some a.0.now) ≡ bad why
    → (written_numbers r ≡ why_number why ∷ 0 ∷ []) × (e.1.1.0.now ≡ a.1.1.0.now)
script_text_refuses κ a r e p why is =
    let refused = value_text_refused a.1.0 a.0.now a.1.1.0.now why is in
    (ap (λ (w : Writing). written_numbers w.answer) p ∙ refused.0, ap (λ (w : Writing). w.place) p ∙ refused.1)

pub script_text_refuses_for_room : (κ : _) (a : _) (r : Result ℕ Refusal) (e : _) → script-text.Post κ a r e → (at : ℕ)
    → (written_numbers r ≡ 13 ∷ at ∷ [])
    ↔ ((script : Option Script) × (script_value (some a.0.now) ≡ good script)
    × (length a.1.1.0.now < length (script_text a.1.0 (commands_of script))) × (at ≡ length (script_text a.1.0 (commands_of script))))
script_text_refuses_for_room κ a r e p at =
    rw (ap (λ (w : Writing). w.answer) p) (value_text_for_room a.1.0 a.0.now a.1.1.0.now at)

pub file_text_refuses : (κ : _) (a : _) (r : Result ℕ Refusal) (e : _) → file-text.Post κ a r e
    → TextRefuses a.1.0 (λ c. commands_of c.script) (read_to_judge a.0.now) r a.1.1.0.now e.1.1.0.now
unfolding text_of_file
file_text_refuses κ a r e p =
    text_refuses a.1.0 (λ c. commands_of c.script) (read_to_judge a.0.now) (never_room_to_judge a.0.now) p

pub plan_one_text_refuses : (κ : _) (a : _) (r : Result ℕ Refusal) (e : _) → plan-one-text.Post κ a r e
    → TextRefuses a.1.0 (λ c. (made_one c).script.commands) (read_file a.0.now) r a.1.1.0.now e.1.1.0.now
unfolding text_of_plan
plan_one_text_refuses κ a r e p =
    text_refuses a.1.0 (λ c. (made_one c).script.commands) (read_file a.0.now) (never_room a.0.now) p

pub plan_two_text_refuses : (κ : _) (a : _) (r : Result ℕ Refusal) (e : _) → plan-two-text.Post κ a r e
    → TextRefuses a.1.0 (λ c. (made_two c).script.commands) (read_file a.0.now) r a.1.1.0.now e.1.1.0.now
unfolding text_of_plan
plan_two_text_refuses κ a r e p =
    text_refuses a.1.0 (λ c. (made_two c).script.commands) (read_file a.0.now) (never_room a.0.now) p
