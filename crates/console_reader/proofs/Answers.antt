-- The entry that reads console text, by its contract as the checker reads it: any two answers that it allows are equal, with every byte of the place; the
-- place is kept where it turns away, each number is answered exactly when the text gives it, and the text of a script comes back as its field. Assumes
-- nothing.
use mathlib.Core.Path.{◌≡◌, ◌∙◌}
use Rattle.deployment.specs.Values.{Script, script_bytes}
use Rattle.deployment.specs.File.{field_bytes, script_tag}
use Rattle.deployment.specs.FieldValues.{left_by, writing}
use Rattle.deployment.specs.Properties.{Scripted}
use Rattle.std.specs.Prelude.{ℕ, Result}
use Rattle.deployment.specs.declared.Refusal.{Refusal}
use Rattle.deployment.proofs.Lent.{same_left}
use Rattle.console_text.specs.Text.{script_text}
use Rattle.console_text.specs.AnswerClaims.{ScriptRefuses}
use Rattle.console_text.proofs.AnswerClaims.{field_comes_back, script_refuses}
use Rattle.console_reader.proofs.text_script.Reads as text-script

pub one_script_of_text : (κ : _) (a : _) (r s : Result ℕ Refusal) (e f : _) → text-script.Post κ a r e → text-script.Post κ a s f
    → (r ≡ s) × (e.1.1.1.0.now ≡ f.1.1.1.0.now)
one_script_of_text κ a r s e f p q = same_left p q

pub text_script_refuses : (κ : _) (a : _) (r : Result ℕ Refusal) (e : _) → text-script.Post κ a r e
    → ScriptRefuses a.1.1.0 a.1.0 a.0.now r a.1.1.1.0.now e.1.1.1.0.now
text_script_refuses κ a r e p = script_refuses a.1.1.0 a.1.0 a.0.now p

pub a_script_comes_back : (κ : _) (a : _) (r : Result ℕ Refusal) (e : _) → text-script.Post κ a r e → (script : Script) → Scripted script → a.1.0 ≡ script.type
    → a.0.now ≡ script_text a.1.1.0 script.commands
    → left_by r e.1.1.1.0.now ≡ writing (field_bytes script_tag (script_bytes script)) a.1.1.1.0.now
a_script_comes_back κ a r e p script right typed said =
    p ∙ rw (said, typed) (field_comes_back a.1.1.0 script a.1.1.1.0.now right)
