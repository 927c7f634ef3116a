-- Each number is answered exactly when its row of the table holds: of the definitions, and of the entries themselves, by their contracts
-- as the checker reads them. The idea: an answer has the numbers of the reading that it shows. Assumes nothing.
use Prim.Native.Nat.{ℕ}
use native.Mathlib.Omega.{arith}
use mathlib.Core.Path.{◌≡◌, refl, sym, ap}
use mathlib.Core.Logic.{◌⊎◌, inl, inr, ⊎_elim, ◌↔◌}
use mathlib.Core.List.{[], ◌∷◌}
use lib.ListN.{length}
use Rattle.deployment.specs.Checked.{refusal_numbers}
use Rattle.deployment.specs.File.{Reading, accepted, refused, reading_numbers, read_file, needs_script, read_to_judge}
use Rattle.deployment.specs.Properties.{AreBytes, TurnedAway}
use Rattle.deployment.specs.declared.Refusal.{Refusal}
use Rattle.deployment.proofs.Numbers.{both_same, numbers_say}
use Rattle.deployment.proofs.Values.{by_option}
use Rattle.deployment.proofs.Reader.{refusals}
use Rattle.reader.specs.Answers.{file_read, file_numbers}
use Rattle.reader.specs.Claims.{FileNumbersSay, RefusedFile, Scriptless, RefusedToJudge}
use Rattle.std.specs.Prelude.{Result, Ok, Err}
use Rattle.reader.specs.declared.Layout.{Layout}
use Rattle.reader.proofs.ShownReadings.{shown_numbers}
use Rattle.reader.proofs.file.read.Reads as read
use Rattle.reader.proofs.file.read_to_judge.Reads as read-to-judge

pub file_numbers_say : FileNumbersSay
unfolding file_numbers
file_numbers_say = numbers_say file_numbers Err (λ r. refl) cases
  where
    cases : (answer : Result Layout Refusal) → (file_numbers answer ≡ []) ⊎ ((r : Refusal) × (answer ≡ Err r))
    cases (Ok layout) = inl refl
    cases (Err r) = inr (r, refl)

pub refused_file : RefusedFile
unfolding file_read
refused_file file number at b = rw (shown_numbers (read_file file)) (refusals file number at b)

-- 12 besides: where the file is turned away, so it is for the judge, and where it is accepted, its script decides
pub refused_to_judge : RefusedToJudge
unfolding read_to_judge needs_script reading_numbers refusal_numbers
refused_to_judge file number at b =
    rw (shown_numbers (read_to_judge file)) (λ e. go (read_file file) refl e, ⊎_elim (λ row. away (read_file file) ((refusals file number at b).1 row)) lacks)
  where
    go : (reading : Reading) → read_file file ≡ reading → reading_numbers (needs_script (length file) reading) ≡ number ∷ at ∷ []
        → TurnedAway file number at ⊎ ((number ≡ 12) × Scriptless file at)
    go (refused refusal) h e = inl ((refusals file number at b).0 (rw h e))
    go (accepted c) h e =
        by_option c.script
        (λ absent. let same = both_same (rw (absent, needs_script) at e) in inr (sym same.0, (c, h, absent, sym same.1)))
        (λ s there. absurd (omega (arith, ap length (rw (there, needs_script) at e))))

    away : (reading : Reading) → reading_numbers reading ≡ number ∷ at ∷ []
        → reading_numbers (needs_script (length file) reading) ≡ number ∷ at ∷ []
    away (refused refusal) e = e
    away (accepted c) e = absurd (omega (arith, ap length e))

    lacks : (number ≡ 12) × Scriptless file at → reading_numbers (needs_script (length file) (read_file file)) ≡ number ∷ at ∷ []
    lacks (twelve, (c, read, absent, there)) = rw (read, needs_script, absent, twelve, there)

-- The same of the entries: a row holds, so `read` answers its number and the field's position, and conversely.
pub read_answers_the_row : (κ : _) (a : _) (r : Result Layout Refusal) (e : _) → read.Post κ a r e → AreBytes a.0.now → (number at : ℕ)
    → (file_numbers r ≡ number ∷ at ∷ []) ↔ TurnedAway a.0.now number at
read_answers_the_row κ a r e p b number at = rw p (refused_file a.0.now number at b)

pub read_to_judge_answers_the_row : (κ : _) (a : _) (r : Result Layout Refusal) (e : _) → read-to-judge.Post κ a r e → AreBytes a.0.now
    → (number at : ℕ)
    → (file_numbers r ≡ number ∷ at ∷ []) ↔ (TurnedAway a.0.now number at ⊎ ((number ≡ 12) × Scriptless a.0.now at))
read_to_judge_answers_the_row κ a r e p b number at = rw p (refused_to_judge a.0.now number at b)
