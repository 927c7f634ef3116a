-- Any two answers that the writer allows are equal, with every byte of the place, by its contract as the checker reads it. Assumes nothing.
use mathlib.Core.Path.{◌≡◌}
use Rattle.std.specs.Prelude.{Result, ℕ}
use Rattle.deployment.specs.declared.Refusal.{Refusal}
use Rattle.deployment.proofs.Lent.{same_left}
use Rattle.writer.proofs.write_into.Reads as write-into

pub one_file_written : (κ : _) (a : _) (r s : Result ℕ Refusal) (e f : _) → write-into.Post κ a r e → write-into.Post κ a s f
    → (r ≡ s) × (e.1.0.now ≡ f.1.0.now)
one_file_written κ a r s e f p q = same_left p q
