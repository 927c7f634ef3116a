-- `show_text` itself, by its contract as the checker reads it: any two answers that it allows are equal, with every byte of the place; and a place
-- of 262,144 bytes is never too small. Assumes nothing.
use Prim.Native.Nat.{ℕ, ◌≤◌}
use native.Mathlib.Omega.{arith}
use mathlib.Core.Path.{◌≡◌}
use lib.ListN.{length}
use Rattle.std.specs.Prelude.{Result, Ok}
use Rattle.deployment.specs.declared.Refusal.{Refusal}
use Rattle.lines.specs.Printing.{IsFile}
use Rattle.lines.proofs.HandedOver.{same_answers, written_all}
use Rattle.showing.specs.Text.{show_printed}
use Rattle.showing.specs.Printing.{most_shown}
use Rattle.showing.proofs.Claims.{show_text_fits}
use Rattle.showing.proofs.show_text.Reads as show-text

pub one_show_text : (κ : _) (a : _) (r s : Result ℕ Refusal) (e f : _) → show-text.Post κ a r e → show-text.Post κ a s f
    → (r ≡ s) × (e.1.0.now ≡ f.1.0.now)
one_show_text κ a r s e f p q = same_answers p q

pub show_text_has_room : (κ : _) (a : _) (r : Result ℕ Refusal) (e : _) → show-text.Post κ a r e → IsFile a.0.now → most_shown ≤ length a.1.0.now
    → r ≡ Ok (length (show_printed a.0.now))
show_text_has_room κ a r e p file room = written_all (show_printed a.0.now) a.1.0.now p (omega (arith, show_text_fits a.0.now file))
