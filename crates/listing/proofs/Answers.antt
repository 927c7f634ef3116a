-- `plan_text` and `judge_text` themselves, by their contracts as the checker reads them: any two answers that one allows are equal, with every
-- byte of the place; and a place of 65,536 bytes is never too small. Assumes nothing.
use Prim.Native.Nat.{ℕ, ◌≤◌}
use native.Mathlib.Omega.{arith}
use mathlib.Core.Path.{◌≡◌}
use lib.ListN.{length}
use Rattle.std.specs.Prelude.{Result, Ok}
use Rattle.deployment.specs.declared.Refusal.{Refusal}
use Rattle.lines.specs.Printing.{IsFile}
use Rattle.lines.proofs.HandedOver.{same_answers, written_all}
use Rattle.listing.specs.Text.{plan_printed, judge_printed}
use Rattle.listing.specs.Printing.{most_text}
use Rattle.listing.proofs.Claims.{plan_text_fits, judge_text_fits}
use Rattle.listing.proofs.plan_text.Reads as plan-text
use Rattle.listing.proofs.judge_text.Reads as judge-text

pub one_plan_text : (κ : _) (a : _) (r s : Result ℕ Refusal) (e f : _) → plan-text.Post κ a r e → plan-text.Post κ a s f
    → (r ≡ s) × (e.1.0.now ≡ f.1.0.now)
one_plan_text κ a r s e f p q = same_answers p q

pub one_judge_text : (κ : _) (a : _) (r s : Result ℕ Refusal) (e f : _) → judge-text.Post κ a r e → judge-text.Post κ a s f
    → (r ≡ s) × (e.1.0.now ≡ f.1.0.now)
one_judge_text κ a r s e f p q = same_answers p q

pub plan_text_has_room : (κ : _) (a : _) (r : Result ℕ Refusal) (e : _) → plan-text.Post κ a r e → IsFile a.0.now → most_text ≤ length a.1.0.now
    → r ≡ Ok (length (plan_printed a.0.now))
plan_text_has_room κ a r e p file room = written_all (plan_printed a.0.now) a.1.0.now p (omega (arith, plan_text_fits a.0.now file))

pub judge_text_has_room : (κ : _) (a : _) (r : Result ℕ Refusal) (e : _) → judge-text.Post κ a r e → IsFile a.0.now → most_text ≤ length a.1.0.now
    → r ≡ Ok (length (judge_printed a.0.now))
judge_text_has_room κ a r e p file room = written_all (judge_printed a.0.now) a.1.0.now p (omega (arith, judge_text_fits a.0.now file))
