-- Any two answers that a contract allows are equal; and an answer's numbers tell it. Assumes nothing.
use Prim.Native.Nat.{ℕ}
use native.Mathlib.Omega.{arith}
use mathlib.Core.Path.{◌≡◌, refl, sym, ◌∙◌, ap}
use mathlib.Core.List.{List}
use lib.ListN.{length, get_or}
use Rattle.deployment.proofs.Numbers.{why_numbers_differ}
use Rattle.catalogue.specs.Answers.{checking_numbers, CheckingNumbersDiffer}
use Rattle.std.specs.Prelude.{Result, Ok, Err}
use Rattle.deployment.specs.declared.Why.{Why}
use Rattle.catalogue.proofs.rule_checked.Reads as rule-checked
use Rattle.catalogue.proofs.catalogue_checked.Reads as catalogue-checked

pub checking_numbers_differ : CheckingNumbersDiffer
unfolding checking_numbers
checking_numbers_differ (Ok a) (Ok b) e = refl
checking_numbers_differ (Ok a) (Err why) e = absurd (omega (arith, ap length e))
checking_numbers_differ (Err why) (Ok a) e = absurd (omega (arith, ap length e))
checking_numbers_differ (Err why) (Err other) e = ap Err (why_numbers_differ why other (ap (λ (numbers : List ℕ). get_or numbers 0 0) e))

pub one_rule : (κ : _) (a : _) (r s : Result Unit Why) (e f : _) → rule-checked.Post κ a r e → rule-checked.Post κ a s f → r ≡ s
one_rule κ a r s e f p q = p ∙ sym q

pub one_catalogue : (κ : _) (a : _) (r s : Result Unit Why) (e f : _) → catalogue-checked.Post κ a r e → catalogue-checked.Post κ a s f
    → r ≡ s
one_catalogue κ a r s e f p q = p ∙ sym q
